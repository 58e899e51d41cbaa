-- Laws of the enumeration: it has every list of numbers below o up to a length, none that is longer, and stands in 02's order: the shorter first, then
-- by numbers. Assumes nothing.
use Prim.Native.Nat.{ℕ, zero, suc, ◌≤◌, ◌<◌}
use native.Mathlib.Omega.{arith}
use native.Mathlib.Nat.{not-suc-le-zero}
use native.Mathlib.Decide.{dec_lt}
use mathlib.Core.Path.{◌≡◌, refl, sym, ap, ◌∙◌}
use mathlib.Core.Logic.{◌⊎◌, inl, inr}
use mathlib.Core.List.{List, [], ◌∷◌, ◌++◌, map}
use mathlib.Core.List.Memᴰ.{head as here}
use mathlib.Core.List.Memᴰ.{tail as there}
use mathlib.Core.List.{Memᴰ as Among}
use mathlib.Core.List.Memᴰ.{append_cases as among_cases}
use mathlib.Core.List.Memᴰ.{eq_of_singleton as among_one}
use mathlib.Core.List.Memᴰ.{not-nil as none-among}
use mathlib.Core.List.Memᴰ.{append_left as among-left}
use mathlib.Core.List.Memᴰ.{append_right as among-right}
use mathlib.Core.List.Memᴰ.{map as among-map}
use mathlib.Core.List.Memᴰ.{of_map}
use lib.ListN.{length}
use Rattle.cheapest_plan.specs.Cheapest.{behind, lists_of, lists_upto}
use Rattle.cheapest_plan.specs.Order.{FirstByNumbers, differ, agree}
use Rattle.cheapest_plan.specs.Inner.Leads.{Below, nothing, number}

-- every list of numbers below o stands in it
behind_has :
    {a : ℕ} {rest : List ℕ} (o : ℕ) {rests : List (List ℕ)} → a < o → Among rest rests → Among (a ∷ rest) (behind o rests)
unfolding behind
behind_has zero below m = absurd (not-suc-le-zero below)
behind_has {a} {rest} (suc o) {rests} below m = go (dec_lt a o) (λ l. behind_has o l m)
  where
    go :
        Dec (a < o)
        → (a < o → Among (a ∷ rest) (behind o rests))
        → Among (a ∷ rest) (behind o rests ++ map (λ (l : List ℕ). o ∷ l) rests)
    go (yes l) had = among-left (map (λ (l : List ℕ). o ∷ l) rests) (had l)
    go (no l) had =
        let same : a ≡ o = omega arith in
        rw same (among-right (behind o rests) (among-map (λ (l : List ℕ). o ∷ l) m))

lists_have : {o : ℕ} {p : List ℕ} → Below o p → Among p (lists_of o (length p))
unfolding lists_of
lists_have nothing = here refl
lists_have {o} (number below rest) = behind_has o below (lists_have rest)

pub upto_has : {o : ℕ} {p : List ℕ} (n : ℕ) → Below o p → length p ≤ n → Among p (lists_upto o n)
unfolding lists_upto
upto_has {o} {p} zero b short =
    let size : length p ≡ zero = omega arith in
    rw size at (lists_have b)
upto_has {o} {p} (suc n) b short = go (dec_lt n (length p)) (λ l. upto_has n b l)
  where
    go :
        Dec (n < length p)
        → (length p ≤ n → Among p (lists_upto o n))
        → Among p (lists_upto o n ++ lists_of o (suc n))
    go (yes l) had =
        let size : length p ≡ suc n = omega arith in
        among-right (lists_upto o n) (rw size at (lists_have b))
    go (no l) had = among-left (lists_of o (suc n)) (had (omega arith))

-- a list that stands behind a number below o
record Front (o : ℕ) (rests : List (List ℕ)) (p : List ℕ) : Type 0 where
  first : ℕ
  rest : List ℕ
  below : first < o
  among : Among rest rests
  is : first ∷ rest ≡ p

front : (o : ℕ) {rests : List (List ℕ)} {p : List ℕ} → Among p (behind o rests) → Front o rests p
unfolding behind
front zero m = absurd (none-among m)
front (suc o) {rests} {p} m = go (among_cases (behind o rests) m) (λ l. front o l)
  where
    go :
        Among p (behind o rests) ⊎ Among p (map (λ (l : List ℕ). o ∷ l) rests)
        → (Among p (behind o rests) → Front o rests p)
        → Front (suc o) rests p
    go (inl l) lower =
        let f = lower l in
        let less = f.below in
        record { first = f.first; rest = f.rest; below = omega arith; among = f.among; is = f.is }
    go (inr l) lower =
        let f = of_map (λ (l : List ℕ). o ∷ l) rests l in
        record { first = o; rest = f.0; below = omega arith; among = f.1; is = f.2 }

pub lists_length : (o n : ℕ) {p : List ℕ} → Among p (lists_of o n) → length p ≡ n
unfolding lists_of
lists_length o zero m = ap length (among_one m)
lists_length o (suc n) m =
    let f = front o m in
    ap length (sym f.is) ∙ ap suc (lists_length o n f.among)

pub upto_length : (o n : ℕ) {p : List ℕ} → Among p (lists_upto o n) → length p ≤ n
unfolding lists_upto
upto_length o zero m = omega (arith, lists_length o zero m)
upto_length o (suc n) {p} m = go (among_cases (lists_upto o n) m) (λ l. upto_length o n l)
  where
    go :
        Among p (lists_upto o n) ⊎ Among p (lists_of o (suc n))
        → (Among p (lists_upto o n) → length p ≤ n)
        → length p ≤ suc n
    go (inl l) lower = omega (arith, lower l)
    go (inr l) lower = omega (arith, lists_length o (suc n) l)

-- it stands in order: each list before all that follow it
pub data Earlier (p q : List ℕ) : Type 0 where
  fewer : length p < length q → Earlier p q
  first : FirstByNumbers p q → Earlier p q

pub data Ordered : List (List ℕ) → Type 0 where
  ends : Ordered []
  then : {p : List ℕ} {rest : List (List ℕ)} → ((q : List ℕ) → Among q rest → Earlier p q) → Ordered rest → Ordered (p ∷ rest)

ordered_append :
    {l m : List (List ℕ)}
    → Ordered l
    → Ordered m
    → ((p q : List ℕ) → Among p l → Among q m → Earlier p q)
    → Ordered (l ++ m)
ordered_append ends y across = y
ordered_append {m = m} (then {p = p} {rest = rest} each x) y across =
    then (λ q k. go q (among_cases rest k)) (ordered_append x y (λ a b i j. across a b (there i) j))
  where
    go : (q : List ℕ) → Among q rest ⊎ Among q m → Earlier p q
    go q (inl i) = each q i
    go q (inr j) = across p q (here refl) j

earlier_behind : (a : ℕ) {p q : List ℕ} → Earlier p q → Earlier (a ∷ p) (a ∷ q)
earlier_behind a (fewer l) = fewer (omega arith)
earlier_behind a (first f) = first (agree refl f)

ordered_map : (a : ℕ) {rests : List (List ℕ)} → Ordered rests → Ordered (map (λ (l : List ℕ). a ∷ l) rests)
ordered_map a ends = ends
ordered_map a (then {p = p} {rest = rest} each x) =
    then before (ordered_map a x)
  where
    before : (q : List ℕ) → Among q (map (λ (l : List ℕ). a ∷ l) rest) → Earlier (a ∷ p) q
    before q k =
        let f = of_map (λ (l : List ℕ). a ∷ l) rest k in
        rw (← f.2) (earlier_behind a (each f.0 f.1))

ordered_behind :
    (o : ℕ) {rests : List (List ℕ)}
    → Ordered rests
    → ((p q : List ℕ) → Among p rests → Among q rests → length p ≡ length q)
    → Ordered (behind o rests)
unfolding behind
ordered_behind zero x same = ends
ordered_behind (suc o) {rests} x same = ordered_append (ordered_behind o x same) (ordered_map o x) across
  where
    across : (p q : List ℕ) → Among p (behind o rests) → Among q (map (λ (l : List ℕ). o ∷ l) rests) → Earlier p q
    across p q i j =
        let f = front o i in
        let g = of_map (λ (l : List ℕ). o ∷ l) rests j in
        rw (← f.is, ← g.2) (first (differ f.below (same f.rest g.0 f.among g.1)))

ordered_lists : (o n : ℕ) → Ordered (lists_of o n)
unfolding lists_of
ordered_lists o zero = then (λ q k. absurd (none-among k)) ends
ordered_lists o (suc n) =
    ordered_behind o (ordered_lists o n) (λ p q i j. lists_length o n i ∙ sym (lists_length o n j))

pub ordered_upto : (o n : ℕ) → Ordered (lists_upto o n)
unfolding lists_upto
ordered_upto o zero = ordered_lists o zero
ordered_upto o (suc n) =
    ordered_append (ordered_upto o n) (ordered_lists o (suc n))
    (λ p q i j. fewer (omega (arith, upto_length o n i, lists_length o (suc n) j)))
