-- Bytes put one after the other. Assumes nothing.
use Prim.Native.Nat.{ℕ, suc, ◌+◌, ◌-◌, ◌*◌, ◌/◌, ◌%◌, ◌^◌, ◌<◌, ◌≤◌}
use native.Mathlib.Nat.{add-zero, add-suc, suc-add}
use native.Mathlib.Numerals.{add-one}
use native.Mathlib.Omega.{arith}
use mathlib.Core.Path.{◌≡◌, refl, sym, ap, ◌∙◌}
use mathlib.Core.Bool.{Bool, true, false, cond, not}
use mathlib.Core.List.{List, [], ◌∷◌, ◌++◌, append-nil}
use lib.ListN.{length, get_or, set, take, drop, length-append, length-drop, drop_of_length-le}
use lib.Dec.{eqb}
use mir.Val.{bool_byte}
use lib.Pow.{pow_mono}
use lib.Seq.{sets, length-sets, length-take-le, drop-cons}
use Rattle.std.proofs.lemmas.List.{take_more}
use Rattle.std.specs.Int.{w16, to_le_bytes}
use Rattle.file_format.specs.Bytes.{word_bytes, field_bytes, present, fields_bytes, map_of}
use Rattle.file_format.proofs.Fields.{fields_append, fields_length, map_lt}
use Rattle.task_writer.specs.Inner.Putting.{Put}

sets_append : (l : List ℕ) (i : ℕ) (xs ys : List ℕ) → sets l i (xs ++ ys) ≡ sets (sets l i xs) (i + length xs) ys
sets_append l i [] ys = ap (λ (k : ℕ). sets l k ys) (sym (add-zero i))
sets_append l i (x ∷ xs) ys =
    sets_append (set l i x) (suc i) xs ys
    ∙ ap (λ (k : ℕ). sets (sets (set l i x) (suc i) xs) k ys) (suc-add i (length xs) ∙ sym (add-suc i (length xs)))

pub put_none : (at : ℕ) (out : List ℕ) → Put [] at at out out
put_none at out = record { wrote = refl; next = sym (add-zero at) }

-- one thing behind the other
pub put_then :
    {xs ys : List ℕ} {at r s : ℕ} {o o1 o2 : List ℕ}
    → Put xs at r o o1
    → Put ys r s o1 o2
    → Put (xs ++ ys) at s o o2
put_then {xs} {ys} {at} {r} {s} {o} {o1} {o2} p q =
    record {
      wrote = q.wrote ∙ ap (λ (k : ℕ). sets o1 k ys) p.next ∙ ap (λ (l : List ℕ). sets l (at + length xs) ys) p.wrote ∙ sym (sets_append o at xs ys);
      next = omega (arith, q.next, p.next, length-append xs ys);
    }

pub put_same : {xs ys : List ℕ} {at r : ℕ} {o o1 : List ℕ} → xs ≡ ys → Put xs at r o o1 → Put ys at r o o1
put_same e p = rw (← e) p

pub put_size : {xs : List ℕ} {at r : ℕ} {o o1 : List ℕ} → Put xs at r o o1 → length o1 ≡ length o
put_size {xs} {at} {r} {o} {o1} p = ap length p.wrote ∙ length-sets o at xs

-- something behind what is there, as one
pub put_more : {xs ys zs : List ℕ} {at r s : ℕ} {o o1 o2 : List ℕ} → xs ++ ys ≡ zs → Put xs at r o o1 → Put ys r s o1 o2 → Put zs at s o o2
put_more e p q = put_same e (put_then p q)

pub byte_more : (bytes : List ℕ) (i : ℕ) → i < length bytes → take i bytes ++ (get_or bytes i 0 ∷ []) ≡ take (i + 1) bytes
byte_more bytes i h = sym (take_more bytes i 0 h)

-- the library's two bytes of a word
pub le_word : (w : ℕ) → w < 65536 → to_le_bytes w16 w ≡ word_bytes w
unfolding word_bytes
le_word w h =
    let low : w % 256 ≡ w % 256 = refl in
    let high : w / 256 % 256 ≡ w / 256 = omega arith in
    ap (λ (x : ℕ). w % 256 ∷ (x ∷ [])) high

-- one field more
pub fields_more :
    (ds ws : List ℕ) (k : ℕ)
    → k < length ds
    → k < length ws
    → fields_bytes (take k ds) (take k ws) ++ field_bytes (get_or ds k 0) (get_or ws k 0)
    ≡ fields_bytes (take (k + 1) ds) (take (k + 1) ws)
unfolding fields_bytes
fields_more ds ws k h l =
    let same : length (take k ws) ≡ length (take k ds) = omega (arith, length-take-le k ws (omega arith), length-take-le k ds (omega arith)) in
    sym
    (rw (take_more ds k 0 h, take_more ws k 0 l)
    (fields_append (take k ds) (get_or ds k 0 ∷ []) (take k ws) (get_or ws k 0 ∷ []) same
    ∙ ap (λ (x : List ℕ). fields_bytes (take k ds) (take k ws) ++ x) (append-nil (field_bytes (get_or ds k 0) (get_or ws k 0)))))

pub fields_reach : (ds ws : List ℕ) (k : ℕ) → k ≤ length ds → length (fields_bytes (take k ds) (take k ws)) ≤ 2 * k
fields_reach ds ws k h = omega (arith, fields_length (take k ds) (take k ws), length-take-le k ds h)

-- whether a field is there, as the code has it
pub bit_is : (d w : ℕ) → bool_byte (not (eqb w d)) ≡ present d w
unfolding present
bit_is d w = go (eqb w d)
  where
    go : (b : Bool) → bool_byte (not b) ≡ cond b 0 1
    go true = refl
    go false = refl

-- a map, from the last field to the first
pub map_none : (ds ws : List ℕ) (n : ℕ) → length ds ≤ n → 0 ≡ map_of (drop n ds) (drop n ws)
unfolding map_of
map_none ds ws n h = rw (drop_of_length-le ds h)

map_more :
    (ds ws : List ℕ) (i : ℕ)
    → i < length ds
    → i < length ws
    → 2 * map_of (drop (i + 1) ds) (drop (i + 1) ws) + present (get_or ds i 0) (get_or ws i 0) ≡ map_of (drop i ds) (drop i ws)
unfolding map_of
map_more ds ws i h l =
    rw (add-one, drop-cons ds i 0 h, drop-cons ws i 0 l)
    (omega arith)

-- the field that a walk from the end comes to, with i fields to go
pub map_turn :
    (ds ws : List ℕ) (i x : ℕ)
    → 0 < i
    → i ≤ length ds
    → i ≤ length ws
    → x ≡ map_of (drop i ds) (drop i ws)
    → 2 * x + present (get_or ds (i - 1) 0) (get_or ws (i - 1) 0) ≡ map_of (drop (i - 1) ds) (drop (i - 1) ws)
map_turn ds ws i x some h l e =
    let back : i - 1 + 1 ≡ i = omega arith in
    ap (λ (y : ℕ). 2 * y + present (get_or ds (i - 1) 0) (get_or ws (i - 1) 0)) e
    ∙ (rw back at (map_more ds ws (i - 1) (omega arith) (omega arith)))

pub map_fits : (ds ws : List ℕ) (n : ℕ) → length ds ≤ 6 → map_of (drop n ds) (drop n ws) < 64
map_fits ds ws n h =
    let few : length (drop n ds) ≤ 6 = omega (arith, length-drop n ds) in
    let most : 2 ^ length (drop n ds) ≤ 2 ^ 6 = pow_mono few in
    omega (arith, map_lt (drop n ds) (drop n ws))
