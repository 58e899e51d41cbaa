-- The texts of lines, as the code puts them together. Assumes nothing.
use Prim.Native.Nat.{ℕ, zero, suc, ◌+◌, ◌-◌, ◌≤◌, ◌<◌}
use native.Mathlib.Nat.{add-zero}
use native.Mathlib.Numerals.{add-one}
use native.Mathlib.Omega.{arith}
use mathlib.Core.Path.{◌≡◌, refl, sym, ap, ap₂, ◌∙◌, subst}
use mathlib.Core.Logic.{◌⊎◌, inl, inr}
use mathlib.Core.List.{List, [], ◌∷◌, ◌++◌, map, append-nil, append_assoc}
use lib.ListN.{length, get_or, take}
use lib.Seq.{take-suc, take-length}
use Rattle.std.proofs.lemmas.List.{take_all}
use Rattle.task.specs.declared.Head.{Head}
use Rattle.task.specs.Bounded.{upto}
use Rattle.task.specs.Table.{Lent, row_at, operator_at, task_of}
use Rattle.task.specs.Rules.{LongEnough}
use Rattle.task.specs.Words.{joined, row_words, operator_row_words}
use Rattle.task.proofs.Bounded.{length_upto}
use Rattle.task.proofs.Words.{joined_append}
use Rattle.task.proofs.Held.{length_initial, length_originals, length_formulas, length_effects, length_operators}
use Rattle.task.specs.declared.Table.TheVariants.{Formulas, Effects, Operators}
use Rattle.task.specs.declared.Table.{Table}
use Rattle.task.specs.declared.TableRow.{TableRow}
use Rattle.task.specs.Inner.Tables.{words_at, listed}
use Rattle.printing.specs.Lines.{newline, blank, digit, word, line, numbered, values, initial_line, head_line, twin_lines, lines}
use Rattle.printing.specs.Inner.Put.{Put, counts_of, listed_at, original_at, front_text, tables_text}
use Rattle.printing.proofs.Puts.{nothing_put, then_put, put_as}

-- A line, number by number.
pub words_more :
    (letter : ℕ) (ns : List ℕ) (i : ℕ)
    → i < length ns
    → (letter ∷ joined word (take i ns)) ++ word (get_or ns i 0) ≡ letter ∷ joined word (take (i + 1) ns)
unfolding joined
words_more letter ns i h =
    ap (λ (x : List ℕ). letter ∷ x)
    (sym
    (ap (λ (n : ℕ). joined word (take n ns)) (add-one i)
    ∙ ap (joined word) (take-suc ns i 0 h)
    ∙ joined_append word (take i ns) (get_or ns i 0 ∷ [])
    ∙ ap (λ (x : List ℕ). joined word (take i ns) ++ x) (append-nil (word (get_or ns i 0)))))

pub line_all :
    (letter : ℕ) (ns : List ℕ) (i : ℕ)
    → length ns ≤ i
    → (letter ∷ joined word (take i ns)) ++ (newline ∷ []) ≡ line letter ns
unfolding line
line_all letter ns i h =
    ap (λ (x : List ℕ). letter ∷ (joined word x ++ (newline ∷ []))) (take_all i ns h)

-- The initial values.
map_append : {A B : Type 0} (g : A → B) (xs ys : List A) → map g (xs ++ ys) ≡ map g xs ++ map g ys
map_append g [] ys = refl
map_append {A} {B} g (x ∷ xs) ys = ap {B = List B} (λ r. g x ∷ r) (map_append g xs ys)

pub digits_more :
    (l : List ℕ) (v : ℕ)
    → v < length l
    → (blank ∷ map digit (take v l)) ++ (digit (get_or l v 0) ∷ []) ≡ blank ∷ map digit (take (v + 1) l)
digits_more l v h =
    ap (λ (x : List ℕ). blank ∷ x)
    (sym
    (ap (λ (n : ℕ). map digit (take n l)) (add-one v)
    ∙ ap (map digit) (take-suc l v 0 h)
    ∙ map_append digit (take v l) (get_or l v 0 ∷ [])))

pub values_none : (l : List ℕ) → length l ≡ 0 → values l ≡ []
unfolding values
values_none [] e = refl
values_none (b ∷ l) e = absurd (omega (arith, e))

pub values_some : (l : List ℕ) (n : ℕ) → (length l ≡ 0 → ⊥) → length l ≤ n → blank ∷ map digit (take n l) ≡ values l
unfolding values
values_some [] n e h = absurd (e refl)
values_some (b ∷ l) n e h = ap (λ (x : List ℕ). blank ∷ map digit x) (take_all n (b ∷ l) h)

pub state_text : (l : List ℕ) → ((105 ∷ []) ++ values l) ++ (newline ∷ []) ≡ initial_line l
unfolding initial_line
state_text l = refl

-- Lines of numbered rows.
numbered_append :
    (letter first : ℕ) (xs ys : List (List ℕ))
    → numbered letter first (xs ++ ys) ≡ numbered letter first xs ++ numbered letter (first + length xs) ys
unfolding numbered
numbered_append letter first [] ys = ap (λ (n : ℕ). numbered letter n ys) (sym (add-zero first))
numbered_append letter first (x ∷ xs) ys =
    let e : suc first + length xs ≡ first + suc (length xs) = omega arith in
    ap (λ (r : List ℕ). line letter (first ∷ x) ++ r)
    (numbered_append letter (suc first) xs ys ∙ ap (λ (n : ℕ). numbered letter (suc first) xs ++ numbered letter n ys) e)
    ∙ sym (append_assoc (line letter (first ∷ x)) (numbered letter (suc first) xs) (numbered letter (first + suc (length xs)) ys))

numbered_more :
    (letter first i : ℕ) (f : ℕ → List ℕ)
    → numbered letter first (upto i f) ++ line letter ((first + i) ∷ f i) ≡ numbered letter first (upto (i + 1) f)
unfolding numbered upto
numbered_more letter first i f =
    sym
    (ap (λ (n : ℕ). numbered letter first (upto n f)) (add-one i)
    ∙ numbered_append letter first (upto i f) (f i ∷ [])
    ∙ ap (λ (n : ℕ). numbered letter first (upto i f) ++ (line letter ((first + n) ∷ f i) ++ [])) (length_upto i f)
    ∙ ap (λ (r : List ℕ). numbered letter first (upto i f) ++ r) (append-nil (line letter ((first + i) ∷ f i))))

-- a loop over rows: none yet, and one more
pub rows_none : (letter first : ℕ) (f : ℕ → List ℕ) (l : List ℕ) (at : ℕ) → Put l at (numbered letter first (upto 0 f)) 0 l at
unfolding numbered upto
rows_none letter first f l at = nothing_put l at

pub rows_more :
    (letter first n i : ℕ) (f : ℕ → List ℕ) {before mid after : List ℕ} {at next last m k more : ℕ}
    → Put before at (numbered letter first (upto i f)) m mid next
    → Put mid next (line letter (n ∷ f i)) k after last
    → n ≡ first + i
    → m + k ≤ more
    → Put before at (numbered letter first (upto (i + 1) f)) more after last
rows_more letter first n i f p q e h =
    put_as (then_put p q)
    (ap (λ (j : ℕ). numbered letter first (upto i f) ++ line letter (j ∷ f i)) e ∙ numbered_more letter first i f) h

-- the line of a row, by its words: three, or an operator's four
module _
    (letter i : ℕ) (table : Table) (words : List ℕ) {r : TableRow} {before after : List ℕ} {at most last : ℕ}
  where
    row_put :
        r ≡ words_at table words i
        → Put before at (line letter (i ∷ listed table r)) most after last
        → Put before at (line letter (i ∷ listed_at table words i)) most after last
    row_put e p = subst (λ (r : TableRow). Put before at (line letter (i ∷ listed table r)) most after last) e p

    pub three_put :
        (table ≡ Formulas) ⊎ (table ≡ Effects)
        → r ≡ words_at table words i
        → Put before at (line letter (i ∷ (r.first ∷ (r.second ∷ (r.third ∷ []))))) most after last
        → Put before at (line letter (i ∷ listed_at table words i)) most after last
    three_put (inl t) e p = row_put e (rw t p)
    three_put (inr t) e p = row_put e (rw t p)

    pub four_put :
        table ≡ Operators
        → r ≡ words_at table words i
        → Put before at (line letter (i ∷ (r.first ∷ (r.second ∷ (r.third ∷ (r.fourth ∷ [])))))) most after last
        → Put before at (line letter (i ∷ listed_at table words i)) most after last
    four_put t e p = row_put e (rw t p)

-- The lines of lent tables are those of the task that they hold.
map_upto : {A B : Type 0} (g : A → B) (f : ℕ → A) (n : ℕ) → map g (upto n f) ≡ upto n (λ i. g (f i))
unfolding upto
map_upto g f zero = refl
map_upto {A} {B} g f (suc n) =
    map_append g (upto n f) (f n ∷ []) ∙ ap (λ (r : List B). r ++ (g (f n) ∷ [])) (map_upto g f n)

map_take : {B : Type 0} (g : ℕ → B) (l : List ℕ) (n : ℕ) → n ≤ length l → map g (take n l) ≡ upto n (λ k. g (get_or l k 0))
unfolding upto
map_take g l zero h = refl
map_take {B} g l (suc n) h =
    ap (map g) (take-suc l n 0 h)
    ∙ map_append g (take n l) (get_or l n 0 ∷ [])
    ∙ ap (λ (r : List B). r ++ (g (get_or l n 0) ∷ [])) (map_take g l n (omega arith))

formulas_text :
    (letter : ℕ) (words : List ℕ) (n : ℕ)
    → numbered letter 0 (upto n (listed_at Formulas words)) ≡ numbered letter 0 (map row_words (upto n (row_at words)))
unfolding row_words
formulas_text letter words n = ap (numbered letter 0) (sym (map_upto row_words (row_at words) n))

operators_text :
    (letter : ℕ) (words : List ℕ) (n : ℕ)
    → numbered letter 0 (upto n (listed_at Operators words))
    ≡ numbered letter 0 (map operator_row_words (upto n (operator_at words)))
unfolding operator_row_words
operators_text letter words n = ap (numbered letter 0) (sym (map_upto operator_row_words (operator_at words) n))

twins_front : (twins : List ℕ) (n : ℕ) → n ≤ length twins → upto (length (take n twins)) (original_at (take n twins)) ≡ upto n (original_at twins)
twins_front twins n h =
    let g : ℕ → List ℕ = λ o. o ∷ [] in
    sym (map_take g (take n twins) (length (take n twins)) (omega arith))
    ∙ ap (map g) (take-length (take n twins))
    ∙ map_take g twins n h

pub front_joined :
    (h : Head) (initial twins : List ℕ)
    → h.twins ≤ length twins
    → (line 116 (counts_of h) ++ initial_line (take h.variables initial))
    ++ numbered 119 (h.variables - h.twins) (upto (length (take h.twins twins)) (original_at (take h.twins twins)))
    ≡ front_text h initial twins
unfolding front_text
front_joined h initial twins long =
    ap (λ (rows : List (List ℕ)). (line 116 (counts_of h) ++ initial_line (take h.variables initial)) ++ numbered 119 (h.variables - h.twins) rows)
    (twins_front twins h.twins long)
    ∙ append_assoc (line 116 (counts_of h)) (initial_line (take h.variables initial))
    (numbered 119 (h.variables - h.twins) (upto h.twins (original_at twins)))

pub tables_joined :
    (h : Head) (formulas effects operators : List ℕ)
    → (numbered 102 0 (upto h.formulas (listed_at Formulas formulas)) ++ numbered 101 0 (upto h.effects (listed_at Effects effects)))
    ++ numbered 111 0 (upto h.operators (listed_at Operators operators))
    ≡ tables_text h formulas effects operators
unfolding tables_text
tables_joined h formulas effects operators =
    append_assoc (numbered 102 0 (upto h.formulas (listed_at Formulas formulas)))
    (numbered 101 0 (upto h.effects (listed_at Effects effects)))
    (numbered 111 0 (upto h.operators (listed_at Operators operators)))

module _ (l : Lent) (long : LongEnough l) where
  head_held : line 116 (counts_of l.head) ≡ head_line (task_of l)
  unfolding head_line task_of
  head_held =
      let e : head_line (task_of l) ≡ line 116 (counts_of l.head) =
      λ j.
      line 116
      (length_initial l long j
      ∷ length_originals l long j
      ∷ length_formulas l j
      ∷ length_effects l j
      ∷ length_operators l j
      ∷ l.head.goal
      ∷ [])
      in
      sym e

  twins_held :
      numbered 119 (l.head.variables - l.head.twins) (upto l.head.twins (original_at l.twins)) ≡ twin_lines (task_of l)
  unfolding twin_lines task_of
  twins_held =
      ap₂ (λ (n : ℕ) (rows : List (List ℕ)). numbered 119 n rows)
      (sym (ap₂ ◌-◌ (length_initial l long) (length_originals l long)))
      (sym (map_take (λ (o : ℕ). o ∷ []) l.twins l.head.twins long.twins))

  parts_held :
      line 116 (counts_of l.head)
      ++ (initial_line (take l.head.variables l.initial)
      ++ (numbered 119 (l.head.variables - l.head.twins) (upto l.head.twins (original_at l.twins))
      ++ tables_text l.head l.formulas l.effects l.operators))
      ≡ lines (task_of l)
  unfolding lines tables_text task_of
  parts_held =
      λ j.
      head_held j
      ++ (initial_line (take l.head.variables l.initial)
      ++ (twins_held j
      ++ (formulas_text 102 l.formulas l.head.formulas j
      ++ (formulas_text 101 l.effects l.head.effects j ++ operators_text 111 l.operators l.head.operators j))))

  pub lines_of_lent :
      front_text l.head l.initial l.twins ++ tables_text l.head l.formulas l.effects l.operators
      ≡ lines (task_of l)
  unfolding front_text
  lines_of_lent =
      let first = line 116 (counts_of l.head) in
      let second = initial_line (take l.head.variables l.initial) in
      let third = numbered 119 (l.head.variables - l.head.twins) (upto l.head.twins (original_at l.twins)) in
      let rest = tables_text l.head l.formulas l.effects l.operators in
      append_assoc first (second ++ third) rest
      ∙ ap (λ (r : List ℕ). first ++ r) (append_assoc second third rest)
      ∙ parts_held
