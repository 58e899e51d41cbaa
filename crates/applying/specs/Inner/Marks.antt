-- What the passes over scratch leave: the values of the formulas stand from 0 on, the marks of the effects behind them, from `at` on.
-- Only the contracts of inner functions cite this file.
use Rattle.std.specs.Prelude.{ℕ, zero, suc, ◌+◌, ◌*◌, ◌≤◌, ◌<◌, ◌≡◌, Bool, true, false, cond, not, ◌&&◌, ◌↔◌, ◌⊎◌, List, length, get_or, set, drop, eqb}
use Rattle.task.specs.Table.{row_at, both_kind, under_kind, effect_kind}
use Rattle.task.specs.Rules.{EffectRule}

-- byte i of scratch is not 0: formula i holds; and, for i = at + k, effect row k is marked
unfoldable pub on : List ℕ → ℕ → Bool
on scratch i = not (eqb (get_or scratch i 0) 0)

abbrev pub marked : (scratch : List ℕ) (at k : ℕ) → Bool
marked scratch at k = on scratch (at + k)

-- row k is marked and of this kind
unfoldable pub acts : (words : List ℕ) (kind : ℕ) (scratch : List ℕ) (at k : ℕ) → Bool
acts words kind scratch at k = marked scratch at k && eqb (row_at words k).kind kind

-- the value goes to each variable that one of the rows 0 .. n - 1 names that acts
unfoldable pub changed : (words : List ℕ) (kind value : ℕ) (scratch : List ℕ) (at n : ℕ) → List ℕ → List ℕ
changed words kind value scratch at zero s = s
changed words kind value scratch at (suc n) s =
    let t = changed words kind value scratch at n s in
    cond (acts words kind scratch at n) (set t (row_at words n).a value) t

-- what a pass over n rows asks: the rows and their marks are there, and a row that acts names a variable below v
pub record Changeable (words : List ℕ) (kind : ℕ) (scratch : List ℕ) (at n v : ℕ) : Type 0 where
  pub rows : 3 * n ≤ length words
  pub marks : at + n ≤ length scratch
  pub named : (k : ℕ) → k < n → acts words kind scratch at k ≡ true → (row_at words k).a < v

-- row k hands on to row j: "both" to its two effects, "under" to its effect if the formula holds
pub data HandsTo (words : List ℕ) (holding : ℕ → Bool) (k : ℕ) : ℕ → Type 0 where
  to_left : effect_kind (row_at words k).kind ≡ both_kind → HandsTo words holding k (row_at words k).a
  to_right : effect_kind (row_at words k).kind ≡ both_kind → HandsTo words holding k (row_at words k).b
  to_inner :
      effect_kind (row_at words k).kind ≡ under_kind
      → holding (row_at words k).a ≡ true
      → HandsTo words holding k (row_at words k).b

-- the rows that act when the root is carried out
pub data Reached (words : List ℕ) (holding : ℕ → Bool) (root : ℕ) : ℕ → Type 0 where
  at_root : Reached words holding root root
  handed : (k j : ℕ) → Reached words holding root k → HandsTo words holding k j → Reached words holding root j

-- what marking from row `root` down asks: v variables, the rows and their marks are there, and the rows keep their rule
pub record Markable (words : List ℕ) (v at root : ℕ) (scratch : List ℕ) : Type 0 where
  pub rows : 3 * root + 3 ≤ length words
  pub marks : at + root < length scratch
  pub rule :
      (k : ℕ)
      → k ≤ root
      → EffectRule v at k (effect_kind (row_at words k).kind) (row_at words k).a (row_at words k).b

-- what it leaves, every byte of it: the values as they were; of the rows up to the root, 1 for those that act and 0 for the others; behind them
-- what stood there
pub record Marked (words : List ℕ) (at root : ℕ) (before after : List ℕ) : Type 0 where
  pub same : length after ≡ length before
  pub values : (i : ℕ) → i < at → get_or after i 0 ≡ get_or before i 0
  pub acting : (k : ℕ) → k ≤ root → marked after at k ≡ true ↔ Reached words (on before) root k
  pub bits : (k : ℕ) → k ≤ root → get_or after (at + k) 0 ≤ 1
  pub behind : drop (at + root + 1) after ≡ drop (at + root + 1) before

-- what handing on from row k leaves: marks are added for the rows that it hands on to
pub record HandedOn (words : List ℕ) (at k : ℕ) (before after : List ℕ) : Type 0 where
  pub same : length after ≡ length before
  pub values : (i : ℕ) → i < at → get_or after i 0 ≡ get_or before i 0
  pub more : (j : ℕ) → marked before at j ≡ true → marked after at j ≡ true
  pub hands : (j : ℕ) → HandsTo words (on before) k j → marked after at j ≡ true
  pub new : (j : ℕ) → marked after at j ≡ true → (marked before at j ≡ true) ⊎ HandsTo words (on before) k j
  pub bits : (j : ℕ) → get_or before (at + j) 0 ≤ 1 → get_or after (at + j) 0 ≤ 1
  pub behind : (j : ℕ) → k ≤ j → get_or after (at + j) 0 ≡ get_or before (at + j) 0

-- the first mark: only the root, among the rows up to it
pub record Begun (at root : ℕ) (before after : List ℕ) : Type 0 where
  pub same : length after ≡ length before
  pub values : (i : ℕ) → i < at → get_or after i 0 ≡ get_or before i 0
  pub root_marked : marked after at root ≡ true
  pub only : (k : ℕ) → k < root → marked after at k ≡ false
  pub bits : (k : ℕ) → k ≤ root → get_or after (at + k) 0 ≤ 1
  pub behind : (k : ℕ) → root < k → get_or after (at + k) 0 ≡ get_or before (at + k) 0
