-- The index of the rows that are built, with room for so many rows at most: behind their words stand two links for each row, and behind the links
-- four heads for each. A link or a head names a row by its number and 1; 0 names none. The rows under one head are a tree: behind a row that is not the one
-- looked for, the next bit of the key says which of its links goes on.
use Rattle.std.specs.Prelude.{ℕ, suc, ◌+◌, ◌*◌, ◌/◌, ◌%◌, ◌≤◌, ◌<◌, ◌≡◌, List, length, get_or, set}
use Rattle.task.specs.Bounded.{upto}
use Rattle.task.specs.Table.{Row, row_at}
use Rattle.normal_form.specs.Builder.{start}

-- The key of a row: its three words in one number. Keys and heads change no answer, only how many rows are compared.
unfoldable pub key_of : Row → ℕ
key_of r = (r.kind % 8 * 4096 + r.b) * 4096 + r.a

-- The head of a key: Knuth's multiplicative hash, by 2^32 over the golden ratio, and of its 32 bits the part that is below the heads' number.
unfoldable pub head_of : (most key : ℕ) → ℕ
head_of most key = key * 2654435769 % 4294967296 * (4 * most) / 4294967296

-- the word of a row's head, and that of the link of row i that the lowest of these bits says
abbrev pub head_word : (most : ℕ) → Row → ℕ
head_word most r = 5 * most + head_of most (key_of r)

abbrev pub link_word : (most i bits : ℕ) → ℕ
link_word most i bits = 3 * most + 2 * i + bits % 2

-- The walk from word w, with these bits left of a key, comes to word p.
pub data Leads (most : ℕ) (t : List ℕ) (p : ℕ) : ℕ → ℕ → Type 0 where
  here : (w bits : ℕ) → w ≡ p → Leads most t p w bits
  onward : (w bits i : ℕ) → get_or t w 0 ≡ suc i → Leads most t p (link_word most i bits) (bits / 2) → Leads most t p w bits

-- It comes to a word that names row i.
pub record Comes (most : ℕ) (t : List ℕ) (w bits i : ℕ) : Type 0 where
  pub word : ℕ
  pub leads : Leads most t word w bits
  pub names : get_or t word 0 ≡ suc i

-- From its head, with its key, it comes to row i.
abbrev pub Reached : (most : ℕ) → List ℕ → ℕ → Type 0
Reached most t i = Comes most t (head_word most (row_at t i)) (key_of (row_at t i)) i

-- The words of the index name none but the first n rows, and a link names a later row than its own.
pub record Trees (most n : ℕ) (t : List ℕ) : Type 0 where
  pub within : (w i : ℕ) → 3 * most ≤ w → get_or t w 0 ≡ suc i → i < n
  pub later : (i b j : ℕ) → i < most → b < 2 → get_or t (3 * most + 2 * i + b) 0 ≡ suc j → i < j

-- Each of the first n rows is reached, and no two of them are the same.
pub record Indexed (most n : ℕ) (t : List ℕ) : Type 0 where
  pub trees : Trees most n t
  pub reached : (i : ℕ) → i < n → Reached most t i
  pub apart : (i j : ℕ) → i < j → j < n → row_at t i ≡ row_at t j → ⊥

-- There is room for the rows and the index, and walks end.
pub record Searchable (most : ℕ) (t : List ℕ) : Type 0 where
  pub some : 0 < most
  pub limit : most ≤ 4096
  pub room : 9 * most ≤ length t
  pub trees : Trees most most t

-- The walk for r ends at word p: it names a row that is r, or none; then no row that is reached is r.
pub record Found (most : ℕ) (t : List ℕ) (r : Row) (p : ℕ) : Type 0 where
  pub low : 3 * most ≤ p
  pub high : p < 9 * most
  pub leads : Leads most t p (head_word most r) (key_of r)
  pub stands : (i : ℕ) → get_or t p 0 ≡ suc i → row_at t i ≡ r
  pub missing : get_or t p 0 ≡ 0 → (i : ℕ) → Reached most t i → row_at t i ≡ r → ⊥

-- row r stored behind n rows
abbrev pub three : List ℕ → ℕ → Row → List ℕ
three t n r = set (set (set t (3 * n) r.kind) (3 * n + 1) r.a) (3 * n + 2) r.b

-- row r stored behind n rows, and named by word p
abbrev pub appended : List ℕ → ℕ → Row → ℕ → List ℕ
appended t n r p = set (three t n r) p (n + 1)

-- A table that nothing stands in, with room for two rows at least.
pub record Empty (most : ℕ) (t : List ℕ) : Type 0 where
  pub two : 2 ≤ most
  pub limit : most ≤ 4096
  pub room : 9 * most ≤ length t
  pub blank : (j : ℕ) → get_or t j 0 ≡ 0

-- False and true stand in it, and are found; behind the index nothing stands. Which words of the index name them is left open.
pub record FirstTwo (most : ℕ) (before t : List ℕ) : Type 0 where
  pub long : length t ≡ length before
  pub rows : upto 2 (row_at t) ≡ start.rows
  pub index : Indexed most 2 t
  pub past : (j : ℕ) → 9 * most ≤ j → get_or t j 0 ≡ 0
