-- Building the new formula table (01, "Building the compiled task"): a state of rows and twins, and steps that answer a value and the state after.
use Rattle.std.specs.Prelude.{ℕ, zero, suc, ◌+◌, Bool, cond, ◌&&◌, List, [], ◌∷◌, ◌++◌, eqb}
use Rattle.task.specs.Table.{Row}

-- What stands so far: the formula rows, and the originals of the twins in the order in which the twins were met.
pub record St : Type 0 where
  pub rows : List Row
  pub twins : List ℕ

-- What a step answers (most often a row's number) and the state after it.
pub record Got (A : Type 0) : Type 0 where
  pub value : A
  pub st : St

abbrev pub Build : Type 0 → Type 0
Build A = St → Got A

-- the value alone, nothing built
unfoldable pub give : {A : Type 0} → A → Build A
give x s = record { value = x; st = s }

-- m, then what f makes of its value
unfoldable pub bind : {A B : Type 0} → Build A → (A → Build B) → Build B
bind m f s =
    let g = m s in
    f g.value g.st

-- f 0, f 1 .. f (n - 1), in this order
unfoldable pub each : {A : Type 0} → ℕ → (ℕ → Build A) → Build (List A)
each zero f = give []
each (suc n) f = bind (each n f) (λ l. bind (f n) (λ x. give (l ++ (x ∷ []))))

-- Find or append: where the first that is the same as x stands, the end if there is none; and the list that then has it.
-- Always appending would give "v0 and v0" two rows for v0.
unfoldable pub place : {A : Type 0} → (A → A → Bool) → A → List A → ℕ
place same x [] = 0
place same x (y ∷ ys) = cond (same y x) 0 (suc (place same x ys))

unfoldable pub including : {A : Type 0} → (A → A → Bool) → A → List A → List A
including same x [] = x ∷ []
including same x (y ∷ ys) = cond (same y x) (y ∷ ys) (y ∷ including same x ys)

-- All three words: "0 and 1" is not "0 or 1", and "2 and 3" is not "3 and 2".
unfoldable pub same_row : Row → Row → Bool
same_row r t = eqb r.kind t.kind && (eqb r.a t.a && eqb r.b t.b)

-- a row of the table: the one that stands, or appended
unfoldable pub row : Row → Build ℕ
row r s =
    record {
      value = place same_row r s.rows;
      st = record { rows = including same_row r s.rows; twins = s.twins };
    }

-- the place of v's twin among the twins: the next when first met
unfoldable pub twin : ℕ → Build ℕ
twin v s =
    record { value = place eqb v s.twins; st = record { rows = s.rows; twins = including eqb v s.twins } }

unfoldable pub variable_row : ℕ → Build ℕ
variable_row v = row (record { kind = 2; a = v; b = 0 })

-- over n source variables: the twin of place k is variable n + k. Numbered n + v, v1's twin alone would be variable n + 1 of n + 1 variables.
unfoldable pub twin_row : ℕ → ℕ → Build ℕ
twin_row n v = bind (twin v) (λ k. variable_row (n + k))

-- the start: row 0 false, row 1 true, no twins
unfoldable pub start : St
start = record { rows = record { kind = 0; a = 0; b = 0 } ∷ record { kind = 1; a = 0; b = 0 } ∷ []; twins = [] }

-- Each rule below is stated once: negated, "and" is "or", false is true, and an image is the negated image (De Morgan).
pub data Polarity : Type 0 where
  plain negated : Polarity

abbrev pub opposite : Polarity → Polarity
opposite plain = negated
opposite negated = plain

-- the row of the image of false, and of true: the negated image of false is true, row 1
abbrev pub image_of_false : Polarity → ℕ
image_of_false plain = 0
image_of_false negated = 1

abbrev pub image_of_true : Polarity → ℕ
image_of_true plain = 1
image_of_true negated = 0

-- "and"; negated, "or"
abbrev pub join_kind : Polarity → ℕ
join_kind plain = 4
join_kind negated = 5

-- How a join of rows a and b comes out, whatever the state: absorbed by one of them ("and" by false, "or" by true), a alone, b alone, or a row of its
-- own.
pub data Choice : Type 0 where
  absorbed only_left only_right own_row : Choice

-- false and f, f and false give false; true and f, f and true give f; dually for or. Nothing else folds: "v and v" is a row.
-- Were "true and f" folded to true, it would hold in states where f does not.
unfoldable pub choice : Polarity → ℕ → ℕ → Choice
choice p a b =
    cond (eqb a (image_of_false p)) absorbed
    (cond (eqb b (image_of_false p)) absorbed (cond (eqb a (image_of_true p)) only_right (cond (eqb b (image_of_true p)) only_left own_row)))

unfoldable pub join_as : Polarity → Choice → ℕ → ℕ → Build ℕ
join_as p absorbed a b = give (image_of_false p)
join_as p only_left a b = give a
join_as p only_right a b = give b
join_as p own_row a b = row (record { kind = join_kind p; a = a; b = b })

-- a and b; negated, a or b
unfoldable pub join : Polarity → ℕ → ℕ → Build ℕ
join p a b = join_as p (choice p a b) a b

-- A joined pair is built left, right, then the join. Both sides are built even if the left one folds the join away:
-- "false and not v0" answers row 0, and v0 has its twin.
unfoldable pub pair : Polarity → Build ℕ → Build ℕ → Build ℕ
pair p l r = bind l (λ a. bind r (λ b. join p a b))
