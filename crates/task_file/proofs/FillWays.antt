-- The words of every table are those of the task that is read. Assumes nothing.
use Prim.Native.Nat.{ℕ, ◌-◌}
use mathlib.Core.Path.{◌≡◌, refl}
use mathlib.Core.List.{List}
use Rattle.task.specs.declared.Head.{Head}
use Rattle.task.specs.Table.{Row, Operator, Task}
use Rattle.task.specs.Words.{words_of, operator_words}
use Rattle.file_format.specs.Parse.{Parsed, parsed, unparsed, next, table_read}
use Rattle.file_format.specs.Reading.{initial_read, twin_read, formula_read, effect_read, operator_read, tables_read}
use Rattle.task_file.specs.Inner.Filling.{rows_behind, AllTables, all_behind, all_words}

module _ (W : List ℕ → Parsed (List ℕ)) (F E : List ℕ → Parsed (List Row)) (O : List ℕ → Parsed (List Operator)) (goal : ℕ) where
  task_nest : Parsed (List ℕ) → Parsed Task
  task_nest oi =
      next oi
      (λ initial rest.
      next (W rest)
      (λ originals rest.
      next (F rest)
      (λ formulas rest.
      next (E rest)
      (λ effects rest.
      next (O rest)
      (λ operators.
      parsed
      (record {
        initial = initial;
        originals = originals;
        formulas = formulas;
        effects = effects;
        operators = operators;
        goal = goal;
      }))))))

  words_nest : Parsed (List ℕ) → Parsed AllTables
  words_nest oi =
      next oi
      (λ i rest.
      next (W rest)
      (λ w rest.
      next
      (next (next (F rest) (λ rows. parsed (words_of rows)))
      (λ f rest.
      next (next (E rest) (λ rows. parsed (words_of rows)))
      (λ e rest.
      next (next (O rest) (λ rows. parsed (operator_words rows))) (λ o. parsed (record { formulas = f; effects = e; operators = o })))))
      (λ r. parsed (record { initial = i; twins = w; rows = r }))))

  nests : (oi : Parsed (List ℕ)) → words_nest oi ≡ next (task_nest oi) (λ t. parsed (all_words t))
  unfolding words_nest task_nest next
  nests (unparsed n) = refl
  nests (parsed i rest) = go1 (W rest) refl
    where
      Goal : Type 0
      Goal = words_nest (parsed i rest) ≡ next (task_nest (parsed i rest)) (λ t. parsed (all_words t))

      go4 : (w r1 : List ℕ) → W rest ≡ parsed w r1 → (f : List Row) (r2 : List ℕ) → F r1 ≡ parsed f r2 → (e : List Row) (r3 : List ℕ) → E r2 ≡ parsed e r3 → (o : Parsed (List Operator)) → O r3 ≡ o → Goal
      go4 w r1 e1 f r2 e2 e r3 e3 (unparsed n) e4 = rw (e1, e2, e3, e4)
      go4 w r1 e1 f r2 e2 e r3 e3 (parsed o r4) e4 = rw (e1, e2, e3, e4)

      go3 : (w r1 : List ℕ) → W rest ≡ parsed w r1 → (f : List Row) (r2 : List ℕ) → F r1 ≡ parsed f r2 → (o : Parsed (List Row)) → E r2 ≡ o → Goal
      go3 w r1 e1 f r2 e2 (unparsed n) e3 = rw (e1, e2, e3)
      go3 w r1 e1 f r2 e2 (parsed e r3) e3 = go4 w r1 e1 f r2 e2 e r3 e3 (O r3) refl

      go2 : (w r1 : List ℕ) → W rest ≡ parsed w r1 → (o : Parsed (List Row)) → F r1 ≡ o → Goal
      go2 w r1 e1 (unparsed n) e2 = rw (e1, e2)
      go2 w r1 e1 (parsed f r2) e2 = go3 w r1 e1 f r2 e2 (E r2) refl

      go1 : (o : Parsed (List ℕ)) → W rest ≡ o → Goal
      go1 (unparsed n) e1 = rw e1
      go1 (parsed w r1) e1 = go2 w r1 e1 (F r1) refl

pub all_read : (h : Head) (bytes : List ℕ) → all_behind h bytes ≡ next (tables_read h bytes) (λ t. parsed (all_words t))
unfolding all_behind rows_behind tables_read words_nest task_nest
all_read h bytes =
    nests (table_read (twin_read (h.variables - h.twins)) h.twins) (table_read (formula_read h.variables) h.formulas)
    (table_read (effect_read h.variables h.formulas) h.effects) (table_read (operator_read h.formulas h.effects) h.operators) h.goal
    (initial_read h.variables bytes)
