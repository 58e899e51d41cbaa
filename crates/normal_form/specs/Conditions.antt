-- The effect condition of an atom and its dual (01, "Building the compiled task"; 002, "Effect Condition for an Effect"), as a row that is built.
use Rattle.std.specs.Prelude.{ℕ, cond, eqb}
use Rattle.task.specs.Semantics.{Formula, Atom, Effect, empty, atomic, both, under, same_atom}
use Rattle.normal_form.specs.Builder.{Build, give, bind, join, pair, Polarity, opposite, image_of_false, image_of_true}
use Rattle.normal_form.specs.Image.{image}

-- Under formula f, with c built for the inner effect: if c is false (dually true), so is the answer and the formula is not built; else f's
-- image (dually negated image) and c are joined, in that order. Built all the same, "not v0" over an empty effect would bring v0's twin.
unfoldable pub guarded : ℕ → Polarity → Formula → ℕ → Build ℕ
guarded n p f c = cond (eqb c (image_of_false p)) (give c) (bind (image n p f) (λ a. join p a c))

-- effcond(l, e): false for empty and other atoms, true for l itself, or over both; dually true, false, and.
-- With the formula before the inner effect, "(set v0 under v1) under v2" would have v2's row before v1's.
unfoldable pub condition : ℕ → Polarity → Atom → Effect → Build ℕ
condition n p l empty = give (image_of_false p)
condition n p l (atomic m) = give (cond (same_atom l m) (image_of_true p) (image_of_false p))
condition n p l (both e f) = pair (opposite p) (condition n p l e) (condition n p l f)
condition n p l (under f e) = bind (condition n p l e) (λ c. guarded n p f c)
