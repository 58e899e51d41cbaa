-- Images, effect conditions, operators and the whole of building are steady: what makes a memo right. Assumes nothing.
use Prim.Native.Nat.{ℕ}
use lib.ListN.{length}
use lib.Dec.{eqb}
use Rattle.task.specs.Table.{Task}
use Rattle.task.specs.Semantics.{Formula, falsum, verum, variable, negation, conjunction, disjunction, implication, equivalence, Atom, Effect, empty, atomic, both, under, sets, clears}
use Rattle.task.specs.Run.{effect_of_operator}
use Rattle.normal_form.specs.Builder.{Polarity, plain, negated, opposite, image_of_false}
use Rattle.normal_form.specs.Growth.{Steady}
use Rattle.normal_form.specs.Image.{literal, image}
use Rattle.normal_form.specs.Conditions.{guarded, condition}
use Rattle.normal_form.specs.Operators.{deletes_of, changes_of, built_operator, parts}
use Rattle.normal_form.proofs.Growth.{steady_give, steady_bind, steady_variable_row, steady_twin_row, steady_join, steady_pair, steady_each, steady_cond}

pub steady_literal : (n : ℕ) (p : Polarity) (v : ℕ) → Steady (literal n p v)
unfolding literal
steady_literal n plain v = steady_variable_row v
steady_literal n negated v = steady_twin_row n v

pub steady_image : (n : ℕ) (p : Polarity) (f : Formula) → Steady (image n p f)
unfolding image
steady_image n p falsum = steady_give _
steady_image n p verum = steady_give _
steady_image n p (variable v) = steady_literal n p v
steady_image n p (negation f) = steady_image n (opposite p) f
steady_image n p (conjunction f g) = steady_pair p (steady_image n p f) (steady_image n p g)
steady_image n p (disjunction f g) = steady_pair (opposite p) (steady_image n p f) (steady_image n p g)
steady_image n p (implication f g) = steady_pair (opposite p) (steady_image n (opposite p) f) (steady_image n p g)
steady_image n p (equivalence f g) =
    steady_pair negated (steady_pair plain (steady_image n plain f) (steady_image n p g))
    (steady_pair plain (steady_image n negated f) (steady_image n (opposite p) g))

pub steady_guarded : (n : ℕ) (p : Polarity) (f : Formula) (c : ℕ) → Steady (guarded n p f c)
unfolding guarded
steady_guarded n p f c =
    steady_cond (eqb c (image_of_false p)) (steady_give c) (steady_bind (steady_image n p f) (λ a. steady_join p a c))

pub steady_condition : (n : ℕ) (p : Polarity) (l : Atom) (e : Effect) → Steady (condition n p l e)
unfolding condition
steady_condition n p l empty = steady_give _
steady_condition n p l (atomic m) = steady_give _
steady_condition n p l (both e f) = steady_pair (opposite p) (steady_condition n p l e) (steady_condition n p l f)
steady_condition n p l (under f e) = steady_bind (steady_condition n p l e) (λ c. steady_guarded n p f c)

pub steady_deletes : (n : ℕ) (e : Effect) (v a d : ℕ) → Steady (deletes_of n e v a d)
unfolding deletes_of
steady_deletes n e v a d =
    steady_cond (eqb a 0) (steady_give d)
    (steady_cond (eqb d 0) (steady_give d)
    (steady_bind (steady_condition n negated (sets v) e) (λ c. steady_join plain d c)))

pub steady_changes : (n : ℕ) (e : Effect) (v : ℕ) → Steady (changes_of n e v)
unfolding changes_of
steady_changes n e v =
    steady_bind (steady_condition n plain (sets v) e)
    (λ a.
    steady_bind (steady_condition n plain (clears v) e)
    (λ d. steady_bind (steady_deletes n e v a d) (λ k. steady_give _)))

pub steady_operator : (t : Task) (o : ℕ) → Steady (built_operator t o)
unfolding built_operator
steady_operator t o =
    steady_bind (steady_image (length t.initial) plain _)
    (λ p.
    steady_bind
    (steady_each (length t.initial) (steady_changes (length t.initial) (effect_of_operator t o)))
    (λ c. steady_give _))

pub steady_parts : (t : Task) → Steady (parts t)
unfolding parts
steady_parts t =
    steady_bind (steady_each (length t.operators) (steady_operator t))
    (λ o. steady_bind (steady_image (length t.initial) plain _) (λ g. steady_give _))
