-- Image and negated image of a formula (01, "Building the compiled task"). They go by the formula as a tree: that a row is shared saves
-- the code work and changes no result, since building again in a grown state finds every row.
use Rattle.std.specs.Prelude.{ℕ}
use Rattle.task.specs.Semantics.{Formula, falsum, verum, variable, negation, conjunction, disjunction, implication, equivalence}
use Rattle.normal_form.specs.Builder.{Build, give, pair, variable_row, twin_row, Polarity, plain, negated, opposite, image_of_false, image_of_true}

-- The image of a variable is that variable; its negated image is its twin. Were both the twin, v0 = 1 would read as false.
unfoldable pub literal : ℕ → Polarity → ℕ → Build ℕ
literal n plain v = variable_row v
literal n negated v = twin_row n v

-- The image (negated: the negated image) of a formula over n source variables.
-- "a implies b" is (not a) or b, negated a and (not b): as b or (not a), "v0 implies v1" would have v1's row before v0's twin.
-- "a equivalent to b" is (a and b) or (not a and not b), negated (a and not b) or (not a and b): with only the first half,
-- v0 = v1 = 0 would not make them equivalent.
unfoldable pub image : ℕ → Polarity → Formula → Build ℕ
image n p falsum = give (image_of_false p)
image n p verum = give (image_of_true p)
image n p (variable v) = literal n p v
image n p (negation f) = image n (opposite p) f
image n p (conjunction f g) = pair p (image n p f) (image n p g)
image n p (disjunction f g) = pair (opposite p) (image n p f) (image n p g)
image n p (implication f g) = pair (opposite p) (image n (opposite p) f) (image n p g)
image n p (equivalence f g) =
    pair negated (pair plain (image n plain f) (image n p g)) (pair plain (image n negated f) (image n (opposite p) g))
