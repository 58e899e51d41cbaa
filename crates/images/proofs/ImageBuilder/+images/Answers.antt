-- The two memoised functions and what they share meet their contracts: the row number falls from each row to its operands. Assumes nothing.
use Prim.Native.Nat.{◌≤◌}
use native.Mathlib.Omega.{arith}
use mathlib.Core.Path.{refl, sym}
use mathlib.Core.Bool.{true, false, not}
use lib.ListN.{length-set}
use Rattle.normal_form.specs.Builder.{plain, negated}
use Rattle.formula_builder.specs.Inner.Held.{side}
use Rattle.formula_builder.proofs.Steps.{falsity_small, truth_small}
use Rattle.images.proofs.Rows.{known, negated_operand, variable_words, of_false, of_true, of_variable, of_not, of_and, of_or, of_implies, of_equivalent}
use Rattle.images.proofs.Memos.{images_noted}
use Rattle.images.proofs.Steps.{equivalent_joins, asks_negated, asks_pair, left_lower, asks_left, pair_joins, asks_second, later, later_as, asks_here, imaged_built, imaged_stands, imaged_known, failed, left_stops, right_stops, joined_later}
use Rattle.images.proofs.ImageBuilder.+images.Goals as goal
use Rattle.images.proofs.ImageBuilder.+images.Goals.{step-in-And, step-in-Or, step-in-Implies}

pub image-returns-in-Some : goal.image-returns-in-Some
image-returns-in-Some t c = imaged_known plain c.requires refl c.in-Some.ensures

pub negated_image-returns-in-Some : goal.negated_image-returns-in-Some
negated_image-returns-in-Some t c = imaged_known negated c.requires refl c.in-Some.ensures

pub sided-returns-in-Some : goal.sided-returns-in-Some
sided-returns-in-Some t c = imaged_known (side c.args.not) c.requires c.word_of-k.ensures c.in-Some.ensures

pub build-returns : goal.build-returns
build-returns t c =
    let x = c.in_ok-row.ensures in
    record {
      images =
          rw (c.word_of-k.ensures, x.same.builder.frame)
          (images_noted (side c.args.not) c.requires.formula (omega (arith, c.requires.source.memo, x.same.scratch_length)) x.images refl);
      same =
          record {
            builder = x.same.builder;
            formulas = x.same.formulas;
            scratch = x.same.scratch;
            scratch_length = simp length-set x.same.scratch_length;
          };
    }

pub pair-returns-in_err-l : goal.pair-returns-in_err-l
pair-returns-in_err-l t c =
    failed
    (left_stops (pair_joins c.requires c.read_row-w.result c.read_row-w.ensures c.args.left c.args.right c.args.or) c.in_err-l.ensures)
    c.from_residual.ensures.0

pub pair-returns-in_err-r : goal.pair-returns-in_err-r
pair-returns-in_err-r t c =
    let l = c.in_ok-l.ensures in
    failed
    (right_stops (pair_joins c.requires c.read_row-w.result c.read_row-w.ensures c.args.left c.args.right c.args.or) l
    (later l.same _ _ c.in_err-r.ensures))
    c.from_residual-in_err-r.ensures.0

pub pair-returns : goal.pair-returns
pair-returns t c =
    let l = c.in_ok-l.ensures in
    joined_later (pair_joins c.requires c.read_row-w.result c.read_row-w.ensures c.args.left c.args.right c.args.or) l
    (later l.same _ _ c.in_ok-r.ensures) c.join.ensures.built

pub equivalent-returns-in_err-x : goal.equivalent-returns-in_err-x
equivalent-returns-in_err-x t c =
    let whole = equivalent_joins c.args.self.now.builder.frame c.args.self.now.formulas.now c.args.i c.args.not in
    let asks = c.requires in
    let w = c.read_row-w.result in
    let same = c.read_row-w.ensures in
    let first = pair_joins asks w same false c.args.not false in
    failed (left_stops whole (left_stops first c.in_err-x.ensures)) c.from_residual.ensures.0

pub equivalent-returns-in_err-y : goal.equivalent-returns-in_err-y
equivalent-returns-in_err-y t c =
    let whole = equivalent_joins c.args.self.now.builder.frame c.args.self.now.formulas.now c.args.i c.args.not in
    let asks = c.requires in
    let w = c.read_row-w.result in
    let same = c.read_row-w.ensures in
    let first = pair_joins asks w same false c.args.not false in
    let x = c.in_ok-x.ensures in
    failed (left_stops whole (right_stops first x (later x.same _ _ c.in_err-y.ensures))) c.from_residual-in_err-y.ensures.0

pub equivalent-returns-in_err-l : goal.equivalent-returns-in_err-l
equivalent-returns-in_err-l t c =
    let whole = equivalent_joins c.args.self.now.builder.frame c.args.self.now.formulas.now c.args.i c.args.not in
    let asks = c.requires in
    let w = c.read_row-w.result in
    let same = c.read_row-w.ensures in
    let first = pair_joins asks w same false c.args.not false in
    let x = c.in_ok-x.ensures in
    let y = later x.same _ _ c.in_ok-y.ensures in
    failed (left_stops whole (joined_later first x y c.in_err-l.ensures.built)) c.from_residual-in_err-l.ensures.0

pub equivalent-negated_image-requires : goal.equivalent-negated_image-requires
equivalent-negated_image-requires t c =
    let asks = c.requires in
    let w = c.read_row-w.result in
    let same = c.read_row-w.ensures in
    let first = pair_joins asks w same false c.args.not false in
    let x = c.in_ok-x.ensures in
    let y = later x.same _ _ c.in_ok-y.ensures in
    let l = joined_later first x y c.in_ok-l.ensures.built in
    let again = asks_second asks l.images refl l.same.scratch_length in
    (omega (arith, left_lower asks w same), asks_here l.same (asks_left again w same))

pub equivalent-returns-in_err-z : goal.equivalent-returns-in_err-z
equivalent-returns-in_err-z t c =
    let whole = equivalent_joins c.args.self.now.builder.frame c.args.self.now.formulas.now c.args.i c.args.not in
    let asks = c.requires in
    let w = c.read_row-w.result in
    let same = c.read_row-w.ensures in
    let first = pair_joins asks w same false c.args.not false in
    let x = c.in_ok-x.ensures in
    let y = later x.same _ _ c.in_ok-y.ensures in
    let l = joined_later first x y c.in_ok-l.ensures.built in
    let again = asks_second asks l.images refl l.same.scratch_length in
    let second = pair_joins again w same true (not c.args.not) false in
    failed (right_stops whole l (left_stops second (later l.same _ _ c.in_err-z.ensures))) c.from_residual-in_err-z.ensures.0

pub equivalent-returns-in_err-v : goal.equivalent-returns-in_err-v
equivalent-returns-in_err-v t c =
    let whole = equivalent_joins c.args.self.now.builder.frame c.args.self.now.formulas.now c.args.i c.args.not in
    let asks = c.requires in
    let w = c.read_row-w.result in
    let same = c.read_row-w.ensures in
    let first = pair_joins asks w same false c.args.not false in
    let x = c.in_ok-x.ensures in
    let y = later x.same _ _ c.in_ok-y.ensures in
    let l = joined_later first x y c.in_ok-l.ensures.built in
    let again = asks_second asks l.images refl l.same.scratch_length in
    let second = pair_joins again w same true (not c.args.not) false in
    let z = later l.same _ _ c.in_ok-z.ensures in
    failed (right_stops whole l (right_stops second z (later z.same _ _ c.in_err-v.ensures))) c.from_residual-in_err-v.ensures.0

pub equivalent-returns-in_err-r : goal.equivalent-returns-in_err-r
equivalent-returns-in_err-r t c =
    let whole = equivalent_joins c.args.self.now.builder.frame c.args.self.now.formulas.now c.args.i c.args.not in
    let asks = c.requires in
    let w = c.read_row-w.result in
    let same = c.read_row-w.ensures in
    let first = pair_joins asks w same false c.args.not false in
    let x = c.in_ok-x.ensures in
    let y = later x.same _ _ c.in_ok-y.ensures in
    let l = joined_later first x y c.in_ok-l.ensures.built in
    let again = asks_second asks l.images refl l.same.scratch_length in
    let second = pair_joins again w same true (not c.args.not) false in
    let z = later l.same _ _ c.in_ok-z.ensures in
    let v = later z.same _ _ c.in_ok-v.ensures in
    failed (right_stops whole l (joined_later second z v c.in_err-r.ensures.built)) c.from_residual-in_err-r.ensures.0

pub equivalent-returns : goal.equivalent-returns
equivalent-returns t c =
    let whole = equivalent_joins c.args.self.now.builder.frame c.args.self.now.formulas.now c.args.i c.args.not in
    let asks = c.requires in
    let w = c.read_row-w.result in
    let same = c.read_row-w.ensures in
    let first = pair_joins asks w same false c.args.not false in
    let x = c.in_ok-x.ensures in
    let y = later x.same _ _ c.in_ok-y.ensures in
    let l = joined_later first x y c.in_ok-l.ensures.built in
    let again = asks_second asks l.images refl l.same.scratch_length in
    let second = pair_joins again w same true (not c.args.not) false in
    let z = later l.same _ _ c.in_ok-z.ensures in
    let v = later z.same _ _ c.in_ok-v.ensures in
    let r = joined_later second z v c.in_ok-r.ensures.built in
    joined_later whole l r c.join-3.ensures.built

pub step-formula_kind-requires : goal.step-formula_kind-requires
step-formula_kind-requires t c = known c.requires c.read_row-w.result c.read_row-w.ensures

pub step-returns-in-False : goal.step-returns-in-False
step-returns-in-False t c =
    let p = side c.args.not in
    rw c.falsity.ensures
    (imaged_stands p _ c.requires (of_false c.requires c.read_row-w.result c.read_row-w.ensures p (sym c.in-False.ensures)) (falsity_small p))

pub step-returns-in-True : goal.step-returns-in-True
step-returns-in-True t c =
    let p = side c.args.not in
    rw c.truth.ensures
    (imaged_stands p _ c.requires (of_true c.requires c.read_row-w.result c.read_row-w.ensures p (sym c.in-True.ensures)) (truth_small p))

pub step-literal-requires : goal.step-literal-requires
step-literal-requires t c =
    let words = variable_words c.requires c.read_row-w.result c.read_row-w.ensures (sym c.in-Variable.ensures) in
    (c.requires.ready, sym c.in-Variable.ensures, words.1, words.0)

pub step-returns-in-Variable : goal.step-returns-in-Variable
step-returns-in-Variable t c =
    let p = side c.args.not in
    imaged_built p c.requires (of_variable c.requires c.read_row-w.result c.read_row-w.ensures p (sym c.in-Variable.ensures)) c.literal.ensures

pub step-sided-requires : goal.step-sided-requires
step-sided-requires t c = (
  omega (arith, negated_operand c.requires c.read_row-w.result c.read_row-w.ensures (sym c.in-Not.ensures)),
  asks_negated c.requires c.read_row-w.result c.read_row-w.ensures (sym c.in-Not.ensures),
)

pub step-returns-in-Not : goal.step-returns-in-Not
step-returns-in-Not t c =
    later_as (of_not c.requires c.read_row-w.result c.read_row-w.ensures c.args.not (sym c.in-Not.ensures)) c.sided.ensures

pub step-equivalent-requires : goal.step-equivalent-requires
step-equivalent-requires t c =
    (omega arith, asks_pair c.requires c.read_row-w.result c.read_row-w.ensures (omega (arith, c.in-Equivalent.ensures)))

pub step-returns-in-Equivalent : goal.step-returns-in-Equivalent
step-returns-in-Equivalent t c =
    later_as (of_equivalent c.requires c.read_row-w.result c.read_row-w.ensures c.args.not (sym c.in-Equivalent.ensures)) c.equivalent.ensures

pub step-pair-requires : goal.step-pair-requires
step-pair-requires t c =
    let operands : 4 ≤ c.read_row-w.result.kind =
    elim c.match-formula_kind.branch [
      | step-in-And w ↦ omega (arith, w.in-And.ensures)
      | step-in-Or w ↦ omega (arith, w.in-Or.ensures)
      | step-in-Implies w ↦ omega (arith, w.in-Implies.ensures)
    ] in
    (omega arith, asks_pair c.requires c.read_row-w.result c.read_row-w.ensures operands)

pub step-returns : goal.step-returns
step-returns t c =
    let w = c.read_row-w.result in
    let e = c.read_row-w.ensures in
    elim c.match-formula_kind.branch [
      | step-in-And v ↦ later_as (of_and c.requires w e c.args.not (sym v.in-And.ensures)) (rw v.left-is at c.pair.ensures)
      | step-in-Or v ↦ later_as (of_or c.requires w e c.args.not (sym v.in-Or.ensures)) (rw v.left-is at c.pair.ensures)
      | step-in-Implies v ↦ later_as (of_implies c.requires w e c.args.not (sym v.in-Implies.ensures)) (rw v.left-is at c.pair.ensures)
    ]
