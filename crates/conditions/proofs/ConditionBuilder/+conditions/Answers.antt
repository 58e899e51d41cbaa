-- The condition of an effect row, with the conditions below it: the row number falls. Assumes nothing.
use Prim.Native.Nat.{◌<◌}
use native.Mathlib.Omega.{arith}
use mathlib.Core.Path.{refl, sym, ◌∙◌}
use Rattle.std.specs.Prelude.{Ok}
use Rattle.conditions.specs.Inner.Conditions.{condition_by, SameConditions, Conditioned}
use Rattle.conditions.proofs.Cases.{answers_known, answers_lacking, answers_atom, kind_few, names_none}
use Rattle.conditions.proofs.Cases.{effects_lower, left_asks, left_full, right-asks, right_full, left_false, right_false, both-done}
use Rattle.conditions.proofs.Cases.{inner_lower, inner_asks, inner-full, inner-false, image-asks, image-full, under-done}
use Rattle.images.proofs.Steps.{asks_here as image_asks_here, later as image_later}
use Rattle.conditions.proofs.Steps.{same_conditions_itself, same_conditions_twice, asks_here, later, failed, kept_later, joined_here}
use Rattle.conditions.proofs.ConditionBuilder.+conditions.Goals as goal
use Rattle.conditions.proofs.ConditionBuilder.+conditions.Goals.{condition-in-Both+in_ok-row-in-Both, condition-in-Under+in_ok-row-in-Under}

pub condition-returns-in-Some : goal.condition-returns-in-Some
condition-returns-in-Some t c =
    record { conditions = answers_known c.requires c.in-Some.ensures; same = same_conditions_itself c.args.self.now }

pub condition-effect_kind-requires : goal.condition-effect_kind-requires
condition-effect_kind-requires t c = kind_few c.requires c.read_row-w.result c.read_row-w.ensures

pub condition-returns-in_default-effect_kind : goal.condition-returns-in_default-effect_kind
condition-returns-in_default-effect_kind t c =
    let none = names_none c.effect_kind.result c.in_default-effect_kind.not-Both c.in_default-effect_kind.not-Under in
    let low : c.read_row-w.result.kind < 3 = omega (arith, none, c.effect_kind.ensures) in
    record {
      conditions = answers_atom c.requires c.read_row-w.result c.read_row-w.ensures low c.atom.ensures;
      same = same_conditions_itself c.args.self.now;
    }

pub condition-returns : goal.condition-returns
condition-returns t c =
    let b = c.args.self.now in
    let m = c.match-effect_kind in
    let x : Conditioned (condition_by b c.args.t c.args.e) b m.self (Ok m.row) =
    elim m.branch [
      | condition-in-Both+in_ok-row-in-Both w ↦ rw (w.self-is, w.row-is) w.in_ok-row-in-Both.ensures
      | condition-in-Under+in_ok-row-in-Under w ↦ rw (w.self-is, w.row-is) w.in_ok-row-in-Under.ensures
    ] in
    kept_later x c.keep.ensures.kept c.keep.ensures.same c.keep.ensures.builder

pub condition_if-returns-then-lacked : goal.condition_if-returns-then-lacked
condition_if-returns-then-lacked t c =
    record {
      conditions = answers_lacking c.requires c.if-lacked.ensures c.falsity.ensures;
      same = same_conditions_itself c.args.self.now;
    }

pub both-condition_if-requires : goal.both-condition_if-requires
both-condition_if-requires t c = (omega (arith, (effects_lower c.requires.0 c.requires.1 c.read_row-w.result c.read_row-w.ensures).0), left_asks c.requires.0 c.requires.1 c.read_row-w.result c.read_row-w.ensures)

pub both-returns-in_err-l : goal.both-returns-in_err-l
both-returns-in_err-l t c =
    let l = c.in_err-l.ensures in
    failed (record { conditions = left_full c.requires.0 c.requires.1 c.read_row-w.result c.read_row-w.ensures l.conditions refl; same = l.same }) c.from_residual.ensures.0

pub both-condition_if-requires-2 : goal.both-condition_if-requires-2
both-condition_if-requires-2 t c =
    let l = c.in_ok-l.ensures in (
      omega (arith, (effects_lower c.requires.0 c.requires.1 c.read_row-w.result c.read_row-w.ensures).1),
      asks_here l.same (right-asks c.requires.0 c.requires.1 c.read_row-w.result c.read_row-w.ensures l.conditions refl l.same.images.scratch_length),
    )

pub both-returns-in_err-r : goal.both-returns-in_err-r
both-returns-in_err-r t c =
    let l = c.in_ok-l.ensures in
    let r = later l.same _ _ c.in_err-r.ensures in
    failed (record { conditions = right_full c.requires.0 c.requires.1 c.read_row-w.result c.read_row-w.ensures l.conditions refl r.conditions refl; same = r.same })
    c.from_residual-in_err-r.ensures.0

pub both-returns-then-l-none : goal.both-returns-then-l-none
both-returns-then-l-none t c =
    let l = c.in_ok-l.ensures in
    let r = later l.same _ _ c.in_ok-r.ensures in
    record {
      conditions = left_false c.requires.0 c.requires.1 c.read_row-w.result c.read_row-w.ensures l.conditions refl r.conditions refl (c.if-l-none.true ∙ c.falsity-none.ensures);
      same = r.same;
    }

pub both-returns-then-r-none : goal.both-returns-then-r-none
both-returns-then-r-none t c =
    let l = c.in_ok-l.ensures in
    let r = later l.same _ _ c.in_ok-r.ensures in
    record {
      conditions = right_false c.requires.0 c.requires.1 c.read_row-w.result c.read_row-w.ensures l.conditions refl r.conditions refl (c.if-r-none.true ∙ c.falsity-none.ensures);
      same = r.same;
    }

pub both-returns : goal.both-returns
both-returns t c =
    let l = c.in_ok-l.ensures in
    let r = later l.same _ _ c.in_ok-r.ensures in
    record {
      conditions = rw c.joined.ensures.scratch (both-done c.requires.0 c.requires.1 c.read_row-w.result c.read_row-w.ensures l.conditions refl r.conditions refl (joined_here r.same c.joined.ensures.joined));
      same = same_conditions_twice r.same c.joined.ensures.same;
    }

pub under-condition-requires : goal.under-condition-requires
under-condition-requires t c = (omega (arith, (inner_lower c.requires.0 c.requires.1 c.read_row-w.result c.read_row-w.ensures).1), inner_asks c.requires.0 c.requires.1 c.read_row-w.result c.read_row-w.ensures)

pub under-returns-in_err-s : goal.under-returns-in_err-s
under-returns-in_err-s t c =
    let s = c.in_err-s.ensures in
    failed (record { conditions = inner-full c.requires.0 c.requires.1 c.read_row-w.result c.read_row-w.ensures s.conditions refl; same = s.same }) c.from_residual.ensures.0

pub under-returns-then-s-falsity : goal.under-returns-then-s-falsity
under-returns-then-s-falsity t c =
    let s = c.in_ok-s.ensures in
    record { conditions = inner-false c.requires.0 c.requires.1 c.read_row-w.result c.read_row-w.ensures s.conditions refl (c.if-s-falsity.true ∙ c.falsity.ensures); same = s.same }

pub under-sided-requires : goal.under-sided-requires
under-sided-requires t c =
    let s = c.in_ok-s.ensures in
    image_asks_here s.same.images (image-asks c.requires.0 c.requires.1 c.read_row-w.result c.read_row-w.ensures s.conditions refl s.same.images.scratch_length)

pub under-returns-in_err-f : goal.under-returns-in_err-f
under-returns-in_err-f t c =
    let s = c.in_ok-s.ensures in
    let f = image_later s.same.images _ _ c.in_err-f.ensures in
    failed
    (record {
      conditions = image-full c.requires.0 c.requires.1 c.read_row-w.result c.read_row-w.ensures s.conditions refl (λ z. c.if-s-falsity.false (z ∙ sym c.falsity.ensures)) f.images refl;
      same = record { images = f.same; effects = s.same.effects; notes = s.same.notes; notes_length = s.same.notes_length };
    })
    c.from_residual-in_err-f.ensures.0

pub under-returns : goal.under-returns
under-returns t c =
    let s = c.in_ok-s.ensures in
    let f = image_later s.same.images _ _ c.in_ok-f.ensures in
    let same : SameConditions c.args.self.now (record c.condition.new.self { images = c.sided.new.self }) =
    record { images = f.same; effects = s.same.effects; notes = s.same.notes; notes_length = s.same.notes_length } in
    record {
      conditions =
          rw c.joined.ensures.scratch
          (under-done c.requires.0 c.requires.1 c.read_row-w.result c.read_row-w.ensures s.conditions refl (λ z. c.if-s-falsity.false (z ∙ sym c.falsity.ensures)) f.images refl
          (joined_here same c.joined.ensures.joined));
      same = same_conditions_twice same c.joined.ensures.same;
    }
