-- `deletes` meets its contract: D, freed of conflict with A: if neither is row 0, D and N, with N the negated condition of set v. Assumes nothing.
use mathlib.Core.Path.{refl}
use Rattle.formula_builder.specs.Inner.Held.{size_in, store_in}
use Rattle.formula_builder.proofs.Steps.{same_twice}
use Rattle.conditions.specs.Inner.Conditions.{condition_at}
use Rattle.conditions.proofs.Steps.{same_conditions_itself, failed}
use Rattle.variable_changes.proofs.Standing.{conflict_none, negated-full, negated-joined}
use Rattle.variable_changes.proofs.conflict.deletes.Goals as goal

pub returns-then-adds-eq0 : goal.returns-then-adds-eq0
returns-then-adds-eq0 c =
    let b = c.args.b.now in
    record {
      conditions =
          conflict_none b.images.builder.frame b.images.formulas.now b.effects.now (size_in b.images.builder) (store_in b.images.builder) b.images.scratch.now
          c.args.e c.args.v c.args.adds c.args.deletes c.requires.stands c.requires.row c.then-adds-eq0.either;
      same = same_conditions_itself b;
    }

pub returns-in_err-n : goal.returns-in_err-n
unfolding condition_at
returns-in_err-n c =
    let b = c.args.b.now in
    let n = c.in_err-n.ensures in
    failed
    (record {
      conditions =
          negated-full b.images.builder.frame b.images.formulas.now b.effects.now (size_in b.images.builder) (store_in b.images.builder) b.images.scratch.now
          c.args.e c.args.v c.args.adds c.args.deletes c.requires.stands c.requires.row c.if-adds-eq0.false
          c.if-deletes-eq0.false n.conditions refl;
      same = n.same;
    })
    c.from_residual.ensures.0

pub returns : goal.returns
unfolding condition_at
returns c =
    let b = c.args.b.now in
    let n = c.in_ok-n.ensures in
    let same = n.same.images in
    let ready = (n.conditions.builds.done refl).ready in
    record {
      conditions =
          negated-joined b.images.builder.frame b.images.formulas.now b.effects.now (size_in b.images.builder) (store_in b.images.builder) b.images.scratch.now
          c.args.e c.args.v c.args.adds c.args.deletes c.requires.stands c.requires.row c.if-adds-eq0.false
          c.if-deletes-eq0.false n.conditions refl (rw (← same.builder.frame) (c.join.ensures.built (rw same.builder.frame ready)).builds);
      same =
          record {
            images =
                record {
                  builder = same_twice same.builder c.join.ensures.same;
                  formulas = same.formulas;
                  scratch = same.scratch;
                  scratch_length = same.scratch_length;
                };
            effects = n.same.effects;
            notes = n.same.notes;
            notes_length = n.same.notes_length;
          };
    }
