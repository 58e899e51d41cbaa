-- `set_start` meets its contract: where the set of row e begins. Assumes nothing.
use native.Mathlib.Omega.{arith}
use Rattle.atom_sets.proofs.Places.{product_small}
use Rattle.atom_sets.proofs.Finds.{start_is}
use Rattle.atom_sets.proofs.bits.set_start.Goals as goal

pub overflow_mul-result-2 : goal.overflow_mul-result-2
overflow_mul-result-2 c =
    let p = product_small c.set_words.result c.args.e c.set_words.ensures.1 (omega (arith, c.requires)) in omega (arith, p)

pub overflow_add-result : goal.overflow_add-result
overflow_add-result c =
    let p = product_small c.set_words.result c.args.e c.set_words.ensures.1 (omega (arith, c.requires)) in omega (arith, p, c.requires)

pub returns : goal.returns
returns c =
    let p = product_small c.set_words.result c.args.e c.set_words.ensures.1 (omega (arith, c.requires)) in
    (start_is c.args.frame c.args.e c.set_words.result c.set_words.ensures.0, omega (arith, p, c.requires))
