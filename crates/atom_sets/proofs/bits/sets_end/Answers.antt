-- `sets_end` meets its contract: where the sets end. Assumes nothing.
use native.Mathlib.Omega.{arith}
use Rattle.atom_sets.proofs.Places.{product_small, end_is}
use Rattle.atom_sets.proofs.bits.sets_end.Goals as goal

pub overflow_mul-result-2 : goal.overflow_mul-result-2
overflow_mul-result-2 c =
    let p = product_small c.set_words.result c.args.frame.effects c.set_words.ensures.1 c.requires.1 in omega
    (arith, p)

pub overflow_add-result : goal.overflow_add-result
overflow_add-result c =
    let p = product_small c.set_words.result c.args.frame.effects c.set_words.ensures.1 c.requires.1 in omega
    (arith, p, c.requires)

pub returns : goal.returns
returns c =
    let p = product_small c.set_words.result c.args.frame.effects c.set_words.ensures.1 c.requires.1 in
    (end_is c.args.frame c.set_words.result c.set_words.ensures.0, omega (arith, p, c.requires))
