-- `judge` meets its contract: cost and steps decide, then numbers. Assumes nothing.
use Prim.Native.Nat.{◌+◌, ◌<◌}
use lib.ListN.{get_or}
use native.Mathlib.Omega.{arith}
use mathlib.Core.Path.{sym, ◌∙◌}
use Rattle.cheapest_plan.proofs.Relaxing.{by_key, key_cost, key_steps, old-parent, pairs, by-lists, noted-after}
use Rattle.cheapest_plan.proofs.relax.judge.Goals as goal

pub returns-then-old-new : goal.returns-then-old-new
returns-then-old-new c =
    let a = c.args in
    let low : get_or a.words.now (a.n + a.arrival.state) 0 < 4294967296 = omega (arith, c.type_inv.words (a.n + a.arrival.state)) in
    record {
      told = λ h. rw (c.joint-old.ensures, c.joint-new.ensures)
          (by_key h low (λ z. c.if-old-new.true (c.joint-old.ensures ∙ z ∙ sym c.joint-new.ensures)));
      noted = λ h. h.noted;
    }

pub parent_of-requires-2 : goal.parent_of-requires-2
parent_of-requires-2 c =
    let a = c.args in
    let low : get_or a.words.now (a.n + a.arrival.state) 0 < 4294967296 = omega (arith, c.type_inv.words (a.n + a.arrival.state)) in
    let tie-is = sym c.joint-old.ensures ∙ c.if-old-new.false ∙ c.joint-new.ensures in
    let pre = c.requires.1 in
    omega (arith, (old-parent pre (key_cost pre low tie-is) (key_steps pre low tie-is)).last-is)

pub compared-requires : goal.compared-requires
compared-requires c =
    let a = c.args in
    let low : get_or a.words.now (a.n + a.arrival.state) 0 < 4294967296 = omega (arith, c.type_inv.words (a.n + a.arrival.state)) in
    let tie-is = sym c.joint-old.ensures ∙ c.if-old-new.false ∙ c.joint-new.ensures in
    let pre = c.requires.1 in
    (c.requires.0, pairs pre (key_cost pre low tie-is) (key_steps pre low tie-is) c.parent_of.ensures c.parent_of-2.ensures)

pub returns : goal.returns
returns c =
    let a = c.args in
    let low : get_or a.words.now (a.n + a.arrival.state) 0 < 4294967296 = omega (arith, c.type_inv.words (a.n + a.arrival.state)) in
    let tie-is = sym c.joint-old.ensures ∙ c.if-old-new.false ∙ c.joint-new.ensures in
    let found = c.compared.ensures in
    let left = c.parent_of.ensures in
    let right = c.parent_of-2.ensures in
    record {
      told = λ h. by-lists h (key_cost h low tie-is) (key_steps h low tie-is) left right found;
      noted = λ h. noted-after h (key_cost h low tie-is) (key_steps h low tie-is) left right found;
    }
