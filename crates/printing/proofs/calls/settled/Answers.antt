-- `settled` meets its contract: the answer for a text of `size` bytes that was put into the front of a buffer. Assumes nothing.
use native.Mathlib.Omega.{arith}
use Rattle.std.proofs.lemmas.List.{length-take, length-drop}
use Rattle.printing.proofs.Settled.{settled_whole, settled_over}
use Rattle.printing.proofs.calls.settled.Goals as goal

pub returns-then-out-size : goal.returns-then-out-size
returns-then-out-size c = λ before text most p. settled_over before text p c.if-out-size.true (c.fill.ensures.after (λ y h. h))

pub returns : goal.returns
returns c =
    λ before text most p.
    settled_whole before text p c.if-out-size.false (c.fill-2.ensures.after (λ y h. h)) (simp (length-take, length-drop) (omega arith))
