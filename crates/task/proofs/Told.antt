-- What an answer tells, at each way out of a function. Assumes nothing.
use Rattle.std.proofs.Common.{ℕ, ◌≡◌, ◌≤◌, ◌<◌, Bool, true, false, List, length, get_or, sym, ap, ◌∙◌, arith}
use Rattle.std.specs.Prelude.{Result, Ok, Err}
use Rattle.std.specs.Bool.{MatchBool}
use Rattle.std.specs.List.{AllWithin, HoldsAt}
use Rattle.std.specs.Result.{IsErrAnd}
use lib.Dec.{leb}
use borrow.Author.Tests.{le-leb, lt-leb}
use Rattle.task.specs.declared.refusal.Refusal.{Refusal}
use Rattle.task.specs.Bounded.{every}
use Rattle.task.specs.Refused.{number_of, told}
use Rattle.task.proofs.Bounded.{every_from, every_fails}

-- a refusal that `?` returns onward
pub returned : {A : Type 0} (r : Result A Refusal) (e : Refusal) (n : ℕ) → IsErrAnd r (λ x. x ≡ e) → number_of e ≡ n → told r ≡ n
returned (Ok x) e n given is = absurd given
returned (Err x) e n given is = ap number_of given ∙ is

-- a test of every byte
pub every_byte :
    (bytes : List ℕ) (r : Bool)
    → MatchBool r (AllWithin (λ x. x ≤ 1) bytes 0 (length bytes)) ((k : ℕ) × (k < length bytes) × HoldsAt (λ x. 1 < x) bytes k)
    → r ≡ every (length bytes) (λ v. leb (get_or bytes v 0) 1)
every_byte bytes true all =
    sym (every_from (length bytes) (λ v. leb (get_or bytes v 0) 1) (λ v h. le-leb (get_or bytes v 0) 1 (all v 0 (omega arith) h)))
every_byte bytes false (k, h, one) =
    sym (every_fails (length bytes) (λ v. leb (get_or bytes v 0) 1) k h (lt-leb (get_or bytes k 0) 1 (one 0)))
