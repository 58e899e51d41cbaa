-- Ways out of a step that may be refused. Assumes nothing.
use Prim.Native.Nat.{ℕ, ◌+◌, ◌-◌, ◌*◌, ◌<◌, ◌≤◌}
use native.Mathlib.Omega.{arith}
use lib.ListN.{length, get_or, take, drop}
use Rattle.std.proofs.lemmas.List.{take_all}
use mathlib.Core.Path.{◌≡◌, refl, sym, ap, ◌∙◌}
use mathlib.Core.List.{List, [], ◌∷◌}
use lib.Dec.{eqb}
use borrow.Author.Tests.{ne_eqb}
use Rattle.std.specs.Prelude.{Result, Ok, Err}
use Rattle.std.specs.Result.{IsErrAnd}
use Rattle.task.specs.declared.Table.{Table}
use Rattle.task.specs.declared.TableRow.{TableRow}
use Rattle.task.specs.declared.refusal.Refusal.{Refusal}
use Rattle.task.specs.Refused.{number_of}
use Rattle.task.specs.Table.{Operator, operator}
use Rattle.task.specs.Check.{operator_number}
use Rattle.task.specs.Words.{operator_row_words}
use Rattle.task.proofs.Refusals.{number_some}
use Rattle.task.proofs.Words.{operator_by_words}
use Rattle.file_format.specs.Parse.{Parsed, parsed, unparsed, next, kept, byte_read, word_read}
use Rattle.file_format.specs.Reading.{operator_fields_read, operator_read}
use Rattle.file_format.proofs.Parse.{parsed_value, refused_parsed}
use Rattle.task_file.specs.Inner.Answers.{parsed_as, left_as, words_as}

-- a refusal that `?` returns onward
pub returned_as :
    {A : Type 0} (r : Result A Refusal) (rest : List ℕ) (e : Refusal) (o : Parsed A)
    → IsErrAnd r (λ x. x ≡ e)
    → o ≡ unparsed (number_of e)
    → parsed_as r rest ≡ o
returned_as (Ok x) rest e o given is = absurd given
returned_as {A} (Err x) rest e o given is = ap {B = Parsed A} (λ (y : Refusal). unparsed (number_of y)) given ∙ sym is

-- the same of a call that leaves its value in a table, and of one that answers a row
pub returned_left :
    {A B : Type 0} (x : A) (r : Result B Refusal) (rest : List ℕ) (e : Refusal) (o : Parsed A)
    → IsErrAnd r (λ x. x ≡ e)
    → o ≡ unparsed (number_of e)
    → left_as x r rest ≡ o
returned_left x (Ok y) rest e o given is = absurd given
returned_left {A} x (Err y) rest e o given is = ap {B = Parsed A} (λ (z : Refusal). unparsed (number_of z)) given ∙ sym is

pub returned_words :
    (table : Table) (r : Result TableRow Refusal) (rest : List ℕ) (e : Refusal) (o : Parsed (List ℕ))
    → IsErrAnd r (λ x. x ≡ e)
    → o ≡ unparsed (number_of e)
    → words_as table r rest ≡ o
returned_words table (Ok x) rest e o given is = absurd given
returned_words table (Err x) rest e o given is = ap {B = Parsed (List ℕ)} (λ (y : Refusal). unparsed (number_of y)) given ∙ sym is

-- the last call's answer as the function's: what it leaves is a part of what the function leaves
pub left_last :
    {A B C : Type 0} (x : A) (f : A → B) (r : Result C Refusal) (rest : List ℕ)
    → left_as (f x) r rest ≡ next (left_as x r rest) (λ y. parsed (f y))
unfolding next
left_last x f (Ok y) rest = refl
left_last x f (Err e) rest = refl

-- an operator that breaks a rule
rule_broken :
    {A : Type 0} (e : Refusal) (n : ℕ) (x : A) (rest : List ℕ)
    → number_of e ≡ n
    → kept (eqb n 0) n x rest ≡ unparsed (number_of e)
unfolding kept
rule_broken e n x rest is = rw (← is, ne_eqb (number_of e) 0 (number_some e))

pub operator_broken :
    (f e i p q c r : ℕ) (bytes rest : List ℕ) (x : Refusal)
    → next (operator_fields_read bytes) (λ o. parsed (operator_row_words o)) ≡ parsed (p ∷ q ∷ c ∷ r ∷ []) rest
    → number_of x ≡ operator_number f e (operator p q c r)
    → next (operator_read f e i [] bytes) (λ o. parsed (operator_row_words o)) ≡ unparsed (number_of x)
unfolding operator_read next
operator_broken f e i p q c r bytes rest x read is = go (operator_fields_read bytes) refl
  where
    go :
        (a : Parsed Operator)
        → operator_fields_read bytes ≡ a
        → next (operator_read f e i [] bytes) (λ o. parsed (operator_row_words o)) ≡ unparsed (number_of x)
    go (unparsed n) there = absurd (refused_parsed (rw there at read))
    go (parsed o mid) there =
        let g : parsed (operator_row_words o) mid ≡ parsed (p ∷ q ∷ c ∷ r ∷ []) rest = rw there at read in
        let number : number_of x ≡ operator_number f e o = is ∙ sym (ap (operator_number f e) (operator_by_words o (parsed_value g))) in
        rw (there, rule_broken x (operator_number f e o) o mid number)

-- a word
pub word_short : (bytes : List ℕ) → length bytes < 2 → word_read bytes ≡ unparsed 1
unfolding word_read next byte_read
word_short [] h = refl
word_short (x ∷ []) h = refl
word_short (x ∷ (y ∷ bytes)) h = absurd (omega arith)

pub word_there : (bytes : List ℕ) (w : ℕ) → 2 ≤ length bytes → w ≡ get_or bytes 0 0 + 256 * get_or bytes 1 0 → parsed w (take (length bytes - 2) (drop 2 bytes)) ≡ word_read bytes
unfolding word_read next byte_read
word_there [] w h e = absurd (omega arith)
word_there (x ∷ []) w h e = absurd (omega arith)
word_there (x ∷ (y ∷ bytes)) w h e = rw (e, take_all (length (x ∷ (y ∷ bytes)) - 2) bytes (omega arith)) refl
