-- A run's numbers, its refusals and its result: one law for each way out. Assumes nothing.
use Prim.Native.Nat.{ℕ, zero, suc, ◌+◌, ◌*◌, ◌/◌, ◌%◌, ◌^◌, ◌<◌, ◌≤◌}
use native.Mathlib.Nat.{pow-suc, div-div-eq-div-mul, div-one}
use native.Mathlib.Numerals.{add-one}
use native.Mathlib.Omega.{arith}
use mathlib.Core.Path.{◌≡◌, refl, sym, ap, ap₂, ◌∙◌}
use mathlib.Core.Bool.{Bool, true, false, ◌&&◌, false≢true}
use mathlib.Core.List.{List, [], ◌∷◌, ◌++◌}
use lib.ListN.{length, get_or, set, take, drop, replicate, length-set, take-append-drop}
use lib.Seq.{take-suc-set, drop-drop, drop-set-lt}
use lib.Dec.{leb, eqb}
use mir.Val.{bool_byte}
use Rattle.std.specs.Int.{w16, w32, w64, byte_at, bytes_low_first, to_le_bytes, from_le_bytes}
use borrow.Author.Tests.{leb-true}
use Rattle.task.specs.Bounded.{every, upto}
use Rattle.task.specs.Check.{state_kept, sequence_kept, unless}
use Rattle.task.proofs.Bounded.{length_upto}
use Rattle.task_writer.specs.Inner.Putting.{Put}
use Rattle.task_writer.proofs.Puts.{put_then, put_same}
use Rattle.file_format.specs.Bytes.{word_bytes}
use Rattle.plan.specs.Outcome.{RunOutcome}
use Rattle.layouts.specs.Layout.{low_bytes, numbers_of, run_number, flag}
use Rattle.layouts.specs.Inner.Giving.{stop_of, plan_of, outcome_bytes, ResultGives}
use Rattle.layouts.proofs.LayWays.{put_padded, size}

-- the numbers of a sequence
abbrev number_at : List ℕ → ℕ → ℕ
number_at bytes i = get_or bytes (2 * i) 0 + 256 * get_or bytes (2 * i + 1) 0

pub numbers_length : (bytes : List ℕ) → length (numbers_of bytes) ≡ length bytes / 2
unfolding numbers_of
numbers_length bytes = length_upto (length bytes / 2) (number_at bytes)

-- what a loop has decoded after i numbers
pub record Decoded (bytes before numbers : List ℕ) (i : ℕ) : Type 0 where
  pub same : length numbers ≡ length before
  pub front : take i numbers ≡ upto i (number_at bytes)
  pub behind : drop i numbers ≡ drop i before

module _ (bytes before : List ℕ) where
  pub decode_begin : Decoded bytes before before 0
  unfolding upto
  decode_begin = record { same = refl; front = refl; behind = refl }

  pub decode_more :
      (numbers : List ℕ) (i : ℕ) {w : ℕ}
      → Decoded bytes before numbers i
      → i < length numbers
      → w ≡ from_le_bytes w16 (get_or bytes (2 * i) 0 ∷ (get_or bytes (2 * i + 1) 0 ∷ []))
      → Decoded bytes before (set numbers i w) (i + 1)
  unfolding upto
  decode_more numbers i {w} d b e =
      let is : w ≡ number_at bytes i = omega (arith, e) in
      record {
        same = length-set numbers i w ∙ d.same;
        front =
            ap (λ (n : ℕ). take n (set numbers i w)) (add-one i)
            ∙ take-suc-set numbers i w b
            ∙ (λ j. d.front j ++ (is j ∷ []))
            ∙ ap (λ (n : ℕ). upto n (number_at bytes)) (sym (add-one i));
        behind =
            drop-set-lt (i + 1) numbers i w (omega arith)
            ∙ sym (drop-drop 1 i numbers)
            ∙ ap (drop 1) d.behind
            ∙ drop-drop 1 i before;
      }

  pub decode_end :
      (numbers : List ℕ) (i : ℕ)
      → Decoded bytes before numbers i
      → i ≡ length bytes / 2
      → numbers ≡ numbers_of bytes ++ drop (length bytes / 2) before
  unfolding numbers_of
  decode_end numbers i d e = rw (← e) (sym (take-append-drop i numbers) ∙ (λ j. d.front j ++ d.behind j))

-- the refusals, in order: a rule that is broken, and one that is kept
stop_first : (b : Bool) (k rest n : ℕ) → n ≡ unless b k 0 → (n ≡ 0 → ⊥) → n ≡ unless b k rest
stop_first true k rest n e some = absurd (some e)
stop_first false k rest n e some = e

go_on : (b : Bool) (k rest : ℕ) → 0 ≡ unless b (suc k) 0 → rest ≡ unless b (suc k) rest
go_on true k rest e = refl
go_on false k rest e = absurd (omega arith)

module _ (v : ℕ) (s q : List ℕ) (r : ℕ) where
  pub refused_16 : {a : Bool} {n : ℕ} → a ≡ state_kept v s → n ≡ unless a 16 0 → (n ≡ 0 → ⊥) → n ≡ run_number v s q r
  unfolding run_number
  refused_16 {a} {n} state e some =
      stop_first (state_kept v s) 16 _ n (e ∙ ap (λ (b : Bool). unless b 16 0) state) some

  module _ {a : Bool} (state : a ≡ state_kept v s) (fine : 0 ≡ unless a 16 0) where
    behind_16 : unless (eqb (length q % 2) 0 && sequence_kept (numbers_of q)) 19 (unless (leb 16 r) 20 0) ≡ run_number v s q r
    unfolding run_number
    behind_16 = go_on (state_kept v s) 15 _ (fine ∙ ap (λ (b : Bool). unless b 16 0) state)

    pub refused_19 :
        {b : Bool} {n : ℕ}
        → b ≡ (eqb (length q % 2) 0 && sequence_kept (numbers_of q))
        → n ≡ unless b 19 0
        → (n ≡ 0 → ⊥)
        → n ≡ run_number v s q r
    refused_19 {b} {n} sequence e some =
        stop_first (eqb (length q % 2) 0 && sequence_kept (numbers_of q)) 19 (unless (leb 16 r) 20 0) n
        (e ∙ ap (λ (b : Bool). unless b 19 0) sequence) some
        ∙ behind_16

    pub refused_20 :
        {b : Bool} {n : ℕ}
        → b ≡ (eqb (length q % 2) 0 && sequence_kept (numbers_of q))
        → 0 ≡ unless b 19 0
        → n ≡ unless (leb 16 r) 20 0
        → n ≡ run_number v s q r
    refused_20 sequence few e =
        e
        ∙ go_on (eqb (length q % 2) 0 && sequence_kept (numbers_of q)) 18 (unless (leb 16 r) 20 0)
        (few ∙ ap (λ (b : Bool). unless b 19 0) sequence)
        ∙ behind_16

-- what no refusal says
pub record Free (v : ℕ) (s q : List ℕ) (r : ℕ) : Type 0 where
  pub state : eqb (length s) v && every (length s) (λ v. leb (get_or s v 0) 1) ≡ true
  pub few : leb (length (numbers_of q)) 65535 ≡ true
  pub room : 16 ≤ r

both_true : (a b : Bool) → a && b ≡ true → b ≡ true
both_true true b e = e
both_true false b e = absurd (false≢true e)

pub free_of : (v : ℕ) (s q : List ℕ) (r : ℕ) → run_number v s q r ≡ 0 → Free v s q r
unfolding run_number state_kept sequence_kept
free_of v s q r e = go (eqb (length s) v && every (length s) (λ v. leb (get_or s v 0) 1)) (eqb (length q % 2) 0 && leb (length (numbers_of q)) 65535) (leb 16 r) refl refl refl e
  where
    go :
        (x y z : Bool)
        → eqb (length s) v && every (length s) (λ v. leb (get_or s v 0) 1) ≡ x
        → eqb (length q % 2) 0 && leb (length (numbers_of q)) 65535 ≡ y
        → leb 16 r ≡ z
        → unless x 16 (unless y 19 (unless z 20 0)) ≡ 0
        → Free v s q r
    go true true true a b c e = record { state = a; few = both_true (eqb (length q % 2) 0) (leb (length (numbers_of q)) 65535) b; room = leb-true 16 r c }
    go true true false a b c e = absurd (omega arith)
    go true false z a b c e = absurd (omega arith)
    go false y z a b c e = absurd (omega arith)

-- the low bytes of a number are those that the library gives
byte_is : (i x : ℕ) → byte_at i x ≡ x / 256 ^ i % 256
byte_is zero x = ap (λ (y : ℕ). y % 256) (sym (div-one x))
byte_is (suc i) x = refl

low_from : (n i x : ℕ) → bytes_low_first i n x ≡ low_bytes n (x / 256 ^ i)
unfolding low_bytes
low_from zero i x = refl
low_from (suc n) i x =
    let more : x / 256 ^ suc i ≡ x / 256 ^ i / 256 = rw (pow-suc 256 i) (sym (div-div-eq-div-mul x (256 ^ i) 256)) in
    ap₂ (λ (b : ℕ) (l : List ℕ). b ∷ l) (byte_is i x) (low_from n (suc i) x ∙ ap (low_bytes n) more)

pub le_four : (x : ℕ) → to_le_bytes w32 x ≡ low_bytes 4 x
le_four x = low_from 4 0 x ∙ ap (low_bytes 4) (div-one x)

pub le_eight : (x : ℕ) → to_le_bytes w64 x ≡ low_bytes 8 x
le_eight x = low_from 8 0 x ∙ ap (low_bytes 8) (div-one x)

pub word_low : (x : ℕ) → x < 65536 → word_bytes x ≡ low_bytes 2 x
unfolding word_bytes low_bytes
word_low x h =
    let high : x / 256 ≡ x / 256 % 256 = omega arith in
    ap (λ (y : ℕ). x % 256 ∷ (y ∷ [])) high

pub low_length : (n x : ℕ) → length (low_bytes n x) ≡ n
unfolding low_bytes
low_length zero x = refl
low_length (suc n) x = ap suc (low_length n (x / 256))

pub low_next : (n x : ℕ) {at r : ℕ} {o o1 : List ℕ} → Put (low_bytes n x) at r o o1 → r ≡ at + n
low_next n x p = omega (arith, p.next, low_length n x)

pub flag_is : (b : Bool) → bool_byte b ≡ flag b
unfolding flag
flag_is true = refl
flag_is false = refl

-- the result's five parts
pub result_put :
    (o : RunOutcome) (out : List ℕ) {z o1 o2 o3 o4 o5 : List ℕ} {a b c d e g p number : ℕ}
    → z ≡ replicate (length out) 0
    → Put (low_bytes 4 o.steps) 0 a z o1
    → Put (low_bytes 8 o.cost) a b o1 o2
    → Put (g ∷ []) b c o2 o3
    → Put (p ∷ []) c d o3 o4
    → Put (low_bytes 2 number) d e o4 o5
    → g ≡ flag o.goal
    → p ≡ flag (plan_of o.end)
    → {told : ℕ}
    → told ≡ number
    → number ≡ stop_of o.end
    → 16 ≤ length out
    → ResultGives o (length out) told o5
unfolding outcome_bytes
result_put o out {z} {o1} {o2} {o3} {o4} {o5} {a} {b} {c} {d} {e} {g} {p} {number} clear p1 p2 p3 p4 p5 eg ep same en room =
    let whole = put_then p1 (put_then p2 (put_then p3 (put_then p4 p5))) in
    let there : Put (outcome_bytes o) 0 e z o5 =
    put_same (λ j. low_bytes 4 o.steps ++ (low_bytes 8 o.cost ++ (eg j ∷ ep j ∷ low_bytes 2 (en j)))) whole
    in
    let end : e ≡ 16 = omega (arith, low_next 4 o.steps p1, low_next 8 o.cost p2, p3.next, p4.next, low_next 2 number p5) in
    record { told = same ∙ en; held = put_padded (outcome_bytes o) out clear there (omega (arith, size (outcome_bytes o) out clear there)) }
