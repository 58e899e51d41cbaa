-- The loop over the originals of the twins. Assumes nothing.
use Prim.Native.Nat.{ℕ, suc, ◌+◌, ◌<◌, ◌≤◌}
use native.Mathlib.Numerals.{add-one}
use native.Mathlib.Omega.{arith}
use mathlib.Core.Path.{◌≡◌, refl, sym, ap, ◌∙◌}
use mathlib.Core.Bool.{true, false, not}
use mathlib.Core.List.{List, [], ◌∷◌, ◌++◌}
use lib.ListN.{length, get_or, take, set}
use lib.Seq.{take-suc-set, get_or-take, get_or-set_same}
use lib.Dec.{eqb}
use Rattle.std.proofs.lemmas.List.{take_all}
use Rattle.task.specs.Bounded.{every}
use Rattle.task.specs.Check.{twin_kept}
use Rattle.task.proofs.Bounded.{every_same}
use Rattle.task.proofs.Refusals.{twin_outside}
use Rattle.task.proofs.Named.{NamedBy, named_stored, named_more, named_before, named_now}
use Rattle.file_format.specs.Parse.{Parsed, parsed, unparsed, next, kept, word_read, table_read}
use Rattle.file_format.specs.Reading.{twin_read}
use Rattle.task_file.proofs.Loops.{one_more, stopped}

-- it looks at the rows up to its own
twin_same : (bound : ℕ) (xs ys : List ℕ) (k : ℕ) → ((j : ℕ) → j < suc k → get_or xs j 0 ≡ get_or ys j 0) → twin_kept bound xs k ≡ twin_kept bound ys k
unfolding twin_kept
twin_same bound xs ys k h =
    let e = h k (omega arith) in
    let rest : every k (λ j. not (eqb (get_or xs j 0) (get_or xs k 0))) ≡ every k (λ j. not (eqb (get_or ys j 0) (get_or ys k 0))) =
    every_same k (λ j. not (eqb (get_or xs j 0) (get_or xs k 0))) (λ j. not (eqb (get_or ys j 0) (get_or ys k 0))) (λ j l. rw (h j (omega arith), e))
    in
    rw (rest, e)

twin_stored : (bound : ℕ) (twins : List ℕ) (k w : ℕ) → k < length twins → twin_kept bound (take k twins ++ (w ∷ [])) k ≡ twin_kept bound (set twins k w) k
twin_stored bound twins k w h =
    twin_same bound (take k twins ++ (w ∷ [])) (set twins k w) k
    (λ j l.
    ap (λ (x : List ℕ). get_or x j 0) (sym (take-suc-set twins k w h)) ∙ get_or-take (suc k) (set twins k w) j 0 l)

-- row k once its word is stored: its test by the marks of the rows before it
module _ (bound : ℕ) (few : bound ≤ 512) (twins : List ℕ) (k w : ℕ) (fits : k < length twins) where
  stored_word : get_or (set twins k w) k 0 ≡ w
  stored_word = get_or-set_same twins k w 0 fits

  pub twin_high : bound ≤ w → twin_kept bound (set twins k w) k ≡ false
  twin_high h = twin_outside bound (set twins k w) k (rw stored_word h)

  module _ (named : List ℕ) (m : NamedBy twins k named) (below : w < bound) where
    pub twin_before : (get_or named w 0 ≡ 0 → ⊥) → twin_kept bound (set twins k w) k ≡ false
    twin_before n = named_before (set twins k w) k named (named_stored twins k named m w) bound few (rw stored_word below) (rw stored_word n)

    pub twin_now : get_or named w 0 ≡ 0 → twin_kept bound (set twins k w) k ≡ true
    twin_now z = named_now (set twins k w) k named (named_stored twins k named m w) bound few (rw stored_word below) (rw stored_word z)

    pub twin_marked : NamedBy (set twins k w) (k + 1) (set named w 1)
    twin_marked =
        let low : get_or (set twins k w) k 0 < 512 = rw stored_word (omega arith) in
        rw stored_word at (named_more (set twins k w) k named (named_stored twins k named m w) low)

-- What the loop has done before row k: the rows before it stand in front.
abbrev pub TwinsDone : (bound : ℕ) (bytes twins rest : List ℕ) (k : ℕ) → Type 0
TwinsDone bound bytes twins rest k = table_read (twin_read bound) k bytes ≡ parsed (take k twins) rest

pub twins_begin : (bound : ℕ) (bytes twins : List ℕ) → TwinsDone bound bytes twins bytes 0
unfolding table_read
twins_begin bound bytes twins = refl

module _ (bound : ℕ) (bytes : List ℕ) where
  abbrev twins_p : ℕ → Parsed (List ℕ)
  twins_p k = table_read (twin_read bound) k bytes

  abbrev twins_q : ℕ → List ℕ → List ℕ → Parsed (List ℕ)
  twins_q k ws rest = next (twin_read bound k ws rest) (λ w. parsed (w ∷ []))

  twins_step : (k : ℕ) → twins_p (suc k) ≡ next (twins_p k) (λ ws rest. next (twins_q k ws rest) (λ x. parsed (ws ++ x)))
  unfolding table_read next
  twins_step k = go (table_read (twin_read bound) k bytes)
    where
      last : (done : List ℕ) (o : Parsed ℕ) → next o (λ r. parsed (done ++ (r ∷ []))) ≡ next (next o (λ w. parsed (w ∷ []))) (λ x. parsed (done ++ x))
      last done (unparsed n) = refl
      last done (parsed w rest) = refl

      go :
          (o : Parsed (List ℕ))
          → next o (λ done rest. next (twin_read bound k done rest) (λ r. parsed (done ++ (r ∷ []))))
          ≡ next o (λ ws rest. next (next (twin_read bound k ws rest) (λ w. parsed (w ∷ []))) (λ x. parsed (ws ++ x)))
      go (unparsed n) = refl
      go (parsed done rest) = last done (twin_read bound k done rest)

  module _ (twins rest : List ℕ) (k : ℕ) (done : TwinsDone bound bytes twins rest k) where
    pub twin_lost : {n : ℕ} → k < length twins → word_read rest ≡ unparsed n → table_read (twin_read bound) (length twins) bytes ≡ unparsed n
    unfolding twin_read next
    twin_lost here e = stopped twins_p twins_q twins_step k done (rw e) (length twins) here

    module _ {w : ℕ} {rest' : List ℕ} (here : k < length twins) (word : word_read rest ≡ parsed w rest') where
      pub twin_broken : twin_kept bound (set twins k w) k ≡ false → table_read (twin_read bound) (length twins) bytes ≡ unparsed 9
      unfolding twin_read next kept
      twin_broken t = stopped twins_p twins_q twins_step k done (rw (word, twin_stored bound twins k w here, t)) (length twins) here

      pub twin_more : twin_kept bound (set twins k w) k ≡ true → TwinsDone bound bytes (set twins k w) rest' (k + 1)
      unfolding twin_read next kept
      twin_more t =
          one_more twins_p twins_q twins_step k {x = w ∷ []} {rest' = rest'} done (rw (word, twin_stored bound twins k w here, t))
          ∙ rw (add-one k, take-suc-set twins k w here)

    pub twins_end : length twins ≤ k → table_read (twin_read bound) k bytes ≡ parsed twins rest
    twins_end past = done ∙ ap {B = Parsed (List ℕ)} (λ (ws : List ℕ). parsed ws rest) (take_all k twins past)
