-- The places of the twins: all past them, then one after another from the last twin down. Assumes nothing.
use Prim.Native.Nat.{ℕ, suc, ◌+◌, ◌-◌, ◌≤◌, ◌<◌}
use native.Mathlib.Omega.{arith}
use mathlib.Core.Path.{◌≡◌, refl, sym, ap, ◌∙◌}
use mathlib.Core.Bool.{Bool, true, false, cond}
use mathlib.Core.List.{List, [], ◌∷◌, ◌++◌}
use Rattle.std.proofs.Common.{length-append, length-drop}
use Rattle.std.proofs.Math.ListN.{get_or-append}
use Rattle.std.proofs.lemmas.List.{get_or-replicate, length-replicate}
use Rattle.std.proofs.lemmas.Slice.{drop-append-drop}
use lib.ListN.{length, get_or, take, drop, set, replicate, length-set}
use lib.Seq.{length-take-le, drop-length, drop-cons, drop-set-lt, get_or-take, get_or-set_same, get_or-set_other}
use lib.Dec.{eqb}
use borrow.Author.Tests.{eqb-true, eqb-false}
use Rattle.normal_form.specs.Builder.{place}
use Rattle.rule_writer.specs.Inner.Places.{PlacesReady}

-- The twins from k on have their places.
pub record Numbered (originals places : List ℕ) (v w : ℕ) (now : List ℕ) (k : ℕ) : Type 0 where
  pub same : length now ≡ length places
  pub at : (u : ℕ) → u < v → get_or now u 0 ≡ k + place eqb u (drop k (take w originals))
  pub behind : drop v now ≡ drop v places

module _ (originals places : List ℕ) (v w : ℕ) (ready : PlacesReady originals places v w) where
  abbrev twins : List ℕ
  twins = take w originals

  long : length (take w originals) ≡ w
  long = length-take-le w originals ready.twins

  none_past : drop w (take w originals) ≡ []
  none_past = ap (λ (k : ℕ). drop k (take w originals)) (sym long) ∙ drop-length (take w originals)

  pub numbered_none :
      (now : List ℕ)
      → now ≡ replicate v w ++ drop v places
      → Numbered originals places v w now w
  unfolding place
  numbered_none now e =
      let long : length (replicate v w) ≡ v = length-replicate v w in
      record {
        same = ap length e ∙ length-append (replicate v w) (drop v places) ∙ omega (arith, long, length-drop v places, ready.space);
        at = λ u h. rw (e, none_past) (get_or-append (replicate v w) (drop v places) 0 u (omega arith) ∙ get_or-replicate v u w 0 h ∙ omega arith);
        behind = ap (drop v) e ∙ drop-append-drop v places (replicate v w) v (omega arith) long;
      }

  pub numbered_more :
      (now : List ℕ) (k : ℕ)
      → Numbered originals places v w now k
      → 0 < k
      → k ≤ w
      → Numbered originals places v w (set now (get_or originals (k - 1) 0) (k - 1)) (k - 1)
  unfolding place
  numbered_more now k c h bound =
      record {
        same = length-set now original j ∙ c.same;
        at = λ u b. rw split (go u b (eqb original u) refl);
        behind = drop-set-lt v now original j (ready.below j (omega (arith, bound))) ∙ c.behind;
      }
    where
      j : ℕ
      j = k - 1

      original : ℕ
      original = get_or originals (k - 1) 0

      split : drop (k - 1) (take w originals) ≡ original ∷ drop k (take w originals)
      split =
          let e : suc j ≡ k = omega arith in
          drop-cons twins j 0 (omega (arith, long, bound))
          ∙ rw (e, get_or-take w originals j 0 (omega (arith, bound)))

      go :
          (u : ℕ)
          → u < v
          → (b : Bool)
          → eqb original u ≡ b
          → get_or (set now original j) u 0 ≡ j + cond b 0 (suc (place eqb u (drop k (take w originals))))
      go u l true e =
          let same : original ≡ u = eqb-true original u e in
          rw (sym same) (get_or-set_same now original j 0 (omega (arith, c.same, ready.space)) ∙ omega arith)
      go u l false e =
          get_or-set_other now original u j 0 (λ p. eqb-false original u e (sym p)) ∙ omega (arith, c.at u l)
