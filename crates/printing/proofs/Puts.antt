-- Texts that are put one after another. Assumes nothing.
use Prim.Native.Nat.{ℕ, suc, ◌+◌, ◌≤◌}
use native.Mathlib.Nat.{add-zero}
use native.Mathlib.Omega.{arith}
use mathlib.Core.Path.{◌≡◌, refl, sym, ap, ap₂, ◌∙◌}
use mathlib.Core.List.{List, [], ◌∷◌, ◌++◌}
use lib.ListN.{length, set, length-append}
use lib.Seq.{sets, length-sets}
use Rattle.printing.specs.Inner.Put.{Put}

sets_append : (vs ws l : List ℕ) (i : ℕ) → sets l i (vs ++ ws) ≡ sets (sets l i vs) (i + length vs) ws
sets_append [] ws l i = ap (λ (k : ℕ). sets l k ws) (sym (add-zero i))
sets_append (a ∷ vs) ws l i =
    let e : suc i + length vs ≡ i + suc (length vs) = omega arith in
    sets_append vs ws (set l i a) (suc i) ∙ ap (λ (k : ℕ). sets (sets (set l i a) (suc i) vs) k ws) e

pub nothing_put : (l : List ℕ) (at : ℕ) → Put l at [] 0 l at
nothing_put l at = record { stored = refl; counted = sym (add-zero at); short = omega arith }

module _ {before mid after x y : List ℕ} {at next last m k : ℕ} where
  pub then_put : Put before at x m mid next → Put mid next y k after last → Put before at (x ++ y) (m + k) after last
  then_put p q =
      record {
        stored =
            q.stored
            ∙ ap₂ (λ (l : List ℕ) (n : ℕ). sets l n y) p.stored p.counted
            ∙ sym (sets_append x y before at);
        counted = omega (arith, p.counted, q.counted, length-append x y);
        short = omega (arith, p.short, q.short, length-append x y);
      }

module _ {before after text : List ℕ} {at next most : ℕ} where
  -- the same text, said otherwise, and a wider bound
  pub put_as : {same : List ℕ} {more : ℕ} → Put before at text most after next → text ≡ same → most ≤ more → Put before at same more after next
  put_as p e h =
      record {
        stored = p.stored ∙ ap (sets before at) e;
        counted = p.counted ∙ ap (λ (t : List ℕ). at + length t) e;
        short = omega (arith, p.short, ap length e);
      }

  -- .. and a bound of its own
  pub put_short : {same : List ℕ} {more : ℕ} → Put before at text most after next → text ≡ same → length same ≤ more → Put before at same more after next
  put_short p e h =
      record { stored = p.stored ∙ ap (sets before at) e; counted = p.counted ∙ ap (λ (t : List ℕ). at + length t) e; short = h }

  pub put_length : Put before at text most after next → length after ≡ length before
  put_length p = ap length p.stored ∙ length-sets before at text
