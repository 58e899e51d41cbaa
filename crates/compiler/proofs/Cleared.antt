-- Tables that are all 0. Assumes nothing.
use Prim.Native.Nat.{ℕ}
use mathlib.Core.Path.{◌≡◌, sym, ap, ◌∙◌}
use mathlib.Core.List.{List}
use lib.ListN.{length, get_or, replicate, length-replicate}
use Rattle.normal_form.specs.Compiled.{Room}
use Rattle.building.specs.Inner.Taken.{Zeros}
use Rattle.compile_parts.proofs.Asked.{zero_at}
use Rattle.compiler.specs.Inner.Fills.{Blanked}
use Rattle.compiler.specs.Tables.{Tables, room_of}

pub zeros : (l : List ℕ) → l ≡ replicate (length l) 0 → Zeros l
zeros l e j = ap (λ (m : List ℕ). get_or m j 0) e ∙ zero_at (length l) j

-- length by length
pub as_long :
    {i w f e o s i2 w2 f2 e2 o2 s2 : ℕ}
    → i2 ≡ i
    → w2 ≡ w
    → f2 ≡ f
    → e2 ≡ e
    → o2 ≡ o
    → s2 ≡ s
    → ◌≡◌ {A = Room} (record { initial = i2; twins = w2; formulas = f2; effects = e2; operators = o2; scratch = s2 }) (record { initial = i; twins = w; formulas = f; effects = e; operators = o; scratch = s })
as_long a b c d e f = λ i. record { initial = a i; twins = b i; formulas = c i; effects = d i; operators = e i; scratch = f i }

-- tables as long are cleared alike
pub blanked_as : {x y z : Tables} → room_of y ≡ room_of x → Blanked y z → Blanked x z
blanked_as e b =
    record {
      initial = b.initial ∙ ap (λ (r : Room). replicate r.initial 0) e;
      twins = b.twins ∙ ap (λ (r : Room). replicate r.twins 0) e;
      formulas = b.formulas ∙ ap (λ (r : Room). replicate r.formulas 0) e;
      effects = b.effects ∙ ap (λ (r : Room). replicate r.effects 0) e;
      operators = b.operators ∙ ap (λ (r : Room). replicate r.operators 0) e;
      scratch = b.scratch ∙ ap (λ (r : Room). replicate r.scratch 0) e;
    }

pub same_room : {x y : Tables} → Blanked x y → room_of y ≡ room_of x
same_room {x} {y} b = λ i.
    record {
      initial = (ap length b.initial ∙ length-replicate {A = ℕ} (length x.initial) 0) i;
      twins = (ap length b.twins ∙ length-replicate {A = ℕ} (length x.twins) 0) i;
      formulas = (ap length b.formulas ∙ length-replicate {A = ℕ} (length x.formulas) 0) i;
      effects = (ap length b.effects ∙ length-replicate {A = ℕ} (length x.effects) 0) i;
      operators = (ap length b.operators ∙ length-replicate {A = ℕ} (length x.operators) 0) i;
      scratch = (ap length b.scratch ∙ length-replicate {A = ℕ} (length x.scratch) 0) i;
    }

pub blanked_self : {x y : Tables} → Blanked x y → Blanked y y
blanked_self b = blanked_as (sym (same_room b)) b

-- tables that were 0, and are cleared again, are the same
pub cleared_again : {x y z : Tables} → Blanked x x → room_of y ≡ room_of x → Blanked y z → z ≡ x
cleared_again {x} {y} {z} b e c =
    let d : Blanked x z = blanked_as e c in
    λ i.
    record {
      initial = (d.initial ∙ sym b.initial) i;
      twins = (d.twins ∙ sym b.twins) i;
      formulas = (d.formulas ∙ sym b.formulas) i;
      effects = (d.effects ∙ sym b.effects) i;
      operators = (d.operators ∙ sym b.operators) i;
      scratch = (d.scratch ∙ sym b.scratch) i;
    }
