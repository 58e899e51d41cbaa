-- What was recorded gives the rules of the definition, and each record two effect rows or more. Assumes nothing.
use Prim.Native.Nat.{ℕ, zero, suc, ◌+◌, ◌-◌, ◌*◌, ◌≤◌, ◌<◌}
use native.Mathlib.Omega.{arith}
use native.Mathlib.Nat.{not-suc-le-zero}
use mathlib.Core.Path.{◌≡◌, refl, sym, ap, ap₂, ◌∙◌}
use mathlib.Core.List.{List, [], ◌∷◌}
use lib.ListN.{length, get_or}
use Rattle.task.specs.Bounded.{upto}
use Rattle.task.specs.Table.{row_at, operator_at}
use Rattle.task.proofs.Bounded.{getD_upto}
use Rattle.normal_form.specs.Operators.{Changes, Built}
use Rattle.normal_form.specs.Assembly.{Assembled, assemble_operator, assemble, unassembled}
use Rattle.normal_form.proofs.ShapeCounts.{assemble_split}
use Rattle.normal_form.proofs.ShapeFinished.{no_changes}
use Rattle.normal_form.proofs.ShapeRules.{All, none, also}
use Rattle.formula_builder.specs.declared.Frame.{Frame}
use Rattle.change_records.specs.Inner.Recorded.{acting, change_at, changes_from}
use Rattle.change_records.proofs.Acting.{acting_operator, operator_more}
use Rattle.building.specs.Inner.Taken.{changes_here, many, Kept}
use Rattle.building.proofs.Kept.{many_suc, many_fewer, acting_below}
use Rattle.building.proofs.Parts.{made_here}
use Rattle.assembling.specs.Inner.Assembles.{changes_between, built_of, begins_at, built_in, assembled_in, InOrder}

-- with the changes that bring rules alone
abbrev acted : Built → Built
acted b = record { precondition = b.precondition; changes = acting b.changes; source = b.source }

module _ (n : ℕ) (twins : List ℕ) where
  last_one :
      (m : ℕ) (f : ℕ → Built)
      → assemble n twins unassembled (upto (suc m) f) ≡ assemble_operator n twins (assemble n twins unassembled (upto m f)) (f m)
  unfolding upto
  last_one m f =
      assemble_split n twins unassembled (upto m f) (f m ∷ []) ∙ one (assemble n twins unassembled (upto m f)) (f m)
    where
      one : (a : Assembled) (b : Built) → assemble n twins a (b ∷ []) ≡ assemble_operator n twins a b
      one a b = unfold assemble in refl

  acted_same :
      (m : ℕ) (f g : ℕ → Built)
      → ((o : ℕ) → o < m → g o ≡ acted (f o))
      → assemble n twins unassembled (upto m g) ≡ assemble n twins unassembled (upto m f)
  acted_same zero f g same = unfold upto in refl
  acted_same (suc m) f g same =
      last_one m g
      ∙ ap₂ (assemble_operator n twins) (acted_same m f g (λ o h. same o (omega arith))) (same m (omega arith))
      ∙ acting_operator n twins (assemble n twins unassembled (upto m f)) (f m)
      ∙ sym (last_one m f)

-- each of a list, at its place
all_has : {P : Changes → Type 0} (d : Changes) (cs : List Changes) (i : ℕ) → All P cs → i < length cs → P (get_or cs i d)
all_has d [] i none h = absurd (not-suc-le-zero h)
all_has d (c ∷ cs) zero (also p ps) h = p
all_has d (c ∷ cs) (suc i) (also p ps) h = all_has d cs i ps (omega arith)

-- The operators that are recorded.
module _ (frame : Frame) (formulas effects operators records : List ℕ) (n : ℕ) (each : (o : ℕ) → o < n → Kept frame formulas effects operators records o) where
  begins_is : (o : ℕ) → o < n → begins_at records o ≡ many frame formulas effects operators o
  unfolding begins_at
  begins_is zero h = unfold many in refl
  begins_is (suc o) h = (each o (omega arith)).end

  its_changes :
      (o : ℕ)
      → o < n
      → changes_between records (begins_at records o) (row_at records o).a ≡ acting (changes_here frame formulas effects operators o)
  unfolding changes_between
  its_changes o h =
      let width : (row_at records o).a - begins_at records o ≡ length (acting (changes_here frame formulas effects operators o)) =
      omega (arith, (each o h).end, begins_is o h, many_suc frame formulas effects operators o) in
      rw (width, begins_is o h) (each o h).changes

  its_built : (o : ℕ) → o < n → built_in operators records o ≡ acted (made_here frame formulas effects operators o)
  unfolding built_in built_of
  its_built o h =
      λ i.
      record {
        precondition = (each o h).precondition i;
        changes = its_changes o h i;
        source = operator_at operators o;
      }

  pub recalled :
      (variables : ℕ) (twins : List ℕ)
      → assembled_in variables twins operators records n
      ≡ assemble variables twins unassembled (upto n (made_here frame formulas effects operators))
  unfolding assembled_in
  recalled variables twins =
      acted_same variables twins n (made_here frame formulas effects operators) (built_in operators records) its_built

  its_change_below : (o i : ℕ) → o < n → begins_at records o ≤ i → i < (row_at records o).a → (change_at records i).variable < frame.variables
  unfolding changes_from
  its_change_below o i h from before =
      let all = acting (changes_here frame formulas effects operators o) in
      let j = i - begins_at records o in
      let long : j < length all = omega (arith, (each o h).end, begins_is o h, many_suc frame formulas effects operators o) in
      let here : many frame formulas effects operators o + j ≡ i = omega (arith, begins_is o h) in
      let read : get_or all j no_changes ≡ change_at records i =
      ap (λ (l : List Changes). get_or l j no_changes) (sym (each o h).changes)
      ∙ getD_upto (length all) (λ k. change_at records (many frame formulas effects operators o + k)) j no_changes long
      ∙ ap (change_at records) here in
      omega (
        arith,
        ap (λ (c : Changes). c.variable) read,
        all_has no_changes all j (acting_below frame formulas effects operators o) long,
      )

  pub in_order :
      (o : ℕ)
      → o < n
      → many frame formulas effects operators n ≤ 2048
      → InOrder frame.variables records (begins_at records o) (row_at records o).a
  in_order o h few =
      let end = (each o h).end in
      record {
        order = omega (arith, end, begins_is o h, many_suc frame formulas effects operators o);
        limit = omega (arith, end, many_fewer frame formulas effects operators (suc o) n (omega arith), few);
        below = λ i from before. its_change_below o i h from before;
      }

-- two effect rows for each
pub made_more :
    (frame : Frame) (formulas effects operators : List ℕ) (variables : ℕ) (twins : List ℕ) (n : ℕ)
    → 1 + 2 * many frame formulas effects operators n
    ≤ length (assemble variables twins unassembled (upto n (made_here frame formulas effects operators))).effects
made_more frame formulas effects operators variables twins zero = unfold upto many assemble unassembled in omega arith
made_more frame formulas effects operators variables twins (suc n) =
    let made = made_here frame formulas effects operators in
    omega (
      arith,
      made_more frame formulas effects operators variables twins n,
      many_suc frame formulas effects operators n,
      ap (λ (a : Assembled). length a.effects) (last_one variables twins n made),
      operator_more variables twins (assemble variables twins unassembled (upto n made)) (made n),
    )
