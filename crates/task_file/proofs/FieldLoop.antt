-- The loop over the fields of a map. Assumes nothing.
use Prim.Native.Nat.{ℕ, suc, ◌+◌, ◌/◌, ◌%◌, ◌<◌, ◌≤◌}
use native.Mathlib.Numerals.{add-one}
use native.Mathlib.Omega.{arith}
use mathlib.Core.Path.{◌≡◌, refl, ap, ◌∙◌}
use mathlib.Core.List.{List, [], ◌∷◌, ◌++◌, append_assoc, append-nil}
use lib.ListN.{length, get_or, take, drop, set, drop_of_length-le}
use Rattle.std.proofs.lemmas.List.{take_all}
use lib.Seq.{drop-cons, take-suc-set, drop-set-lt}
use Rattle.file_format.specs.Parse.{Parsed, parsed, unparsed, next, field_read, fields_read}

-- What the loop has done before field i: the fields before it are read, those from it on are still their defaults.
abbrev pub FieldsDone : (defaults : List ℕ) (map : ℕ) (bytes : List ℕ) (fields : List ℕ) (bits : ℕ) (rest : List ℕ) (i : ℕ) → Type 0
FieldsDone defaults map bytes fields bits rest i =
    fields_read defaults map bytes ≡ next (fields_read (drop i fields) bits rest) (λ ws. parsed (take i fields ++ ws))

next_same : (o : Parsed (List ℕ)) → o ≡ next o (λ ws. parsed ([] ++ ws))
unfolding next
next_same (parsed ws rest) = refl
next_same (unparsed n) = refl

pub fields_begin : (defaults : List ℕ) (map : ℕ) (bytes : List ℕ) → FieldsDone defaults map bytes defaults map bytes 0
fields_begin defaults map bytes = next_same (fields_read defaults map bytes)

module _ (all : Parsed (List ℕ)) (fields : List ℕ) (bits : ℕ) (rest : List ℕ) (i : ℕ) (here : i < length fields)
    (done : all ≡ next (fields_read (drop i fields) bits rest) (λ ws. parsed (take i fields ++ ws))) where
  pub field_lost : {n : ℕ} → field_read (get_or fields i 0) (bits % 2) rest ≡ unparsed n → all ≡ unparsed n
  unfolding next fields_read
  field_lost e = done ∙ rw (drop-cons fields i 0 here, e)

  pub field_more :
      {w : ℕ} {rest' : List ℕ}
      → field_read (get_or fields i 0) (bits % 2) rest ≡ parsed w rest'
      → all ≡ next (fields_read (drop (i + 1) (set fields i w)) (bits / 2) rest') (λ ws. parsed (take (i + 1) (set fields i w) ++ ws))
  unfolding next fields_read
  field_more {w} {rest'} e =
      done
      ∙ rw (drop-cons fields i 0 here, e, add-one i, take-suc-set fields i w here, drop-set-lt (suc i) fields i w (omega arith))
      (go (fields_read (drop (suc i) fields) (bits / 2) rest'))
    where
      go :
          (o : Parsed (List ℕ))
          → next (next o (λ ws. parsed (w ∷ ws))) (λ ws. parsed (take i fields ++ ws))
          ≡ next o (λ ws. parsed ((take i fields ++ (w ∷ [])) ++ ws))
      go (parsed ws r) = rw append_assoc refl
      go (unparsed n) = refl

pub fields_end :
    (all : Parsed (List ℕ)) (fields : List ℕ) (bits : ℕ) (rest : List ℕ) (i : ℕ)
    → length fields ≤ i
    → all ≡ next (fields_read (drop i fields) bits rest) (λ ws. parsed (take i fields ++ ws))
    → all ≡ parsed fields rest
unfolding next fields_read
fields_end all fields bits rest i past done =
    done ∙ rw (drop_of_length-le fields past, take_all i fields past) (ap (λ (ws : List ℕ). parsed ws rest) (append-nil fields))
