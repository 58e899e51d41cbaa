-- The bytes of a plan: running reads the numbers from them again. Assumes nothing.
use Prim.Native.Nat.{ℕ, zero, suc, ◌+◌, ◌*◌, ◌/◌, ◌%◌, ◌<◌}
use native.Mathlib.Omega.{arith}
use mathlib.Core.Path.{◌≡◌, refl, ap, ◌∙◌}
use mathlib.Core.List.{List, [], ◌∷◌}
use lib.ListN.{length, get_or}
use lib.Seq.{ext_get_or}
use Rattle.task.specs.Words.{joined}
use Rattle.task.proofs.Bounded.{getD_upto}
use Rattle.file_format.specs.Bytes.{word_bytes}
use Rattle.layouts.specs.Layout.{numbers_of}
use Rattle.layouts.proofs.RunWays.{numbers_length}
use Rattle.layouts.proofs.Sizes.{length_word_bytes}

low_byte : (numbers : List ℕ) (i : ℕ) → i < length numbers → get_or (joined word_bytes numbers) (2 * i) 0 ≡ get_or numbers i 0 % 256
unfolding joined word_bytes
low_byte [] i h = absurd (omega arith)
low_byte (w ∷ rest) zero h = refl
low_byte (w ∷ rest) (suc i) h =
    let two : 2 * suc i ≡ suc (suc (2 * i)) = omega arith in
    ap (λ (k : ℕ). get_or (joined word_bytes (w ∷ rest)) k 0) two ∙ low_byte rest i (omega arith)

high_byte : (numbers : List ℕ) (i : ℕ) → i < length numbers → get_or (joined word_bytes numbers) (2 * i + 1) 0 ≡ get_or numbers i 0 / 256
unfolding joined word_bytes
high_byte [] i h = absurd (omega arith)
high_byte (w ∷ rest) zero h = refl
high_byte (w ∷ rest) (suc i) h =
    let two : 2 * suc i + 1 ≡ suc (suc (2 * i + 1)) = omega arith in
    ap (λ (k : ℕ). get_or (joined word_bytes (w ∷ rest)) k 0) two ∙ high_byte rest i (omega arith)

number_at : (bytes : List ℕ) (i : ℕ) → i < length bytes / 2 → get_or (numbers_of bytes) i 0 ≡ get_or bytes (2 * i) 0 + 256 * get_or bytes (2 * i + 1) 0
unfolding numbers_of
number_at bytes i h = getD_upto (length bytes / 2) (λ (j : ℕ). get_or bytes (2 * j) 0 + 256 * get_or bytes (2 * j + 1) 0) i 0 h

pub numbers_of_words : (numbers : List ℕ) → numbers_of (joined word_bytes numbers) ≡ numbers
numbers_of_words numbers = ext_get_or 0 (numbers_of bytes) numbers (numbers_length bytes ∙ half) same
  where
    bytes : List ℕ
    bytes = joined word_bytes numbers

    half : length bytes / 2 ≡ length numbers
    half = omega (arith, length_word_bytes numbers)

    same : (i : ℕ) → i < length (numbers_of bytes) → get_or (numbers_of bytes) i 0 ≡ get_or numbers i 0
    same i h =
        let below : i < length numbers = omega (arith, numbers_length bytes, half) in
        omega (arith, number_at bytes i (omega (arith, half)), low_byte numbers i below, high_byte numbers i below)
