-- Reading the initial state: one law for each way out. Assumes nothing.
use Prim.Native.Nat.{ℕ, zero, suc, ◌<◌, ◌≤◌}
use native.Mathlib.Nat.{not-suc-le-zero}
use native.Mathlib.Decide.{dec_lt}
use native.Mathlib.Omega.{arith}
use mathlib.Core.Path.{◌≡◌}
use mathlib.Core.Bool.{true, false}
use mathlib.Core.List.{List}
use lib.ListN.{length, get_or, take, drop, take-append-drop}
use lib.Seq.{length-take-le, drop-length}
use Rattle.task.specs.Bounded.{upto}
use Rattle.file_format.specs.Bytes.{bytes_for}
use Rattle.file_format.specs.Parse.{parsed, unparsed, next, kept, byte_read, table_read}
use Rattle.file_format.specs.Reading.{bit_of, spare_clear, initial_read}
use Rattle.file_format.proofs.Fields.{byte_reads}
use Rattle.file_format.proofs.Table.{table_reads}
use Rattle.file_format.proofs.Tables.{one_byte, bytes_joined, plain_byte}

-- so many plain bytes
plain_there : (n : ℕ) (bytes : List ℕ) → n ≤ length bytes → table_read plain_byte n bytes ≡ parsed (take n bytes) (drop n bytes)
unfolding plain_byte one_byte
plain_there n bytes h =
    let e = table_reads one_byte plain_byte 0 (take n bytes) (λ i h rest. byte_reads (get_or (take n bytes) i 0) rest) (drop n bytes) in
    rw (length-take-le n bytes h, bytes_joined (take n bytes), take-append-drop n bytes) at e

plain_short : (n : ℕ) (bytes : List ℕ) → length bytes < n → table_read plain_byte n bytes ≡ unparsed 1
unfolding table_read next plain_byte byte_read
plain_short zero bytes h = absurd (not-suc-le-zero h)
plain_short (suc n) bytes h = go (plain_short n bytes) (dec_lt (length bytes) n)
  where
    go : (length bytes < n → table_read plain_byte n bytes ≡ unparsed 1) → Dec (length bytes < n) → table_read plain_byte (suc n) bytes ≡ unparsed 1
    go ih (yes l) = rw (ih l)
    go ih (no m) =
        let e : n ≡ length bytes = omega arith in
        rw (e, plain_there (length bytes) bytes (omega arith), drop-length bytes)

module _ (v : ℕ) (bytes : List ℕ) where
  pub state_short : length bytes < bytes_for v → initial_read v bytes ≡ unparsed 1
  unfolding initial_read next plain_byte
  state_short h = rw (plain_short (bytes_for v) bytes h)

  module _ (enough : bytes_for v ≤ length bytes) where
    pub state_unclear : spare_clear (take (bytes_for v) bytes) v ≡ false → initial_read v bytes ≡ unparsed 2
    unfolding initial_read next kept plain_byte
    state_unclear e = rw (plain_there (bytes_for v) bytes enough, e)

    pub state_there :
        spare_clear (take (bytes_for v) bytes) v ≡ true
        → initial_read v bytes ≡ parsed (upto v (bit_of (take (bytes_for v) bytes))) (drop (bytes_for v) bytes)
    unfolding initial_read next kept plain_byte
    state_there e = rw (plain_there (bytes_for v) bytes enough, e)
