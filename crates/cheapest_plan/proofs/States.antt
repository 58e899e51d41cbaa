-- Laws of states of V bits: a code is below 2^V and tells the state, and each number below 2^V is the code of one. Assumes nothing.
pub use Rattle.state_codes.proofs.States.{code_below, code_tells, state_bits, code_of_state, state_of_code}
