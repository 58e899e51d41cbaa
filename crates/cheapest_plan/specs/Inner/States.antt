-- States of V bits and their codes.
pub use Rattle.state_codes.specs.Inner.States.{Bits, code, state_of}
