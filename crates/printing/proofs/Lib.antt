-- Laws that the proofs of printing cite.
pub mod Puts
pub mod Decimal
pub mod Texts
pub mod Settled
pub mod Ready
pub mod Short
pub mod Examples
pub mod Suffices
pub mod Apart
