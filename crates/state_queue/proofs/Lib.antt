pub mod Changes
pub mod Keys
pub mod Lowering
pub mod Playing
pub mod Raising
pub mod Tournament
