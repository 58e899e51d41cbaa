pub mod Handing
pub mod Marking
pub mod Passes
pub mod Applying
