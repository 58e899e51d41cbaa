pub mod Asked
pub mod Batched
pub mod Parted
pub mod SmallTask
