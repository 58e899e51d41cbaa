-- What only private functions ask and leave; no promise to a caller rests on it.
pub mod Batches
pub mod Builds
pub mod Finishes
pub mod FinishesBare
