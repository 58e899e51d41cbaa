-- What only private functions ask and leave; no promise to a caller rests on it.
pub mod Rows
pub mod Values
pub mod Stored
pub mod Tables
