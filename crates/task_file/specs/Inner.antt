-- What only private functions ask and leave; no promise to a caller rests on it.
pub mod Filled
pub mod Answers
pub mod Tables
pub mod Filling
