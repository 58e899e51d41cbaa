-- What only private functions ask and leave, and what the laws speak of; no promise to a caller rests on it.
pub mod Leads
pub mod States
pub mod Search
pub mod Tables
pub mod Visits
pub mod Plans
