pub mod Firsts
pub mod Numbers
pub mod Covering
pub mod Filling
