pub mod Passing
pub mod Walks
pub mod InOrder
