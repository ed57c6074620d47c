pub mod Returned
pub mod States
