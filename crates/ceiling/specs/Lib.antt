pub mod Passed
pub mod Source
pub mod Ceiling
pub mod Rows
