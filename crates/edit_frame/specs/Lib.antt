pub mod Found
pub mod Sums
