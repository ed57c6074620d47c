pub mod Compiled
pub mod Day
