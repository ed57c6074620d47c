pub mod Sections
pub mod Sums
pub mod Arrays
pub mod Tables
