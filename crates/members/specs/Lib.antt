-- What the questions about a map's members go by: tables with a slot for each item, or for each bucket.
pub mod Tables
pub mod Levels
pub mod Weights
pub mod Present
pub mod Once
pub mod Totals
pub mod Counts
pub mod Sums
