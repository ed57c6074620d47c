-- What follows of a rule's actions: their ranges, what is asked of each, how they stand in blocks, and how wide these are.
pub mod Actions
pub mod Standing
pub mod Widths
pub mod Products
