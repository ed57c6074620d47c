-- Selects and the rule without their walks, what holds of their entries, and what a loadable map gives.
pub mod Bare
pub mod Entries
pub mod Chosen
pub mod Ruled
pub mod Working
pub mod Progress
pub mod Row
pub mod Loaded
pub mod Lengths
pub mod Made
