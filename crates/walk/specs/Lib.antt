-- What the definitions say of an acceptance and of a search, and the bounds of what a turn and a rank come to.
pub mod Acceptance
pub mod Searches
pub mod Bounds
pub mod Tests
