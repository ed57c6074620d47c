-- What the rows of two runs are, where they differ, and what that says of the table and of the moves.
pub mod Rows
pub mod Places
pub mod Surveyed
pub mod Between
pub mod Held
