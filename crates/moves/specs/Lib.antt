-- What is written of the rows of two runs where they differ, and that it is the moves and the table.
pub mod Changes
pub mod Applied
