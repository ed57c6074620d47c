-- What two walks made at once say of the two lists of events, and the line of a move.
pub mod Parts
pub mod Lockstep
pub mod Meets
pub mod Rounds
pub mod MoveLine
