-- The draw with a guard, and the hashes of a draw.
pub mod Guard
pub mod Hashes
