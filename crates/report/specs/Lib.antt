-- What the lines behind the map do in programs `fill` and `operate`, and what the proofs say of it.
pub mod Edits
pub mod Says
pub mod Kept
pub mod Padded
pub mod Reads
pub mod Again
