-- What the proofs need of the bytes that are read, and what an error leaves.
pub mod Gathering
pub mod Leaving
