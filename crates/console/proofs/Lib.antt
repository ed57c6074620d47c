-- What several proofs share.
pub mod Outcomes
pub mod Rest
pub mod Row
