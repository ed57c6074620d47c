pub mod Buckets
pub mod Weights
