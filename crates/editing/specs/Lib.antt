pub mod Fitting
pub mod Paired
pub mod Reaching
