pub mod Step
pub mod States
pub mod Returns
pub mod Calls
pub mod FirstN
pub mod Ceiling
