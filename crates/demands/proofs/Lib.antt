pub mod Contracts
pub mod RoundTrip
pub mod Demand3
pub mod Ceiling
pub mod Instance
