pub mod Samples
pub mod Libcrush
