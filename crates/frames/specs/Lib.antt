-- What the contracts of this crate say beside the definitions, and its laws.
pub mod Words
pub mod Each
