-- What follows of a map's text, one file a layer, from its digits to its map and to load.
pub mod Digits
pub mod Front
pub mod Lines
pub mod Frames
pub mod Shape
pub mod Sections
pub mod Places
pub mod Map
pub mod Rows
pub mod Ends
pub mod RoundTrip
pub mod Records
pub mod Edit
pub mod Loading
pub mod Agreement
