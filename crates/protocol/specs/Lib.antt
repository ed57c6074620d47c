-- What programs `fill` and `operate` read as the map, what a line behind it asks for, and the lines that they print.
pub mod Input
pub mod Asked
pub mod Forms
pub mod Lines
pub mod Written
