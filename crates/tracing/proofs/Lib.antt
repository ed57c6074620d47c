-- What rests on definitions of specs/, one file a subject.
pub mod Held
pub mod Traced
pub mod Cause
pub mod Moves
