-- What rests on definitions of specs/, one file a subject.
pub mod Calls
pub mod FirstN
pub mod Back
