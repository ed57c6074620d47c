-- What rests on definitions of specs/, one file a subject.
pub mod Tree
pub mod OnePlace
