-- Every changed place's cause is traced to the edited device, one file a subject.
pub mod Runs
pub mod Items
pub mod Listed
pub mod Held
pub mod Parting
pub mod Edited
pub mod Traced
pub mod Cause
pub mod Moves
