-- What the arrays hold, and that they are the map's.
pub mod Reading
pub mod Links
pub mod Weighing
pub mod Trees
pub mod Compiled
pub mod Returned
pub mod Dead
pub mod Living
