-- The cause of a place between two runs, through a select and through the rule.
pub mod Told
pub mod Under
pub mod Beside
pub mod Ends
pub mod Joint
