pub mod ThreeCauses
pub mod Through
pub mod Trees
pub mod Blocks
pub mod Reached
