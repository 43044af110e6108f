pub mod Moves
pub mod Fills
pub mod Cuts
