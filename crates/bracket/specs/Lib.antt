pub mod Turned
pub mod Halves
pub mod Verdicts
pub mod Chairs
