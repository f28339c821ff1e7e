pub mod Read
pub mod Sound
pub mod Play
pub mod Sights
pub mod Memory
pub mod Statements
pub mod Walk
pub mod Counts
