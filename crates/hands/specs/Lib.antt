pub mod Refused
pub mod Source
pub mod Laid
pub mod Steps
pub mod Match
