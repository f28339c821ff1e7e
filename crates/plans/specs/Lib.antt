pub mod Plan
pub mod Numbers
pub mod Refusals
pub mod Bases
pub mod Bytes
pub mod Stands
pub mod Weights
