mod Weights
mod Products
pub mod Reading
pub mod Planned
