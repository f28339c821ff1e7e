mod Products
pub mod Turns
pub mod Seats
