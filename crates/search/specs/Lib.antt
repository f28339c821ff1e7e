pub mod Taken
pub mod Encoded
