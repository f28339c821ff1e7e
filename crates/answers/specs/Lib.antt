pub mod Text
pub mod Files
pub mod Ready
pub mod Promised
pub mod Hands
pub mod Steps
pub mod Proposed
pub mod Faults
