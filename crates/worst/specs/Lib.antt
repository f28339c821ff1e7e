pub mod Items
pub mod Spread
pub mod Worth
pub mod Rows
pub mod Group
pub mod Whole
pub mod Admit
