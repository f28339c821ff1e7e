pub mod Passed
pub mod Same
pub mod Good
pub mod Laws
pub mod Sheets
pub mod Rows
pub mod Walks
mod Examples
pub mod CountWords
pub mod CountLists
pub mod CountDecks
pub mod CountRounds
pub mod CountSights
