mod Put
mod Lay
mod Writers
mod Fairs
mod Rounds
mod Deals
mod Counts
mod Equal
mod Sees
mod Tables
mod Valid
mod Like
mod Numbers
mod Reading
pub mod Measures
mod Indexes
mod Fills
mod Builds
mod Choices
pub mod Offers
pub mod Reps
pub mod Siblings
