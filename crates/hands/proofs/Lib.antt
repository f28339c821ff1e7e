mod Fits
mod Falls
mod Kids
mod Plays
mod Turns
mod HandSteps
