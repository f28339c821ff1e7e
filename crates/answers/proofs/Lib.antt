mod Alone
mod Openings
mod Wholes
mod Begins
mod Promises
mod Tables
