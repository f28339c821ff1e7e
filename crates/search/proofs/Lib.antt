mod Round
mod Steps
