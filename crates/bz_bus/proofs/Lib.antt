pub mod Entries
mod Views
mod Lines
mod Draws
mod Looks
mod Fills
mod Raises
mod Gives
mod Splits
mod Joins
mod Learns
mod Ends
