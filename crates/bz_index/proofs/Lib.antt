mod Lists
mod Leaves
mod Events
mod OpenCalls
mod Rests
mod Origins
mod Placed
mod OpenStays
mod Steps
mod Begins
mod Beginning
mod Runs
mod Going
mod Ends
mod Turned
mod Meanings
pub mod Proved
