mod Lines
mod Scripts
mod Jobs
