mod Knowing
mod Staying
mod Acting
mod Taking
