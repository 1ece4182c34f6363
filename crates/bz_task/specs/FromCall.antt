-- What crates above take of bz_call by this one.
pub use Rattle.bz_call.specs.Pages
