-- What crates above take of bz_page by this one.
pub use Rattle.bz_page.specs.Pages
