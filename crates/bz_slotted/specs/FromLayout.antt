-- What crates above take of bz_layout by this one.
pub use Rattle.bz_layout.specs.declared.config.Config
pub use Rattle.bz_layout.specs.declared.sizes.TheConstants
