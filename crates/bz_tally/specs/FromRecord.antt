-- What crates above take of bz_record by this one.
pub use Rattle.bz_record.specs.Records
