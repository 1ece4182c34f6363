-- What crates above take of bz_costs by this one.
pub use Rattle.bz_costs.specs.Costs
pub use Rattle.bz_costs.specs.Laws
pub use Rattle.bz_costs.specs.Solo
pub use Rattle.bz_costs.specs.Most
pub use Rattle.bz_costs.specs.Resources
pub use Rattle.bz_costs.specs.Weights
