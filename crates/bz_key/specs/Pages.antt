-- What a buffer for a page keeps.
use Rattle.std.specs.Prelude.{ℕ, ◌≤◌}
use Rattle.bz_key.specs.declared.limits.TheConstants.{PAGE_PAIRS}

-- no more pairs than a page has, and room for all of these
pub record HasRoom (count capacity : ℕ) : Type 0 where
  pub fits : count ≤ PAGE_PAIRS
  pub room : PAGE_PAIRS ≤ capacity
