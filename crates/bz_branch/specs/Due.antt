-- The status of an inner node that may be split.
use Rattle.std.specs.Prelude.{ℕ, ◌+◌, ◌<◌, false}
use Rattle.bz_layout.specs.declared.thresholds.TheConstants.{INNER_LIMIT}
use Rattle.bz_word.specs.Statuses.{status}
use Rattle.bz_renew.specs.Due.{IsStatusOf}

-- it is that of a node that is not frozen, and counts more words than an inner node may keep
pub record IsFullStatus (st : ℕ) : Type 0 where
  pub thawed : IsStatusOf false st
  pub many : INNER_LIMIT < (status st).count + (status st).block
