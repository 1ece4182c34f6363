-- What pays for more pays for less, and the start of an act is paid for.
use Rattle.std.proofs.Common.{◌+◌}
use Rattle.bz_costs.specs.Solo.{one_mark}
use Rattle.bz_costs.specs.Resources.{Resource}
use Rattle.bz_costs.specs.Stretches.{solo_stretch}
use Rattle.bz_costs.specs.Weights.{start_takes}
use Rattle.bz_rivals.specs.Rivals.{rivals}
use Rattle.bz_solo.specs.Steps.{LessIsPaid, StartsArePaid}
use Rattle.bz_solo.specs.Sum.{own_left, left_in}
use Rattle.bz_solo.proofs.Spending.{no-more, starts}

pub less-paid : (r : Resource) → LessIsPaid r
less-paid r m w e t untold extra less used by p l h = record {
  look = h.look;
  thawed = h.thawed;
  state = h.state;
  holds = h.holds;
  affords = record { enough = no-more _ (own_left r e) used less extra (left_in r h.state e t p) by l h.affords.enough };
}

pub starts-paid : (r : Resource) → StartsArePaid r
starts-paid r m n w e t untold used next by todo p more rivals_are h = record {
  look = h.look;
  thawed = h.thawed;
  state = h.state;
  holds = h.holds;
  affords = record { enough = starts (solo_stretch r + one_mark r) (rivals m w) (rivals n w) (own_left r e) used next (start_takes r todo) (left_in r h.state e t p) by rivals_are more h.affords.enough };
}
