-- Where a line may stand: what is armed is told by the script's text alone.
use Rattle.std.specs.Prelude.{◌≡◌, Bool, true, false, not, ◌&&◌, List, [], ◌∷◌}
use Rattle.bz_script.specs.declared.item.Item.{Item}
use Rattle.bz_script.specs.declared.item.Item.TheVariants.{Queue, Arm, Run, Power}
use Rattle.bz_script.specs.declared.item.Plan.{Plan}
use Rattle.bz_script.specs.declared.item.Plan.TheVariants.{Threads}
use Rattle.bz_script.specs.declared.order.Standing.{Standing}
use Rattle.bz_script.specs.declared.order.LineKind.{LineKind}
use Rattle.bz_script.specs.declared.order.LineKind.TheVariants as kind

-- no cut is armed, and none was used up
abbrev pub at_first : Standing
at_first = record { armed = false; used = false }

-- the plan takes no cut: none may be armed
abbrev pub takes_no_cut : Plan → Bool
takes_no_cut Threads = true
takes_no_cut other = false

-- what a line is, as far as where it may stand
abbrev pub kind_of : Item → LineKind
kind_of (Queue w call) = kind.Call
kind_of (Arm flush seed) = kind.Cut
kind_of (Run plan) = kind.Run (not (takes_no_cut plan))
kind_of Power = kind.Power

-- no second cut while one is armed; no run after a run or a power on that used a cut up, until a power on without one; and
-- no run on threads while a cut is armed
abbrev pub may_come : Standing → LineKind → Bool
may_come standing kind.Call = true
may_come standing kind.Cut = not standing.armed
may_come standing (kind.Run takes_cut) = not standing.used && not (standing.armed && not takes_cut)
may_come standing kind.Power = true

abbrev pub may_stand : Standing → Item → Bool
may_stand standing item = may_come standing (kind_of item)

-- a cut is armed, and the next run or power on uses it up
abbrev pub after_kind : Standing → LineKind → Standing
after_kind standing kind.Call = standing
after_kind standing kind.Cut = record { armed = true; used = standing.used }
after_kind standing (kind.Run takes_cut) = record { armed = false; used = standing.armed }
after_kind standing kind.Power = record { armed = false; used = standing.armed }

abbrev pub after : Standing → Item → Standing
after standing item = after_kind standing (kind_of item)

-- each item may stand where it does
abbrev pub AreInOrder : Standing → List Item → Type 0
AreInOrder standing [] = Unit {0}
AreInOrder standing (item ∷ items) = (may_stand standing item ≡ true) × AreInOrder (after standing item) items
