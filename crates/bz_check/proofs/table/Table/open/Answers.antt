use Rattle.std.specs.Prelude.{◌≡◌, List, replicate, None}
use Rattle.std.proofs.Common.{refl}
use Rattle.bz_mark.specs.declared.power.Power.{Power}
use Rattle.bz_check.specs.declared.table.Caller.{Caller}
use Rattle.bz_check.specs.Tables.{Known, nobody, no_calls}
use Rattle.bz_check.proofs.table.Table.open.Goals as goal

begins_so : (callers : List Caller) (at_start : Power) → callers ≡ replicate 256 nobody → let t : Known = record { callers = callers; power = at_start; newest = None; cut = 0 } in t ≡ no_calls at_start
begins_so callers at_start e = rw e refl

pub returns : goal.returns
returns c = begins_so c.in_ok-callers.callers.items c.args.power (c.in_ok-callers.ensures.items_if_clones_equal (λ y h. h))
