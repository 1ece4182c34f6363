-- What becomes of an allowance.
use Rattle.std.specs.Prelude.{ℕ, ◌+◌, ◌-◌}
use Rattle.bz_swap_machine.specs.declared.place.Place.{Place}
use Rattle.bz_swap_machine.specs.declared.place.Place.TheVariants as place
use Rattle.bz_swap_machine.specs.Allowed.{for_worker}
use Rattle.bz_swap.specs.declared.allowance.Allowance.{Allowance}
use Rattle.bz_swap.specs.Solo.{steps_left}

-- worker w, which did nothing, has started what allows so much
abbrev pub after_start : Allowance → ℕ → ℕ → Allowance
after_start a w more = record { runner = w; left = steps_left a.runner a.left a.all w + more; all = a.all + for_worker }

-- what all workers allow, when one of them has come to this place
abbrev pub all_after : ℕ → Place → ℕ
all_after all place.Idle = all - for_worker
all_after all other = all

-- worker w has made a step, which led it to this place
abbrev pub after_step : Allowance → ℕ → Place → Allowance
after_step a w at = record { runner = w; left = steps_left a.runner a.left a.all w - 1; all = all_after a.all at }
