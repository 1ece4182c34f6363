-- The forms of a line that cuts the power, or turns it on; other scripts have them too.
use Rattle.std.specs.Prelude.{ℕ, ◌==◌, if◌then◌else◌, Bool, List, length, Option, Some, None, Result, Ok, Err}
use Rattle.bz_script.specs.Number.{number_of, within}
use Rattle.bz_script.specs.Words.{word}
use Rattle.bz_script.specs.declared.cut_plan.CutPlan.{CutPlan}
use Rattle.bz_script.specs.declared.fault.ScriptRule.{ScriptRule}
use Rattle.bz_script.specs.declared.fault.ScriptRule.TheVariants.{Words, Number}
use Rattle.bz_script.specs.declared.item.Item.{Item}
use Rattle.bz_script.specs.declared.item.Item.TheVariants.{Arm, Power}

-- the numbers of a `cut` line, looked at from left to right
abbrev pub cut_by : Option ℕ → Option ℕ → Result CutPlan ScriptRule
cut_by None seed = Err Number
cut_by (Some flush) None = Err Number
cut_by (Some flush) (Some seed) = Ok (record { flush = flush; seed = seed })

-- `cut FENCE SEED`
abbrev pub cut_of : List (List ℕ) → Result CutPlan ScriptRule
cut_of words =
    if length words == 3
    then cut_by (within 1 33554432 (number_of (word words 1))) (number_of (word words 2))
    else Err Words

-- the item of a cut, once it was read
abbrev pub armed : Result CutPlan ScriptRule → Result Item ScriptRule
armed (Err rule) = Err rule
armed (Ok cut) = Ok (Arm cut.flush cut.seed)

-- `power`: no word follows
abbrev pub is_power : List (List ℕ) → Bool
is_power words = length words == 1

abbrev pub power_of : List (List ℕ) → Result Item ScriptRule
power_of words = if is_power words then Ok Power else Err Words
