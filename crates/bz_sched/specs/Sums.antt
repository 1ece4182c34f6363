-- What a whole script needs, whose runs go one worker after the other, and in which no cut is armed for a run or a power on: by the sums of its items.
use Rattle.std.specs.Prelude.{◌≡◌, ℕ, ◌+◌, ◌*◌, ◌≤◌, if◌then◌else◌, ◌&&◌, Bool, true, false, List, [], ◌∷◌, length, slice_index, Option, Some, None}
use Rattle.bz_call.specs.Pages.{is_page}
use Rattle.bz_call.specs.declared.calls.Call.{Call}
use Rattle.bz_layout.specs.declared.config.Config.{Config}
use Rattle.bz_layout.specs.declared.thresholds.TheConstants.{MARKS_PER_CALL, MARKS_PER_POWER_ON, SLOTS_PER_CALL, SWAPS_PER_CALL}
use Rattle.bz_mark.specs.Log.{Limits, count_begins, count_page_calls}
use Rattle.bz_script.specs.declared.item.Item.{Item}
use Rattle.bz_script.specs.declared.item.Item.TheVariants.{Queue, Arm, Run, Power}
use Rattle.bz_script.specs.declared.item.Plan.{Plan}
use Rattle.bz_script.specs.declared.item.Plan.TheVariants.{Alone}
use Rattle.bz_mark.specs.declared.power.Power.TheVariants as power
use Rattle.bz_world.specs.WorldView.{WorldView, count_in, power_in, recovery_most}
use Rattle.bz_sched.specs.Enough.{AreClosed, count_pages, count_wanting, free_slots}
use Rattle.bz_script.specs.declared.cut_plan.CutPlan.{CutPlan}

-- the plan goes one worker after the other
abbrev pub is_alone : Plan → Bool
is_alone Alone = true
is_alone other = false

-- an item that neither runs nor turns the power on: it leaves a cut that is armed
abbrev pub is_idle : Item → Bool
is_idle (Queue w call) = true
is_idle (Arm flush seed) = true
is_idle (Run plan) = false
is_idle Power = false

abbrev pub are_idle : List Item → Bool
are_idle [] = true
are_idle (item ∷ items) = is_idle item && are_idle items

-- each item queues a call, runs by that plan, or turns the power on; or it arms a cut that is never made, for no run and no power on follows
abbrev pub are_plain : List Item → Bool
are_plain [] = true
are_plain (Queue w call ∷ items) = are_plain items
are_plain (Arm flush seed ∷ items) = are_idle items
are_plain (Run plan ∷ items) = is_alone plan && are_plain items
are_plain (Power ∷ items) = are_plain items

-- how many calls an item queues, how many of them ask for a page, and how many marks they take at most, or a power on: the acts of a
-- recovery, and a few more
abbrev pub calls_in : Item → ℕ
calls_in (Queue w call) = 1
calls_in other = 0

abbrev pub pages_in : Item → ℕ
pages_in (Queue w call) = if is_page call then 1 else 0
pages_in other = 0

abbrev pub marks_in : Config → Item → ℕ
marks_in c (Queue w call) = MARKS_PER_CALL
marks_in c Power = recovery_most c + MARKS_PER_POWER_ON
marks_in c other = 0

-- and of all items
abbrev pub sum_of : (Item → ℕ) → List Item → ℕ
sum_of count [] = 0
sum_of count (item ∷ items) = count item + sum_of count items

-- a journal within these limits has room for all of them, of a memory with these numbers
pub record SufficesFor (c : Config) (limits : Limits) (items : List Item) : Type 0 where
  pub plain : are_plain items ≡ true
  pub marks : sum_of (marks_in c) items ≤ limits.marks
  pub calls : sum_of calls_in items ≤ limits.calls
  pub pages : sum_of pages_in items ≤ limits.pages

-- and such a memory has as many descriptors as are promised for so many calls, and as many slots besides those that the tree of this start image reaches
pub record HasStockFor (c : Config) (start : List ℕ) (calls : ℕ) : Type 0 where
  pub swaps : SWAPS_PER_CALL * calls ≤ c.swaps
  pub slots : SLOTS_PER_CALL * calls + count_in c (slice_index start) ≤ c.nodes

-- in a world in which nothing has happened no descriptor is taken; with the power on all slots are free but those that the tree reaches
pub record IsStockedAtFirst (world : WorldView) : Type 0 where
  pub taken : world.supply.taken ≡ 0
  pub left : power_in world ≡ power.On → world.supply.left + count_in world.config (slice_index world.log.start) ≡ world.config.nodes

-- as much is left of both, and no call has ended for want so far
pub record Supplies (world : WorldView) (calls : ℕ) : Type 0 where
  pub swaps : world.supply.taken + SWAPS_PER_CALL * calls ≤ world.config.swaps
  pub slots : SLOTS_PER_CALL * calls ≤ free_slots world
  pub wanting : count_wanting world.log.past ≡ 0

-- where that is asked
abbrev pub SuppliesIf : Bool → WorldView → ℕ → Type 0
SuppliesIf false world calls = Unit {0}
SuppliesIf true world calls = Supplies world calls

abbrev pub WantsNothingIf : Bool → WorldView → Type 0
WantsNothingIf false world = Unit {0}
WantsNothingIf true world = count_wanting world.log.past ≡ 0

-- no cut is armed, or none of these items makes it
abbrev pub IsUnarmed : Option CutPlan → List Item → Type 0
IsUnarmed None items = Unit {0}
IsUnarmed (Some cut) items = are_idle items ≡ true

-- so has that of a world in which no call is open, while these calls wait
pub record Affords (supplied : Bool) (world : WorldView) (waiting : List (ℕ × Call)) (armed : Option CutPlan) (items : List Item) : Type 0 where
  pub unarmed : IsUnarmed armed items
  pub closed : AreClosed world.log.past
  pub plain : are_plain items ≡ true
  pub marks : length world.log.past + (MARKS_PER_CALL * length waiting + sum_of (marks_in world.config) items) ≤ world.log.limits.marks
  pub calls : count_begins world.log.past + (length waiting + sum_of calls_in items) ≤ world.log.limits.calls
  pub pages : count_page_calls world.log.past + (count_pages waiting + sum_of pages_in items) ≤ world.log.limits.pages
  pub supplies : SuppliesIf supplied world (length waiting + sum_of calls_in items)
