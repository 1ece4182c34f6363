-- Runs of one worker after the other, in which each call begins while no other is open, and power on: none meets a limit where the journal has room
-- for it; and none ends a call for want of a descriptor or of slots where as many are left as are promised for each.
use Rattle.std.specs.Prelude.{◌≡◌, ◌≢◌, ◌⊎◌, ℕ, ◌+◌, ◌-◌, ◌*◌, ◌<◌, ◌≤◌, if◌then◌else◌, is_some, Bool, true, false, List, [], ◌∷◌, length, Option, Some, None}
use Rattle.bz_call.specs.Pages.{is_page}
use Rattle.bz_call.specs.declared.calls.Call.{Call}
use Rattle.bz_call.specs.declared.replies.Reply.{Reply}
use Rattle.bz_call.specs.declared.replies.Reply.TheVariants.{Full}
use Rattle.bz_call.specs.declared.replies.Spent.TheVariants.{Height}
use Rattle.bz_layout.specs.declared.thresholds.TheConstants.{MARKS_PER_CALL, MARKS_PER_POWER_ON, SLOTS_PER_CALL, SWAPS_PER_CALL}
use Rattle.bz_mark.specs.Log.{Limits, count_begins, count_page_calls}
use Rattle.bz_mark.specs.declared.marks.Mark.{Mark}
use Rattle.bz_mark.specs.declared.marks.Mark.TheVariants.{End}
use Rattle.bz_script.specs.declared.item.Plan.{Plan}
use Rattle.bz_script.specs.declared.item.Plan.TheVariants.{Alone}
use Rattle.bz_sound.specs.Calls.{open_call}
use Rattle.bz_sound.specs.Memory.Moments.{image_after}
use Rattle.bz_mark.specs.declared.power.Power.{Power}
use Rattle.bz_mark.specs.declared.power.Power.TheVariants as power
use Rattle.bz_world.specs.WorldView.{WorldView, Supply, power_in, recovery_acts, recovery_most, before_run, begins_solitary, count_in, deadline, KeepsSupply}
use Rattle.bz_sched.specs.Queued.{Queued}
use Rattle.bz_script.specs.declared.cut_plan.CutPlan.{CutPlan}
use Rattle.bz_sched.specs.declared.running.RunEnd.{RunEnd}
use Rattle.bz_sched.specs.declared.running.RunEnd.TheVariants as end
use Rattle.bz_sched.specs.declared.turn.Turned.{Turned}
use Rattle.bz_sched.specs.declared.turn.Turned.TheVariants.{Finished, Stopped}

-- how many of these calls ask for a page
abbrev pub count_pages : List (ℕ × Call) → ℕ
count_pages [] = 0
count_pages (call ∷ calls) = if is_page call.1 then count_pages calls + 1 else count_pages calls

-- no call is open
abbrev pub AreClosed : List Mark → Type 0
AreClosed past = (v : ℕ) → open_call v past ≡ None

-- the reply tells want of a descriptor or of slots; that a tree is too high is another matter
abbrev pub is_wanting : Reply → Bool
is_wanting (Full Height) = false
is_wanting (Full spent) = true
is_wanting other = false

-- how many calls have ended with such a reply
abbrev pub count_wanting : List Mark → ℕ
count_wanting [] = 0
count_wanting (End w n reply at ∷ past) = if is_wanting reply then count_wanting past + 1 else count_wanting past
count_wanting (mark ∷ past) = count_wanting past

-- the descriptors that may be taken in all, the slots that must stay free, and how many calls have ended for want so far
pub record Ration : Type 0 where
  pub swaps : ℕ
  pub slots : ℕ
  pub wanting : ℕ

-- what a run may come to in the journal; and of descriptors and slots, or nothing is said of these
pub record Bounds : Type 0 where
  pub journal : Limits
  pub ration : Option Ration

-- no call more has ended for want, and the memory has so many descriptors
pub record KeepsRation (ration : Ration) (world : WorldView) : Type 0 where
  pub swaps : ration.swaps ≤ world.config.swaps
  pub wanting : count_wanting world.log.past ≡ ration.wanting

abbrev pub KeepsRationIn : Option Ration → WorldView → Type 0
KeepsRationIn None world = Unit {0}
KeepsRationIn (Some ration) world = KeepsRation ration world

-- of a supply so much is enough for so many calls
pub record SupplyLasts (ration : Ration) (supply : Supply) (calls : ℕ) : Type 0 where
  pub swaps : supply.taken + SWAPS_PER_CALL * calls ≤ ration.swaps
  pub slots : ration.slots + SLOTS_PER_CALL * calls ≤ supply.left

abbrev pub SupplyLastsIn : Option Ration → Supply → ℕ → Type 0
SupplyLastsIn None supply calls = Unit {0}
SupplyLastsIn (Some ration) supply calls = SupplyLasts ration supply calls

-- within these numbers of marks, calls and pages, for which the journal has room, those of the calls that wait fit, and the calls themselves
pub record HasRoomFor (most : Bounds) (world : WorldView) (waiting : List (ℕ × Call)) : Type 0 where
  pub marks : most.journal.marks ≤ world.log.limits.marks
  pub calls : count_begins world.log.past + length waiting ≤ most.journal.calls
  pub pages : count_page_calls world.log.past + count_pages waiting ≤ most.journal.pages
  pub call_limit : most.journal.calls ≤ world.log.limits.calls
  pub page_limit : most.journal.pages ≤ world.log.limits.pages
  pub rationed : KeepsRationIn most.ration world

-- no call is open, and so many marks are enough for those that wait
pub record AwaitsCalls (most : Bounds) (world : WorldView) (waiting : List (ℕ × Call)) : Type 0 where
  pub closed : AreClosed world.log.past
  pub enough : length world.log.past + MARKS_PER_CALL * length waiting ≤ most.journal.marks
  pub lasts : SupplyLastsIn most.ration world.supply (length waiting)

-- that of a worker alone is: it has stepped alone since its begin, and so many marks are enough for it and for those that wait; it has taken no more
-- than is promised for it
pub record IsInCall (most : Bounds) (w : ℕ) (world : WorldView) (waiting : List (ℕ × Call)) : Type 0 where
  pub is_open : is_some (open_call w world.log.past) ≡ true
  pub others : (v : ℕ) → v ≢ w → open_call v world.log.past ≡ None
  pub begins : begins_solitary world.config w (before_run w world.log.past) ≡ true
  pub in_time : length world.log.past ≤ deadline world.config w world.log.past
  pub enough : length (before_run w world.log.past) + MARKS_PER_CALL * (length waiting + 1) ≤ most.journal.marks + 1
  pub keeps : KeepsSupply world.at_begin world.supply
  pub lasts : SupplyLastsIn most.ration world.at_begin (length waiting + 1)

-- one or the other
pub record GoesOnAlone (most : Bounds) (w : ℕ) (world : WorldView) (waiting : List (ℕ × Call)) (fuse : Option ℕ) : Type 0 where
  pub room : HasRoomFor most world waiting
  pub unarmed : fuse ≡ None
  pub state : AwaitsCalls most world waiting ⊎ IsInCall most w world waiting

-- between the calls of two workers
pub record IsBetweenCalls (most : Bounds) (world : WorldView) (waiting : List (ℕ × Call)) (fuse : Option ℕ) : Type 0 where
  pub room : HasRoomFor most world waiting
  pub unarmed : fuse ≡ None
  pub awaits : AwaitsCalls most world waiting

-- the journal has room for these calls, if each takes no more marks than are promised for it
pub record HasEnough (world : WorldView) (waiting : List (ℕ × Call)) : Type 0 where
  pub marks : length world.log.past + MARKS_PER_CALL * length waiting ≤ world.log.limits.marks
  pub calls : count_begins world.log.past + length waiting ≤ world.log.limits.calls
  pub pages : count_page_calls world.log.past + count_pages waiting ≤ world.log.limits.pages

-- and as many descriptors and slots are left as are promised for them
pub record HasSupply (world : WorldView) (waiting : List (ℕ × Call)) : Type 0 where
  pub swaps : world.supply.taken + SWAPS_PER_CALL * length waiting ≤ world.config.swaps
  pub slots : SLOTS_PER_CALL * length waiting ≤ world.supply.left

-- no call is open after the run; no more marks were made than are promised for the calls that are gone, and no other calls have begun
pub record AreServed (old : WorldView) (queued : Queued) (new : WorldView) (left : Queued) : Type 0 where
  pub closed : AreClosed new.log.past
  pub marks : length new.log.past + MARKS_PER_CALL * length left.calls ≤ length old.log.past + MARKS_PER_CALL * length queued.calls
  pub calls : count_begins new.log.past + length left.calls ≤ count_begins old.log.past + length queued.calls
  pub pages : count_page_calls new.log.past + count_pages left.calls ≤ count_page_calls old.log.past + count_pages queued.calls

-- no more descriptors and slots were taken than are promised for them, and no call has ended for want
pub record AreSupplied (old : WorldView) (queued : Queued) (new : WorldView) (left : Queued) : Type 0 where
  pub swaps : new.supply.taken + SWAPS_PER_CALL * length left.calls ≤ old.supply.taken + SWAPS_PER_CALL * length queued.calls
  pub slots : old.supply.left + SLOTS_PER_CALL * length left.calls ≤ new.supply.left + SLOTS_PER_CALL * length queued.calls
  pub wanting : count_wanting new.log.past ≡ count_wanting old.log.past

-- so a run of one worker after the other ends, with no cut armed, if no call is open at its begin and the journal has room for all that wait; and none
-- of these is Full but of a tree that is too high, where so much is left
abbrev pub ServesAll : Option CutPlan → Plan → WorldView → Queued → RunEnd → WorldView → Queued → Type 0
ServesAll cut plan old queued result new left =
    cut ≡ None → plan ≡ Alone → AreClosed old.log.past → HasEnough old queued.calls → (result ≡ end.Finished) × AreServed old queued new left × (HasSupply old queued.calls → AreSupplied old queued new left)

-- a recovery that begins here has made no more marks than it may make acts, and one for its end
abbrev pub IsFew : WorldView → Turned → WorldView → Type 0
IsFew old Finished new = length new.log.past ≤ length old.log.past + recovery_most old.config + 1
IsFew old (Stopped why) new = length new.log.past < length old.log.past + recovery_most old.config

-- so far it has made as many marks as acts, or it has ended
abbrev pub IsFewSoFar : WorldView → WorldView → Type 0
IsFewSoFar old world =
    ((power_in world ≡ power.Recovering) × (length world.log.past ≡ length old.log.past + recovery_acts world))
    ⊎ ((power_in world ≡ power.On) × (length world.log.past ≤ length old.log.past + recovery_most old.config + 1))

-- how many slots are free, or will be once the power is on: those that the tree of the durable words does not reach
abbrev pub free_by : Power → WorldView → ℕ
free_by power.On world = world.supply.left
free_by other world = world.config.nodes - count_in world.config (image_after world.log.start world.log.past)

abbrev pub free_slots : WorldView → ℕ
free_slots world = free_by (power_in world) world

-- power on has made no more marks than are promised for it, and no call has begun or ended; no descriptor is taken, and no fewer slots are free
pub record HasComeOn (old new : WorldView) : Type 0 where
  pub closed : AreClosed old.log.past → AreClosed new.log.past
  pub marks : length new.log.past ≤ length old.log.past + recovery_most old.config + MARKS_PER_POWER_ON
  pub calls : count_begins new.log.past ≡ count_begins old.log.past
  pub pages : count_page_calls new.log.past ≡ count_page_calls old.log.past
  pub wanting : count_wanting new.log.past ≡ count_wanting old.log.past
  pub taken : new.supply.taken ≡ 0
  pub left : free_slots old ≤ new.supply.left

-- so it ends, with no cut armed, where the journal has room for these
abbrev pub ComesOn : Option CutPlan → WorldView → RunEnd → WorldView → Type 0
ComesOn cut old result new = cut ≡ None → length old.log.past + recovery_most old.config + MARKS_PER_POWER_ON ≤ old.log.limits.marks → (result ≡ end.Finished) × HasComeOn old new
