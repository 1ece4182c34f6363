-- What is left of each resource for the call of a worker that steps alone: for the tasks that are still to come.
use Rattle.std.specs.Prelude.{◌≡◌, ℕ, ◌+◌, ◌-◌, ◌≤◌, if◌then◌else◌, is_some, Bool, true, false, List, [], ◌∷◌, length, Option, Some, None}
use Rattle.bz_layout.specs.declared.config.Config.{Config}
use Rattle.bz_layout.specs.declared.thresholds.TheConstants.{LEAF_RECORD_WORDS, SLOTS_PER_CALL, SWAPS_PER_CALL}
use Rattle.bz_solo.specs.Errands.{Errand, words_asked}
use Rattle.bz_solo.specs.declared.rest.Rest.TheVariants as rest
use Rattle.bz_solo.specs.FromCosts.Resources.{Resource, Marks, Descriptors, Slots}
use Rattle.bz_solo.specs.Prices.{Prices}
use Rattle.bz_solo.specs.Sum.{IsThawed, Spares, PaysForRound, IsPaid}
use Rattle.bz_mark.specs.declared.marks.Mark.{Mark}
use Rattle.bz_mark.specs.declared.marks.Mark.TheVariants.{Begin}
use Rattle.bz_any_task.specs.Kinds as kinds
use Rattle.bz_any_task.specs.Kinds.{Kind}
use Rattle.bz_any_task.specs.declared.running.AnyTask.{AnyTask}
use Rattle.bz_swap.specs.Solo.{left_to}
use Rattle.bz_swap.specs.SwapMemory.{SwapMemory}
use Rattle.bz_task.specs.Scene.{Past}
use Rattle.bz_world.specs.WorldView.{Supply, RunsWhole, stepper, are_closed, deadline}
use Rattle.bz_world.specs.declared.parts.Parts.{Parts}
use Rattle.bz_world.specs.declared.serving.OpenCall.{OpenCall}

-- the call, as far as its costs go
abbrev pub errand_of : OpenCall → Errand
errand_of x = record { call = x.call; effected = is_some x.effect; alone = x.alone; froze = x.froze; rest = x.rest }

-- as it is looked up once a task of this kind ended for want of room: after a merge its leaf is copied alone
abbrev pub is_merge : Kind → Bool
is_merge kinds.Merge = true
is_merge other = false

abbrev pub crowded : Errand → Kind → Errand
crowded e kind = record e { alone = is_merge kind }

-- it merges two nodes, leaves or inner ones
abbrev pub is_joining : Kind → Bool
is_joining kinds.Merge = true
is_joining kinds.MergeNodes = true
is_joining other = false

-- a delete that has had its effect, as it is looked up once its leaf is passed over, which may not be merged
abbrev pub passing : Errand → Kind → Errand
passing e _ = record e { rest = rest.Inner }

-- it asks for no more words than a record may have, and one more; and only a call that makes a change has frozen a leaf
pub record IsFit (x : OpenCall) : Type 0 where
  pub words : words_asked x.call ≤ LEAF_RECORD_WORDS + 1
  pub thawed : IsThawed (errand_of x)
  -- nothing is passed over before its effect
  pub quiet : x.effect ≡ None → x.rest ≡ rest.Leaf

-- the worker of whose call it is known at each mark: the one that steps, or that has just begun its call while none was open
abbrev pub runner : Config → List Mark → Option ℕ
runner c [] = None
runner c (Begin w n called ∷ past) = if are_closed c.workers past then Some w else None
runner c (mark ∷ past) = stepper (mark ∷ past)

-- what was taken and left when the newest call began
abbrev pub begun_with : Parts → Supply
begun_with p = record { taken = p.taken_then; left = p.left_then }

-- that, and how many slots are free
pub record Stock : Type 0 where
  pub left : ℕ
  pub begun : Supply

abbrev pub stock_of : Parts → Stock
stock_of p = record { left = length p.slots.free; begun = begun_with p }

-- what is used of each resource: of marks those of the journal and all that the swap memory still allows, of the others what was taken since the
-- begin of the newest call
abbrev pub used_of : Resource → SwapMemory → List Mark → Stock → ℕ → ℕ
used_of Marks m past stock w = length past + left_to m w
used_of Descriptors m past stock w = m.taken - stock.begun.taken
used_of Slots m past stock w = stock.begun.left - stock.left

-- and what may be
abbrev pub bound_of : Resource → Config → List Mark → ℕ → ℕ
bound_of Marks c past w = deadline c w past
bound_of Descriptors c past w = SWAPS_PER_CALL
bound_of Slots c past w = SLOTS_PER_CALL

-- of marks that is always known; of the others where the run follows directly the begin of the call, with no other call open
abbrev pub IsCounted : Resource → Config → ℕ → List Mark → Type 0
IsCounted Marks c w past = Unit {0}
IsCounted other c w past = RunsWhole c w past

abbrev pub used_in : Resource → Parts → ℕ → ℕ
used_in r p w = used_of r p.access p.journal.past (stock_of p) w

abbrev pub bound_in : Resource → Parts → ℕ → ℕ
bound_in r p w = bound_of r p.config p.journal.past w

-- the task of a call is paid for, and what comes after it, of each resource
abbrev pub IsPaidIn : Config → SwapMemory → List Mark → Stock → ℕ → Errand → AnyTask → ℕ → (Resource → ℕ) → Past → Type 0
IsPaidIn c m past stock w e t untold extra p = (r : Resource) → IsCounted r c w past → IsPaid r m w e t untold (extra r) (used_of r m past stock w) (bound_of r c past w) p

-- nothing is still to be started
abbrev pub no_extra : Resource → ℕ
no_extra r = 0

-- its task is paid for, and what comes after it
abbrev pub IsPaidFor : Parts → ℕ → OpenCall → ℕ → (Resource → ℕ) → Past → Type 0
IsPaidFor p w x untold extra past = IsPaidIn p.config p.access p.journal.past (stock_of p) w (errand_of x) x.task untold extra past

-- this may be paid for
abbrev pub HasToSpare : Parts → ℕ → OpenCall → Past → (Resource → Prices → ℕ) → Type 0
HasToSpare p w x past price = (r : Resource) → IsCounted r p.config w p.journal.past → Spares r p.access w (errand_of x) (used_in r p w) (bound_in r p w) past (price r)

-- so may another look-up of its key, of a call that has come to this
abbrev pub HasARoundAs : Parts → ℕ → Errand → Past → Type 0
HasARoundAs p w e past = (r : Resource) → IsCounted r p.config w p.journal.past → PaysForRound r p.access w e (used_in r p w) (bound_in r p w) past

abbrev pub HasARound : Parts → ℕ → OpenCall → Past → Type 0
HasARound p w x past = HasARoundAs p w (errand_of x) past
