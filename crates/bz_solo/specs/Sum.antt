-- The one number that falls: what is left of a resource to a worker that steps alone, of that by which its call is to end, and what its task
-- and all that may come after it may still take of it.
use Rattle.std.specs.Prelude.{◌≡◌, ◌≢◌, ◌⊎◌, ℕ, ◌+◌, ◌*◌, ◌≤◌, if◌then◌else◌, Bool, true, false, Some, None}
use Rattle.bz_joined.specs.FromAlone.Undisturbed.{IsUndisturbed}
use Rattle.bz_call.specs.Map.{key_of}
use Rattle.bz_content.specs.Content.{image_of}
use Rattle.bz_joined.specs.FromStage.Neighbours.{leaf_page}
use Rattle.bz_costs.specs.Solo.{one_mark}
use Rattle.bz_costs.specs.Resources.{Resource, Marks}
use Rattle.bz_costs.specs.Stretches.{solo_stretch}
use Rattle.bz_costs.specs.Weights.{weigh}
use Rattle.bz_rivals.specs.Rivals.{rivals}
use Rattle.bz_costs.specs.FromRunning.Duties.{end_of, made_of, swaps_of, makes_no_change}
use Rattle.bz_costs.specs.FromRunning.Kinds as kinds
use Rattle.bz_costs.specs.FromRunning.Kinds.{kind_of}
use Rattle.bz_costs.specs.FromRunning.AnyTask.{AnyTask}
use Rattle.bz_joined.specs.FromStage.Rooms.{is_crowded}
use Rattle.bz_swap.specs.SwapMemory.{SwapMemory}
use Rattle.bz_task.specs.Scene.{Past}
use Rattle.bz_task.specs.declared.todo.Outcome.TheVariants.{Done, Restart}
use Rattle.bz_solo.specs.Errands.{Errand, is_read, IsLookOf, may_swap_twice, after}
use Rattle.bz_solo.specs.Prices.{Prices, disturbed_prices, prices_in, coming, round_price}

-- what those marks of a call still take that are no steps of the swap memory, by whether it has had its effect: that of its effect, that of its
-- end, and one to spare
abbrev pub own_by : Resource → Bool → ℕ
own_by Marks effected = if effected then 2 else 3
own_by other effected = 0

abbrev pub own_left : Resource → Errand → ℕ
own_left r e = own_by r e.effected

-- with so much used, which of marks are those of the journal and all that the swap memory still allows, so much more suffices for its tasks, if
-- no more is to be used than some number: the rest is kept for the swaps of others that may still take effect, and for the call's own marks
pub record Affords (r : Resource) (m : SwapMemory) (w : ℕ) (e : Errand) (used by n : ℕ) : Type 0 where
  pub enough : (solo_stretch r + one_mark r) * rivals m w + own_left r e + used + n ≤ by

-- a round in which another's swap took effect, and a clean one
pub data Round : Type 0 where
  Disturbed : Round
  Clean : Round

-- after a disturbed round a whole stretch may come
abbrev pub reserve : Resource → Round → ℕ
reserve r Disturbed = solo_stretch r
reserve r Clean = 0

abbrev pub prices_of : Resource → Round → Errand → Past → Prices
prices_of r Disturbed e p = disturbed_prices r
prices_of r Clean e p = prices_in r p.config (p.at p.now).image e

-- only a call that makes a change reads a leaf whole that it froze itself
abbrev pub IsThawed : Errand → Type 0
IsThawed e = e.froze ≡ true → is_read e.call ≡ false

-- between two tasks: this may be paid for, in the present round
pub record Spares (r : Resource) (m : SwapMemory) (w : ℕ) (e : Errand) (used by : ℕ) (p : Past) (price : Prices → ℕ) : Type 0 where
  pub round : Round
  pub alone : round ≡ Clean → IsUndisturbed 0 p
  pub thawed : IsThawed e
  pub affords : Affords r m w e used by (reserve r round + price (prices_of r round e p))

-- and this, if the key is looked up again
pub record PaysForRound (r : Resource) (m : SwapMemory) (w : ℕ) (e : Errand) (used by : ℕ) (p : Past) : Type 0 where
  pub thawed : IsThawed e
  pub affords : Affords r m w e used by (round_price r (prices_in r p.config (p.at p.now).image e) e)

-- the leaf of its key is frozen, and small enough to be copied
pub record IsSmall (e : Errand) (p : Past) : Type 0 where
  pub frozen : (leaf_page p.config (image_of (p.at p.now).image) (key_of e.call)).frozen ≡ true
  pub few : is_crowded (leaf_page p.config (image_of (p.at p.now).image) (key_of e.call)) ≡ false

-- what is known in a clean round of its task, which had so many effects of which it was not told
pub record IsClean (e : Errand) (t : AnyTask) (untold : ℕ) (p : Past) : Type 0 where
  pub made : ℕ
  pub alone : IsUndisturbed made p
  pub counts : end_of t ≡ None → made ≡ made_of t + untold
  pub none : may_swap_twice (kind_of t) ≡ false → made ≡ 0
  -- of a call without effect the last swap that its task may ask for is still to be made
  pub before : e.effected ≡ false → swaps_of t ≤ 1 → untold ≡ 0
  pub goes : e.effected ≡ false → end_of t ≢ Some Done
  pub stands : end_of t ≢ Some Restart
  pub small : e.effected ≡ false → kind_of t ≡ kinds.Merge → IsSmall e p

-- the last swap of a task that makes a node anew, or freezes a leaf, has taken effect, and no other's since
pub record IsMade (e : Errand) (t : AnyTask) (untold : ℕ) : Type 0 where
  pub quiet : e.effected ≡ false
  pub write : is_read e.call ≡ false
  pub silent : makes_no_change t ≡ true
  pub last : swaps_of t ≤ 1
  pub told : (untold ≡ 1) ⊎ (end_of t ≡ Some Done)

pub data State : Type 0 where
  In : (round : Round) → State
  Made : State

abbrev pub IsIn : State → Errand → AnyTask → ℕ → Past → Type 0
IsIn (In Disturbed) e t untold p = Unit {0}
IsIn (In Clean) e t untold p = IsClean e t untold p
IsIn Made e t untold p = IsMade e t untold

-- what its task and all that comes after it may still take
abbrev pub left_in : Resource → State → Errand → AnyTask → Past → ℕ
left_in r (In round) e t p = reserve r round + (weigh r t + coming r (prices_of r round e p) e (kind_of t))
left_in r Made e t p = weigh r t + round_price r (prices_in r p.config (p.at p.now).image (after e (kind_of t))) (after e (kind_of t))

-- its call ends with no more used than this, if its worker steps alone from now on; of what its task asks for so much was not started yet
pub record IsPaid (r : Resource) (m : SwapMemory) (w : ℕ) (e : Errand) (t : AnyTask) (untold extra used by : ℕ) (p : Past) : Type 0 where
  pub look : e.effected ≡ false → IsLookOf e.call (kind_of t)
  pub thawed : IsThawed e
  pub state : State
  pub holds : IsIn state e t untold p
  pub affords : Affords r m w e used by (extra + left_in r state e t p)
