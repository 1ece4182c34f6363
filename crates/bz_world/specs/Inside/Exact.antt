-- What is taken for a call whose leaf had room for its change when it began, while no other call is open: nothing as long as it looks its key up, then a
-- descriptor for each swap by which it makes its change, and nothing more where a delete looks once more at its leaf.
use Rattle.std.specs.Prelude.{◌≡◌, ◌≢◌, ◌⊎◌, ◌≤◌, ◌+◌, ℕ, suc, Bool, true, false, Some, None}
use Rattle.bz_call.specs.declared.replies.Spent.TheVariants.{Swaps}
use Rattle.bz_layout.specs.declared.config.Config.{Config}
use Rattle.bz_solo.specs.FromAlone.Counts.{HasOthers}
use Rattle.bz_mark.specs.Log.{Log}
use Rattle.bz_any_task.specs.Duties.{end_of, made_of, swaps_of, wants_of, change_swaps, means_of}
use Rattle.bz_any_task.specs.Kinds as kinds
use Rattle.bz_any_task.specs.Kinds.{Kind, is_look, kind_of}
use Rattle.bz_sound.specs.Calls.{Open}
use Rattle.bz_sound.specs.Solitary.{IsSolitary}
use Rattle.bz_swap.specs.SwapMemory.{SwapMemory, Doing, Swapping, doing_of}
use Rattle.bz_task.specs.Requests.{effects_in}
use Rattle.bz_task.specs.Scene.{Past, Scene}
use Rattle.bz_task.specs.declared.todo.Outcome.{Outcome}
use Rattle.bz_task.specs.declared.todo.Outcome.TheVariants.{Full, NeedsRoom}
use Rattle.bz_task.specs.declared.todo.Seen.{Seen}
use Rattle.bz_task.specs.declared.todo.Seen.TheVariants.{Swapped}
use Rattle.bz_world.specs.Inside.Alone.{untold}
use Rattle.bz_world.specs.Inside.Paid.{Stock}
use Rattle.bz_world.specs.Roomy.{HadRoom, KeepsEnough}
use Rattle.bz_solo.specs.declared.rest.Rest.TheVariants as rest
use Rattle.bz_world.specs.declared.serving.OpenCall.{OpenCall}

-- it looks for the leaf of its key, or looks that up there
abbrev pub seeks : Kind → Bool
seeks kinds.Seek = true
seeks kinds.Find = true
seeks other = false

-- it changes a record
abbrev pub puts : Kind → Bool
puts kinds.Insert = true
puts kinds.Update = true
puts kinds.Delete = true
puts other = false

-- how many descriptors were taken in all; and of its worker how many effects, and how many swaps, there were of which its task was not told
pub record Reach : Type 0 where
  pub taken : ℕ
  pub untold : ℕ
  pub underway : ℕ

abbrev pub reach : ℕ → ℕ → ℕ → Reach
reach taken untold way = record { taken = taken; untold = untold; underway = way }

-- while it does something
abbrev pub underway : Doing → ℕ
underway (Swapping s) = 1
underway doing = 0

abbrev pub reach_of : SwapMemory → ℕ → Reach
reach_of m w = reach m.taken (untold m (doing_of m w)) (underway (doing_of m w))

-- when a task is to be told this
abbrev pub answered_in : Seen → ℕ
answered_in (Swapped won) = 1
answered_in seen = 0

abbrev pub reach_at : SwapMemory → Seen → Reach
reach_at m seen = reach m.taken (effects_in seen) (answered_in seen)

-- and when nothing goes on
abbrev pub reach_idle : SwapMemory → Reach
reach_idle m = reach m.taken 0 0

-- its first look-up goes on, nobody's swap took effect since it began, and nothing was taken
pub record IsLookingUp (opened : Open) (p : Past) (r : Reach) (stock : Stock) (x : OpenCall) : Type 0 where
  pub quiet : x.effect ≡ None
  pub looks : seeks (kind_of x.task) ≡ true
  pub thawed : x.froze ≡ false
  pub same_taken : r.taken ≡ stock.begun.taken
  pub same_left : stock.left ≡ stock.begun.left
  pub first : p.since ≡ suc opened.begun
  pub alone : HasOthers 0 0 p

-- a task ends for want of a descriptor, or of something else that has run out
abbrev pub IsFull : Outcome → Type 0
IsFull (Full spent) = Unit {0}
IsFull outcome = ⊥

-- its change goes on: a descriptor was taken for each of its swaps that has begun, and it does not end but for want of one
pub record IsChanging (opened : Open) (p : Past) (r : Reach) (stock : Stock) (tells : ℕ) (x : OpenCall) : Type 0 where
  pub quiet : x.effect ≡ None
  pub first : p.since ≡ suc opened.begun
  pub kind : puts (kind_of x.task) ≡ true
  pub wants : wants_of x.task ≡ 0
  pub tells_swaps : change_swaps x.task ≡ tells
  pub same_left : stock.left ≡ stock.begun.left
  pub alone : end_of x.task ≡ None → HasOthers 0 (made_of x.task + r.untold) p
  pub before : swaps_of x.task ≤ 1 → r.untold ≡ 0
  pub least : end_of x.task ≡ None → stock.begun.taken + made_of x.task + r.underway ≤ r.taken
  pub most : r.taken + swaps_of x.task ≤ stock.begun.taken + change_swaps x.task + r.underway
  pub short : end_of x.task ≡ Some (Full Swaps) → r.taken + 1 ≤ stock.begun.taken + change_swaps x.task
  pub ends : (o : Outcome) → end_of x.task ≡ Some o → IsFull o
  pub roomy : (z : Scene) → means_of x.task NeedsRoom z → ⊥
  pub unpassed : x.rest ≡ rest.Leaf

-- nobody's swap took effect since its own, and the leaf of a delete stood alone then
pub record HasStood (opened : Open) (p : Past) : Type 0 where
  pub at : ℕ
  pub effect : opened.effect ≡ Some at
  pub after_begin : opened.begun ≤ at
  pub by_now : suc at ≤ p.now
  pub still : (p.at p.now).effects ≡ (p.at (suc at)).effects
  pub enough : KeepsEnough p.config (p.at (suc at)).image opened.call 0

-- it has made its change, and its worker is at the last swap of that or was told of it
pub record HasChanged (opened : Open) (p : Past) (r : Reach) (stock : Stock) (tells : ℕ) (x : OpenCall) : Type 0 where
  pub effected : x.effect ≢ None
  pub kind : puts (kind_of x.task) ≡ true
  pub tells_swaps : change_swaps x.task ≡ tells
  pub wants : wants_of x.task ≡ 0
  pub same_left : stock.left ≡ stock.begun.left
  pub least : stock.begun.taken + change_swaps x.task ≤ r.taken
  pub most : r.taken + swaps_of x.task ≤ stock.begun.taken + change_swaps x.task + r.underway
  pub stood : HasStood opened p
  pub unpassed : x.rest ≡ rest.Leaf

-- the descriptors of its change are all that was taken for it
pub record HasCounted (opened : Open) (p : Past) (r : Reach) (stock : Stock) (tells : ℕ) (x : OpenCall) : Type 0 where
  pub effected : x.effect ≢ None
  pub same_taken : r.taken ≡ stock.begun.taken + tells
  pub same_left : stock.left ≡ stock.begun.left
  pub stood : HasStood opened p
  -- nothing was passed over, as its leaf has enough
  pub unpassed : x.rest ≡ rest.Leaf

-- a delete may look once more at the leaf of its key, whether that has few live words left; nobody's swap took effect since it looks
pub record LooksAfter (opened : Open) (p : Past) (r : Reach) (stock : Stock) (tells : ℕ) (x : OpenCall) : Type 0 where
  pub looks : is_look (kind_of x.task) ≡ true
  pub counted : HasCounted opened p r stock tells x
  pub alone : HasOthers 0 0 p

abbrev pub IsExact : Open → Past → Reach → Stock → ℕ → OpenCall → Type 0
IsExact opened p r stock tells x = IsLookingUp opened p r stock x ⊎ (IsChanging opened p r stock tells x ⊎ (HasChanged opened p r stock tells x ⊎ LooksAfter opened p r stock tells x))

-- where no other call is open, and there was room
abbrev pub CountsExactly : Config → Log → ℕ → Open → Past → Reach → Stock → ℕ → OpenCall → Type 0
CountsExactly c log w opened p r stock tells x = IsSolitary w log.past → HadRoom c log.start log.past opened → IsExact opened p r stock tells x
