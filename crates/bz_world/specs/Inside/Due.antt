-- What is taken for a call beside which no other is open: nothing as long as it only looks, and something only where it is to change the map.
use Rattle.std.specs.Prelude.{◌≡◌, ◌⊎◌, ℕ, Bool, true, false, None}
use Rattle.bz_call.specs.Map.{apply, IsChange}
use Rattle.bz_call.specs.Pages.{is_page}
use Rattle.bz_call.specs.declared.calls.Call.{Call}
use Rattle.bz_layout.specs.declared.config.Config.{Config}
use Rattle.bz_mark.specs.Log.{Log}
use Rattle.bz_any_task.specs.Kinds as kinds
use Rattle.bz_any_task.specs.Kinds.{Kind, is_look, kind_of}
use Rattle.bz_sound.specs.Calls.{map_after}
use Rattle.bz_sound.specs.Solitary.{IsSolitary}
use Rattle.bz_sound.specs.Memory.Moments.{map_at_start}
use Rattle.bz_world.specs.Inside.Paid.{Stock}
use Rattle.bz_world.specs.declared.serving.OpenCall.{OpenCall}

-- the call would change the map as it is
abbrev pub IsDue : Config → Log → Call → Type 0
IsDue c log called = IsChange (apply (map_after (map_at_start c log.start) log.past) called).reply

-- where no other call is open
abbrev pub IsDueAlone : Config → Log → ℕ → Call → Type 0
IsDueAlone c log w called = IsSolitary w log.past → IsDue c log called

-- a task of this kind only looks: a leaf is read whole for a page, and else to be made anew
abbrev pub only_looks : Call → Kind → Bool
only_looks called kinds.ReadWhole = is_page called
only_looks called kind = is_look kind

-- the call only looks, and nothing was taken since it began
pub record HasTakenNothing (taken : ℕ) (stock : Stock) (called : Call) (kind : Kind) (froze : Bool) : Type 0 where
  pub looks : only_looks called kind ≡ true
  pub thawed : froze ≡ false
  pub same_taken : taken ≡ stock.begun.taken
  pub same_left : stock.left ≡ stock.begun.left

-- until it has had its effect one of the two holds, where no other call is open
abbrev pub TakesRightly : Config → ℕ → Log → Stock → ℕ → OpenCall → Type 0
TakesRightly c taken log stock w x = x.effect ≡ None → IsSolitary w log.past → IsDue c log x.call ⊎ HasTakenNothing taken stock x.call (kind_of x.task) x.froze
