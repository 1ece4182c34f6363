-- What a freeze knows, and what it asks for.
use Rattle.std.specs.Prelude.{◌≡◌, ℕ, ◌+◌, ◌^◌, ◌<◌, ◌≤◌, true, false, [], ◌∷◌, Option, Some, None}
use Rattle.bz_call.specs.declared.replies.Spent.TheVariants.{Swaps}
use Rattle.bz_layout.specs.Addresses.{node_address}
use Rattle.bz_layout.specs.declared.config.Config.{Config}
use Rattle.bz_layout.specs.declared.sizes.TheConstants.{STATUS_AT}
use Rattle.bz_word.specs.Statuses.{status}
use Rattle.bz_word.specs.declared.entry.Entry.{Entry}
use Rattle.bz_task.specs.Basis.{Basis}
use Rattle.bz_task.specs.Instant.{words, page_at, is_inside, form_at}
use Rattle.bz_task.specs.Scene.{Past, Scene, Stage, Waiting, Took, HasFilled}
use Rattle.bz_task.specs.Steps.{frozen_word}
use Rattle.bz_task.specs.Swaps.{Change}
use Rattle.bz_task.specs.declared.todo.Outcome.{Outcome}
use Rattle.bz_task.specs.declared.todo.Outcome.TheVariants.{Done as IsDone, Restart as Restarts, Full as IsFull}
use Rattle.bz_task.specs.declared.todo.Todo.{Todo}
use Rattle.bz_task.specs.declared.todo.Todo.TheVariants.{Swap as Swaps_for, Finish}
use Rattle.bz_freeze.specs.declared.phase.FreezePhase.{FreezePhase}
use Rattle.bz_freeze.specs.declared.phase.FreezePhase.TheVariants.{Fresh, Swap, Done, Restart, Full}

-- the one entry of the swap
abbrev pub entry_of : Config → ℕ → ℕ → Entry
entry_of c k st = record { target = node_address c k + STATUS_AT; expected = st; new = frozen_word st }

abbrev pub freeze_asks : Config → ℕ → ℕ → FreezePhase → Option Todo
freeze_asks c k st Fresh = None
freeze_asks c k st Swap = Some (Swaps_for (entry_of c k st ∷ []))
freeze_asks c k st phase = Some Finish

abbrev pub freeze_end : FreezePhase → Option Outcome
freeze_end Done = Some IsDone
freeze_end Restart = Some Restarts
freeze_end Full = Some (IsFull Swaps)
freeze_end phase = None

-- the most swaps that are still asked for
abbrev pub freeze_swaps : FreezePhase → ℕ
freeze_swaps Fresh = 1
freeze_swaps Swap = 1
freeze_swaps phase = 0

abbrev pub freeze_left : FreezePhase → ℕ
freeze_left Fresh = 2
freeze_left Swap = 1
freeze_left phase = 0

-- the slot was a leaf of the tree with this status, which is not frozen, at a moment since the look-up began
pub record WasLeaf (k st : ℕ) (p : Past) : Type 0 where
  pub moment : ℕ
  pub since : p.since ≤ moment
  pub now : moment ≤ p.now
  pub slot : k < p.config.nodes
  pub inside : is_inside p.config (p.at moment) k ≡ true
  pub leaf : (form_at p.config (p.at moment)).level k ≡ 0
  pub was : words p.config (p.at moment) k STATUS_AT ≡ st
  pub thawed : (status st).frozen ≡ false
  pub plain : st < 2 ^ 61

-- it was frozen at one
pub record WasFrozen (k : ℕ) (p : Past) : Type 0 where
  pub moment : ℕ
  pub since : p.since ≤ moment
  pub now : moment ≤ p.now
  pub reached : (p.at moment).reached k ≡ true
  pub frozen : (page_at p.config (p.at moment) k).frozen ≡ true

abbrev pub freeze_means : ℕ → Outcome → Scene → Type 0
freeze_means k IsDone s = WasFrozen k s.past
freeze_means k Restarts s = Unit {0}
freeze_means k (IsFull Swaps) s = Unit {0}
freeze_means k outcome s = ⊥

-- a freeze ends so and in no other way
abbrev pub IsEndOfFreeze : Outcome → Type 0
IsEndOfFreeze IsDone = Unit {0}
IsEndOfFreeze Restarts = Unit {0}
IsEndOfFreeze (IsFull Swaps) = Unit {0}
IsEndOfFreeze outcome = ⊥

abbrev pub freeze_facts : ℕ → ℕ → FreezePhase → Stage → Scene → Type 0
freeze_facts k st Fresh Waiting s = WasLeaf k st s.past
freeze_facts k st Swap Waiting s = HasFilled s × WasLeaf k st s.past
freeze_facts k st Swap Took s = HasFilled s × WasFrozen k s.past
freeze_facts k st Done Waiting s = HasFilled s × WasFrozen k s.past
freeze_facts k st Restart Waiting s = HasFilled s
freeze_facts k st Full Waiting s = HasFilled s
freeze_facts k st phase stage s = ⊥

-- it is of the leaf in this slot
abbrev pub freeze_basis : ℕ → Basis
freeze_basis k = record { slot = k; nodes = [] }

-- a freeze makes no change
abbrev pub freeze_change : Change
freeze_change = record { key = []; old = None; new = None }
