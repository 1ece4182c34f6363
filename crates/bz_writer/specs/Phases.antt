-- The phases of a writer: what each leads to, how it ends, and what is left in it.
use Rattle.std.specs.Prelude.{◌≡◌, ◌≢◌, ℕ, ◌+◌, ◌-◌, ◌*◌, ◌<◌, nat_lt, if◌then◌else◌, true, List, [], Option, Some, None, length}
use Rattle.bz_call.specs.declared.replies.Spent.TheVariants.{Nodes as NoNodes, Swaps as NoSwaps}
use Rattle.bz_layout.specs.Slots.{FreeSlots}
use Rattle.bz_layout.specs.declared.sizes.TheConstants.{NODE_WORDS, NODE_LINES}
use Rattle.bz_task.specs.Scene.{Past, Scene}
use Rattle.bz_task.specs.Swaps.{Change}
use Rattle.bz_task.specs.declared.todo.Outcome.{Outcome}
use Rattle.bz_task.specs.declared.todo.Outcome.TheVariants.{Done as IsDone, Restart as Restarts, Full as IsFull}
use Rattle.bz_task.specs.declared.todo.Seen.{Seen}
use Rattle.bz_task.specs.declared.todo.Seen.TheVariants.{Read as Was, Swapped, NoSwap as NoneLeft}
use Rattle.bz_renew.specs.Nodes.{AreSlotsTaken}
use Rattle.bz_writer.specs.declared.phase.WritePhase.{WritePhase}
use Rattle.bz_writer.specs.declared.phase.WritePhase.TheVariants.{Fresh, Guard, Store, Flush, Swap, Done, Restart, NoSlot, NoSwap}

abbrev pub write_end : WritePhase → Option Outcome
write_end Done = Some IsDone
write_end Restart = Some Restarts
write_end NoSlot = Some (IsFull NoNodes)
write_end NoSwap = Some (IsFull NoSwaps)
write_end phase = None

-- what an end means
abbrev pub means_of : (done none : Past → Type 0) → Outcome → Scene → Type 0
means_of done none IsDone s = done s.past
means_of done none Restarts s = Unit {0}
means_of done none (IsFull NoNodes) s = none s.past
means_of done none (IsFull NoSwaps) s = Unit {0}
means_of done none outcome s = ⊥

-- the most steps for so many nodes: the load of the guard, a store for each word, a flush for each line, which counts two, the swap,
-- and the end
abbrev pub write_acts : ℕ → ℕ
write_acts count = NODE_WORDS * count + 2 * (NODE_LINES * count) + 3

-- the steps that are left
abbrev pub write_left : ℕ → WritePhase → ℕ
write_left count Fresh = write_acts count
write_left count Guard = NODE_WORDS * count + 2 * (NODE_LINES * count) + 2
write_left count (Store j) = NODE_WORDS * count + 2 * (NODE_LINES * count) + 1 - j
write_left count (Flush j) = 2 * (NODE_LINES * count - j)
write_left count Swap = 1
write_left count phase = 0

-- the most swaps that are still asked for: one, until it has ended
abbrev pub write_swaps : WritePhase → ℕ
write_swaps Done = 0
write_swaps Restart = 0
write_swaps NoSlot = 0
write_swaps NoSwap = 0
write_swaps phase = 1

-- the slots are taken when the guard has been looked at again
abbrev pub write_needs : ℕ → WritePhase → ℕ
write_needs count Fresh = count
write_needs count Guard = count
write_needs count phase = 0

-- after a store comes the next one, or the first flush; after a flush the next one, or the swap; after the swap an end
abbrev pub store_after : ℕ → ℕ → WritePhase
store_after count j = if nat_lt (j + 1) (NODE_WORDS * count) then Store (j + 1) else Flush 0

abbrev pub flush_after : ℕ → ℕ → WritePhase
flush_after count j = if nat_lt (j + 1) (NODE_LINES * count) then Flush (j + 1) else Swap

abbrev pub swap_after : Seen → WritePhase
swap_after (Swapped true) = Done
swap_after NoneLeft = NoSwap
swap_after seen = Restart

abbrev pub write_next : ℕ → WritePhase → Seen → WritePhase
write_next count (Store j) seen = store_after count j
write_next count (Flush j) seen = flush_after count j
write_next count phase seen = swap_after seen

-- it is one of the words, or one of the lines
abbrev pub IsWithin : ℕ → WritePhase → Type 0
IsWithin count (Store j) = j < NODE_WORDS * count
IsWithin count (Flush j) = j < NODE_LINES * count
IsWithin count phase = Unit {0}

-- what another look at the guard leads to: where it is as it was read, the slots are taken, or there were not so many; elsewhere it ends,
-- and takes none
abbrev pub HasLooked : ℕ → ℕ → (ℕ → ℕ) → Seen → WritePhase → FreeSlots → FreeSlots → Type 0
HasLooked count status slot seen (Store j) old new = (seen ≡ Was status) × ((j ≡ 0) × ((image : ℕ → List ℕ) → AreSlotsTaken (record { count = count; slot = slot; image = image }) old new))
HasLooked count status slot seen NoSlot old new = (seen ≡ Was status) × ((length old.free < count) × (new ≡ old))
HasLooked count status slot seen Restart old new = (seen ≢ Was status) × (new ≡ old)
HasLooked count status slot seen phase old new = ⊥

-- a writer makes no change
abbrev pub no_change : Change
no_change = record { key = []; old = None; new = None }
