-- Which words an act writes, by the place where it is made.
use Rattle.std.specs.Prelude.{◌≡◌, ℕ, ◌+◌, ◌/◌, slice_index}
use Rattle.bz_layout.specs.Addresses.{swap_address}
use Rattle.bz_swap_machine.specs.declared.place.Place.{Place}
use Rattle.bz_swap_machine.specs.declared.place.Place.TheVariants as place
use Rattle.bz_swap_machine.specs.declared.place.PrepareStep.{PrepareStep}
use Rattle.bz_swap_machine.specs.declared.place.PrepareStep.TheVariants.{WriteWord, WriteStatus, AskHead, AskTail, FenceDescriptor}
use Rattle.bz_swap_machine.specs.declared.place.HelpStep.{HelpStep}
use Rattle.bz_swap_machine.specs.declared.place.HelpStep.TheVariants.{Decide, ClearStatus, AskDirty, FenceDirty, AskTarget, FenceTargets, AskStatus, FenceStatus, AskFinal, FenceFinal}
use Rattle.bz_swap_machine.specs.declared.status.SwapStatus.{SwapStatus}
use Rattle.bz_swap_machine.specs.declared.status.SwapStatus.TheVariants.{Undecided, Deciding, Decided}
use Rattle.bz_swap_machine.specs.declared.worker.Worker.{Worker}
use Rattle.bz_swap_cells.specs.Store.{IsOutside, field_address, status_word}
use Rattle.bz_swap_acts.specs.declared.acted.Act.{Act}
use Rattle.bz_swap_acts.specs.declared.acted.Act.TheVariants.{Load, Store, Cas, Ask, Fence}

-- the act stores nothing and is no ask and no fence, and compares and swaps outside the descriptors alone, where there are so many
abbrev pub StaysOutside : ℕ → Act → Type 0
StaysOutside swaps (Load a v) = Unit {0}
StaysOutside swaps (Store a v) = ⊥
StaysOutside swaps (Cas a old new found) = IsOutside swaps a
StaysOutside swaps (Ask line) = ⊥
StaysOutside swaps Fence = ⊥

-- the act compares and swaps the status of swap s from the one to the other
abbrev pub SwapsStatus : ℕ → SwapStatus → SwapStatus → Act → Type 0
SwapsStatus s before after act = (found : ℕ) × (act ≡ Cas (swap_address s) (status_word before) (status_word after) found)

-- the act is an ask for some line
abbrev pub IsAsk : Act → Type 0
IsAsk act = (line : ℕ) × (act ≡ Ask line)

-- on the own descriptor: a word of the list is stored at its place, and after all of them the status; its lines are asked for
abbrev pub PreparesBy : ℕ → Worker → PrepareStep → Act → Type 0
PreparesBy swaps l (WriteWord k) act = act ≡ Store (field_address l.current k) (slice_index l.list.words k)
PreparesBy swaps l WriteStatus act = act ≡ Store (swap_address l.current) (status_word Undecided)
PreparesBy swaps l AskHead act = act ≡ Ask (swap_address l.current / 8)
PreparesBy swaps l AskTail act = act ≡ Ask (swap_address l.current / 8 + 1)
PreparesBy swaps l FenceDescriptor act = act ≡ Fence

-- on swap s, which is published: of its descriptor the status alone changes, once to a verdict and once to the same
-- verdict without the dirty bit; its line is asked for
abbrev pub HelpsBy : ℕ → ℕ → HelpStep → Act → Type 0
HelpsBy swaps s (Decide d) act = SwapsStatus s Undecided (Deciding d) act
HelpsBy swaps s (ClearStatus d) act = SwapsStatus s (Deciding d) (Decided d) act
HelpsBy swaps s (AskStatus d) act = act ≡ Ask (swap_address s / 8)
HelpsBy swaps s (AskDirty i v) act = IsAsk act
HelpsBy swaps s (AskTarget i) act = IsAsk act
HelpsBy swaps s (AskFinal i d) act = IsAsk act
HelpsBy swaps s (FenceStatus d) act = act ≡ Fence
HelpsBy swaps s (FenceDirty i v) act = act ≡ Fence
HelpsBy swaps s FenceTargets act = act ≡ Fence
HelpsBy swaps s (FenceFinal i d) act = act ≡ Fence
HelpsBy swaps s other act = StaysOutside swaps act

-- at a worker's place
abbrev pub WritesAt : ℕ → Worker → Place → Act → Type 0
WritesAt swaps l (place.Prepare step) act = PreparesBy swaps l step act
WritesAt swaps l (place.Help step) act = HelpsBy swaps l.current step act
WritesAt swaps l (place.StoreWord a v) act = act ≡ Store a v
WritesAt swaps l (place.AskLine line) act = act ≡ Ask line
WritesAt swaps l (place.FenceLine line) act = act ≡ Fence
WritesAt swaps l (place.AskRead a v) act = act ≡ Ask (a / 8)
WritesAt swaps l (place.FenceRead a v) act = act ≡ Fence
WritesAt swaps l other act = StaysOutside swaps act
