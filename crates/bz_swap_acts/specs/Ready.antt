-- What the act at a worker's place needs: its addresses lie in the memory, and its numbers fit its words.
use Rattle.std.specs.Prelude.{ℕ, ◌*◌, ◌^◌, ◌<◌, ◌≤◌, length, slice_index}
use Rattle.bz_swap_machine.specs.declared.place.Place.{Place}
use Rattle.bz_swap_machine.specs.declared.place.Place.TheVariants.{Idle, Prepare, Learn, Help, ReadWord, AskRead, FenceRead, ClearRead, LoadWord, StoreWord, AskLine, FenceLine}
use Rattle.bz_swap_machine.specs.declared.place.PrepareStep.{PrepareStep}
use Rattle.bz_swap_machine.specs.declared.place.PrepareStep.TheVariants.{WriteWord, WriteStatus, AskHead, AskTail, FenceDescriptor}
use Rattle.bz_swap_machine.specs.declared.place.HelpStep.{HelpStep}
use Rattle.bz_swap_machine.specs.declared.place.HelpStep.TheVariants.{Look, InstallTag, LookUnderTag, InstallPointer, RemoveTag, AskDirty, FenceDirty, ClearDirty, AskTarget, FenceTargets, Decide, AskStatus, FenceStatus, ClearStatus, PutFinal, AskFinal, FenceFinal, ClearFinal, SweepTag}
use Rattle.bz_swap_machine.specs.declared.worker.Worker.{Worker}
use Rattle.bz_swap_machine.specs.Machine.{Entries, entries_in}
use Rattle.bz_swap_machine.specs.Ranges.{IsTagger}
use Rattle.bz_swap_cells.specs.Store.{Store, IsOutside, MayTag, MayAsk, descriptor_word_at}

-- an address outside the descriptors, within the memory
pub record LiesOutside (st : Store) (a : ℕ) : Type 0 where
  pub outside : IsOutside st.swaps a
  pub within : a < length st.cached

-- an entry of the worker's list whose target and values can be used
pub record IsUsable (st : Store) (x : Entries) (i : ℕ) : Type 0 where
  pub entry : i < x.count
  pub count : x.count ≤ 4
  pub target : LiesOutside st (x.target i)
  pub expected : x.expected i < 2 ^ 61
  pub value : x.value i < 2 ^ 61

-- what an act on the current swap, whose entries are x, needs of worker w
abbrev pub IsStepReady : Store → ℕ → Entries → HelpStep → Type 0
IsStepReady st w x Look = Unit {0}
IsStepReady st w x (InstallTag i) = IsUsable st x i × MayTag st w
IsStepReady st w x (LookUnderTag i v q) = Unit {0}
IsStepReady st w x (InstallPointer i v q) = IsUsable st x i × IsTagger v q
IsStepReady st w x (RemoveTag i v q) = IsUsable st x i × IsTagger v q
IsStepReady st w x (AskDirty i v) = IsUsable st x i × MayAsk st w
IsStepReady st w x (FenceDirty i v) = w < length st.next_tags
IsStepReady st w x (ClearDirty i v) = IsUsable st x i × (v < 2 ^ 61)
IsStepReady st w x (AskTarget i) = IsUsable st x i × MayAsk st w
IsStepReady st w x FenceTargets = w < length st.next_tags
IsStepReady st w x (Decide d) = Unit {0}
IsStepReady st w x (AskStatus d) = MayAsk st w
IsStepReady st w x (FenceStatus d) = w < length st.next_tags
IsStepReady st w x (ClearStatus d) = Unit {0}
IsStepReady st w x (PutFinal i d) = IsUsable st x i
IsStepReady st w x (AskFinal i d) = IsUsable st x i × MayAsk st w
IsStepReady st w x (FenceFinal i d) = w < length st.next_tags
IsStepReady st w x (ClearFinal i d) = IsUsable st x i
IsStepReady st w x (SweepTag i d v q) = IsUsable st x i × IsTagger v q

-- a word of the current swap's descriptor is loaded: there are at most four entries
pub record MayLearn (st : Store) (l : Worker) (k : ℕ) : Type 0 where
  pub number : k ≤ 12
  pub known : 0 < k → slice_index l.list.words 0 ≤ 4
  pub found : descriptor_word_at st.swaps st.cached l.current 0 ≤ 4

-- a word of the own descriptor is stored, or a line of it is asked for
abbrev pub IsPrepareReady : Store → ℕ → PrepareStep → Type 0
IsPrepareReady st w (WriteWord k) = k ≤ 12
IsPrepareReady st w WriteStatus = Unit {0}
IsPrepareReady st w AskHead = MayAsk st w
IsPrepareReady st w AskTail = MayAsk st w
IsPrepareReady st w FenceDescriptor = w < length st.next_tags

-- what the act of worker w at its place needs; there is none at Idle, and a load of a word as it is belongs to a
-- recovery time
abbrev pub IsReadyAt : Store → Worker → ℕ → Place → Type 0
IsReadyAt st l w Idle = ⊥
IsReadyAt st l w (Prepare step) = (l.current < st.swaps) × IsPrepareReady st w step
IsReadyAt st l w (Learn k) = (l.current < st.swaps) × MayLearn st l k
IsReadyAt st l w (Help step) = (l.current < st.swaps) × IsStepReady st w (entries_in (slice_index l.list.words)) step
IsReadyAt st l w (ReadWord a) = LiesOutside st a
IsReadyAt st l w (AskRead a v) = LiesOutside st a × MayAsk st w
IsReadyAt st l w (FenceRead a v) = w < length st.next_tags
IsReadyAt st l w (ClearRead a v) = LiesOutside st a × (v < 2 ^ 61)
IsReadyAt st l w (LoadWord a) = ⊥
IsReadyAt st l w (StoreWord a v) = LiesOutside st a × (v < 2 ^ 61)
IsReadyAt st l w (AskLine line) = LiesOutside st (line * 8) × MayAsk st w
IsReadyAt st l w (FenceLine line) = w < length st.next_tags

abbrev pub IsReady : Store → Worker → ℕ → Type 0
IsReady st l w = IsReadyAt st l w l.place
