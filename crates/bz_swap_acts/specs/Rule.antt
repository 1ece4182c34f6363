-- The rule of the simulated memory for an act.
use Rattle.std.specs.Prelude.{◌≡◌, ℕ, ◌*◌, ◌<◌, Bool, true, false, slice_index}
use Rattle.bz_swap_cells.specs.FromPm.Words.{Words}
use Rattle.bz_swap_cells.specs.FromPm.After.{after_store, after_cas, after_ask, after_fence}
use Rattle.bz_swap_cells.specs.FromPm.State.{State}
use Rattle.bz_swap_machine.specs.declared.place.Place.{Place}
use Rattle.bz_swap_machine.specs.declared.place.Place.TheVariants as place
use Rattle.bz_swap_acts.specs.declared.acted.Act.{Act}
use Rattle.bz_swap_acts.specs.declared.acted.Act.TheVariants.{Load, Store, Cas, Ask, Fence}

-- the memory after an act of worker w
abbrev pub after_act : ℕ → State → Act → State
after_act w m (Load a v) = m
after_act w m (Store a v) = after_store m a v
after_act w m (Cas a old new found) = after_cas m a old new
after_act w m (Ask line) = after_ask m w line
after_act w m Fence = after_fence m w

-- what an act found is the cached word
abbrev pub FoundRightly : Words → Act → Type 0
FoundRightly m (Load a v) = v ≡ slice_index m.cached a
FoundRightly m (Store a v) = Unit {0}
FoundRightly m (Cas a old new found) = found ≡ slice_index m.cached a
FoundRightly m (Ask line) = Unit {0}
FoundRightly m Fence = Unit {0}

-- the act is one on a word, or a line, of a memory of so many words
abbrev pub IsWithin : ℕ → Act → Type 0
IsWithin size (Load a v) = a < size
IsWithin size (Store a v) = a < size
IsWithin size (Cas a old new found) = a < size
IsWithin size (Ask line) = line * 8 < size
IsWithin size Fence = Unit {0}

-- this act of worker w leads from this memory to that
pub record IsActOf (old : State) (w : ℕ) (act : Act) (new : State) : Type 0 where
  pub found : FoundRightly old.words act
  pub after : new ≡ after_act w old act

-- a fence
abbrev pub is_fence_act : Act → Bool
is_fence_act (Load a v) = false
is_fence_act (Store a v) = false
is_fence_act (Cas a old new found) = false
is_fence_act (Ask line) = false
is_fence_act Fence = true

-- the act of a read is a load of its address, that of a private store is the one that was asked for, and a private
-- flush is an ask and a fence
abbrev pub IsToldAt : Place → Act → Type 0
IsToldAt (place.ReadWord a) act = (v : ℕ) × (act ≡ Load a v)
IsToldAt (place.StoreWord a v) act = act ≡ Store a v
IsToldAt (place.AskLine line) act = act ≡ Ask line
IsToldAt (place.FenceLine line) act = act ≡ Fence
IsToldAt other act = Unit {0}
