-- What is known of one worker: the facts of its place, its list, and the swaps that it names.
use Rattle.std.specs.Prelude.{◌≡◌, ℕ, ◌*◌, ◌==◌, ◌&&◌, ◌<◌, ◌≤◌, Bool, true, false, Some, None}
use Rattle.std.specs.declared.option.Option.{Option}
use Rattle.bz_swap_machine.specs.declared.status.SwapStatus.{SwapStatus}
use Rattle.bz_swap_machine.specs.declared.status.SwapStatus.TheVariants.{Undecided}
use Rattle.bz_swap_machine.specs.declared.place.Place.{Place}
use Rattle.bz_swap_machine.specs.declared.place.Place.TheVariants.{Idle, Prepare, Learn, Help, ReadWord, AskRead, FenceRead, ClearRead, LoadWord, StoreWord, AskLine, FenceLine}
use Rattle.bz_swap_machine.specs.declared.place.PrepareStep.{PrepareStep}
use Rattle.bz_swap_machine.specs.declared.place.PrepareStep.TheVariants.{WriteWord, WriteStatus, AskHead, AskTail, FenceDescriptor}
use Rattle.bz_swap_machine.specs.declared.place.HelpStep.{HelpStep}
use Rattle.bz_swap_machine.specs.declared.place.HelpStep.TheVariants.{FenceStatus}
use Rattle.bz_swap_machine.specs.declared.worker.Operation.{Operation}
use Rattle.bz_swap_machine.specs.declared.worker.Operation.TheVariants.{Nothing, Reading, Swapping}
use Rattle.bz_swap_machine.specs.Machine.{Entries, Memory, spelled, StatusMayLast, FieldMayLast}
use Rattle.bz_swap_machine.specs.Changes.{in_head, fenced}
use Rattle.bz_swap_machine.specs.Facts.{Fact}
use Rattle.bz_swap_machine.specs.Steps.{Local}

-- the first k words are those that spell the entries
abbrev pub SpellBelow : Entries → (ℕ → ℕ) → ℕ → Type 0
SpellBelow x words k = (j : ℕ) → j < k → j ≤ 3 * x.count → words j ≡ spelled x j

-- all words are
abbrev pub Spell : Entries → (ℕ → ℕ) → Type 0
Spell x words = (j : ℕ) → j ≤ 3 * x.count → words j ≡ spelled x j

-- those of the descriptor's first line will be after a power cut, and all
abbrev pub HeadLasts : (ℕ → Entries) → Memory → ℕ → Type 0
HeadLasts e m s = (j v : ℕ) → FieldMayLast m s j v → in_head j ≡ true → j ≤ 3 * (e s).count → v ≡ spelled (e s) j

abbrev pub AllLast : (ℕ → Entries) → Memory → ℕ → Type 0
AllLast e m s = (j v : ℕ) → FieldMayLast m s j v → j ≤ 3 * (e s).count → v ≡ spelled (e s) j

-- the status will be undecided then
abbrev pub UndecidedLasts : Memory → ℕ → Type 0
UndecidedLasts m s = (k : SwapStatus) → StatusMayLast m s k → k ≡ Undecided

-- what worker w has stored so far of the descriptor of its swap s, and what its fence will make durable
abbrev pub Prepared : (ℕ → Entries) → Memory → ℕ → ℕ → PrepareStep → Type 0
Prepared e m w s (WriteWord k) = (k ≤ 3 * (e s).count) × SpellBelow (e s) (m.words s) k
Prepared e m w s WriteStatus = Spell (e s) (m.words s)
Prepared e m w s AskHead = Spell (e s) (m.words s) × (m.status s ≡ Undecided)
Prepared e m w s AskTail = Spell (e s) (m.words s) × (m.status s ≡ Undecided) × UndecidedLasts (fenced m w) s × HeadLasts e (fenced m w) s
Prepared e m w s FenceDescriptor = Spell (e s) (m.words s) × (m.status s ≡ Undecided) × UndecidedLasts (fenced m w) s × AllLast e (fenced m w) s

-- the own swap, if there is one, is published
abbrev pub OwnPublished : Memory → Operation → Type 0
OwnPublished m Nothing = Unit {0}
OwnPublished m (Reading a) = Unit {0}
OwnPublished m (Swapping s) = m.published s ≡ true

-- the own swap was begun by this worker, and is not answered
abbrev pub Owns : Memory → ℕ → Operation → Type 0
Owns m w Nothing = Unit {0}
Owns m w (Reading a) = Unit {0}
Owns m w (Swapping s) = (m.owner s ≡ w) × (s < m.taken) × (m.answer s ≡ None)

-- the swap to go back to is published
abbrev pub BackPublished : Memory → Option ℕ → Type 0
BackPublished m None = Unit {0}
BackPublished m (Some b) = m.published b ≡ true

-- what worker w knows by the place where its next act is due
abbrev pub AtPlace : (ℕ → Entries) → Memory → ℕ → Local → Place → Type 0
AtPlace e m w l Idle = Unit {0}
AtPlace e m w l (Prepare step) = (l.operation ≡ Swapping l.current) × (m.published l.current ≡ false) × Spell (e l.current) l.list × Prepared e m w l.current step
AtPlace e m w l (Learn k) = (m.published l.current ≡ true) × OwnPublished m l.operation × (k ≤ 3 * (e l.current).count) × SpellBelow (e l.current) l.list k
AtPlace e m w l (Help step) = (m.published l.current ≡ true) × OwnPublished m l.operation × Spell (e l.current) l.list × Fact e m w l.current step
AtPlace e m w l (ReadWord a) = l.operation ≡ Reading a
AtPlace e m w l (AskRead a v) = l.operation ≡ Reading a
AtPlace e m w l (FenceRead a v) = l.operation ≡ Reading a
AtPlace e m w l (ClearRead a v) = l.operation ≡ Reading a
AtPlace e m w l (LoadWord a) = ⊥
AtPlace e m w l (StoreWord a v) = m.named a ≡ false
AtPlace e m w l (AskLine line) = Unit {0}
AtPlace e m w l (FenceLine line) = Unit {0}

-- worker w has asked for no status, unless for that of its current swap at a place between that ask and the fence after it
abbrev pub prepare_asked : PrepareStep → Bool
prepare_asked (WriteWord k) = false
prepare_asked WriteStatus = false
prepare_asked AskHead = false
prepare_asked AskTail = true
prepare_asked FenceDescriptor = true

abbrev pub help_asked : HelpStep → Bool
help_asked (FenceStatus d) = true
help_asked step = false

abbrev pub has_asked : Place → Bool
has_asked (Prepare step) = prepare_asked step
has_asked (Help step) = help_asked step
has_asked place = false

abbrev pub AsksAtHome : Memory → ℕ → Local → Type 0
AsksAtHome m w l = (t : ℕ) → (has_asked l.place && (t == l.current)) ≡ false → (m.status_pending t).asked w ≡ None

-- all that is known of worker w
pub record Knows (e : ℕ → Entries) (m : Memory) (w : ℕ) (l : Local) : Type 0 where
  pub place : AtPlace e m w l l.place
  pub owns : Owns m w l.operation
  pub back : BackPublished m l.back
