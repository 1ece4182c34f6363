-- While a swap is undecided its pointers stand on its first entries, and a tag of it no further than on the next one.
-- Its targets rise.
use Rattle.std.specs.Prelude.{◌≡◌, ℕ, ◌<◌}
use Rattle.bz_word.specs.declared.kind.WordKind.{WordKind}
use Rattle.bz_word.specs.declared.kind.WordKind.TheVariants.{Value, Dirty, Swap, Tag}
use Rattle.bz_swap_machine.specs.Facts.{Points}
use Rattle.bz_swap_machine.specs.Machine.{Entries}
use Rattle.bz_swap_machine.specs.State.{State, Event, StartRead, StartStore, StartFlush, StartSwap, Act, Evict, EvictStatus, EvictField, happens, MayHappen, IsState}

-- the word is a pointer or a tag of swap s
abbrev pub StandsFor : WordKind → ℕ → Type 0
StandsFor (Value v) s = ⊥
StandsFor (Dirty v) s = ⊥
StandsFor (Swap t) s = t ≡ s
StandsFor (Tag t i w q) s = t ≡ s

-- where the swap stands at an entry, its pointers stand at all entries before
abbrev pub HaveFronts : State → Type 0
HaveFronts x = (s j : ℕ) → j < (x.entries s).count → StandsFor (x.memory.cached ((x.entries s).target j)) s → Points x.entries x.memory s j

-- so it stays, whatever may happen
abbrev pub FrontsStay : Type 0
FrontsStay = (x : State) (event : Event) → MayHappen x event → IsState x → HaveFronts x → HaveFronts (happens x event)

-- the targets of entries rise
abbrev pub Rises : Entries → Type 0
Rises x = (i j : ℕ) → i < j → j < x.count → x.target i < x.target j

-- those of a swap that begins do
abbrev pub MayRise : Event → Type 0
MayRise (StartRead w a) = Unit {0}
MayRise (StartStore w a v) = Unit {0}
MayRise (StartFlush w line) = Unit {0}
MayRise (StartSwap w new targets) = Rises new
MayRise (Act w) = Unit {0}
MayRise (Evict a) = Unit {0}
MayRise (EvictStatus s) = Unit {0}
MayRise (EvictField s k) = Unit {0}

abbrev pub AllRise : State → Type 0
AllRise x = (s : ℕ) → Rises (x.entries s)

abbrev pub AllStayRising : Type 0
AllStayRising = (x : State) (event : Event) → MayRise event → AllRise x → AllRise (happens x event)
