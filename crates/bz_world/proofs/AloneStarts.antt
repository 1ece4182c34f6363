-- A swap that is asked for while its worker is alone goes well from its start on.
use Rattle.std.proofs.Common.{◌≡◌, ◌≢◌, ℕ, if◌then◌else◌, Bool, true, List, slice_index, arith, refl, sym, ap, ◌∙◌}
use Rattle.std.specs.Prelude.{get_or}
use Rattle.std.proofs.lemmas.List.Elements.{All-from_get_or, All-get_or, All-same}
use Rattle.bz_swap_cells.specs.Store.{is_outside}
use Rattle.bz_swap_cells.proofs.Places.{outside-told}
use Rattle.bz_layout.specs.declared.config.Config.{Config}
use Rattle.bz_rivals.specs.Notes.{AreNoted}
use Rattle.bz_rivals.specs.Wins.{Stand, GoesWell, AreExpected, ExpectedStand}
use Rattle.bz_sight.specs.Sight.{IsSeen, answer_at}
use Rattle.bz_swap.specs.Atomic.{value_in, value_of}
use Rattle.bz_swap.specs.Starts.{IsEntry, MaySwap, swapping}
use Rattle.bz_swap.specs.SwapMemory.{SwapMemory, value_at, is_named, entries_of}
use Rattle.bz_swap.specs.declared.phase.Phase.{Phase}
use Rattle.bz_swap.specs.declared.phase.Phase.TheVariants.{Opened, Running, Recovering}
use Rattle.bz_task.specs.Instant.{Instant}
use Rattle.bz_task.specs.Swaps.{Stand as StandIn}
use Rattle.bz_word.specs.declared.entry.Entry.{Entry}
use Rattle.bz_world.proofs.Stepped.{held}

blank : Entry
blank = record { target = 0; expected = 0; new = 0 }

-- what is answered of an address outside the descriptors is its value
answered : (phase : Phase) (m : SwapMemory) (a : ℕ) → phase ≢ Recovering → is_outside m.swaps a ≡ true → answer_at m a ≡ value_in phase m a
answered Opened m a works outside = ap (λ (t : Bool). if t then (if is_named m a then value_at m a else slice_index m.cached a) else 0) outside
answered Running m a works outside = ap (λ (t : Bool). if t then (if is_named m a then value_at m a else slice_index m.cached a) else 0) outside
answered Recovering m a works outside = absurd (works refl)

-- so what a task has read stands in the memory
pub stands-now : ExpectedStand → (c : Config) (x : Instant) (m : SwapMemory) (w : ℕ) (entries : List Entry) → IsSeen c m x → MaySwap m w entries → StandIn entries x → Stand m entries
stands-now law c x m w entries seen may stand = law m w entries (held m seen.phase seen.holds) may expected
  where
    value-is : (e : Entry) → IsEntry m e → value_of m e.target ≡ x.value e.target
    value-is e entry = sym (ap (λ (f : ℕ → ℕ). f e.target) seen.value ∙ answered m.phase m e.target seen.phase (outside-told m.swaps e.target entry.address.outside))

    expected : AreExpected m entries
    expected = All-from_get_or (λ (e : Entry). value_of m e.target ≡ e.expected) entries blank
        (λ i l. value-is (get_or entries i blank) (All-get_or (IsEntry m) entries i blank l may.each) ∙ All-get_or (λ (e : Entry). x.value e.target ≡ e.expected) entries i blank l stand)

-- and the swap, which nobody has noted, goes well
pub starts-well : (m : SwapMemory) (w : ℕ) (entries : List Entry) → AreNoted m → entries_of (swapping m w entries) m.taken ≡ entries → Stand m entries → GoesWell (swapping m w entries) m.taken
starts-well m w entries noted same stand = record {
  unnoted = noted.missed m.taken (omega arith);
  stands = λ without. All-same (λ (e : Entry). value_at m e.target ≡ e.expected) (entries_of (swapping m w entries) m.taken) entries same stand;
}

-- as do those of the others
pub well-beside : (m : SwapMemory) (w s : ℕ) (entries : List Entry) → entries_of (swapping m w entries) s ≡ entries_of m s → GoesWell m s → GoesWell (swapping m w entries) s
well-beside m w s entries same well = record {
  unnoted = well.unnoted;
  stands = λ without. All-same (λ (e : Entry). value_at m e.target ≡ e.expected) (entries_of (swapping m w entries) s) (entries_of m s) same (well.stands without);
}
