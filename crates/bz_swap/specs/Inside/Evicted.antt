-- The eviction of a word as an event of the machine.
use Rattle.std.specs.Prelude.{◌≡◌, if◌then◌else◌, ◌==◌, ◌&&◌, not, ℕ, Some, None}
use Rattle.std.specs.declared.option.Option.{Option}
use Rattle.bz_swap_cells.specs.FromPm.After.{after_eviction}
use Rattle.bz_swap_machine.specs.Machine.{Memory, is_succeeded}
use Rattle.bz_swap_machine.specs.Changes.{with_copies, with_durable_status, with_durable_fields}
use Rattle.bz_swap_machine.specs.State.{Event, Evict, EvictStatus, EvictField}
use Rattle.bz_swap_cells.specs.Store.{Store, Beside, IsStore, SameShape, typed, store_state, with_state, status_at}
use Rattle.bz_swap.specs.declared.role.WordRole.{WordRole}
use Rattle.bz_swap.specs.declared.role.WordRole.TheVariants.{Outside, Status, Field}

-- the event that the eviction of a word with this role is
abbrev pub event_of : ℕ → WordRole → Event
event_of a Outside = Evict a
event_of a (Status s) = EvictStatus s
event_of a (Field s k) = EvictField s k

-- the memory after it
abbrev pub memory_after : ℕ → WordRole → Memory → Memory
memory_after a Outside m = with_copies m (λ c. c == a)
memory_after a (Status s) m = with_durable_status m s
memory_after a (Field s k) m = with_durable_fields m s (λ j. j == k)

-- the swap that took effect, if it did
abbrev pub told_between : Store → Store → ℕ → Option ℕ
told_between old new s = if is_succeeded (status_at new.swaps new.durable s) && not (is_succeeded (status_at old.swaps old.durable s)) then Some s else None

-- only a status tells an effect
abbrev pub told_of : WordRole → Store → Store → Option ℕ
told_of Outside old new = None
told_of (Status s) old new = told_between old new s
told_of (Field s k) old new = None

-- the word at the address is durable, and with it the machine's memory is that after the event
pub record IsEvicted (old : Store) (a : ℕ) (told : Option ℕ) (new : Store) : Type 0 where
  pub role : WordRole
  pub is_told : told ≡ told_of role old new
  pub changed : (b : Beside) → typed new b ≡ memory_after a role (typed old b)
  pub words : new ≡ with_state old (after_eviction (store_state old) a)
  pub readable : IsStore new
  pub shape : SameShape old new
