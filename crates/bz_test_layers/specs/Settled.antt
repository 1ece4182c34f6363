-- What a memory of the tests knows of its words that no swap has named.
use Rattle.std.specs.Prelude.{◌≡◌, ◌≢◌, ℕ, Bool, true, false, List, get_or}
use Rattle.bz_swap_cells.specs.Store.{IsOutside}
use Rattle.bz_swap.specs.declared.phase.Phase.TheVariants.{Recovering}
use Rattle.bz_swap.specs.SwapMemory.{SwapMemory, is_named, is_settled_at}

-- outside a recovery time each word that no swap has named, and into which nobody has stored by itself, is settled
abbrev pub AreSettled : SwapMemory → List Bool → Type 0
AreSettled m stored = (a : ℕ) → IsOutside m.swaps a → m.phase ≢ Recovering → is_named m a ≡ false → get_or stored a false ≡ false → is_settled_at m a ≡ true
