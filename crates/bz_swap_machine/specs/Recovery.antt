-- What a power cut leaves, for the recovery that follows it.
use Rattle.std.specs.Prelude.{◌≡◌, ◌≢◌, ℕ, ◌*◌, ◌≤◌}
use Rattle.bz_word.specs.declared.kind.WordKind.TheVariants.{Swap, Tag}
use Rattle.bz_swap_machine.specs.declared.status.SwapStatus.TheVariants.{Free}
use Rattle.bz_swap_machine.specs.Machine.{Entries, Memory, spelled}
use Rattle.bz_swap_machine.specs.Sound.{IsTarget, IsEntry}
use Rattle.bz_swap_machine.specs.Content.{content, has_effect}

-- the descriptor of a swap can be read
pub record IsReadable (e : ℕ → Entries) (m : Memory) (s : ℕ) : Type 0 where
  pub words : (k : ℕ) → k ≤ 3 * (e s).count → m.words s k ≡ spelled (e s) k
  pub status : m.status s ≢ Free

-- from the memory m before the cut to n after it: every address holds what it held, the effects are the same, and
-- what a pointer or a tag stands for can be read from its descriptor, of which the address is a target
pub record IsRecoverable (e : ℕ → Entries) (m n : Memory) : Type 0 where
  pub content : (a : ℕ) → content e n a ≡ content e m a
  pub swaps : (s : ℕ) → has_effect n s ≡ has_effect m s
  pub pointer : (a s : ℕ) → n.cached a ≡ Swap s → IsTarget e m.published s a × IsReadable e n s
  pub tag : (a s i w q : ℕ) → n.cached a ≡ Tag s i w q → IsEntry e m.published s i a × IsReadable e n s
