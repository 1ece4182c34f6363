-- The atomic swap memory: what an address holds, and what an act or an eviction does to that.
use Rattle.std.specs.Prelude.{◌⊎◌, ◌≡◌, ◌≢◌, ℕ, ◌<◌, Bool, true, false}
use Rattle.bz_swap_machine.specs.Machine.{Entries, Memory, is_succeeded, resolve}

-- what an address that a swap has named holds: what its durable word stands for
abbrev pub content : (ℕ → Entries) → Memory → ℕ → ℕ
content e m a = resolve e m.durable_status a (m.durable a)

-- a swap has taken effect
abbrev pub has_effect : Memory → ℕ → Bool
has_effect m s = is_succeeded (m.durable_status s)

-- swap s takes effect, whole: it had not, its targets held the expected values and hold the new ones, and
-- nothing else changes
pub record TakesEffect (e : ℕ → Entries) (m n : Memory) (s : ℕ) : Type 0 where
  pub before : has_effect m s ≡ false
  pub done : has_effect n s ≡ true
  pub other_swaps : (t : ℕ) → t ≢ s → has_effect n t ≡ has_effect m t
  pub expected : (i : ℕ) → i < (e s).count → content e m ((e s).target i) ≡ (e s).expected i
  pub value : (i : ℕ) → i < (e s).count → content e n ((e s).target i) ≡ (e s).value i
  pub others : (a : ℕ) → m.named a ≡ true → ((i : ℕ) → i < (e s).count → a ≢ (e s).target i) → content e n a ≡ content e m a

-- nothing takes effect, and every address keeps what it holds
pub record Quiet (e : ℕ → Entries) (m n : Memory) : Type 0 where
  pub content : (a : ℕ) → m.named a ≡ true → content e n a ≡ content e m a
  pub swaps : (s : ℕ) → has_effect n s ≡ has_effect m s

-- a target of swap s holds another value than the swap expects
pub record TargetDiffers (e : ℕ → Entries) (m : Memory) (s : ℕ) : Type 0 where
  pub entry : ℕ
  pub below : entry < (e s).count
  pub differs : content e m ((e s).target entry) ≢ (e s).expected entry

-- a swap is noted as missed only where it has not taken effect and one of its targets differs, and for good
pub record NotesMiss (e : ℕ → Entries) (m n : Memory) : Type 0 where
  pub lawful : (s : ℕ) → m.missed s ≡ false → n.missed s ≡ true → (has_effect m s ≡ false) × TargetDiffers e m s
  pub kept : (s : ℕ) → m.missed s ≡ true → n.missed s ≡ true

-- an act, eviction or fence that touches the status of swap s alone leaves every content, or is the effect of s
abbrev pub QuietOrEffect : (ℕ → Entries) → Memory → Memory → ℕ → Type 0
QuietOrEffect e m n s = Quiet e m n ⊎ TakesEffect e m n s
