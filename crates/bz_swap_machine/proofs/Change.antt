-- What each kind of change of the memory owes.
use Rattle.std.proofs.Common.{◌≡◌, ℕ, arith, refl, inl}
use Rattle.std.proofs.lemmas.Grind.{common_steps}
use Rattle.bz_swap_machine.specs.Machine.{Entries, Memory}
use Rattle.bz_swap_machine.specs.Sound.{Sound}
use Rattle.bz_swap_machine.specs.Keeps.{Keeps, KeepsDescriptor}
use Rattle.bz_swap_machine.specs.Content.{NotesMiss, QuietOrEffect}

-- the words stay sound, the others' facts stay, nothing takes effect or the whole of swap s does, and a miss is
-- noted lawfully
pub record Change (e : ℕ → Entries) (m n : Memory) (s : ℕ) : Type 0 where
  pub sound : Sound e n
  pub keeps : Keeps e m n
  pub descriptors : (t : ℕ) → KeepsDescriptor m n t
  pub effect : QuietOrEffect e m n s
  pub misses : NotesMiss e m n

-- the durable words and statuses are not touched
pub unchanged : (e : ℕ → Entries) (m n : Memory) (s : ℕ) → n.durable ≡ m.durable → n.durable_status ≡ m.durable_status → QuietOrEffect e m n s
unchanged e m n s d k = inl (record { content = λ a nm. rw (d, k) refl; swaps = λ t. rw k refl })

-- no miss is noted
pub no_miss : (e : ℕ → Entries) (m n : Memory) → n.missed ≡ m.missed → NotesMiss e m n
no_miss e m n h = record { lawful = λ s old new. grind (arith, h); kept = λ s old. rw h old }

-- a change that touches neither what is durable nor what is noted as missed
pub quiet-change : (e : ℕ → Entries) (m n : Memory) (s : ℕ) → Sound e n → Keeps e m n → ((t : ℕ) → KeepsDescriptor m n t) → n.durable ≡ m.durable → n.durable_status ≡ m.durable_status → n.missed ≡ m.missed → Change e m n s
quiet-change e m n s g k d durable status missed = record { sound = g; keeps = k; descriptors = d; effect = unchanged e m n s durable status; misses = no_miss e m n missed }

-- nothing changes
pub change-same : (e : ℕ → Entries) (m : Memory) (s : ℕ) → Sound e m → Change e m m s
change-same e m s g = quiet-change e m m s g (grind (arith, common_steps)) (λ t. grind (arith, common_steps)) refl refl refl
