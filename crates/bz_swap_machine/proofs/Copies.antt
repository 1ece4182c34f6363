-- Words outside the descriptors become durable: a flush of a line, or an eviction.
use Rattle.std.proofs.Common.{◌⊎◌, ◌≡◌, ℕ, Bool, true, false, refl, inl, inr}
use Rattle.bz_word.specs.declared.kind.WordKind.{WordKind}
use Rattle.bz_swap_machine.specs.Machine.{Entries, Memory, MayLast}
use Rattle.bz_swap_machine.specs.Changes.{with_copies}
use Rattle.bz_swap_machine.specs.Sound.{Sound}
use Rattle.bz_swap_machine.proofs.Change.{Change}
use Rattle.bz_swap_machine.proofs.Lasting.{lasts-copied, past-copied}
use Rattle.bz_swap_machine.proofs.Settles.{Settles, onward-same, change-quietly}

-- of a word that became durable the cached one alone may last
pub lasts-copies : (e : ℕ → Entries) (m : Memory) (p : ℕ → Bool) (a : ℕ) (x : WordKind) → Sound e m → MayLast (with_copies m p) a x → ((p a ≡ true) × (x ≡ m.cached a)) ⊎ ((p a ≡ false) × MayLast m a x)
lasts-copies e m p a x g may = lasts-copied (p a) (m.cached a) (m.durable a) m.now (m.pending a) x (g.past a) may

settles-copies : (e : ℕ → Entries) (m : Memory) (p : ℕ → Bool) → Sound e m → Settles m (with_copies m p)
settles-copies e m p g = record {
  words = λ a x may. elim (lasts-copies e m p a x g may) [ inl copied ↦ inl copied.1 | inr was ↦ inr was.1 ];
  fields = λ s k v may. inr may;
  statuses = λ s k may. inr may;
  order = g.order;
  onward = onward-same e m g;
  past = λ a. past-copied (p a) m.now (m.pending a) (g.past a);
  status_past = g.status_past;
  words_past = g.words_past;
}

pub change-copies : (e : ℕ → Entries) (m : Memory) (p : ℕ → Bool) (s : ℕ) → Sound e m → Change e m (with_copies m p) s
change-copies e m p s g = change-quietly e m (with_copies m p) (settles-copies e m p g) g s (λ t. refl)
