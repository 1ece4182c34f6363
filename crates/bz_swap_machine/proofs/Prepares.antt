-- The steps of a worker that prepares the descriptor of its own swap.
use Rattle.std.proofs.Common.{inl, ◌≡◌, ◌≢◌, ℕ, ◌<◌, false, arith, refl, ◌∙◌, None}
use Rattle.std.proofs.lemmas.Grind.{common_steps}
use Rattle.bz_swap_machine.specs.declared.status.SwapStatus.{SwapStatus}
use Rattle.bz_swap_machine.specs.declared.status.SwapStatus.TheVariants.{Undecided}
use Rattle.bz_swap_machine.specs.declared.status.Verdict.{Verdict}
use Rattle.bz_swap_machine.specs.Machine.{Entries, Memory, is_verdict}
use Rattle.bz_swap_machine.specs.Changes.{with_status}
use Rattle.bz_swap_machine.specs.Sound.{IsUnset, Sound}
use Rattle.bz_swap_machine.specs.Keeps.{Keeps, KeepsDescriptor}
use Rattle.bz_swap_machine.specs.declared.place.Place.{Place}
use Rattle.bz_swap_machine.specs.declared.worker.Operation.TheVariants.{Swapping}
use Rattle.bz_swap_machine.specs.Steps.{Local, goes_on}
use Rattle.bz_swap_machine.specs.Knows.{Spell, BackPublished, AtPlace}
use Rattle.bz_swap_machine.specs.Content.{NotesMiss, QuietOrEffect}
use Rattle.bz_swap_machine.proofs.Good.{Good}
use Rattle.bz_swap_machine.proofs.KeptKnowledge.{back-keeps}

unset-verdict : (k : SwapStatus) (d : Verdict) → IsUnset k → is_verdict k d ≡ false
unset-verdict k d u = grind arith

-- the status of an unpublished swap becomes undecided
pub sound-undecided : (e : ℕ → Entries) (m : Memory) (s : ℕ) → m.published s ≡ false → Sound e m → Sound e (with_status m s Undecided)
sound-undecided e m s p g = grind (arith, common_steps, g)

pub keeps-undecided : (e : ℕ → Entries) (m : Memory) (s : ℕ) → m.published s ≡ false → Sound e m → Keeps e m (with_status m s Undecided)
keeps-undecided e m s p g = grind (arith, common_steps, unset-verdict (m.status s), g.unset s p)

pub descriptor-undecided : (m : Memory) (s t : ℕ) → t ≢ s → KeepsDescriptor m (with_status m s Undecided) t
descriptor-undecided m s t ne = grind (arith, common_steps)

-- what is known on the own swap before it is published
pub record OnOwn (e : ℕ → Entries) (m : Memory) (w : ℕ) (l : Local) : Type 0 where
  pub operation : l.operation ≡ Swapping l.current
  pub unpublished : m.published l.current ≡ false
  pub spell : Spell (e l.current) l.list
  pub owner : m.owner l.current ≡ w
  pub taken : l.current < m.taken
  pub unanswered : m.answer l.current ≡ None
  pub back : BackPublished m l.back

-- such an act owes this much: it can change the own descriptor
pub good-prepared : (e : ℕ → Entries) (m n : Memory) (w : ℕ) (l : Local) (place : Place) → OnOwn e m w l → Sound e n → Keeps e m n → ((s : ℕ) → s ≢ l.current → KeepsDescriptor m n s)
    → QuietOrEffect e m n l.current → NotesMiss e m n → n.answer l.current ≡ None → AtPlace e n w l place → Good e m w l (goes_on n l place)
good-prepared e m n w l place o g k d effect misses an f = record {
  sound = g;
  keeps = k;
  descriptors = λ s other. d s (λ same. other (rw same o.owner));
  effect = effect;
  misses = misses;
  knows = record { place = f; owns = rw o.operation ((k.owner l.current ∙ o.owner), omega (arith, k.taken, o.taken), an); back = back-keeps e m n l.back k o.back };
  answer = tt;
  ends = inl refl;
}
