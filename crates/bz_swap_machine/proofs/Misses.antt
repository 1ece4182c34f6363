-- A swap that has not taken effect is noted as missed.
use Rattle.std.proofs.Common.{◌≡◌, ℕ, true, arith, refl}
use Rattle.std.proofs.lemmas.Grind.{common_steps}
use Rattle.bz_swap_machine.specs.Machine.{Entries, Memory}
use Rattle.bz_swap_machine.specs.Changes.{with_miss}
use Rattle.bz_swap_machine.specs.Sound.{Sound}
use Rattle.std.proofs.Common.{◌≢◌, ◌<◌, false}
use Rattle.bz_word.specs.declared.kind.WordKind.TheVariants.{Value}
use Rattle.bz_swap_machine.specs.Content.{has_effect, NotesMiss, TargetDiffers}
use Rattle.bz_swap_machine.proofs.Change.{Change, unchanged}
use Rattle.bz_swap_machine.proofs.Lasting.{lasts-durable}

noted-only : (m : Memory) (s t : ℕ) → m.missed t ≡ false → (with_miss m s).missed t ≡ true → (t ≡ s) × (has_effect m s ≡ false)
noted-only m s t old new = grind (arith, common_steps)

-- a target whose cached word is another value than expected holds that value
target-differs : (e : ℕ → Entries) (m : Memory) (s i v : ℕ) → i < (e s).count → m.cached ((e s).target i) ≡ Value v → v ≢ (e s).expected i → Sound e m → TargetDiffers e m s
target-differs e m s i v lt h ne g = record {
  entry = i;
  below = lt;
  differs = grind (arith, common_steps, g.same ((e s).target i) (m.durable ((e s).target i)) (lasts-durable _ _) (g.targets s i lt));
}

notes-miss : (e : ℕ → Entries) (m : Memory) (s : ℕ) → TargetDiffers e m s → NotesMiss e m (with_miss m s)
notes-miss e m s d = record {
  lawful = λ t old new. let only = noted-only m s t old new in rw only.0 (only.1, d);
  kept = λ t old. grind (arith, common_steps);
}

pub change-miss : (e : ℕ → Entries) (m : Memory) (s i v : ℕ) → m.published s ≡ true → i < (e s).count → m.cached ((e s).target i) ≡ Value v → v ≢ (e s).expected i → Sound e m → Change e m (with_miss m s) s
change-miss e m s i v p lt h ne g =
    let differs : TargetDiffers e m s = target-differs e m s i v lt h ne g in
    record {
      sound = grind (arith, common_steps, g.unmissed, g.missed, g);
      keeps = grind (arith, common_steps);
      descriptors = λ t. grind (arith, common_steps);
      effect = unchanged e m (with_miss m s) s refl refl;
      misses = notes-miss e m s differs;
    }
