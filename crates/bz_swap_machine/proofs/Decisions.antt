-- A status is decided, or its dirty bit is cleared; a swap is noted as missed.
use Rattle.std.proofs.Common.{◌≡◌, ◌≢◌, ℕ, ◌<◌, true, false, arith, refl}
use Rattle.std.proofs.lemmas.Grind.{common_steps}
use Rattle.bz_word.specs.declared.kind.WordKind.{WordKind}
use Rattle.bz_word.specs.declared.kind.WordKind.TheVariants.{Swap, Tag}
use Rattle.bz_swap_machine.specs.declared.status.SwapStatus.{SwapStatus}
use Rattle.bz_swap_machine.specs.declared.status.SwapStatus.TheVariants.{Undecided}
use Rattle.bz_swap_machine.specs.declared.status.Verdict.{Verdict}
use Rattle.bz_swap_machine.specs.declared.status.Verdict.TheVariants.{Failed}
use Rattle.bz_swap_machine.specs.Machine.{Entries, Memory, is_verdict, is_succeeded, MayLast, StatusMayLast}
use Rattle.bz_swap_machine.specs.Changes.{with_status}
use Rattle.bz_swap_machine.specs.Sound.{Follows, Sound}
use Rattle.bz_swap_machine.specs.Keeps.{Keeps}
use Rattle.bz_swap_machine.proofs.Change.{Change, quiet-change}

-- the status of a published swap changes to one that the durable status may precede, and that is not a success
-- that stands in the cache alone but where all targets hold the pointer
pub record MayBecome (e : ℕ → Entries) (m : Memory) (s : ℕ) (c : SwapStatus) : Type 0 where
  pub published : m.published s ≡ true
  pub follows : (k : SwapStatus) → StatusMayLast m s k → Follows c k
  pub standing : (i : ℕ) → i < (e s).count → is_succeeded c ≡ true → m.durable_status s ≡ Undecided → m.cached ((e s).target i) ≡ Swap s
  pub standing_durable : (i : ℕ) (x : WordKind) → i < (e s).count → is_succeeded c ≡ true → m.durable_status s ≡ Undecided → MayLast m ((e s).target i) x → x ≡ Swap s
  pub missed : is_verdict c Failed ≡ true → m.missed s ≡ true
  pub decided : c ≢ Undecided
  pub verdict : (d : Verdict) → is_verdict (m.status s) d ≡ true → is_verdict c d ≡ true
  -- no tag stands where success is new
  pub no_tag : (i w q : ℕ) → i < (e s).count → is_succeeded (m.status s) ≡ false → is_succeeded c ≡ true → m.cached ((e s).target i) ≢ Tag s i w q

sound-status : (e : ℕ → Entries) (m : Memory) (s : ℕ) (c : SwapStatus) → MayBecome e m s c → Sound e m → Sound e (with_status m s c)
sound-status e m s c b g = grind (arith, common_steps, g, b)

keeps-status : (e : ℕ → Entries) (m : Memory) (s : ℕ) (c : SwapStatus) → MayBecome e m s c → Keeps e m (with_status m s c)
keeps-status e m s c b = grind (arith, common_steps, b)

pub change-status : (e : ℕ → Entries) (m : Memory) (s : ℕ) (c : SwapStatus) → MayBecome e m s c → Sound e m → Change e m (with_status m s c) s
change-status e m s c b g = quiet-change e m (with_status m s c) s (sound-status e m s c b g) (keeps-status e m s c b) (λ t. grind (arith, common_steps, b.published)) refl refl refl
