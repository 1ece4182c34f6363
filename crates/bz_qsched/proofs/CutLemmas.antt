-- The cut of the power.
use Rattle.std.proofs.Common.{◌≡◌, ◌≢◌, ◌<◌, ◌⊎◌, inl, inr, ℕ, Bool, true, false, refl, sym, ◌∙◌, arith, Option, Some, None}
use Rattle.std.specs.Prelude.{if◌then◌else◌, MatchOption}
use Rattle.std.proofs.lemmas.Bool.Decides.{nat_tests}
use Rattle.bz_ring.specs.Content.{size_of}
use Rattle.bz_mark.specs.declared.power.Power.TheVariants as power
use Rattle.bz_queue.specs.QueueView.{QueueView, power_in, is_short, cut_refusal, after_cut, IsApplied}
use Rattle.bz_queue.specs.declared.answers.QApplied.{QApplied}
use Rattle.bz_queue.specs.declared.answers.QApplied.TheVariants as applied
use Rattle.bz_queue.specs.declared.answers.QEvent.TheVariants as event
use Rattle.bz_queue.specs.declared.answers.QLimit.TheVariants as which
use Rattle.bz_qsched.specs.Cutting.{Evolves, HasNoPlace, AreEvicted, EvictionsStopped, IsCutOff}
use Rattle.bz_qsched.specs.Runs.{marks_left}
use Rattle.bz_qsched.specs.declared.running.RunEnd.TheVariants as end
use Rattle.bz_qsched.proofs.EvictionLemmas.{not_off}

-- the power was cut
pub record WasCut (old new : QueueView) : Type 0 where
  pub room : is_short old.log ≡ false
  pub is : new ≡ after_cut old

abbrev by_cut : Bool → Option QApplied
by_cut short = if short then Some applied.Limit else None

cut_refusal_is : (lab : QueueView) → power_in lab ≢ power.Off → cut_refusal lab ≡ by_cut (is_short lab.log)
cut_refusal_is lab powered = rw (not_off (power_in lab) powered) refl

cut_cases : (short : Bool) (old : QueueView) (answer : QApplied) (new : QueueView) → is_short old.log ≡ short
    → MatchOption (by_cut short) ((answer ≡ applied.Cut) × (new ≡ after_cut old)) (λ refusal. (answer ≡ refusal) × (new ≡ old)) → ((answer ≡ applied.Limit) × HasNoPlace old new) ⊎ ((answer ≡ applied.Cut) × WasCut old new)
cut_cases true old answer new is (e, same) = inl (e, record { short = is; same = same })
cut_cases false old answer new is (e, same) = inr (e, record { room = is; is = same })

-- the answer is one of two
pub cut_made : (old : QueueView) (answer : QApplied) (new : QueueView) → power_in old ≢ power.Off → IsApplied old event.Cut answer new → ((answer ≡ applied.Limit) × HasNoPlace old new) ⊎ ((answer ≡ applied.Cut) × WasCut old new)
cut_made old answer new powered h = cut_cases (is_short old.log) old answer new refl (rw (cut_refusal_is old powered) at h)

pub limit_met : (old : QueueView) → is_short old.log ≡ true → marks_left old < 3
limit_met old short = grind (arith, nat_tests, short)

-- the power stays as it is while words are evicted
pub still_powered : (old mid : QueueView) → Evolves old mid → power_in old ≢ power.Off → power_in mid ≢ power.Off
still_powered old mid e powered off = powered (sym e.power ∙ off)

-- no eviction was left a place, and the cut was left none
pub eviction_stops : (seed : ℕ) (old new : QueueView) → EvictionsStopped (size_of old.numbers.ring) seed old new → IsCutOff seed old (end.Limit which.Marks) new
eviction_stops seed old new h = (h.evolves.stays, refl, (λ calls. (inl h.evicts, refl)), h.met)

pub cut_stops : (seed : ℕ) (old mid new : QueueView) → AreEvicted (size_of old.numbers.ring) seed old mid → HasNoPlace mid new → IsCutOff seed old (end.Limit which.Marks) new
cut_stops seed old mid new h none = rw none.same (h.evolves.stays, refl, (λ calls. (inr h.evicts, refl)), limit_met mid none.short)

-- the power was cut
pub cut_is_made : (seed : ℕ) (old mid new : QueueView) → AreEvicted (size_of old.numbers.ring) seed old mid → WasCut mid new → IsCutOff seed old end.Cut new
cut_is_made seed old mid new h cut = rw cut.is (
  record { numbers = h.evolves.stays.numbers; start = h.evolves.stays.start; most = h.evolves.stays.most },
  refl,
  (λ calls. (mid.log.past, h.evicts, refl)),
)
