-- Evictions.
use Rattle.std.proofs.Common.{◌≡◌, ◌≢◌, ◌<◌, ◌⊎◌, inl, inr, ℕ, Bool, true, false, refl, subst, ◌∙◌, arith, Option, Some, None}
use Rattle.std.specs.Prelude.{if◌then◌else◌, is_some, nat_le, MatchOption}
use Rattle.std.proofs.lemmas.Bool.Decides.{nat_tests}
use Rattle.bz_ring.specs.Content.{size_of}
use Rattle.bz_mark.specs.declared.power.Power.{Power}
use Rattle.bz_mark.specs.declared.power.Power.TheVariants as power
use Rattle.bz_queue.specs.QueueView.{QueueView, power_in, is_short, off_refusal, evict_refusal, Evicts, IsApplied}
use Rattle.bz_queue.specs.declared.answers.QApplied.{QApplied}
use Rattle.bz_queue.specs.declared.answers.QApplied.TheVariants as applied
use Rattle.bz_queue.specs.declared.answers.QEvent.TheVariants as event
use Rattle.bz_qsched.specs.Cutting.{HasNoPlace, WordEvicted}

-- what an eviction of a word of the memory answers
abbrev by_eviction : Bool → Bool → Option QApplied
by_eviction no_word short = if no_word then Some applied.NoWord else (if short then Some applied.Limit else None)

-- while the power is not off, nothing is refused for it
pub not_off : (p : Power) → p ≢ power.Off → off_refusal p ≡ None
not_off power.Off some = absurd (some refl)
not_off power.Recovering some = refl
not_off power.On some = refl

eviction_refusal_is : (lab : QueueView) (a : ℕ) → a < size_of lab.numbers.ring → power_in lab ≢ power.Off → evict_refusal lab a ≡ by_eviction false (is_short lab.log)
eviction_refusal_is lab a within powered =
    let in_range : nat_le (size_of lab.numbers.ring) a ≡ false = grind (arith, nat_tests, within) in
    rw (in_range, not_off (power_in lab) powered) refl

eviction_cases : (short : Bool) (old : QueueView) (a : ℕ) (answer : QApplied) (new : QueueView) → is_short old.log ≡ short
    → MatchOption (by_eviction false short) (Evicts old a answer new) (λ refusal. (answer ≡ refusal) × (new ≡ old)) → ((answer ≡ applied.Limit) × HasNoPlace old new) ⊎ ((answer ≡ applied.Evicted) × WordEvicted old a new)
eviction_cases true old a answer new is (e, same) = inl (e, record { short = is; same = same })
eviction_cases false old a answer new is h = inr (h.answered, record { room = is; evicts = subst (λ (told : QApplied). Evicts old a told new) h.answered h })

-- the answer is one of two
pub evicted : (old : QueueView) (a : ℕ) (answer : QApplied) (new : QueueView) → a < size_of old.numbers.ring → power_in old ≢ power.Off → IsApplied old (event.Evict a) answer new
    → ((answer ≡ applied.Limit) × HasNoPlace old new) ⊎ ((answer ≡ applied.Evicted) × WordEvicted old a new)
evicted old a answer new within powered h = eviction_cases (is_short old.log) old a answer new refl (rw (eviction_refusal_is old a within powered) at h)
