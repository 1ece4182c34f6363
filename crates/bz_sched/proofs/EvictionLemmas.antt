-- Evictions.
use Rattle.std.proofs.Common.{◌≡◌, ◌≢◌, ◌<◌, ◌⊎◌, inl, inr, ℕ, Bool, true, false, refl, subst, ◌∙◌, arith, Option, Some, None}
use Rattle.std.specs.Prelude.{if◌then◌else◌, is_some, nat_le, MatchOption}
use Rattle.bz_sound.specs.Calls.{open_call}
use Rattle.std.proofs.lemmas.Bool.Decides.{nat_tests}
use Rattle.bz_layout.specs.Addresses.{words_of}
use Rattle.bz_mark.specs.declared.marks.Mark.TheVariants as mark
use Rattle.bz_mark.specs.declared.power.Power.{Power}
use Rattle.bz_mark.specs.declared.power.Power.TheVariants as power
use Rattle.bz_world.specs.WorldView.{WorldView, power_in, is_short, off_refusal, evict_refusal, Evicts, IsApplied}
use Rattle.bz_world.specs.declared.answers.Applied.{Applied}
use Rattle.bz_world.specs.declared.answers.Applied.TheVariants as applied
use Rattle.bz_world.specs.declared.answers.Event.TheVariants as event
use Rattle.bz_world.specs.declared.answers.LimitKind.TheVariants as which
use Rattle.bz_sched.specs.Cutting.{HasNoPlace, WordEvicted}
use Rattle.bz_sched.specs.Fuses.{Fused}
use Rattle.bz_sched.specs.Runs.{point_in, IsReady, IsAtLimit, Keeps}
use Rattle.bz_sched.specs.Turns.{IsEviction}
use Rattle.bz_sched.specs.TurnsInPart.{StopsEvent}
use Rattle.bz_sched.specs.declared.turn.Stop.TheVariants.{Limit}
use Rattle.bz_sched.proofs.BurnLemmas.{burns_none}
use Rattle.bz_sched.proofs.PowerLemmas.{struck_power, struck_fences}
use Rattle.bz_sched.proofs.StepLemmas.{struck_is, short_stops}

-- what an eviction of a word of the memory answers
abbrev by_eviction : Bool → Bool → Option Applied
by_eviction no_word short = if no_word then Some applied.NoWord else (if short then Some applied.Limit else None)

-- while the power is not off, nothing is refused for it
pub not_off : (p : Power) → p ≢ power.Off → off_refusal p ≡ None
not_off power.Off some = absurd (some refl)
not_off power.Recovering some = refl
not_off power.On some = refl

eviction_refusal_is : (lab : WorldView) (a : ℕ) → a < words_of lab.config → power_in lab ≢ power.Off → evict_refusal lab a ≡ by_eviction false (is_short lab.log)
eviction_refusal_is lab a within powered =
    let in_range : nat_le (words_of lab.config) a ≡ false = grind (arith, nat_tests, within) in
    rw (in_range, not_off (power_in lab) powered) refl

eviction_cases : (short : Bool) (old : WorldView) (a : ℕ) (answer : Applied) (new : WorldView) → is_short old.log ≡ short
    → MatchOption (by_eviction false short) (Evicts old a answer new) (λ refusal. (answer ≡ refusal) × (new ≡ old)) → ((answer ≡ applied.Limit) × HasNoPlace old new) ⊎ ((answer ≡ applied.Evicted) × WordEvicted old a new)
eviction_cases true old a answer new is (e, same) = inl (e, record { short = is; same = same })
eviction_cases false old a answer new is h = inr (h.answered, record { room = is; evicts = subst (λ (told : Applied). Evicts old a told new) h.answered h })

-- the answer is one of two
pub evicted : (old : WorldView) (a : ℕ) (answer : Applied) (new : WorldView) → a < words_of old.config → power_in old ≢ power.Off → IsApplied old (event.Evict a) answer new
    → ((answer ≡ applied.Limit) × HasNoPlace old new) ⊎ ((answer ≡ applied.Evicted) × WordEvicted old a new)
evicted old a answer new within powered h = eviction_cases (is_short old.log) old a answer new refl (rw (eviction_refusal_is old a within powered) at h)

pub eviction_limit : (old : WorldView) (queued : Fused) (new : WorldView) → IsReady old → HasNoPlace old new
    → Keeps old queued new queued × StopsEvent (Limit which.Marks) (point_in old queued) (point_in new queued) × IsAtLimit new which.Marks
eviction_limit old queued new ready r = short_stops old queued new ready r.short r.same

pub eviction_made : (old : WorldView) (queued : Fused) (a : ℕ) (new : WorldView) → IsReady old → Evicts old a applied.Evicted new
    → Keeps old queued new queued × IsEviction a (point_in old queued) (point_in new queued)
eviction_made old queued a new ready e =
    let struck = struck_is (mark.Evict a) old.log.past e.past e.effect in
    rw e.rest (
      record {
        ready = record { workers = ready.workers; powered = struck_power old.at_start (mark.Evict a) old.log.past e.past e.effect ∙ ready.powered };
        config = refl;
        at_start = refl;
        start = refl;
        limits = refl;
        room = refl;
        fuse = burns_none old.log.past e.past queued.fuse (struck_fences (mark.Evict a) old.log.past e.past e.effect);
      },
      record { effect = struck.effect; is = struck.is; one_effect = struck.one_effect; queue = refl },
    )

-- it opens and ends no call
pub eviction_opens : (old : WorldView) (a : ℕ) (new : WorldView) → Evicts old a applied.Evicted new → (v : ℕ) → is_some (open_call v new.log.past) ≡ is_some (open_call v old.log.past)
eviction_opens old a new e v =
    let struck = struck_is (mark.Evict a) old.log.past e.past e.effect in
    rw e.rest (struck.opens v)
