-- Fresh memory, as it is opened, lives.
use Rattle.std.proofs.Common.{◌≡◌, ℕ, zero, suc, ◌≤◌, List, [], refl, ap, sym, arith, inl, inr}
use Rattle.std.proofs.lemmas.Bool.{true≢false}
use Rattle.bz_layout.specs.Fresh.{fresh_words}
use Rattle.bz_layout.specs.declared.config.Config.{Config}
use Rattle.bz_pm.specs.Words.{Words}
use Rattle.bz_sight.specs.Opening.{fresh_instant}
use Rattle.bz_sight.proofs.Proved.{fresh_memory_is_seen}
use Rattle.bz_sound.specs.Memory.Moments.{image_at}
use Rattle.bz_swap.specs.Power.{IsOpened}
use Rattle.bz_swap.specs.SwapMemory.{SwapMemory, memory_words}
use Rattle.bz_swap_marks.proofs.Pasts.{opened-past}
use Rattle.bz_refinement.specs.Opening.{FreshStoriesLive}

-- the words of a memory as it was opened, whatever its phase
opened-words : (m : SwapMemory) (start : List ℕ) (swaps workers : ℕ) → IsOpened m start swaps workers → ◌≡◌ {A = Words} (memory_words m) (record { cached = start; durable = start })
opened-words m start swaps workers o = ap memory_words o.is

-- the one moment's image is that of the words
images : (c : Config) (i : ℕ) → 0 ≤ i → i ≤ 0 → (fresh_instant c).image ≡ image_at (fresh_words c) i []
images c zero f l = refl
images c (suc i) f l = absurd (omega (arith, l))

pub fresh-lives : FreshStoriesLive
fresh-lives c m limits fresh = record {
  from = omega arith;
  begins = λ w opened e. omega arith;
  seen = (fresh_memory_is_seen c m fresh).seen;
  history = record { good = λ i from to. (fresh_memory_is_seen c m fresh).seen.good; step = λ i from to. absurd (omega (arith, from, to)) };
  words = opened-words m (fresh_words c) c.swaps c.workers fresh.opened;
  past = opened-past m (fresh_words c) c.swaps c.workers fresh.opened fresh.config.workers_in_range.at_most;
  images = images c;
  effects = omega arith;
  reserved = λ w a e. absurd (true≢false (sym e));
  apart = λ v w a e f. absurd (true≢false (sym e));
  took = λ w k e. absurd (true≢false (sym e));
  took_apart = λ v w k e f. absurd (true≢false (sym e));
  awaits = λ w a held private. elim held [ inl o ↦ absurd (true≢false (sym o.took)) | inr r ↦ absurd (true≢false (sym r)) ];
  came = λ k r. inl r;
  stored = λ w k e. absurd (true≢false (sym e));
}
