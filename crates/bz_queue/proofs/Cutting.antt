-- The power fails: what a queue keeps then.
use Rattle.std.proofs.Common.{◌≡◌, ◌≢◌, ◌<◌, ◌+◌, ◌^◌, ℕ, true, false, length, map, get_or, slice_index, refl, sym, ap, subst, ◌∙◌, arith, inl, Option, None}
use Rattle.std.specs.Prelude.{replicate}
use Rattle.std.specs.Global.{Vec}
use Rattle.std.proofs.lemmas.Bool.Decides.{nat_tests}
use Rattle.std.proofs.lemmas.List.{length-replicate}
use Rattle.bz_content.specs.Lawful.{is_fixed}
use Rattle.bz_layout.specs.declared.sizes.TheConstants.{SUPERBLOCK_WORDS}
use Rattle.bz_mark.specs.WordsAfter.{state_after_marks}
use Rattle.bz_mark.specs.declared.marks.Mark.TheVariants.{Cut}
use Rattle.bz_mark.specs.declared.power.Power.{Power}
use Rattle.bz_mark.specs.declared.power.Power.TheVariants as power
use Rattle.bz_pm.specs.Acts.{after_cut as words_after_cut}
use Rattle.bz_swap.proofs.SettledWords.{settled-same}
use Rattle.bz_swap.specs.Power.{after_cut}
use Rattle.bz_swap.specs.SwapMemory.{Working, idle, is_among, value_at}
use Rattle.bz_swap_marks.proofs.Pasts.{cut-past}
use Rattle.bz_swap_recovery.proofs.Proved.{cuts_leave_the_values, values_stay}
use Rattle.bz_swap_recovery.specs.Recovering as recovery
use Rattle.bz_ring.specs.Journal.{memory_of, with_mark}
use Rattle.bz_ring.specs.declared.marks.QMark.TheVariants.{Memory}
use Rattle.bz_ring.specs.declared.ring.TheConstants.{HEAD_AT, TAIL_AT}
use Rattle.bz_queue.proofs.Dark.{Marks, after-mark, darkens, is-area, listed-awake, listed-dark}
use Rattle.bz_queue.proofs.Powered.{awake-in, kept-off, started-in}
use Rattle.bz_queue.proofs.Resting.{lefts-none, map-replicate}
use Rattle.bz_queue.proofs.Sweepable.{unnamed}
use Rattle.bz_queue.proofs.Tables.{ring-of}
use Rattle.bz_queue.specs.Inside.Kept.{IsAwake, IsKept, IsOff, IsStarted, area_of, view_of}
use Rattle.bz_queue.specs.Inside.Left.{lefts_of}
use Rattle.bz_queue.specs.Inside.Powering.{IsCut}
use Rattle.bz_queue.specs.QueueView as seen
use Rattle.bz_queue.specs.declared.parts.Parts.{Parts}
use Rattle.bz_queue.specs.declared.serving.OpenCall.{OpenCall}

-- a fixed word of the superblock is none of the counters
fixed-place : (a : ℕ) → is_fixed a ≡ true → (a < SUPERBLOCK_WORDS) × ((a ≢ HEAD_AT) × (a ≢ TAIL_AT))
fixed-place a h = (grind (arith, nat_tests), (λ e. grind (arith, nat_tests), λ e. grind (arith, nat_tests)))

-- so no swap names it, and it is plain
fixed-plain : (p : Parts) → IsAwake p → (a : ℕ) → is_fixed a ≡ true → slice_index p.access.durable a < 2 ^ 61
fixed-plain p k a h =
    let place : (a < SUPERBLOCK_WORDS) × ((a ≢ HEAD_AT) × (a ≢ TAIL_AT)) = fixed-place a h in
    let none : is_among p.access.begun a ≡ false = unnamed p.access a k.memory.sweepable place.0 place.1.0 place.1.1 in
    let small : slice_index p.access.cached a < 2 ^ 61 = (k.memory.calm.held.private a (inl place.0) none).0 in
    subst (λ (x : ℕ). x < 2 ^ 61) (settled-same p.access a (k.memory.calm.settled a (inl place.0) none)) small

at-work : (p : Parts) → IsAwake p → recovery.IsAtWork (area_of p.numbers.ring) p.access
at-work p k = record {
  sizes = record {
    area = is-area p.numbers.ring (ring-of p.numbers k.tabled.numbers);
    swaps = k.tabled.swaps;
    cached = k.tabled.size;
    durable = sym k.memory.calm.held.memory.same ∙ k.tabled.size;
    workers = omega (arith, k.tabled.crew);
  };
  held = k.memory.calm.held;
  fields = k.memory.sweepable.fields;
  fixed = fixed-plain p k;
}

-- the queue after it
abbrev cut-off : Parts → Vec (Option OpenCall) → Parts
cut-off p table = after-mark p (after_cut p.access) Cut power.Off table

module _ (p : Parts) (room : length p.journal.past < p.journal.most) (table : Vec (Option OpenCall)) (places : length table.items ≡ length p.workers.items) (none : (w : ℕ) → get_or table.items w None ≡ None) where
  awake-marks : (k : IsAwake p) → Marks p (value_at p.access) (after_cut p.access) Cut power.Off
  awake-marks k = record {
    happens = record { may = λ off. (let both : power.On ≡ power.Off = sym (k.tabled.powered ∙ k.on) ∙ off in cc); found = tt };
    words = ap words_after_cut k.memory.words;
    past = cut-past p.access (state_after_marks p.journal.start (memory_of p.journal.past)) k.memory.past;
    stays = λ a shared. refl;
    count = length-replicate (length p.access.workers) idle;
    swaps = refl;
    size = sym k.memory.calm.held.memory.same;
    steps = omega arith;
    power = refl;
    room = room;
  }

  awake-off : IsAwake p → IsOff (cut-off p table)
  unfolding darkens
  awake-off k = record {
    dark = darkens p (value_at p.access) (listed-awake p k) (after_cut p.access) Cut power.Off (awake-marks k) table places none (λ w. refl);
    memory = cuts_leave_the_values.working (area_of p.numbers.ring) p.access (at-work p k);
  }

  started-marks : (k : IsStarted p) → p.power ≡ power.Recovering → Marks p k.dark.values (after_cut p.access) Cut power.Off
  started-marks k is = record {
    happens = record { may = λ off. (let both : power.Recovering ≡ power.Off = sym (k.dark.tabled.powered ∙ is) ∙ off in cc); found = tt };
    words = ap words_after_cut k.dark.words;
    past = cut-past p.access (state_after_marks p.journal.start (memory_of p.journal.past)) k.dark.past;
    stays = λ a shared. values_stay.sweeping (area_of p.numbers.ring) k.dark.values p.access recovery.Started p.sweep a k.memory shared;
    count = length-replicate (length p.access.workers) idle;
    swaps = refl;
    size = k.memory.memory.sizes.durable ∙ sym k.memory.memory.sizes.cached;
    steps = omega arith;
    power = refl;
    room = room;
  }

  started-off : (k : IsStarted p) → p.power ≡ power.Recovering → IsOff (cut-off p table)
  unfolding darkens
  started-off k is = record {
    dark = darkens p k.dark.values (listed-dark p k.dark) (after_cut p.access) Cut power.Off (started-marks k is) table places none (λ w. refl);
    memory = cuts_leave_the_values.sweeping (area_of p.numbers.ring) k.dark.values p.access recovery.Started p.sweep k.memory;
  }

  off-by : IsKept p → p.power ≢ power.Off → IsOff (cut-off p table)
  off-by k ne = go p.power refl
    where
      go : (z : Power) → p.power ≡ z → IsOff (cut-off p table)
      go power.Off e = absurd (ne e)
      go power.On e = awake-off (awake-in p k e)
      go power.Recovering e = started-off (started-in p k e) e

pub cut-kept : (old new : Parts) → IsKept old → length old.journal.past < old.journal.most → old.power ≢ power.Off → IsCut old new → IsKept new
cut-kept old new k room ne cut = subst IsKept (sym cut.rest) (kept-off (cut-off old new.workers) refl (off-by old room new.workers cut.size cut.none k ne))

-- so it is seen
pub cut-seen : (old new : Parts) → IsKept old → IsCut old new → view_of new ≡ seen.after_cut (view_of old)
cut-seen old new k cut = ap view_of cut.rest ∙ (λ t. record { numbers = old.numbers; log = with_mark old.journal (Memory Cut); flushes = flushes t; left = left t })
  where
    crew : length (after_cut old.access).workers ≡ old.numbers.workers + 1
    crew = length-replicate (length old.access.workers) idle ∙ k.tabled.crew

    flushes : map (λ (worker : Working). worker.flush_next) (after_cut old.access).workers ≡ replicate (old.numbers.workers + 1) false
    flushes = map-replicate (λ (worker : Working). worker.flush_next) (length old.access.workers) idle ∙ ap (λ (n : ℕ). replicate n false) k.tabled.crew

    left : lefts_of (cut-off old new.workers) ≡ replicate (old.numbers.workers + 1) 0
    left = lefts-none (cut-off old new.workers) cut.none ∙ ap (λ (n : ℕ). replicate n 0) crew
