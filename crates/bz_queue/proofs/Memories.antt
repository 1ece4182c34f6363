-- The swap memory over quiet acts and starts.
use Rattle.std.proofs.Common.{◌≡◌, ◌≢◌, ◌<◌, ◌≤◌, ℕ, List, subst, ◌∙◌, arith, None}
use Rattle.bz_word.specs.declared.entry.Entry.{Entry}
use Rattle.bz_swap_acts.specs.declared.acted.Act.{Act}
use Rattle.bz_swap_machine.specs.declared.done.Done.{Done}
use Rattle.bz_rivals.proofs.Proved.{notes_are_of_begun}
use Rattle.bz_swap.specs.Held.{IsHeld}
use Rattle.bz_swap.specs.Starts.{MaySwap, started, swapping}
use Rattle.bz_swap.specs.Steps.{IsStep}
use Rattle.bz_swap.specs.SwapMemory.{SwapMemory, Doing, Idle, Swapping, doing_of}
use Rattle.bz_swap.proofs.Proved.{begun_stay_taken, owned_stay}
use Rattle.bz_ring.specs.declared.marks.QMark.TheVariants.{Memory}
use Rattle.bz_ring.specs.declared.ring.TheConstants.{TAIL_AT}
use Rattle.bz_ring.specs.Journal.{QLog, with_mark, memory_of}
use Rattle.bz_change.specs.Values.{SameValues, StoresNothing}
use Rattle.bz_change.proofs.Proved.{quiet_acts_leave, starts_leave}
use Rattle.bz_swap_marks.specs.Marks.{mark_of}
use Rattle.bz_queue.specs.Inside.Kept.{IsMemory}
use Rattle.bz_queue.proofs.Sweepable.{AreNamable, sweepable-start, sweepable-step, sweepable-swap}
use Rattle.bz_queue.proofs.Marks.{act-marked, act-kept}
use Rattle.bz_queue.proofs.Shown.{shown-step}

pub quiet-memory : (old new : SwapMemory) (log : QLog) (w : ℕ) (made : Act) (done : Done) → 0 < w → IsMemory old log → StoresNothing old w → IsHeld new → IsStep old w made done None new
    → IsMemory new (with_mark log (Memory (mark_of w made))) × SameValues old new
quiet-memory old new log w made done some k none held step =
    let calm = quiet_acts_leave.step old new w made done k.calm none held step in (
      record {
        words = act-marked w old new log.start (memory_of log.past) made done k.words k.past step.one;
        past = act-kept w old new log.start (memory_of log.past) made done k.words k.past step.one;
        calm = calm.0;
        owned = owned_stay.step old new w made done None step k.owned;
        noted = notes_are_of_begun.step old new w made done None step k.noted;
        shown = shown-step old new w made done None log.past some k.calm.held step k.shown;
        sweepable = sweepable-step old new w made done None k.calm.held step k.sweepable;
        unused = λ s from. step.effect.swaps s ∙ k.unused s (subst (λ (t : ℕ). t ≤ s) step.one.others.taken from);
        low = omega (arith, calm.1 TAIL_AT, k.low);
      },
      calm.1,
    )

pub started-memory : (m : SwapMemory) (log : QLog) (w : ℕ) (doing : Doing) → IsMemory m log → 0 < w → doing_of m w ≡ Idle → ((s : ℕ) → doing ≢ Swapping s) → IsHeld (started m w doing) → IsMemory (started m w doing) log
started-memory m log w doing k some idle no_swap held = record {
  words = k.words;
  past = record { count = k.past.count; since = k.past.since; asks = k.past.asks; workers = k.past.workers };
  calm = starts_leave.start m w doing some k.calm held;
  owned = owned_stay.start m w doing no_swap (λ zero. absurd (omega arith)) k.owned;
  noted = notes_are_of_begun.start m w doing k.noted;
  shown = record { begun = begun_stay_taken.start m w doing idle k.shown.begun; shown = k.shown.shown; only = k.shown.only };
  unused = k.unused;
  sweepable = sweepable-start m w doing k.sweepable;
  low = k.low;
}

pub swapping-memory : (m : SwapMemory) (log : QLog) (w : ℕ) (entries : List Entry) → IsMemory m log → MaySwap m w entries → AreNamable m.swaps entries → IsHeld (swapping m w entries) → IsMemory (swapping m w entries) log
swapping-memory m log w entries k may names held = record {
  words = k.words;
  past = record { count = k.past.count; since = k.past.since; asks = k.past.asks; workers = k.past.workers };
  calm = starts_leave.swap m w entries k.calm may held;
  owned = owned_stay.swap m w entries may.work.some k.owned;
  noted = notes_are_of_begun.swap m w entries k.noted;
  shown = record {
    begun = begun_stay_taken.swap m w entries may.work.within may.work.idle k.shown.begun;
    shown = k.shown.shown;
    only = λ s within is. (let below : s < m.taken = k.shown.only s within is in omega arith);
  };
  unused = λ s from. k.unused s (omega arith);
  sweepable = sweepable-swap m w entries names k.sweepable;
  low = k.low;
}
