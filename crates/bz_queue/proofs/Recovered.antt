-- What comes of an act of a recovery: the next one is asked for, or it has ended.
use Rattle.std.proofs.Common.{◌≡◌, ◌≢◌, ◌<◌, ◌≤◌, ◌+◌, ℕ, List, ◌∷◌, length, map, get_or, refl, sym, ap, ◌∙◌, arith, Option, None}
use Rattle.std.specs.Prelude.{replicate}
use Rattle.bz_mark.specs.Counts.{acts_by}
use Rattle.bz_mark.specs.Times.{since_on}
use Rattle.bz_mark.specs.declared.marks.Mark.TheVariants.{Ready}
use Rattle.bz_mark.specs.declared.power.Power.TheVariants as power
use Rattle.bz_swap.specs.SwapMemory.{SwapMemory, Working, worker_of}
use Rattle.bz_swap_marks.specs.Marks.{mark_of}
use Rattle.bz_sweep.specs.declared.ask.Ask.{Ask}
use Rattle.bz_ring.specs.Journal.{memory_of}
use Rattle.bz_ring.specs.declared.marks.QMark.{QMark}
use Rattle.bz_ring.specs.declared.marks.QMark.TheVariants.{Memory}
use Rattle.bz_queue.proofs.Powered.{kept-started}
use Rattle.bz_queue.proofs.Resting.{lefts-none}
use Rattle.bz_queue.proofs.Views.{flush-told, left-none, same-view}
use Rattle.bz_queue.specs.Inside.Acted.{IsEvicted}
use Rattle.bz_queue.specs.Inside.Kept.{IsKept, IsStarted, view_of}
use Rattle.bz_queue.specs.Inside.Left.{lefts_of}
use Rattle.bz_queue.specs.Inside.Powering.{HasAsked, HasGoneOn, Wakes}
use Rattle.bz_queue.specs.QueueView.{Evicts, QueueView, Recovers, flush_of, recovery_most}
use Rattle.bz_queue.specs.declared.answers.QApplied.TheVariants as applied
use Rattle.bz_queue.specs.declared.open.Numbers.{Numbers}
use Rattle.bz_queue.specs.declared.parts.Parts.{Parts}

flush-same : (old new : Parts) (v : ℕ) → worker_of new.access v ≡ worker_of old.access v → flush_of (view_of new) v ≡ flush_of (view_of old) v
flush-same old new v same = flush-told new.access.workers v ∙ (ap (λ (u : Working). u.flush_next) same ∙ sym (flush-told old.access.workers v))

-- callers see the same numbers, and that nothing is left to anybody
same-rest : (old new : Parts) → new.numbers ≡ old.numbers → new.journal.start ≡ old.journal.start → new.journal.most ≡ old.journal.most → ((w : ℕ) → get_or old.workers.items w None ≡ None) → ((w : ℕ) → get_or new.workers.items w None ≡ None)
    → length new.access.workers ≡ length old.access.workers → view_of new ≡ record (view_of old) { log = record old.journal { past = new.journal.past }; flushes = (view_of new).flushes }
same-rest old new numbers start most none-old none-new count =
    same-view new.numbers old.numbers new.journal old.journal (view_of new).flushes (lefts_of new) numbers start most
    ∙ ap (λ (left : List ℕ). let it : QueueView = record { numbers = old.numbers; log = record old.journal { past = new.journal.past }; flushes = (view_of new).flushes; left = left } in it)
    (lefts-none new none-new ∙ ap (λ (n : ℕ). replicate n 0) count ∙ sym (lefts-none old none-old))

-- an act of worker 0, of which the sweep was told
module _ (old asked new : Parts) (todo : Ask) (s : IsStarted old) (a : HasAsked old todo asked) where
  -- fewer acts than so many a word were made
  has-few : acts_by 0 (since_on (memory_of (Memory (mark_of 0 a.made) ∷ old.journal.past))) < recovery_most old.numbers
  has-few = omega (
    arith,
    a.swept.spent,
    ap (λ (p : Parts). acts_by 0 (since_on (memory_of p.journal.past))) a.rest,
    ap (λ (p : Parts). acts_by 0 (since_on (memory_of p.journal.past))) a.act.rest,
    ap (λ (p : Parts). recovery_most p.numbers) a.rest,
    ap (λ (p : Parts). recovery_most p.numbers) a.act.rest,
  )

  -- the next one is started
  pub seen-stepped : new ≡ record asked { access = new.access } → IsStarted new → ((v : ℕ) → v ≢ 0 → worker_of new.access v ≡ worker_of asked.access v) → Recovers (view_of old) applied.Stepped (view_of new)
  seen-stepped rest started others = record {
    made = a.made;
    flush = a.act.step.one.flush ∙ sym (flush-told old.access.workers 0);
    few = has-few;
    ends = ap (λ (p : Parts). p.journal.past) rest ∙ (ap (λ (p : Parts). p.journal.past) a.rest ∙ ap (λ (p : Parts). p.journal.past) a.act.rest);
    rest = same-rest old new numbers start most s.dark.none started.dark.none (omega (arith, started.dark.tabled.crew, s.dark.tabled.crew, ap (λ (n : Numbers). n.workers) numbers));
    others = λ v ne. flush-same old new v (others v ne ∙ (ap (λ (p : Parts). worker_of p.access v) a.rest ∙ a.act.step.one.others.workers v ne));
  }
    where
      numbers : new.numbers ≡ old.numbers
      numbers = ap (λ (p : Parts). p.numbers) rest ∙ (ap (λ (p : Parts). p.numbers) a.rest ∙ ap (λ (p : Parts). p.numbers) a.act.rest)

      start : new.journal.start ≡ old.journal.start
      start = ap (λ (p : Parts). p.journal.start) rest ∙ (ap (λ (p : Parts). p.journal.start) a.rest ∙ ap (λ (p : Parts). p.journal.start) a.act.rest)

      most : new.journal.most ≡ old.journal.most
      most = ap (λ (p : Parts). p.journal.most) rest ∙ (ap (λ (p : Parts). p.journal.most) a.rest ∙ ap (λ (p : Parts). p.journal.most) a.act.rest)

  pub kept-stepped : old.power ≡ power.Recovering → new ≡ record asked { access = new.access } → IsStarted new → IsKept new
  kept-stepped recovering rest started = kept-started new (ap (λ (p : Parts). p.power) rest ∙ (ap (λ (p : Parts). p.power) a.rest ∙ (ap (λ (p : Parts). p.power) a.act.rest ∙ recovering))) started

  -- or it has ended
  pub seen-woken : Wakes asked new → Recovers (view_of old) applied.Ready (view_of new)
  seen-woken woken = record {
    made = a.made;
    flush = a.act.step.one.flush ∙ sym (flush-told old.access.workers 0);
    few = has-few;
    ends = ap (λ (p : Parts). p.journal.past) woken.rest ∙ ap (λ (past : List QMark). Memory Ready ∷ past) (ap (λ (p : Parts). p.journal.past) a.rest ∙ ap (λ (p : Parts). p.journal.past) a.act.rest);
    rest = same-rest old new numbers start most s.dark.none none (omega (arith, woken.awake.tabled.crew, s.dark.tabled.crew, ap (λ (n : Numbers). n.workers) numbers));
    others = λ v ne. flush-same old new v (ap (λ (p : Parts). worker_of p.access v) woken.rest ∙ (ap (λ (p : Parts). worker_of p.access v) a.rest ∙ a.act.step.one.others.workers v ne));
  }
    where
      numbers : new.numbers ≡ old.numbers
      numbers = ap (λ (p : Parts). p.numbers) woken.rest ∙ (ap (λ (p : Parts). p.numbers) a.rest ∙ ap (λ (p : Parts). p.numbers) a.act.rest)

      start : new.journal.start ≡ old.journal.start
      start = ap (λ (p : Parts). p.journal.start) woken.rest ∙ (ap (λ (p : Parts). p.journal.start) a.rest ∙ ap (λ (p : Parts). p.journal.start) a.act.rest)

      most : new.journal.most ≡ old.journal.most
      most = ap (λ (p : Parts). p.journal.most) woken.rest ∙ (ap (λ (p : Parts). p.journal.most) a.rest ∙ ap (λ (p : Parts). p.journal.most) a.act.rest)

      none : (w : ℕ) → get_or new.workers.items w None ≡ None
      none w = ap (λ (p : Parts). get_or p.workers.items w None) woken.rest ∙ a.swept.dark.none w

  -- one mark was added
  pub more-room : length old.journal.past + 3 ≤ old.journal.most → length asked.journal.past < asked.journal.most
  more-room room = omega (
    arith,
    room,
    ap (λ (p : Parts). length p.journal.past) a.rest,
    ap (λ (p : Parts). length p.journal.past) a.act.rest,
    ap (λ (p : Parts). p.journal.most) a.rest,
    ap (λ (p : Parts). p.journal.most) a.act.rest,
  )

-- a flush goes on
module _ (old new : Parts) (s : IsStarted old) (a : HasGoneOn old new) where
  pub seen-going-on : Recovers (view_of old) applied.Stepped (view_of new)
  seen-going-on = record {
    made = a.made;
    flush = a.act.step.one.flush ∙ sym (flush-told old.access.workers 0);
    few = omega (arith, a.started.spent, ap (λ (p : Parts). acts_by 0 (since_on (memory_of p.journal.past))) a.act.rest, ap (λ (p : Parts). recovery_most p.numbers) a.act.rest);
    ends = ap (λ (p : Parts). p.journal.past) a.act.rest;
    rest = same-rest old new (ap (λ (p : Parts). p.numbers) a.act.rest) (ap (λ (p : Parts). p.journal.start) a.act.rest) (ap (λ (p : Parts). p.journal.most) a.act.rest) s.dark.none a.started.dark.none a.act.step.one.others.count;
    others = λ v ne. flush-same old new v (a.act.step.one.others.workers v ne);
  }

  pub kept-going-on : old.power ≡ power.Recovering → IsKept new
  kept-going-on recovering = kept-started new (ap (λ (p : Parts). p.power) a.act.rest ∙ recovering) a.started

-- an eviction has no effect
pub seen-evicted : (old new : Parts) (a : ℕ) (told : Option ℕ) → IsStarted old → old.power ≡ power.Recovering → IsEvicted old a told new → Evicts (view_of old) a applied.Evicted (view_of new)
seen-evicted old new a told s is e = record {
  answered = refl;
  effect = rw (s.dark.tabled.powered ∙ is) (ap (λ (p : Parts). p.journal.past) e.rest);
  rest =
      same-view new.numbers old.numbers new.journal old.journal (view_of new).flushes (lefts_of new) (ap (λ (p : Parts). p.numbers) e.rest) (ap (λ (p : Parts). p.journal.start) e.rest) (ap (λ (p : Parts). p.journal.most) e.rest)
      ∙ ap (λ (all : List Working). let it : QueueView = record { numbers = old.numbers; log = record old.journal { past = new.journal.past }; flushes = map (λ (it : Working). it.flush_next) all; left = lefts_of new } in it) (ap (λ (m : SwapMemory). m.workers) e.eviction.is);
  no_more = λ w. omega (arith, left-none new w none-new);
  pays = λ w open_is. absurd (open_is (s.dark.calls w));
  few = λ w. omega (arith, left-none old w s.dark.none);
}
  where
    none-new : (w : ℕ) → get_or new.workers.items w None ≡ None
    none-new w = ap (λ (p : Parts). get_or p.workers.items w None) e.rest ∙ s.dark.none w
