-- What callers see of a step and of an eviction, and of workers that there are not.
use Rattle.std.proofs.Common.{◌≡◌, ◌≢◌, ◌<◌, ◌≤◌, ◌+◌, ◌*◌, inl, inr, arith, ℕ, zero, suc, Bool, false, List, [], ◌∷◌, length, map, get_or, refl, sym, ap, subst, ◌∙◌, Some, None}
use Rattle.std.proofs.lemmas.Bool.{cases_lt}
use Rattle.bz_mark.specs.declared.marks.Mark.TheVariants.{Evict}
use Rattle.bz_mark.specs.declared.power.Power.{Power}
use Rattle.bz_swap_machine.specs.Allowed.{for_worker}
use Rattle.bz_swap.specs.SwapMemory.{SwapMemory, Working, idle, worker_of}
use Rattle.bz_ring.specs.declared.marks.QMark.{QMark}
use Rattle.bz_swap_marks.specs.Marks.{mark_of}
use Rattle.bz_ring.specs.declared.marks.QMark.TheVariants.{Memory}
use Rattle.bz_ring.specs.Calls.{open_call}
use Rattle.bz_ring.specs.Journal.{QLog}
use Rattle.bz_queue.specs.Inside.Acted.{HasActed, HasMarked, IsEvicted}
use Rattle.bz_queue.specs.Inside.Going.{WentOn}
use Rattle.bz_queue.specs.Inside.Kept.{IsAwake, view_of}
use Rattle.bz_queue.specs.Inside.Left.{each_from, left_of, lefts_of, marks_left, PaysFor}
use Rattle.bz_queue.specs.QueueView.{QueueView, Evicts, GoesOn, IsStruck, Steps, StrikesBy}
use Rattle.bz_queue.specs.declared.answers.QApplied.{QApplied}
use Rattle.bz_queue.specs.declared.answers.QApplied.TheVariants.{Evicted, Stepped}
use Rattle.bz_queue.specs.declared.open.Numbers.{Numbers}
use Rattle.bz_queue.specs.declared.parts.Parts.{Parts}
use Rattle.bz_queue.proofs.Acted.{worker-inside}
use Rattle.bz_queue.proofs.Evicting.{LeavesMarks, quiet-leaves-marks, struck-leaves-marks}
use Rattle.bz_queue.proofs.Few.{few-left}

pub flush-told : (workers : List Working) (v : ℕ) → get_or (map (λ (it : Working). it.flush_next) workers) v false ≡ (get_or workers v idle).flush_next
flush-told [] v = refl
flush-told (x ∷ workers) zero = refl
flush-told (x ∷ workers) (suc v) = flush-told workers v

-- what is left to a worker
each-told : (f : ℕ → ℕ) (a n i : ℕ) → i < n → get_or (each_from f a n) i 0 ≡ f (a + i)
each-told f a zero i within = absurd (omega arith)
each-told f a (suc n) zero within = ap f (omega arith)
each-told f a (suc n) (suc i) within = each-told f (a + 1) n i (omega arith) ∙ ap f (omega arith)

each-past : (f : ℕ → ℕ) (a n i : ℕ) → n ≤ i → get_or (each_from f a n) i 0 ≡ 0
each-past f a zero i past = refl
each-past f a (suc n) zero past = absurd (omega arith)
each-past f a (suc n) (suc i) past = each-past f (a + 1) n i (omega arith)

left-told : (p : Parts) (w : ℕ) → w < length p.access.workers → get_or (lefts_of p) w 0 ≡ marks_left p w
left-told p w within = each-told (marks_left p) 0 (length p.access.workers) w within ∙ ap (marks_left p) (omega arith)

left-past : (p : Parts) (w : ℕ) → length p.access.workers ≤ w → get_or (lefts_of p) w 0 ≡ 0
left-past p w past = each-past (marks_left p) 0 (length p.access.workers) w past

pub left-none : (p : Parts) (w : ℕ) → ((v : ℕ) → get_or p.workers.items v None ≡ None) → get_or (lefts_of p) w 0 ≡ 0
left-none p w none = elim (cases_lt w (length p.access.workers)) [
  | inl within ↦ left-told p w within ∙ ap (left_of p.access w) (none w)
  | inr past ↦ left-past p w past
]

-- so much is left at most to each
few-told : (p : Parts) (w : ℕ) → IsAwake p → get_or (lefts_of p) w 0 ≤ for_worker * (p.numbers.workers + 2)
few-told p w k = elim (cases_lt w (length p.access.workers)) [
  | inl within ↦ omega (arith, few-left p w k, left-told p w within)
  | inr past ↦ omega (arith, left-past p w past)
]

no-more-told : (old new : Parts) (w : ℕ) → length new.access.workers ≡ length old.access.workers → marks_left new w ≤ marks_left old w → get_or (lefts_of new) w 0 ≤ get_or (lefts_of old) w 0
no-more-told old new w count less = elim (cases_lt w (length old.access.workers)) [
  | inl within ↦ omega (arith, less, left-told old w within, left-told new w (omega (arith, within, count)))
  | inr past ↦ omega (arith, left-past new w (omega (arith, past, count)))
]

pub same-view : (n n' : Numbers) (log log' : QLog) (flushes : List Bool) (left : List ℕ) → n ≡ n' → log.start ≡ log'.start → log.most ≡ log'.most
    → (let there : QueueView = record { numbers = n; log = log; flushes = flushes; left = left } in there) ≡ record { numbers = n'; log = record log' { past = log.past }; flushes = flushes; left = left }
same-view n n' log log' flushes left numbers start most =
    ap (λ (z : Numbers). let it : QueueView = record { numbers = z; log = log; flushes = flushes; left = left } in it) numbers
    ∙ ap (λ (z : List ℕ). let it : QueueView = record { numbers = n'; log = record { start = z; past = log.past; most = log.most }; flushes = flushes; left = left } in it) start
    ∙ ap (λ (z : ℕ). let it : QueueView = record { numbers = n'; log = record { start = log'.start; past = log.past; most = z }; flushes = flushes; left = left } in it) most

steps-of : (old mid new : Parts) (w : ℕ) (answer : QApplied) → HasActed old w mid → GoesOn mid.journal.past w answer new.journal.past → new.numbers ≡ mid.numbers → new.journal.start ≡ mid.journal.start → new.journal.most ≡ mid.journal.most
    → ((v : ℕ) → v ≢ w → worker_of new.access v ≡ worker_of mid.access v) → PaysFor old new w → IsAwake old → w < length old.access.workers → length new.access.workers ≡ length old.access.workers → Steps (view_of old) w answer (view_of new)
steps-of old mid new w answer a ends numbers start most others pays k within count = record {
  made = a.made;
  flush = a.flush ∙ sym (flush-told old.access.workers w);
  struck = mid.journal.past;
  effect = a.struck;
  ends = ends;
  rest = same-view new.numbers old.numbers new.journal old.journal (view_of new).flushes (lefts_of new) (numbers ∙ ap (λ (q : Parts). q.numbers) a.rest) (start ∙ ap (λ (q : Parts). q.journal.start) a.rest)
      (most ∙ ap (λ (q : Parts). q.journal.most) a.rest);
  pays = omega (arith, pays, left-told old w within, left-told new w (omega (arith, within, count)));
  few = few-told old w k;
  others = λ v other. flush-told new.access.workers v ∙ ap (λ (it : Working). it.flush_next) (others v other ∙ a.others v other) ∙ sym (flush-told old.access.workers v);
}

-- an act and its effect are two marks
struck-length : (past new : List QMark) → IsStruck past new → length new ≤ length past + 1
struck-length past new (inl same) = omega (arith, ap length same)
struck-length past new (inr (w, (n, is))) = omega (arith, ap length is)

pub acted-room : (old new : Parts) (w : ℕ) → HasActed old w new → length old.journal.past + 3 ≤ old.journal.most → length new.journal.past < new.journal.most
acted-room old new w a room = omega (arith, struck-length (Memory (mark_of w a.made) ∷ old.journal.past) new.journal.past a.struck, ap (λ (p : Parts). p.journal.most) a.rest, room)

pub steps-on : (old new : Parts) (w : ℕ) → IsAwake old → open_call w old.journal.past ≢ None → HasActed old w new → Steps (view_of old) w Stepped (view_of new)
steps-on old new w k is_open a = steps-of old new new w Stepped a refl refl refl refl (λ v other. refl) a.pays k (worker-inside old w k is_open) a.count

pub steps-went : (old mid new : Parts) (w : ℕ) (answer : QApplied) → IsAwake old → open_call w old.journal.past ≢ None → HasActed old w mid → WentOn mid w answer new → Steps (view_of old) w answer (view_of new)
steps-went old mid new w answer k is_open a h = steps-of old mid new w answer a h.ends h.numbers h.start h.most h.others (omega (arith, a.pays, h.pays)) k (worker-inside old w k is_open) (h.count ∙ a.count)

-- and of an eviction
pub evicts-of : (old new : Parts) (a : ℕ) → IsAwake old → new.numbers ≡ old.numbers → new.journal.start ≡ old.journal.start → new.journal.most ≡ old.journal.most → new.access.workers ≡ old.access.workers
    → IsStruck (Memory (Evict a) ∷ old.journal.past) new.journal.past → LeavesMarks old new → Evicts (view_of old) a Evicted (view_of new)
evicts-of old new a k numbers start most workers struck leaves =
    let count : length new.access.workers ≡ length old.access.workers = ap length workers in
    record {
      answered = refl;
      effect = subst (λ (z : Power). StrikesBy z (Memory (Evict a) ∷ old.journal.past) new.journal.past) (sym (k.tabled.powered ∙ k.on)) struck;
      rest =
          same-view new.numbers old.numbers new.journal old.journal (view_of new).flushes (lefts_of new) numbers start most
          ∙ ap (λ (all : List Working). let it : QueueView = record { numbers = old.numbers; log = record old.journal { past = new.journal.past }; flushes = map (λ (it : Working). it.flush_next) all; left = lefts_of new } in it) workers;
      no_more = λ w. no-more-told old new w count (leaves.no_more w);
      pays = λ w open_is.
          let within = worker-inside old w k open_is in
          omega (arith, leaves.pays w open_is, left-told old w within, left-told new w (omega (arith, within, count)));
      few = λ w. few-told old w k;
    }

pub quiet-evicts : (old new : Parts) (a : ℕ) → IsAwake old → length old.journal.past < old.journal.most → IsEvicted old a None new → Evicts (view_of old) a Evicted (view_of new)
quiet-evicts old new a k room e =
    evicts-of old new a k (ap (λ (q : Parts). q.numbers) e.rest) (ap (λ (q : Parts). q.journal.start) e.rest) (ap (λ (q : Parts). q.journal.most) e.rest) (ap (λ (m : SwapMemory). m.workers) e.eviction.is)
    (inl (ap (λ (q : Parts). q.journal.past) e.rest)) (quiet-leaves-marks old new a k room e)

pub struck-evicts : (old mid new : Parts) (a s : ℕ) → IsAwake old → IsEvicted old a (Some s) mid → HasMarked mid s new → IsStruck mid.journal.past new.journal.past
    → new ≡ record mid { journal = record mid.journal { past = new.journal.past }; workers = new.workers } → Evicts (view_of old) a Evicted (view_of new)
struck-evicts old mid new a s k e marked struck rest =
    let access : new.access ≡ mid.access = ap (λ (q : Parts). q.access) rest in
    evicts-of old new a k (ap (λ (q : Parts). q.numbers) rest ∙ ap (λ (q : Parts). q.numbers) e.rest) (ap (λ (q : Parts). q.journal.start) rest ∙ ap (λ (q : Parts). q.journal.start) e.rest)
    (ap (λ (q : Parts). q.journal.most) rest ∙ ap (λ (q : Parts). q.journal.most) e.rest) (ap (λ (m : SwapMemory). m.workers) access ∙ ap (λ (m : SwapMemory). m.workers) e.eviction.is)
    (subst (λ (past : List QMark). IsStruck past new.journal.past) (ap (λ (q : Parts). q.journal.past) e.rest) struck) (struck-leaves-marks old mid new a s k e marked struck access)
