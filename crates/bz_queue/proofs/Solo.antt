-- A worker that steps alone, with evictions between: its call is open until it ends, and its marks are of those that it had left.
use Rattle.std.proofs.Common.{◌≡◌, ◌≢◌, ◌⊎◌, inl, inr, ℕ, suc, ◌+◌, ◌≤◌, ◌==◌, Bool, true, false, List, [], ◌∷◌, length, arith, refl, sym, ap, subst, ◌∙◌, Option, Some, None, nat_lt}
use Rattle.std.specs.Prelude.{is_none, if◌then◌else◌, nat_le, option_map, MatchOption}
use Rattle.std.proofs.lemmas.Bool.Decides.{nat_tests}
use Rattle.bz_swap_acts.specs.declared.acted.Act.{Act}
use Rattle.bz_mark.specs.declared.marks.Mark.TheVariants.{Evict}
use Rattle.bz_mark.specs.declared.power.Power.{Power}
use Rattle.bz_mark.specs.declared.power.Power.TheVariants as power
use Rattle.bz_swap_marks.specs.Marks.{mark_of}
use Rattle.bz_ring.specs.declared.marks.QMark.{QMark}
use Rattle.bz_ring.specs.declared.marks.QMark.TheVariants.{Memory}
use Rattle.bz_ring.specs.Calls.{Open, open_call, with_effect}
use Rattle.bz_ring.specs.Content.{size_of}
use Rattle.bz_ring.specs.Follows.{power_after}
use Rattle.bz_queue.specs.QueueView.{QueueView, Evicts, GoesOn, IsStruck, Steps, StrikesBy, IsApplied, is_short, left_in, power_in, step_refusal}
use Rattle.bz_queue.specs.Solo.{MayStep, SoloCallsEnd, StepsOn, evictions_in, most_alone, steps_in}
use Rattle.bz_queue.specs.declared.answers.QApplied.{QApplied}
use Rattle.bz_queue.specs.declared.answers.QApplied.TheVariants as applied
use Rattle.bz_queue.specs.declared.answers.QEvent.{QEvent}
use Rattle.bz_queue.specs.declared.answers.QEvent.TheVariants as event
use Rattle.bz_queue.specs.declared.open.Numbers.{Numbers}
use Rattle.bz_queue.proofs.Marks.{act-plain, plain-calls, plain-power}

-- how a step is answered
abbrev by_tests : Bool → Bool → Option QApplied → Option QApplied
by_tests no_worker short other = if no_worker then Some applied.NoWorker else (if short then Some applied.Limit else other)

not-none : (o : Option Open) → o ≢ None → is_none o ≡ false
not-none None some = absurd (some refl)
not-none (Some opened) some = refl

refusal-is : (q : QueueView) (w : ℕ) → MayStep q w → step_refusal q w ≡ by_tests false (is_short q.log) None
refusal-is q w may =
    let in_range : nat_lt q.numbers.workers w ≡ false = grind (arith, nat_tests, may.within) in
    let busy : is_none (open_call w q.log.past) ≡ false = not-none (open_call w q.log.past) may.is_open in
    rw (in_range, may.on, busy) refl

-- a step is made, or the journal is short
record IsShort (old : QueueView) (answer : QApplied) (new : QueueView) : Type 0 where
  short : is_short old.log ≡ true
  answered : answer ≡ applied.Limit
  same : new ≡ old

step-cases : (short : Bool) (old : QueueView) (w : ℕ) (answer : QApplied) (new : QueueView) → is_short old.log ≡ short → MatchOption (by_tests false short None) (Steps old w answer new) (λ refusal. (answer ≡ refusal) × (new ≡ old)) → IsShort old answer new ⊎ Steps old w answer new
step-cases true old w answer new is (e, same) = inl (record { short = is; answered = e; same = same })
step-cases false old w answer new is h = inr h

stepped : (old : QueueView) (w : ℕ) (answer : QApplied) (new : QueueView) → MayStep old w → IsApplied old (event.Step w) answer new → IsShort old answer new ⊎ Steps old w answer new
stepped old w answer new may h = step-cases (is_short old.log) old w answer new refl (rw (refusal-is old w may, may.on) at h)

-- what follows an act leaves the calls that are open
still-open : (b : Bool) (n : ℕ) (o : Option Open) → o ≢ None → (if b then option_map (with_effect n) o else o) ≢ None
still-open true n None some e = some refl
still-open true n (Some opened) some e = absurd (cc e)
still-open false n o some e = some e

struck-open : (w : ℕ) (made : Act) (past struck : List QMark) → IsStruck (Memory (mark_of w made) ∷ past) struck → open_call w past ≢ None → open_call w struck ≢ None
struck-open w made past struck (inl same) some none = some (sym (plain-calls w past (mark_of w made) (act-plain w made)) ∙ ap (open_call w) (sym same) ∙ none)
struck-open w made past struck (inr (v, (n, is))) some none =
    still-open (v == w) (suc (length past)) (open_call w (Memory (mark_of w made) ∷ past)) (λ e. some (sym (plain-calls w past (mark_of w made) (act-plain w made)) ∙ e)) (ap (open_call w) (sym is) ∙ none)

struck-longer : (w : ℕ) (made : Act) (past struck : List QMark) → IsStruck (Memory (mark_of w made) ∷ past) struck → length past + 1 ≤ length struck
struck-longer w made past struck (inl same) = omega (arith, ap length same)
struck-longer w made past struck (inr (v, (n, is))) = omega (arith, ap length is)

-- nor does it change the power
struck-power : (past struck : List QMark) → IsStruck past struck → power_after struck ≡ power_after past
struck-power past struck (inl same) = ap power_after same
struck-power past struck (inr (v, (n, is))) = ap power_after is

evicted-open : (w a : ℕ) (past struck : List QMark) → IsStruck (Memory (Evict a) ∷ past) struck → open_call w past ≢ None → open_call w struck ≢ None
evicted-open w a past struck (inl same) some none = some (ap (open_call w) (sym same) ∙ none)
evicted-open w a past struck (inr (v, (n, is))) some none = still-open (v == w) (suc (length past)) (open_call w past) some (ap (open_call w) (sym is) ∙ none)

-- how an eviction is answered
abbrev by_size : Bool → Bool → Option QApplied
by_size past short = if past then Some applied.NoWord else (if short then Some applied.Limit else None)

-- an eviction is made, or nothing changes
eviction-cases : (past short : Bool) (old : QueueView) (a : ℕ) (answer : QApplied) (new : QueueView) → MatchOption (by_size past short) (Evicts old a answer new) (λ refusal. (answer ≡ refusal) × (new ≡ old)) → (new ≡ old) ⊎ Evicts old a answer new
eviction-cases true short old a answer new (e, same) = inl same
eviction-cases false true old a answer new (e, same) = inl same
eviction-cases false false old a answer new h = inr h

evicted : (old : QueueView) (a : ℕ) (answer : QApplied) (new : QueueView) → power_in old ≡ power.On → IsApplied old (event.Evict a) answer new → (new ≡ old) ⊎ Evicts old a answer new
evicted old a answer new on h = eviction-cases (nat_le (size_of old.numbers.ring) a) (is_short old.log) old a answer new (rw on at h)

-- so much is known of a queue after such events: the steps took of what was left at first, which is few once something has happened
record Run (old : QueueView) (w : ℕ) (events : List QEvent) (q : QueueView) : Type 0 where
  may : MayStep q w
  numbers : q.numbers ≡ old.numbers
  steps : steps_in events + left_in q w ≤ left_in old w
  marks : length q.log.past + left_in q w ≤ length old.log.past + left_in old w + evictions_in events
  few : (q ≡ old) ⊎ (left_in old w ≤ most_alone old)

few-on : (old mid : QueueView) (w : ℕ) → (mid ≡ old) ⊎ (left_in old w ≤ most_alone old) → left_in mid w ≤ most_alone mid → left_in old w ≤ most_alone old
few-on old mid w (inl same) few = subst (λ (q : QueueView). left_in q w ≤ most_alone q) same few
few-on old mid w (inr is) few = is

run-stepped : (old mid new : QueueView) (w : ℕ) (events : List QEvent) → Run old w events mid → Steps mid w applied.Stepped new → Run old w (event.Step w ∷ events) new
run-stepped old mid new w events run s =
    let longer = struck-longer w s.made mid.log.past s.struck s.effect in
    let numbers : new.numbers ≡ mid.numbers = ap (λ (q : QueueView). q.numbers) s.rest in
    record {
      may = record {
        on = ap power_after s.ends ∙ struck-power (Memory (mark_of w s.made) ∷ mid.log.past) s.struck s.effect ∙ plain-power mid.log.past (mark_of w s.made) (act-plain w s.made) ∙ run.may.on;
        within = subst (λ (it : Numbers). w ≤ it.workers) (sym numbers) run.may.within;
        is_open = subst (λ (past : List QMark). open_call w past ≢ None) (sym s.ends) (struck-open w s.made mid.log.past s.struck s.effect run.may.is_open);
      };
      numbers = numbers ∙ run.numbers;
      steps = omega (arith, run.steps, longer, s.pays, ap length s.ends);
      marks = omega (arith, run.marks, s.pays);
      few = inr (few-on old mid w run.few s.few);
    }

run-evicted : (old mid new : QueueView) (w a : ℕ) (answer : QApplied) (events : List QEvent) → Run old w events mid → Evicts mid a answer new → Run old w (event.Evict a ∷ events) new
run-evicted old mid new w a answer events run e =
    let numbers : new.numbers ≡ mid.numbers = ap (λ (q : QueueView). q.numbers) e.rest in
    let struck : IsStruck (Memory (Evict a) ∷ mid.log.past) new.log.past = subst (λ (z : Power). StrikesBy z (Memory (Evict a) ∷ mid.log.past) new.log.past) run.may.on e.effect in
    record {
      may = record {
        on = struck-power (Memory (Evict a) ∷ mid.log.past) new.log.past struck ∙ run.may.on;
        within = subst (λ (it : Numbers). w ≤ it.workers) (sym numbers) run.may.within;
        is_open = evicted-open w a mid.log.past new.log.past struck run.may.is_open;
      };
      numbers = numbers ∙ run.numbers;
      steps = omega (arith, run.steps, e.no_more w);
      marks = omega (arith, run.marks, e.pays w run.may.is_open);
      few = inr (few-on old mid w run.few (e.few w));
    }

-- a refused eviction changes nothing
run-refused : (old mid : QueueView) (w a : ℕ) (events : List QEvent) → Run old w events mid → Run old w (event.Evict a ∷ events) mid
run-refused old mid w a events run = record { may = run.may; numbers = run.numbers; steps = run.steps; marks = omega (arith, run.marks); few = run.few }

not-limit : (old : QueueView) (answer : QApplied) (new : QueueView) → IsShort old answer new → answer ≡ applied.Stepped → ⊥
not-limit old answer new short is = (let both : applied.Limit ≡ applied.Stepped = sym short.answered ∙ is in cc)

run-of : (events : List QEvent) (old q : QueueView) (w : ℕ) → MayStep old w → StepsOn events old w q → Run old w events q
run-of [] old q w may same = subst (Run old w []) (sym same) (record { may = may; numbers = refl; steps = omega arith; marks = omega arith; few = inl refl })
run-of (event.Step v ∷ events) old q w may (own, (mid, (on, h))) =
    let run = run-of events old mid w may on in
    subst (λ (u : ℕ). Run old w (event.Step u ∷ events) q) (sym own) (elim (stepped mid w applied.Stepped q run.may h) [
      | inl short ↦ absurd (not-limit mid applied.Stepped q short refl)
      | inr s ↦ run-stepped old mid q w events run s
    ])
run-of (event.Evict a ∷ events) old q w may (mid, (on, (answer, h))) =
    let run = run-of events old mid w may on in
    elim (evicted mid a answer q run.may.on h) [
      | inl same ↦ subst (Run old w (event.Evict a ∷ events)) (sym same) (run-refused old mid w a events run)
      | inr e ↦ run-evicted old mid q w a answer events run e
    ]
run-of (event.Cut ∷ events) old q w may h = absurd h
run-of (event.On ∷ events) old q w may h = absurd h

goes-or-ends : (past : List QMark) (w : ℕ) (answer : QApplied) (new : List QMark) → GoesOn past w answer new → (answer ≡ applied.Stepped) ⊎ ((number : ℕ) × (answer ≡ applied.Ended number))
goes-or-ends past w applied.Stepped new h = inl refl
goes-or-ends past w (applied.Ended number) new h = inr (number, refl)
goes-or-ends past w other new h = absurd h

-- so few steps were made, and so few marks
few-steps : (old last : QueueView) (w : ℕ) (events : List QEvent) → Run old w events last → (last ≡ old) ⊎ (left_in old w ≤ most_alone old) → steps_in events ≤ most_alone old
few-steps old last w events run (inl same) = omega (arith, run.steps, ap (λ (q : QueueView). left_in q w) same)
few-steps old last w events run (inr few) = omega (arith, run.steps, few)

few-marks : (old last : QueueView) (w : ℕ) (events : List QEvent) → Run old w events last → (last ≡ old) ⊎ (left_in old w ≤ most_alone old) → length last.log.past ≤ length old.log.past + most_alone old + evictions_in events
few-marks old last w events run (inl same) = omega (arith, ap (λ (q : QueueView). length q.log.past) same)
few-marks old last w events run (inr few) = omega (arith, run.marks, few)

pub solo-calls-end : SoloCallsEnd
solo-calls-end old last new w events answer may on h =
    let run = run-of events old last w may on in
    elim (stepped last w answer new run.may h) [
      | inl short ↦ record {
        answered = inr (inr (short.answered, short.short));
        steps = few-steps old last w events run run.few;
        marks = omega (arith, few-marks old last w events run run.few, ap (λ (q : QueueView). length q.log.past) short.same);
      }
      | inr s ↦ (let first = few-on old last w run.few s.few in record {
        answered = elim (goes-or-ends s.struck w answer new.log.past s.ends) [ inl goes ↦ inl goes | inr ends ↦ inr (inl ends) ];
        steps = omega (arith, run.steps, first);
        marks = omega (arith, run.marks, s.pays, first);
      })
    ]
