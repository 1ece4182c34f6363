-- What a queue answers, by its power: a refusal where one applies, and otherwise what was done.
use Rattle.std.proofs.Common.{◌≡◌, ◌≢◌, ℕ, zero, suc, ◌-◌, ◌<◌, ◌≤◌, ◌==◌, ◌||◌, true, false, nat_lt, nat_le, length, arith, refl, sym, ap, ◌∙◌, Option, Some, None}
use Rattle.std.specs.Prelude.{get_or, is_none, is_some, MatchOption}
use Rattle.std.proofs.lemmas.Bool.Decides.{nat_tests}
use Rattle.std.proofs.lemmas.List.{get_or_read_under}
use Rattle.bz_mark.specs.declared.power.Power.{Power}
use Rattle.bz_mark.specs.declared.power.Power.TheVariants as power
use Rattle.bz_ring.specs.Calls.{open_call}
use Rattle.bz_ring.specs.Content.{size_of}
use Rattle.bz_queue.specs.Inside.Begun.{IsPoweredRefusal, IsRefusal}
use Rattle.bz_queue.specs.Inside.Kept.{IsTabled, IsAwake, view_of}
use Rattle.bz_queue.specs.Inside.Serving.{IsSlot}
use Rattle.bz_queue.specs.QueueView.{QueueView, Steps, Recovers, Evicts, IsApplied, power_in, idle_refusal, step_by, StepsBy, off_refusal, on_by, answer_by, begin_answer, after_cut, after_on}
use Rattle.bz_queue.specs.declared.answers.QApplied.{QApplied}
use Rattle.bz_queue.specs.declared.answers.QApplied.TheVariants as applied
use Rattle.bz_queue.specs.declared.answers.QBegun.{QBegun}
use Rattle.bz_queue.specs.declared.answers.QEvent.TheVariants as event
use Rattle.bz_queue.specs.declared.parts.Parts.{Parts}
use Rattle.bz_queue.specs.declared.serving.OpenCall.{OpenCall}

-- a worker that serves a call has one open, and one that serves none has none
open-by : (p : Parts) (w : ℕ) (slot : Option OpenCall) → IsSlot p.numbers.ring p.access p.journal.past p.owners.items p.numbers.workers w slot → is_none (open_call w p.journal.past) ≡ is_none slot
open-by p w None h = ap is_none h.none
open-by p w (Some x) h = ap is_none h.opened.is_open

call-open : (p : Parts) → IsAwake p → (w : ℕ) → w ≤ p.numbers.workers → (slot : Option OpenCall) → slot ≡ get_or p.workers.items w slot → is_none (open_call w p.journal.past) ≡ is_none slot
call-open p k w within slot e =
    let read : slot ≡ get_or p.workers.items w None = get_or_read_under p.workers.items w (length p.workers.items) slot None e (omega (arith, within, k.tabled.places, k.tabled.numbers.workers.at_most)) refl in
    open-by p w (get_or p.workers.items w None) (k.slots w) ∙ ap is_none (sym read)

some-open : {A : Type 0} (o : Option A) (slot : Option OpenCall) → is_none o ≡ is_none slot → is_some slot ≡ true → (is_none o ≡ false) × (o ≢ None)
some-open None None e some = absurd (cc some)
some-open None (Some x) e some = absurd (cc e)
some-open (Some y) slot e some = (refl, λ none. cc none)

none-open : {A : Type 0} (o : Option A) (slot : Option OpenCall) → is_none o ≡ is_none slot → is_some slot ≡ false → is_none o ≡ true
none-open o None e none = e
none-open o (Some x) e none = absurd (cc none)

-- with the power on a worker with an open call makes a step, and one without is idle
module _ (p : Parts) (k : IsAwake p) (w : ℕ) (within : w ≤ p.numbers.workers) (slot : Option OpenCall) (e : slot ≡ get_or p.workers.items w slot) where
  pub is-open : is_some slot ≡ true → open_call w p.journal.past ≢ None
  is-open some = (some-open (open_call w p.journal.past) slot (call-open p k w within slot e) some).1

  pub stepped-powered : (q : Parts) (answer : QApplied) → is_some slot ≡ true → Steps (view_of p) w answer (view_of q)
      → MatchOption (idle_refusal (view_of p) w) (Steps (view_of p) w answer (view_of q)) (λ refusal. (answer ≡ refusal) × (view_of q ≡ view_of p))
  stepped-powered q answer some steps =
      let busy : is_none (open_call w p.journal.past) ≡ false = (some-open (open_call w p.journal.past) slot (call-open p k w within slot e) some).0 in
      rw busy steps

  pub idle-powered : is_some slot ≡ false → MatchOption (idle_refusal (view_of p) w) (Steps (view_of p) w applied.Idle (view_of p)) (λ refusal. (applied.Idle ≡ refusal) × (view_of p ≡ view_of p))
  idle-powered none =
      let idle : is_none (open_call w p.journal.past) ≡ true = none-open (open_call w p.journal.past) slot (call-open p k w within slot e) none in
      rw idle (refl, refl)

-- in a recovery worker 0 alone does
pub step-other : (old : QueueView) (w : ℕ) → 0 < w → MatchOption (step_by power.Recovering old w) (StepsBy power.Recovering old w applied.Recovering old) (λ refusal. (applied.Recovering ≡ refusal) × (old ≡ old))
step-other old zero some = absurd (omega (arith, some))
step-other old (suc w) some = (refl, refl)

pub step-first : (old new : QueueView) (w : ℕ) (answer : QApplied) → w ≤ 0 → Recovers old answer new → MatchOption (step_by power.Recovering old w) (StepsBy power.Recovering old w answer new) (λ refusal. (answer ≡ refusal) × (new ≡ old))
step-first old new zero answer first recovers = recovers
step-first old new (suc w) answer first recovers = absurd (omega (arith, first))

-- what is not there makes no step and is not made durable, and where the journal is short of room nothing happens
pub step-unknown : (old : QueueView) (w : ℕ) → old.numbers.workers < w → IsApplied old (event.Step w) applied.NoWorker old
step-unknown old w past = let unknown : nat_lt old.numbers.workers w ≡ true = grind (arith, nat_tests, past) in rw unknown (refl, refl)

pub evict-unknown : (old : QueueView) (a : ℕ) → size_of old.numbers.ring ≤ a → IsApplied old (event.Evict a) applied.NoWord old
evict-unknown old a past = let unknown : nat_le (size_of old.numbers.ring) a ≡ true = grind (arith, nat_tests, past) in rw unknown (refl, refl)

module _ (old : QueueView) (few : old.log.most - length old.log.past < 3) where
  short : nat_lt (old.log.most - length old.log.past) 3 ≡ true
  short = grind (arith, nat_tests, few)

  pub step-short : (w : ℕ) → w ≤ old.numbers.workers → IsApplied old (event.Step w) applied.Limit old
  step-short w within =
      let known : nat_lt old.numbers.workers w ≡ false = grind (arith, nat_tests) in
      let lacks : nat_lt (old.log.most - length old.log.past) 3 ≡ true = short in
      rw (known, lacks) (refl, refl)

  pub evict-short : (a : ℕ) → a < size_of old.numbers.ring → IsApplied old (event.Evict a) applied.Limit old
  evict-short a within =
      let known : nat_le (size_of old.numbers.ring) a ≡ false = grind (arith, nat_tests) in
      let lacks : nat_lt (old.log.most - length old.log.past) 3 ≡ true = short in
      rw (known, lacks) (refl, refl)

-- by the power
module _ (old new : QueueView) (answer : QApplied) (room : 3 ≤ old.log.most - length old.log.past) (z : Power) (powered : power_in old ≡ z) where
  long : nat_lt (old.log.most - length old.log.past) 3 ≡ false
  long = grind (arith, nat_tests, room)

  pub step-applied : (w : ℕ) → w ≤ old.numbers.workers → MatchOption (step_by z old w) (StepsBy z old w answer new) (λ refusal. (answer ≡ refusal) × (new ≡ old)) → IsApplied old (event.Step w) answer new
  step-applied w within h =
      let known : nat_lt old.numbers.workers w ≡ false = grind (arith, nat_tests) in
      let short : nat_lt (old.log.most - length old.log.past) 3 ≡ false = long in
      rw (known, short, powered) h

  pub evict-applied : (a : ℕ) → a < size_of old.numbers.ring → MatchOption (off_refusal z) (Evicts old a answer new) (λ refusal. (answer ≡ refusal) × (new ≡ old)) → IsApplied old (event.Evict a) answer new
  evict-applied a within h =
      let known : nat_le (size_of old.numbers.ring) a ≡ false = grind (arith, nat_tests) in
      let short : nat_lt (old.log.most - length old.log.past) 3 ≡ false = long in
      rw (known, short, powered) h

  pub cut-applied : MatchOption (off_refusal z) ((answer ≡ applied.Cut) × (new ≡ after_cut old)) (λ refusal. (answer ≡ refusal) × (new ≡ old)) → IsApplied old event.Cut answer new
  cut-applied h = let short : nat_lt (old.log.most - length old.log.past) 3 ≡ false = long in rw (short, powered) h

  pub on-applied : MatchOption (on_by z) ((answer ≡ applied.On) × (new ≡ after_on old)) (λ refusal. (answer ≡ refusal) × (new ≡ old)) → IsApplied old event.On answer new
  on-applied h = let short : nat_lt (old.log.most - length old.log.past) 3 ≡ false = long in rw (short, powered) h

-- a begin that is not refused by its numbers is answered by the power
module _ (p : Parts) (t : IsTabled p) (w : ℕ) (some : 0 < w) (within : w ≤ p.numbers.workers) (room : 3 ≤ p.journal.most - length p.journal.past) where
  pub answers : (z : Power) → p.power ≡ z → begin_answer (view_of p) w ≡ answer_by z (view_of p) w
  answers z is =
      let known : ((w == 0) || nat_lt p.numbers.workers w) ≡ false = grind (arith, nat_tests, some, within) in
      let short : nat_lt (p.journal.most - length p.journal.past) 3 ≡ false = grind (arith, nat_tests) in
      let powered : power_in (view_of p) ≡ z = t.powered ∙ is in
      rw (known, short, powered) refl

  pub powered-refusal : p.power ≡ power.On → (refusal : Option QBegun) → IsPoweredRefusal p w refusal → IsRefusal p w refusal
  powered-refusal on None r = λ called fits. record { on = on; call = fits; worker = some; within = within; room = omega (arith, room); free = r.0; few = r.1 }
  powered-refusal on (Some refusal) r = (answers power.On on ∙ r.0, r.1)

-- a power cut and an eviction are refused while the power is off alone, and power on while it is not
pub off-by : (z : Power) (X : Type 0) (Y : QApplied → Type 0) → (z ≡ power.Off → ⊥) → X → MatchOption (off_refusal z) X Y
off-by power.Off X Y ne h = absurd (ne refl)
off-by power.On X Y ne h = h
off-by power.Recovering X Y ne h = h

pub on-refused : (z : Power) (X : Type 0) (Y : QApplied → Type 0) → (z ≡ power.Off → ⊥) → Y applied.Powered → MatchOption (on_by z) X Y
on-refused power.Off X Y ne h = absurd (ne refl)
on-refused power.On X Y ne h = h
on-refused power.Recovering X Y ne h = h
