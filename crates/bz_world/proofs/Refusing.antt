-- What a world answers, by its power: a refusal where one applies, and otherwise what was done.
use Rattle.std.proofs.Common.{◌≡◌, ◌≢◌, ◌⊎◌, ℕ, zero, suc, ◌-◌, ◌<◌, ◌≤◌, ◌==◌, ◌||◌, true, false, nat_lt, nat_le, length, arith, refl, sym, ap, subst, ◌∙◌, inl, inr, Option, Some, None}
use Rattle.std.specs.Prelude.{get_or, is_none, is_some, MatchOption}
use Rattle.std.proofs.lemmas.Bool.Decides.{nat_tests}
use Rattle.std.proofs.lemmas.List.{get_or_read_under}
use Rattle.bz_call.specs.declared.calls.Call.{Call}
use Rattle.bz_layout.specs.Addresses.{words_of}
use Rattle.bz_mark.specs.declared.power.Power.{Power}
use Rattle.bz_mark.specs.declared.power.Power.TheVariants as power
use Rattle.bz_sound.specs.Calls.{open_call}
use Rattle.bz_world.specs.Inside.Beginning.{world_view, IsPoweredRefusal, IsRefusal}
use Rattle.bz_world.specs.Inside.Kept.{IsTabled, IsAwake}
use Rattle.bz_world.specs.Inside.Paid.{stock_of}
use Rattle.bz_world.specs.Inside.Serving.{IsSlot}
use Rattle.bz_world.specs.WorldView.{WorldView, Steps, Recovers, Evicts, IsApplied, power_in, idle_refusal, step_by, StepsBy, off_refusal, on_by, answer_by, begin_answer, after_begin, after_cut, after_on}
use Rattle.bz_world.specs.declared.answers.Applied.{Applied}
use Rattle.bz_world.specs.declared.answers.Applied.TheVariants as applied
use Rattle.bz_world.specs.declared.answers.Begun.{Begun}
use Rattle.bz_world.specs.declared.answers.Begun.TheVariants as begun
use Rattle.bz_world.specs.declared.answers.Event.TheVariants as event
use Rattle.bz_world.specs.declared.answers.LimitKind.TheVariants as which
use Rattle.bz_world.specs.declared.parts.Parts.{Parts}
use Rattle.bz_world.specs.declared.serving.OpenCall.{OpenCall}

-- a worker that serves a call has one open, and one that serves none has none
open-by : (p : Parts) (k : IsAwake p) (w : ℕ) (slot : Option OpenCall) → IsSlot p.config p.access p.journal k.story p.owners.items (stock_of p) w slot → is_none (open_call w p.journal.past) ≡ is_none slot
open-by p k w None h = ap is_none h.none_open
open-by p k w (Some x) h = ap is_none h.call_open.is_open

pub call-open : (p : Parts) → IsAwake p → (w : ℕ) → w ≤ p.config.workers → (slot : Option OpenCall) → slot ≡ get_or p.workers.items w slot → is_none (open_call w p.journal.past) ≡ is_none slot
call-open p k w within slot e =
    let read : slot ≡ get_or p.workers.items w None = get_or_read_under p.workers.items w (length p.workers.items) slot None e (omega (arith, within, k.tabled.places, k.tabled.config.workers_in_range.at_most)) refl in
    open-by p k w (get_or p.workers.items w None) (k.workers w) ∙ ap is_none (sym read)

some-open : {A : Type 0} (o : Option A) (slot : Option OpenCall) → is_none o ≡ is_none slot → is_some slot ≡ true → (is_none o ≡ false) × (o ≢ None)
some-open None None e some = absurd (cc some)
some-open None (Some x) e some = absurd (cc e)
some-open (Some y) slot e some = (refl, λ none. cc none)

none-open : {A : Type 0} (o : Option A) (slot : Option OpenCall) → is_none o ≡ is_none slot → is_some slot ≡ false → is_none o ≡ true
none-open o None e none = e
none-open o (Some x) e none = absurd (cc none)

-- with the power on a worker with an open call makes a step, and one without is idle
module _ (p : Parts) (k : IsAwake p) (w : ℕ) (within : w ≤ p.config.workers) (slot : Option OpenCall) (e : slot ≡ get_or p.workers.items w slot) where
  pub is-open : is_some slot ≡ true → open_call w p.journal.past ≢ None
  is-open some = (some-open (open_call w p.journal.past) slot (call-open p k w within slot e) some).1

  pub stepped-powered : (q : Parts) (answer : Applied) → is_some slot ≡ true → Steps (world_view p) w answer (world_view q)
      → MatchOption (idle_refusal (world_view p) w) (Steps (world_view p) w answer (world_view q)) (λ refusal. (answer ≡ refusal) × (world_view q ≡ world_view p))
  stepped-powered q answer some steps =
      let busy : is_none (open_call w p.journal.past) ≡ false = (some-open (open_call w p.journal.past) slot (call-open p k w within slot e) some).0 in
      rw busy steps

  pub idle-powered : is_some slot ≡ false → MatchOption (idle_refusal (world_view p) w) (Steps (world_view p) w applied.Idle (world_view p)) (λ refusal. (applied.Idle ≡ refusal) × (world_view p ≡ world_view p))
  idle-powered none =
      let idle : is_none (open_call w p.journal.past) ≡ true = none-open (open_call w p.journal.past) slot (call-open p k w within slot e) none in
      rw idle (refl, refl)

-- in a recovery worker 0 alone does
pub step-other : (old : WorldView) (w : ℕ) → 0 < w → MatchOption (step_by power.Recovering old w) (StepsBy power.Recovering old w applied.Recovering old) (λ refusal. (applied.Recovering ≡ refusal) × (old ≡ old))
step-other old zero some = absurd (omega (arith, some))
step-other old (suc w) some = (refl, refl)

pub step-first : (old new : WorldView) (w : ℕ) (answer : Applied) → w ≤ 0 → Recovers old answer new → MatchOption (step_by power.Recovering old w) (StepsBy power.Recovering old w answer new) (λ refusal. (answer ≡ refusal) × (new ≡ old))
step-first old new zero answer first recovers = recovers
step-first old new (suc w) answer first recovers = absurd (omega (arith, first))

-- what is not there makes no step and is not made durable, and where the journal is short of room nothing happens
pub step-unknown : (old : WorldView) (w : ℕ) → old.config.workers < w → IsApplied old (event.Step w) applied.NoWorker old
step-unknown old w past = let unknown : nat_lt old.config.workers w ≡ true = grind (arith, nat_tests, past) in rw unknown (refl, refl)

pub evict-unknown : (old : WorldView) (a : ℕ) → words_of old.config ≤ a → IsApplied old (event.Evict a) applied.NoWord old
evict-unknown old a past = let unknown : nat_le (words_of old.config) a ≡ true = grind (arith, nat_tests, past) in rw unknown (refl, refl)

module _ (old : WorldView) (few : old.log.limits.marks - length old.log.past < 3) where
  short : nat_lt (old.log.limits.marks - length old.log.past) 3 ≡ true
  short = grind (arith, nat_tests, few)

  pub step-short : (w : ℕ) → w ≤ old.config.workers → IsApplied old (event.Step w) applied.Limit old
  step-short w within =
      let known : nat_lt old.config.workers w ≡ false = grind (arith, nat_tests) in
      let lacks : nat_lt (old.log.limits.marks - length old.log.past) 3 ≡ true = short in
      rw (known, lacks) (refl, refl)

  pub evict-short : (a : ℕ) → a < words_of old.config → IsApplied old (event.Evict a) applied.Limit old
  evict-short a within =
      let known : nat_le (words_of old.config) a ≡ false = grind (arith, nat_tests) in
      let lacks : nat_lt (old.log.limits.marks - length old.log.past) 3 ≡ true = short in
      rw (known, lacks) (refl, refl)

-- by the power
module _ (old new : WorldView) (answer : Applied) (room : 3 ≤ old.log.limits.marks - length old.log.past) (z : Power) (powered : power_in old ≡ z) where
  long : nat_lt (old.log.limits.marks - length old.log.past) 3 ≡ false
  long = grind (arith, nat_tests, room)

  pub step-applied : (w : ℕ) → w ≤ old.config.workers → MatchOption (step_by z old w) (StepsBy z old w answer new) (λ refusal. (answer ≡ refusal) × (new ≡ old)) → IsApplied old (event.Step w) answer new
  step-applied w within h =
      let known : nat_lt old.config.workers w ≡ false = grind (arith, nat_tests) in
      let short : nat_lt (old.log.limits.marks - length old.log.past) 3 ≡ false = long in
      rw (known, short, powered) h

  pub evict-applied : (a : ℕ) → a < words_of old.config → MatchOption (off_refusal z) (Evicts old a answer new) (λ refusal. (answer ≡ refusal) × (new ≡ old)) → IsApplied old (event.Evict a) answer new
  evict-applied a within h =
      let known : nat_le (words_of old.config) a ≡ false = grind (arith, nat_tests) in
      let short : nat_lt (old.log.limits.marks - length old.log.past) 3 ≡ false = long in
      rw (known, short, powered) h

  pub cut-applied : MatchOption (off_refusal z) ((answer ≡ applied.Cut) × (new ≡ after_cut old)) (λ refusal. (answer ≡ refusal) × (new ≡ old)) → IsApplied old event.Cut answer new
  cut-applied h = let short : nat_lt (old.log.limits.marks - length old.log.past) 3 ≡ false = long in rw (short, powered) h

  pub on-applied : MatchOption (on_by z) ((answer ≡ applied.On) × (new ≡ after_on old)) (λ refusal. (answer ≡ refusal) × (new ≡ old)) → IsApplied old event.On answer new
  on-applied h = let short : nat_lt (old.log.limits.marks - length old.log.past) 3 ≡ false = long in rw (short, powered) h

-- a begin that is refused
refused : (p : Parts) (w : ℕ) (called : Call) (r : Begun) → begin_answer (world_view p) w called ≡ r → after_begin (world_view p) w called r ≡ world_view p → IsRefusal p w called (Some r)
refused p w called r answered same = record {
  some = λ answer e. let it : r ≡ answer = cc e in subst (λ a. (begin_answer (world_view p) w called ≡ a) × (after_begin (world_view p) w called a ≡ world_view p)) it (answered, same);
  none = λ e. absurd (cc e);
  begins = λ e. absurd (cc e);
}

pub unknown-refusal : (p : Parts) (w : ℕ) (called : Call) → (w ≡ 0) ⊎ (p.config.workers < w) → IsRefusal p w called (Some begun.NoWorker)
unknown-refusal p w called none = let unknown : ((w == 0) || nat_lt p.config.workers w) ≡ true = tells none in refused p w called begun.NoWorker (rw unknown refl) refl
  where
    tells : (w ≡ 0) ⊎ (p.config.workers < w) → ((w == 0) || nat_lt p.config.workers w) ≡ true
    tells (inl zero_is) = grind (arith, nat_tests, zero_is)
    tells (inr past) = grind (arith, nat_tests, past)

pub short-refusal : (p : Parts) (w : ℕ) (called : Call) → 0 < w → w ≤ p.config.workers → p.journal.limits.marks - length p.journal.past < 3 → IsRefusal p w called (Some (begun.Limit which.Marks))
short-refusal p w called some within few =
    let known : ((w == 0) || nat_lt p.config.workers w) ≡ false = grind (arith, nat_tests, some, within) in
    let short : nat_lt (p.journal.limits.marks - length p.journal.past) 3 ≡ true = grind (arith, nat_tests, few) in
    refused p w called (begun.Limit which.Marks) (rw (known, short) refl) refl

-- or may be made
module _ (p : Parts) (t : IsTabled p) (w : ℕ) (called : Call) (some : 0 < w) (within : w ≤ p.config.workers) (room : 3 ≤ p.journal.limits.marks - length p.journal.past) where
  answers : (z : Power) → p.power ≡ z → begin_answer (world_view p) w called ≡ answer_by z (world_view p) w called
  answers z is =
      let known : ((w == 0) || nat_lt p.config.workers w) ≡ false = grind (arith, nat_tests, some, within) in
      let short : nat_lt (p.journal.limits.marks - length p.journal.past) 3 ≡ false = grind (arith, nat_tests) in
      let powered : power_in (world_view p) ≡ z = t.power ∙ is in
      rw (known, short, powered) refl

  pub dark-refusal : (z : Power) (r : Begun) → p.power ≡ z → answer_by z (world_view p) w called ≡ r → after_begin (world_view p) w called r ≡ world_view p → IsRefusal p w called (Some r)
  dark-refusal z r is answered same = refused p w called r (answers z is ∙ answered) same

  pub powered-refusal : p.power ≡ power.On → (refusal : Option Begun) → IsPoweredRefusal p w called refusal → IsRefusal p w called refusal
  powered-refusal on refusal r = record {
    some = λ answer e. let s = r.some answer e in (answers power.On on ∙ s.0, s.1);
    none = λ e. record {
      on = on;
      worker = some;
      within = within;
      room = let l = ap (λ limits. limits.marks) t.limits in omega (arith, room, l);
      none_open = r.none_open e;
      calls = r.calls e;
      pages = r.pages e;
    };
    begins = λ e. answers power.On on ∙ r.begins e;
  }

-- a power cut and an eviction are refused while the power is off alone, and power on while it is not
pub off-by : (z : Power) (X : Type 0) (Y : Applied → Type 0) → (z ≡ power.Off → ⊥) → X → MatchOption (off_refusal z) X Y
off-by power.Off X Y ne h = absurd (ne refl)
off-by power.On X Y ne h = h
off-by power.Recovering X Y ne h = h

pub on-refused : (z : Power) (X : Type 0) (Y : Applied → Type 0) → (z ≡ power.Off → ⊥) → Y applied.Powered → MatchOption (on_by z) X Y
on-refused power.Off X Y ne h = absurd (ne refl)
on-refused power.On X Y ne h = h
on-refused power.Recovering X Y ne h = h
