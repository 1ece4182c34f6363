-- A worker that steps alone: its run began where it began, and its call is open until it ends.
use Rattle.std.proofs.Common.{◌≡◌, ◌≢◌, ◌⊎◌, inl, inr, ℕ, zero, suc, ◌+◌, ◌*◌, ◌-◌, ◌≤◌, ◌<◌, ◌==◌, Bool, true, false, List, [], ◌∷◌, length, arith, refl, sym, ap, subst, ◌∙◌, Option, Some, None, nat_lt}
use Rattle.std.specs.Prelude.{is_none, if◌then◌else◌, option_map, MatchOption}
use Rattle.std.proofs.lemmas.Bool.{true≢false}
use Rattle.std.proofs.lemmas.Bool.Decides.{nat_tests}
use Rattle.bz_swap_acts.specs.declared.acted.Act.{Act}
use Rattle.bz_swap_acts.specs.declared.acted.Act.TheVariants as act
use Rattle.bz_call.specs.declared.replies.Reply.{Reply}
use Rattle.bz_call.specs.declared.replies.Reply.TheVariants.{Full}
use Rattle.bz_solo.specs.FromCosts.Solo.{begin_marks}
use Rattle.bz_layout.specs.declared.config.Config.{Config}
use Rattle.bz_layout.specs.declared.thresholds.TheConstants.{MARKS_PER_CALL}
use Rattle.bz_mark.specs.Log.{Log}
use Rattle.bz_mark.specs.declared.marks.Mark.{Mark}
use Rattle.bz_mark.specs.declared.marks.Mark.TheVariants as mark
use Rattle.bz_sound.specs.Calls.{Open, open_call, with_effect}
use Rattle.bz_mark.specs.Times.{power_of}
use Rattle.bz_mark.specs.declared.power.Power.{Power}
use Rattle.bz_mark.specs.declared.power.Power.TheVariants as power
use Rattle.bz_world.specs.Solo.{StepsOn, MayStep, EndsAlone, HasBegunSolitary, IsFullOfLittle, RunsSolo}
use Rattle.bz_world.specs.WorldView.{WorldView, Supply, power_in, is_short, step_refusal, step_by, mark_of, before_run, begins_solitary, run_marks, deadline_from, HadFew, IsStruck, IsEnding, GoesOn, KeepsSupply, RunsWhole, Steps, StepsBy, Recovers, IsApplied}
use Rattle.bz_world.specs.declared.answers.Applied.{Applied}
use Rattle.bz_world.specs.declared.answers.Applied.TheVariants as applied
use Rattle.bz_world.specs.declared.answers.Event.TheVariants as event
use Rattle.bz_world.proofs.Marking.{act-calls}
use Rattle.bz_world.proofs.Paid.{act-steps, before-on, run-by-now}

-- what is left of the journal
abbrev pub places : WorldView → ℕ
places lab = lab.log.limits.marks - length lab.log.past

-- how a step is answered
abbrev by_tests : Bool → Bool → Option Applied → Option Applied
by_tests no_worker short other = if no_worker then Some applied.NoWorker else (if short then Some applied.Limit else other)

act-power : (at_start : Power) (made : Act) (w : ℕ) (past : List Mark) → power_of at_start (mark_of w made ∷ past) ≡ power_of at_start past
act-power at_start (act.Load a v) w past = refl
act-power at_start (act.Store a v) w past = refl
act-power at_start (act.Cas a old new found) w past = refl
act-power at_start (act.Ask line) w past = refl
act-power at_start act.Fence w past = refl

-- what follows an act at once leaves the power and the calls that are open, and the worker steps still
still-open : (b : Bool) (n : ℕ) (o : Option Open) → o ≢ None → (if b then option_map (with_effect n) o else o) ≢ None
still-open true n None some e = some refl
still-open true n (Some opened) some e = absurd (cc e)
still-open false n o some e = some e

record Struck (at_start : Power) (w : ℕ) (made : Act) (past struck : List Mark) : Type 0 where
  power : power_of at_start struck ≡ power_of at_start past
  opened : open_call w past ≢ None → open_call w struck ≢ None
  run : before_run w struck ≡ before_run w past
  more : suc (length past) ≤ length struck

struck-is : (at_start : Power) (w : ℕ) (made : Act) (past struck : List Mark) → IsStruck (mark_of w made ∷ past) struck → Struck at_start w made past struck
struck-is at_start w made past struck (inl same) = record {
  power = ap (power_of at_start) same ∙ act-power at_start made w past;
  opened = λ some none. some (sym (act-calls w w past made) ∙ (ap (open_call w) (sym same) ∙ none));
  run = ap (before_run w) same ∙ before-on w (mark_of w made) past (act-steps w made past);
  more = omega (arith, ap length same);
}
struck-is at_start w made past struck (inr (v, (n, is))) = record {
  power = ap (power_of at_start) is ∙ act-power at_start made w past;
  opened = λ some none. still-open (v == w) (suc (length past)) (open_call w (mark_of w made ∷ past)) (λ e. some (sym (act-calls w w past made) ∙ e)) (ap (open_call w) (sym is) ∙ none);
  run = ap (before_run w) is ∙ (before-on w (mark.Effect v n) (mark_of w made ∷ past) (act-steps w made past) ∙ before-on w (mark_of w made) past (act-steps w made past));
  more = omega (arith, ap length is);
}

-- so few marks were added
pub record IsInTime (old : WorldView) (w : ℕ) (lab : WorldView) : Type 0 where
  pub marks : length lab.log.past ≤ length old.log.past + MARKS_PER_CALL * (old.config.workers + 2)
  pub whole : begins_solitary old.config w old.log.past ≡ true → length lab.log.past + begin_marks ≤ length old.log.past + MARKS_PER_CALL

begin-fits : begin_marks ≤ MARKS_PER_CALL
begin-fits = omega arith

-- by the deadline
run-fits : (c : Config) (b : Bool) → run_marks c b ≤ MARKS_PER_CALL * (c.workers + 2)
run-fits c true = omega arith
run-fits c false = omega arith

-- where it has just begun its call, with no other open, its run is still to begin
begin-now : (c : Config) (w : ℕ) (past : List Mark) → begins_solitary c w past ≡ true → before_run w past ≡ past
begin-now c w [] begins = refl
begin-now c w (mark.Begin v n called ∷ past) begins = refl
begin-now c w (m ∷ past) begins = absurd (true≢false (sym begins))

in-time : (c : Config) (w now : ℕ) (past : List Mark) → now ≤ deadline_from c w (before_run w past) → (now ≤ length past + MARKS_PER_CALL * (c.workers + 2)) × (begins_solitary c w past ≡ true → now + begin_marks ≤ length past + MARKS_PER_CALL)
in-time c w now past l = (
  omega (arith, l, run-fits c (begins_solitary c w (before_run w past)), run-by-now w past),
  λ begins.
      let by : deadline_from c w (before_run w past) ≡ length past + run_marks c true = ap (deadline_from c w) (begin-now c w past begins) ∙ ap (λ (b : Bool). length past + run_marks c b) begins in
      omega (arith, l, by, begin-fits),
)

-- so much is known of a world in which the worker has stepped alone since that one
pub record Alone (old : WorldView) (w : ℕ) (lab : WorldView) : Type 0 where
  pub may : MayStep lab w
  pub config : lab.config ≡ old.config
  pub run : before_run w lab.log.past ≡ before_run w old.log.past
  pub few : IsInTime old w lab
  pub at_begin : lab.at_begin ≡ old.at_begin
  pub supplied : HasBegunSolitary old w → KeepsSupply old.supply lab.supply

pub solo-at-first : (old : WorldView) (w : ℕ) → MayStep old w → Alone old w old
solo-at-first old w may = record {
  may = may;
  config = refl;
  run = refl;
  few = record { marks = omega arith; whole = λ begins. omega (arith, begin-fits) };
  at_begin = refl;
  supplied = λ begins. record { swaps = omega arith; slots = omega arith };
}

-- a step is made, or the journal is short
refusal-is : (lab : WorldView) (w : ℕ) → MayStep lab w → step_refusal lab w ≡ by_tests false (is_short lab.log) None
refusal-is lab w may =
    let in_range : nat_lt lab.config.workers w ≡ false = grind (arith, nat_tests, may.within) in
    let busy : is_none (open_call w lab.log.past) ≡ false = not-none (open_call w lab.log.past) may.is_open in
    rw (in_range, may.on, busy) refl
  where
    not-none : (o : Option Open) → o ≢ None → is_none o ≡ false
    not-none None some = absurd (some refl)
    not-none (Some opened) some = refl

pub record IsShort (old : WorldView) (answer : Applied) (new : WorldView) : Type 0 where
  pub short : is_short old.log ≡ true
  pub answered : answer ≡ applied.Limit
  pub same : new ≡ old

step-cases : (short : Bool) (old : WorldView) (w : ℕ) (answer : Applied) (new : WorldView) → is_short old.log ≡ short → MatchOption (by_tests false short None) (Steps old w answer new) (λ refusal. (answer ≡ refusal) × (new ≡ old)) → IsShort old answer new ⊎ Steps old w answer new
step-cases true old w answer new is (e, same) = inl (record { short = is; answered = e; same = same })
step-cases false old w answer new is h = inr h

pub stepped : (old : WorldView) (w : ℕ) (answer : Applied) (new : WorldView) → MayStep old w → IsApplied old (event.Step w) answer new → IsShort old answer new ⊎ Steps old w answer new
stepped old w answer new may h = step-cases (is_short old.log) old w answer new refl (rw (refusal-is old w may, may.on) at h)

-- its marks are few, since its run began before
within : (old last new : WorldView) (w : ℕ) (answer : Applied) → Alone old w last → Steps last w answer new → IsInTime old w new
within old last new w answer a s =
    let struck = struck-is last.at_start w s.made last.log.past s.struck s.effect in
    let bound : length new.log.past ≤ deadline_from old.config w (before_run w old.log.past) = subst (λ (before : List Mark). length new.log.past ≤ deadline_from old.config w before) (struck.run ∙ a.run)
    (subst (λ (c : Config). length new.log.past ≤ deadline_from c w (before_run w s.struck)) (s.config ∙ a.config) s.solo) in
    let both = in-time old.config w (length new.log.past) old.log.past bound in
    record { marks = both.0; whole = both.1 }

-- and so is what it takes, where its run began at the begin of its call
module _ (old last new : WorldView) (w : ℕ) (answer : Applied) (a : Alone old w last) (s : Steps last w answer new) (begins : HasBegunSolitary old w) where
  runs-whole : RunsWhole new.config w s.struck
  runs-whole =
      let struck = struck-is last.at_start w s.made last.log.past s.struck s.effect in
      subst (λ (c : Config). RunsWhole c w s.struck) (sym (s.config ∙ a.config)) (ap (begins_solitary old.config w) (struck.run ∙ (a.run ∙ begin-now old.config w old.log.past begins.newest)) ∙ begins.newest)

  supply-at : new.at_begin ≡ old.supply
  supply-at = s.at_begin ∙ (a.at_begin ∙ begins.supply)

  keeps-supply : KeepsSupply old.supply new.supply
  keeps-supply = subst (λ (z : Supply). KeepsSupply z new.supply) supply-at (s.supplied runs-whole)

  ends-full : (n : ℕ) → answer ≡ applied.Ended n → IsFullOfLittle old.config w new.log old.supply
  ends-full n is m at spent before newest =
      let ending : IsEnding (record last.log { past = s.struck }) w n new.log = subst (λ (z : Applied). GoesOn (record last.log { past = s.struck }) w z new.log) is s.ends in
      let past : new.log.past ≡ mark.End w n ending.reply ending.at ∷ s.struck = ap (λ (log : Log). log.past) ending.is in
      let same : before ≡ s.struck = cc (newest, past) in
      subst (λ (c : Config). HadFew c old.supply spent) (s.config ∙ a.config)
      (subst (λ (z : Supply). HadFew new.config z spent) supply-at (s.little runs-whole m at spent (newest ∙ ap (λ (z : List Mark). mark.End w m (Full spent) at ∷ z) same)))

-- no call is open of which the end is the newest mark
not-ended : (b : Bool) (o : Option Open) → b ≡ true → (if b then None else o) ≢ None → ⊥
not-ended true o e some = some refl
not-ended false o e some = true≢false (sym e)

no-end : (lab : WorldView) (w n at : ℕ) (reply : Reply) (before : List Mark) → open_call w lab.log.past ≢ None → lab.log.past ≡ mark.End w n reply at ∷ before → ⊥
no-end lab w n at reply before some is = not-ended (w == w) (open_call w before) (grind (arith, nat_tests)) (subst (λ (z : List Mark). open_call w z ≢ None) is some)

-- its call goes on
pub undisturbed-on : (old last new : WorldView) (w : ℕ) → Alone old w last → IsApplied last (event.Step w) applied.Stepped new → Alone old w new
undisturbed-on old last new w a h = elim (stepped last w applied.Stepped new a.may h) [
  | inl short ↦ absurd (cc short.answered)
  | inr s ↦ (
      let struck = struck-is last.at_start w s.made last.log.past s.struck s.effect in
      let past : new.log.past ≡ s.struck = ap (λ (log : Log). log.past) s.ends in
      record {
        may = record {
          on = ap (λ (p : Power). power_of p new.log.past) s.at_start ∙ (ap (power_of last.at_start) past ∙ (struck.power ∙ a.may.on));
          within = subst (λ (c : Config). w ≤ c.workers) (sym s.config) a.may.within;
          is_open = subst (λ (z : List Mark). open_call w z ≢ None) (sym past) (struck.opened a.may.is_open);
        };
        config = s.config ∙ a.config;
        run = ap (before_run w) past ∙ (struck.run ∙ a.run);
        few = within old last new w applied.Stepped a s;
        at_begin = s.at_begin ∙ a.at_begin;
        supplied = keeps-supply old last new w applied.Stepped a s;
      }
      )
]

-- or has ended
ended-or : (answer : Applied) (log new : Log) (w : ℕ) → GoesOn log w answer new → answer ≢ applied.Stepped → (n : ℕ) × (answer ≡ applied.Ended n)
ended-or applied.Stepped log new w g s = absurd (s refl)
ended-or (applied.Ended n) log new w g s = (n, refl)
ended-or other log new w g s = absurd g

pub solo-ends : (old last new : WorldView) (w : ℕ) (answer : Applied) → Alone old w last → IsApplied last (event.Step w) answer new → answer ≢ applied.Stepped → EndsAlone old w answer new
solo-ends old last new w answer a h stops = elim (stepped last w answer new a.may h) [
  | inl short ↦ record {
    answered = inr (short.answered, ap (λ (z : WorldView). is_short z.log) short.same ∙ short.short);
    marks = (few short.same).marks;
    whole = (few short.same).whole;
    supplied = λ begins. subst (λ (z : WorldView). KeepsSupply old.supply z.supply) (sym short.same) (a.supplied begins);
    little = λ begins n at spent before newest. absurd (no-end last w n at (Full spent) before a.may.is_open (ap (λ (z : WorldView). z.log.past) (sym short.same) ∙ newest));
  }
  | inr s ↦ let ended : (n : ℕ) × (answer ≡ applied.Ended n) = ended-or answer (record last.log { past = s.struck }) new.log w s.ends stops in record {
    answered = inl ended;
    marks = (within old last new w answer a s).marks;
    whole = (within old last new w answer a s).whole;
    supplied = keeps-supply old last new w answer a s;
    little = λ begins. ends-full old last new w answer a s begins ended.0 ended.1;
  }
]
  where
    few : new ≡ last → IsInTime old w new
    few same = subst (IsInTime old w) (sym same) a.few

-- so far each step was answered Stepped
pub record GoesOnSolo (old : WorldView) (w : ℕ) (new : WorldView) : Type 0 where
  pub steps : ℕ
  pub stepped : StepsOn steps old w new
  pub alone : MayStep old w → Alone old w new

-- or the newest was not
abbrev pub GoneOn : WorldView → ℕ → Applied → WorldView → Type 0
GoneOn old w answer new = ((answer ≡ applied.Stepped) × GoesOnSolo old w new) ⊎ ((answer ≢ applied.Stepped) × RunsSolo old w answer new)

pub no-step : (old : WorldView) (w : ℕ) → GoneOn old w applied.Stepped old
no-step old w = inl (refl, record { steps = 0; stepped = refl; alone = solo-at-first old w })

ends-run : (old last new : WorldView) (w : ℕ) (answer : Applied) → GoesOnSolo old w last → IsApplied last (event.Step w) answer new → answer ≢ applied.Stepped → RunsSolo old w answer new
ends-run old last new w answer g h stops = record {
  steps = g.steps;
  last = last;
  stepped = g.stepped;
  answered = h;
  stops = stops;
  ends = λ may. solo-ends old last new w answer (g.alone may) h stops;
}

step-on : (old mid new : WorldView) (w : ℕ) (answer : Applied) → GoesOnSolo old w mid → IsApplied mid (event.Step w) answer new → GoneOn old w answer new
step-on old mid new w applied.Stepped g h = inl (refl, record { steps = suc g.steps; stepped = (mid, (g.stepped, h)); alone = λ may. undisturbed-on old mid new w (g.alone may) h })
step-on old mid new w answer g h = inr (λ e. absurd (cc e), ends-run old mid new w answer g h (λ e. absurd (cc e)))

pub next-step : (old mid new : WorldView) (w : ℕ) (before answer : Applied) → before ≡ applied.Stepped → GoneOn old w before mid → IsApplied mid (event.Step w) answer new → GoneOn old w answer new
next-step old mid new w before answer is (inl g) h = step-on old mid new w answer g.1 h
next-step old mid new w before answer is (inr g) h = absurd (g.0 is)

pub run-ends : (old new : WorldView) (w : ℕ) (answer : Applied) → answer ≢ applied.Stepped → GoneOn old w answer new → RunsSolo old w answer new
run-ends old new w answer stops (inl g) = absurd (stops g.0)
run-ends old new w answer stops (inr g) = g.1

-- each step that goes on takes a place of the journal, and no step gives one back
abbrev pub goes : Applied → ℕ
goes applied.Stepped = 1
goes other = 0

abbrev pub still : Applied → WorldView → ℕ
still answer lab = places lab + goes answer

-- what a refusal says of that, and what it says where there is none
idle-refuses : (b : Bool) (r : Applied) → (if b then Some applied.Idle else None) ≡ Some r → goes r ≡ 0
idle-refuses true r e = let same : applied.Idle ≡ r = cc e in subst (λ (z : Applied). goes z ≡ 0) same refl
idle-refuses false r e = absurd (cc e)

refuses : (a b : Bool) (p : Power) (lab : WorldView) (w : ℕ) (r : Applied) → by_tests a b (step_by p lab w) ≡ Some r → goes r ≡ 0
refuses true b p lab w r e = let same : applied.NoWorker ≡ r = cc e in subst (λ (z : Applied). goes z ≡ 0) same refl
refuses false true p lab w r e = let same : applied.Limit ≡ r = cc e in subst (λ (z : Applied). goes z ≡ 0) same refl
refuses false false power.Off lab w r e = let same : applied.Off ≡ r = cc e in subst (λ (z : Applied). goes z ≡ 0) same refl
refuses false false power.Recovering lab zero r e = absurd (cc e)
refuses false false power.Recovering lab (suc v) r e = let same : applied.Recovering ≡ r = cc e in subst (λ (z : Applied). goes z ≡ 0) same refl
refuses false false power.On lab w r e = idle-refuses (is_none (open_call w lab.log.past)) r e

not-short : (a b : Bool) (o : Option Applied) → by_tests a b o ≡ None → b ≡ false
not-short true b o e = absurd (cc e)
not-short false true o e = absurd (cc e)
not-short false false o e = refl

-- a step of the recovery
recovers-on : (old new : WorldView) (answer : Applied) → is_short old.log ≡ false → Recovers old answer new → still answer new < places old + 1
recovers-on old new applied.Stepped room r =
    let some : 3 ≤ places old = grind (arith, nat_tests, room) in
    omega (arith, some, ap (λ (log : Log). log.limits.marks) r.ends, ap (λ (log : Log). length log.past) r.ends)
recovers-on old new applied.Ready room r =
    let some : 3 ≤ places old = grind (arith, nat_tests, room) in
    omega (arith, some, ap (λ (log : Log). log.limits.marks) r.ends, ap (λ (log : Log). length log.past) r.ends)
recovers-on old new answer room r = absurd r.ends

-- and one of a worker
steps-on : (old new : WorldView) (w : ℕ) (answer : Applied) → is_short old.log ≡ false → Steps old w answer new → still answer new < places old + 1
steps-on old new w applied.Stepped room s =
    let some : 3 ≤ places old = grind (arith, nat_tests, room) in
    let struck = struck-is old.at_start w s.made old.log.past s.struck s.effect in
    omega (arith, some, struck.more, ap (λ (log : Log). log.limits.marks) s.ends, ap (λ (log : Log). length log.past) s.ends)
steps-on old new w (applied.Ended n) room s =
    let some : 3 ≤ places old = grind (arith, nat_tests, room) in
    let struck = struck-is old.at_start w s.made old.log.past s.struck s.effect in
    omega (arith, some, struck.more, ap (λ (log : Log). log.limits.marks) s.ends.is, ap (λ (log : Log). length log.past) s.ends.is)
steps-on old new w answer room s = absurd s.ends

by-power : (p : Power) (old new : WorldView) (w : ℕ) (answer : Applied) → is_short old.log ≡ false → StepsBy p old w answer new → still answer new < places old + 1
by-power power.Off old new w answer room s = steps-on old new w answer room s
by-power power.Recovering old new w answer room s = recovers-on old new answer room s
by-power power.On old new w answer room s = steps-on old new w answer room s

by-refusal : (o : Option Applied) (old new : WorldView) (w : ℕ) (answer : Applied) → step_refusal old w ≡ o → MatchOption o (StepsBy (power_in old) old w answer new) (λ refusal. (answer ≡ refusal) × (new ≡ old)) → still answer new < places old + 1
by-refusal None old new w answer e s = by-power (power_in old) old new w answer (not-short _ (is_short old.log) _ e) s
by-refusal (Some r) old new w answer e (is, same) = omega (arith, ap goes is, refuses _ (is_short old.log) (power_in old) old w r e, ap places same)

pub lessens : (old new : WorldView) (w : ℕ) (before answer : Applied) → before ≡ applied.Stepped → IsApplied old (event.Step w) answer new → still answer new < still before old
lessens old new w before answer is h = subst (λ (z : Applied). still answer new < still z old) (sym is) (by-refusal (step_refusal old w) old new w answer refl h)
