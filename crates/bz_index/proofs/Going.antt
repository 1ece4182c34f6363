-- What a turn of a call that has begun leaves.
use Rattle.std.proofs.Common.{◌≡◌, ℕ, ◌<◌, ◌≤◌, inl, inr, ⊎_elim, Bool, true, false, List, ◌∷◌, ◌==◌, refl, sym, ap, ◌∙◌, subst, Option, Some, None}
use Rattle.std.specs.Prelude.{if◌then◌else◌}
use borrow.Author.Tests.{eqb-false}
use Rattle.bz_bus.specs.declared.TheConstants.{PASSES}
use Rattle.bz_call.specs.declared.calls.Call.{Call}
use Rattle.bz_index.proofs.Leaves.{leaves-acted}
use Rattle.bz_index.proofs.Lists.{marks-told, log-told}
use Rattle.bz_index.proofs.Runs.{run_acted, replied}
use Rattle.bz_index.proofs.Steps.{RefusalTells, read_step}
use Rattle.bz_index.specs.Entries.{entries_in, log_of}
use Rattle.bz_index.specs.Inside.Outcomes.{WasCut, StepTells, IsRead, HasStepped, GoesOn}
use Rattle.bz_index.specs.Inside.Running.{IsRunning}
use Rattle.bz_index.specs.Passes.{IsAtRest}
use Rattle.bz_index.specs.Worlds.{IsWorldOf}
use Rattle.bz_index.specs.declared.answer.Answer.{Answer}
use Rattle.bz_index.specs.declared.answer.Answer.TheVariants as answer
use Rattle.bz_index.specs.declared.shared.IndexEntry.{IndexEntry}
use Rattle.bz_index.specs.declared.shared.Origin.{Origin}
use Rattle.bz_layout.specs.declared.config.Config.{Config}
use Rattle.bz_mark.specs.Log.{Log}
use Rattle.bz_mark.specs.declared.marks.Mark.TheVariants.{End}
use Rattle.bz_sound.specs.Calls.{Open, open_call}
use Rattle.bz_sound.specs.Memory.Moments.{map_at_start}
use Rattle.bz_sound.specs.Power.Sound.{IsSound}
use Rattle.bz_sound.proofs.Proved.{power_tells_what_follows}
use Rattle.bz_mark.specs.declared.power.Power.{Power}
use Rattle.bz_mark.specs.declared.power.Power.TheVariants as power
use Rattle.bz_world.specs.WorldView as world
use Rattle.bz_world.specs.WorldView.{WorldView, is_short, power_in, IsEnding, IsApplied}
use Rattle.bz_world.specs.declared.answers.Applied.{Applied}
use Rattle.bz_world.specs.declared.answers.Applied.TheVariants as applied
use Rattle.bz_world.specs.declared.answers.Event.TheVariants as event
use Rattle.bz_world.specs.declared.answers.LimitKind.TheVariants as which

module _ (origin : Origin) (w : ℕ) (call : Call) (first : List IndexEntry) where
  abbrev Tells : Log → Applied → Type 0
  Tells log applied = StepTells origin w call first (entries_in log) applied

  own_end : (b : Bool) (w : ℕ) (rest : Option Open) → (w == w) ≡ b → (if b then None else rest) ≡ None
  own_end true w rest is = refl
  own_end false w rest is = absurd (eqb-false w w is refl)

  ended_rests : (log : Log) (n : ℕ) (new : Log) → IsEnding log w n new → IsAtRest origin (entries_in new) w
  ended_rests log n new ends =
      let past : new.past ≡ End w n ends.reply ends.at ∷ log.past = ap (λ (l : Log). l.past) ends.is in
      inl (ap (open_call w) (marks-told new.past _ ∙ past) ∙ own_end (w == w) w (open_call w log.past) refl)

  going : (config : Config) (at_start : Power) (log : Log) (answer : Applied) (new : Log) → world.GoesOn log w answer new → IsSound config at_start new → IsRunning w call first (entries_in log) → Tells new answer
  going config at_start log applied.Stepped new goes sound run = subst (λ (l : Log). IsRunning w call first (entries_in l)) (sym goes) run
  going config at_start log (applied.Ended n) new goes sound run = (ended_rests log n new goes, replied w call first log run config at_start n new goes sound)
  going config at_start log other new goes sound run = absurd goes

  module _ (old : WorldView) (is : IsWorldOf origin (entries_in old.log) old) (run : IsRunning w call first (entries_in old.log)) where
    -- the call is open no more only if the power was cut
    cut_since : ((opened : Open) → open_call w old.log.past ≡ Some opened → ⊥) → IsAtRest origin (entries_in old.log) w × WasCut w call first (entries_in old.log)
    cut_since closed = ⊎_elim
        (λ stands. absurd (closed stands.opened (ap (open_call w) (sym (marks-told old.log.past _)) ∙ stands.is_open)))
        (λ cut. (inl cut.1, (run.since, run.begun, cut.0)))
        run.state

    powered : (opened : Open) → open_call w old.log.past ≡ Some opened → power_in old ≡ power.On
    powered opened is_open = (power_tells_what_follows old.at_start (map_at_start old.config old.log.start) old.log.past is.sound.once).stays_open w opened is_open

    stopped : (answer : Applied) → RefusalTells old w answer → Tells old.log answer
    stopped applied.Limit tells =
        let short : is_short (log_of origin (entries_in old.log)) ≡ true = ap is_short (log-told origin (entries_in old.log) old is) ∙ tells in
        (inr short, (short, (run.since, run.begun)))
    stopped applied.Off tells = cut_since (λ opened is_open. let on = powered opened is_open in absurd cc)
    stopped applied.Recovering tells = cut_since (λ opened is_open. let on = powered opened is_open in absurd cc)
    stopped applied.Idle tells = cut_since (λ opened is_open. absurd cc)
    stopped other tells = absurd tells

    pub stepped : (answer : Applied) (new : WorldView) → 0 < w → w ≤ old.config.workers → w < PASSES → IsSound new.config new.at_start new.log → IsApplied old (event.Step w) answer new → Tells new.log answer
    stepped answer new some within below sound h = ⊎_elim
        (λ made. let s = made.steps in
        going new.config new.at_start (record old.log { past = s.struck }) answer new.log s.ends sound
        (run_acted w call first w old.log (record old.log { past = s.struck }) below (leaves-acted w s.made old.log s.struck s.effect) run))
        (λ stays. subst (λ (lab : WorldView). Tells lab.log answer) (sym stays.0) (stopped answer stays.1))
        (read_step old w answer new some within h)

  -- what the answer says is so
  reads : (now : List IndexEntry) (page : List (List ℕ × List ℕ)) (applied : Applied) (answer : Option Answer) → StepTells origin w call first now applied → IsRead applied now page answer
      → GoesOn origin w call first now page answer
  reads now page applied None tells read = subst (StepTells origin w call first now) read tells
  reads now page applied (Some (answer.Reply reply)) tells (n, is, shows) = let t = subst (StepTells origin w call first now) is tells in (t.1 reply page shows, t.0)
  reads now page applied (Some (answer.Limit which.Marks)) tells read = let t = subst (StepTells origin w call first now) read tells in ((t.1.0, inr t.1.1), t.0)
  reads now page applied.Off (Some answer.Off) tells read = (inr tells.1, tells.0)
  reads now page applied.Recovering (Some answer.Off) tells read = (inr tells.1, tells.0)
  reads now page applied.Idle (Some answer.Off) tells read = (inr tells.1, tells.0)
  reads now page applied.Stepped (Some answer.Off) tells read = absurd read
  reads now page (applied.Ended n) (Some answer.Off) tells read = absurd read
  reads now page applied.Limit (Some answer.Off) tells read = absurd read
  reads now page other (Some answer.Off) tells read = absurd tells
  reads now page applied (Some other) tells read = absurd read

  pub goes_on : (found left : List IndexEntry) (page : List (List ℕ × List ℕ)) (answer : Option Answer) → 0 < w → w ≤ origin.config.workers → w < PASSES
      → HasStepped origin found w left page answer → IsRunning w call first found → GoesOn origin w call first left page answer
  goes_on found left page answer some within below step run =
      let made = step.made in
      let before = made.before in
      let after = made.after in
      let is : IsWorldOf origin (entries_in made.old.log) made.old = record { stays = before.stays; told = refl; sound = before.sound; brief = before.brief } in
      let config : made.old.config ≡ origin.config = ap (λ (o : Origin). o.config) before.stays in
      reads left page step.applied answer
      (subst (λ (l : List IndexEntry). StepTells origin w call first l step.applied) after.told
      (stepped made.old is (subst (IsRunning w call first) (sym before.told) run) step.applied made.new some (subst (λ (c : Config). w ≤ c.workers) (sym config) within) below after.sound made.applied))
      step.read
