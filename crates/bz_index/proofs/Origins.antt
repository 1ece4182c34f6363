-- What no begin and no event changes: the fixed part.
use Rattle.std.proofs.Common.{◌≡◌, ℕ, refl, ap, Option, Some, None}
use Rattle.std.specs.Prelude.{MatchOption}
use Rattle.bz_call.specs.declared.calls.Call.{Call}
use Rattle.bz_index.specs.Entries.{origin_of}
use Rattle.bz_mark.specs.Log.{Log, Limits}
use Rattle.bz_mark.specs.declared.power.Power.{Power}
use Rattle.bz_mark.specs.declared.power.Power.TheVariants as power
use Rattle.bz_world.specs.WorldView.{WorldView, after_begin, power_in, step_refusal, evict_refusal, cut_refusal, on_refusal, GoesOn, Steps, EndsRecovery, StepsBy, IsApplied}
use Rattle.bz_world.specs.declared.answers.Applied.{Applied}
use Rattle.bz_world.specs.declared.answers.Applied.TheVariants as applied
use Rattle.bz_world.specs.declared.answers.Begun.{Begun}
use Rattle.bz_world.specs.declared.answers.Begun.TheVariants as begun
use Rattle.bz_world.specs.declared.answers.Event.{Event}
use Rattle.bz_world.specs.declared.answers.Event.TheVariants as event

pub begun_origin : (lab : WorldView) (w : ℕ) (call : Call) (answer : Begun) → origin_of (after_begin lab w call answer) ≡ origin_of lab
begun_origin lab w call (begun.Begun n) = refl
begun_origin lab w call answer = refl

-- the journal goes on from the same image, under the same limits
record Same (old new : Log) : Type 0 where
  pub start : new.start ≡ old.start
  pub limits : new.limits ≡ old.limits

origin_by : (old new : WorldView) → new.config ≡ old.config → new.at_start ≡ old.at_start → Same old.log new.log → origin_of new ≡ origin_of old
origin_by old new config at_start same = λ i. record {
  config = config i;
  start = same.start i;
  at_start = at_start i;
  marks = ap (λ (l : Limits). l.marks) same.limits i;
  calls = ap (λ (l : Limits). l.calls) same.limits i;
  pages = ap (λ (l : Limits). l.pages) same.limits i;
}

same_as : (old new : Log) → new ≡ old → Same old new
same_as old new is = record { start = ap (λ (log : Log). log.start) is; limits = ap (λ (log : Log). log.limits) is }

going_same : (old : Log) (w : ℕ) (answer : Applied) (new : Log) → GoesOn old w answer new → Same old new
going_same old w applied.Stepped new goes = same_as old new goes
going_same old w (applied.Ended n) new goes = record { start = ap (λ (log : Log). log.start) goes.is; limits = ap (λ (log : Log). log.limits) goes.is }
going_same old w other new goes = absurd goes

recovering_same : (old : Log) (answer : Applied) (new : Log) → EndsRecovery old answer new → Same old new
recovering_same old applied.Stepped new goes = same_as old new goes
recovering_same old applied.Ready new goes = record { start = ap (λ (log : Log). log.start) goes; limits = ap (λ (log : Log). log.limits) goes }
recovering_same old other new goes = absurd goes

module _ (old : WorldView) (answer : Applied) (new : WorldView) where
  steps_origin : (w : ℕ) → Steps old w answer new → origin_of new ≡ origin_of old
  steps_origin w s = let same = going_same _ w answer new.log s.ends in origin_by old new s.config s.at_start (record { start = same.start; limits = same.limits })

  by_power : (p : Power) (w : ℕ) → StepsBy p old w answer new → origin_of new ≡ origin_of old
  by_power power.Off w s = steps_origin w s
  by_power power.Recovering w s = let same = recovering_same _ answer new.log s.ends in origin_by old new s.config s.at_start (record { start = same.start; limits = same.limits })
  by_power power.On w s = steps_origin w s

  either : {A : Type 0} (o : Option Applied) → (A → origin_of new ≡ origin_of old) → MatchOption o A (λ refusal. (answer ≡ refusal) × (new ≡ old)) → origin_of new ≡ origin_of old
  either None made h = made h
  either (Some refusal) made h = ap origin_of h.1

-- an event leaves the fixed part
pub made_origin : (old : WorldView) (e : Event) (answer : Applied) (new : WorldView) → IsApplied old e answer new → origin_of new ≡ origin_of old
made_origin old (event.Step w) answer new h = either old answer new (step_refusal old w) (by_power old answer new (power_in old) w) h
made_origin old (event.Evict a) answer new h = either old answer new (evict_refusal old a) (λ made. ap origin_of made.rest) h
made_origin old event.Cut answer new h = either old answer new (cut_refusal old) (λ made. ap origin_of made.1) h
made_origin old event.On answer new h = either old answer new (on_refusal old) (λ made. ap origin_of made.1) h
