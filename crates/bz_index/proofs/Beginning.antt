-- What a turn that begins a call leaves.
use Rattle.std.proofs.Common.{◌≡◌, ℕ, ◌<◌, ◌≤◌, ◌⊎◌, inl, Bool, true, false, List, [], ◌∷◌, length, arith, refl, sym, ap, ◌∙◌, subst, ◌==◌, Option, None}
use Rattle.std.specs.Prelude.{if◌then◌else◌, nat_le}
use borrow.Author.Tests.{eqb-false}
use Rattle.bz_bus.specs.Entries.{Extends, entries_of}
use Rattle.bz_bus.specs.declared.TheConstants.{PASSES}
use Rattle.bz_call.specs.declared.calls.Call.{Call}
use Rattle.bz_index.proofs.Begins.{BeginTells, begin_tells}
use Rattle.bz_index.proofs.Lists.{marks-told, length-told, log-told}
use Rattle.bz_index.proofs.OpenCalls.{begins_own}
use Rattle.bz_index.proofs.Rests.{rest_stays}
use Rattle.bz_index.proofs.Runs.{own_more}
use Rattle.bz_index.specs.Calls.{begin_entry}
use Rattle.bz_index.specs.Entries.{owner_of, marks_in, entries_in, log_of}
use Rattle.bz_index.specs.Inside.Outcomes.{BeginLeaves}
use Rattle.bz_index.specs.Inside.Running.{IsRunning}
use Rattle.bz_index.specs.Passes.{IsAtRest}
use Rattle.bz_index.specs.Worlds.{IsWorldOf, HasBegun}
use Rattle.bz_index.specs.declared.shared.IndexEntry.{IndexEntry}
use Rattle.bz_index.specs.declared.shared.Origin.{Origin}
use Rattle.bz_layout.specs.declared.config.Config.{Config}
use Rattle.bz_mark.specs.Log.{Log, with_mark, count_begins}
use Rattle.bz_mark.specs.declared.marks.Mark.TheVariants.{Begin}
use Rattle.bz_sound.specs.Calls.{Open, open_call}
use Rattle.bz_mark.specs.Times.{power_of}
use Rattle.bz_mark.specs.declared.power.Power.{Power}
use Rattle.bz_mark.specs.declared.power.Power.TheVariants as power
use Rattle.bz_world.specs.Recoveries.{acts_recovering}
use Rattle.bz_world.specs.WorldView.{WorldView, power_in, recovery_most, is_short, lacks_page, after_begin}
use Rattle.bz_world.specs.declared.answers.Begun.{Begun}
use Rattle.bz_world.specs.declared.answers.Begun.TheVariants as begun
use Rattle.bz_world.specs.declared.answers.LimitKind.TheVariants as which

module _ (origin : Origin) (w : ℕ) (below : w < PASSES) (call : Call) (first : List IndexEntry) where
  own_begin : (b : Bool) (new rest : Option Open) → (w == w) ≡ b → (if b then new else rest) ≡ new
  own_begin true new rest is = refl
  own_begin false new rest is = absurd (eqb-false w w is refl)

  begun_runs : (log : Log) (n : ℕ) → Extends first (entries_in log) → entries_of owner_of w (entries_in log) ≡ entries_of owner_of w first → IsRunning w call first (entries_in (with_mark log (Begin w n call)))
  begun_runs log n extends own = record {
    since = [];
    begun = record {
      number = n;
      found = entries_in log;
      is = refl;
      extends = extends;
      own = own_more w (begin_entry w n call) (entries_in log) (begins_own w below) ∙ ap (λ (l : List IndexEntry). begin_entry w n call ∷ l) own;
    };
    none = refl;
    state = inl (record {
      opened = record { number = n; call = call; begun = length log.past; effect = None };
      is_open = ap (open_call w) (marks-told (Begin w n call ∷ log.past) _) ∙ own_begin (w == w) _ (open_call w log.past) refl;
      number = refl;
      since = sym (length-told log.past _);
    });
  }

  module _ (lab : WorldView) (is : IsWorldOf origin (entries_in lab.log) lab) (extends : Extends first (entries_in lab.log)) (own : entries_of owner_of w (entries_in lab.log) ≡ entries_of owner_of w first) (rests : IsAtRest origin (entries_in lab.log) w) where
    same : log_of origin (entries_in lab.log) ≡ lab.log
    same = log-told origin (entries_in lab.log) lab is

    power_is : (p : Power) → power_of lab.at_start lab.log.past ≡ p → power_of origin.at_start (marks_in (entries_in lab.log)) ≡ p
    power_is p tells =
        ap (λ (log : Log). power_of origin.at_start log.past) same ∙ (ap (λ (o : Origin). power_of o.at_start lab.log.past) (sym is.stays) ∙ tells)

    few_acts : power_in lab ≡ power.Recovering → acts_recovering (marks_in (entries_in lab.log)) < recovery_most origin.config
    few_acts tells = omega (arith, is.brief tells, ap (λ (log : Log). acts_recovering log.past) same, ap (λ (o : Origin). recovery_most o.config) is.stays)

    leaves : (answer : Begun) → BeginTells lab w call answer → BeginLeaves origin w call first (entries_in (after_begin lab w call answer).log) answer
    leaves (begun.Begun n) tells = begun_runs lab.log n extends own
    leaves begun.NoWorker tells = tells
    leaves begun.Busy tells = tells
    leaves begun.Off tells = (inl (own, power_is power.Off tells), rests)
    leaves begun.Recovering tells = ((own, power_is power.Recovering tells, few_acts tells), rests)
    leaves (begun.Limit which.Marks) tells = ((ap is_short same ∙ tells, inl own), rests)
    leaves (begun.Limit which.Calls) tells = ((own, ap is_short same ∙ tells.0, ap (λ (log : Log). nat_le log.limits.calls (count_begins log.past)) same ∙ tells.1), rests)
    leaves (begun.Limit which.Pages) tells = ((own, ap is_short same ∙ tells.0, ap (λ (log : Log). nat_le log.limits.calls (count_begins log.past)) same ∙ tells.1, ap (λ (log : Log). lacks_page log call) same ∙ tells.2), rests)

  pub begin_leaves : (found left : List IndexEntry) (answer : Begun) → 0 < w → w ≤ origin.config.workers → HasBegun origin found w call answer left
      → Extends first found → entries_of owner_of w found ≡ entries_of owner_of w first → IsAtRest origin first w → BeginLeaves origin w call first left answer
  begin_leaves found left answer some within turn extends own at_rest =
      let lab : WorldView = turn.lab in
      let told = turn.before.told in
      let is : IsWorldOf origin (entries_in lab.log) lab = record { stays = turn.before.stays; told = refl; sound = turn.before.sound; brief = turn.before.brief } in
      let extends_it : Extends first (entries_in lab.log) = subst (Extends first) (sym told) extends in
      let own_it : entries_of owner_of w (entries_in lab.log) ≡ entries_of owner_of w first = ap (entries_of owner_of w) told ∙ own in
      let rests : IsAtRest origin (entries_in lab.log) w = rest_stays origin w first (entries_in lab.log) below extends_it own_it at_rest in
      let log : log_of origin (entries_in lab.log) ≡ lab.log = log-told origin (entries_in lab.log) lab is in
      let config : lab.config ≡ origin.config = ap (λ (o : Origin). o.config) turn.before.stays in
      let rests_it : (open_call w lab.log.past ≡ None) ⊎ (is_short lab.log ≡ true) = subst (λ (l : Log). (open_call w l.past ≡ None) ⊎ (is_short l ≡ true)) log rests in
      let tells : BeginTells lab w call answer = subst (BeginTells lab w call) (sym turn.answered) (begin_tells lab w call some (subst (λ (c : Config). w ≤ c.workers) (sym config) within) rests_it) in
      subst (λ (l : List IndexEntry). BeginLeaves origin w call first l answer) turn.after.told (leaves lab is extends_it own_it rests answer tells)
