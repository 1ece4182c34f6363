-- What comes of an act of a recovery: the next one is asked for, or it has ended.
use Rattle.std.proofs.Common.{◌≡◌, ◌≢◌, ℕ, ◌+◌, ◌<◌, ◌≤◌, ◌∷◌, length, arith, refl, sym, ap, subst, ◌∙◌}
use Rattle.bz_layout.specs.declared.config.Config.{Config}
use Rattle.bz_mark.specs.Log.{Log, with_mark}
use Rattle.bz_mark.specs.declared.marks.Mark.TheVariants.{Ready}
use Rattle.bz_layout.specs.Slots.{FreeSlots}
use Rattle.bz_recover.specs.Duties.{Knows, Tells, WalksIn}
use Rattle.bz_recover.specs.FromSweep.Memory.{Memory}
use Rattle.bz_recover.specs.declared.recover.Recover.{Recover}
use Rattle.bz_refinement.specs.Recovering as recovery
use Rattle.bz_refinement.specs.RecoveryLaws.{RecoveriesGoOn}
use Rattle.bz_mark.specs.Times.{since_on}
use Rattle.bz_mark.specs.Counts.{acts_by}
use Rattle.bz_refinement.specs.Reviving.{TurnsMakeNoMark}
use Rattle.bz_swap.specs.Power.{renewed}
use Rattle.bz_swap.specs.SwapMemory.{worker_of}
use Rattle.bz_task.specs.Scene.{Took}
use Rattle.bz_task.specs.declared.todo.Seen.{Seen}
use Rattle.bz_task.specs.declared.todo.Todo.{Todo}
use Rattle.bz_world.specs.Inside.Beginning.{world_view}
use Rattle.bz_world.specs.Inside.Kept.{IsRecovering, IsStarted, IsKept}
use Rattle.bz_world.specs.Inside.Paid.{begun_with}
use Rattle.bz_world.specs.Inside.Powering.{HasAsked, HasGoneOn, Wakes}
use Rattle.bz_mark.specs.declared.power.Power.TheVariants as power
use Rattle.bz_world.specs.WorldView.{Supply, Recovers, count_reached, mark_of, recovery_most}
use Rattle.bz_world.specs.declared.answers.Applied.TheVariants as applied
use Rattle.bz_world.specs.declared.parts.Parts.{Parts}
use Rattle.bz_world.proofs.Powered.{kept-started}
use Rattle.bz_world.proofs.Stepping.{flush-is, flush-same, swap-same}
use Rattle.bz_world.proofs.Supplies.{shown-on, shown-recovering}
use Rattle.bz_world.proofs.Tabled.{tabled-beside}

-- what it knows of the slots after `next`, where it was told what its act made of them
abbrev pub Learns : Recover → FreeSlots → Seen → Recover → FreeSlots → Type 0
Learns old slots seen new slots-after =
    (values : ℕ → ℕ) (m : Memory) → Knows old values Took m → Tells old seen m → WalksIn old values slots → WalksIn new values slots-after

-- it is told what came of its act, and asks for the next one
pub asked-on : RecoveriesGoOn → TurnsMakeNoMark → (p : Parts) (seen : Seen) (next : Recover) (slots : FreeSlots) → IsRecovering p recovery.Made → recovery.IsNext p.recovery seen next → Tells p.recovery seen (recovery.words_in p.access)
    → slots.nodes ≡ p.slots.nodes → Learns p.recovery p.slots seen next slots → IsRecovering (record p { recovery = next; slots = slots }) recovery.Asked
asked-on go_on turns p seen next slots k on tells nodes learns = record {
  dark = record {
    tabled = tabled-beside (record { workers = refl; owners = refl; crew = refl; steps = refl; rest = refl }) k.dark.tabled;
    sound = k.dark.sound;
    leaves = k.dark.leaves;
    none = k.dark.none;
    slots = nodes ∙ k.dark.slots;
    values = k.dark.values;
  };
  walks = learns k.dark.values (recovery.words_in p.access) k.memory.recovering.knows tells k.walks;
  memory = turns p.config k.dark.values p.access p.access p.journal recovery.Made recovery.Asked p.recovery next k.memory refl refl (go_on p.config k.dark.values p.access p.recovery next seen k.memory.recovering on tells)
      (omega (arith, on.sooner k.dark.values (recovery.words_in p.access) k.memory.recovering.knows));
}

-- an act of worker 0, of which the recovery was told
module _ (old asked new : Parts) (todo : Todo) (a : HasAsked old todo asked) where
  -- fewer acts than so many a word were made
  has-few : acts_by 0 (since_on (mark_of 0 a.made ∷ old.journal.past)) < recovery_most old.config
  has-few = omega (arith, a.recovering.memory.spent, ap (λ (p : Parts). acts_by 0 (since_on p.journal.past)) a.rest, ap (λ (p : Parts). acts_by 0 (since_on p.journal.past)) a.act.rest, ap (λ (p : Parts). recovery_most p.config) a.rest, ap (λ (p : Parts). recovery_most p.config) a.act.rest)

  -- the next one is started
  pub seen-stepped : old.power ≡ power.Recovering → new ≡ record asked { access = new.access } → ((v : ℕ) → v ≢ 0 → worker_of new.access v ≡ worker_of asked.access v) → Recovers (world_view old) applied.Stepped (world_view new)
  seen-stepped recovering rest others = record {
    made = a.made;
    few = has-few;
    flush = a.act.step.one.flush ∙ sym (flush-is old 0);
    ends = ap (λ (p : Parts). p.journal) rest ∙ (ap (λ (p : Parts). p.journal) a.rest ∙ ap (λ (p : Parts). p.journal) a.act.rest);
    supply = shown-recovering new (power-is ∙ recovering) ∙ sym (shown-recovering old recovering);
    at_begin = ap begun_with rest ∙ (ap begun_with a.rest ∙ ap begun_with a.act.rest);
    config = ap (λ (p : Parts). p.config) rest ∙ (ap (λ (p : Parts). p.config) a.rest ∙ ap (λ (p : Parts). p.config) a.act.rest);
    at_start = ap (λ (p : Parts). p.at_start) rest ∙ (ap (λ (p : Parts). p.at_start) a.rest ∙ ap (λ (p : Parts). p.at_start) a.act.rest);
    left_out = ap (λ (p : Parts). p.left_out.items) rest ∙ (ap (λ (p : Parts). p.left_out.items) a.rest ∙ ap (λ (p : Parts). p.left_out.items) a.act.rest);
    others = λ v ne. flush-same old new v (as-it-was v ne);
    apart = λ v ne. swap-same old new v (as-it-was v ne);
  }
    where
      power-is : new.power ≡ old.power
      power-is = ap (λ (p : Parts). p.power) rest ∙ (ap (λ (p : Parts). p.power) a.rest ∙ ap (λ (p : Parts). p.power) a.act.rest)

      as-it-was : (v : ℕ) → v ≢ 0 → worker_of new.access v ≡ worker_of old.access v
      as-it-was v ne = others v ne ∙ (ap (λ (p : Parts). worker_of p.access v) a.rest ∙ a.act.step.one.others.workers v ne)

  pub kept-stepped : old.power ≡ power.Recovering → new ≡ record asked { access = new.access } → IsStarted new → IsKept new
  kept-stepped recovering rest started = kept-started new (ap (λ (p : Parts). p.power) rest ∙ (ap (λ (p : Parts). p.power) a.rest ∙ (ap (λ (p : Parts). p.power) a.act.rest ∙ recovering))) started

  -- or it has ended
  pub seen-woken : Wakes asked new → Recovers (world_view old) applied.Ready (world_view new)
  seen-woken woken = record {
    made = a.made;
    few = has-few;
    flush = a.act.step.one.flush ∙ sym (flush-is old 0);
    ends = journal ∙ ap (λ (p : Parts). with_mark p.journal Ready) (a.rest ∙ ap (λ (p : Parts). record p { recovery = asked.recovery; slots = asked.slots }) a.act.rest);
    supply = (
      ap (λ (s : Supply). s.taken) (shown-on new woken.awake.on) ∙ ap (λ (p : Parts). p.access.taken) rest,
      subst (λ (c : Config). (world_view new).supply.left + count_reached c new.journal ≡ c.nodes) (sym config)
          (subst (λ (j : Log). (world_view new).supply.left + count_reached asked.config j ≡ asked.config.nodes) (sym journal)
          (subst (λ (s : Supply). s.left + count_reached asked.config asked.journal ≡ asked.config.nodes) (sym (shown-on new woken.awake.on)) left)),
    );
    at_begin = ap begun_with rest ∙ (ap begun_with a.rest ∙ ap begun_with a.act.rest);
    config = config ∙ (ap (λ (p : Parts). p.config) a.rest ∙ ap (λ (p : Parts). p.config) a.act.rest);
    at_start = ap (λ (p : Parts). p.at_start) rest ∙ (ap (λ (p : Parts). p.at_start) a.rest ∙ ap (λ (p : Parts). p.at_start) a.act.rest);
    left_out = ap (λ (p : Parts). p.left_out.items) rest ∙ (ap (λ (p : Parts). p.left_out.items) a.rest ∙ ap (λ (p : Parts). p.left_out.items) a.act.rest);
    others = λ v ne. flush-same old new v (as-it-was v ne);
    apart = λ v ne. swap-same old new v (as-it-was v ne);
  }
    where
      rest : new ≡ record asked { access = renewed asked.access; journal = with_mark asked.journal Ready; power = power.On }
      rest = woken.rest

      journal : new.journal ≡ with_mark asked.journal Ready
      journal = ap (λ (p : Parts). p.journal) rest

      config : new.config ≡ asked.config
      config = ap (λ (p : Parts). p.config) rest

      left : length new.slots.free + count_reached asked.config asked.journal ≡ asked.config.nodes
      left = subst (λ (s : FreeSlots). length s.free + count_reached asked.config asked.journal ≡ asked.config.nodes) (sym (ap (λ (p : Parts). p.slots) rest)) woken.left

      as-it-was : (v : ℕ) → v ≢ 0 → worker_of new.access v ≡ worker_of old.access v
      as-it-was v ne = ap (λ (p : Parts). worker_of p.access v) rest ∙ (ap (λ (p : Parts). worker_of p.access v) a.rest ∙ a.act.step.one.others.workers v ne)

-- a flush goes on
module _ (old new : Parts) (a : HasGoneOn old new) where
  same-power : new.power ≡ old.power
  same-power = ap (λ (p : Parts). p.power) a.act.rest

  pub seen-going-on : old.power ≡ power.Recovering → Recovers (world_view old) applied.Stepped (world_view new)
  seen-going-on recovering = record {
    made = a.made;
    few = omega (arith, a.started.memory.spent, ap (λ (p : Parts). acts_by 0 (since_on p.journal.past)) a.act.rest, ap (λ (p : Parts). recovery_most p.config) a.act.rest);
    flush = a.act.step.one.flush ∙ sym (flush-is old 0);
    ends = ap (λ (p : Parts). p.journal) a.act.rest;
    supply = shown-recovering new (same-power ∙ recovering) ∙ sym (shown-recovering old recovering);
    at_begin = ap begun_with a.act.rest;
    config = ap (λ (p : Parts). p.config) a.act.rest;
    at_start = ap (λ (p : Parts). p.at_start) a.act.rest;
    left_out = ap (λ (p : Parts). p.left_out.items) a.act.rest;
    others = λ v ne. flush-same old new v (a.act.step.one.others.workers v ne);
    apart = λ v ne. swap-same old new v (a.act.step.one.others.workers v ne);
  }

  pub kept-going-on : old.power ≡ power.Recovering → IsKept new
  kept-going-on recovering = kept-started new (same-power ∙ recovering) a.started

-- one mark was added
pub more-room : (old asked : Parts) (todo : Todo) → HasAsked old todo asked → length old.journal.past + 3 ≤ old.config.marks → length asked.journal.past < asked.config.marks
more-room old asked todo a room = omega (arith, room, ap (λ (p : Parts). length p.journal.past) a.rest, ap (λ (p : Parts). length p.journal.past) a.act.rest, ap (λ (p : Parts). p.config.marks) a.rest, ap (λ (p : Parts). p.config.marks) a.act.rest)
