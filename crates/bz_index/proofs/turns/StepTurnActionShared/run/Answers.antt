use Rattle.std.proofs.Common.{refl, sym, subst}
use Rattle.bz_index.proofs.Ends.{has_ended}
use Rattle.bz_index.proofs.Origins.{made_origin}
use Rattle.bz_index.proofs.turns.StepTurnActionShared.run.Goals as goal
use Rattle.bz_index.specs.Entries.{entries_in}
use Rattle.bz_index.specs.Inside.Outcomes.{HasEnded, IsRead}
use Rattle.bz_mark.specs.Log.{Log}
use Rattle.bz_world.specs.WorldView.{WorldView, IsApplied}
use Rattle.bz_world.specs.declared.answers.Applied.{Applied}
use Rattle.bz_world.specs.declared.answers.Event.TheVariants as event

pub answer_of-self-requires : goal.answer_of-self-requires
answer_of-self-requires c = λ n is.
    let old : WorldView = c.args.shared.now.world in
    let new : WorldView = c.apply-applied.new.self in
    let w = c.args.self.now.worker in
    subst HasEnded (sym c.journal.ensures.journal)
    (has_ended old w n new c.requires.0 c.requires.1 (subst (λ (a : Applied). IsApplied old (event.Step w) a new) is c.apply-applied.ensures) c.shows_sound-2.ensures.sound)

pub returns-clause-does : goal.returns-clause-does
returns-clause-does c =
    let old : WorldView = c.args.shared.now.world in
    let new : WorldView = c.apply-applied.new.self in (
      refl,
      record {
        applied = c.apply-applied.result;
        made = record {
          old = old;
          new = new;
          before = c.shows_sound.ensures;
          applied = c.apply-applied.ensures;
          after = record { stays = made_origin old (event.Step c.args.self.now.worker) c.apply-applied.result new c.apply-applied.ensures; told = refl; sound = c.shows_sound-2.ensures.sound; brief = c.shows_sound-2.ensures.brief };
        };
        read = subst (λ (l : Log). IsRead c.apply-applied.result (entries_in l) c.answer_of-self.new.page c.answer_of-self.result) c.journal.ensures.journal c.answer_of-self.ensures;
      },
    )

pub returns-clause-fixed : goal.returns-clause-fixed
returns-clause-fixed c =
    let old : WorldView = c.args.shared.now.world in
    let new : WorldView = c.apply-applied.new.self in
    made_origin old (event.Step c.args.self.now.worker) c.apply-applied.result new c.apply-applied.ensures
