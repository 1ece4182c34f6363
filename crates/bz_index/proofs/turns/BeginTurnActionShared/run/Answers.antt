use Rattle.std.proofs.Common.{refl, ap, ◌∙◌, subst}
use Rattle.bz_index.proofs.Origins.{begun_origin}
use Rattle.bz_index.proofs.turns.BeginTurnActionShared.run.Goals as goal
use Rattle.bz_index.specs.Entries.{entries_in, origin_of}
use Rattle.bz_index.specs.Worlds.{IsWorldOf}
use Rattle.bz_world.specs.WorldView.{WorldView}

pub returns-clause-does : goal.returns-clause-does
returns-clause-does c =
    let new : WorldView = c.begin-self.new.self in
    record {
      lab = c.args.shared.now.world;
      before = c.shows_sound.ensures;
      answered = c.begin-self.ensures.answer;
      after = subst (λ (lab : WorldView). IsWorldOf (origin_of c.args.shared.now.world) (entries_in new.log) lab) c.begin-self.ensures.after
          (record { stays = ap origin_of c.begin-self.ensures.after ∙ begun_origin _ _ _ _; told = refl; sound = c.shows_sound-2.ensures.sound; brief = c.shows_sound-2.ensures.brief });
    }

pub returns-clause-fixed : goal.returns-clause-fixed
returns-clause-fixed c = ap origin_of c.begin-self.ensures.after ∙ begun_origin _ _ _ _
