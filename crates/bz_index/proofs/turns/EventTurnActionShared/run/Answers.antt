use Rattle.std.proofs.Common.{refl}
use Rattle.bz_index.proofs.Origins.{made_origin}
use Rattle.bz_index.proofs.turns.EventTurnActionShared.run.Goals as goal

pub returns-clause-does : goal.returns-clause-does
returns-clause-does c = record {
  old = c.args.shared.now.world;
  new = c.apply-self.new.self;
  before = c.shows_sound.ensures;
  applied = c.apply-self.ensures;
  after = record { stays = made_origin _ _ _ _ c.apply-self.ensures; told = refl; sound = c.shows_sound-2.ensures.sound; brief = c.shows_sound-2.ensures.brief };
}

pub returns-clause-fixed : goal.returns-clause-fixed
returns-clause-fixed c = made_origin _ _ _ _ c.apply-self.ensures
