use Rattle.bz_mutate.proofs.UpdateActing.{effect}
use Rattle.bz_mutate.proofs.UpdateTaking.{took, stored, flushed}
use Rattle.bz_mutate.proofs.update.UpdateTask.acted.Goals as goal

pub returns : goal.returns
returns c = record {
  effect = λ s y entries same facts good asks stand swaps. let t = c.args.self.now in effect t.config t.view t.added t.phase s y entries same facts good asks stand swaps;
  took = λ s after entries same facts good later asks stand takes. let t = c.args.self.now in took t.config t.view t.added t.phase s after entries same facts good later asks stand takes;
  stored = λ s after a v same facts good later asks stores. let t = c.args.self.now in stored t.config t.view t.added t.phase s after a v same facts asks stores;
  flushed = λ s after line same facts good later asks flushes. let t = c.args.self.now in flushed t.config t.view t.added t.phase s after line same facts asks flushes;
}
