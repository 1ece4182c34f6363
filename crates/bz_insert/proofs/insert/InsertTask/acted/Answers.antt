use Rattle.bz_insert.proofs.Acting.{effect}
use Rattle.bz_insert.proofs.Taking.{took, stored, flushed}
use Rattle.bz_insert.proofs.insert.InsertTask.acted.Goals as goal

pub returns : goal.returns
returns c = record {
  effect = λ s y entries same facts good asks stand swaps. let t = c.args.self.now in effect t.config t.added t.phase s y entries same facts good asks stand swaps;
  took = λ s after entries same facts good later asks stand takes. let t = c.args.self.now in took t.config t.added t.phase s after entries same facts good later asks stand takes;
  stored = λ s after a v same facts good later asks stores. let t = c.args.self.now in stored t.config t.added t.phase s after a v same facts asks stores;
  flushed = λ s after line same facts good later asks flushes. let t = c.args.self.now in flushed t.config t.added t.phase s after line same facts asks flushes;
}
