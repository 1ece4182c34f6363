use Rattle.std.proofs.Common.{rules}
use Rattle.bz_mutate.proofs.DeleteActing.{effect}
use Rattle.bz_mutate.proofs.DeleteStaying.{took}
use Rattle.bz_mutate.proofs.delete.DeleteTask.acted.Goals as goal

pub returns : goal.returns
returns c = record {
  effect = λ s y entries same facts good asks stand swaps. let t = c.args.self.now in effect t.config t.key t.view t.phase s y entries same facts good asks stand swaps;
  took = λ s after entries same facts good later asks stand takes. let t = c.args.self.now in took t.config t.key t.view t.phase s after entries facts asks takes;
  stored = search rules;
  flushed = search rules;
}
