use Rattle.std.proofs.Common.{rules}
use Rattle.bz_freeze.proofs.Asking.{effect, took}
use Rattle.bz_freeze.proofs.freeze.FreezeTask.acted.Goals as goal

pub returns : goal.returns
returns c = record {
  effect = λ s y entries same f good e stand swaps. let t = c.args.self.now in effect t.config t.slot t.status t.phase s y entries same f good e stand swaps;
  took = λ s after entries same f good later e stand takes. let t = c.args.self.now in took t.config t.slot t.status t.phase s after entries same f good later e takes;
  stored = search rules;
  flushed = search rules;
}
