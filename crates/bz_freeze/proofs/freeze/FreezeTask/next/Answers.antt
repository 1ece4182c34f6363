use Rattle.std.proofs.Common.{◌≡◌, ℕ, arith, refl, rules}
use Rattle.bz_layout.specs.declared.config.Config.{Config}
use Rattle.bz_task.specs.Requests.{steps_in}
use Rattle.bz_freeze.specs.Facts.{freeze_asks}
use Rattle.bz_freeze.specs.declared.phase.FreezePhase.{FreezePhase}
use Rattle.bz_freeze.specs.declared.phase.FreezePhase.TheVariants.{Fresh}
use Rattle.bz_freeze.proofs.freeze.FreezeTask.next.Goals as goal

-- nothing that it asks for is a flush
one-step : (c : Config) (k st : ℕ) (p : FreezePhase) → steps_in (freeze_asks c k st p) ≡ 1
one-step c k st Fresh = refl
one-step c k st p = refl

pub returns-clause-goes : goal.returns-clause-goes
returns-clause-goes c = record {
  asked = search rules;
  nearer = let t = c.args.self.now in omega (arith, c.after-self.ensures.nearer, one-step t.config t.slot t.status c.after-self.result);
  fewer = search rules;
  counted = search rules;
  config = search rules;
  change = search rules;
  basis = search rules;
  meant = search rules;
  slots = search rules;
  kept = search rules;
  begins = search rules;
  last = search rules;
  only_last = search rules;
  done = search rules;
  published = search rules;
  restart = search rules;
  no_swap = search rules;
  full_swaps = search rules;
  full_nodes = search rules;
}
