use Rattle.std.proofs.Common.{◌≡◌, arith, refl, rules}
use Rattle.bz_layout.specs.declared.config.Config.{Config}
use Rattle.bz_node.specs.declared.image.NodeImage.{NodeImage}
use Rattle.bz_task.specs.Requests.{steps_in}
use Rattle.bz_task.specs.declared.path.Link.{Link}
use Rattle.bz_leaf.specs.Facts.{leaf_asks}
use Rattle.bz_leaf.specs.declared.phase.LeafPhase.{LeafPhase}
use Rattle.bz_leaf.specs.declared.phase.LeafPhase.TheVariants.{Fresh}
use Rattle.bz_leaf.proofs.Learning.{no-slot}
use Rattle.bz_leaf.proofs.read_leaf.ReadLeafTask.next.Goals as goal

-- nothing that it asks for is a flush
one-step : (c : Config) (link : Link) (image : NodeImage) (p : LeafPhase) → steps_in (leaf_asks c link image p) ≡ 1
one-step c link image Fresh = refl
one-step c link image p = refl

pub returns-clause-learns : goal.returns-clause-learns
returns-clause-learns c stage s now same good free facts tells =
    let t = c.args.self.now in let a = c.after-self.ensures in
    rw (a.key, a.link, a.path) (no-slot t.key t.link c.after-self.new.self.image.0 s c.args.slots.now c.after-self.result a.begun (a.learns stage s now same good facts.0 tells), facts.1, facts.2)

pub returns-clause-goes : goal.returns-clause-goes
returns-clause-goes c = record {
  asked = search rules;
  nearer = let u = c.after-self.new.self in omega (arith, c.after-self.ensures.nearer, one-step u.config u.link u.image c.after-self.result);
  fewer = search rules;
  counted = search rules;
  config = search rules;
  change = search rules;
  basis = search rules;
  meant = search rules;
  slots = search rules;
  kept = search rules;
  begins = search rules;
  last = search rules;
  only_last = search rules;
  done = search rules;
  published = search rules;
  restart = search rules;
  no_swap = search rules;
  full_swaps = search rules;
  full_nodes = search rules;
}
