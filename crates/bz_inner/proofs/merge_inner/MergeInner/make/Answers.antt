use Rattle.bz_inner.specs.JoinDuties.{joining_of}
use Rattle.bz_inner.proofs.JoinMaking.{made-left, made-right}
use Rattle.bz_inner.proofs.merge_inner.MergeInner.make.Goals as goal

pub returns-then-self : goal.returns-then-self
returns-then-self c = let t = c.args.self.now in made-right (joining_of t) c.args.slot c.parent_joined-root.result.0 c.united_node-joined.result.0 c.separator_at-separator.result c.if-self.true c.separator_at-separator.ensures c.parent_joined-root.ensures.words c.parent_joined-root.ensures.size c.united_node-joined.ensures.words c.united_node-joined.ensures.size

pub returns-else-self : goal.returns-else-self
returns-else-self c = let t = c.args.self.now in made-left (joining_of t) c.args.slot c.parent_joined-root.result.0 c.united_node-joined-else-self.result.0 c.separator_at-separator.result c.if-self.false c.separator_at-separator.ensures c.parent_joined-root.ensures.words c.parent_joined-root.ensures.size c.united_node-joined-else-self.ensures.words c.united_node-joined-else-self.ensures.size
