use Rattle.std.proofs.Common.{refl, arith, []}
use Rattle.bz_merge.proofs.merge.Merge.begin.Goals as goal

pub parent_joined-self-requires : goal.parent_joined-self-requires
parent_joined-self-requires c =
    let m = c.requires in
    record { nodes = c.args.slots.now.nodes; raw = m.raw; level = m.level; low = m.low; high = m.high; two = m.two; slot_within = (c.in-Some.ensures.taken (λ n. [])).slots.within 1 (omega arith) }

pub returns-in-Some-clause-begun : goal.returns-in-Some-clause-begun
returns-in-Some-clause-begun c = (refl, (c.in-Some.ensures.taken _, (c.parent_joined-self.ensures.words, (c.parent_joined-self.ensures.size, c.merged_leaf-self.ensures))))
