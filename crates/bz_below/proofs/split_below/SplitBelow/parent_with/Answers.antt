use Rattle.std.proofs.Common.{◌≡◌, arith}
use Rattle.bz_below.proofs.NewParents.{FrontIs, high-fence, never-none, may-part, level-is, new-parents, room-is}
use Rattle.bz_below.proofs.split_below.SplitBelow.parent_with.Goals as goal

pub place_of-requires : goal.place_of-requires
place_of-requires c = c.requires.is.partable.readable

pub high-high-requires : goal.high-high-requires
high-high-requires c = let t = c.args.self.now in high-fence c.high_fences_are_read.ensures t.config.nodes t.lower.slot t.halves.separator t.read.0 c.requires

pub unreachable-requires : goal.unreachable-requires
unreachable-requires c = let t = c.args.self.now in absurd (never-none c.high_fences_are_read.ensures t.config.nodes t.lower.slot t.halves.separator t.read.0 c.requires c.in_default.ensures.none)

pub parent_over-requires : goal.parent_over-requires
parent_over-requires c =
    let t = c.args.self.now in
    let front : FrontIs t.read.0 c.level_of-level.result c.low_fence-low.result c.high-high.result = record { level_is = c.level_of-level.ensures; low_is = c.low_fence-low.ensures; high_is = c.high-high.ensures } in
    let e : c.level_of-level.result ≡ c.requires.level = level-is c.high_fences_are_read.ensures t.config.nodes t.lower.slot t.halves.separator t.read.0 c.in-Some.place c.in-Some.ensures.some.0 c.in-Some.ensures.some.1 c.low_fence-low.result c.high-high.result c.level_of-level.result front c.requires.level c.requires.child c.requires.low c.requires.high c.requires.is in
    record {
      readable = c.requires.is.partable.readable;
      parted = may-part c.high_fences_are_read.ensures t.config.nodes t.lower.slot t.halves.separator t.read.0 c.in-Some.place c.in-Some.ensures.some.0 c.in-Some.ensures.some.1 c.low_fence-low.result c.high-high.result c.level_of-level.result front c.requires;
      inner = omega (arith, e, c.requires.is.inner);
      levels = omega (arith, e, c.requires.is.lowest);
    }

pub returns : goal.returns
returns c =
    let t = c.args.self.now in
    let front : FrontIs t.read.0 c.level_of-level.result c.low_fence-low.result c.high-high.result = record { level_is = c.level_of-level.ensures; low_is = c.low_fence-low.ensures; high_is = c.high-high.ensures } in
    record {
      room = room-is c.high_fences_are_read.ensures t.config.nodes t.lower.slot t.halves.separator t.read.0 c.in-Some.place c.in-Some.ensures.some.0 c.in-Some.ensures.some.1 c.low_fence-low.result c.high-high.result c.level_of-level.result front c.children_may_be_parted.ensures c.requires c.args.left c.args.right c.parent_over.result c.parent_over.ensures.fits;
      words = new-parents c.high_fences_are_read.ensures t.config.nodes t.lower.slot t.halves.separator t.read.0 c.in-Some.place c.in-Some.ensures.some.0 c.in-Some.ensures.some.1 c.low_fence-low.result c.high-high.result c.level_of-level.result front c.args.left c.args.right c.parent_over.result c.parent_over.ensures.words;
    }
