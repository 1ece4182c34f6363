use Rattle.std.proofs.Common.{◌≡◌, arith}
use Rattle.bz_fork.proofs.NewParents.{FrontIs, high-fence, never-none, may-part, level-is, new-parents, room-is}
use Rattle.bz_fork.proofs.parent.parent_with.Goals as goal

pub place_of-requires : goal.place_of-requires
place_of-requires c = c.requires.1.is.partable.readable

pub high-high-requires : goal.high-high-requires
high-high-requires c = high-fence c.high_fences_are_read.ensures c.requires.0 c.args.slot c.args.separator c.args.above.now.0 c.requires.1

pub unreachable-requires : goal.unreachable-requires
unreachable-requires c = absurd (never-none c.high_fences_are_read.ensures c.requires.0 c.args.slot c.args.separator c.args.above.now.0 c.requires.1 c.in_default.ensures.none)

pub parent_over-requires : goal.parent_over-requires
parent_over-requires c =
    let front : FrontIs c.args.above.now.0 c.level_of-level.result c.low_fence-low.result c.high-high.result = record { level_is = c.level_of-level.ensures; low_is = c.low_fence-low.ensures; high_is = c.high-high.ensures } in
    let e : c.level_of-level.result ≡ c.requires.1.level = level-is c.high_fences_are_read.ensures c.requires.0 c.args.slot c.args.separator c.args.above.now.0 c.in-Some.place c.in-Some.ensures.some.0 c.in-Some.ensures.some.1 c.low_fence-low.result c.high-high.result c.level_of-level.result front c.requires.1.level c.requires.1.child c.requires.1.low c.requires.1.high c.requires.1.is in
    record {
      readable = c.requires.1.is.partable.readable;
      parted = may-part c.high_fences_are_read.ensures c.requires.0 c.args.slot c.args.separator c.args.above.now.0 c.in-Some.place c.in-Some.ensures.some.0 c.in-Some.ensures.some.1 c.low_fence-low.result c.high-high.result c.level_of-level.result front c.requires.1;
      inner = omega (arith, e, c.requires.1.is.inner);
      levels = omega (arith, e, c.requires.1.is.lowest);
    }

pub returns : goal.returns
returns c =
    let front : FrontIs c.args.above.now.0 c.level_of-level.result c.low_fence-low.result c.high-high.result = record { level_is = c.level_of-level.ensures; low_is = c.low_fence-low.ensures; high_is = c.high-high.ensures } in
    record {
      room = room-is c.high_fences_are_read.ensures c.requires.0 c.args.slot c.args.separator c.args.above.now.0 c.in-Some.place c.in-Some.ensures.some.0 c.in-Some.ensures.some.1 c.low_fence-low.result c.high-high.result c.level_of-level.result front c.children_may_be_parted.ensures c.requires.1 c.args.left c.args.right c.parent_over.result c.parent_over.ensures.fits;
      words = new-parents c.high_fences_are_read.ensures c.args.slot c.args.separator c.args.above.now.0 c.in-Some.place c.in-Some.ensures.some.0 c.in-Some.ensures.some.1 c.low_fence-low.result c.high-high.result c.level_of-level.result front c.args.left c.args.right c.parent_over.result c.parent_over.ensures.words;
    }
