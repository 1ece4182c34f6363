use Rattle.std.proofs.Common.{slice_index}
use Rattle.bz_check.proofs.Following.{false_true}
use Rattle.bz_verdict.proofs.Paging.{page_of, other_end}
use Rattle.bz_verdict.proofs.pages.is_shown.Goals as goal

pub returns-then-not-same : goal.returns-then-not-same
returns-then-not-same c = λ config at is holds. (
  λ h. absurd (false_true h),
  λ s. absurd (other_end config (slice_index c.args.image.now) at c.args.shown.now c.args.from.now c.args.next.now c.leaf_end-end.result c.is_end-same.result (c.leaf_end-end.ensures config is) c.is_end-same.ensures c.if-not-same.true s),
)

pub returns : goal.returns
returns c = λ config at is holds.
    page_of config (slice_index c.args.image.now) at c.args.map.now.entries c.args.shown.now c.args.from.now c.args.next.now c.leaf_end-end.result c.is_end-same.result c.are_pairs_within.result c.len-count.ensures.ordered holds (c.leaf_end-end.ensures config is)
    c.is_end-same.ensures c.if-not-same.false c.are_pairs_within.ensures
