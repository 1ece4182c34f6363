use Rattle.std.proofs.Common.{◌≡◌, arith, refl, ◌∷◌, length, replicate}
use Rattle.std.proofs.lemmas.List.{drop_at}
use Rattle.bz_layout.specs.declared.sizes.TheConstants.{FENCE_WORDS, HIGH_FENCE_AT}
use Rattle.bz_node.proofs.Writes.{put_last}
use Rattle.bz_node.proofs.build.put_front.Goals as goal

pub put_fence-requires-2 : goal.put_fence-requires-2
put_fence-requires-2 c =
    let long : length c.put_fence.new.out ≡ FENCE_WORDS = rw c.requires at c.put_fence.auto.out in
    rw (c.requires, drop_at c.put_fence.new.out (replicate FENCE_WORDS 0) FENCE_WORDS long) refl

pub returns : goal.returns
returns c =
    let long : length c.put_fence.new.out ≡ FENCE_WORDS = rw c.requires at c.put_fence.auto.out in
    rw (c.requires, put_last (c.args.status ∷ c.args.header ∷ c.put_fence.new.out) (replicate FENCE_WORDS 0) c.put_fence-2.new.out HIGH_FENCE_AT FENCE_WORDS (omega (arith, long)) refl, c.put_fence.ensures, c.put_fence-2.ensures) refl
