use Rattle.std.proofs.Common.{arith}
use Rattle.std.proofs.lemmas.List.{length-set}
use Rattle.bz_key.proofs.Packings.{holds_all, holds_more}
use Rattle.bz_key.proofs.packing.unpack.Goals as goal

pub loop-place-preserved : goal.loop-place-preserved
loop-place-preserved c = (
  rw length-set c.loop-place.invariant.0,
  holds_more c.args.words.now c.loop-place.array c.loop-place.place c.byte_of.result (omega arith) c.loop-place.invariant.1 c.byte_of.ensures,
)

pub returns : goal.returns
returns c =
    rw c.of.ensures (holds_all c.args.words.now c.loop-place.array c.args.len (omega arith) (λ k h. c.loop-place.invariant.1 k (omega arith)))
