use Rattle.std.proofs.Common.{◌∙◌, arith}
use Rattle.std.specs.Prelude.{slice_index}
use Rattle.std.proofs.Math.ListN.{length-set}
use Rattle.bz_content.specs.Image.{node}
use Rattle.bz_content.specs.Resolving.{resolve}
use Rattle.bz_judge.proofs.NodeWords.{all-read, read-more}
use Rattle.bz_judge.proofs.node.node_of_slot.Goals as goal

pub loop-i-preserved : goal.loop-i-preserved
loop-i-preserved c = record {
  size = length-set c.loop-i.words c.loop-i.i _ ∙ c.loop-i.invariant.size;
  read = read-more c.loop-i.words c.loop-i.i c.node_word.result (node c.args.config.now (resolve (slice_index c.args.image.now)) c.args.slot) (omega (arith, c.loop-i.invariant.size, c.loop-i-test.true)) c.loop-i.invariant.read c.node_word.ensures;
}

pub returns-clause-whole : goal.returns-clause-whole
returns-clause-whole c = c.loop-i.invariant.size

pub returns-clause-node : goal.returns-clause-node
returns-clause-node c = all-read c.args.config.now (resolve (slice_index c.args.image.now)) c.args.slot _ c.loop-i.invariant.size (λ i l. c.loop-i.invariant.read i (omega (arith, c.loop-i-test.false)))
