use Rattle.std.proofs.Common.{ap, arith, sym}
use Rattle.bz_slotted.specs.Page.{page}
use Rattle.bz_slotted.specs.ReadingLaws.{node_of}
use Rattle.bz_slotted.specs.Records.{shown}
use Rattle.bz_slotted.proofs.Fills.{live-more, live-none}
use Rattle.bz_slotted.proofs.filling.live_block.Goals as goal

pub loop-j-init : goal.loop-j-init
loop-j-init c = record { words = sym (live-none (page (node_of c.args.words.now)).meta); small = omega arith }

pub loop-j-preserved : goal.loop-j-preserved
loop-j-preserved c = record {
  words = omega (arith, live-more (page (node_of c.args.words.now)).meta c.loop-j.j, ap shown c.meta_of.ensures.says, c.shown-live.ensures.words, c.loop-j.invariant.words);
  small = omega (arith, c.shown-live.ensures.small, c.loop-j.invariant.small);
}
