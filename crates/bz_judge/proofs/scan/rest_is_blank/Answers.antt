use Rattle.std.proofs.Common.{◌+◌, ◌-◌, sym, ap, ◌∙◌}
use Rattle.std.specs.Prelude.{◌==◌, slice_index}
use Rattle.bz_layout.specs.declared.sizes.TheConstants.{SUPERBLOCK_USED, SUPERBLOCK_WORDS}
use Rattle.bz_slotted.proofs.Loops.{every-none, every-more, every-fails}
use Rattle.bz_slotted.proofs.Readings.{other-test, same-test}
use Rattle.bz_judge.proofs.scan.rest_is_blank.Goals as goal

pub loop-i-init : goal.loop-i-init
loop-i-init c = every-none (λ i. slice_index c.args.image.now (SUPERBLOCK_USED + i) == 0)

pub returns-then-word-ne0 : goal.returns-then-word-ne0
returns-then-word-ne0 c = sym (every-fails (λ i. slice_index c.args.image.now (SUPERBLOCK_USED + i) == 0) (SUPERBLOCK_WORDS - SUPERBLOCK_USED) c.loop-i.i c.loop-i-test.true (ap (λ w. w == 0) (sym c.word.ensures) ∙ other-test c.word.result 0 c.if-word-ne0.true))

pub loop-i-preserved : goal.loop-i-preserved
loop-i-preserved c = every-more (λ i. slice_index c.args.image.now (SUPERBLOCK_USED + i) == 0) c.loop-i.i c.loop-i.invariant (ap (λ w. w == 0) (sym c.word.ensures) ∙ same-test c.word.result 0 c.if-word-ne0.false)
