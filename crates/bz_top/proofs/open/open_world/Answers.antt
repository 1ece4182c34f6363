use Rattle.std.proofs.lemmas.Result.{IfOk-weaker}
use Rattle.bz_top.proofs.BaseLemmas.{booted_over, booted_image}
use Rattle.bz_top.proofs.open.open_world.Goals as goal

pub returns-in-None-clause-made : goal.returns-in-None-clause-made
returns-in-None-clause-made c = rw c.in-None.is c.open_fresh.ensures.made

pub boot_image-requires : goal.boot_image-requires
boot_image-requires c = rw c.words.ensures (rw c.in-Some.is at c.requires.base)

pub returns-in-Some-clause-made : goal.returns-in-Some-clause-made
returns-in-Some-clause-made c = IfOk-weaker c.boot_image.result _ _ (λ world h. booted_over c.args.config.now c.args.base c.in-Some.image c.words.result.now world c.in-Some.is c.words.ensures h) c.boot_image.ensures.made

pub returns-in-Some-clause-image : goal.returns-in-Some-clause-image
returns-in-Some-clause-image c =
    IfOk-weaker c.boot_image.result _ _ (λ world h. booted_image c.args.config.now c.args.base c.in-Some.image c.words.result.now world c.in-Some.is c.words.ensures c.requires.base h) c.boot_image.ensures.made
