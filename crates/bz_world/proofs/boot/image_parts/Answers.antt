use Rattle.std.proofs.Common.{◌∙◌}
use Rattle.bz_mark.specs.declared.power.Power.TheVariants as power
use Rattle.bz_sound.proofs.Proved.{fresh_journals_are_sound}
use Rattle.bz_refinement.proofs.Proved.{images_open_journals}
use Rattle.bz_world.proofs.Booting.{kept-image}
use Rattle.bz_world.proofs.Openings.{lab-made}
use Rattle.bz_world.proofs.boot.image_parts.Goals as goal

pub returns-clause-kept : goal.returns-clause-kept
returns-clause-kept c =
    kept-image fresh_journals_are_sound images_open_journals c.args.config.now c.args.image.now _ c.requires.config c.requires.whole c.requires.form c.in_ok-parts.ensures.config
    (c.in_ok-parts.ensures.slots ∙ c.in_ok-slots.ensures) c.in_ok-parts.ensures.made

pub returns-clause-lab : goal.returns-clause-lab
returns-clause-lab c = lab-made c.args.config.now c.args.image.now power.Off _ c.in_ok-parts.ensures.config c.in_ok-parts.ensures.made (λ on. absurd (cc on))
