use Rattle.std.proofs.Common.{refl, slice_index, subst}
use Rattle.bz_layout.specs.Config.{IsConfig}
use Rattle.bz_writer.proofs.Stepping.{steps-after, steps-look}
use Rattle.bz_consol.specs.Duties.{renewal_of}
use Rattle.bz_consol.specs.Facts.{Renewal, consol_plan}
use Rattle.bz_consol.proofs.Acting.{looks-well, sound}
use Rattle.bz_consol.proofs.consolidate.Consolidate.step.Goals as goal

pub returns-in_default : goal.returns-in_default
returns-in_default c =
    let t = c.args.self.now in
    let k = steps-after t.config (consol_plan (renewal_of t)) (sound (renewal_of t)) t.phase c.after-self.result c.args.seen c.args.moment c.args.slots.now c.in_default.not-Fresh c.in_default.not-Guard c.requires c.after-self.ensures in
    record { known = subst IsConfig c.requires.known.config c.requires.known.good.config; begun = k.begun; ready = k.ready; goes = k.goes; learns = k.learns }

pub returns-in-Guard : goal.returns-in-Guard
returns-in-Guard c =
    let t = c.args.self.now in
    let begun : Renewal = record { link = t.link; image = t.image.0; slot = slice_index c.look-begun.result.slots } in
    let k = steps-look t.config (consol_plan (renewal_of t)) (consol_plan begun) (sound (renewal_of t)) (record { count = refl; basis = refl; done = λ p d. d; none = λ p d. d }) t.phase c.look-begun.result.phase c.args.seen c.args.moment c.args.slots.now c.look-begun.new.slots
    (looks-well (renewal_of t) begun refl refl c.args.slots.now c.look-begun.new.slots) c.in-Guard.is c.requires c.look-begun.ensures in
    record { known = subst IsConfig c.requires.known.config c.requires.known.good.config; begun = k.begun; ready = k.ready; goes = k.goes; learns = k.learns }
