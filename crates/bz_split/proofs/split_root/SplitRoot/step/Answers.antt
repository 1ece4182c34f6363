use Rattle.std.proofs.Common.{refl, subst}
use Rattle.bz_layout.specs.Config.{IsConfig}
use Rattle.bz_writer.proofs.Stepping.{steps-after, steps-look}
use Rattle.bz_split.specs.Duties.{split_of}
use Rattle.bz_split.specs.Facts.{split_plan}
use Rattle.bz_split.specs.declared.split_root.SplitRoot.{SplitRoot}
use Rattle.bz_split.proofs.Acting.{looks-well, sound}
use Rattle.bz_split.proofs.split_root.SplitRoot.step.Goals as goal

pub returns-in_default : goal.returns-in_default
returns-in_default c =
    let t = c.args.self.now in
    let k = steps-after t.config (split_plan (split_of t)) (sound (split_of t)) t.phase c.after-self.result c.args.seen c.args.moment c.args.slots.now c.in_default.not-Fresh c.in_default.not-Guard c.requires c.after-self.ensures in
    record { known = subst IsConfig c.requires.known.config c.requires.known.good.config; begun = k.begun; ready = k.ready; goes = k.goes; learns = k.learns }

pub returns-in-Guard : goal.returns-in-Guard
returns-in-Guard c =
    let t = c.args.self.now in
    let u : SplitRoot = record t { root = c.root_over-self.result; slots = c.look-begun.result.slots; phase = c.look-begun.result.phase } in
    let k = steps-look t.config (split_plan (split_of t)) (split_plan (split_of u)) (sound (split_of t)) (record { count = refl; basis = refl; done = λ p d. d; none = λ p d. d }) t.phase u.phase c.args.seen c.args.moment c.args.slots.now c.look-begun.new.slots
    (looks-well (split_of t) (split_of u) (λ p v. v) (λ s a. a) c.root_over-self.ensures c.is_whole.ensures c.args.slots.now c.look-begun.new.slots) c.in-Guard.is c.requires c.look-begun.ensures in
    record { known = subst IsConfig c.requires.known.config c.requires.known.good.config; begun = k.begun; ready = k.ready; goes = k.goes; learns = k.learns }
