use Rattle.std.proofs.Common.{◌-◌, ◌<◌, ◌≤◌, length, arith, refl}
use Rattle.bz_mark.specs.declared.power.Power.TheVariants as power
use Rattle.bz_world.specs.declared.answers.Begun.TheVariants as begun
use Rattle.bz_world.proofs.Refusing.{dark-refusal, powered-refusal, short-refusal}
use Rattle.bz_world.proofs.begin.refusal.Goals as goal

pub returns-in-On : goal.returns-in-On
returns-in-On c =
    let p = c.args.parts.now in
    let some : 0 < c.args.w = omega arith in
    let within : c.args.w ≤ p.config.workers = omega arith in
    let room : 3 ≤ p.journal.limits.marks - length p.journal.past = omega arith in
    powered-refusal p c.requires.tabled c.args.w c.args.call.now some within room c.in-On.is c.powered_refusal.result c.powered_refusal.ensures

-- with the power off or recovering none begins
pub returns-in-Off : goal.returns-in-Off
returns-in-Off c =
    let p = c.args.parts.now in
    let some : 0 < c.args.w = omega arith in
    let within : c.args.w ≤ p.config.workers = omega arith in
    let room : 3 ≤ p.journal.limits.marks - length p.journal.past = omega arith in
    dark-refusal p c.requires.tabled c.args.w c.args.call.now some within room power.Off begun.Off c.in-Off.is refl refl

pub returns-in-Recovering : goal.returns-in-Recovering
returns-in-Recovering c =
    let p = c.args.parts.now in
    let some : 0 < c.args.w = omega arith in
    let within : c.args.w ≤ p.config.workers = omega arith in
    let room : 3 ≤ p.journal.limits.marks - length p.journal.past = omega arith in
    dark-refusal p c.requires.tabled c.args.w c.args.call.now some within room power.Recovering begun.Recovering c.in-Recovering.is refl refl

-- nor where the journal is short of room
pub returns-then-room-lt3 : goal.returns-then-room-lt3
returns-then-room-lt3 c =
    let p = c.args.parts.now in
    short-refusal p c.args.w c.args.call.now (omega arith) (omega arith) (omega arith)
