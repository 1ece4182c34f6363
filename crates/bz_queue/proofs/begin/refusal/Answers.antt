use Rattle.std.proofs.Common.{◌-◌, ◌<◌, ◌≤◌, length, arith, refl}
use Rattle.bz_mark.specs.declared.power.Power.TheVariants as power
use Rattle.bz_queue.proofs.Powered.{awake-in}
use Rattle.bz_queue.proofs.Refusing.{answers, powered-refusal}
use Rattle.bz_queue.proofs.begin.refusal.Goals as goal

pub powered_refusal-requires : goal.powered_refusal-requires
powered_refusal-requires c = record { kept = awake-in c.args.parts.now c.requires c.in-On.is; some = omega arith; within = omega arith }

pub returns-in-On : goal.returns-in-On
returns-in-On c =
    let p = c.args.parts.now in
    let some : 0 < c.args.w = omega arith in
    let within : c.args.w ≤ p.numbers.workers = omega arith in
    let room : 3 ≤ p.journal.most - length p.journal.past = omega arith in
    powered-refusal p c.requires.tabled c.args.w some within room c.in-On.is c.powered_refusal.result c.powered_refusal.ensures

-- with the power off or recovering none begins
pub returns-in-Off : goal.returns-in-Off
returns-in-Off c =
    let p = c.args.parts.now in
    let some : 0 < c.args.w = omega arith in
    let within : c.args.w ≤ p.numbers.workers = omega arith in
    let room : 3 ≤ p.journal.most - length p.journal.past = omega arith in
    (answers p c.requires.tabled c.args.w some within room power.Off c.in-Off.is, λ called left. refl)

pub returns-in-Recovering : goal.returns-in-Recovering
returns-in-Recovering c =
    let p = c.args.parts.now in
    let some : 0 < c.args.w = omega arith in
    let within : c.args.w ≤ p.numbers.workers = omega arith in
    let room : 3 ≤ p.journal.most - length p.journal.past = omega arith in
    (answers p c.requires.tabled c.args.w some within room power.Recovering c.in-Recovering.is, λ called left. refl)
