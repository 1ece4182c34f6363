use Rattle.std.proofs.Common.{◌-◌, ◌≤◌, length, arith, refl, ◌∙◌}
use Rattle.bz_mark.specs.declared.power.Power.TheVariants as power
use Rattle.bz_queue.specs.Inside.Kept.{view_of}
use Rattle.bz_queue.specs.declared.answers.QApplied.TheVariants as applied
use Rattle.bz_queue.proofs.Powered.{awake-in, started-in, kept-awake}
use Rattle.bz_queue.proofs.Refusing.{step-unknown, step-short, step-applied}
use Rattle.bz_queue.proofs.step.step.Goals as goal

pub returns-then-from-parts : goal.returns-then-from-parts
returns-then-from-parts c = record { kept = c.requires; applied = step-unknown (view_of c.args.parts.now) c.args.w (omega arith) }

pub returns-then-room-lt3 : goal.returns-then-room-lt3
returns-then-room-lt3 c = record { kept = c.requires; applied = step-short (view_of c.args.parts.now) (omega arith) c.args.w (omega arith) }

pub returns-in-Off : goal.returns-in-Off
returns-in-Off c =
    let p = c.args.parts.now in
    let room : 3 ≤ p.journal.most - length p.journal.past = omega arith in
    record {
      kept = c.requires;
      applied = step-applied (view_of p) (view_of p) applied.Off room power.Off (c.requires.tabled.powered ∙ c.in-Off.is) c.args.w (omega arith) (refl, refl);
    }

pub step_recovering-requires : goal.step_recovering-requires
step_recovering-requires c =
    let p = c.args.parts.now in
    let room : 3 ≤ p.journal.most - length p.journal.past = omega arith in
    record { started = started-in p c.requires c.in-Recovering.is; power = c.in-Recovering.is; room = omega (arith, room) }

pub returns-in-Recovering : goal.returns-in-Recovering
returns-in-Recovering c =
    let p = c.args.parts.now in
    let room : 3 ≤ p.journal.most - length p.journal.past = omega arith in
    record {
      kept = c.step_recovering.ensures.kept;
      applied = step-applied (view_of p) (view_of c.step_recovering.new.parts) c.step_recovering.result room power.Recovering (c.requires.tabled.powered ∙ c.in-Recovering.is) c.args.w (omega arith) c.step_recovering.ensures.applied;
    }

pub step_powered-requires : goal.step_powered-requires
step_powered-requires c =
    let p = c.args.parts.now in
    let room : 3 ≤ p.journal.most - length p.journal.past = omega arith in
    record { kept = awake-in p c.requires c.in-On.is; within = omega arith; room = omega (arith, room) }

pub returns-in-On : goal.returns-in-On
returns-in-On c =
    let p = c.args.parts.now in
    let room : 3 ≤ p.journal.most - length p.journal.past = omega arith in
    record {
      kept = kept-awake c.step_powered.new.parts c.step_powered.ensures.kept;
      applied = step-applied (view_of p) (view_of c.step_powered.new.parts) c.step_powered.result room power.On (c.requires.tabled.powered ∙ c.in-On.is) c.args.w (omega arith) c.step_powered.ensures.applied;
    }
