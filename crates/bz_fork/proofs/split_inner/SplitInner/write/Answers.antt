use Rattle.std.proofs.Common.{◌<◌, arith, refl, sym, subst}
use Rattle.bz_task.specs.Requests.{Tells}
use Rattle.bz_writer.specs.Facts.{write_asks, write_facts}
use Rattle.bz_writer.specs.Phases.{write_needs}
use Rattle.bz_layout.specs.declared.thresholds.TheConstants.{SPLIT_SLOTS}
use Rattle.bz_writer.proofs.Learning.{learns-first}
use Rattle.bz_writer.proofs.Stepping.{steps-after, steps-look}
use Rattle.bz_fork.specs.Duties.{fork_of}
use Rattle.bz_fork.specs.Facts.{fork_plan}
use Rattle.bz_fork.specs.declared.split_inner.SplitInner.{SplitInner}
use Rattle.bz_fork.proofs.Acting.{at-guard, looks-well, planned-place, sound}
use Rattle.bz_fork.proofs.split_inner.SplitInner.write.Goals as goal

pub make-made-requires : goal.make-made-requires
make-made-requires c =
    let t = c.args.self.now in
    let k = c.requires.known in
    planned-place t.config (fork_of t) k.scene k.config (at-guard (fork_of t) k.stage k.scene (subst (λ z. write_facts (fork_plan (fork_of t)) z k.stage k.scene) c.in-Guard.is k.holds))

pub returns-in-Fresh-clause-learns : goal.returns-in-Fresh-clause-learns
returns-in-Fresh-clause-learns c stage s now same good unreached facts tells =
    let t = c.args.self.now in
    learns-first t.config (fork_plan (fork_of t)) c.args.seen c.args.slots.now stage s (subst (λ z. write_facts (fork_plan (fork_of t)) z stage s) c.in-Fresh.is facts) (subst (λ z. Tells (write_asks t.config (fork_plan (fork_of t)) z) stage c.args.seen s) c.in-Fresh.is tells)

pub returns-in-Guard : goal.returns-in-Guard
returns-in-Guard c =
    let t = c.args.self.now in
    let u : SplitInner = record t { parent = c.make-made.result.parent; left = c.make-made.result.left; right = c.make-made.result.right; slots = c.look-begun.result.slots } in
    let nodes = c.requires.memory (subst (λ z. 0 < write_needs SPLIT_SLOTS z) (sym c.in-Guard.is) (omega arith)) in
    let k = steps-look t.config (fork_plan (fork_of t)) (fork_plan (fork_of u)) (sound (fork_of t)) (record { count = refl; basis = refl; done = λ p d. d; none = λ p d. d }) c.args.phase c.look-begun.result.phase c.args.seen c.args.moment c.args.slots.now c.look-begun.new.slots
    (looks-well (fork_of t) (fork_of u) (λ p v. v) (λ s a. a) t.config c.make-made.ensures c.args.slots.now c.look-begun.new.slots nodes) c.in-Guard.is c.requires c.look-begun.ensures in
    record { config = refl; upper = refl; middle = refl; begun = k.begun; ready = k.ready; goes = k.goes; learns = k.learns }

pub returns-in_default : goal.returns-in_default
returns-in_default c =
    let t = c.args.self.now in
    let k = steps-after t.config (fork_plan (fork_of t)) (sound (fork_of t)) c.args.phase c.after.result c.args.seen c.args.moment c.args.slots.now c.in_default.not-Fresh c.in_default.not-Guard c.requires c.after.ensures in
    record { config = refl; upper = refl; middle = refl; begun = k.begun; ready = k.ready; goes = k.goes; learns = k.learns }
