use Rattle.std.proofs.Common.{◌+◌, refl, subst, slice_index}
use Rattle.bz_layout.specs.Config.{IsConfig}
use Rattle.bz_task.specs.Requests.{Tells}
use Rattle.bz_writer.specs.Facts.{write_asks, write_facts}
use Rattle.bz_writer.proofs.Learning.{learns-first}
use Rattle.bz_writer.proofs.Stepping.{steps-after, steps-look}
use Rattle.bz_inner.specs.JoinDuties.{joining_of, two}
use Rattle.bz_inner.specs.JoinFacts.{joining_plan}
use Rattle.bz_inner.specs.declared.merge_inner.MergeInner.{MergeInner}
use Rattle.bz_inner.proofs.JoinLooking.{look-may, looks-well, needs-slots, slot-within}
use Rattle.bz_inner.proofs.JoinPlans.{sound}
use Rattle.bz_inner.proofs.merge_inner.MergeInner.write.Goals as goal

pub made_after-made-requires-clause-may : goal.made_after-made-requires-clause-may
made_after-made-requires-clause-may c = let t = c.args.self.now in look-may t.config (joining_of t) c.args.phase c.args.seen c.args.moment c.in-Guard.is c.requires.known

pub made_after-made-requires-clause-slots : goal.made_after-made-requires-clause-slots
made_after-made-requires-clause-slots c =
    let t = c.args.self.now in
    slot-within (t.upper.slot + 1) (slice_index c.look-begun.result.slots) c.args.seen c.look-begun.result.phase c.args.slots.now c.look-begun.new.slots t.config.nodes (c.requires.memory (needs-slots c.args.phase c.in-Guard.is)) c.look-begun.ensures

pub returns-in-Fresh-clause-learns : goal.returns-in-Fresh-clause-learns
returns-in-Fresh-clause-learns c stage s now same good unreached facts tells =
    let t = c.args.self.now in
    learns-first t.config (joining_plan (joining_of t)) c.args.seen c.args.slots.now stage s (subst (λ z. write_facts (joining_plan (joining_of t)) z stage s) c.in-Fresh.is facts) (subst (λ z. Tells (write_asks t.config (joining_plan (joining_of t)) z) stage c.args.seen s) c.in-Fresh.is tells)

pub returns-in-Guard : goal.returns-in-Guard
returns-in-Guard c =
    let t = c.args.self.now in
    let u : MergeInner = record t { root = c.made_after-made.result.root; joined = c.made_after-made.result.joined; slots = c.look-begun.result.slots } in
    let k = steps-look t.config (joining_plan (joining_of t)) (joining_plan (joining_of u)) (sound (joining_of t)) (record { count = refl; basis = refl; done = λ p d. d; none = λ p d. d }) c.args.phase c.look-begun.result.phase c.args.seen c.args.moment c.args.slots.now c.look-begun.new.slots
    (looks-well (joining_of t) (slice_index c.look-begun.result.slots) (two c.made_after-made.result.root.0 c.made_after-made.result.joined.0) (t.upper.slot + 1) c.args.seen c.look-begun.result.phase c.args.slots.now c.look-begun.new.slots c.look-begun.ensures c.made_after-made.ensures) c.in-Guard.is c.requires c.look-begun.ensures in
    record { config = refl; upper = refl; middle = refl; lower = refl; known = subst IsConfig c.requires.known.config c.requires.known.good.config; begun = k.begun; ready = k.ready; goes = k.goes; learns = k.learns }

pub returns-in_default : goal.returns-in_default
returns-in_default c =
    let t = c.args.self.now in
    let k = steps-after t.config (joining_plan (joining_of t)) (sound (joining_of t)) c.args.phase c.after.result c.args.seen c.args.moment c.args.slots.now c.in_default.not-Fresh c.in_default.not-Guard c.requires c.after.ensures in
    record { config = refl; upper = refl; middle = refl; lower = refl; known = subst IsConfig c.requires.known.config c.requires.known.good.config; begun = k.begun; ready = k.ready; goes = k.goes; learns = k.learns }
