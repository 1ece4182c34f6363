use Rattle.std.proofs.Common.{arith, ap, refl, subst, sym}
use Rattle.bz_call.specs.declared.replies.Spent.TheVariants.{Nodes, Height}
use Rattle.bz_task.specs.declared.todo.Outcome.TheVariants.{Full}
use Rattle.bz_sound.proofs.Proved.{held_slots_are_spent}
use Rattle.bz_world.specs.Inside.Going.{HasEnded, IsShort, IsOutOfSlots, known}
use Rattle.bz_world.proofs.HighTrees.{too-high}
use Rattle.bz_world.proofs.Exactly.{never-full, never-high}
use Rattle.bz_world.proofs.SolitaryEnds.{other-ended, other-in}
use Rattle.bz_world.proofs.Spared.{end-room, full-writes}
use Rattle.bz_world.proofs.SpendingSlots.{slots-are-spent, slots-run-out}
use Rattle.bz_world.proofs.TakingOn.{known-scene}
use Rattle.bz_world.proofs.Wanting.{needed-slots}
use Rattle.bz_world.proofs.settle.settle_full.Goals as goal

pub end_full-requires-clause-short : goal.end_full-requires-clause-short
end_full-requires-clause-short c =
    let e : HasEnded c.args.parts.now c.args.w (Full Nodes) = subst (λ z. HasEnded c.args.parts.now c.args.w (Full z)) c.in-Nodes.is c.requires.ends in
    let needed = needed-slots c.merges_lack_slots_rightly.ensures c.start_laws.ensures.scenes c.args.parts.now c.args.w e (omega (arith, (e.full refl).0)) in
    let lacks : IsOutOfSlots c.args.parts.now c.args.w = record { on = e.on; quiet = e.quiet; fewer = (e.full refl).0; needed = needed; little = (e.full refl).1 } in
    let short : IsShort c.args.parts.now c.args.w Nodes = record { on = e.on; quiet = e.quiet; write = full-writes c.args.parts.now c.args.w Nodes e; room = end-room c.start_laws.ensures.solo.rounds c.args.parts.now c.args.w e.on.serving (known c.args.parts.now c.args.w e.on).past e.paid; cause = slots-are-spent held_slots_are_spent c.args.parts.now c.args.w lacks; out = record { out = slots-run-out c.args.parts.now c.args.w lacks; little = lacks.little }; told = λ solitary room. never-full c.args.parts.now c.args.w e.on e.tasked.laws (e.full refl).0 solitary room } in
    subst (IsShort c.args.parts.now c.args.w) (sym c.in-Nodes.is) short

pub end_full-requires-in-Height-clause-short : goal.end_full-requires-in-Height-clause-short
end_full-requires-in-Height-clause-short c =
    let e : HasEnded c.args.parts.now c.args.w (Full Height) = subst (λ z. HasEnded c.args.parts.now c.args.w (Full z)) c.in-Height.is c.requires.ends in
    let short : IsShort c.args.parts.now c.args.w Height = record { on = e.on; quiet = e.quiet; write = full-writes c.args.parts.now c.args.w Height e; room = end-room c.start_laws.ensures.solo.rounds c.args.parts.now c.args.w e.on.serving (known c.args.parts.now c.args.w e.on).past e.paid; cause = too-high c.start_laws.ensures.scenes c.args.parts.now c.args.w e; out = record { out = tt; little = λ whole. tt }; told = λ solitary room. never-high c.args.parts.now c.args.w e.on e.tasked.laws ((e.tasked.laws.height (known c.args.parts.now c.args.w e.on) (known-scene c.start_laws.ensures.scenes c.args.parts.now c.args.w e.on) e.facts e.end).0) solitary room } in
    subst (IsShort c.args.parts.now c.args.w) (sym c.in-Height.is) short

pub unreachable-requires : goal.unreachable-requires
unreachable-requires c = c.requires.ends.swaps (ap Full c.in-Swaps.is)

pub end_full-requires-clause-other : goal.end_full-requires-clause-other
end_full-requires-clause-other c = other-in c.args.parts.now c.args.w c.requires.ends.on (other-ended c.args.parts.now c.args.w c.requires.ends.on (Full c.args.spent) c.requires.ends.end (λ path e. cc e) (λ view e. cc e))

pub end_full-requires-in-Height-clause-other : goal.end_full-requires-in-Height-clause-other
end_full-requires-in-Height-clause-other c = other-in c.args.parts.now c.args.w c.requires.ends.on (other-ended c.args.parts.now c.args.w c.requires.ends.on (Full c.args.spent) c.requires.ends.end (λ path e. cc e) (λ view e. cc e))
