use Rattle.std.proofs.Common.{arith, refl, inl, Some, None}
use Rattle.bz_sight.proofs.Proved.{evictions_are_seen}
use Rattle.bz_swap.proofs.Proved.{effects_stay_inside}
use Rattle.bz_world.proofs.Evicting.{evict-strikes, evict-kept, evict-room, evict-seen}
use Rattle.bz_world.proofs.step.evict_word.Goals as goal

pub mark_effect-requires-clause-striking : goal.mark_effect-requires-clause-striking
mark_effect-requires-clause-striking c = evict-strikes evictions_are_seen effects_stay_inside c.step_laws.ensures.begun c.step_laws.ensures.solo.wins c.args.parts.now c.make_eviction.new.parts c.args.a c.in-Some.swap c.requires.kept c.in-Some.ensures (omega (arith, c.requires.room))

pub mark_effect-requires-clause-room : goal.mark_effect-requires-clause-room
mark_effect-requires-clause-room c = evict-room c.args.parts.now c.make_eviction.new.parts c.args.a (Some c.in-Some.swap) c.in-Some.ensures c.requires.room

pub returns-in-Some : goal.returns-in-Some
returns-in-Some c = record {
  kept = c.mark_effect.ensures.kept;
  evicts = evict-seen c.args.parts.now c.make_eviction.new.parts c.mark_effect.new.parts c.args.a (Some c.in-Some.swap) c.in-Some.ensures c.mark_effect.ensures.struck c.mark_effect.ensures.rest;
}

pub returns-in_default : goal.returns-in_default
returns-in_default c = record {
  kept = evict-kept c.step_laws.ensures evictions_are_seen c.args.parts.now c.make_eviction.new.parts c.args.a c.requires.kept c.in_default.ensures (omega (arith, c.requires.room));
  evicts = evict-seen c.args.parts.now c.make_eviction.new.parts c.make_eviction.new.parts c.args.a None c.in_default.ensures (inl refl) refl;
}
