use Rattle.std.proofs.Common.{◌<◌, length, arith}
use Rattle.bz_sound.proofs.Proved.{fences_follow, quiet_acts_follow, same_content_decodes}
use Rattle.bz_refinement.proofs.Proved.{evictions_are_marked}
use Rattle.bz_world.proofs.Recovering.{evict-started}
use Rattle.bz_world.proofs.recovery.evict_recovering.Goals as goal

pub returns-clause-kept : goal.returns-clause-kept
returns-clause-kept c =
    let within : c.args.a < length c.args.parts.now.access.cached = omega (arith, c.requires.within, c.requires.started.memory.recovering.memory.cached) in
    evict-started (record { quiet = quiet_acts_follow; flush = fences_follow; same = same_content_decodes }) evictions_are_marked
    c.args.parts.now c.make_eviction.new.parts c.args.a c.make_eviction.result c.requires.started c.requires.power within c.requires.room c.make_eviction.ensures
