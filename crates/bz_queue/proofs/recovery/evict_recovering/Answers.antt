use Rattle.std.proofs.Common.{◌<◌, length, arith}
use Rattle.bz_queue.proofs.Recovered.{seen-evicted}
use Rattle.bz_queue.proofs.Recovering.{evict-kept}
use Rattle.bz_queue.proofs.recovery.evict_recovering.Goals as goal

pub make_eviction-requires : goal.make_eviction-requires
make_eviction-requires c = record { within = omega (arith, c.requires.within, c.requires.started.dark.tabled.size); room = omega (arith, c.requires.room) }

pub returns : goal.returns
returns c =
    let p = c.args.parts.now in
    let within : c.args.a < length p.access.cached = omega (arith, c.requires.within, c.requires.started.dark.tabled.size) in
    record {
      kept = evict-kept p c.make_eviction.new.parts c.args.a c.make_eviction.result c.requires.started c.requires.power within c.requires.room c.make_eviction.ensures;
      evicts = seen-evicted p c.make_eviction.new.parts c.args.a c.make_eviction.result c.requires.started c.requires.power c.make_eviction.ensures;
    }
