use Rattle.bz_below.specs.Duties.{below_of}
use Rattle.bz_below.proofs.Writing.{store-ready, store-learns, flush-ready, flush-learns}
use Rattle.bz_below.proofs.split_below.SplitBelow.after.Goals as goal

pub returns-in-Store-Stored-clause-ready : goal.returns-in-Store-Stored-clause-ready
returns-in-Store-Stored-clause-ready c =
    let t = c.args.self.now in
    let k = c.requires.known in
    store-ready t.config (below_of t) t.phase c.after_store.result c.in-Store-Stored.j c.args.seen k.stage k.scene k.config k.holds k.tells c.in-Store-Stored.is-0 c.in-Store-Stored.is-1 c.after_store.ensures

pub returns-in-Store-Stored-clause-learns : goal.returns-in-Store-Stored-clause-learns
returns-in-Store-Stored-clause-learns c stage s same f told =
    let t = c.args.self.now in store-learns t.config (below_of t) t.phase c.after_store.result c.in-Store-Stored.j c.args.seen stage s same f told c.in-Store-Stored.is-0 c.in-Store-Stored.is-1 c.after_store.ensures

pub returns-in-Flush-Flushed-clause-ready : goal.returns-in-Flush-Flushed-clause-ready
returns-in-Flush-Flushed-clause-ready c =
    let t = c.args.self.now in
    let k = c.requires.known in
    flush-ready t.config (below_of t) t.phase c.after_flush.result c.in-Flush-Flushed.j c.args.seen k.stage k.scene k.config k.holds k.tells c.in-Flush-Flushed.is-0 c.in-Flush-Flushed.is-1 c.after_flush.ensures

pub returns-in-Flush-Flushed-clause-learns : goal.returns-in-Flush-Flushed-clause-learns
returns-in-Flush-Flushed-clause-learns c stage s same f told =
    let t = c.args.self.now in flush-learns t.config (below_of t) t.phase c.after_flush.result c.in-Flush-Flushed.j c.args.seen stage s same f told c.in-Flush-Flushed.is-0 c.in-Flush-Flushed.is-1 c.after_flush.ensures
