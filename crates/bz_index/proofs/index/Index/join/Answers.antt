use Rattle.bz_index.proofs.Placed.{joined}
use Rattle.bz_index.proofs.index.Index.join.Goals as goal

pub join-requires-clause-pass : goal.join-requires-clause-pass
join-requires-clause-pass c = (c.requires.pass.0.placed.pass, c.requires.pass.1)

pub join-requires-clause-from : goal.join-requires-clause-from
join-requires-clause-from c = c.requires.from.0.placed.pass

pub returns-clause-pass : goal.returns-clause-pass
returns-clause-pass c =
    let e = c.join.ensures in
    (joined _ c.args.into.now c.args.from (record { pass = c.join.new.into }) c.requires.pass.0 c.requires.pass.1 c.requires.from.0 c.requires.from.1 e.pass.0 e.pass.1 e.seen e.free, e.pass.1)
