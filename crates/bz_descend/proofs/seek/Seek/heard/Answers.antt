use Rattle.bz_descend.proofs.SeekHearing.{seek-heard}
use Rattle.bz_descend.proofs.seek.Seek.heard.Goals as goal

pub returns-clause-heard : goal.returns-clause-heard
returns-clause-heard c =
    let t = c.args.self.now in
    let k = c.requires.known in
    seek-heard t.key t.path t.height t.words k.scene k.good t.config k.stage t.phase c.args.seen k.config k.holds.0 k.tells

pub returns-clause-counted : goal.returns-clause-counted
returns-clause-counted c = c.requires.known.holds.1
