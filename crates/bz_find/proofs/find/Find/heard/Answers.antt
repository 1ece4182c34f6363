use Rattle.bz_find.proofs.Slots.{slot-of}
use Rattle.bz_find.proofs.find.Find.heard.Goals as goal

pub returns-clause-slot : goal.returns-clause-slot
returns-clause-slot c = let t = c.args.self.now in let k = c.requires.known in slot-of t t.phase c.args.seen k.stage k.scene k.config k.holds.0 c.requires.hears
