use Rattle.std.proofs.Common.{◌<◌, ◌≤◌, arith}
use Rattle.bz_content.specs.Content.{view_in}
use Rattle.bz_recover.proofs.Onward.{goes-up, goes-out}
use Rattle.bz_recover.proofs.walk.Walk.+onward.Goals as goal

pub returns-then-level-self-clause-goes : goal.returns-then-level-self-clause-goes
returns-then-level-self-clause-goes n c image free g = goes-out (view_in c.args.self.now.config image) c.args.self.now.top c.args.self.now.ways free c.args.level c.args.way g (omega (arith, c.if-way.false)) c.if-level-self.true

pub returns-clause-goes : goal.returns-clause-goes
returns-clause-goes n c image free g =
    let none : c.args.way.count ≤ c.args.way.next = omega (arith, c.if-way.false) in
    let below : c.args.level < c.args.self.now.top = omega (arith, c.if-level-self.false, c.requires.level.below) in
    c.onward.ensures.goes image free (goes-up (view_in c.args.self.now.config image) c.args.self.now.top c.args.self.now.ways free c.args.level c.args.way g none below)
