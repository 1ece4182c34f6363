use Rattle.std.proofs.Common.{arith}
use Rattle.bz_descend.proofs.Lists.{set-here, set-other}
use Rattle.bz_descend.proofs.links.with_link.Goals as goal

pub returns-clause-link : goal.returns-clause-link
returns-clause-link c = set-here c.args.path.now.links c.args.path.now.depth c.args.link (omega (arith, c.is_whole.ensures, c.requires))

pub returns-clause-others : goal.returns-clause-others
returns-clause-others c i l = set-other c.args.path.now.links c.args.path.now.depth i c.args.link (λ e. omega (arith, e, l))
