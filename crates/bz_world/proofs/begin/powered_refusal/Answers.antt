use Rattle.std.proofs.Common.{arith, sym, ◌∙◌}
use Rattle.bz_world.proofs.PoweredRefusals.{busy-refused, calls-refused, pages-refused, may-begin}
use Rattle.bz_world.proofs.begin.powered_refusal.Goals as goal

pub returns-then-is_some : goal.returns-then-is_some
returns-then-is_some c = busy-refused c.args.parts.now c.requires.kept c.args.w c.requires.within c.args.call.now c.index.result.now c.index.ensures (sym c.is_some.ensures ∙ c.if-is_some.true)

pub returns-then-parts : goal.returns-then-parts
returns-then-parts c = calls-refused c.args.parts.now c.requires.kept c.args.w c.requires.within c.args.call.now c.index.result.now c.index.ensures (sym c.is_some.ensures ∙ c.if-is_some.false) (omega arith)

pub returns-then-parts-pages_asked : goal.returns-then-parts-pages_asked
returns-then-parts-pages_asked c = pages-refused c.args.parts.now c.requires.kept c.args.w c.requires.within c.args.call.now c.index.result.now c.index.ensures (sym c.is_some.ensures ∙ c.if-is_some.false) (omega arith) (omega arith)

pub returns : goal.returns
returns c = may-begin c.args.parts.now c.requires.kept c.args.w c.requires.within c.args.call.now c.index.result.now c.index.ensures (sym c.is_some.ensures ∙ c.if-is_some.false) (omega arith) (omega arith)
