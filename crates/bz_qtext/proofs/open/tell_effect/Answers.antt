use Rattle.std.proofs.Common.{rules}
use Rattle.bz_qtext.proofs.OpenLemmas.{tell_begin, tell_effect, tell_other, neither_from}
use Rattle.bz_qtext.proofs.open.tell_effect.Goals as goal

pub returns-in-Begin : goal.returns-in-Begin
returns-in-Begin c = tell_begin c.args.queue.now.log.past c.args.moment c.args.effects.now c.requires.within c.requires.before c.in-Begin.w c.in-Begin.n c.in-Begin.call (search rules) (rw c.in-Begin.is at c.requires.seen)

pub returns-in-Effect : goal.returns-in-Effect
returns-in-Effect c = tell_effect c.args.queue.now.log.past c.args.moment c.args.effects.now c.requires.within c.requires.before c.in-Effect.w c.in-Effect.n (search rules) (rw c.in-Effect.is at c.requires.seen)

pub returns-in_default : goal.returns-in_default
returns-in_default c =
    tell_other c.args.queue.now.log.past c.args.moment c.args.effects.now c.args.mark.now c.requires.within c.requires.before c.requires.seen (neither_from c.args.mark.now c.in_default.not-Begin c.in_default.not-Effect)
