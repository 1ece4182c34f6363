use Rattle.std.proofs.Common.{rules, arith}
use Rattle.bz_mark.specs.Moments.{at_moment}
use Rattle.bz_sound.specs.Calls.{map_after}
use Rattle.bz_text.proofs.ReadLemmas.{some_open, none_open}
use Rattle.bz_text.proofs.SumLemmas.{no_effect_from, keys-stay, keys-alone, keys-follow, begin-found}
use Rattle.bz_text.proofs.summing.follow_effect.Goals as goal

pub take_effect-requires : goal.take_effect-requires
take_effect-requires c =
    let s = some_open c.args.journal.now.past c.args.moment c.args.begins.now _ c.in-Effect.w c.in-Some.begun (search rules) (omega (arith, c.requires.within)) c.requires.table c.in-Some.is in
    s.before

pub returns-in_ok-take_effect-in-Some : goal.returns-in_ok-take_effect-in-Some
returns-in_ok-take_effect-in-Some c start h =
    let past = c.args.journal.now.past in
    let moment = c.args.moment in
    let w = c.in-Effect.w in
    let s = some_open past moment c.args.begins.now _ w c.in-Some.begun (search rules) (omega (arith, c.requires.within)) c.requires.table c.in-Some.is in
    let found = begin-found past moment w s.opened (omega (arith, c.requires.within)) s.is in
    keys-follow start past moment w c.in-Effect.n s.opened c.take_effect.new.keys.keys c.requires.within (rw c.in-Effect.is at c.requires.seen) s.is
    (c.in_ok-take_effect-in-Some.ensures w s.opened.number s.opened.call (map_after start (at_moment moment past)) (rw s.same at found) h)

pub returns-in-None : goal.returns-in-None
returns-in-None c start =
    keys-alone start c.args.journal.now.past c.args.moment c.in-Effect.w c.in-Effect.n c.args.keys.now.keys c.requires.within (rw c.in-Effect.is at c.requires.seen)
    (none_open c.args.journal.now.past c.args.moment c.args.begins.now _ c.in-Effect.w (search rules) c.requires.table c.in-None.is)

pub returns-in_default : goal.returns-in_default
returns-in_default c start = keys-stay start c.args.journal.now.past c.args.moment c.args.mark.now c.args.keys.now.keys c.requires.within c.requires.seen (no_effect_from c.args.mark.now c.in_default.not-Effect)
