use Rattle.std.proofs.Common.{List, ◌++◌, None, sym, subst, ap, ◌∙◌, arith, rules, append-nil, replicate}
use Rattle.bz_mark.specs.declared.marks.Mark.TheVariants.{Cut}
use Rattle.bz_qtext.proofs.ReadLemmas.{IsOther, no_cut_is_other, read_begin, read_end, read_cut, read_other, none_open, some_open, since_is, other_from}
use Rattle.bz_qtext.specs.declared.ended.QEnded.{QEnded}
use Rattle.bz_qtext.proofs.ended.read_mark.Goals as goal

pub add_ended-requires : goal.add_ended-requires
add_ended-requires c =
    let s = some_open c.args.queue.now.log.past c.args.moment c.args.begins.now c.args.ended.now.items c.in-End.w c.in-Some.begun (search rules) (omega (arith, c.requires.within)) c.requires.before c.in-Some.is in
    s.before

pub returns-in-Begin : goal.returns-in-Begin
returns-in-Begin c = read_begin c.args.queue.now.log.past c.args.moment c.args.begins.now c.args.ended.now.items c.in-Begin.w c.in-Begin.n c.in-Begin.call c.requires.within (search rules) (rw c.in-Begin.is at c.requires.seen) c.requires.before

pub returns-in_ok-add_ended-in-End : goal.returns-in_ok-add_ended-in-End
returns-in_ok-add_ended-in-End c =
    let s = some_open c.args.queue.now.log.past c.args.moment c.args.begins.now c.args.ended.now.items c.in-End.w c.in-Some.begun (search rules) (omega (arith, c.requires.within)) c.requires.before c.in-Some.is in
    let e = since_is c.in-End.w c.in-End.at c.in-End.reply c.args.queue.now.log.past c.args.moment s.opened (omega (arith, c.requires.within)) s.is in
    read_end c.args.queue.now.log.past c.args.moment c.args.begins.now c.args.ended.now.items _ c.in-End.w c.in-End.n c.in-End.at c.in-End.reply c.requires.within (search rules) (rw c.in-End.is at c.requires.seen) c.requires.before
    (c.in_ok-add_ended-in-End.ensures ∙ ap (λ (more : List QEnded). c.args.ended.now.items ++ more) (rw s.same at e))

pub returns-in_default-begun : goal.returns-in_default-begun
returns-in_default-begun c =
    let none = none_open c.args.queue.now.log.past c.args.moment c.args.begins.now c.args.ended.now.items c.in-End.w (search rules) c.requires.before c.in_default-begun.is in
    read_end c.args.queue.now.log.past c.args.moment c.args.begins.now c.args.ended.now.items _ c.in-End.w c.in-End.n c.in-End.at c.in-End.reply c.requires.within (search rules) (rw c.in-End.is at c.requires.seen) c.requires.before
    (rw none (sym (append-nil c.args.ended.now.items)))

pub returns-in-Cut : goal.returns-in-Cut
returns-in-Cut c =
    read_cut c.args.queue.now.log.past c.args.moment c.args.begins.now _ c.args.ended.now.items c.clear.new.self.items c.requires.within (rw (c.in-Memory.is, c.in-Cut.is) at c.requires.seen) c.requires.before
    (c.fill.ensures.after (λ y h. search rules) ∙ ap (λ n. replicate n None) c.told-begins) c.clear.ensures.items

pub returns-in_default : goal.returns-in_default
returns-in_default c =
    read_other c.args.queue.now.log.past c.args.moment c.args.begins.now c.args.ended.now.items c.args.mark.now c.requires.within c.requires.seen
    (other_from c.args.mark.now (λ w n call. c.in_default.not-Begin w n call) (λ w n reply at. c.in_default.not-End w n reply at) (c.in_default.not-Memory Cut)) c.requires.before

pub returns-in_default-memory : goal.returns-in_default-memory
returns-in_default-memory c =
    read_other c.args.queue.now.log.past c.args.moment c.args.begins.now c.args.ended.now.items c.args.mark.now c.requires.within c.requires.seen
    (subst IsOther (sym c.in-Memory.is) (no_cut_is_other _ c.in_default-memory.not-Cut)) c.requires.before
