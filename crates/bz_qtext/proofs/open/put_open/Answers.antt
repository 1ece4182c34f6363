use Rattle.std.proofs.Common.{◌∙◌, ◌++◌, List, ℕ, sym, ap, rules, append-nil}
use Rattle.bz_qtext.proofs.ReadLemmas.{some_open, none_open}
use Rattle.bz_qtext.proofs.ReadLemmas.{begin-found}
use Rattle.bz_qtext.proofs.OpenLemmas.{line_some}
use Rattle.bz_qtext.proofs.open.put_open.Goals as goal

pub put_since-requires : goal.put_since-requires
put_since-requires c = (some_open c.args.queue.now.log.past c.args.moment c.args.begins.now _ c.args.w c.in-Some.begun (search rules) c.requires.within c.requires.table c.in-Some.is).before

pub returns-in_ok-put_since-in-Some : goal.returns-in_ok-put_since-in-Some
returns-in_ok-put_since-in-Some c =
    let past = c.args.queue.now.log.past in
    let s = some_open past c.args.moment c.args.begins.now _ c.args.w c.in-Some.begun (search rules) c.requires.within c.requires.table c.in-Some.is in
    let found = rw s.same at (begin-found past c.args.moment c.args.w s.opened c.requires.within s.is) in
    c.in_ok-put_since-in-Some.ensures ∙ ap (λ (xs : List ℕ). c.args.out.now.items ++ xs) (line_some past c.args.moment c.args.w c.in-Some.begun c.args.effects.now _ (search rules) s c.requires.told found)

pub returns-in-None : goal.returns-in-None
returns-in-None c =
    let none = none_open c.args.queue.now.log.past c.args.moment c.args.begins.now _ c.args.w (search rules) c.requires.table c.in-None.is in
    rw none (sym (append-nil c.args.out.now.items))
