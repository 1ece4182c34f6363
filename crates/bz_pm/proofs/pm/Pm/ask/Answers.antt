use Rattle.std.proofs.Common.{arith, []}
use Rattle.std.proofs.lemmas.List.{get_or_read}
use Rattle.bz_pm.proofs.States.{state-asked}
use Rattle.bz_pm.proofs.pm.Pm.ask.Goals as goal

pub invariant_of-self : goal.invariant_of-self
invariant_of-self c =
    let worker = rw (← c.self.view_is) at c.requires.worker in
    let line = rw (← c.self.view_is) at c.requires.line in
    state-asked _ c.args.w c.args.line _ _ _ _ c.self.invariant worker line
    c.words_of-words.ensures.fit (omega arith) (get_or_read _ c.args.w _ worker c.index_mut.ensures.value [])
    (rw c.deref.ensures.value at c.words_of-words.ensures.words) c.put.ensures
