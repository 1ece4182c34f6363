use Rattle.std.proofs.Common.{ℕ, subst, arith, Option, Some, None}
use Rattle.bz_queue.specs.Inside.Acted.{IsEvicted}
use Rattle.bz_queue.proofs.Evicted.{kept-evicted}
use Rattle.bz_queue.proofs.Striking.{eviction-strikes}
use Rattle.bz_queue.proofs.Views.{quiet-evicts, struck-evicts}
use Rattle.bz_queue.proofs.act.evict_word.Goals as goal

pub mark_effect-requires-clause-striking : goal.mark_effect-requires-clause-striking
mark_effect-requires-clause-striking c =
    eviction-strikes c.args.parts.now c.make_eviction.new.parts c.args.a c.in-Some.swap c.requires.kept
    (subst (λ (o : Option ℕ). IsEvicted c.args.parts.now c.args.a o c.make_eviction.new.parts) c.in-Some.is c.make_eviction.ensures)

pub returns-in-Some-clause-evicts : goal.returns-in-Some-clause-evicts
returns-in-Some-clause-evicts c =
    let e : IsEvicted c.args.parts.now c.args.a (Some c.in-Some.swap) c.make_eviction.new.parts = subst (λ (o : Option ℕ). IsEvicted c.args.parts.now c.args.a o c.make_eviction.new.parts) c.in-Some.is c.make_eviction.ensures in
    struck-evicts c.args.parts.now c.make_eviction.new.parts c.mark_effect.new.parts c.args.a c.in-Some.swap c.requires.kept e c.mark_effect.ensures.marked c.mark_effect.ensures.struck c.mark_effect.ensures.rest

pub returns-in_default : goal.returns-in_default
returns-in_default c =
    let p = c.args.parts.now in
    let q = c.make_eviction.new.parts in
    let e : IsEvicted p c.args.a None q = subst (λ (o : Option ℕ). IsEvicted p c.args.a o q) c.in_default.is c.make_eviction.ensures in
    record { kept = kept-evicted p q c.args.a c.requires.kept (omega (arith, c.requires.room)) e; evicts = quiet-evicts p q c.args.a c.requires.kept (omega (arith, c.requires.room)) e }
