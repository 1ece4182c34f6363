use Rattle.std.proofs.Common.{◌≡◌, ◌≢◌, ℕ, sym, ap, subst, ◌∙◌, Some}
use Rattle.bz_swap.specs.Starts.{started}
use Rattle.bz_swap.specs.SwapMemory.{SwapMemory, Loading, Storing, Flushing}
use Rattle.bz_swap_recovery.proofs.Proved.{acts_may_start}
use Rattle.bz_sweep.specs.declared.ask.Ask.TheVariants.{Load, Store, Flush}
use Rattle.bz_queue.specs.Inside.Kept.{IsStarted, area_of}
use Rattle.bz_queue.proofs.Recovering.{started-on}
use Rattle.bz_queue.proofs.recovery.start_act.Goals as goal

stores-no-load : (a v : ℕ) → Store a v ≢ Load 0
stores-no-load a v e = cc e

flushes-no-load : (line : ℕ) → Flush line ≢ Load 0
flushes-no-load line e = cc e

loads-first : (a : ℕ) → Load a ≡ Load 0 → a ≡ 0
loads-first a e = cc e

pub start_load-requires : goal.start_load-requires
start_load-requires c =
    let p = c.args.parts.now in
    (acts_may_start.load (area_of p.numbers.ring) c.requires.asked.dark.values p.access p.sweep c.in-Load.a c.requires.asked.memory (c.requires.asks ∙ ap Some c.in-Load.is)).0

pub start_store-requires : goal.start_store-requires
start_store-requires c =
    let p = c.args.parts.now in
    (acts_may_start.store (area_of p.numbers.ring) c.requires.asked.dark.values p.access p.sweep c.in-Store.a c.in-Store.v c.requires.asked.memory (c.requires.asks ∙ ap Some c.in-Store.is)).0

pub start_flush-requires : goal.start_flush-requires
start_flush-requires c =
    let p = c.args.parts.now in
    (acts_may_start.flush (area_of p.numbers.ring) c.requires.asked.dark.values p.access p.sweep c.in-Flush.line c.requires.asked.memory (c.requires.asks ∙ ap Some c.in-Flush.is)).0

pub returns-in-Load-clause-started : goal.returns-in-Load-clause-started
returns-in-Load-clause-started c =
    let p = c.args.parts.now in
    let starts = acts_may_start.load (area_of p.numbers.ring) c.requires.asked.dark.values p.access p.sweep c.in-Load.a c.requires.asked.memory (c.requires.asks ∙ ap Some c.in-Load.is) in
    subst (λ (m : SwapMemory). IsStarted (record p { access = m })) (sym c.start_load.ensures.started) (started-on p c.requires.asked (Loading c.in-Load.a) starts.1)

pub returns-in-Store-clause-started : goal.returns-in-Store-clause-started
returns-in-Store-clause-started c =
    let p = c.args.parts.now in
    let starts = acts_may_start.store (area_of p.numbers.ring) c.requires.asked.dark.values p.access p.sweep c.in-Store.a c.in-Store.v c.requires.asked.memory (c.requires.asks ∙ ap Some c.in-Store.is) in
    subst (λ (m : SwapMemory). IsStarted (record p { access = m })) (sym c.start_store.ensures.started) (started-on p c.requires.asked (Storing c.in-Store.a c.in-Store.v) starts.1)

pub returns-in-Flush-clause-started : goal.returns-in-Flush-clause-started
returns-in-Flush-clause-started c =
    let p = c.args.parts.now in
    let starts = acts_may_start.flush (area_of p.numbers.ring) c.requires.asked.dark.values p.access p.sweep c.in-Flush.line c.requires.asked.memory (c.requires.asks ∙ ap Some c.in-Flush.is) in
    subst (λ (m : SwapMemory). IsStarted (record p { access = m })) (sym c.start_flush.ensures.started) (started-on p c.requires.asked (Flushing c.in-Flush.line) starts.1)

pub returns-in-Load-clause-first : goal.returns-in-Load-clause-first
returns-in-Load-clause-first c e =
    c.start_load.ensures.started ∙ ap (λ a. started c.args.parts.now.access 0 (Loading a)) (loads-first c.in-Load.a (sym c.in-Load.is ∙ e))

pub returns-in-Store-clause-first : goal.returns-in-Store-clause-first
returns-in-Store-clause-first c e = absurd (stores-no-load c.in-Store.a c.in-Store.v (sym c.in-Store.is ∙ e))

pub returns-in-Flush-clause-first : goal.returns-in-Flush-clause-first
returns-in-Flush-clause-first c e = absurd (flushes-no-load c.in-Flush.line (sym c.in-Flush.is ∙ e))
