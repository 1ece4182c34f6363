use Rattle.std.proofs.Common.{◌≡◌, ◌≢◌, ℕ, sym, ap, subst, ◌∙◌, Some}
use Rattle.bz_swap.specs.Starts.{started}
use Rattle.bz_task.specs.declared.todo.Todo.TheVariants.{Load, Store, Flush}
use Rattle.bz_swap.specs.SwapMemory.{SwapMemory, Loading, Storing, Flushing}
use Rattle.bz_refinement.proofs.Proved.{acts_may_start, turns_make_no_mark}
use Rattle.bz_world.specs.Inside.Kept.{IsStarted}
use Rattle.bz_world.proofs.Recovering.{started-recovering}
use Rattle.bz_world.proofs.recovery.start_act.Goals as goal

stores-no-load : (a v : ℕ) → Store a v ≢ Load 0
stores-no-load a v e = cc e

flushes-no-load : (line : ℕ) → Flush line ≢ Load 0
flushes-no-load line e = cc e

loads-first : (a : ℕ) → Load a ≡ Load 0 → a ≡ 0
loads-first a e = cc e

pub start_load-requires : goal.start_load-requires
start_load-requires c =
    let p = c.args.parts.now in
    (acts_may_start.load p.config c.requires.asked.dark.values p.access p.recovery c.in-Load.a c.requires.asked.memory.recovering (c.requires.asks ∙ ap Some c.in-Load.is)).0

pub returns-in-Load-clause-started : goal.returns-in-Load-clause-started
returns-in-Load-clause-started c =
    let p = c.args.parts.now in
    let starts = acts_may_start.load p.config c.requires.asked.dark.values p.access p.recovery c.in-Load.a c.requires.asked.memory.recovering (c.requires.asks ∙ ap Some c.in-Load.is) in
    subst (λ (m : SwapMemory). IsStarted (record p { access = m })) (sym c.start_load.ensures.started) (started-recovering turns_make_no_mark p c.requires.asked (Loading c.in-Load.a) starts.1)

pub returns-in-Store-clause-started : goal.returns-in-Store-clause-started
returns-in-Store-clause-started c =
    let p = c.args.parts.now in
    let starts = acts_may_start.store p.config c.requires.asked.dark.values p.access p.recovery c.in-Store.a c.in-Store.v c.requires.asked.memory.recovering (c.requires.asks ∙ ap Some c.in-Store.is) in
    subst (λ (m : SwapMemory). IsStarted (record p { access = m })) (sym c.start_store.ensures.started) (started-recovering turns_make_no_mark p c.requires.asked (Storing c.in-Store.a c.in-Store.v) starts.1)

pub returns-in-Flush-clause-started : goal.returns-in-Flush-clause-started
returns-in-Flush-clause-started c =
    let p = c.args.parts.now in
    let starts = acts_may_start.flush p.config c.requires.asked.dark.values p.access p.recovery c.in-Flush.line c.requires.asked.memory.recovering (c.requires.asks ∙ ap Some c.in-Flush.is) in
    subst (λ (m : SwapMemory). IsStarted (record p { access = m })) (sym c.start_flush.ensures.started) (started-recovering turns_make_no_mark p c.requires.asked (Flushing c.in-Flush.line) starts.1)

pub returns-in-Load-clause-first : goal.returns-in-Load-clause-first
returns-in-Load-clause-first c e =
    c.start_load.ensures.started ∙ ap (λ a. started c.args.parts.now.access 0 (Loading a)) (loads-first c.in-Load.a (sym c.in-Load.is ∙ e))

pub returns-in-Store-clause-first : goal.returns-in-Store-clause-first
returns-in-Store-clause-first c e = absurd (stores-no-load c.in-Store.a c.in-Store.v (sym c.in-Store.is ∙ e))

pub returns-in-Flush-clause-first : goal.returns-in-Flush-clause-first
returns-in-Flush-clause-first c e = absurd (flushes-no-load c.in-Flush.line (sym c.in-Flush.is ∙ e))
