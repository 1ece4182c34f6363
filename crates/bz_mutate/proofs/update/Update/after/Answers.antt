use Rattle.std.proofs.Common.{◌≡◌, true, rules, refl, subst, sym}
use Rattle.bz_task.specs.Scene.{Waiting}
use Rattle.bz_task.specs.declared.todo.Seen.TheVariants.{Flushed, Swapped}
use Rattle.bz_mutate.specs.UpdateFacts.{update_facts}
use Rattle.bz_mutate.specs.declared.update_phase.UpdatePhase.TheVariants.{Fresh, Grow, Flush}
use Rattle.bz_mutate.proofs.UpdateBeginning.{visible-first, ready-first, told-first}
use Rattle.bz_mutate.proofs.UpdateKnowing.{in-phase, tells-in, ready-grown, told-grown, told-flushed}
use Rattle.bz_mutate.proofs.update.Update.after.Goals as goal

pub begun-requires-clause-visible : goal.begun-requires-clause-visible
begun-requires-clause-visible c = let t = c.args.self.now in let k = c.requires.known in visible-first t.view t.added k.stage k.scene (in-phase t.view t.added k.stage k.scene t.phase Fresh c.in-Fresh-default.is-0 k.holds)

pub returns-in-Fresh-default-clause-ready : goal.returns-in-Fresh-default-clause-ready
returns-in-Fresh-default-clause-ready c =
    let t = c.args.self.now in let k = c.requires.known in
    ready-first t.config t.view t.added k.stage k.scene c.begun.result k.config k.good (in-phase t.view t.added k.stage k.scene t.phase Fresh c.in-Fresh-default.is-0 k.holds) c.begun.ensures.either c.begun.ensures.found c.begun.ensures.room

pub returns-in-Fresh-default-clause-learns : goal.returns-in-Fresh-default-clause-learns
returns-in-Fresh-default-clause-learns c stage s same good facts tells =
    let t = c.args.self.now in
    let told = tells-in t.config t.added stage s t.phase Fresh c.args.seen c.args.seen c.in-Fresh-default.is-0 refl tells in
    told-first t.view t.added stage c.args.seen s c.begun.result good (in-phase t.view t.added stage s t.phase Fresh c.in-Fresh-default.is-0 facts) told c.begun.ensures.either c.begun.ensures.found c.begun.ensures.room c.begun.ensures.none

pub returns-in-Grow-Swapped-true-clause-ready : goal.returns-in-Grow-Swapped-true-clause-ready
returns-in-Grow-Swapped-true-clause-ready c =
    let t = c.args.self.now in let i = c.in-Grow-Swapped-true in let k = c.requires.known in
    ready-grown t.config t.view t.added i.old k.stage k.scene k.config (in-phase t.view t.added k.stage k.scene t.phase (Grow i.old) i.is-0 k.holds)

pub returns-in-Grow-Swapped-true-clause-learns : goal.returns-in-Grow-Swapped-true-clause-learns
returns-in-Grow-Swapped-true-clause-learns c stage s same good facts tells =
    let t = c.args.self.now in let i = c.in-Grow-Swapped-true in
    let told : c.args.seen ≡ Swapped true = search rules in
    told-grown t.config t.view t.added i.old stage s (in-phase t.view t.added stage s t.phase (Grow i.old) i.is-0 facts) (tells-in t.config t.added stage s t.phase (Grow i.old) c.args.seen (Swapped true) i.is-0 told tells)

pub returns-in-Flush-Flushed-clause-learns : goal.returns-in-Flush-Flushed-clause-learns
returns-in-Flush-Flushed-clause-learns c stage s same good facts tells =
    let t = c.args.self.now in let i = c.in-Flush-Flushed in
    subst (λ z. update_facts t.view t.added z Waiting s) (sym c.after_flush.ensures.next)
    (told-flushed t.config t.view t.added i.old i.n stage s same (in-phase t.view t.added stage s t.phase (Flush i.old i.n) i.is-0 facts) (tells-in t.config t.added stage s t.phase (Flush i.old i.n) c.args.seen Flushed i.is-0 i.is-1 tells))
