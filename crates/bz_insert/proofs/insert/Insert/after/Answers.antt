use Rattle.std.proofs.Common.{◌≡◌, true, rules, subst, sym}
use Rattle.bz_task.specs.Scene.{Waiting}
use Rattle.bz_task.specs.declared.todo.Seen.TheVariants.{Stored, Flushed, Swapped}
use Rattle.bz_insert.specs.Facts.{insert_facts}
use Rattle.bz_insert.specs.declared.phase.InsertPhase.TheVariants.{Reserve, Store, Flush}
use Rattle.bz_insert.proofs.Knowing.{in-phase, tells-in, ready-store, told-reserved, told-stored, ready-flush, told-flushed}
use Rattle.bz_insert.proofs.insert.Insert.after.Goals as goal

pub after_flush-requires-clause-ready : goal.after_flush-requires-clause-ready
after_flush-requires-clause-ready c =
    let t = c.args.self.now in let k = c.requires.known in let i = c.in-Flush-Flushed in
    ready-flush t.config t.added i.n k.stage k.scene k.config (in-phase t.added k.stage k.scene t.phase (Flush i.n) i.is-0 k.holds)

pub returns-in-Reserve-Swapped-true-clause-ready :
    goal.returns-in-Reserve-Swapped-true-clause-ready
returns-in-Reserve-Swapped-true-clause-ready c =
    let t = c.args.self.now in let k = c.requires.known in let i = c.in-Reserve-Swapped-true in
    let told : c.args.seen ≡ Swapped true = search rules in
    ready-store t.config t.added k.stage k.scene k.config (in-phase t.added k.stage k.scene t.phase Reserve i.is-0 k.holds) (tells-in t.config t.added k.stage k.scene t.phase Reserve c.args.seen (Swapped true) i.is-0 told k.tells)

pub returns-in-Reserve-Swapped-true-clause-learns :
    goal.returns-in-Reserve-Swapped-true-clause-learns
returns-in-Reserve-Swapped-true-clause-learns c stage s same facts tells =
    let t = c.args.self.now in let i = c.in-Reserve-Swapped-true in
    let told : c.args.seen ≡ Swapped true = search rules in
    told-reserved t.config t.added stage s (in-phase t.added stage s t.phase Reserve i.is-0 facts) (tells-in t.config t.added stage s t.phase Reserve c.args.seen (Swapped true) i.is-0 told tells)

pub returns-in-Store-Stored-clause-learns : goal.returns-in-Store-Stored-clause-learns
returns-in-Store-Stored-clause-learns c stage s same facts tells =
    let t = c.args.self.now in let i = c.in-Store-Stored in
    subst (λ z. insert_facts t.added z Waiting s) (sym c.after_store.ensures.next)
    (told-stored t.config t.added i.i stage s (in-phase t.added stage s t.phase (Store i.i) i.is-0 facts) (tells-in t.config t.added stage s t.phase (Store i.i) c.args.seen Stored i.is-0 i.is-1 tells))

pub returns-in-Flush-Flushed-clause-learns : goal.returns-in-Flush-Flushed-clause-learns
returns-in-Flush-Flushed-clause-learns c stage s same facts tells =
    let t = c.args.self.now in let i = c.in-Flush-Flushed in
    subst (λ z. insert_facts t.added z Waiting s) (sym c.after_flush.ensures.next)
    (told-flushed t.config t.added i.n stage s same (in-phase t.added stage s t.phase (Flush i.n) i.is-0 facts) (tells-in t.config t.added stage s t.phase (Flush i.n) c.args.seen Flushed i.is-0 i.is-1 tells))
