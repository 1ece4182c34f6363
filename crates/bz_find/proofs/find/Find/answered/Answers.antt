use Rattle.std.proofs.Common.{◌≡◌, arith, ap, ◌∙◌}
use Rattle.bz_find.specs.Phases.{told, reads_of, counted}
use Rattle.bz_find.specs.declared.find.Find.{Find}
use Rattle.bz_find.proofs.Keeping.{keeps-at, counts-reads}
use Rattle.bz_find.proofs.Stepping.{steps}
use Rattle.bz_find.proofs.find.Find.answered.Goals as goal

pub todo-requires-clause-config : goal.todo-requires-clause-config
todo-requires-clause-config c =
    let t = c.args.self.now in
    let k = keeps-at t t.phase c.args.seen c.args.moment c.requires.hears in
    rw (c.count.ensures, c.hear.ensures, k.config) c.requires.config

pub todo-requires-clause-slot : goal.todo-requires-clause-slot
todo-requires-clause-slot c =
    let t = c.args.self.now in
    let k = keeps-at t t.phase c.args.seen c.args.moment c.requires.hears in
    rw (c.count.ensures, c.hear.ensures, k.config, k.link) c.requires.slot

pub todo-requires-clause-bounded : goal.todo-requires-clause-bounded
todo-requires-clause-bounded c =
    let t = c.args.self.now in
    rw (c.count.ensures, c.hear.ensures) (steps t c.args.seen c.args.moment c.requires.bounded c.requires.hears c.requires.plain).0

pub returns-clause-counts : goal.returns-clause-counts
returns-clause-counts c =
    let t = c.args.self.now in
    let u = told t t.phase c.args.seen c.args.moment in
    let k = keeps-at t t.phase c.args.seen c.args.moment c.requires.hears in
    let new : c.count.new.self ≡ counted u = c.count.ensures ∙ ap counted c.hear.ensures in
    let asked = ap (λ (z : Find). z.asked) new in
    let phase = ap (λ (z : Find). reads_of z.phase) new in
    omega (arith, asked, phase, k.asked, counts-reads c.count.new.self c.count.new.self.phase c.todo.result c.todo.ensures)
