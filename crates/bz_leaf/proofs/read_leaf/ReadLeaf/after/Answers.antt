use Rattle.std.proofs.Common.{sym, ◌∙◌}
use Rattle.bz_task.specs.declared.todo.Seen.TheVariants.{Read as Was}
use Rattle.bz_leaf.specs.declared.phase.LeafPhase.TheVariants.{Status, Word, Again, Link as Of_link, Guard}
use Rattle.bz_leaf.proofs.Learning.{by-phase, told-status, told-word, told-again, told-link, told-guard}
use Rattle.bz_leaf.proofs.read_leaf.ReadLeaf.after.Goals as goal

pub returns-in-Status-Read-clause-learns : goal.returns-in-Status-Read-clause-learns
returns-in-Status-Read-clause-learns c stage s now same good =
    let t = c.args.self.now in let i = c.in-Status-Read in
    by-phase t.key t.link t.image t.image.0 t.config _ stage s t.phase Status c.args.seen (Was i.word) i.is-0 i.is-1
    (told-status t.key t.link t.image t.image.0 c.is_whole.ensures t.config s same good stage i.word c.after_word.result c.after_word.ensures.next)

pub returns-in-Word-Read-clause-learns : goal.returns-in-Word-Read-clause-learns
returns-in-Word-Read-clause-learns c stage s now same good =
    let t = c.args.self.now in let i = c.in-Word-Read in
    by-phase t.key t.link t.image t.image.0 t.config _ stage s t.phase (Word i.place) c.args.seen (Was i.word) i.is-0 i.is-1
    (told-word t.key t.link t.image t.image.0 c.is_whole.ensures t.config s same good stage i.place i.word c.after_word-in-Word-Read.result c.after_word-in-Word-Read.ensures.next)

pub returns-then-word-self-clause-learns : goal.returns-then-word-self-clause-learns
returns-then-word-self-clause-learns c stage s now same good =
    let t = c.args.self.now in let i = c.in-Again-Read in
    by-phase t.key t.link t.image t.image.0 t.config _ stage s t.phase Again c.args.seen (Was i.word) i.is-0 i.is-1
    (told-again t.key t.link t.image t.image.0 c.is_whole.ensures t.config s same good stage i.word c.args.moment c.if-word-self.true now)

pub returns-then-word-self-2-clause-learns : goal.returns-then-word-self-2-clause-learns
returns-then-word-self-2-clause-learns c stage s now same good =
    let t = c.args.self.now in let i = c.in-Link-Read in
    by-phase t.key t.link t.image t.image.0 t.config _ stage s t.phase Of_link c.args.seen (Was i.word) i.is-0 i.is-1
    (told-link t.key t.link t.image t.image.0 c.is_whole.ensures t.config s same good stage i.word c.args.moment c.if-word-self-2.true now)

pub returns-else-is_frozen-clause-learns : goal.returns-else-is_frozen-clause-learns
returns-else-is_frozen-clause-learns c stage s now same good =
    let t = c.args.self.now in let i = c.in-Guard-Read in
    by-phase t.key t.link t.image t.image.0 t.config _ stage s t.phase (Guard i.at) c.args.seen (Was i.word) i.is-0 i.is-1
    (told-guard t.key t.link t.image t.image.0 c.is_whole.ensures t.config s same good stage i.at i.word (sym c.is_frozen.ensures ∙ c.if-is_frozen.false))
