use Rattle.bz_mutate.specs.declared.delete_phase.DeletePhase.TheVariants.{Fresh}
use Rattle.bz_mutate.proofs.DeleteKnowing.{in-phase, tells-in, visible-first, ready-first, told-first}
use Rattle.bz_mutate.proofs.delete.Delete.after.Goals as goal

pub begun-requires-clause-visible : goal.begun-requires-clause-visible
begun-requires-clause-visible c = let t = c.args.self.now in let k = c.requires.known in visible-first t.key t.view k.stage k.scene (in-phase t.key t.view k.stage k.scene t.phase Fresh c.in-Fresh-default.is-0 k.holds)

pub returns-in-Fresh-default-clause-ready : goal.returns-in-Fresh-default-clause-ready
returns-in-Fresh-default-clause-ready c =
    let t = c.args.self.now in let k = c.requires.known in
    ready-first t.config t.key t.view k.stage k.scene c.begun.result k.config k.good (in-phase t.key t.view k.stage k.scene t.phase Fresh c.in-Fresh-default.is-0 k.holds) c.begun.ensures.found

pub returns-in-Fresh-default-clause-learns : goal.returns-in-Fresh-default-clause-learns
returns-in-Fresh-default-clause-learns c stage s same good facts tells =
    let t = c.args.self.now in
    told-first t.key t.view stage c.args.seen s c.begun.result good (in-phase t.key t.view stage s t.phase Fresh c.in-Fresh-default.is-0 facts) (tells-in t.config t.view stage c.args.seen s t.phase Fresh c.in-Fresh-default.is-0 tells) c.begun.ensures.either c.begun.ensures.found c.begun.ensures.thawed c.begun.ensures.none
