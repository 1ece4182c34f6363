use Rattle.std.proofs.Common.{length, refl, ap, ◌∙◌, true, None}
use Rattle.std.proofs.lemmas.List.{get_or_read_under}
use Rattle.bz_swap_machine.specs.declared.done.Done.TheVariants.{Read, Swapped}
use Rattle.bz_queue.proofs.Ends.{place-of}
use Rattle.bz_queue.proofs.Judging.{must-of}
use Rattle.bz_queue.proofs.going.go_on.Goals as goal

pub hear_read-requires-clause-must : goal.hear_read-requires-clause-must
hear_read-requires-clause-must c =
    let p = c.args.parts.now in
    let h = c.requires.ended in
    let slot = get_or_read_under p.workers.items c.args.w (length p.workers.items) c.index.result.now None c.index.ensures (place-of p c.args.w h.x h.must.between) refl in
    must-of p c.args.w c.args.done (Read c.in-Read.value) c.index.result.now c.in-Some.serving h slot c.in-Some.is c.in-Read.is

pub changed-requires-clause-must : goal.changed-requires-clause-must
changed-requires-clause-must c =
    let p = c.args.parts.now in
    let h = c.requires.ended in
    let slot = get_or_read_under p.workers.items c.args.w (length p.workers.items) c.index.result.now None c.index.ensures (place-of p c.args.w h.x h.must.between) refl in
    must-of p c.args.w c.args.done (Swapped true) c.index.result.now c.in-Some.serving h slot c.in-Some.is (c.in-Swapped-true.is ∙ ap Swapped c.in-Swapped-true.field-0-test)
