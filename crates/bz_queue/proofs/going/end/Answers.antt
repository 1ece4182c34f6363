use Rattle.std.proofs.Common.{◌≡◌, length, refl, ap, ◌∙◌, None}
use Rattle.std.specs.Vec.{with_item}
use Rattle.std.proofs.lemmas.List.{get_or_read_under}
use Rattle.bz_ring.specs.Calls.{begun_calls}
use Rattle.bz_ring.specs.Journal.{QLog, with_mark}
use Rattle.bz_ring.specs.declared.marks.QMark.TheVariants.{End}
use Rattle.bz_queue.specs.declared.parts.Parts.{Parts}
use Rattle.bz_queue.proofs.Ends.{number-of, last-of, ended}
use Rattle.bz_queue.proofs.Pays.{end-pays}
use Rattle.bz_queue.proofs.going.end.Goals as goal

pub returns : goal.returns
returns c =
    let p = c.args.parts.now in
    let h = c.requires.right in
    let number : c.index-n.result.now ≡ begun_calls c.args.w p.journal.past =
    get_or_read_under p.last.items c.args.w (length p.last.items) c.index-n.result.now 0 c.index-n.ensures (number-of p c.args.w c.args._serving h.between) refl ∙ last-of p c.args.w c.args._serving h.between in
    let after : QLog → Parts = λ (j : QLog). record p { journal = j; workers = with_item p.workers c.args.w None } in
    let rest : after c.push.new.self ≡ after (with_mark p.journal (End c.args.w c.index-n.result.now c.args.reply c.args.at)) = ap after c.push.ensures in
    ended p _ c.args.w c.args._serving c.args.reply c.args.at c.index-n.result.now h c.requires.room number rest refl
    (end-pays p _ c.args.w c.args._serving c.args.reply c.args.at c.index-n.result.now h.between rest refl)
