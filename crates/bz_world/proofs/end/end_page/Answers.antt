use Rattle.std.proofs.Common.{ℕ, List, length, arith, ◌≡◌, ◌∙◌, refl, ap, sym, subst, None}
use Rattle.std.specs.Vec.{with_item}
use Rattle.bz_call.specs.declared.replies.Reply.TheVariants.{Page}
use Rattle.bz_mark.specs.Log.{HasRoom, Log, with_page, with_mark}
use Rattle.bz_mark.specs.declared.marks.Mark.TheVariants.{End}
use Rattle.bz_world.specs.Inside.Going.{WentOn}
use Rattle.bz_world.specs.declared.answers.Applied.TheVariants.{Ended}
use Rattle.bz_world.proofs.Ended.{in-numbers, in-workers, number-read, end-room, page-room, end-page-went}
use Rattle.bz_world.proofs.end.end_page.Goals as goal

pub add_page-page-requires-clause-room : goal.add_page-page-requires-clause-room
add_page-page-requires-clause-room c = page-room c.end_laws.ensures c.args.parts.now c.args.w c.requires.right.on c.requires.right.asks

pub add_page-page-requires-clause-few : goal.add_page-page-requires-clause-few
add_page-page-requires-clause-few c = omega (arith, ap (λ (pairs : List (List ℕ × List ℕ)). length pairs) c.pairs.ensures.same, c.pairs.ensures.fits)

pub push-requires : goal.push-requires
push-requires c =
    let room = end-room c.end_laws.ensures c.args.parts.now c.args.w c.requires.right.on c.index-n.result.now (Page c.add_page-page.result c.args.next) c.args.at c.requires.room in
    subst (λ (z : Log). HasRoom z (End c.args.w c.index-n.result.now (Page c.add_page-page.result c.args.next) c.args.at)) (sym c.add_page-page.ensures.added) (record { place = room.place; table = room.table })

pub returns-clause-went : goal.returns-clause-went
returns-clause-went c = subst (λ z. WentOn c.args.parts.now c.args.w (Ended c.index-n.result.now) (record c.args.parts.now { journal = z; workers = with_item c.args.parts.now.workers c.args.w None })) (sym journal-is)
    (end-page-went c.end_laws.ensures c.args.parts.now c.args.w c.index-n.result.now c.add_page-page.result c.args.next c.args.at c.requires.right (number-read c.end_laws.ensures c.args.parts.now c.args.w c.requires.right.on c.index-n.result.now c.index-n.ensures) c.add_page-page.ensures.number c.requires.room)
  where
    journal-is : c.push.new.self ≡ with_mark (with_page c.args.parts.now.journal c.args.parts.now.page) (End c.args.w c.index-n.result.now (Page c.add_page-page.result c.args.next) c.args.at)
    journal-is = c.push.ensures ∙ ap (λ (z : Log). with_mark z (End c.args.w c.index-n.result.now (Page c.add_page-page.result c.args.next) c.args.at)) (c.add_page-page.ensures.added ∙ ap (with_page c.args.parts.now.journal) c.pairs.ensures.same)

pub returns-clause-slots : goal.returns-clause-slots
returns-clause-slots c = refl

pub index-n-requires : goal.index-n-requires
index-n-requires c = in-numbers c.end_laws.ensures c.args.parts.now c.args.w c.requires.right.on

pub index_mut-requires : goal.index_mut-requires
index_mut-requires c = in-workers c.end_laws.ensures c.args.parts.now c.args.w c.requires.right.on
