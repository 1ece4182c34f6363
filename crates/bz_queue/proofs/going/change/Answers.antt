use Rattle.std.proofs.Common.{◌≡◌, ℕ, length, refl, sym, ap, subst, ◌∙◌, List, Some}
use Rattle.std.specs.Prelude.{slice_set}
use Rattle.std.specs.Vec.{with_item}
use Rattle.bz_word.specs.declared.entry.Entry.{Entry}
use Rattle.bz_swap.specs.Held.{IsHeld, Holds}
use Rattle.bz_swap.specs.Starts.{MaySwap, swapping}
use Rattle.bz_swap.specs.SwapMemory.{SwapMemory}
use Rattle.bz_change.specs.Changes as change
use Rattle.bz_queue.specs.Inside.Going.{MustEnd, WentOn}
use Rattle.bz_queue.specs.Inside.Sparing.{swaps_at}
use Rattle.bz_queue.specs.declared.parts.Parts.{Parts}
use Rattle.bz_queue.specs.declared.serving.Place.TheVariants.{Swap}
use Rattle.bz_queue.proofs.Acted.{swapping-held}
use Rattle.bz_queue.proofs.Begins.{may-swap, swap-begun}
use Rattle.bz_queue.proofs.Alone.{swap-alone}
use Rattle.bz_queue.proofs.Pays.{swap-pays, swap-rounds}
use Rattle.bz_queue.proofs.Spending.{spent-end}
use Rattle.bz_ring.specs.declared.calls.QReply.TheVariants.{Spent}
use Rattle.bz_queue.proofs.going.change.Goals as goal

pub start_swap-requires : goal.start_swap-requires
start_swap-requires c = subst (MaySwap c.args.parts.now.access c.args.w) (sym c.entries-entries.ensures) (may-swap c.args.parts.now c.args.w c.args.serving c.args.counter c.args.word c.requires.judge)

pub end-requires-clause-right : goal.end-requires-clause-right
end-requires-clause-right c =
    let p = c.args.parts.now in
    let same = c.in-Err.ensures.begun in
    let at : c.length-at.result ≡ length p.journal.past = c.length-at.ensures in
    subst (λ (m : SwapMemory). MustEnd (record p { access = m }) c.args.w c.args.serving Spent c.length-at.result) (sym same.1)
    (subst (MustEnd p c.args.w c.args.serving Spent) (sym at) (spent-end p c.args.w c.args.serving c.requires.judge.look.between same.0 c.requires.judge.look.none (ap swaps_at c.requires.judge.place)))

pub returns-in-Ok : goal.returns-in-Ok
returns-in-Ok c =
    let p = c.args.parts.now in
    let x = c.args.serving in
    let entries : List Entry = change.entries_of p.numbers.ring x.call c.args.counter c.args.word in
    let begun = c.in-Ok.ensures.begun in
    let is : c.start_swap.new.self ≡ swapping p.access c.args.w entries = begun.2 ∙ ap (swapping p.access c.args.w) c.entries-entries.ensures in
    let held : IsHeld (swapping p.access c.args.w entries) = swapping-held p.access c.args.w entries c.requires.judge.look.between.opened.worker (subst Holds is c.start_swap.ensures.held) in
    let after : SwapMemory → Parts = λ (it : SwapMemory). record p { access = it; owners = with_item p.owners c.in-Ok.swap c.args.w; workers = with_item p.workers c.args.w (Some (record x { place = Swap c.args.counter c.args.word })) } in
    let rest : after c.start_swap.new.self ≡ after (swapping p.access c.args.w entries) = ap after is in
    swap-begun p _ c.args.w x c.args.counter c.args.word c.requires.judge c.requires.suits (may-swap p c.args.w x c.args.counter c.args.word c.requires.judge) begun.1 held rest
    (ap (λ (k : ℕ). slice_set p.owners.items k c.args.w) begun.0) refl (swap-pays p _ c.args.w x c.args.counter c.args.word c.requires.judge rest refl)
    (swap-alone p c.args.w x c.args.counter c.args.word c.requires.judge (swap-rounds p _ c.args.w x c.args.counter c.args.word c.requires.judge rest refl))

pub returns-in-Err : goal.returns-in-Err
returns-in-Err c =
    let p = c.args.parts.now in
    subst (λ (it : SwapMemory). WentOn (record p { access = it }) c.args.w c.end.result c.end.new.parts) c.in-Err.ensures.begun.1 c.end.ensures
