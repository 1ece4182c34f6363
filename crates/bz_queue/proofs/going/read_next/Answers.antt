use Rattle.std.proofs.Common.{◌≡◌, refl, ap, subst, Some}
use Rattle.std.specs.Vec.{with_item}
use Rattle.bz_swap.specs.Held.{IsHeld, Holds}
use Rattle.bz_swap.specs.Starts.{started}
use Rattle.bz_swap.specs.SwapMemory.{SwapMemory, Reading}
use Rattle.bz_queue.specs.declared.parts.Parts.{Parts}
use Rattle.bz_queue.proofs.Acted.{started-held}
use Rattle.bz_queue.proofs.Alone.{read-alone}
use Rattle.bz_queue.proofs.Pays.{read-pays}
use Rattle.bz_queue.proofs.Went.{read-next, may-read}
use Rattle.bz_queue.proofs.going.read_next.Goals as goal

pub start_read-requires : goal.start_read-requires
start_read-requires c = may-read c.args.parts.now c.args.w c.args.serving c.args.place c.args.a c.requires

pub returns : goal.returns
returns c =
    let p = c.args.parts.now in
    let h = c.requires in
    let m : SwapMemory = started p.access c.args.w (Reading c.args.a) in
    let held : IsHeld m = started-held p.access c.args.w (Reading c.args.a) h.between.opened.worker (subst Holds c.start_read.ensures.started c.start_read.ensures.held) in
    let after : SwapMemory → Parts = λ (it : SwapMemory). record p { access = it; workers = with_item p.workers c.args.w (Some (record c.args.serving { place = c.args.place })) } in
    let rest : after c.start_read.new.self ≡ after m = ap after c.start_read.ensures.started in
    read-next p _ c.args.w c.args.serving c.args.place c.args.a h held rest refl (read-pays p _ c.args.w c.args.serving c.args.place c.args.a h rest refl)
    (read-alone p c.args.w c.args.serving c.args.place c.args.a h)
