use Rattle.std.proofs.Common.{sym, ap, ◌∙◌, inl, inr, refl}
use Rattle.bz_queue.specs.QueueView.{after_begin}
use Rattle.bz_qsched.specs.Fuses.{with_fuse}
use Rattle.bz_qsched.proofs.BeginLemmas.{Waits, no_stranger, not_busy, not_off, not_recovering, begin_stops, begins, begun_is_open}
use Rattle.bz_qsched.proofs.ReadyLemmas.{is_worker}
use Rattle.bz_qsched.proofs.turn.begin_next.Goals as goal

pub unreachable-requires : goal.unreachable-requires
unreachable-requires c =
    let waits : Waits c.args.world.now c.args.queue.now.calls c.args.w c.in-Some.call = record { ready = c.requires.ready; worker = is_worker _ _ c.requires.ready c.requires.worker; closed = c.requires.closed; first = c.in-Some.ensures.first } in
    elim c.in-NoWorker.is [
      | inl is ↦ no_stranger c.args.world.now c.args.queue.now.calls c.args.w c.in-Some.call waits (sym is ∙ c.begin.ensures.answer)
      | inr (inl is) ↦ not_busy c.args.world.now c.args.queue.now.calls c.args.w c.in-Some.call waits (sym is ∙ c.begin.ensures.answer)
      | inr (inr (inl is)) ↦ not_off c.args.world.now c.args.queue.now.calls c.args.w c.in-Some.call waits (sym is ∙ c.begin.ensures.answer)
      | inr (inr (inr is)) ↦ not_recovering c.args.world.now c.args.queue.now.calls c.args.w c.in-Some.call waits (sym is ∙ c.begin.ensures.answer)
    ]

pub returns-in-Begun-clause-ends : goal.returns-in-Begun-clause-ends
returns-in-Begun-clause-ends c = λ fuse.
    let waits : Waits c.args.world.now c.args.queue.now.calls c.args.w c.in-Some.call = record { ready = c.requires.ready; worker = is_worker _ _ c.requires.ready c.requires.worker; closed = c.requires.closed; first = c.in-Some.ensures.first } in
    begins c.args.world.now (with_fuse c.args.queue.now fuse) c.args.w c.in-Some.call c.in-Begun.field-0 c.begin.new.self (with_fuse c.leave_out.new.self fuse) waits (record {
      answer = c.in-Begun.ensures.answer;
      after = c.in-Begun.ensures.after;
      calls = c.leave_out.ensures.calls;
      room = c.leave_out.ensures.room;
      fuse = refl;
    })

pub returns-in-Begun-clause-open : goal.returns-in-Begun-clause-open
returns-in-Begun-clause-open c = λ is. begun_is_open c.args.world.now c.args.w c.in-Begun.field-0 c.in-Some.call c.begin.new.self c.in-Begun.ensures.after

pub returns-in-Limit-clause-ends : goal.returns-in-Limit-clause-ends
returns-in-Limit-clause-ends c = λ fuse.
    let waits : Waits c.args.world.now c.args.queue.now.calls c.args.w c.in-Some.call = record { ready = c.requires.ready; worker = is_worker _ _ c.requires.ready c.requires.worker; closed = c.requires.closed; first = c.in-Some.ensures.first } in
    begin_stops c.args.world.now (with_fuse c.args.queue.now fuse) c.args.w c.in-Some.call c.in-Limit.which c.begin.new.self waits (sym c.in-Limit.is ∙ c.begin.ensures.answer)
    (c.begin.ensures.after ∙ ap (after_begin c.args.world.now c.args.w c.in-Some.call c.begin.new.self.left) c.in-Limit.is)

pub begin-requires : goal.begin-requires
begin-requires c = c.in-Some.ensures.call
