use Rattle.std.proofs.Common.{◌≡◌, refl, ◌∙◌}
use Rattle.bz_qrun.specs.declared.fault.QueueFault.TheVariants as fault
use Rattle.bz_top.specs.Faults.{fault_line}
use Rattle.bz_top.specs.Parts.{sunk, Says}
use Rattle.bz_top.specs.QueueEndings.{queue_limit_text}
use Rattle.bz_top.proofs.queue.tell.Goals as goal

pub returns-in-Ok : goal.returns-in-Ok
returns-in-Ok g c = rw c.in-Ok.is (refl, refl, refl, refl, refl)

pub returns-in-Err-Limit : goal.returns-in-Err-Limit
returns-in-Err-Limit g c =
    let said : Says (sunk (g.K.Sink.held c.args.sink.now) (g.K.Sink.held c.written-status.new.sink) (g.K.Sink.faults c.args.sink.now) (g.K.Sink.faults c.written-status.new.sink)) 5 (fault_line (queue_limit_text c.in-Err-Limit.which)) c.written-status.result = rw c.limit_line.ensures at c.written-status.ensures in
    let told : c.in-Err-Limit.field-0 ≡ fault.Limit c.in-Err-Limit.which = rw c.in-Err-Limit.is at c.in-Err-Limit.field-0-is in
    rw (c.in-Err-Limit.is, told) (refl, refl, said)

pub returns-in-Err-Write : goal.returns-in-Err-Write
returns-in-Err-Write g c =
    let told : c.in-Err-Write.field-0 ≡ fault.Write = rw c.in-Err-Write.is at c.in-Err-Write.field-0-is in
    rw (c.in-Err-Write.is, told) (refl, refl, refl, refl, refl)

pub returns-in-Err-Memory : goal.returns-in-Err-Memory
returns-in-Err-Memory g c =
    let told : c.in-Err-Memory.field-0 ≡ fault.Memory = rw c.in-Err-Memory.is at c.in-Err-Memory.field-0-is in
    rw (c.in-Err-Memory.is, told) (refl, refl, c.written-status-in-Err-Memory.ensures)

pub returns-in-Err-Line : goal.returns-in-Err-Line
returns-in-Err-Line g c =
    let told : c.in-Err-Line.field-0 ≡ fault.Line c.in-Err-Line.line c.in-Err-Line.rule = rw c.in-Err-Line.is at c.in-Err-Line.field-0-is in
    rw (c.in-Err-Line.is, told)
    (c.without_queue.ensures.lab ∙ c.report_broken.ensures.lab, c.without_queue.ensures.queue, rw c.without_queue.ensures.status c.report_broken.ensures.wrote)
