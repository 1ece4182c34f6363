use Rattle.std.proofs.Common.{◌-◌, length, arith}
use Rattle.bz_script.proofs.Lines.{read_fault, read_more}
use Rattle.bz_script.proofs.read.read_items.Goals as goal

pub returns-in-Err-Rule : goal.returns-in-Err-Rule
returns-in-Err-Rule c =
    let read = rw (c.deref.ensures.value, c.in_ok-words.ensures) at (rw c.in-Err-Rule.field-0-is at c.in-Err-Rule.ensures) in
    rw c.in-Err-Rule.field-0-is (read_fault c.loop-place.items c.loop-place.standing c.loop-place.place (length c.args.lines.now - 1) c.args.lines.now _ c.in-Err-Rule.rule c.loop-place-test.true (omega arith) read c.loop-place.invariant)

pub loop-place-preserved : goal.loop-place-preserved
loop-place-preserved c =
    let read = rw (c.deref.ensures.value, c.in_ok-words.ensures) at c.in-Ok.ensures in
    read_more c.loop-place.items c.push.new.self c.loop-place.standing _ c.loop-place.place (length c.args.lines.now - 1) c.args.lines.now _ c.in-Ok.item c.loop-place-test.true (omega arith) read c.follow-standing.ensures c.push.ensures.items c.push.ensures.room c.loop-place.invariant
