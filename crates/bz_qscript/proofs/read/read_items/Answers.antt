use Rattle.std.proofs.Common.{◌-◌, length, sym, ap, ◌∙◌, arith}
use Rattle.std.specs.Prelude.{vec_capacity}
use Rattle.bz_script.specs.Order.{after_kind}
use Rattle.bz_qscript.proofs.Lines.{read_fault, read_more}
use Rattle.bz_qscript.proofs.read.read_items.Goals as goal

pub returns-in-Err-Rule : goal.returns-in-Err-Rule
returns-in-Err-Rule c =
    let read = rw (c.deref.ensures.value, c.in_ok-words.ensures) at (rw c.in-Err-Rule.field-0-is at c.in-Err-Rule.ensures) in
    rw c.in-Err-Rule.field-0-is (read_fault c.loop-place.items.items (vec_capacity c.loop-place.items) c.loop-place.standing c.loop-place.place (length c.args.lines.now - 1) c.args.lines.now _ c.in-Err-Rule.rule c.loop-place-test.true (omega arith) read c.loop-place.invariant)

pub loop-place-preserved : goal.loop-place-preserved
loop-place-preserved c =
    let read = rw (c.deref.ensures.value, c.in_ok-words.ensures) at c.in-Ok.ensures in
    read_more c.loop-place.items.items c.push_reserved.new.self.items (vec_capacity c.loop-place.items) (vec_capacity c.push_reserved.new.self) c.loop-place.standing _ c.loop-place.place (length c.args.lines.now - 1) c.args.lines.now _ c.in-Ok.item c.loop-place-test.true (omega arith) read
    (c.follow_kind-standing.ensures ∙ ap (after_kind c.loop-place.standing) c.kind_of.ensures) c.push_reserved.ensures.items (omega (arith, c.push_reserved.ensures.capacity)) c.loop-place.invariant
