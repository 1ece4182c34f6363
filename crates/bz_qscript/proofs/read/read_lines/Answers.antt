use Rattle.std.proofs.Common.{◌<◌, length, sym, ◌∙◌, refl, arith}
use Rattle.std.proofs.lemmas.List.{take_rest}
use Rattle.std.proofs.lemmas.Result.{err_from_is_err_and}
use Rattle.bz_qscript.proofs.Scripts.{first_fault, first_read, fault_behind}
use Rattle.bz_qscript.proofs.read.read_lines.Goals as goal

pub returns-in-Err : goal.returns-in-Err
returns-in-Err c =
    let more : 1 < length c.args.lines.now = omega arith in
    let read = rw (c.deref.ensures.value, c.in_ok-words.ensures) at (sym c.read_sizes.ensures ∙ c.in-Err.is) in
    first_fault c.args.lines.now _ c.in-Err.rule more read

pub returns-in_err-items : goal.returns-in_err-items
returns-in_err-items c =
    let more : 1 < length c.args.lines.now = omega arith in
    let read = rw (c.deref.ensures.value, c.in_ok-words.ensures) at (sym c.read_sizes.ensures ∙ c.in-Ok.is) in
    let found = rw (take_rest c.args.lines.now 1) at c.in_err-items.ensures in
    let p = err_from_is_err_and c.from_residual-in_err-items.result c.from_residual-in_err-items.ensures.1 in
    rw (p.1, p.2, first_read c.args.lines.now _ c.in-Ok.sizes more read) (fault_behind c.in-Ok.sizes _ _ found)

pub returns : goal.returns
returns c =
    let more : 1 < length c.args.lines.now = omega arith in
    let read = rw (c.deref.ensures.value, c.in_ok-words.ensures) at (sym c.read_sizes.ensures ∙ c.in-Ok.is) in
    let found = rw (take_rest c.args.lines.now 1) at c.in_ok-items.ensures in
    rw (first_read c.args.lines.now _ c.in-Ok.sizes more read, found) refl
