use Rattle.std.proofs.Common.{◌==◌, arith}
use Rattle.bz_script.proofs.Scripts.{parts_counted}
use Rattle.bz_qscript.proofs.read.read_queue_script.Goals as goal

pub read_lines-requires-clause-some : goal.read_lines-requires-clause-some
read_lines-requires-clause-some c =
    rw c.deref.ensures.value (parts_counted (λ b. b == 10) c.in_ok-lines.lines.items c.args.bytes.now c.in_ok-lines.ensures).some

pub read_lines-requires-clause-fits : goal.read_lines-requires-clause-fits
read_lines-requires-clause-fits c =
    let counted = parts_counted (λ b. b == 10) c.in_ok-lines.lines.items c.args.bytes.now c.in_ok-lines.ensures in
    rw c.deref.ensures.value (omega (arith, counted.fits, c.requires))
