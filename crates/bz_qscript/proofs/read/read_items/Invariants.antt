use Rattle.std.specs.Prelude.{vec_capacity}
use Rattle.bz_qscript.proofs.Lines.{IsRead}
use Rattle.bz_qscript.proofs.read.read_items.Given as goal

abbrev pub invariant-loop-place : goal.invariant-loop-place
invariant-loop-place l = IsRead l.items.items (vec_capacity l.items) l.standing l.place l.last l.lines
