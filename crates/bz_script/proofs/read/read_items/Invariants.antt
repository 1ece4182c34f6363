use Rattle.bz_script.proofs.Lines.{IsRead}
use Rattle.bz_script.proofs.read.read_items.Given as goal

abbrev pub invariant-loop-place : goal.invariant-loop-place
invariant-loop-place l = IsRead l.items l.standing l.place l.last l.lines
