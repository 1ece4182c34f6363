use Rattle.std.proofs.Common.{arith}
use Rattle.std.proofs.lemmas.Grind.{common_steps}
use Rattle.bz_swap_cells.specs.Store.{status_of}
use Rattle.bz_swap_cells.proofs.meaning.status_in.Goals as goal

pub returns-then-word-eq-UNDECIDED : goal.returns-then-word-eq-UNDECIDED
unfolding status_of
returns-then-word-eq-UNDECIDED c = grind (arith, common_steps)

pub returns-then-word : goal.returns-then-word
unfolding status_of
returns-then-word c = grind (arith, common_steps)

pub returns-then-word-2 : goal.returns-then-word-2
unfolding status_of
returns-then-word-2 c = grind (arith, common_steps)

pub returns-then-word-eq-SUCCEEDED : goal.returns-then-word-eq-SUCCEEDED
unfolding status_of
returns-then-word-eq-SUCCEEDED c = grind (arith, common_steps)

pub returns-then-word-eq-FAILED : goal.returns-then-word-eq-FAILED
unfolding status_of
returns-then-word-eq-FAILED c = grind (arith, common_steps)

pub returns-else-word-eq-FAILED : goal.returns-else-word-eq-FAILED
unfolding status_of
returns-else-word-eq-FAILED c = grind (arith, common_steps)
