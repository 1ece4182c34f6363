use Rattle.std.proofs.Common.{refl, sym, ap, ◌∙◌}
use Rattle.bz_top.specs.Threads.{has_threads}
use Rattle.bz_top.proofs.ThreadLemmas.{runs_in_turns}
use Rattle.bz_top.proofs.answer.answer_script.Goals as goal

pub returns-then-has_threads : goal.returns-then-has_threads
returns-then-has_threads g c = record {
  is_line = refl;
  is_base = refl;
  is_script = refl;
  threads = ap has_threads (sym c.items.ensures) ∙ sym c.if-has_threads.ensures;
  held = refl;
  faults = refl;
}

pub run_script-requires-clause-runs : goal.run_script-requires-clause-runs
run_script-requires-clause-runs g c = runs_in_turns _ (ap has_threads (sym c.items.ensures) ∙ sym c.if-has_threads.ensures)
