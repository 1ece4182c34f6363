use Rattle.bz_script.proofs.TurnWords.{AreRead}
use Rattle.bz_script.proofs.run_forms.read_turns.Given as goal

abbrev pub invariant-loop-text : goal.invariant-loop-text
invariant-loop-text l = AreRead l.turns.items l.text-index l.words
