use Rattle.std.proofs.Common.{sym, ◌∙◌}
use Rattle.bz_script.proofs.NumberLemmas.{number_found}
use Rattle.bz_script.proofs.number.read_number.Goals as goal

pub returns : goal.returns
returns c = number_found c.args.word.now c.loop-b.b-index c.loop-b.value (sym c.has_number_form.ensures ∙ c.if-not-has_number_form.false) c.loop-b-test.false c.loop-b.invariant.1 c.loop-b.invariant.2
