use Rattle.std.proofs.Common.{ap, ◌∙◌}
use Rattle.serde_json.proofs.Views.{view-Array}
use Rattle.bz_lines.specs.Objects.{list_of}
use Rattle.bz_lines.proofs.HeadLemmas.{pairs_step, pairs_end}
use Rattle.bz_lines.proofs.head_line.words_list.Goals as goal

pub loop-a-preserved : goal.loop-a-preserved
loop-a-preserved c = pairs_step _ _ _ c.args.words.now c.loop-a.a c.loop-a-test.true c.loop-a.invariant c.in_ok-add_word.ensures

pub returns : goal.returns
returns c = view-Array c.loop-a.list ∙ ap list_of (pairs_end _ _ c.args.words.now c.loop-a.a c.loop-a-test.false c.loop-a.invariant)
