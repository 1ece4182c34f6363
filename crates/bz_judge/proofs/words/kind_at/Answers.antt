use Rattle.std.proofs.Common.{ap, ◌∙◌}
use Rattle.bz_judge.specs.Inside.Kinds.{kind_read}
use Rattle.bz_judge.proofs.ReadKinds.{kind-is, kind-lawful}
use Rattle.bz_judge.proofs.words.kind_at.Goals as goal

pub returns-clause-kind : goal.returns-clause-kind
returns-clause-kind c = kind-is c.kind_of.result c.word.result c.kind_of.ensures.lawful c.kind_of.ensures.word ∙ ap kind_read c.word.ensures

pub returns-clause-lawful : goal.returns-clause-lawful
returns-clause-lawful c = kind-lawful c.kind_of.result c.word.result c.kind_of.ensures.word
