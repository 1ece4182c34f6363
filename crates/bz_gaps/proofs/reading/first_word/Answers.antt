use Rattle.bz_layout.specs.declared.sizes.TheConstants.{NODE_WORDS}
use Rattle.bz_gaps.proofs.FreeWords.{only-first}
use Rattle.bz_gaps.proofs.reading.first_word.Goals as goal

pub returns-clause-blank : goal.returns-clause-blank
returns-clause-blank c = only-first NODE_WORDS c.args.status
