use Rattle.std.proofs.Common.{◌+◌}
use Rattle.bz_layout.specs.declared.sizes.TheConstants.{META_AT}
use Rattle.bz_slotted.specs.ReadingLaws.{node_of}
use Rattle.bz_slotted.proofs.Unpacking.{meta-some, meta-none}
use Rattle.bz_slotted.proofs.metas.meta_of.Goals as goal

pub returns-in-Some-clause-says : goal.returns-in-Some-clause-says
returns-in-Some-clause-says c = meta-some c.in-Some.meta (node_of c.args.words.now (META_AT + c.args.j)) c.in-Some.ensures.word.0 c.in-Some.ensures.word.1

pub returns-in-None-clause-says : goal.returns-in-None-clause-says
returns-in-None-clause-says c = meta-none (node_of c.args.words.now (META_AT + c.args.j)) (λ h. let t = c.in-None.ensures.lawful.1 h in cc)
