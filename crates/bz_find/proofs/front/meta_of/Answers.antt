use Rattle.bz_slotted.proofs.Unpacking.{meta-some, meta-none}
use Rattle.bz_find.proofs.front.meta_of.Goals as goal

pub returns-in-Some-clause-says : goal.returns-in-Some-clause-says
returns-in-Some-clause-says c = meta-some c.in-Some.meta c.args.word c.in-Some.ensures.word.0 c.in-Some.ensures.word.1

pub returns-in-None-clause-says : goal.returns-in-None-clause-says
returns-in-None-clause-says c = meta-none c.args.word (λ h. let t = c.in-None.ensures.lawful.1 h in cc)
