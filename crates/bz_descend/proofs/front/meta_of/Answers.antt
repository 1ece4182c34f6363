use Rattle.bz_descend.proofs.Unpacking.{meta-some, meta-none}
use Rattle.bz_descend.proofs.front.meta_of.Goals as goal

pub returns-in-Some : goal.returns-in-Some
returns-in-Some c = meta-some c.in-Some.meta c.args.word c.in-Some.ensures.word.0 c.in-Some.ensures.word.1

pub returns-in-None : goal.returns-in-None
returns-in-None c = meta-none c.args.word (λ h. let t = c.in-None.ensures.lawful.1 h in cc)
