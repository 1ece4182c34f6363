use Rattle.std.proofs.Common.{◌≡◌, true, ap, ◌∙◌, subst}
use Rattle.std.specs.Prelude.{IfSome}
use Rattle.bz_slotted.specs.Page.{visible, extent_of}
use Rattle.bz_slotted.proofs.Unpacking.{meta-some, meta-none}
use Rattle.bz_word.specs.declared.meta.Meta.TheVariants.{Unused}
use Rattle.bz_recover.proofs.walk.extent_at.Goals as goal

pub returns-in-Some-clause-some : goal.returns-in-Some-clause-some
returns-in-Some-clause-some c = subst (λ m. IfSome c.extent_shown.result (λ e. extent_of m ≡ e)) (meta-some c.in-Some.meta c.args.word c.in-Some.ensures.word.0 c.in-Some.ensures.word.1) c.extent_shown.ensures.some

pub returns-in-Some-clause-is : goal.returns-in-Some-clause-is
returns-in-Some-clause-is c v = c.extent_shown.ensures.is (ap visible (meta-some c.in-Some.meta c.args.word c.in-Some.ensures.word.0 c.in-Some.ensures.word.1) ∙ v)

pub returns-in-None-clause-is : goal.returns-in-None-clause-is
unfolding visible
returns-in-None-clause-is c v =
    let no : visible Unused ≡ true = ap visible (meta-none c.args.word (λ h. let t = c.in-None.ensures.lawful.1 h in cc)) ∙ v in
    absurd (cc)
