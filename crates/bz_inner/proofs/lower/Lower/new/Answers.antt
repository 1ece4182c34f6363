use Rattle.std.proofs.Common.{◌≡◌, refl, sym, subst, ◌∙◌}
use Rattle.bz_task.specs.declared.path.Link.{Link}
use Rattle.bz_inner.specs.LowerFacts.{WasLowered, WasNotLone}
use Rattle.bz_inner.proofs.LowerViewing.{begins, is-lone, is-not-lone, same-link}
use Rattle.bz_inner.proofs.lower.Lower.new.Goals as goal

pub returns-clause-facts : goal.returns-clause-facts
returns-clause-facts c key s same good path = begins key c.args.path s.past path c.link_at.result c.link_at-2.result c.link_at.ensures c.link_at-2.ensures c.is_lone.result c.is_lone.ensures

pub returns-clause-slot : goal.returns-clause-slot
returns-clause-slot c upper is = subst (λ (z : Link). c.link_at.result.slot ≡ z.slot) (same-link c.link_at.result upper (sym c.link_at.ensures ∙ is)) refl

pub returns-clause-done : goal.returns-clause-done
returns-clause-done c upper lower s first second means = (
  is-lone c.args.path c.is_lone.result c.is_lone.ensures means.0,
  subst (λ (z : Link). WasLowered z lower s.past) (same-link c.link_at.result upper (sym c.link_at.ensures ∙ first))
      (subst (λ (z : Link). WasLowered c.link_at.result z s.past) (same-link c.link_at-2.result lower (sym c.link_at-2.ensures ∙ second)) means.1),
)

pub returns-clause-no_room : goal.returns-clause-no_room
returns-clause-no_room c upper s first means = (
  is-not-lone c.args.path c.is_lone.result c.is_lone.ensures means.0,
  subst (λ (z : Link). WasNotLone z.slot s.past) (same-link c.link_at.result upper (sym c.link_at.ensures ∙ first)) means.1,
)

pub returns-clause-restart : goal.returns-clause-restart
returns-clause-restart c s means = is-lone c.args.path c.is_lone.result c.is_lone.ensures means

pub returns-clause-full : goal.returns-clause-full
returns-clause-full c s means = is-lone c.args.path c.is_lone.result c.is_lone.ensures means
