use Rattle.std.proofs.Common.{sym, ap, subst, ◌∙◌}
use Rattle.bz_task.specs.declared.path.Link.{Link}
use Rattle.bz_inner.specs.Joinings.{HadNoRoom, WasJoined}
use Rattle.bz_inner.proofs.JoinViewing.{begins, one-link}
use Rattle.bz_inner.proofs.merge_inner.MergeInner.new.Goals as goal

pub returns-clause-facts : goal.returns-clause-facts
returns-clause-facts c key s same good path =
    begins key c.args.path s.past path _ c.link_at.ensures c.link_at-middle.ensures c.link_at-lower.ensures c.is_small.result c.is_small.ensures
    (record { size = c.first_word-above.ensures.size; first = c.first_word-above.ensures.first; blank = c.first_word-above.ensures.blank })
    (record { size = c.first_word-own.ensures.size; first = c.first_word-own.ensures.first; blank = c.first_word-own.ensures.blank })

pub returns-clause-slot : goal.returns-clause-slot
returns-clause-slot c upper is = ap (λ (z : Link). z.slot) (one-link c.link_at.result upper (sym c.link_at.ensures ∙ is))

pub returns-clause-done : goal.returns-clause-done
returns-clause-done c upper middle s first second means =
    subst (λ (z : Link). WasJoined z middle s.past) (one-link c.link_at.result upper (sym c.link_at.ensures ∙ first))
    (subst (λ (z : Link). WasJoined c.link_at.result z s.past) (one-link c.link_at-middle.result middle (sym c.link_at-middle.ensures ∙ second)) means)

pub returns-clause-no_room : goal.returns-clause-no_room
returns-clause-no_room c upper middle lower s first second third means =
    subst (λ (z : Link). HadNoRoom z middle lower s.past) (one-link c.link_at.result upper (sym c.link_at.ensures ∙ first))
    (subst (λ (z : Link). HadNoRoom c.link_at.result z lower s.past) (one-link c.link_at-middle.result middle (sym c.link_at-middle.ensures ∙ second))
    (subst (λ (z : Link). HadNoRoom c.link_at.result c.link_at-middle.result z s.past) (one-link c.link_at-lower.result lower (sym c.link_at-lower.ensures ∙ third)) means))
