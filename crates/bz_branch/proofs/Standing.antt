-- A node whose status is as it was read stands where it stood, with the words that it had.
use Rattle.std.proofs.Common.{◌≡◌, ℕ, ◌+◌, ◌<◌, true, false, arith, sym, ap, subst, ◌∙◌, inl, inr}
use Rattle.std.proofs.lemmas.Bool.{true≢false}
use Rattle.bz_layout.specs.Addresses.{node_address}
use Rattle.bz_layout.specs.declared.sizes.TheConstants.{STATUS_AT}
use Rattle.bz_word.specs.Statuses.{status}
use Rattle.bz_task.specs.Good.{IsGood}
use Rattle.bz_task.specs.Instant.{words, durable, page_at, is_inside}
use Rattle.bz_task.specs.Laws.{SamePlace}
use Rattle.bz_task.specs.Scene.{Scene, IsScene, here}
use Rattle.bz_task.specs.declared.path.Link.{Link}
use Rattle.bz_task.proofs.Proved.{ranges_stay}
use Rattle.bz_renew.specs.Standing.{StillLeads}
use Rattle.bz_renew.proofs.Words.{node-at}
use Rattle.bz_branch.specs.Nodes.{IsOpenLink}

module _ (s : Scene) (k : ℕ) (link : Link) (good : IsScene s) (o : IsOpenLink k link s.past) where
  pub guard-is : link.guard ≡ node_address s.past.config k + STATUS_AT
  guard-is = o.under.guard ∙ ap (λ z. node_address s.past.config z + STATUS_AT) o.parent

  pub then-good : IsGood s.past.config (s.past.at o.guard.guarded)
  then-good = good.history.good o.guard.guarded o.guard.since (omega (arith, o.guard.order, o.guard.now))

  then-reached : (s.past.at o.guard.guarded).reached k ≡ true
  then-reached = subst (λ z. (s.past.at o.guard.guarded).reached z ≡ true) o.parent o.under.reached

  pub node-below : k < s.past.config.nodes
  node-below = then-good.slots k then-reached

  then-inner : 0 < (page_at s.past.config (s.past.at o.guard.guarded) k).level
  then-inner = subst (λ z. 0 < (page_at s.past.config (s.past.at o.guard.guarded) z).level) o.parent o.under.child.inner

  then-thawed : (page_at s.past.config (s.past.at o.guard.guarded) k).frozen ≡ false
  then-thawed =
      let was : words s.past.config (s.past.at o.guard.guarded) k STATUS_AT ≡ link.status = node-at s.past.config (s.past.at o.guard.guarded).value k STATUS_AT (omega arith) ∙ (ap (s.past.at o.guard.guarded).value (sym guard-is) ∙ o.guard.status) in
      ap (λ z. (status z).frozen) was ∙ o.thawed

  pub then-inside : is_inside s.past.config (s.past.at o.guard.guarded) k ≡ true
  then-inside = elim (then-good.placed k then-reached) [ inl t ↦ t | inr f ↦ absurd (true≢false (sym f ∙ then-thawed)) ]

  module _ (child : ℕ) (leads : StillLeads link s o.guard.guarded k child) where
    g : IsGood s.past.config (here s)
    g = good.history.good s.past.now good.begun (omega arith)

    pub same-place : SamePlace s.past.config (s.past.at o.guard.guarded) (here s) k
    same-place = ranges_stay s.past.config s.past.at s.past.since s.past.now o.guard.guarded s.past.now k good.history
        (record { since = o.guard.since; order = omega (arith, o.guard.order, o.guard.now); until = omega arith }) (λ e. absurd (omega (arith, e, node-below))) then-inside leads.inside

    -- its words in the image are those that were read
    pub same-words : durable s.past.config (here s) k ≡ words s.past.config (s.past.at o.guard.guarded) k
    same-words = (λ t i. g.shown k i leads.reached (inr (inr (inl leads.inner))) t) ∙ (λ t i. leads.same i (inr (inr (inl then-inner))) t)
