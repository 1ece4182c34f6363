-- The two addresses of a link that was read may be named by a swap, at any later moment.
use Rattle.std.proofs.Common.{◌≡◌, ◌+◌, ◌^◌, ◌<◌, false, arith, refl, sym, ap, ◌∙◌, inl, inr}
use Rattle.bz_layout.specs.declared.sizes.TheConstants.{STATUS_AT, HEADER_AT, META_AT, ROOT_STATUS_AT}
use Rattle.bz_node.specs.Reading.{payload_at}
use Rattle.bz_slotted.specs.Page.{meta_of, extent_of}
use Rattle.bz_word.specs.Headers.{header}
use Rattle.bz_word.specs.Statuses.{status}
use Rattle.bz_task.specs.Instant.{words, page_at}
use Rattle.bz_task.specs.Outcomes.{IsUnderRoot, IsUnderNode, IsGuarded}
use Rattle.bz_task.specs.Requests.{IsPointerPlace}
use Rattle.bz_task.specs.Scene.{Scene, IsScene, here}
use Rattle.bz_task.specs.Shown.{SameSeparators}
use Rattle.bz_task.specs.declared.path.Link.{Link}
use Rattle.bz_renew.specs.Renewals.{IsTurnable, LinksMayBeTurned}
use Rattle.bz_renew.proofs.Basis.{Laws}
use Rattle.bz_renew.proofs.UnderNode.{moments, now-reached, guard-plain, place-far}
use Rattle.bz_renew.proofs.UnderRoot.{root-status}

module _ (b : Laws) (s : Scene) (link : Link) (good : IsScene s) (guard : IsGuarded s.past link) (thawed : (status link.status).frozen ≡ false) where
  under-root : IsUnderRoot link → IsTurnable link s
  under-root u =
      let was : (s.past.at guard.guarded).value ROOT_STATUS_AT ≡ link.status = ap (s.past.at guard.guarded).value (sym u.guard) ∙ guard.status in
      let small : (s.past.at guard.guarded).value ROOT_STATUS_AT < 2 ^ 32 = root-status b s.past.config (s.past.at guard.guarded) (good.history.good guard.guarded guard.since (omega (arith, guard.order, guard.now))) in
      record {
        plain = omega (arith, was, small);
        apart = λ e. absurd (omega (arith, e, u.pointer, u.guard));
        link_target = inl u.pointer;
        guard_target = inr (inl u.guard);
      }

  module _ (u : IsUnderNode s.past link guard.guarded) where
    separators : SameSeparators (words s.past.config (s.past.at guard.guarded) u.parent) (words s.past.config (here s) u.parent)
    separators = b.separators s.past.config s.past.at s.past.since s.past.now guard.guarded s.past.now u.parent good.history (moments b s link good guard thawed u) u.reached u.child.inner

    -- the pointer is in its place still
    place-now : IsPointerPlace (page_at s.past.config (here s) u.parent) u.place
    place-now = record {
      inner = omega (arith, u.child.inner, ap (λ z. (header z).level) (separators.front HEADER_AT (λ e. absurd (omega (arith, e))) (omega arith)));
      child = u.child.child;
      counted = omega (arith, u.child.counted, separators.count);
      place = u.child.place ∙ ap (λ z. payload_at (extent_of (meta_of z))) (sym (separators.front (META_AT + u.child.child) (λ e. absurd (omega (arith, e))) (omega (arith, u.child.counted))));
    }

    under-node : IsTurnable link s
    under-node = record {
      plain = guard-plain b s link good guard thawed u;
      apart = λ e. absurd (omega (arith, e, u.pointer, u.guard, place-far b s link good guard thawed u));
      link_target = inr (inr (record { slot = u.parent; place = u.place; address = u.pointer; within = u.within; reached = now-reached b s link good guard thawed u; kind = inr (inr place-now) }));
      guard_target = inr (inr (record { slot = u.parent; place = STATUS_AT; address = u.guard; within = omega arith; reached = now-reached b s link good guard thawed u; kind = inl refl }));
    }

pub turnable : Laws → LinksMayBeTurned
turnable b s link good guard thawed = elim guard.under [ inl u ↦ under-root b s link good guard thawed u | inr u ↦ under-node b s link good guard thawed u ]
