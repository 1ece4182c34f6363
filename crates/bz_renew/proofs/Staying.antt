-- What was read of a link, and of a leaf that was frozen, stays known.
use Rattle.std.proofs.Common.{ℕ, ◌+◌, ◌<◌, ◌≤◌, arith, sym, ap, subst, ◌∙◌, inl, inr}
use Rattle.bz_layout.specs.Addresses.{node_address}
use Rattle.bz_layout.specs.declared.sizes.TheConstants.{STATUS_AT}
use Rattle.bz_task.specs.Instant.{page_at, form_at, is_inside}
use Rattle.bz_task.specs.Outcomes.{IsUnderNode, IsGuarded}
use Rattle.bz_task.specs.Requests.{IsPointerPlace}
use Rattle.bz_task.specs.Scene.{Past, Continues}
use Rattle.bz_task.specs.declared.path.Link.{Link}
use Rattle.bz_renew.specs.FrozenLeaves.{WasFrozenLeaf}

module _ (p q : Past) (c : Continues p q) where
  under-stays : (link : Link) (m : ℕ) → m ≤ p.now → IsUnderNode p link m → IsUnderNode q link m
  under-stays link m l u = record {
    parent = u.parent;
    place = u.place;
    reached = ap (λ x. x.reached u.parent) (c.at m l) ∙ u.reached;
    within = u.within;
    child = subst (λ z. IsPointerPlace z u.place) (λ t. page_at (sym c.config t) (sym (c.at m l) t) u.parent) u.child;
    pointer = u.pointer ∙ ap (λ z. node_address z u.parent + u.place) (sym c.config);
    guard = u.guard ∙ ap (λ z. node_address z u.parent + STATUS_AT) (sym c.config);
  }

  pub guarded-stays : (link : Link) → IsGuarded p link → IsGuarded q link
  guarded-stays link g =
      let l : g.guarded ≤ p.now = omega (arith, g.order, g.now) in record {
        guarded = g.guarded;
        read = g.read;
        since = omega (arith, g.since, c.since);
        order = g.order;
        now = omega (arith, g.now, c.now);
        under = elim g.under [ inl u ↦ inl u | inr u ↦ inr (under-stays link g.guarded l u) ];
        status = ap (λ x. x.value link.guard) (c.at g.guarded l) ∙ g.status;
        slot = ap (λ x. x.value link.link) (c.at g.read g.now) ∙ g.slot;
      }

  pub frozen-leaf-stays : (k m : ℕ) → WasFrozenLeaf k m p → WasFrozenLeaf k m q
  frozen-leaf-stays k m w = record {
    since = omega (arith, w.since, c.since);
    now = omega (arith, w.now, c.now);
    slot = subst (λ z. k < z.nodes) (sym c.config) w.slot;
    inside = (λ t. is_inside (c.config t) (c.at m w.now t) k) ∙ w.inside;
    leaf = (λ t. (form_at (c.config t) (c.at m w.now t)).level k) ∙ w.leaf;
    frozen = (λ t. (page_at (c.config t) (c.at m w.now t) k).frozen) ∙ w.frozen;
  }
