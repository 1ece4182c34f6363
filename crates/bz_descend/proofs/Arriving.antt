-- Where a descent arrives by a link: at the root, and at a child.
use Rattle.std.proofs.Common.{◌≡◌, ℕ, ◌+◌, ◌-◌, ◌<◌, true, false, List, arith, refl, sym, ap, subst, ◌∙◌, inl, inr}
use Rattle.std.specs.Prelude.{Some, slice_get}
use Rattle.std.proofs.lemmas.Bool.{cases_lt}
use Rattle.bz_layout.specs.Addresses.{node_address}
use Rattle.bz_layout.specs.declared.sizes.TheConstants.{STATUS_AT, ROOT_AT, ROOT_STATUS_AT}
use Rattle.bz_tree.specs.Order.{is_at_least, is_below}
use Rattle.bz_word.specs.Statuses.{status}
use Rattle.bz_task.specs.Good.{IsGood}
use Rattle.bz_task.specs.Instant.{page_at}
use Rattle.bz_task.specs.Laws.{HasRoot}
use Rattle.bz_task.specs.Outcomes.{IsUnderRoot, IsLink}
use Rattle.bz_task.specs.Requests.{Answers}
use Rattle.bz_task.specs.Scene.{Scene, IsScene, here}
use Rattle.bz_task.specs.declared.path.Link.{Link}
use Rattle.bz_task.specs.declared.path.Path.{Path}
use Rattle.bz_task.proofs.Proved.{roots_are_reached}
use Rattle.bz_descend.specs.Facts.{SawGuard}
use Rattle.bz_descend.specs.Inners.{HasChosen}
use Rattle.bz_descend.specs.Ways.{AreThawed, IsWay, Arrives}
use Rattle.bz_descend.specs.declared.sight.Probe.{Probe}
use Rattle.bz_descend.proofs.Inners.{level-few}
use Rattle.bz_descend.proofs.Leading.{link_to, Led, led, is-link}

some-same : (a b : Link) → Some a ≡ Some b → a ≡ b
some-same a b e = cc

-- the link to a root
abbrev pub root_link : ℕ → ℕ → Link
root_link st k = record { slot = k; link = ROOT_AT; guard = ROOT_STATUS_AT; status = st }

module _ (key : List ℕ) (s : Scene) (good : IsScene s) where
  module _ (st v : ℕ) (g : SawGuard st s.past) (a : Answers s ROOT_AT v) where
    here-good : IsGood s.past.config (here s)
    here-good = good.history.good s.past.now good.begun (omega arith)

    pub root-is : HasRoot s.past.config (here s) (v - 1)
    root-is = subst (λ z. HasRoot s.past.config (here s) (z - 1)) a.value (roots_are_reached s.past.config (here s) here-good)

    root-is-link : IsLink key s.past (root_link st (v - 1))
    root-is-link = record {
      was = s.past.now;
      since = good.begun;
      now = omega arith;
      inside = root-is.inside;
      slot = root-is.slot;
      range = rw (root-is.low, root-is.high) refl;
      led = root-is.pointer;
      guarded = record {
        guarded = g.guarded;
        read = s.past.now;
        since = g.begun;
        order = g.until;
        now = omega arith;
        under = inl (record { pointer = refl; guard = refl });
        status = g.value;
        slot = root-is.pointer;
      };
    }

    module _ (path : Path) (deep : path.depth ≡ 1) (first : slice_get path.links 0 ≡ Some (root_link st (v - 1))) where
      is-root : (i : ℕ) (link : Link) → i ≡ 0 → slice_get path.links i ≡ Some link → root_link st (v - 1) ≡ link
      is-root i link z e = some-same (root_link st (v - 1)) link (sym first ∙ (ap (slice_get path.links) (sym z) ∙ e))

      root-way : IsWay key path (v - 1) s.past
      root-way = record {
        some = omega (arith, deep);
        links = λ i link l e. subst (λ z. IsLink key s.past z) (is-root i link (omega (arith, l, deep)) e) root-is-link;
        first = λ link e. subst IsUnderRoot (is-root 0 link refl e) (record { pointer = refl; guard = refl });
        below = λ i link next l e f. absurd (omega (arith, l, deep));
        last = λ i link l e. sym (ap (λ z. z.slot) (is-root i link (omega (arith, l, deep)) e));
        thawed = λ i link p l e. absurd (omega (arith, p, l, deep));
      }

      pub root-arrives : Arrives key path (v - 1) s.past
      root-arrives =
          let few = level-few s.past.config (here s) (v - 1) here-good (λ e. omega (arith, e, root-is.slot)) root-is.inside in record {
            way = root-way;
            met = s.past.now;
            since = good.begun;
            until = omega arith;
            has = record {
              slot = root-is.slot;
              inside = root-is.inside;
              low = subst (λ z. is_at_least key z ≡ true) (sym root-is.low) refl;
              high = subst (λ z. is_below key z ≡ true) (sym root-is.high) refl;
            };
            reached = root-is.reached;
            low = omega (arith, few, deep);
          }

  module _ (path : Path) (r : Probe) (h : HasChosen key path r s.past) (v : ℕ) (told : Answers s (node_address s.past.config r.slot + r.pointer) v) where
    module _ (next : Path) (deep : next.depth ≡ path.depth + 1) (at : slice_get next.links path.depth ≡ Some (link_to s.past.config r (v - 1)))
        (others : (i : ℕ) → i < path.depth → slice_get next.links i ≡ slice_get path.links i) where
      is-new : (i : ℕ) (link : Link) → i ≡ path.depth → slice_get next.links i ≡ Some link → link_to s.past.config r (v - 1) ≡ link
      is-new i link z e = some-same (link_to s.past.config r (v - 1)) link (sym at ∙ (ap (slice_get next.links) (sym z) ∙ e))

      is-old : (i : ℕ) (link : Link) → i < path.depth → slice_get next.links i ≡ Some link → slice_get path.links i ≡ Some link
      is-old i link l e = sym (others i l) ∙ e

      old : IsWay key path r.slot s.past
      old = h.opened.at_inner.node.way

      child-links : (i : ℕ) (link : Link) → i < next.depth → slice_get next.links i ≡ Some link → IsLink key s.past link
      child-links i link l e = elim (cases_lt i path.depth) [
        | inl before ↦ old.links i link before (is-old i link before e)
        | inr after ↦ subst (λ z. IsLink key s.past z) (is-new i link (omega (arith, l, after, deep)) e) (is-link key path s good r h v told)
      ]

      child-below : (i : ℕ) (link new : Link) → i + 1 < next.depth → slice_get next.links i ≡ Some link → slice_get next.links (i + 1) ≡ Some new → new.guard ≡ node_address s.past.config link.slot + STATUS_AT
      child-below i link new l e f = elim (cases_lt (i + 1) path.depth) [
        | inl before ↦ old.below i link new before (is-old i link (omega (arith, before)) e) (is-old (i + 1) new before f)
        | inr after ↦ (
            let z : i + 1 ≡ path.depth = omega (arith, l, after, deep) in
            let k : link.slot ≡ r.slot = old.last i link z (is-old i link (omega (arith, z)) e) in
            sym (ap (λ y. y.guard) (is-new (i + 1) new z f)) ∙ ap (λ y. node_address s.past.config y + STATUS_AT) (sym k))
      ]

      child-thawed : AreThawed next
      child-thawed i link p l e = elim (cases_lt i path.depth) [
        | inl before ↦ old.thawed i link p before (is-old i link before e)
        | inr after ↦ subst (λ z. (status z.status).frozen ≡ false) (is-new i link (omega (arith, l, after, deep)) e) h.opened.thawed
      ]

      child-way : IsWay key next (v - 1) s.past
      child-way = record {
        some = omega (arith, deep);
        links = child-links;
        first = λ link e. old.first link (is-old 0 link old.some e);
        below = child-below;
        last = λ i link l e. sym (ap (λ z. z.slot) (is-new i link (omega (arith, l, deep)) e));
        thawed = child-thawed;
      }

      -- a level lower than the node above it
      pub child-met : (a : Arrives key next (v - 1) s.past) × ((page_at s.past.config (s.past.at a.met) (v - 1)).level + 1 ≡ (page_at s.past.config (s.past.at h.opened.at_inner.node.met) r.slot).level)
      child-met =
          let d : Led key s (node_address s.past.config r.slot + r.pointer) _ v = led key path s good r h v told in (
            record {
              way = child-way;
              met = d.was;
              since = d.since;
              until = d.until;
              has = d.has;
              reached = (good.history.good d.was d.since d.until).inside (v - 1) d.has.inside (λ e. omega (arith, e, d.has.slot));
              low = omega (arith, d.level, h.opened.at_inner.node.low, deep);
            },
            d.level,
          )

      pub child-arrives : Arrives key next (v - 1) s.past
      child-arrives = child-met.0
