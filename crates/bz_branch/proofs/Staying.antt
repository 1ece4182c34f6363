-- What was read of links and of inner nodes stays what it was.
use Rattle.std.proofs.Common.{◌≡◌, ℕ, ◌+◌, ◌<◌, ◌≤◌, List, slice_index, arith, refl, sym, ap, subst, ◌∙◌, inl, inr, Option}
use Rattle.bz_layout.specs.Addresses.{node_address}
use Rattle.bz_layout.specs.declared.config.Config.{Config}
use Rattle.bz_layout.specs.declared.sizes.TheConstants.{STATUS_AT}
use Rattle.bz_slotted.specs.Page.{Page}
use Rattle.bz_slotted.specs.Records.{pointer_at}
use Rattle.bz_task.specs.Instant.{Instant, words, page_at, form_at, is_inside}
use Rattle.bz_task.specs.Outcomes.{IsUnderNode, IsGuarded}
use Rattle.bz_task.specs.Requests.{IsPointerPlace}
use Rattle.bz_task.specs.Scene.{Past, Continues}
use Rattle.bz_task.specs.declared.path.Link.{Link}
use Rattle.bz_below.specs.FromSplit.BelowSplits.{AreLinksDown}
use Rattle.bz_below.specs.Parents.{WasWord, WasReadOrFree, WereRead, IsParentOf, WasParent}
use Rattle.bz_branch.specs.Nodes.{IsOpenLink, IsInnerNode, WasInner}
use Rattle.bz_branch.specs.Parts.{AreHalvesOfNode}

-- a child pointer stays one, of the same child
unfoldable pub child-stays : (o n : Page) (place : ℕ) → o ≡ n → IsPointerPlace o place → IsPointerPlace n place
child-stays o n place same h = record {
  inner = subst (λ (z : Page). 0 < z.level) same h.inner;
  child = h.child;
  counted = subst (λ (z : Page). h.child < z.count) same h.counted;
  place = h.place ∙ ap (λ (z : Page). pointer_at z h.child) same;
}

module _ (p q : Past) (c : Continues p q) where
  unfoldable pub under-stays : (link : Link) (m : ℕ) → m ≤ p.now → IsUnderNode p link m → IsUnderNode q link m
  under-stays link m l u = record {
    parent = u.parent;
    place = u.place;
    reached = ap (λ (x : Instant). x.reached u.parent) (c.at m l) ∙ u.reached;
    within = u.within;
    child = child-stays (page_at p.config (p.at m) u.parent) (page_at q.config (q.at m) u.parent) u.place (λ t. page_at (sym c.config t) (sym (c.at m l) t) u.parent) u.child;
    pointer = u.pointer ∙ ap (λ (z : Config). node_address z u.parent + u.place) (sym c.config);
    guard = u.guard ∙ ap (λ (z : Config). node_address z u.parent + STATUS_AT) (sym c.config);
  }

  -- the guard was read at the same moment
  unfoldable pub guard-stays : (link : Link) → IsGuarded p link → IsGuarded q link
  guard-stays link g = record {
    guarded = g.guarded;
    read = g.read;
    since = omega (arith, g.since, c.since);
    order = g.order;
    now = omega (arith, g.now, c.now);
    under = elim g.under [ inl u ↦ inl u | inr u ↦ inr (under-stays link g.guarded (omega (arith, g.order, g.now)) u) ];
    status = ap (λ (x : Instant). x.value link.guard) (c.at g.guarded (omega (arith, g.order, g.now))) ∙ g.status;
    slot = ap (λ (x : Instant). x.value link.link) (c.at g.read g.now) ∙ g.slot;
  }

  pub open-stays : (k : ℕ) (link : Link) → IsOpenLink k link p → IsOpenLink k link q
  unfolding guard-stays under-stays child-stays
  open-stays k link o = record { guard = guard-stays link o.guard; thawed = o.thawed; under = under-stays link o.guard.guarded (omega (arith, o.guard.order, o.guard.now)) o.under; parent = o.parent }

  pub open-guarded : (k : ℕ) (link : Link) (o : IsOpenLink k link p) → (open-stays k link o).guard.guarded ≡ o.guard.guarded
  unfolding open-stays guard-stays
  open-guarded k link o = refl

  pub links-stay : (upper lower : Link) → AreLinksDown upper lower p → AreLinksDown upper lower q
  unfolding guard-stays under-stays child-stays
  links-stay upper lower v = record {
    upper_guard = guard-stays upper v.upper_guard;
    upper_thawed = v.upper_thawed;
    guard = guard-stays lower v.guard;
    thawed = v.thawed;
    under = under-stays lower v.guard.guarded (omega (arith, v.guard.order, v.guard.now)) v.under;
    parent = v.parent;
  }

  pub links-guarded : (upper lower : Link) (v : AreLinksDown upper lower p) → (links-stay upper lower v).guard.guarded ≡ v.guard.guarded
  unfolding links-stay guard-stays
  links-guarded upper lower v = refl

  pub links-child : (upper lower : Link) (v : AreLinksDown upper lower p) → (links-stay upper lower v).under.child.child ≡ v.under.child.child
  unfolding links-stay guard-stays under-stays child-stays
  links-child upper lower v = refl

  word-stays : (k i v m : ℕ) → WasWord k i v m p → WasWord k i v m q
  word-stays k i v m w = record { moment = w.moment; order = w.order; now = omega (arith, w.now, c.now); word = (λ t. words (c.config t) (c.at w.moment w.now t) k i) ∙ w.word }

  free-stays : (k i m : ℕ) (read : List ℕ) → WasReadOrFree k i m read p → WasReadOrFree k i m read q
  free-stays k i m read (inl w) = inl (word-stays k i (slice_index read i) m w)
  free-stays k i m read (inr f) = inr f

  pub read-stays : (k m status place : ℕ) (read : List ℕ) → WereRead k m status place read p → WereRead k m status place read q
  read-stays k m status place read v = record { size = v.size; first = v.first; rest = λ i some l. free-stays k i m read (v.rest i some l); blank = v.blank }

  -- a node that was read stood at the same level between the same bounds
  unfoldable pub inner-stays : (k m : ℕ) (read : List ℕ) → m ≤ p.now → WasInner k m read p → WasInner k m read q
  inner-stays k m read l v = record {
    level = v.level;
    low = v.low;
    high = v.high;
    node = subst (λ (z : Config). IsInnerNode z.nodes read v.level v.low v.high) (sym c.config) v.node;
    reached = ap (λ (x : Instant). x.reached k) (c.at m l) ∙ v.reached;
    inside = (λ t. is_inside (c.config t) (c.at m l t) k) ∙ v.inside;
    were = (λ t. words (c.config t) (c.at m l t) k) ∙ v.were;
    level_is = (λ t. (form_at (c.config t) (c.at m l t)).level k) ∙ v.level_is;
    low_is = (λ t. (form_at (c.config t) (c.at m l t)).low k) ∙ v.low_is;
    high_is = (λ t. (form_at (c.config t) (c.at m l t)).high k) ∙ v.high_is;
  }

  unfoldable pub parent-stays : (upper lower : Link) (m i : ℕ) (sep read : List ℕ) → m ≤ p.now → WasParent upper lower m i sep read p → WasParent upper lower m i sep read q
  parent-stays upper lower m i sep read l v = record {
    level = v.level;
    low = v.low;
    high = v.high;
    parent = subst (λ (k : Config). IsParentOf k.nodes lower.slot sep read v.level i v.low v.high) (sym c.config) v.parent;
    reached = ap (λ (x : Instant). x.reached upper.slot) (c.at m l) ∙ v.reached;
    inside = (λ t. is_inside (c.config t) (c.at m l t) upper.slot) ∙ v.inside;
    were = (λ t. words (c.config t) (c.at m l t) upper.slot) ∙ v.were;
    level_is = (λ t. (form_at (c.config t) (c.at m l t)).level upper.slot) ∙ v.level_is;
    low_is = (λ t. (form_at (c.config t) (c.at m l t)).low upper.slot) ∙ v.low_is;
    high_is = (λ t. (form_at (c.config t) (c.at m l t)).high upper.slot) ∙ v.high_is;
  }

  -- the halves of a node are those of it
  pub halves-stay : (read left right sep : List ℕ) (level : ℕ) (low high : Option (List ℕ)) → AreHalvesOfNode p.config.nodes read left right sep level low high → AreHalvesOfNode q.config.nodes read left right sep level low high
  halves-stay read left right sep level low high h = subst (λ (z : Config). AreHalvesOfNode z.nodes read left right sep level low high) (sym c.config) h
