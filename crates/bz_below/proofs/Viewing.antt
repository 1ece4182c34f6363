-- What a path of two links and more, and a view of a frozen leaf show.
use Rattle.std.proofs.Common.{◌≡◌, ℕ, ◌+◌, ◌-◌, ◌<◌, ◌≤◌, true, List, arith, refl, sym, subst, ◌∙◌, inl, inr, Some}
use Rattle.std.specs.Prelude.{None, slice_get}
use Rattle.bz_layout.specs.Addresses.{node_address, SlotsApart}
use Rattle.bz_layout.specs.declared.sizes.TheConstants.{STATUS_AT}
use Rattle.bz_layout.specs.declared.thresholds.TheConstants.{SPLIT_ABOVE}
use Rattle.bz_node.specs.Records.{IsAbove, IsBelow}
use Rattle.bz_slotted.specs.Readers.{found_of, live_of}
use Rattle.bz_slotted.specs.ReadingLaws.{node_of}
use Rattle.bz_slotted.specs.Rules.{node_fault}
use Rattle.bz_word.specs.Statuses.{status}
use Rattle.bz_task.specs.Instant.{words, durable, form_at}
use Rattle.bz_task.specs.Outcomes.{IsPath, IsLink, IsView, IsUnderNode}
use Rattle.bz_task.specs.Scene.{Scene, IsScene}
use Rattle.bz_task.specs.declared.path.Link.{Link}
use Rattle.bz_task.specs.declared.path.Path.{Path}
use Rattle.bz_task.specs.declared.view.LeafView.{LeafView}
use Rattle.bz_renew.specs.Due.{LeadsTo}
use Rattle.bz_renew.specs.FrozenLeaves.{WasFrozenLeaf, ShowsFrozenLeaf, ViewsShowFrozenLeaves}
use Rattle.bz_below.specs.Facts.{HasPartedBelow, IsThawedAbove}
use Rattle.bz_split.specs.Parts.{ArePartsOf}

module _ (views : ViewsShowFrozenLeaves) (apart : SlotsApart) (key : List ℕ) (path : Path) (view : LeafView) (upper lower : Link) (left right sep : List ℕ) (s : Scene) (good : IsScene s) (p : IsPath key path s.past) (v : IsView key view s.past) (f : (status view.status).frozen ≡ true) (many : SPLIT_ABOVE < live_of (node_of view.image.0)) (leads : LeadsTo path view.slot) (thawed : IsThawedAbove path) (deep : 2 ≤ path.depth) (first : slice_get path.links (path.depth - 2) ≡ Some upper) (last : slice_get path.links (path.depth - 1) ≡ Some lower) (parts : ArePartsOf view.image.0 left right sep) where
  on : IsLink key s.past lower
  on = p.links (path.depth - 1) lower (omega (arith, deep)) last

  above : IsLink key s.past upper
  above = p.links (path.depth - 2) upper (omega (arith, deep)) first

  guard-is : lower.guard ≡ node_address s.past.config upper.slot + STATUS_AT
  guard-is =
      let next : path.depth - 1 ≡ path.depth - 2 + 1 = omega (arith, deep) in
      p.below (path.depth - 2) upper lower (omega (arith, deep)) first (subst (λ i. slice_get path.links i ≡ Some lower) next last)

  down : (u : IsUnderNode s.past lower on.guarded.guarded) × (u.parent ≡ upper.slot)
  down = elim on.guarded.under [
    | inl root ↦ absurd (omega (arith, root.guard, guard-is))
    | inr u ↦ (u, (apart s.past.config u.parent upper.slot STATUS_AT STATUS_AT (omega arith) (omega arith) (sym u.guard ∙ guard-is)).0)
  ]

  same : view.slot ≡ lower.slot
  same = sym (leads lower last).0

  shown : ShowsFrozenLeaf view s.past
  shown = views key view s good v f

  pub parted-below : HasPartedBelow upper lower left right sep s.past
  parted-below = record {
    links = record { upper_guard = above.guarded; upper_thawed = (thawed upper first).is; guard = on.guarded; thawed = (leads lower last).1; under = down.0; parent = down.1 };
    guarded = on.guarded.guarded;
    is_guarded = refl;
    child = down.0.child.child;
    is_child = refl;
    moment = view.at;
    leaf = subst (λ z. WasFrozenLeaf z view.at s.past) same shown.leaf;
    many = subst (λ z. SPLIT_ABOVE < live_of (durable s.past.config (s.past.at view.at) z)) same (subst (λ n. SPLIT_ABOVE < n) shown.live many);
    separator = parts.separator;
    above = subst (λ z. IsAbove ((form_at s.past.config (s.past.at view.at)).low z) sep) same (parts.above s.past.config.nodes _ _ shown.whole);
    below = subst (λ z. IsBelow ((form_at s.past.config (s.past.at view.at)).high z) sep) same (parts.below s.past.config.nodes _ _ shown.whole);
    left_whole = subst (λ z. node_fault s.past.config.nodes (node_of left) (node_of left) 0 ((form_at s.past.config (s.past.at view.at)).low z) (Some sep) ≡ None) same (parts.left_whole s.past.config.nodes _ _ shown.whole);
    right_whole = subst (λ z. node_fault s.past.config.nodes (node_of right) (node_of right) 0 (Some sep) ((form_at s.past.config (s.past.at view.at)).high z) ≡ None) same (parts.right_whole s.past.config.nodes _ _ shown.whole);
    before = λ k e. subst (λ z. found_of (node_of left) k ≡ found_of (words s.past.config (s.past.at view.at) z) k) same (parts.before k e ∙ shown.says k);
    from = λ k e. subst (λ z. found_of (node_of right) k ≡ found_of (words s.past.config (s.past.at view.at) z) k) same (parts.from k e ∙ shown.says k);
    left_size = parts.left_size;
    right_size = parts.right_size;
    left_plain = parts.left_plain;
    right_plain = parts.right_plain;
  }
