-- A leaf whose words stayed from the look at its status on is a view.
use Rattle.std.proofs.Common.{◌≡◌, ◌≢◌, ℕ, ◌+◌, ◌<◌, ◌≤◌, ◌&&◌, ◌||◌, Bool, true, false, List, arith, refl, sym, ap, subst, ◌∙◌, inl, inr}
use Rattle.std.specs.Prelude.{nat_lt, nat_le, None, slice_index}
use Rattle.std.proofs.lemmas.Bool.{cases_lt, true≢false}
use Rattle.std.proofs.lemmas.Bool.Decides.{nat_tests}
use Rattle.bz_layout.specs.Addresses.{node_address}
use Rattle.bz_layout.specs.declared.config.Config.{Config}
use Rattle.bz_layout.specs.declared.sizes.TheConstants.{NODE_WORDS, STATUS_AT, META_AT}
use Rattle.bz_tree.specs.Order.{is_at_least, is_below, is_within}
use Rattle.bz_tree.proofs.Proved.{leaves_tile_the_keys}
use Rattle.bz_slotted.specs.Page.{visible, held, page}
use Rattle.bz_slotted.specs.ReadingLaws.{node_of}
use Rattle.bz_slotted.specs.Rules.{node_fault}
use Rattle.bz_slotted.specs.Whole.{Whole}
use Rattle.bz_slotted.proofs.Proved.{leaf_rules_are_facts}
use Rattle.bz_word.specs.Statuses.{status}
use Rattle.bz_word.specs.declared.meta.Meta.{Meta}
use Rattle.bz_word.specs.declared.meta.Meta.TheVariants.{Unused, Reserved, Visible, Deleted}
use Rattle.bz_content.specs.Content.{view_in, leaf_in, IsWellFormed}
use Rattle.bz_content.specs.Image.{node}
use Rattle.bz_content.proofs.Proved.{well_formed_images_have_no_fault}
use Rattle.bz_task.specs.Good.{IsGood}
use Rattle.bz_task.specs.Instant.{Instant, words, durable, form_at, is_inside}
use Rattle.bz_task.specs.Laws.{SamePlace, IsLeafInTree}
use Rattle.bz_task.specs.Outcomes.{IsView}
use Rattle.bz_task.specs.Requests.{Answers}
use Rattle.bz_task.specs.Scene.{Scene, IsScene, here}
use Rattle.bz_task.specs.Shown.{IsShown, SameWords, SameRecords, SameShownNode}
use Rattle.bz_task.specs.declared.path.Link.{Link}
use Rattle.bz_task.specs.declared.view.LeafView.{LeafView}
use Rattle.bz_task.proofs.Proved.{fronts_stay, frozen_nodes_stay, leaves_are_in_trees, nodes_stay, ranges_stay, same_records_show_the_same, seen_leaves_are_whole}
use Rattle.bz_leaf.specs.Facts.{is_used, WasWord, Reading, HasRead, HasLink, IsMade}

unused : (a b : Bool) → a || b ≡ false → (a ≡ false) × (b ≡ false)
unused true b e = absurd (cc)
unused false b e = (refl, e)

and-left : (a b : Bool) → (a && b) ≡ true → a ≡ true
and-left true b e = refl
and-left false b e = e

and-right : (a b : Bool) → (a && b) ≡ true → b ≡ true
and-right true b e = e
and-right false b e = absurd (cc)

held-visible : (m : Meta) → visible m ≡ true → held m ≡ true
unfolding visible held
held-visible (Visible e) h = refl
held-visible (Reserved e) h = refl
held-visible (Deleted k t) h = absurd (cc)
held-visible Unused h = absurd (cc)

-- a place of a whole leaf that is shown is one of the node
shown-within : (raw n : ℕ → ℕ) (lo hi : _) → Whole raw (page n) lo hi → (i : ℕ) → IsShown n i → i < NODE_WORDS
shown-within raw n lo hi w i (inl h) = omega (arith, h, w.filled.room)
shown-within raw n lo hi w i (inr (inl h)) = omega (arith, h)
shown-within raw n lo hi w i (inr (inr (inl h))) = absurd (omega (arith, h, w.level.level))
shown-within raw n lo hi w i (inr (inr (inr r))) = omega (arith, r.1.to, (w.inside r.0 r.1.counted (held-visible _ r.1.visible)).ends)

same-records : (n m : ℕ → ℕ) → SameWords n m → SameRecords n m
same-records n m s = record {
  count = ap (λ z. (status z).count) (s STATUS_AT (inl (omega arith)));
  block = ap (λ z. (status z).block) (s STATUS_AT (inl (omega arith)));
  words = λ i ne h. s i h;
}

-- from the look at the status on the node stayed as it was
abbrev pub Stayed : Scene → ℕ → ℕ → Type 0
Stayed s k from = (m : ℕ) → from ≤ m → m ≤ s.past.now → SameShownNode s.past.config (s.past.at from) (s.past.at m) k

module _ (s : Scene) (good : IsScene s) (key : List ℕ) (link : Link) (ws : List ℕ) (r : Reading key link ws NODE_WORDS s.past) (a : ℕ) (from : r.read_at ≤ a) (to : a ≤ s.past.now)
    (stayed : Stayed s link.slot r.read_at) (leaf : IsLeafInTree s.past.config (s.past.at a) link.slot) where
  pub since-a : s.past.since ≤ a
  since-a = omega (arith, r.known.since, r.order, from)

  g : IsGood s.past.config (s.past.at a)
  g = good.history.good a since-a to

  w : Whole (node s.past.config (s.past.at a).image link.slot) (page (durable s.past.config (s.past.at a) link.slot)) ((form_at s.past.config (s.past.at a)).low link.slot) ((form_at s.past.config (s.past.at a)).high link.slot)
  w = (leaf_rules_are_facts s.past.config.nodes (node s.past.config (s.past.at a).image link.slot) (durable s.past.config (s.past.at a) link.slot) _ _).0 leaf.whole

  same-a : SameShownNode s.past.config (s.past.at r.read_at) (s.past.at a) link.slot
  same-a = stayed a from to

  pub status-a : words s.past.config (s.past.at a) link.slot STATUS_AT ≡ slice_index ws 0
  status-a = same-a STATUS_AT (inl (omega arith)) ∙ r.was

  durable-same : SameWords (words s.past.config (s.past.at a) link.slot) (durable s.past.config (s.past.at a) link.slot)
  durable-same i h = g.shown link.slot i leaf.reached h

  durable-status : durable s.past.config (s.past.at a) link.slot STATUS_AT ≡ slice_index ws 0
  durable-status = durable-same STATUS_AT (inl (omega arith)) ∙ status-a

  -- a place that was shown when the status was read
  shown-then : (i : ℕ) → IsShown (words s.past.config (s.past.at a) link.slot) i → IsShown (words s.past.config (s.past.at r.read_at) link.slot) i
  shown-then i h = (same_records_show_the_same _ _ (same-records _ _ same-a) i).1 h

  word-used : (i : ℕ) → 0 < i → i < NODE_WORDS → is_used (slice_index ws 0) i ≡ true → IsShown (words s.past.config (s.past.at a) link.slot) i → slice_index ws i ≡ words s.past.config (s.past.at a) link.slot i
  word-used i some l u h =
      let v : WasWord link.slot i (slice_index ws i) r.read_at s.past = r.read i some l u in
      sym v.word ∙ (stayed v.moment v.order v.now i (shown-then i h) ∙ sym (same-a i (shown-then i h)))

  word-free : (i : ℕ) → 0 < i → is_used (slice_index ws 0) i ≡ false → IsShown (words s.past.config (s.past.at a) link.slot) i → slice_index ws i ≡ words s.past.config (s.past.at a) link.slot i
  word-free i some u h =
      let p = unused (nat_lt i (META_AT + (status (slice_index ws 0)).count)) (nat_le NODE_WORDS (i + (status (slice_index ws 0)).block)) u in
      let above : META_AT + (status (slice_index ws 0)).count ≤ i = grind (arith, nat_tests) in
      let below : i + (status (slice_index ws 0)).block < NODE_WORDS = grind (arith, nat_tests) in
      let count = ap (λ z. (status z).count) durable-status in
      let block = ap (λ z. (status z).block) durable-status in
      let zero : durable s.past.config (s.past.at a) link.slot i ≡ 0 = w.filled.free i (omega (arith, above, count)) (omega (arith, below, block)) in
      r.rest i some u ∙ (sym zero ∙ durable-same i h)

  word-a : (i : ℕ) → i < NODE_WORDS → IsShown (words s.past.config (s.past.at a) link.slot) i → slice_index ws i ≡ words s.past.config (s.past.at a) link.slot i
  word-a i l h = elim (cases_lt 0 i) [
    | inl some ↦ go some (is_used (slice_index ws 0) i) refl
    | inr none ↦ (let e : i ≡ STATUS_AT = omega (arith, none) in subst (λ z. slice_index ws z ≡ words s.past.config (s.past.at a) link.slot z) (sym e) (sym status-a))
  ]
    where
      go : 0 < i → (u : Bool) → is_used (slice_index ws 0) i ≡ u → slice_index ws i ≡ words s.past.config (s.past.at a) link.slot i
      go some true e = word-used i some l e h
      go some false e = word-free i some e h

  pub word-durable : SameWords (durable s.past.config (s.past.at a) link.slot) (node_of ws)
  word-durable i h =
      let l : i < NODE_WORDS = shown-within _ _ _ _ w i h in
      let h' : IsShown (words s.past.config (s.past.at a) link.slot) i = (same_records_show_the_same _ _ (same-records _ _ durable-same) i).1 h in
      word-a i l h' ∙ sym (durable-same i h')

  pub whole-view : node_fault s.past.config.nodes (node_of ws) (node_of ws) 0 ((form_at s.past.config (s.past.at a)).low link.slot) ((form_at s.past.config (s.past.at a)).high link.slot) ≡ None
  whole-view = (seen_leaves_are_whole s.past.config.nodes (node s.past.config (s.past.at a).image link.slot) (durable s.past.config (s.past.at a) link.slot) (node_of ws) _ _ leaf.whole word-durable).whole

  below : link.slot ≢ s.past.config.nodes
  below e = omega (arith, e, r.known.slot)

  place : SamePlace s.past.config (s.past.at r.known.moment) (s.past.at a) link.slot
  place = ranges_stay s.past.config s.past.at s.past.since s.past.now r.known.moment a link.slot good.history (record { since = r.known.since; order = omega (arith, r.order, from); until = to }) below r.known.inside leaf.inside

  in-range : is_within key ((form_at s.past.config (s.past.at a)).low link.slot) ((form_at s.past.config (s.past.at a)).high link.slot) ≡ true
  in-range = rw (place.low, place.high) r.known.range

  pub leaf-of : leaf_in s.past.config (s.past.at a).image key ≡ link.slot
  leaf-of =
      let formed : IsWellFormed s.past.config (s.past.at a).image = (well_formed_images_have_no_fault s.past.config (s.past.at a).image).0 g.form in
      let low = (form_at s.past.config (s.past.at a)).low link.slot in
      let high = (form_at s.past.config (s.past.at a)).high link.slot in
      (leaves_tile_the_keys (view_in s.past.config (s.past.at a).image) formed.tree key link.slot).0 (record {
        inside = leaf.inside;
        leaf = leaf.leaf;
        low = and-left (is_at_least key low) (is_below key high) in-range;
        high = and-right (is_at_least key low) (is_below key high) in-range;
      })

  pub is-view : (view : LeafView) → IsMade view link.slot a ws → s.past.loads a ≡ true → IsView key view s.past
  is-view view m loads = record {
    since = rw m.at since-a;
    now = rw m.at to;
    loads = rw m.at loads;
    leaf = rw (m.at, m.slot) leaf-of;
    slot = rw m.slot r.known.slot;
    status = rw (m.at, m.slot, m.status) status-a;
    plain = rw m.status r.plain;
    words = rw (m.at, m.slot, m.image) word-a;
    whole = rw (m.at, m.slot, m.image) whole-view;
  }

-- a read of a word of the slot
pub status-word : (c : Config) (x : Instant) (k : ℕ) → x.value (node_address c k + STATUS_AT) ≡ words c x k STATUS_AT
unfolding node
status-word c x k = refl

module _ (s : Scene) (good : IsScene s) (key : List ℕ) (link : Link) (ws : List ℕ) where
  module _ (r : Reading key link ws NODE_WORDS s.past) where
    since-read : s.past.since ≤ r.read_at
    since-read = omega (arith, r.known.since, r.order)

    pub reached-at : (m : ℕ) → r.known.moment ≤ m → m ≤ s.past.now → (s.past.at m).reached link.slot ≡ true
    reached-at m from to =
        let gm : IsGood s.past.config (s.past.at r.known.moment) = good.history.good r.known.moment r.known.since (omega (arith, from, to)) in
        let was : (s.past.at r.known.moment).reached link.slot ≡ true = gm.inside link.slot r.known.inside (λ e. omega (arith, e, r.known.slot)) in
        (fronts_stay s.past.config s.past.at s.past.since s.past.now r.known.moment m link.slot good.history (record { since = r.known.since; order = from; until = to }) was).reached

    -- a slot that is in the tree is the leaf that it was
    pub leaf-at : (m : ℕ) → r.known.moment ≤ m → m ≤ s.past.now → is_inside s.past.config (s.past.at m) link.slot ≡ true → IsLeafInTree s.past.config (s.past.at m) link.slot
    leaf-at m from to i =
        let p : SamePlace s.past.config (s.past.at r.known.moment) (s.past.at m) link.slot =
        ranges_stay s.past.config s.past.at s.past.since s.past.now r.known.moment m link.slot good.history (record { since = r.known.since; order = from; until = to }) (λ e. omega (arith, e, r.known.slot)) r.known.inside i in
        leaves_are_in_trees s.past.config (s.past.at m) link.slot (good.history.good m (omega (arith, r.known.since, from)) to) r.known.slot i (p.level ∙ r.known.leaf)

  -- not frozen: the status is the same now
  module _ (h : HasRead key link ws false s.past) (a : Answers s (node_address s.past.config link.slot + STATUS_AT) (slice_index ws 0)) where
    now-status : words s.past.config (here s) link.slot STATUS_AT ≡ slice_index ws 0
    now-status = sym (status-word s.past.config (here s) link.slot) ∙ a.value

    reached-then : (s.past.at h.all.read_at).reached link.slot ≡ true
    reached-then = reached-at h.all h.all.read_at h.all.order h.all.until

    pub thawed-stays : Stayed s link.slot h.all.read_at
    thawed-stays i from to =
        nodes_stay s.past.config s.past.at s.past.since s.past.now h.all.read_at i s.past.now link.slot good.history (record { since = since-read h.all; order = h.all.until; until = omega arith }) from to reached-then (now-status ∙ sym h.all.was)

    gn : IsGood s.past.config (here s)
    gn = good.history.good s.past.now good.begun (omega arith)

    inside : is_inside s.past.config (here s) link.slot ≡ true
    inside = elim (gn.placed link.slot (reached-at h.all s.past.now (omega (arith, h.all.order, h.all.until)) (omega arith))) [
      | inl i ↦ i
      | inr f ↦ absurd (true≢false (sym f ∙ (ap (λ z. (status z).frozen) now-status ∙ h.is)))
    ]

    pub thawed-leaf : IsLeafInTree s.past.config (here s) link.slot
    thawed-leaf = leaf-at h.all s.past.now (omega (arith, h.all.order, h.all.until)) (omega arith) inside

    pub thawed-view : (view : LeafView) → IsMade view link.slot s.past.now ws → IsView key view s.past
    thawed-view view m = is-view s good key link ws h.all s.past.now h.all.until (omega arith) thawed-stays thawed-leaf view m a.loads

  -- frozen: the link led to it, and its guard is not frozen now
  module _ (at : ℕ) (h : HasLink key link ws at s.past) where
    frozen-reached : (s.past.at h.leaf.all.read_at).reached link.slot ≡ true
    frozen-reached = reached-at h.leaf.all h.leaf.all.read_at h.leaf.all.order h.leaf.all.until

    pub frozen-stays : Stayed s link.slot h.leaf.all.read_at
    frozen-stays i from to =
        frozen_nodes_stay s.past.config s.past.at s.past.since s.past.now h.leaf.all.read_at i link.slot good.history (record { since = since-read h.leaf.all; order = from; until = to }) frozen-reached (ap (λ z. (status z).frozen) h.leaf.all.was ∙ h.leaf.is)

    pub frozen-leaf : is_inside s.past.config (s.past.at at) link.slot ≡ true → IsLeafInTree s.past.config (s.past.at at) link.slot
    frozen-leaf i = leaf-at h.leaf.all at (omega (arith, h.leaf.all.order, h.order)) h.until i

    pub frozen-view : is_inside s.past.config (s.past.at at) link.slot ≡ true → (view : LeafView) → IsMade view link.slot at ws → IsView key view s.past
    frozen-view i view m = is-view s good key link ws h.leaf.all at h.order h.until frozen-stays (frozen-leaf i) view m h.loads
