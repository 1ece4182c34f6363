-- The swap of a merge puts one leaf in the place of two neighbours.
use Rattle.std.proofs.Common.{◌≡◌, ◌≢◌, ℕ, ◌+◌, ◌<◌, ◌==◌, if◌then◌else◌, Bool, true, false, List, [], ◌∷◌, arith, refl, sym, ap, subst, ◌∙◌, inl, inr, Option}
use Rattle.std.specs.Prelude.{not, Some, None}
use Rattle.std.proofs.lemmas.Bool.{true≢false}
use Rattle.bz_branch.specs.Nodes.{IsOpenLink}
use Rattle.bz_branch.proofs.Standing.{node-below}
use Rattle.bz_join.specs.Parents.{IsJoinedParent, joined_parent}
use Rattle.bz_join.proofs.Proved.{children_join}
use Rattle.bz_layout.specs.Addresses.{node_address}
use Rattle.bz_layout.specs.declared.config.Config.{Config}
use Rattle.bz_layout.specs.declared.sizes.TheConstants.{STATUS_AT}
use Rattle.bz_layout.specs.declared.thresholds.TheConstants.{MERGE_SLOTS}
use Rattle.bz_any_task.specs.FromMerge.Facts.{MERGE_WORDS, MERGE_LINES, IsMerging}
use Rattle.bz_any_task.specs.FromMerge.Merges.{StoodFrozen}
use Rattle.bz_any_task.specs.FromMerge.Plans.{beside_leaf, first_of, second_of, sep_of, viewed_leaf, IsPlanned, Merging}
use Rattle.bz_any_task.specs.FromMerge.Siblings.{SeenLeaf}
use Rattle.bz_node.specs.Reading.{children_in}
use Rattle.bz_renew.specs.Freezings.{freezing_entry}
use Rattle.bz_renew.specs.LinkSwaps.{IsFresh}
use Rattle.bz_renew.specs.Renewals.{renewal, link_entry, guard_entry}
use Rattle.bz_renew.specs.Standing.{StillLeads}
use Rattle.bz_renew.specs.Turning.{TurnsWith, AreGoing}
use Rattle.bz_renew.proofs.Freezings.{renewal-holds}
use Rattle.bz_renew.proofs.FreshSlots.{outside-tree}
use Rattle.bz_renew.proofs.Inserting.{all-inserted-first}
use Rattle.bz_renew.proofs.TwoEntries.{both-stand}
use Rattle.bz_renew.proofs.Words.{or-right}
use Rattle.bz_renew.proofs.Proved.{child_links_turn_with, guarded_links_stand, root_links_turn_with}
use Rattle.bz_tree.proofs.TreeForms.{fits}
use Rattle.bz_tree.specs.Form.{Fits, Form, Holds as HoldsKey, Stands}
use Rattle.bz_tree.specs.Order.{is_at_least, is_before, is_below}
use Rattle.bz_tree.specs.Slots.{Wider}
use Rattle.bz_tree.specs.View.{View}
use Rattle.bz_tree.specs.Walk.{is_among}
use Rattle.bz_slotted.specs.ReadingLaws.{node_of}
use Rattle.bz_slotted.specs.Readers.{count_of, child_of, key_of, found_of}
use Rattle.bz_slotted.specs.Rules.{node_fault}
use Rattle.bz_split.specs.BelowSplits.{parent_freezing, below_swap, AreLinksDown}
use Rattle.bz_word.specs.declared.entry.Entry.{Entry}
use Rattle.bz_content.proofs.Honesty.{no}
use Rattle.bz_content.specs.Content.{image_of, view_in}
use Rattle.bz_content.specs.Image.{node}
use Rattle.bz_content.specs.Restructures.{children_of, Merges}
use Rattle.bz_content.specs.Swaps.{TurnsLink}
use Rattle.bz_task.specs.Good.{IsGood}
use Rattle.bz_task.specs.Instant.{Instant, words, durable, form_at}
use Rattle.bz_task.specs.Laws.{SamePlace}
use Rattle.bz_task.specs.Outcomes.{IsUnderNode}
use Rattle.bz_task.specs.Scene.{Scene, IsScene, here}
use Rattle.bz_task.specs.Swaps.{Stand, SwapsTo}
use Rattle.bz_task.proofs.Proved.{ranges_stay}
use Rattle.bz_tally.proofs.Frozen.{still-says}
use Rattle.bz_tally.proofs.Links.{in-parent, node-freezable, node-leads, node-place, node-words, leaf-now, out-one, tree-now}
use Rattle.bz_tally.proofs.Pairs.{first-child, own-once, second-child, to-first, to-second}
use Rattle.bz_tally.proofs.Splitting.{Holds, raw-after, after}
use Rattle.bz_tally.proofs.Stored.{each-fresh, each-held}
use Rattle.bz_tally.specs.Counts.{IsLeafNow}

-- a key in a range that ends at a separator is before it, and one in a range that begins there is not
ends-before : (key sep : List ℕ) (high : Option (List ℕ)) → high ≡ Some sep → is_below key high ≡ true → is_before key sep ≡ true
ends-before key sep high e h = subst (λ z. is_below key z ≡ true) e h

begins-from : (key sep : List ℕ) (low : Option (List ℕ)) → low ≡ Some sep → is_at_least key low ≡ true → is_before key sep ≡ false
begins-from key sep low e h = go (is_before key sep) refl (subst (λ z. is_at_least key z ≡ true) e h)
  where
    go : (t : Bool) → is_before key sep ≡ t → not t ≡ true → t ≡ false
    go true q z = absurd (true≢false (sym z))
    go false q z = refl

module _ (r : Merging) (s : Scene) (good : IsScene s) (f : IsMerging r MERGE_WORDS MERGE_LINES s) (stand : Stand (below_swap s.past.config r.upper r.lower (r.slot 0)) (here s)) where
  abbrev c : Config
  c = s.past.config

  abbrev p : ℕ
  p = r.upper.slot

  abbrev q : ℕ
  q = r.slot 0

  abbrev m : ℕ
  m = r.slot 1

  abbrev plan : IsPlanned r s.past
  plan = f.frozen.planned

  abbrev links : AreLinksDown r.upper r.lower s.past
  links = plan.paired.viewed.links

  abbrev o : IsOpenLink r.upper.slot r.lower s.past
  o = in-parent s r.upper r.lower links

  abbrev first : SeenLeaf
  first = first_of r.right (viewed_leaf r) (beside_leaf r)

  abbrev second : SeenLeaf
  second = second_of r.right (viewed_leaf r) (beside_leaf r)

  abbrev old : ℕ → ℕ
  old = node_of r.read

  abbrev sep : List ℕ
  sep = sep_of r.read r.place

  abbrev fm : Form
  fm = form_at c (here s)

  abbrev v : View
  v = view_in c (here s).image

  abbrev holds : Entry → Type 0
  holds e = (here s).value e.target ≡ e.expected

  -- the parent's status is as it was read, and so is the guard of the link to it
  parent-now : (here s).value (node_address c p + STATUS_AT) ≡ r.lower.status
  parent-now = all-inserted-first holds (freezing_entry c (parent_freezing r.upper r.lower)) (renewal r.upper q) stand

  upper-now : (here s).value r.upper.guard ≡ r.upper.status
  upper-now = (both-stand (link_entry r.upper q) (guard_entry r.upper) (here s) (renewal-holds c r.upper q holds (parent_freezing r.upper r.lower ∷ []) stand)).1

  leads : StillLeads r.lower s links.guard.guarded p links.under.child.child
  leads = node-leads s p r.lower good o parent-now

  place : SamePlace c (s.past.at plan.paired.viewed.guarded) (here s) p
  place = subst (λ g. SamePlace c (s.past.at g) (here s) p) plan.paired.viewed.is_guarded (node-place s p r.lower good o parent-now)

  were : durable c (here s) p ≡ old
  were = node-words s p r.lower good o parent-now ∙ (ap (λ g. words c (s.past.at g) p) plan.paired.viewed.is_guarded ∙ plan.paired.parent.were)

  p-below : p ≢ c.nodes
  p-below e = absurd (omega (arith, e, node-below s p r.lower good o))

  -- the children of the parent, as they were read
  count-now : v.count p ≡ count_of old
  count-now = rw (no p c.nodes p-below) (ap count_of were)

  child-now : (j : ℕ) → v.child p j ≡ child_of old j
  child-now j = rw (no p c.nodes p-below) (ap (λ n. child_of n j) were)

  key-now : (j : ℕ) → v.key p j ≡ key_of old j
  key-now j = rw (no p c.nodes p-below) (ap (λ n. key_of n j) were)

  -- the parent stands above leaves
  level-one : fm.level p ≡ 1
  level-one =
      let w = own-once r s.past plan in
      let l : SamePlace c (s.past.at w.moment) (here s) r.lower.slot =
      ranges_stay c s.past.at s.past.since s.past.now w.moment s.past.now r.lower.slot good.history (record { since = w.since; order = w.now; until = omega arith }) (λ e. absurd (omega (arith, e, w.slot))) w.inside leads.stands.inside in
      omega (arith, leads.stands.level, l.level, w.leaf)

  g : Fits v fm
  g = fits v (tree-now s good)

  stands-at : (j k : ℕ) → j < count_of old → child_of old j ≡ k → Stands v fm p j k
  stands-at j k l e = subst (Stands v fm p j) (child-now j ∙ e) (g.down p j leads.inside (omega (arith, level-one)) (subst (λ n. j < n) (sym count-now) l))

  first-stands : Stands v fm p r.place first.slot
  first-stands = stands-at r.place first.slot (omega (arith, plan.paired.pair.counted)) (first-child r.read r.right r.place (viewed_leaf r) (beside_leaf r) plan.paired.pair)

  second-stands : Stands v fm p (r.place + 1) second.slot
  second-stands = stands-at (r.place + 1) second.slot plan.paired.pair.counted (second-child r.read r.right r.place (viewed_leaf r) (beside_leaf r) plan.paired.pair)

  flat : (k j : ℕ) → Stands v fm p j k → fm.level k ≡ 0
  flat k j t = omega (arith, t.level, level-one)

  slot-of : (k j : ℕ) → Stands v fm p j k → k < c.nodes
  slot-of k j t = let n : IsGood c (here s) = good.history.good s.past.now good.begun (omega arith) in n.slots k (n.inside k t.inside (λ e. absurd (omega (arith, ap fm.level e, flat k j t, g.height, g.tall))))

  -- their bounds: they meet at the separator
  low-first : fm.low first.slot ≡ plan.low
  low-first = first-stands.low ∙ ((λ t. if r.place == 0 then (place.low ∙ plan.paired.parent.low_is) t else Some (key-now r.place t)) ∙ sym plan.low_is)

  high-first : fm.high first.slot ≡ Some sep
  high-first =
      let e : (r.place + 1 == v.count p) ≡ false = no (r.place + 1) (v.count p) (λ e. absurd (omega (arith, e, count-now, plan.paired.pair.counted))) in
      first-stands.high ∙ (ap (λ t. if t then fm.high p else Some (v.key p (r.place + 1))) e ∙ ap Some (key-now (r.place + 1)))

  low-second : fm.low second.slot ≡ Some sep
  low-second =
      let e : (r.place + 1 == 0) ≡ false = no (r.place + 1) 0 (λ e. absurd (omega (arith, e))) in
      second-stands.low ∙ (ap (λ t. if t then fm.low p else Some (v.key p (r.place + 1))) e ∙ ap Some (key-now (r.place + 1)))

  high-second : fm.high second.slot ≡ plan.high
  high-second =
      second-stands.high
      ∙ ((λ t. if r.place + 1 + 1 == count-now t then (place.high ∙ plan.paired.parent.high_is) t else Some (key-now (r.place + 1 + 1) t)) ∙ sym plan.high_is)

  -- the new nodes
  joined : IsJoinedParent c.nodes r.read plan.paired.parent.level plan.paired.parent.low plan.paired.parent.high r.place m
  joined = children_join c.nodes plan.paired.parent.raw r.read plan.paired.parent.level plan.paired.parent.low plan.paired.parent.high r.place m
      (record { few = plan.paired.parent.few; size = plan.paired.parent.size; inner = plan.paired.parent.inner; none = plan.paired.parent.none; within = plan.paired.pair.counted }) (f.writing.slots.within 1 (omega arith))

  abbrev parent : List ℕ
  parent = joined_parent (children_in r.read) r.place m plan.paired.parent.low plan.paired.parent.high plan.paired.parent.level

  over : r.image 0 ≡ parent
  over = f.over c.nodes plan.paired.parent.raw plan.paired.parent.level plan.paired.parent.low plan.paired.parent.high plan.paired.parent.none

  narrow : Wider (children_of (node_of parent)) (children_of old) r.place first.slot second.slot sep
  narrow =
      subst (λ k. Wider (children_of (node_of parent)) (children_of old) r.place k second.slot sep) (first-child r.read r.right r.place (viewed_leaf r) (beside_leaf r) plan.paired.pair)
      (subst (λ k. Wider (children_of (node_of parent)) (children_of old) r.place (child_of old r.place) k sep) (second-child r.read r.right r.place (viewed_leaf r) (beside_leaf r) plan.paired.pair) joined.narrower)

  fresh : (n : ℕ) → n < MERGE_SLOTS → IsFresh s (r.slot n)
  fresh n h = each-fresh MERGE_SLOTS r.slot r.image s f.plain f.writing n h

  stored : (n : ℕ) → n < MERGE_SLOTS → Holds s (r.slot n) (node_of (r.image n))
  stored n h = record { fresh = fresh n h; has = each-held MERGE_SLOTS r.slot r.image s f.plain f.writing n h }

  abbrev gone : List ℕ
  gone = first.slot ∷ second.slot ∷ p ∷ []

  going : AreGoing (parent_freezing r.upper r.lower ∷ []) gone s
  going = record {
    freezable = (node-freezable s p r.lower good o parent-now, (refl, tt));
    go = λ k e. or-right (first.slot == k) (is_among (second.slot ∷ p ∷ []) k) (or-right (second.slot == k) (is_among (p ∷ []) k) e);
  }

  -- both were frozen
  abbrev WasFrozen : SeenLeaf → Type 0
  WasFrozen l = StoodFrozen l.slot l.image s.past

  first-frozen : WasFrozen first
  first-frozen = to-first WasFrozen r.right (viewed_leaf r) (beside_leaf r) f.frozen.own f.frozen.other

  second-frozen : WasFrozen second
  second-frozen = to-second WasFrozen r.right (viewed_leaf r) (beside_leaf r) f.frozen.own f.frozen.other

  module _ (y : Instant) (swaps : SwapsTo c (below_swap c r.upper r.lower q) (here s) y) where
    module _ (top j : ℕ) (changed : List ℕ) (t : TurnsWith r.upper q (parent_freezing r.upper r.lower ∷ []) gone s y top j changed) where
      has : (n : ℕ) → n < MERGE_SLOTS → durable c y (r.slot n) ≡ node_of (r.image n)
      has n h = after s y good r.upper (parent_freezing r.upper r.lower ∷ []) q gone top j changed t swaps (r.slot n) (node_of (r.image n)) (stored n h)

      has-raw : (n : ℕ) → n < MERGE_SLOTS → node c y.image (r.slot n) ≡ node_of (r.image n)
      has-raw n h = raw-after s y good r.upper (parent_freezing r.upper r.lower ∷ []) q gone top j changed t swaps (r.slot n) (node_of (r.image n)) (stored n h)

      turns : TurnsLink c (image_of (here s).image) (image_of y.image) (fm.up p) (fm.index p) q gone
      turns =
          subst (λ k. TurnsLink c (image_of (here s).image) (image_of y.image) k (fm.index p) q gone) (sym t.up)
          (subst (λ k. TurnsLink c (image_of (here s).image) (image_of y.image) top k q gone) (sym t.index) t.turns)

      has-parent : durable c y q ≡ node_of parent
      has-parent = has 0 (omega arith) ∙ ap node_of over

      narrower : Wider (children_of (durable c y q)) (children_of (durable c (here s) p)) r.place first.slot second.slot sep
      narrower = subst (λ n. Wider (children_of n) (children_of (durable c (here s) p)) r.place first.slot second.slot sep) (sym has-parent)
          (subst (λ n. Wider (children_of (node_of parent)) (children_of n) r.place first.slot second.slot sep) (sym were) narrow)

      first-says : (key : List ℕ) → HoldsKey fm key first.slot → found_of (durable c y m) key ≡ found_of (durable c (here s) first.slot) key
      first-says key h =
          ap (λ n. found_of n key) (has 1 (omega arith))
          ∙ (f.one.before c.nodes plan.low sep plan.first.whole key (ends-before key sep (fm.high first.slot) high-first h.high)
          ∙ sym (still-says s first.slot first.image good first-frozen (slot-of first.slot r.place first-stands) first-stands.inside (flat first.slot r.place first-stands) key))

      second-says : (key : List ℕ) → HoldsKey fm key second.slot → found_of (durable c y m) key ≡ found_of (durable c (here s) second.slot) key
      second-says key h =
          ap (λ n. found_of n key) (has 1 (omega arith))
          ∙ (f.one.from c.nodes plan.low sep plan.first.whole key (begins-from key sep (fm.low second.slot) low-second h.low)
          ∙ sym (still-says s second.slot second.image good second-frozen (slot-of second.slot (r.place + 1) second-stands) second-stands.inside (flat second.slot (r.place + 1) second-stands) key))

      merges-at : Merges c (image_of (here s).image) (image_of y.image) first.slot second.slot q m sep
      merges-at = record {
        inside = first-stands.inside;
        inside_b = second-stands.inside;
        leaf = flat first.slot r.place first-stands;
        same_up = second-stands.up ∙ sym first-stands.up;
        next = omega (arith, second-stands.index, first-stands.index);
        deep = λ e. p-below (sym first-stands.up ∙ e);
        fresh_q = outside-tree s q good (fresh 0 (omega arith));
        fresh_m = outside-tree s m good (fresh 1 (omega arith));
        two = λ e. absurd (omega (arith, f.writing.slots.apart 0 1 (omega arith) (omega arith) e));
        link = subst (λ k. TurnsLink c (image_of (here s).image) (image_of y.image) (fm.up k) (fm.index k) q (first.slot ∷ second.slot ∷ k ∷ [])) (sym first-stands.up) turns;
        child = subst (λ k. child_of (durable c y q) k ≡ m) (sym first-stands.index) (ap (λ n. child_of n r.place) has-parent ∙ joined.child);
        narrower = subst (λ k. Wider (children_of (durable c y q)) (children_of (durable c (here s) k)) (fm.index first.slot) first.slot second.slot sep) (sym first-stands.up)
            (subst (λ k. Wider (children_of (durable c y q)) (children_of (durable c (here s) p)) k first.slot second.slot sep) (sym first-stands.index) narrower);
        says_a = first-says;
        says_b = second-says;
        whole_q = subst (λ k. node_fault c.nodes (node c y.image q) (durable c y q) (fm.level k) (fm.low k) (fm.high k) ≡ None) (sym first-stands.up)
            ((λ e. node_fault c.nodes ((has-raw 0 (omega arith) ∙ ap node_of over) e) (has-parent e) ((place.level ∙ plan.paired.parent.level_is) e) ((place.low ∙ plan.paired.parent.low_is) e) ((place.high ∙ plan.paired.parent.high_is) e)) ∙ joined.inner.none);
        whole_m = (λ e. node_fault c.nodes (has-raw 1 (omega arith) e) (has 1 (omega arith) e) 0 (low-first e) (high-second e)) ∙ f.one.whole c.nodes plan.low plan.high sep plan.first.whole plan.second.whole;
      }

    -- the parent is none of the nodes above it
    not-above : (under : IsUnderNode s.past r.upper links.upper_guard.guarded) → p ≢ under.parent
    not-above under e = absurd (omega (arith, ap fm.level e, (guarded_links_stand s r.upper good links.upper_guard links.upper_thawed under upper-now).stands.level))

    -- what is so wherever the link to the parent stands
    by-turning : (P : Type 0) → ((top j : ℕ) (changed : List ℕ) → TurnsWith r.upper q (parent_freezing r.upper r.lower ∷ []) gone s y top j changed → P) → P
    by-turning P told = elim links.upper_guard.under [
      | inl root ↦ told c.nodes 0 (p ∷ []) (root_links_turn_with s y r.upper q (parent_freezing r.upper r.lower ∷ []) gone good root (f.writing.slots.within 0 (omega arith)) going stand swaps)
      | inr node ↦ told node.parent node.child.child (node.parent ∷ p ∷ [])
          (child_links_turn_with s y r.upper q (parent_freezing r.upper r.lower ∷ []) gone good links.upper_guard links.upper_thawed node (out-one p node.parent (not-above node)) (f.writing.slots.within 0 (omega arith)) going stand swaps)
    ]

    pub merges : Merges s.past.config (image_of (here s).image) (image_of y.image) first.slot second.slot (r.slot 0) (r.slot 1) sep
    merges = by-turning (Merges c (image_of (here s).image) (image_of y.image) first.slot second.slot q m sep) merges-at

    -- the merged leaf has the words that were stored
    pub merged-words : durable s.past.config y (r.slot 1) ≡ node_of (r.image 1)
    merged-words = by-turning (durable c y m ≡ node_of (r.image 1)) (λ top j changed t. has top j changed t 1 (omega arith))

  -- both are leaves now, in two slots
  abbrev IsLeafHere : SeenLeaf → Type 0
  IsLeafHere l = IsLeafNow s l.slot

  pub first-leaf : IsLeafHere first
  first-leaf = leaf-now s first.slot first-stands.inside (flat first.slot r.place first-stands)

  pub second-leaf : IsLeafHere second
  second-leaf = leaf-now s second.slot second-stands.inside (flat second.slot (r.place + 1) second-stands)

  pub are-apart : first.slot ≢ second.slot
  are-apart e = absurd (omega (arith, ap fm.index e, first-stands.index, second-stands.index))
