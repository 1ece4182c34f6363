-- A merge of a frozen leaf that ends for want of slots had found a neighbour that fits: at that moment the leaf could be merged.
use Rattle.std.proofs.Common.{◌≡◌, ◌≢◌, ℕ, ◌<◌, true, List, arith, sym, ap, subst, ◌∙◌, inl, inr}
use Rattle.std.proofs.lemmas.Bool.{cases_lt}
use Rattle.bz_layout.specs.declared.config.Config.{Config}
use Rattle.bz_layout.specs.declared.sizes.TheConstants.{STATUS_AT}
use Rattle.bz_merge.specs.Facts.{SomeFitted}
use Rattle.bz_merge.specs.Siblings.{SeenLeaf}
use Rattle.bz_renew.proofs.FrozenLeaves.{read-alike}
use Rattle.bz_tree.proofs.TreeForms.{fits}
use Rattle.bz_tree.specs.Form.{Fits, Form, Hangs, Holds}
use Rattle.bz_tree.specs.Order.{is_at_least, is_below}
use Rattle.bz_tree.specs.View.{View}
use Rattle.bz_tree.specs.Walk.{IsTree}
use Rattle.bz_tree.proofs.Proved.{leaves_tile_the_keys}
use Rattle.bz_slotted.specs.Page.{page}
use Rattle.bz_slotted.specs.Readers.{live_of}
use Rattle.bz_slotted.specs.ReadingLaws.{node_of}
use Rattle.bz_slotted.specs.Records.{live_words}
use Rattle.bz_slotted.proofs.Proved.{leaf_rules_are_facts}
use Rattle.bz_word.specs.Statuses.{status}
use Rattle.bz_content.specs.Content.{image_of, leaf_in, view_in}
use Rattle.bz_content.specs.Image.{node}
use Rattle.bz_content.proofs.Proved.{well_formed_images_have_no_fault}
use Rattle.bz_stage.specs.FromLeaves.Neighbours.{leaf_page, parent_in, place_in, own_live, beside_live, MayBeMerged}
use Rattle.bz_task.specs.Good.{IsGood}
use Rattle.bz_task.specs.Instant.{Instant, words, durable, page_at, form_at}
use Rattle.bz_task.specs.Laws.{IsLeafInTree, SamePlace, SaysAlike}
use Rattle.bz_task.specs.Scene.{Scene, IsScene}
use Rattle.bz_task.specs.Shown.{SameShownNode}
use Rattle.bz_task.specs.declared.path.Link.{Link}
use Rattle.bz_task.proofs.Proved.{frozen_nodes_stay, leaves_are_in_trees, ranges_stay, same_records_show_the_same, seen_leaves_are_whole}
use Rattle.bz_rounds.specs.FromAlone.AnyTask.TheVariants.{Seeking, Finding, Reading, Inserting, Updating, Deleting, Freezing, Consolidating, Splitting, SplittingBelow, SplittingInner, SplittingInnerRoot, Merging, MergingInner, Lowering}
use Rattle.bz_rounds.specs.FromAlone.Duties.{view_of}
use Rattle.bz_rounds.specs.FromAlone.MadeFor.{WasLeafOf, IsMergeFor}
use Rattle.bz_joined.specs.Neighbours.{WasMergeable, MergesLackSlotsRightly}
use Rattle.bz_joined.proofs.Alike.{live-alike, live-is}
use Rattle.bz_joined.proofs.SeenLeaves.{alike, below, good-then, live-then}

module _ (key : List ℕ) (lower : Link) (st : ℕ) (image : List ℕ) (s : Scene) (good : IsScene s) (was : WasLeafOf key lower.slot s.past) (frozen : (status st).frozen ≡ true) (f : SomeFitted lower st image s.past) where
  abbrev c : Config
  c = s.past.config

  -- the leaf as it was viewed, and the moment at which the two hung side by side
  abbrev own : SeenLeaf
  own = record { slot = lower.slot; status = st; image = image }

  abbrev k : ℕ
  k = lower.slot

  abbrev m : ℕ
  m = f.beside.moment

  abbrev x : Instant
  x = s.past.at f.at

  abbrev y : Instant
  y = s.past.at f.beside.moment

  abbrev v : View
  v = view_in s.past.config (s.past.at f.beside.moment).image

  abbrev fm : Form
  fm = form_at s.past.config (s.past.at f.beside.moment)

  good-y : IsGood s.past.config (s.past.at f.beside.moment)
  good-y = good.history.good m f.beside.stood.since f.beside.stood.now

  tree-y : IsTree (view_in s.past.config (s.past.at f.beside.moment).image)
  tree-y = ((well_formed_images_have_no_fault c y.image).0 good-y.form).tree

  fits-y : Fits (view_in s.past.config (s.past.at f.beside.moment).image) (form_at s.past.config (s.past.at f.beside.moment))
  fits-y = fits v tree-y

  not-top : lower.slot ≢ s.past.config.nodes
  not-top = below s good own f.at f.low f.high f.viewed

  -- the key was in its range once, so it was then
  held : Holds (form_at s.past.config (s.past.at was.moment)) key lower.slot
  held =
      let g : IsGood s.past.config (s.past.at was.moment) = good.history.good was.moment was.since was.now in
      (leaves_tile_the_keys (view_in c (s.past.at was.moment).image) ((well_formed_images_have_no_fault c (s.past.at was.moment).image).0 g.form).tree key k).1 was.leaf

  bounds : (fm.low lower.slot ≡ (form_at s.past.config (s.past.at was.moment)).low lower.slot) × (fm.high lower.slot ≡ (form_at s.past.config (s.past.at was.moment)).high lower.slot)
  bounds = elim (cases_lt was.moment m) [
    | inl before ↦ (
        let p : SamePlace s.past.config (s.past.at was.moment) (s.past.at f.beside.moment) lower.slot = ranges_stay c s.past.at s.past.since s.past.now was.moment m k good.history (record { since = was.since; order = omega (arith, before); until = f.beside.stood.now }) not-top held.inside f.beside.stood.inside in
        (p.low, p.high))
    | inr after ↦ (
        let p : SamePlace s.past.config (s.past.at f.beside.moment) (s.past.at was.moment) lower.slot = ranges_stay c s.past.at s.past.since s.past.now m was.moment k good.history (record { since = f.beside.stood.since; order = after; until = was.now }) not-top f.beside.stood.inside held.inside in
        (sym p.low, sym p.high))
  ]

  leaf-y : leaf_in s.past.config (s.past.at f.beside.moment).image key ≡ lower.slot
  leaf-y = (leaves_tile_the_keys v tree-y key k).0 (record {
    inside = f.beside.stood.inside;
    leaf = f.beside.stood.leaf;
    low = subst (λ o. is_at_least key o ≡ true) (sym bounds.0) held.low;
    high = subst (λ o. is_below key o ≡ true) (sym bounds.1) held.high;
  })

  up-y : parent_in s.past.config (s.past.at f.beside.moment).image key ≡ f.beside.parent
  up-y = ap fm.up leaf-y ∙ f.beside.hung.up

  place-y : place_in s.past.config (s.past.at f.beside.moment).image key ≡ f.own_place
  place-y = ap fm.index leaf-y ∙ f.beside.hung.index

  -- the neighbour beside it
  hangs : Hangs (view_in s.past.config (s.past.at f.beside.moment).image) (form_at s.past.config (s.past.at f.beside.moment)) f.other.slot
  hangs = fits-y.hangs f.other.slot f.beside.other_seen.stood.inside (λ e. absurd (omega (arith, e, f.beside.other_seen.stood.slot)))

  within-y : f.place < (view_in s.past.config (s.past.at f.beside.moment).image).count (parent_in s.past.config (s.past.at f.beside.moment).image key)
  within-y = omega (arith, hangs.within, f.beside.other_hung.index, ap v.count f.beside.other_hung.up, ap v.count up-y)

  child-y : (view_in s.past.config (s.past.at f.beside.moment).image).child f.beside.parent f.place ≡ f.other.slot
  child-y = (λ t. v.child (sym f.beside.other_hung.up t) (sym f.beside.other_hung.index t)) ∙ hangs.child

  beside-y : beside_live s.past.config (s.past.at f.beside.moment).image key f.place ≡ live_of (node_of f.other.image)
  beside-y =
      ap (λ u. live_words (page (durable c y (v.child u f.place)))) up-y
      ∙ (ap (λ o. live_words (page (durable c y o))) child-y
      ∙ (live-is (durable c y f.other.slot) ∙ live-then s good f.other m f.beside.other_low f.beside.other_high f.beside.other_seen))

  -- the leaf was frozen when it was viewed, and so it was as viewed
  frozen-x : (page_at s.past.config (s.past.at f.at) lower.slot).frozen ≡ true
  frozen-x = ap (λ z. (status z).frozen) f.viewed.status ∙ frozen

  stays : SameShownNode s.past.config (s.past.at f.at) (s.past.at f.beside.moment) lower.slot
  stays =
      frozen_nodes_stay c s.past.at s.past.since s.past.now f.at m k good.history (record { since = f.viewed.stood.since; order = f.later; until = f.beside.stood.now })
      ((good-then s good own f.at f.low f.high f.viewed).inside k f.viewed.stood.inside not-top) frozen-x

  in-tree : IsLeafInTree s.past.config (s.past.at f.beside.moment) lower.slot
  in-tree = leaves_are_in_trees c y k good-y f.beside.stood.slot f.beside.stood.inside f.beside.stood.leaf

  alike-y : SaysAlike s.past.config.nodes (durable s.past.config (s.past.at f.beside.moment) lower.slot) (words s.past.config (s.past.at f.beside.moment) lower.slot) (fm.low lower.slot) (fm.high lower.slot)
  alike-y = read-alike same_records_show_the_same seen_leaves_are_whole c y k good-y in-tree

  since : SaysAlike s.past.config.nodes (words s.past.config (s.past.at f.at) lower.slot) (words s.past.config (s.past.at f.beside.moment) lower.slot) ((form_at s.past.config (s.past.at f.at)).low lower.slot) ((form_at s.past.config (s.past.at f.at)).high lower.slot)
  since = seen_leaves_are_whole c.nodes _ (words c x k) (words c y k) _ _ (alike s good own f.at f.low f.high f.viewed).whole stays

  live-y : live_of (durable s.past.config (s.past.at f.beside.moment) lower.slot) ≡ live_of (node_of image)
  live-y =
      live-alike (node c y.image k) (durable c y k) (node_of image) (node_of image) (fm.low k) (fm.high k) f.low f.high
      ((leaf_rules_are_facts c.nodes (node c y.image k) (durable c y k) (fm.low k) (fm.high k)).0 in-tree.whole)
      ((leaf_rules_are_facts c.nodes (node_of image) (node_of image) f.low f.high).0 f.viewed.whole)
      (λ other. sym (alike-y.found other) ∙ (since.found other ∙ f.viewed.says other))

  own-y : own_live s.past.config (s.past.at f.beside.moment).image key ≡ live_of (node_of image)
  own-y = ap (λ o. live_words (page (durable c y o))) leaf-y ∙ (live-is (durable c y k) ∙ live-y)

  may : MayBeMerged s.past.config (s.past.at f.beside.moment).image key
  may = record {
    small = omega (arith, own-y, live-then s good own f.at f.low f.high f.viewed, f.few);
    place = f.place;
    within = within-y;
    next = elim f.next [ inl after ↦ inl (omega (arith, after, place-y)) | inr before ↦ inr (omega (arith, before, place-y)) ];
    room = omega (arith, own-y, beside-y, f.room);
  }

  frozen-y : (leaf_page s.past.config (image_of (s.past.at f.beside.moment).image) key).frozen ≡ true
  frozen-y =
      ap (λ o. (page (durable c y o)).frozen) leaf-y
      ∙ (ap (λ z. (status z).frozen) (good-y.shown k STATUS_AT in-tree.reached (inl (omega arith)) ∙ stays STATUS_AT (inl (omega arith))) ∙ frozen-x)

  was-mergeable : WasMergeable key s.past
  was-mergeable = record { moment = m; since = f.beside.stood.since; now = f.beside.stood.now; frozen = frozen-y; may = may }

pub merges-lack : MergesLackSlotsRightly
unfolding IsMergeFor view_of
merges-lack (Merging t) key s good o means = was-mergeable key t.lower t.status t.leaf.0 s good o.leaf o.frozen means
merges-lack (Seeking t) key s good o means = absurd (o)
merges-lack (Finding t) key s good o means = absurd (o)
merges-lack (Reading t) key s good o means = absurd (o)
merges-lack (Inserting t) key s good o means = absurd (o)
merges-lack (Updating t) key s good o means = absurd (o)
merges-lack (Deleting t) key s good o means = absurd (o)
merges-lack (Freezing t) key s good o means = absurd (o)
merges-lack (Consolidating t) key s good o means = absurd (o)
merges-lack (Splitting t) key s good o means = absurd (o)
merges-lack (SplittingBelow t a) key s good o means = absurd (o)
merges-lack (SplittingInner t a) key s good o means = absurd (o)
merges-lack (SplittingInnerRoot t a) key s good o means = absurd (o)
merges-lack (MergingInner t) key s good o means = absurd (o)
merges-lack (Lowering t) key s good o means = absurd (o)
