-- What a view says of keys is what the image of its moment says of them.
use Rattle.std.proofs.Common.{◌≡◌, ℕ, ◌<◌, ◌==◌, if◌then◌else◌, true, false, zero, suc, ◌+◌, List, arith, refl, sym, ap, ◌∙◌, inl, inr, Option}
use Rattle.std.specs.Prelude.{None}
use Rattle.std.proofs.lemmas.Bool.Decides.{nat_tests}
use Rattle.bz_slotted.specs.FromLayout.Config.{Config}
use Rattle.bz_slotted.specs.FromLayout.TheConstants.{NODE_WORDS, STATUS_AT, META_AT}
use Rattle.bz_tree.specs.Form.{Holds}
use Rattle.bz_tree.specs.Walk.{IsTree}
use Rattle.bz_tree.proofs.Proved.{leaves_tile_the_keys}
use Rattle.bz_slotted.specs.Page.{visible, held, meta_of, page}
use Rattle.bz_slotted.specs.ReadingLaws.{node_of}
use Rattle.bz_slotted.specs.Readers.{found_of, live_of}
use Rattle.bz_slotted.specs.Records.{live_to}
use Rattle.bz_slotted.specs.Whole.{Whole}
use Rattle.bz_slotted.proofs.Proved.{leaf_rules_are_facts}
use Rattle.bz_word.specs.Statuses.{status}
use Rattle.bz_word.specs.declared.meta.Meta.{Meta}
use Rattle.bz_word.specs.declared.meta.Meta.TheVariants.{Unused, Reserved, Visible, Deleted}
use Rattle.bz_task.specs.FromContent.Content.{view_in, content_in, leaf_in}
use Rattle.bz_task.specs.FromContent.Image.{node}
use Rattle.bz_task.specs.Good.{IsGood}
use Rattle.bz_task.specs.Instant.{words, durable, form_at}
use Rattle.bz_task.specs.Laws.{IsLeafInTree}
use Rattle.bz_task.specs.Outcomes.{IsView}
use Rattle.bz_task.specs.Scene.{Past}
use Rattle.bz_task.specs.Shown.{IsShown, SameWords, SameRecords}
use Rattle.bz_task.specs.declared.view.LeafView.{LeafView}
use Rattle.bz_task.proofs.FromContent.Proved.{well_formed_images_have_no_fault}
use Rattle.bz_task.proofs.Proved.{leaves_are_in_trees, same_records_show_the_same, seen_leaves_are_whole}

held-visible : (m : Meta) → visible m ≡ true → held m ≡ true
unfolding visible held
held-visible (Visible e) h = refl
held-visible (Reserved e) h = refl
held-visible (Deleted k t) h = absurd (cc)
held-visible Unused h = absurd (cc)

-- a place of a whole leaf that is shown is one of the node
shown-within : (raw n : ℕ → ℕ) (low high : Option (List ℕ)) → Whole raw (page n) low high → (i : ℕ) → IsShown n i → i < NODE_WORDS
shown-within raw n low high w i (inl h) = omega (arith, h, w.filled.room)
shown-within raw n low high w i (inr (inl h)) = omega (arith, h)
shown-within raw n low high w i (inr (inr (inl h))) = absurd (omega (arith, h, w.level.level))
shown-within raw n low high w i (inr (inr (inr r))) = omega (arith, r.1.to, (w.inside r.0 r.1.counted (held-visible _ r.1.visible)).ends)

same-records : (n m : ℕ → ℕ) → SameWords n m → SameRecords n m
same-records n m s = record {
  count = ap (λ z. (status z).count) (s STATUS_AT (inl (omega arith)));
  block = ap (λ z. (status z).block) (s STATUS_AT (inl (omega arith)));
  words = λ i ne h. s i h;
}

-- records with the same metadata words are as long
same-live-to : (m n : ℕ → Meta) (count : ℕ) → ((j : ℕ) → j < count → m j ≡ n j) → live_to m count ≡ live_to n count
unfolding live_to
same-live-to m n zero same = refl
same-live-to m n (suc count) same = rw (same count (omega arith), same-live-to m n count (λ j l. same j (omega (arith, l)))) refl

same-live : (n m : ℕ → ℕ) → SameWords n m → live_of m ≡ live_of n
unfolding live_of
same-live n m s = ap (live_to (page m).meta) count ∙ same-live-to (page m).meta (page n).meta (page n).count (λ j l. ap meta_of (s (META_AT + j) (inl (omega (arith, l)))))
  where
    count : (page m).count ≡ (page n).count
    count = (same-records n m s).count

-- a slot is not the superblock
below-top : (c : Config) (k : ℕ) → k < c.nodes → (k == c.nodes) ≡ false
below-top c k l = grind (arith, nat_tests)

module _ (from : List ℕ) (view : LeafView) (p : Past) (v : IsView from view p) (g : IsGood p.config (p.at view.at)) where
  tree : IsTree (view_in p.config (p.at view.at).image)
  tree = ((well_formed_images_have_no_fault p.config (p.at view.at).image).0 g.form).tree

  pub holds : Holds (form_at p.config (p.at view.at)) from view.slot
  holds = (leaves_tile_the_keys (view_in p.config (p.at view.at).image) tree from view.slot).1 v.leaf

  leaf : IsLeafInTree p.config (p.at view.at) view.slot
  leaf = leaves_are_in_trees p.config (p.at view.at) view.slot g v.slot holds.inside holds.leaf

  durable-same : SameWords (words p.config (p.at view.at) view.slot) (durable p.config (p.at view.at) view.slot)
  durable-same i h = g.shown view.slot i leaf.reached h

  -- the view has the words that are shown of the leaf in the image
  view-same : SameWords (durable p.config (p.at view.at) view.slot) (node_of view.image.0)
  view-same i h =
      let w : Whole (node p.config (p.at view.at).image view.slot) (page (durable p.config (p.at view.at) view.slot)) ((form_at p.config (p.at view.at)).low view.slot) ((form_at p.config (p.at view.at)).high view.slot) =
      (leaf_rules_are_facts p.config.nodes (node p.config (p.at view.at).image view.slot) (durable p.config (p.at view.at) view.slot) _ _).0 leaf.whole in
      let shown : IsShown (words p.config (p.at view.at) view.slot) i = (same_records_show_the_same _ _ (same-records _ _ durable-same) i).1 h in
      v.words i (shown-within _ _ _ _ w i h) shown ∙ sym (durable-same i shown)

  pub says : (key : List ℕ) → found_of (node_of view.image.0) key ≡ found_of (durable p.config (p.at view.at) view.slot) key
  says = (seen_leaves_are_whole p.config.nodes (node p.config (p.at view.at).image view.slot) (durable p.config (p.at view.at) view.slot) (node_of view.image.0) _ _ leaf.whole view-same).found

  pub live : live_of (node_of view.image.0) ≡ live_of (durable p.config (p.at view.at) view.slot)
  live = same-live (durable p.config (p.at view.at) view.slot) (node_of view.image.0) view-same

  -- of each key in the leaf's range the view says what the image holds
  pub says-content : (key : List ℕ) → Holds (form_at p.config (p.at view.at)) key view.slot → found_of (node_of view.image.0) key ≡ content_in p.config (p.at view.at).image key
  says-content key h =
      let same_leaf : leaf_in p.config (p.at view.at).image key ≡ view.slot = (leaves_tile_the_keys (view_in p.config (p.at view.at).image) tree key view.slot).0 h in
      let here : content_in p.config (p.at view.at).image key ≡ (if view.slot == p.config.nodes then None else found_of (durable p.config (p.at view.at) view.slot) key) =
      ap (λ k. (view_in p.config (p.at view.at).image).found k key) same_leaf in
      let below : (view.slot == p.config.nodes) ≡ false = below-top p.config view.slot v.slot in
      says key ∙ sym (rw below at here)
