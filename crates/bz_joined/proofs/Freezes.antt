-- The freeze of one leaf of a merge: the nodes above stay, the other leaves stay, and the leaf itself keeps its live words.
use Rattle.std.proofs.Common.{◌≡◌, ◌≢◌, ℕ, ◌+◌, ◌<◌, ◌≤◌, true, List, arith, refl, sym, ap, subst, ◌∙◌, inl, inr}
use Rattle.bz_layout.specs.declared.config.Config.{Config}
use Rattle.bz_layout.specs.declared.sizes.TheConstants.{META_AT}
use Rattle.bz_layout.specs.declared.thresholds.TheConstants.{SPLIT_ABOVE}
use Rattle.bz_tree.proofs.TreeForms.{fits}
use Rattle.bz_tree.specs.Descent.{leaf_of}
use Rattle.bz_tree.specs.Form.{Fits, Form}
use Rattle.bz_tree.specs.Outcomes.{SameTree}
use Rattle.bz_tree.specs.Walk.{IsTree, form_of}
use Rattle.bz_slotted.specs.Changes.{Restamps}
use Rattle.bz_slotted.specs.Page.{Page, meta_of, page}
use Rattle.bz_slotted.specs.Records.{live_to, live_words}
use Rattle.bz_content.proofs.Sames.{node-same}
use Rattle.bz_content.specs.Changes.{SameNode}
use Rattle.bz_content.specs.Image.{Image, node}
use Rattle.bz_content.specs.Swaps.{form_in}
use Rattle.bz_content.specs.View.{view_of}
use Rattle.bz_content.proofs.Proved.{quiet_swaps_keep_the_content}
use Rattle.bz_stage.specs.FromLeaves.Neighbours.{leaf_page}
use Rattle.bz_stage.proofs.Paths.{below-top, leaf-on-path, path-found, path-unique}
use Rattle.bz_stage.proofs.Runs.{run-same}
use Rattle.bz_stage.specs.Paths.{on_path, run_from, StandsOver}
use Rattle.bz_stage.specs.Rooms.{is_full}
use Rattle.bz_stage.specs.Stages.{page_on_path, root_level, full_above, stage_of, stage}
use Rattle.bz_stage.specs.Swaps.{FreezesLeaf}
use Rattle.bz_stage.proofs.Proved.{stages_say}
use Rattle.bz_joined.specs.Laws.{FreezesBesideKeepTheStage, FreezesBesideKeepTheLeaf, FrozenLeavesAreTheKeys, SmallFreezesLeaveACopy}

-- the records are as they were
live-same : (r s n m : ℕ → ℕ) → Restamps r s n m → live_words (page m) ≡ live_words (page n)
live-same r s n m h = λ t. live_to (λ j. meta_of (h.others (META_AT + j) (λ e. absurd (omega arith)) t)) (h.count t)

module _ (c : Config) (x y : Image) (key : List ℕ) (k : ℕ) (t : IsTree (view_of c x)) (z : FreezesLeaf c x y k) (same : SameTree (view_of c x) (view_of c y)) where
  g : Fits (view_of c x) (form_in c x)
  g = fits (view_of c x) t

  h : Fits (view_of c y) (form_in c y)
  h = fits (view_of c y) same.tree

  forms : form_in c y ≡ form_in c x
  forms = ap form_of same.walk

  tall : (view_of c y).height ≡ (view_of c x).height
  tall = sym h.height ∙ ap (λ (f : Form). f.level c.nodes) forms ∙ g.height

  levels : root_level c y ≡ root_level c x
  levels = omega (arith, tall)

  path-same : (level : ℕ) → level ≤ (view_of c x).height → on_path (view_of c y) key level ≡ on_path (view_of c x) key level
  path-same level le = path-unique (view_of c y) (form_in c y) key level (on_path (view_of c x) key level) same.tree.honest h (omega (arith, tall, le))
      (subst (λ f. StandsOver f key level (on_path (view_of c x) key level)) (sym forms) (path-found (view_of c x) (form_in c x) key level t.honest g le))

  -- a node on the way that is another one has the words that it had
  words-same : (level : ℕ) → level < (view_of c x).height → on_path (view_of c x) key level ≢ k → node c y.words (on_path (view_of c x) key level) ≡ node c x.words (on_path (view_of c x) key level)
  words-same level lt ne =
      let s : StandsOver (form_in c x) key level (on_path (view_of c x) key level) = path-found (view_of c x) (form_in c x) key level t.honest g (omega (arith, lt)) in
      let n : SameNode c x y (on_path (view_of c x) key level) = z.on_leaf.others (on_path (view_of c x) key level) s.inside (below-top (view_of c x) (form_in c x) key level (on_path (view_of c x) key level) g lt s) ne in
      node-same c (on_path (view_of c x) key level) x.words y.words n.words

  -- so has an inner node
  full-same : (level : ℕ) → 1 ≤ level → level < 1 + root_level c x → is_full (page_on_path c y key level) ≡ is_full (page_on_path c x key level)
  full-same level some lt =
      let s : StandsOver (form_in c x) key level (on_path (view_of c x) key level) = path-found (view_of c x) (form_in c x) key level t.honest g (omega (arith, lt)) in
      ap (λ j. is_full (page (node c y.words j))) (path-same level (omega (arith, lt)))
      ∙ ap (λ n. is_full (page n)) (words-same level (omega (arith, lt)) (λ e. absurd (omega (arith, some, s.at_level, z.on_leaf.leaf, ap (form_in c x).level e))))

  above-same : full_above c y key ≡ full_above c x key
  above-same =
      ap (run_from (λ level. is_full (page_on_path c y key level)) 1) levels
      ∙ run-same (λ level. is_full (page_on_path c y key level)) (λ level. is_full (page_on_path c x key level)) 1 (root_level c x) full-same

  leaf-is : leaf_page c y key ≡ page (node c y.words (leaf_of (view_of c x) key))
  leaf-is = ap (λ j. page (node c y.words j)) (same.leaf key)

  -- another leaf
  page-same : k ≢ leaf_of (view_of c x) key → leaf_page c y key ≡ leaf_page c x key
  page-same ne =
      leaf-is
      ∙ (ap (λ j. page (node c y.words j)) (leaf-on-path (view_of c x) key)
      ∙ (ap (λ n. page n) (words-same 0 t.tall (λ e. ne (sym e ∙ sym (leaf-on-path (view_of c x) key)))) ∙ ap (λ j. page (node c x.words j)) (sym (leaf-on-path (view_of c x) key))))

  kept : (words : ℕ) → k ≢ leaf_of (view_of c x) key → stage c y key words ≡ stage c x key words
  kept words ne = λ i. stage_of (page-same ne i) (above-same i) words

  -- the leaf itself
  module _ (own : k ≡ leaf_of (view_of c x) key) where
    here-is : leaf_page c y key ≡ page (node c y.words k)
    here-is = leaf-is ∙ ap (λ j. page (node c y.words j)) (sym own)

    frozen-is : (leaf_page c y key).frozen ≡ true
    frozen-is = ap (λ (p : Page). p.frozen) here-is ∙ z.frozen

    live-is : live_words (leaf_page c y key) ≡ live_words (leaf_page c x key)
    live-is = ap live_words here-is ∙ (live-same (node c x.raw k) (node c y.raw k) (node c x.words k) (node c y.words k) z.restamps ∙ ap (λ j. live_words (page (node c x.words j))) own)

    copied : (words : ℕ) → live_words (leaf_page c x key) ≤ SPLIT_ABOVE → stage c y key words ≡ 1
    copied words few = stages_say.copied (leaf_page c y key) (full_above c y key) words frozen-is (subst (λ n. n ≤ SPLIT_ABOVE) (sym live-is) few)

pub freezes-beside : FreezesBesideKeepTheStage
freezes-beside c x y key words k t z ne = kept c x y key k t z (quiet_swaps_keep_the_content c x y k t z.on_leaf (inr (inr (inl z.restamps)))).0 words ne

pub freezes-beside-leaf : FreezesBesideKeepTheLeaf
freezes-beside-leaf c x y key k t z ne = page-same c x y key k t z (quiet_swaps_keep_the_content c x y k t z.on_leaf (inr (inr (inl z.restamps)))).0 ne

pub freezes-own : FrozenLeavesAreTheKeys
freezes-own c x y key t z = frozen-is c x y key (leaf_of (view_of c x) key) t z (quiet_swaps_keep_the_content c x y (leaf_of (view_of c x) key) t z.on_leaf (inr (inr (inl z.restamps)))).0 refl

pub small-freezes : SmallFreezesLeaveACopy
small-freezes c x y key words t z few = copied c x y key (leaf_of (view_of c x) key) t z (quiet_swaps_keep_the_content c x y (leaf_of (view_of c x) key) t z.on_leaf (inr (inr (inl z.restamps)))).0 refl words few
