-- A freeze of a leaf that lacks the words lowers the stage by one: the leaf keeps its live words, and the nodes above it stay.
use Rattle.std.proofs.Common.{◌≡◌, ℕ, ◌+◌, ◌<◌, ◌≤◌, if◌then◌else◌, List, arith, sym, ap, subst, ◌∙◌, inl, inr}
use Rattle.std.specs.Prelude.{nat_lt}
use Rattle.bz_layout.specs.declared.config.Config.{Config}
use Rattle.bz_layout.specs.declared.sizes.TheConstants.{META_AT, SHARED_WORDS}
use Rattle.bz_layout.specs.declared.thresholds.TheConstants.{SPLIT_ABOVE}
use Rattle.bz_tree.proofs.TreeForms.{fits}
use Rattle.bz_tree.specs.Descent.{leaf_of}
use Rattle.bz_tree.specs.Form.{Fits, Form}
use Rattle.bz_tree.specs.Outcomes.{SameTree}
use Rattle.bz_tree.specs.Walk.{IsTree, form_of}
use Rattle.bz_slotted.specs.Changes.{Restamps}
use Rattle.bz_slotted.specs.Page.{Page, meta_of, page}
use Rattle.bz_slotted.specs.Records.{live_to, live_words}
use Rattle.bz_content.proofs.Sames.{node-same}
use Rattle.bz_content.specs.Changes.{SameNode}
use Rattle.bz_content.specs.Image.{Image, node}
use Rattle.bz_content.specs.Swaps.{form_in}
use Rattle.bz_content.specs.View.{view_of}
use Rattle.bz_content.proofs.Proved.{quiet_swaps_keep_the_content}
use Rattle.bz_leaves.specs.Neighbours.{leaf_page}
use Rattle.bz_stage.proofs.Leaves.{stage-frozen, stage-lacking}
use Rattle.bz_stage.proofs.Paths.{below-top, path-found, path-unique}
use Rattle.bz_stage.proofs.Runs.{run-same}
use Rattle.bz_stage.specs.Laws.{FreezesLowerTheStage}
use Rattle.bz_stage.specs.Paths.{on_path, run_from, StandsOver}
use Rattle.bz_stage.specs.Rooms.{words_taken, is_full}
use Rattle.bz_stage.specs.Stages.{page_on_path, root_level, full_above, frozen_stage, stage}
use Rattle.bz_stage.specs.Swaps.{FreezesLeaf}

-- the stage of a frozen leaf of so many live words below so many full nodes
abbrev frozen_by : ℕ → ℕ → ℕ
frozen_by live full = 1 + (if nat_lt SPLIT_ABOVE live then full else 0)

-- the records are as they were
live-same : (r s n m : ℕ → ℕ) → Restamps r s n m → live_words (page m) ≡ live_words (page n)
live-same r s n m h = λ t. live_to (λ j. meta_of (h.others (META_AT + j) (λ e. absurd (omega arith)) t)) (h.count t)

module _ (c : Config) (x y : Image) (key : List ℕ) (t : IsTree (view_of c x)) (z : FreezesLeaf c x y (leaf_of (view_of c x) key)) (same : SameTree (view_of c x) (view_of c y)) where
  g : Fits (view_of c x) (form_in c x)
  g = fits (view_of c x) t

  h : Fits (view_of c y) (form_in c y)
  h = fits (view_of c y) same.tree

  forms : form_in c y ≡ form_in c x
  forms = ap form_of same.walk

  tall : (view_of c y).height ≡ (view_of c x).height
  tall = sym h.height ∙ ap (λ (f : Form). f.level c.nodes) forms ∙ g.height

  levels : root_level c y ≡ root_level c x
  levels = omega (arith, tall)

  path-same : (level : ℕ) → level ≤ (view_of c x).height → on_path (view_of c y) key level ≡ on_path (view_of c x) key level
  path-same level le = path-unique (view_of c y) (form_in c y) key level (on_path (view_of c x) key level) same.tree.honest h (omega (arith, tall, le))
      (subst (λ f. StandsOver f key level (on_path (view_of c x) key level)) (sym forms) (path-found (view_of c x) (form_in c x) key level t.honest g le))

  -- an inner node on the way has the words that it had
  full-same : (level : ℕ) → 1 ≤ level → level < 1 + root_level c x → is_full (page_on_path c y key level) ≡ is_full (page_on_path c x key level)
  full-same level some lt =
      let s : StandsOver (form_in c x) key level (on_path (view_of c x) key level) = path-found (view_of c x) (form_in c x) key level t.honest g (omega (arith, lt)) in
      let n : SameNode c x y (on_path (view_of c x) key level) = z.on_leaf.others (on_path (view_of c x) key level) s.inside (below-top (view_of c x) (form_in c x) key level (on_path (view_of c x) key level) g (omega (arith, lt)) s)
      (λ e. absurd (omega (arith, some, s.at_level, z.on_leaf.leaf, ap (form_in c x).level e))) in
      ap (λ j. is_full (page (node c y.words j))) (path-same level (omega (arith, lt))) ∙ ap (λ n. is_full (page n)) (node-same c (on_path (view_of c x) key level) x.words y.words n.words)

  above-same : full_above c y key ≡ full_above c x key
  above-same =
      ap (run_from (λ level. is_full (page_on_path c y key level)) 1) levels
      ∙ run-same (λ level. is_full (page_on_path c y key level)) (λ level. is_full (page_on_path c x key level)) 1 (root_level c x) full-same

  leaf-is : leaf_page c y key ≡ page (node c y.words (leaf_of (view_of c x) key))
  leaf-is = ap (λ k. page (node c y.words k)) (same.leaf key)

  live-is : live_words (leaf_page c y key) ≡ live_words (leaf_page c x key)
  live-is = ap live_words leaf-is ∙ live-same (node c x.raw (leaf_of (view_of c x) key)) (node c y.raw (leaf_of (view_of c x) key)) (node c x.words (leaf_of (view_of c x) key)) (node c y.words (leaf_of (view_of c x) key)) z.restamps

  pub lowered : (words : ℕ) → SHARED_WORDS < words_taken (leaf_page c x key) + words → stage c y key words + 1 ≡ stage c x key words
  lowered words lacks =
      let after : stage c y key words ≡ frozen_stage (leaf_page c y key) (full_above c y key) =
      stage-frozen (leaf_page c y key) (full_above c y key) words (ap (λ (p : Page). p.frozen) leaf-is ∙ z.frozen) in
      let before : stage c x key words ≡ 1 + frozen_stage (leaf_page c x key) (full_above c x key) =
      stage-lacking (leaf_page c x key) (full_above c x key) words z.thawed lacks in
      let alike : frozen_stage (leaf_page c y key) (full_above c y key) ≡ frozen_stage (leaf_page c x key) (full_above c x key) =
      (λ i. frozen_by (live-is i) (above-same i)) in
      omega (arith, after, before, alike)

pub freezes : FreezesLowerTheStage
freezes c x y key words t z lacks = lowered c x y key t z (quiet_swaps_keep_the_content c x y (leaf_of (view_of c x) key) t z.on_leaf (inr (inr (inl z.restamps)))).0 words lacks
