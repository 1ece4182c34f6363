-- What a swap makes of the stage that puts new nodes in the place of the key's leaf, or of a full node above it.
use Rattle.std.proofs.Common.{◌≡◌, ◌≢◌, ℕ, ◌+◌, ◌-◌, ◌<◌, ◌≤◌, true, false, List, [], ◌∷◌, arith, refl, sym, ap, subst, ◌∙◌, inl, inr}
use Rattle.std.proofs.lemmas.Bool.{cases_lt}
use Rattle.bz_layout.specs.declared.config.Config.{Config}
use Rattle.bz_layout.specs.declared.thresholds.TheConstants.{INNER_LIMIT, LEAF_RECORD_WORDS}
use Rattle.bz_tree.proofs.TreeForms.{fits}
use Rattle.bz_tree.proofs.Trees.{three-cases}
use Rattle.bz_tree.specs.Descent.{leaf_of}
use Rattle.bz_tree.specs.Form.{Fits}
use Rattle.bz_tree.specs.Outcomes.{Regrows}
use Rattle.bz_tree.specs.Walk.{is_among, IsTree}
use Rattle.bz_slotted.specs.Page.{page}
use Rattle.bz_slotted.specs.Readers.{level_of}
use Rattle.bz_content.proofs.Reached.{level-at}
use Rattle.bz_content.specs.Image.{Image, node}
use Rattle.bz_content.specs.Swaps.{form_in}
use Rattle.bz_content.specs.View.{view_of}
use Rattle.bz_leaves.specs.Neighbours.{leaf_page}
use Rattle.bz_stage.proofs.Exchanges.{path-changes, path-stays}
use Rattle.bz_stage.proofs.Leaves.{less, not-less, roomy-ready, stage-split}
use Rattle.bz_stage.proofs.Paths.{below-top, leaf-on-path, path-found}
use Rattle.bz_stage.proofs.Runs.{run-at-most, run-reaches, run-stops}
use Rattle.bz_stage.specs.Paths.{on_path, StandsOver}
use Rattle.bz_stage.specs.Rooms.{words_taken, is_full}
use Rattle.bz_stage.specs.Stages.{page_on_path, root_level, full_above, stage_of, stage}
use Rattle.bz_stage.specs.Swaps.{IsRoomyLeaf, IsRoomyInner, IsCrowdedBelow}

-- a node on the way to a key says the level at which it stands
level-on-path : (c : Config) (y : Image) (key : List ℕ) (level : ℕ) → IsTree (view_of c y) → level < (view_of c y).height → level_of (node c y.words (on_path (view_of c y) key level)) ≡ level
level-on-path c y key level t lt =
    let g : Fits (view_of c y) (form_in c y) = fits (view_of c y) t in
    let s : StandsOver (form_in c y) key level (on_path (view_of c y) key level) = path-found (view_of c y) (form_in c y) key level t.honest g (omega (arith, lt)) in
    level-at c y (on_path (view_of c y) key level) g s.inside (below-top (view_of c y) (form_in c y) key level (on_path (view_of c y) key level) g lt s) ∙ s.at_level

-- one of three new slots that says a level which the first one does not
pub of-three : (c : Config) (y : Image) (P : ℕ → Type 0) (q l r level : ℕ) → level_of (node c y.words q) ≢ level → P l → P r → (k : ℕ) → is_among (q ∷ l ∷ r ∷ []) k ≡ true → level_of (node c y.words k) ≡ level → P k
of-three c y P q l r level high pl pr k e at = elim (three-cases q l r k e) [
  | inl p ↦ absurd (high (ap (λ j. level_of (node c y.words j)) (sym p) ∙ at))
  | inr o ↦ elim o [ inl p ↦ subst P (sym p) pl | inr p ↦ subst P (sym p) pr ]
]

-- where the leaf goes, and each new leaf is roomy, there is room
pub leaf-anew : (c : Config) (x y : Image) (key : List ℕ) (words : ℕ) (gone new : List ℕ) → IsTree (view_of c x) → Regrows (view_of c x) (view_of c y) gone new
    → is_among gone (leaf_of (view_of c x) key) ≡ true → ((k : ℕ) → is_among new k ≡ true → level_of (node c y.words k) ≡ 0 → IsRoomyLeaf c y k) → words ≤ LEAF_RECORD_WORDS + 1
    → stage c y key words ≡ 0
leaf-anew c x y key words gone new t r cut roomy few =
    let u : IsTree (view_of c y) = r.content.tree in
    let there : is_among new (on_path (view_of c y) key 0) ≡ true =
    path-changes (view_of c x) (view_of c y) gone new t u refl r.slots key 0 (omega arith) u.tall (subst (λ j. is_among gone j ≡ true) (leaf-on-path (view_of c x) key) cut) in
    let made : IsRoomyLeaf c y (on_path (view_of c y) key 0) = roomy (on_path (view_of c y) key 0) there (level-on-path c y key 0 u u.tall) in
    roomy-ready (leaf_page c y key) (full_above c y key) words (subst (λ j. IsRoomyLeaf c y j) (sym (leaf-on-path (view_of c y) key)) made) few

one-up : (n : ℕ) → 0 < n → 1 + (n - 1) ≡ n
one-up n h = omega arith

-- the stage was above a level, and is at most this level afterwards
pub record FallsToLevel (c : Config) (x y : Image) (key : List ℕ) (words level : ℕ) : Type 0 where
  pub above : level < stage c x key words
  pub within : stage c y key words ≤ level

-- where a full node above the leaf goes, and each new one of its level is roomy, fewer are full directly above it
pub inner-anew : (c : Config) (x y : Image) (key : List ℕ) (words level : ℕ) (gone new : List ℕ) → IsTree (view_of c x) → Regrows (view_of c x) (view_of c y) gone new → 0 < level → level < (view_of c x).height
    → IsCrowdedBelow c x key level → is_among gone (on_path (view_of c x) key level) ≡ true → is_among gone (leaf_of (view_of c x) key) ≡ false
    → node c y.words (leaf_of (view_of c x) key) ≡ node c x.words (leaf_of (view_of c x) key) → ((k : ℕ) → is_among new k ≡ true → level_of (node c y.words k) ≡ level → IsRoomyInner c y k)
    → FallsToLevel c x y key words level
inner-anew c x y key words level gone new t r some lt z cut far same roomy = record { above = omega (arith, before, high); within = omega (arith, after, low) }
  where
    u : IsTree (view_of c y)
    u = r.content.tree

    leaf-same : leaf_of (view_of c y) key ≡ leaf_of (view_of c x) key
    leaf-same =
        leaf-on-path (view_of c y) key
        ∙ path-stays (view_of c x) (view_of c y) gone new t u refl r.slots key 0 t.tall (omega arith) (subst (λ j. is_among gone j ≡ false) (leaf-on-path (view_of c x) key) far)
        ∙ sym (leaf-on-path (view_of c x) key)

    page-same : leaf_page c y key ≡ leaf_page c x key
    page-same = ap (λ k. page (node c y.words k)) leaf-same ∙ ap (λ n. page n) same

    before : stage c x key words ≡ 1 + full_above c x key
    before = stage-split (leaf_page c x key) (full_above c x key) words z.frozen z.many

    after : stage c y key words ≡ 1 + full_above c y key
    after = ap (λ p. stage_of p (full_above c y key) words) page-same ∙ stage-split (leaf_page c x key) (full_above c y key) words z.frozen z.many

    high : level ≤ full_above c x key
    high = run-reaches (λ i. is_full (page_on_path c x key i)) 1 (root_level c x) level (λ i a d. less INNER_LIMIT (words_taken (page_on_path c x key i)) (z.full i (omega arith) (omega arith))) (omega (arith, lt))

    stops : level < (view_of c y).height → full_above c y key ≤ level - 1
    stops lt_y =
        let there : is_among new (on_path (view_of c y) key level) ≡ true = path-changes (view_of c x) (view_of c y) gone new t u refl r.slots key level (omega (arith, lt)) lt_y cut in
        let room : IsRoomyInner c y (on_path (view_of c y) key level) = roomy (on_path (view_of c y) key level) there (level-on-path c y key level u lt_y) in
        run-stops (λ i. is_full (page_on_path c y key i)) 1 (root_level c y) (level - 1)
        (ap (λ i. is_full (page_on_path c y key i)) (one-up level some) ∙ not-less INNER_LIMIT (words_taken (page_on_path c y key level)) room)

    low : full_above c y key + 1 ≤ level
    low = elim (cases_lt level (view_of c y).height) [
      | inl lt_y ↦ omega (arith, stops lt_y, some)
      | inr le ↦ omega (arith, run-at-most (λ i. is_full (page_on_path c y key i)) 1 (root_level c y), le)
    ]
