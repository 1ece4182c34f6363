-- The split of a full node above the key's leaf lowers the stage, below an inner node and at the root.
use Rattle.std.proofs.Common.{◌≡◌, ◌≢◌, ℕ, ◌+◌, ◌<◌, ◌≤◌, false, List, [], ◌∷◌, arith, refl, sym, ap, subst, inl, inr}
use Rattle.std.proofs.lemmas.Bool.{cases_lt}
use Rattle.bz_layout.specs.declared.config.Config.{Config}
use Rattle.bz_layout.specs.declared.thresholds.TheConstants.{MAX_LEVELS}
use Rattle.bz_tree.proofs.Descents.{home}
use Rattle.bz_tree.proofs.TreeForms.{fits}
use Rattle.bz_tree.proofs.Trees.{among-first, not-among}
use Rattle.bz_tree.specs.Descent.{leaf_of}
use Rattle.bz_tree.specs.Form.{Fits, Form}
use Rattle.bz_tree.specs.Walk.{is_among, IsTree}
use Rattle.bz_slotted.specs.Readers.{level_of}
use Rattle.bz_content.proofs.Reached.{level-is}
use Rattle.bz_content.proofs.Sames.{node-same}
use Rattle.bz_content.specs.Changes.{SameNode}
use Rattle.bz_content.specs.Image.{Image, node, root}
use Rattle.bz_content.specs.Restructures.{Splits, SplitsRoot}
use Rattle.bz_content.specs.Swaps.{form_in}
use Rattle.bz_content.specs.View.{view_of}
use Rattle.bz_content.proofs.Proved.{root_splits_keep_the_content, splits_keep_the_content}
use Rattle.bz_stage.proofs.Anew.{FallsToLevel, inner-anew, of-three}
use Rattle.bz_stage.proofs.Bounds.{lowest}
use Rattle.bz_stage.proofs.LeafSplits.{root-is}
use Rattle.bz_stage.proofs.Paths.{above-root, below-top, leaf-on-path, path-found}
use Rattle.bz_stage.specs.Laws.{InnerSplitsLowerTheStage, RootSplitsLowerTheStage, LeavesALevel, SplitsLeaveALevel}
use Rattle.bz_stage.specs.Paths.{on_path, StandsOver}
use Rattle.bz_stage.specs.Stages.{root_level, stage}
use Rattle.bz_stage.specs.Swaps.{IsRoomyInner, IsCrowdedBelow}

module _ (c : Config) (x : Image) (key : List ℕ) (t : IsTree (view_of c x)) where
  -- the key's leaf stands at the foot
  foot : StandsOver (form_in c x) key 0 (leaf_of (view_of c x) key)
  foot = subst (λ k. StandsOver (form_in c x) key 0 k) (sym (leaf-on-path (view_of c x) key)) (path-found (view_of c x) (form_in c x) key 0 t.honest (fits (view_of c x) t) (omega arith))

  -- and is no node that stands higher
  lower : (k : ℕ) → 0 < (form_in c x).level k → leaf_of (view_of c x) key ≢ k
  lower k some e = absurd (omega (arith, some, foot.at_level, ap (form_in c x).level e))

  leaf-below : leaf_of (view_of c x) key ≢ c.nodes
  leaf-below = below-top (view_of c x) (form_in c x) key 0 (leaf_of (view_of c x) key) (fits (view_of c x) t) t.tall foot

-- and there may be a node one level higher
pub record FallsBelow (c : Config) (x y : Image) (key : List ℕ) (words level : ℕ) : Type 0 where
  pub falls : FallsToLevel c x y key words level
  pub levels : level + 1 < MAX_LEVELS

inner-falls : (c : Config) (x y : Image) (key : List ℕ) (words level q l r m : ℕ) (sep : List ℕ) → IsTree (view_of c x) → 0 < level → IsCrowdedBelow c x key level →
    Splits c x y (on_path (view_of c x) key level) q l r m sep → IsRoomyInner c y l → IsRoomyInner c y r → FallsBelow c x y key words level
inner-falls c x y key words level q l r m sep t some z s left right = record {
  falls =
      inner-anew c x y key words level (a ∷ f.up a ∷ []) (q ∷ l ∷ r ∷ []) t (splits_keep_the_content c x y a q l r m sep t s) some within z (among-first a a (f.up a ∷ []) refl) far
      (node-same c (leaf_of (view_of c x) key) x.words y.words stays.words) (of-three c y (λ j. IsRoomyInner c y j) q l r level above left right);
  levels = omega (arith, up, over.at_level, lowest c.nodes (f.level (f.up a)) (node c y.raw q) (node c y.words q) _ _ s.whole_q);
}
  where
    a : ℕ
    a = on_path (view_of c x) key level

    f : Form
    f = form_in c x

    g : Fits (view_of c x) f
    g = fits (view_of c x) t

    within : level < (view_of c x).height
    within = elim (cases_lt level (view_of c x).height) [ inl lt ↦ lt | inr le ↦ absurd (s.not_top (above-root (view_of c x) key level le)) ]

    over : StandsOver f key level a
    over = path-found (view_of c x) f key level t.honest g (omega (arith, within))

    up : f.level a + 1 ≡ f.level (f.up a)
    up = (home (view_of c x) f a g s.inside s.not_top).stands.level

    far : is_among (a ∷ f.up a ∷ []) (leaf_of (view_of c x) key) ≡ false
    far = not-among a (leaf_of (view_of c x) key) (f.up a ∷ []) (lower c x key t a (omega (arith, over.at_level, some)))
        (not-among (f.up a) (leaf_of (view_of c x) key) [] (lower c x key t (f.up a) (omega (arith, up))) refl)

    stays : SameNode c x y (leaf_of (view_of c x) key)
    stays = s.link.others (leaf_of (view_of c x) key) (foot c x key t).inside (leaf-below c x key t) (lower c x key t (f.up (f.up a)) s.link.inner) far

    -- the new parent stands one level higher
    above : level_of (node c y.words q) ≢ level
    above e = absurd (omega (arith, e, up, over.at_level, level-is c.nodes (f.level (f.up a)) (node c y.raw q) (node c y.words q) _ _ s.whole_q))

root-falls : (c : Config) (x y : Image) (key : List ℕ) (words q l r m : ℕ) (sep : List ℕ) → IsTree (view_of c x) → 0 < root_level c x → IsCrowdedBelow c x key (root_level c x) →
    SplitsRoot c x y q l r m sep → IsRoomyInner c y l → IsRoomyInner c y r → FallsBelow c x y key words (root_level c x)
root-falls c x y key words q l r m sep t some z s left right = record {
  falls =
      inner-anew c x y key words (root_level c x) (root x.words ∷ []) (q ∷ l ∷ r ∷ []) t (root_splits_keep_the_content c x y q l r m sep t s) some (omega arith) z
      (among-first (root x.words) (on_path (view_of c x) key (root_level c x)) [] (root-is c x key t)) far
      (node-same c (leaf_of (view_of c x) key) x.words y.words stays.words) (of-three c y (λ j. IsRoomyInner c y j) q l r (root_level c x) above left right);
  levels = lowest c.nodes (root_level c x + 1) (node c y.raw q) (node c y.words q) _ _ s.whole_q;
}
  where
    f : Form
    f = form_in c x

    over : StandsOver f key (root_level c x) (on_path (view_of c x) key (root_level c x))
    over = path-found (view_of c x) f key (root_level c x) t.honest (fits (view_of c x) t) (omega arith)

    high : 0 < f.level (root x.words)
    high = omega (arith, some, over.at_level, ap f.level (root-is c x key t))

    far : is_among (root x.words ∷ []) (leaf_of (view_of c x) key) ≡ false
    far = not-among (root x.words) (leaf_of (view_of c x) key) [] (lower c x key t (root x.words) high) refl

    stays : SameNode c x y (leaf_of (view_of c x) key)
    stays = s.link.others (leaf_of (view_of c x) key) (foot c x key t).inside (leaf-below c x key t) (leaf-below c x key t) far

    -- the new root stands one level higher
    above : level_of (node c y.words q) ≢ root_level c x
    above e = absurd (omega (arith, e, level-is c.nodes (root_level c x + 1) (node c y.raw q) (node c y.words q) _ _ s.whole_q))

lower-by-one : (c : Config) (x y : Image) (key : List ℕ) (words level : ℕ) → FallsBelow c x y key words level → stage c y key words + 1 ≤ stage c x key words
lower-by-one c x y key words level h = omega (arith, h.falls.above, h.falls.within)

leaves-a-level : (c : Config) (x y : Image) (key : List ℕ) (words level : ℕ) → FallsBelow c x y key words level → LeavesALevel c y key words level
leaves-a-level c x y key words level h = record { stage_within = h.falls.within; one_higher = omega (arith, h.levels) }

pub inner-splits : InnerSplitsLowerTheStage
inner-splits c x y key words level q l r m sep t some z s left right = lower-by-one c x y key words level (inner-falls c x y key words level q l r m sep t some z s left right)

pub root-splits : RootSplitsLowerTheStage
root-splits c x y key words q l r m sep t some z s left right = lower-by-one c x y key words (root_level c x) (root-falls c x y key words q l r m sep t some z s left right)

pub splits-leave-a-level : SplitsLeaveALevel
splits-leave-a-level = record {
  inner = λ c x y key words level q l r m sep t some z s left right. leaves-a-level c x y key words level (inner-falls c x y key words level q l r m sep t some z s left right);
  root = λ c x y key words q l r m sep t some z s left right. leaves-a-level c x y key words (root_level c x) (root-falls c x y key words q l r m sep t some z s left right);
}
