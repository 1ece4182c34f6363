-- The leaf that a merge puts in the place of two has room, where it has taken few words.
use Rattle.std.proofs.Common.{◌≡◌, ◌≢◌, ℕ, true, [], ◌∷◌, ◌⊎◌, arith, sym, ap, subst, ◌∙◌, inl, inr}
use Rattle.std.proofs.lemmas.Bool.Decides.{nat_tests}
use Rattle.bz_tree.proofs.TreeForms.{fits}
use Rattle.bz_tree.proofs.Trees.{among-first, among-later}
use Rattle.bz_tree.specs.Descent.{leaf_of}
use Rattle.bz_tree.specs.Form.{Form, Hangs}
use Rattle.bz_tree.specs.Walk.{is_among}
use Rattle.bz_slotted.specs.Readers.{level_of}
use Rattle.bz_content.proofs.Reached.{level-is}
use Rattle.bz_content.specs.Image.{node}
use Rattle.bz_content.specs.Swaps.{form_in}
use Rattle.bz_content.specs.View.{view_of}
use Rattle.bz_content.proofs.Proved.{merges_keep_the_content}
use Rattle.bz_stage.proofs.Anew.{leaf-anew}
use Rattle.bz_stage.specs.Swaps.{IsRoomyLeaf}
use Rattle.bz_joined.specs.Laws.{MergesGiveRoom}

two-cases : (a b k : ℕ) → is_among (a ∷ b ∷ []) k ≡ true → (k ≡ a) ⊎ (k ≡ b)
two-cases a b k e = grind (arith, nat_tests)

pub merges : MergesGiveRoom
merges c x y key words a b q m sep t s one roomy few = leaf-anew c x y key words (a ∷ b ∷ f.up a ∷ []) (q ∷ m ∷ []) t (merges_keep_the_content c x y a b q m sep t s) cut new few
  where
    f : Form
    f = form_in c x

    cut : is_among (a ∷ b ∷ f.up a ∷ []) (leaf_of (view_of c x) key) ≡ true
    cut = elim one [
      | inl e ↦ among-first a (leaf_of (view_of c x) key) (b ∷ f.up a ∷ []) e
      | inr e ↦ among-later a (leaf_of (view_of c x) key) (b ∷ f.up a ∷ []) (among-first b (leaf_of (view_of c x) key) (f.up a ∷ []) e)
    ]

    not-top : a ≢ c.nodes
    not-top e = absurd (omega (arith, s.leaf, (fits (view_of c x) t).height, (fits (view_of c x) t).tall, ap f.level e))

    hangs : Hangs (view_of c x) f a
    hangs = (fits (view_of c x) t).hangs a s.inside not-top

    -- the new parent is no leaf
    above : level_of (node c y.words q) ≢ 0
    above e = absurd (omega (arith, e, hangs.inner, level-is c.nodes (f.level (f.up a)) (node c y.raw q) (node c y.words q) _ _ s.whole_q))

    new : (k : ℕ) → is_among (q ∷ m ∷ []) k ≡ true → level_of (node c y.words k) ≡ 0 → IsRoomyLeaf c y k
    new k e at = elim (two-cases q m k e) [
      | inl p ↦ absurd (above (ap (λ j. level_of (node c y.words j)) (sym p) ∙ at))
      | inr p ↦ subst (λ j. IsRoomyLeaf c y j) (sym p) roomy
    ]
