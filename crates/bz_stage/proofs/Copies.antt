-- A copy of the key's leaf has room.
use Rattle.std.proofs.Common.{◌≡◌, ℕ, true, [], ◌∷◌, arith, refl, sym, subst}
use Rattle.std.proofs.lemmas.Bool.Decides.{nat_tests}
use Rattle.bz_tree.proofs.Trees.{among-first}
use Rattle.bz_tree.specs.Descent.{leaf_of}
use Rattle.bz_tree.specs.Walk.{is_among}
use Rattle.bz_content.specs.View.{view_of}
use Rattle.bz_content.proofs.Proved.{consolidations_keep_the_content}
use Rattle.bz_stage.proofs.Anew.{leaf-anew}
use Rattle.bz_stage.specs.Laws.{CopiesGiveRoom}
use Rattle.bz_stage.specs.Swaps.{IsRoomyLeaf}

the-one : (a k : ℕ) → is_among (a ∷ []) k ≡ true → k ≡ a
the-one a k e = grind (arith, nat_tests)

pub copies : CopiesGiveRoom
copies c x y key words new t s roomy few =
    leaf-anew c x y key words (leaf_of (view_of c x) key ∷ []) (new ∷ []) t (consolidations_keep_the_content c x y (leaf_of (view_of c x) key) new t s)
    (among-first (leaf_of (view_of c x) key) (leaf_of (view_of c x) key) [] refl) (λ k e at. subst (λ j. IsRoomyLeaf c y j) (sym (the-one new k e)) roomy) few
