-- A copy takes the place of its leaf: there are as many leaves as before.
use Rattle.std.proofs.Common.{◌≡◌, ℕ, ◌+◌, true, [], ◌∷◌, arith, refl, ap, ◌∙◌}
use Rattle.std.proofs.lemmas.Bool.Decides.{nat_tests}
use Rattle.bz_tree.proofs.Trees.{among-first}
use Rattle.bz_tree.specs.Outcomes.{Regrows}
use Rattle.bz_tree.specs.Walk.{is_among}
use Rattle.bz_content.proofs.Reached.{level-is}
use Rattle.bz_content.specs.Image.{node}
use Rattle.bz_content.specs.Swaps.{form_in}
use Rattle.bz_content.specs.View.{view_of}
use Rattle.bz_content.proofs.Proved.{consolidations_keep_the_content}
use Rattle.bz_leaves.proofs.Exchanges.{leaf-is, leaves-exchanged, new-level, new-slot, no-leaf, not-top, old-slot}
use Rattle.bz_leaves.specs.Laws.{ConsolidationsKeepTheLeaves}
use Rattle.bz_leaves.specs.Leaves.{leaf_count}

-- the one slot of a list
pub only-one : (a j : ℕ) → is_among (a ∷ []) j ≡ true → j ≡ a
only-one a j e = grind (arith, nat_tests)

pub consolidations : ConsolidationsKeepTheLeaves
consolidations c x y old new t s = omega (arith, exchanged)
  where
    r : Regrows (view_of c x) (view_of c y) (old ∷ []) (new ∷ [])
    r = consolidations_keep_the_content c x y old new t s

    flat : (form_in c y).level new ≡ 0
    flat = new-level c x y (old ∷ []) (new ∷ []) t r new (among-first new new [] refl) s.fresh
        ∙ level-is c.nodes 0 (node c y.raw new) (node c y.words new) _ _ s.whole

    exchanged : leaf_count c y + 1 ≡ leaf_count c x + 1
    exchanged = leaves-exchanged c x y (old ∷ []) (new ∷ []) t r (old ∷ []) (new ∷ [])
        (record {
          out = λ j e. e;
          out_all = λ j e f. e;
          come = λ j e. e;
          come_flat = λ j e. ap (form_in c y).level (only-one new j e) ∙ flat;
          come_all = λ j e f. e;
        })
        (old-slot c x y (old ∷ []) (new ∷ []) t r old s.inside (not-top c x old t s.leaf), (leaf-is c x old s.inside s.leaf, (refl, tt)))
        (new-slot c x y (old ∷ []) (new ∷ []) t r new (among-first new new [] refl) s.fresh, (no-leaf c x new s.fresh, (refl, tt)))
