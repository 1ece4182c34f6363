-- Where neither the root nor an inner node is another, the walk over the tree is the same.
use Rattle.std.proofs.Common.{◌≡◌, ℕ, ◌+◌, ◌-◌, ◌<◌, ◌==◌, ◌&&◌, true, List, arith, refl, sym, ap, subst, ◌∙◌, inl, inr}
use Rattle.std.specs.Prelude.{count_by}
use Rattle.std.specs.List.{range_with_len}
use Rattle.std.proofs.lemmas.Bool.{cases_eq}
use Rattle.bz_tree.proofs.SameWalks.{walk-same}
use Rattle.bz_tree.proofs.TreeForms.{fits}
use Rattle.bz_tree.specs.Form.{Fits, Form}
use Rattle.bz_tree.specs.Slots.{SameSlot}
use Rattle.bz_tree.specs.Walk.{form_of, walk, Visit}
use Rattle.bz_slotted.specs.Readers.{level_of}
use Rattle.bz_content.proofs.Reached.{root-below, root-stands}
use Rattle.bz_content.proofs.Sames.{node-same, same-slot, same-super}
use Rattle.bz_content.specs.Image.{node, root}
use Rattle.bz_content.specs.Swaps.{form_in}
use Rattle.bz_content.specs.View.{view_of}
use Rattle.bz_leaves.specs.Laws.{WordsOfLeavesDoNotCount}
use Rattle.bz_leaves.specs.Leaves.{leaf_count}

pub leaf-words : WordsOfLeavesDoNotCount
unfolding leaf_count
leaf-words c x y t s = record {
  leaves = ap (λ (us : List Visit). count_by (λ k. (form_of us).inside k && ((form_of us).level k == 0)) (range_with_len 0 c.nodes)) same;
  inside = λ k. ap (λ (us : List Visit). (form_of us).inside k) same;
  form = ap form_of same;
  height = height;
}
  where
    f : Form
    f = form_in c x

    g : Fits (view_of c x) f
    g = fits (view_of c x) t

    r : ℕ
    r = root x.words

    inside : f.inside r ≡ true
    inside = (root-stands c x g).inside

    root-is : root y.words ≡ r
    root-is = ap (λ p. p - 1) s.root.pointer

    -- the root says the level that it said
    root-level : level_of (node c y.words r) ≡ level_of (node c x.words r)
    root-level = elim (cases_eq (f.level r) 0) [
      | inl e ↦ s.leaves r inside e
      | inr ne ↦ ap level_of (node-same c r x.words y.words (s.inners r inside (omega (arith, ne)) (root-below c x g)).words)
    ]

    height : (view_of c y).height ≡ (view_of c x).height
    height = ap (λ k. level_of (node c y.words k) + 1) root-is ∙ ap (λ n. n + 1) root-level

    slots : (j : ℕ) → f.inside j ≡ true → 0 < f.level j → SameSlot (view_of c x) (view_of c y) j
    slots j i deep = elim (cases_eq j c.nodes) [
      | inl e ↦ subst (λ k. SameSlot (view_of c x) (view_of c y) k) (sym e) (same-super c x y s.root)
      | inr ne ↦ same-slot c x y j ne (s.inners j i deep ne)
    ]

    same : walk (view_of c y) ≡ walk (view_of c x)
    same = walk-same (view_of c x) (view_of c y) f g (record { top = refl; height = height }) slots
