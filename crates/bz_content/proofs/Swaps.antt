-- The laws of swaps, told of words.
use Rattle.std.proofs.Common.{◌≡◌, ◌≢◌, ℕ, ◌+◌, ◌-◌, ◌⊎◌, true, [], ◌∷◌, arith, refl, sym, ap, subst, ◌∙◌, inl, inr}
use Rattle.std.proofs.lemmas.Bool.{cases_eq}
use Rattle.std.proofs.lemmas.Bool.Decides.{nat_tests}
use Rattle.bz_layout.specs.declared.config.Config.{Config}
use Rattle.bz_tree.specs.Consolidation.{Consolidation}
use Rattle.bz_tree.specs.Form.{Form, Fits, Hangs}
use Rattle.bz_tree.specs.LeafSwap.{LeafSwap}
use Rattle.bz_tree.specs.Slots.{SameSlot, SameTop}
use Rattle.bz_tree.proofs.Proved.{consolidations_keep_the_content, leaf_swaps_keep_the_tree, unreached_slots_do_not_matter}
use Rattle.bz_slotted.specs.Readers.{level_of}
use Rattle.bz_content.specs.Changes.{SameNode, SameRoot}
use Rattle.bz_content.specs.Image.{Image, node, root}
use Rattle.bz_content.specs.Laws.{Turned, UnreachedWordsDoNotMatter, LeafSwapsKeepTheTree, ConsolidationsKeepTheContent}
use Rattle.bz_content.specs.Swaps.{form_in}
use Rattle.bz_content.specs.View.{view_of}
use Rattle.bz_content.proofs.Honesty.{no, honest}
use Rattle.bz_content.proofs.Reached.{is, fits, root-stands, root-below, level-is, level-at}
use Rattle.bz_content.proofs.Sames.{node-same, same-slot, same-super}
use Rattle.bz_content.proofs.Turns.{links-turned}

-- where the root's slot stays, both trees have one height
same-height : (c : Config) (x y : Image) → SameRoot x y → level_of (node c y.words (root x.words)) ≡ level_of (node c x.words (root x.words)) → SameTop (view_of c x) (view_of c y)
same-height c x y r same = record { top = refl; height = ap (λ l. l + 1) (ap (λ p. level_of (node c y.words (p - 1))) r.pointer ∙ same) }

pub unreached-words : UnreachedWordsDoNotMatter
unreached-words c x y t r same = unreached_slots_do_not_matter (view_of c x) (view_of c y) t (honest c y) top each
  where
    g : Fits (view_of c x) (form_in c x)
    g = fits c x t

    top : SameTop (view_of c x) (view_of c y)
    top =
        let s : SameNode c x y (root x.words) = same (root x.words) (root-stands c x g).inside (root-below c x g) in
        same-height c x y r (ap level_of (node-same c (root x.words) x.words y.words s.words))

    each : (j : ℕ) → (form_in c x).inside j ≡ true → SameSlot (view_of c x) (view_of c y) j
    each j i = elim (cases_eq j c.nodes) [
      | inl e ↦ subst (λ k. SameSlot (view_of c x) (view_of c y) k) (sym e) (same-super c x y r)
      | inr ne ↦ same-slot c x y j ne (same j i ne)
    ]

pub leaf-swaps : LeafSwapsKeepTheTree
leaf-swaps c x y k t s whole =
    let said = leaf_swaps_keep_the_tree (view_of c x) (view_of c y) k t (honest c y) swap in
    (said.0, λ key. said.1 key ∙ rw (no k c.nodes below) refl)
  where
    g : Fits (view_of c x) (form_in c x)
    g = fits c x t

    below : k ≢ c.nodes
    below e = absurd (omega (arith, g.tall, g.height, s.leaf, ap (form_in c x).level e))

    height : (root x.words ≡ k) ⊎ (root x.words ≢ k) → level_of (node c y.words (root x.words)) ≡ level_of (node c x.words (root x.words))
    height (inl e) = subst (λ z. level_of (node c y.words z) ≡ level_of (node c x.words z)) (sym e)
        (level-is c.nodes 0 (node c y.raw k) (node c y.words k) _ _ whole ∙ sym s.leaf ∙ sym (level-at c x k g s.inside below))
    height (inr ne) =
        let same : SameNode c x y (root x.words) = s.others (root x.words) (root-stands c x g).inside (root-below c x g) ne in
        ap level_of (node-same c (root x.words) x.words y.words same.words)

    swap : LeafSwap (view_of c x) (view_of c y) (form_in c x) k
    swap = record {
      same_top = same-height c x y s.root (height (cases_eq (root x.words) k));
      inside = s.inside;
      leaf = s.leaf;
      whole = rw (no k c.nodes below) whole;
      others = λ j i far. elim (cases_eq j c.nodes) [
        | inl e ↦ subst (λ z. SameSlot (view_of c x) (view_of c y) z) (sym e) (same-super c x y s.root)
        | inr ne ↦ same-slot c x y j ne (s.others j i ne far)
      ];
    }

pub consolidations : ConsolidationsKeepTheContent
consolidations c x y old new t s =
    consolidations_keep_the_content (view_of c x) (view_of c y) old new t (honest c y) swap (λ key. rw (no old c.nodes old_below, no new c.nodes new_below) (s.same key))
  where
    f : Form
    f = form_in c x

    g : Fits (view_of c x) f
    g = fits c x t

    turned : Turned c x y (f.up old) (f.index old) new (old ∷ [])
    turned = links-turned c x y (f.up old) (f.index old) new (old ∷ []) t s.link

    old_below : old ≢ c.nodes
    old_below e = absurd (omega (arith, g.tall, g.height, s.leaf, ap f.level e))

    new_below : new ≢ c.nodes
    new_below e = absurd (grind (arith, sym s.fresh ∙ ap f.inside e ∙ g.top))

    hangs : Hangs (view_of c x) f old
    hangs = g.hangs old s.inside old_below

    -- the root is the old leaf exactly where the link is the root pointer
    root_old : f.up old ≡ c.nodes → root x.words ≡ old
    root_old e =
        let first : f.index old ≡ 0 = s.link.first e in
        let child : (view_of c x).child c.nodes 0 ≡ old = (λ z. (view_of c x).child (sym e z) (sym first z)) ∙ hangs.child in
        sym (rw (is c.nodes) refl) ∙ child

    -- and otherwise it is another slot, which stands below the superblock
    root_other : f.up old ≢ c.nodes → root x.words ≢ old
    root_other ne e = ne (sym (ap f.up e) ∙ (root-stands c x g).up)

    top : (f.up old ≡ c.nodes) ⊎ (f.up old ≢ c.nodes) → SameTop (view_of c x) (view_of c y)
    top (inl e) = turned.at_root e (level-is c.nodes 0 (node c y.raw new) (node c y.words new) _ _ s.whole
        ∙ sym (ap (λ k. level_of (node c x.words k)) (root_old e) ∙ level-at c x old g s.inside old_below ∙ s.leaf))
    top (inr ne) = turned.below_root ne (let far : root x.words ≢ old = root_other ne in grind (arith, nat_tests))

    swap : Consolidation (view_of c x) (view_of c y) f old new
    swap = record {
      same_top = top (cases_eq (f.up old) c.nodes);
      inside = s.inside;
      leaf = s.leaf;
      fresh = s.fresh;
      whole = rw (no new c.nodes new_below) s.whole;
      link = turned.link;
      others = λ j i far up. turned.others j i up (grind (arith, nat_tests));
    }
