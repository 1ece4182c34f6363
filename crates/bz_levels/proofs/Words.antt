-- Both swaps, told of words, are those of slots.
use Rattle.std.proofs.Common.{◌≡◌, ◌≢◌, ◌⊎◌, false, [], ◌∷◌, arith, refl, sym, ap, subst, ◌∙◌, inl, inr}
use Rattle.std.proofs.lemmas.Bool.{cases_eq}
use Rattle.std.proofs.lemmas.Bool.Decides.{nat_tests}
use Rattle.bz_tree.specs.Form.{Form, Fits, Hangs, Stands}
use Rattle.bz_tree.specs.Slots.{Wider, Halves, children}
use Rattle.bz_tree.specs.Walk.{is_among}
use Rattle.bz_tree.proofs.Trees.{not-among}
use Rattle.bz_slotted.specs.Readers.{level_of, count_of}
use Rattle.bz_content.specs.Changes.{SameNode}
use Rattle.bz_content.specs.Image.{node, root}
use Rattle.bz_content.specs.Laws.{Turned}
use Rattle.bz_content.specs.Restructures.{children_of}
use Rattle.bz_content.specs.Swaps.{form_in, TurnsRoot}
use Rattle.bz_content.specs.View.{view_of}
use Rattle.bz_content.proofs.Honesty.{no, honest}
use Rattle.bz_content.proofs.Reached.{is, fits, root-stands, root-below, level-is, level-at}
use Rattle.bz_content.proofs.Restructures.{seen, moved, not-top, heights}
use Rattle.bz_content.proofs.Sames.{node-same}
use Rattle.bz_content.proofs.Turns.{links-turned}
use Rattle.bz_levels.specs.InnerMerge.{InnerMerge}
use Rattle.bz_levels.specs.Laws.{InnerJoinsKeepTheContent, LoweredRootsKeepTheContent}
use Rattle.bz_levels.specs.RootLowering.{RootLowering}
use Rattle.bz_levels.proofs.JoinTrees.{inner-merges}
use Rattle.bz_levels.proofs.Lowerings.{root-lowerings}

pub inner-joins : InnerJoinsKeepTheContent
inner-joins c x y a d q m sep t s = inner-merges (view_of c x) (view_of c y) a d q m sep t (honest c y) swap s.two
  where
    f : Form
    f = form_in c x

    g : Fits (view_of c x) f
    g = fits c x t

    -- the superblock is its own parent, and the parent of a is not
    a_below : a ≢ c.nodes
    a_below e = s.deep (ap f.up e ∙ g.top_up)

    oa : Hangs (view_of c x) f a
    oa = g.hangs a s.inside a_below

    d_below : d ≢ c.nodes
    d_below e = s.deep (sym s.same_up ∙ ap f.up e ∙ g.top_up)

    turned : Turned c x y (f.up (f.up a)) (f.index (f.up a)) q (a ∷ d ∷ f.up a ∷ [])
    turned = links-turned c x y (f.up (f.up a)) (f.index (f.up a)) q (a ∷ d ∷ f.up a ∷ []) t s.link

    q_below : q ≢ c.nodes
    q_below = not-top c x q g s.fresh_q

    m_below : m ≢ c.nodes
    m_below = not-top c x m g s.fresh_m

    root_far : (root x.words ≡ f.up a) ⊎ (root x.words ≢ f.up a) → is_among (a ∷ d ∷ f.up a ∷ []) (root x.words) ≡ false ⊎ (root x.words ≡ f.up a)
    root_far (inl e) = inr e
    root_far (inr n) =
        let na : root x.words ≢ a = (λ e. s.deep (ap f.up (sym e) ∙ (root-stands c x g).up)) in
        let nd : root x.words ≢ d = (λ e. s.deep (sym s.same_up ∙ ap f.up (sym e) ∙ (root-stands c x g).up)) in
        inl (grind (arith, nat_tests))

    count_a : count_of (node c x.words a) ≡ (view_of c x).count a
    count_a = rw (no a c.nodes a_below) refl

    joined : Halves (children (view_of c y) m) (children (view_of c x) a) (children (view_of c x) d) ((view_of c x).count a) sep
    joined =
        let one : Halves (children_of (node c y.words m)) (children_of (node c x.words a)) (children_of (node c x.words d)) ((view_of c x).count a) sep =
        subst (λ k. Halves (children_of (node c y.words m)) (children_of (node c x.words a)) (children_of (node c x.words d)) k sep) count_a s.joined in
        let two : Halves (children_of (node c y.words m)) (children (view_of c x) a) (children (view_of c x) d) ((view_of c x).count a) sep =
        moved (λ p z. Halves (children_of (node c y.words m)) p z ((view_of c x).count a) sep) (seen c x a a_below) (seen c x d d_below) one in
        moved (λ p z. Halves p (children (view_of c x) a) z ((view_of c x).count a) sep) (seen c y m m_below) refl two

    swap : InnerMerge (view_of c x) (view_of c y) f a d q m sep
    swap = record {
      same_top = heights c x y (f.up a) (f.up (f.up a)) (f.index (f.up a)) q (a ∷ d ∷ f.up a ∷ []) g turned oa.inside s.deep refl (root_far (cases_eq (root x.words) (f.up a))) refl
          (level-is c.nodes _ (node c y.raw q) (node c y.words q) _ _ s.whole_q);
      inside = s.inside;
      inside_b = s.inside_b;
      not_top = a_below;
      not_top_b = d_below;
      same_up = s.same_up;
      next = s.next;
      deep = s.deep;
      inner = s.inner;
      fresh_q = s.fresh_q;
      fresh_c = s.fresh_m;
      link = turned.link;
      child = rw (no q c.nodes q_below) s.child;
      narrower = moved (λ p z. Wider p z (f.index a) a d sep) (seen c y q q_below) (seen c x (f.up a) s.deep) s.narrower;
      joined = joined;
      whole_q = rw (no q c.nodes q_below) s.whole_q;
      whole_c = rw (no m c.nodes m_below) s.whole_m;
      others = λ j i na nd np far. turned.others j i far (grind (arith, nat_tests));
    }

pub lowered-roots : LoweredRootsKeepTheContent
lowered-roots c x y to t s = root-lowerings (view_of c x) (view_of c y) (root x.words) to t (honest c y) swap
  where
    f : Form
    f = form_in c x

    g : Fits (view_of c x) f
    g = fits c x t

    stands : Stands (view_of c x) f c.nodes 0 (root x.words)
    stands = root-stands c x g

    p_below : root x.words ≢ c.nodes
    p_below = root-below c x g

    level : level_of (node c x.words (root x.words)) ≡ f.level (root x.words)
    level = level-at c x (root x.words) g stands.inside p_below

    -- the child stands one level below the root
    child_is : (view_of c x).child (root x.words) 0 ≡ to
    child_is = rw (no (root x.words) c.nodes p_below) s.child

    one : (view_of c x).count (root x.words) ≡ 1
    one = rw (no (root x.words) c.nodes p_below) s.one

    child_stands : Stands (view_of c x) f (root x.words) 0 to
    child_stands =
        let st : Stands (view_of c x) f (root x.words) 0 ((view_of c x).child (root x.words) 0) = g.down (root x.words) 0 stands.inside (omega (arith, level, s.inner)) (omega (arith, one)) in
        rw child_is at st

    to_below : to ≢ c.nodes
    to_below e = absurd (omega (arith, child_stands.level, stands.level, ap f.level e))

    to_far : to ≢ root x.words
    to_far e = absurd (omega (arith, child_stands.level, ap f.level e))

    turned : Turned c x y c.nodes 0 to (root x.words ∷ [])
    turned = links-turned c x y c.nodes 0 to (root x.words ∷ []) t s.link

    -- and is as it was
    same : node c y.words to ≡ node c x.words to
    same =
        let n : SameNode c x y to = s.link.others to child_stands.inside to_below to_below (not-among (root x.words) to [] to_far refl) in
        node-same c to x.words y.words n.words

    root_after : root y.words ≡ to
    root_after = let r : TurnsRoot c y to = s.link.at_root refl in omega (arith, r.pointer)

    level_after : level_of (node c y.words (root y.words)) ≡ f.level to
    level_after = ap (λ k. level_of (node c y.words k)) root_after ∙ (ap level_of same ∙ level-at c x to g child_stands.inside to_below)

    swap : RootLowering (view_of c x) (view_of c y) f (root x.words) to
    swap = record {
      top = refl;
      height = omega (arith, level_after, level, child_stands.level);
      super = rw (is c.nodes) (rw (is c.nodes) at turned.link.whole);
      inside = stands.inside;
      not_top = p_below;
      root = stands.up;
      inner = omega (arith, level, s.inner);
      one = one;
      child = child_is;
      link = turned.link;
      others = λ j i np far. turned.others j i far (grind (arith, nat_tests));
    }
