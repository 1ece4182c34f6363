-- A merge, told of words, is one of slots.
use Rattle.std.proofs.Common.{◌≡◌, ◌≢◌, ◌⊎◌, false, [], ◌∷◌, arith, refl, sym, ap, ◌∙◌, inl, inr}
use Rattle.std.proofs.lemmas.Bool.{cases_eq}
use Rattle.std.proofs.lemmas.Bool.Decides.{nat_tests}
use Rattle.bz_tree.specs.Form.{Form, Fits, Hangs}
use Rattle.bz_tree.specs.Slots.{Wider}
use Rattle.bz_tree.specs.Merge.{Merge}
use Rattle.bz_tree.specs.Walk.{is_among}
use Rattle.bz_tree.proofs.Proved.{merges_keep_the_content}
use Rattle.bz_content.specs.Image.{node, root}
use Rattle.bz_content.specs.Laws.{Turned, MergesKeepTheContent}
use Rattle.bz_content.specs.Swaps.{form_in}
use Rattle.bz_content.specs.View.{view_of}
use Rattle.bz_content.proofs.Restructures.{seen, moved, not-top, heights}
use Rattle.bz_content.proofs.Honesty.{no, honest}
use Rattle.bz_content.proofs.Reached.{fits, root-stands, level-is}
use Rattle.bz_content.proofs.Turns.{links-turned}

pub merges : MergesKeepTheContent
merges c x y a d q m sep t s =
    merges_keep_the_content (view_of c x) (view_of c y) a d q m sep t (honest c y) swap s.two
    (λ key h. rw (no m c.nodes m_below, no a c.nodes a_below) (s.says_a key h), λ key h. rw (no m c.nodes m_below, no d c.nodes d_below) (s.says_b key h))
  where
    f : Form
    f = form_in c x

    g : Fits (view_of c x) f
    g = fits c x t

    a_below : a ≢ c.nodes
    a_below e = absurd (omega (arith, g.tall, g.height, s.leaf, ap f.level e))

    oa : Hangs (view_of c x) f a
    oa = g.hangs a s.inside a_below

    -- the superblock is its own parent, and the parent of a is not
    d_below : d ≢ c.nodes
    d_below e = s.deep (sym s.same_up ∙ ap f.up e ∙ g.top_up)

    turned : Turned c x y (f.up (f.up a)) (f.index (f.up a)) q (a ∷ d ∷ f.up a ∷ [])
    turned = links-turned c x y (f.up (f.up a)) (f.index (f.up a)) q (a ∷ d ∷ f.up a ∷ []) t s.link

    q_below : q ≢ c.nodes
    q_below = not-top c x q g s.fresh_q

    m_below : m ≢ c.nodes
    m_below = not-top c x m g s.fresh_m

    root_far : (root x.words ≡ f.up a) ⊎ (root x.words ≢ f.up a) → is_among (a ∷ d ∷ f.up a ∷ []) (root x.words) ≡ false ⊎ (root x.words ≡ f.up a)
    root_far (inl e) = inr e
    root_far (inr n) =
        let na : root x.words ≢ a = (λ e. s.deep (ap f.up (sym e) ∙ (root-stands c x g).up)) in
        let nd : root x.words ≢ d = (λ e. s.deep (sym s.same_up ∙ ap f.up (sym e) ∙ (root-stands c x g).up)) in
        inl (grind (arith, nat_tests))

    swap : Merge (view_of c x) (view_of c y) f a d q m sep
    swap = record {
      same_top = heights c x y (f.up a) (f.up (f.up a)) (f.index (f.up a)) q (a ∷ d ∷ f.up a ∷ []) g turned oa.inside s.deep refl (root_far (cases_eq (root x.words) (f.up a))) refl
          (level-is c.nodes _ (node c y.raw q) (node c y.words q) _ _ s.whole_q);
      inside = s.inside;
      inside_b = s.inside_b;
      not_top = a_below;
      not_top_b = d_below;
      same_up = s.same_up;
      next = s.next;
      leaf = s.leaf;
      deep = s.deep;
      fresh_q = s.fresh_q;
      fresh_c = s.fresh_m;
      link = turned.link;
      child = rw (no q c.nodes q_below) s.child;
      narrower = moved (λ p z. Wider p z (f.index a) a d sep) (seen c y q q_below) (seen c x (f.up a) s.deep) s.narrower;
      whole_q = rw (no q c.nodes q_below) s.whole_q;
      whole_c = rw (no m c.nodes m_below) s.whole_m;
      others = λ j i na nd np far. turned.others j i far (grind (arith, nat_tests));
    }
