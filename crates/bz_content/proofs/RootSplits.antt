-- A split of the root, told of words, is one of slots.
use Rattle.std.proofs.Common.{◌≡◌, ◌≢◌, ℕ, ◌+◌, true, false, List, [], ◌∷◌, arith, refl, ap, subst, ◌∙◌}
use Rattle.std.specs.Prelude.{Some, None}
use Rattle.std.proofs.lemmas.Bool.Decides.{nat_tests}
use Rattle.bz_tree.specs.Form.{Form, Fits, Stands}
use Rattle.bz_tree.specs.Order.{is_before}
use Rattle.bz_tree.specs.Slots.{children, Halves, AreTwo}
use Rattle.bz_tree.specs.RootSplit.{RootSplit}
use Rattle.bz_tree.proofs.Proved.{root_splits_keep_the_content}
use Rattle.bz_slotted.specs.Readers.{level_of}
use Rattle.bz_content.specs.Image.{node, root}
use Rattle.bz_content.specs.Laws.{Turned, RootSplitsKeepTheContent}
use Rattle.bz_content.specs.Restructures.{children_of, StandsWhole}
use Rattle.bz_content.specs.Swaps.{form_in, TurnsRoot}
use Rattle.bz_content.specs.View.{view_of}
use Rattle.bz_content.proofs.Restructures.{seen, moved, not-top}
use Rattle.bz_content.proofs.Honesty.{no, honest}
use Rattle.bz_content.proofs.Reached.{is, fits, root-stands, root-below, level-is, level-at}
use Rattle.bz_content.proofs.Turns.{links-turned}

pub root-splits : RootSplitsKeepTheContent
root-splits c x y q l r m sep t s =
    root_splits_keep_the_content (view_of c x) (view_of c y) (root x.words) q l r m sep t (honest c y) swap s.three (λ key leaf before. left key leaf before, λ key leaf from. right key leaf from)
  where
    f : Form
    f = form_in c x

    g : Fits (view_of c x) f
    g = fits c x t

    a : ℕ
    a = root x.words

    stands : Stands (view_of c x) f c.nodes 0 a
    stands = root-stands c x g

    a_below : a ≢ c.nodes
    a_below = root-below c x g

    level : level_of (node c x.words a) ≡ f.level a
    level = level-at c x a g stands.inside a_below

    turned : Turned c x y c.nodes 0 q (a ∷ [])
    turned = links-turned c x y c.nodes 0 q (a ∷ []) t s.link

    q_below : q ≢ c.nodes
    q_below = not-top c x q g s.fresh_q

    l_below : l ≢ c.nodes
    l_below = not-top c x l g s.fresh_l

    r_below : r ≢ c.nodes
    r_below = not-top c x r g s.fresh_r

    q_root : root y.words ≡ q
    q_root = let p : TurnsRoot c y q = s.link.at_root refl in omega (arith, p.pointer)

    q_level : level_of (node c y.words q) ≡ level_of (node c x.words a) + 1
    q_level = level-is c.nodes _ (node c y.raw q) (node c y.words q) _ _ s.whole_q

    swap : RootSplit (view_of c x) (view_of c y) f a q l r m sep
    swap = record {
      top = refl;
      height = ap (λ z. z + 1) (ap (λ k. level_of (node c y.words k)) q_root ∙ q_level);
      super = rw (is c.nodes) (rw (is c.nodes) at turned.link.whole);
      inside = stands.inside;
      not_top = a_below;
      root = stands.up;
      fresh_q = s.fresh_q;
      fresh_l = s.fresh_l;
      fresh_r = s.fresh_r;
      link = turned.link;
      two = subst (λ z. AreTwo z l r sep) (seen c y q q_below) s.two;
      halves = λ inner. subst (λ z. Halves z (children (view_of c y) l) (children (view_of c y) r) m sep) (seen c x a a_below)
          (moved (λ p z. Halves (children_of (node c x.words a)) p z m sep) (seen c y l l_below) (seen c y r r_below) (s.halves (rw level inner)));
      whole_q = rw (no q c.nodes q_below) s.whole_q;
      whole_l = rw (no l c.nodes l_below) (subst (λ z. StandsWhole c y l z None (Some sep)) level s.whole_l);
      whole_r = rw (no r c.nodes r_below) (subst (λ z. StandsWhole c y r z (Some sep) None) level s.whole_r);
      others = λ j i na far. turned.others j i far (grind (arith, nat_tests));
    }

    left : (key : List ℕ) → f.level a ≡ 0 → is_before key sep ≡ true → (view_of c y).found l key ≡ (view_of c x).found a key
    left key leaf before = rw (no l c.nodes l_below, no a c.nodes a_below) ((s.says (level ∙ leaf)).before key before)

    right : (key : List ℕ) → f.level a ≡ 0 → is_before key sep ≡ false → (view_of c y).found r key ≡ (view_of c x).found a key
    right key leaf from = rw (no r c.nodes r_below, no a c.nodes a_below) ((s.says (level ∙ leaf)).from key from)
