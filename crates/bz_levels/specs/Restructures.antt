-- The same two swaps on an image, told of words. Slots are as the form of the image before has them; the superblock is the slot after
-- the last one.
use Rattle.std.specs.Prelude.{◌≡◌, ◌≢◌, ℕ, ◌+◌, ◌<◌, true, false, List, [], ◌∷◌}
use Rattle.bz_layout.specs.declared.config.Config.{Config}
use Rattle.bz_tree.specs.Slots.{Wider, Halves}
use Rattle.bz_slotted.specs.Readers.{level_of, count_of, child_of}
use Rattle.bz_content.specs.Image.{Image, node, root}
use Rattle.bz_content.specs.Restructures.{children_of, StandsWhole}
use Rattle.bz_content.specs.Swaps.{form_in, TurnsLink}

-- the inner nodes a and b, neighbours below one inner node, are merged: the link to their parent goes to q, which has the node m in
-- place of both
pub record JoinsInner (c : Config) (x y : Image) (a b q m : ℕ) (sep : List ℕ) : Type 0 where
  pub inside : (form_in c x).inside a ≡ true
  pub inside_b : (form_in c x).inside b ≡ true
  pub inner : 0 < (form_in c x).level a
  pub same_up : (form_in c x).up b ≡ (form_in c x).up a
  pub next : (form_in c x).index b ≡ (form_in c x).index a + 1
  pub deep : (form_in c x).up a ≢ c.nodes
  pub fresh_q : (form_in c x).inside q ≡ false
  pub fresh_m : (form_in c x).inside m ≡ false
  pub two : q ≢ m
  pub link : TurnsLink c x y ((form_in c x).up ((form_in c x).up a)) ((form_in c x).index ((form_in c x).up a)) q (a ∷ b ∷ (form_in c x).up a ∷ [])
  pub child : child_of (node c y.words q) ((form_in c x).index a) ≡ m
  pub narrower : Wider (children_of (node c y.words q)) (children_of (node c x.words ((form_in c x).up a))) ((form_in c x).index a) a b sep
  pub joined : Halves (children_of (node c y.words m)) (children_of (node c x.words a)) (children_of (node c x.words b)) (count_of (node c x.words a)) sep
  pub whole_q : StandsWhole c y q ((form_in c x).level ((form_in c x).up a)) ((form_in c x).low ((form_in c x).up a)) ((form_in c x).high ((form_in c x).up a))
  pub whole_m : StandsWhole c y m ((form_in c x).level a) ((form_in c x).low a) ((form_in c x).high b)

-- the root, an inner node with the one child `to`, is left: the root pointer goes to that child
pub record LowersRoot (c : Config) (x y : Image) (to : ℕ) : Type 0 where
  pub inner : 0 < level_of (node c x.words (root x.words))
  pub one : count_of (node c x.words (root x.words)) ≡ 1
  pub child : child_of (node c x.words (root x.words)) 0 ≡ to
  pub link : TurnsLink c x y c.nodes 0 to (root x.words ∷ [])
