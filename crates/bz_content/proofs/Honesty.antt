-- The rules of an image see to what a tree needs of them.
use Rattle.std.proofs.Common.{◌≡◌, ◌≢◌, ℕ, ◌==◌, false, arith}
use Rattle.std.proofs.lemmas.Bool.Decides.{nat_tests}
use Rattle.bz_layout.specs.declared.config.Config.{Config}
use Rattle.bz_tree.specs.Form.{IsHonest}
use Rattle.bz_slotted.specs.Laws.{RisesBetween}
use Rattle.bz_slotted.proofs.Proved.{found_keys_are_in_range, inner_keys_rise}
use Rattle.bz_content.specs.Image.{Image, node}
use Rattle.bz_content.specs.View.{view_of}

pub no : (a b : ℕ) → a ≢ b → (a == b) ≡ false
no a b ne = grind (arith, nat_tests)

pub honest : (c : Config) (x : Image) → IsHonest (view_of c x)
honest c x = record {
  rises = λ k l lo hi ne pos none.
      let n : RisesBetween c.nodes (node c x.words k) lo hi = inner_keys_rise c.nodes (node c x.raw k) (node c x.words k) l lo hi pos (rw (no k c.nodes ne) at none) in
      record {
        some = rw (no k c.nodes ne) n.some;
        rise = λ i j a b d. rw (no k c.nodes ne) (n.rise i j a b (rw (no k c.nodes ne) at d));
        first = λ i a d. rw (no k c.nodes ne) (n.first i a (rw (no k c.nodes ne) at d));
        last = λ i a d. rw (no k c.nodes ne) (n.last i a (rw (no k c.nodes ne) at d));
      };
  holds = λ k lo hi key ne none some.
      found_keys_are_in_range c.nodes (node c x.raw k) (node c x.words k) lo hi key (rw (no k c.nodes ne) at none) (rw (no k c.nodes ne) at some);
}
