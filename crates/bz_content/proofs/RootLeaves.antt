-- An image whose root is a leaf in slot 0 is a tree, and holds what that leaf says.
use Rattle.std.proofs.Common.{◌≡◌, ◌≢◌, ℕ, ◌+◌, ◌^◌, ◌<◌, ◌==◌, if◌then◌else◌, ◌||◌, true, false, List, arith, refl, sym, ap, subst, ◌∙◌, inl, inr}
use Rattle.std.specs.Prelude.{None}
use Rattle.std.proofs.lemmas.Bool.{cases_eq}
use Rattle.std.proofs.lemmas.Bool.Decides.{nat_tests}
use Rattle.bz_layout.specs.declared.config.Config.{Config}
use Rattle.bz_tree.specs.Descent.{leaf_of, content}
use Rattle.bz_tree.specs.Form.{Form, Fits, Stands}
use Rattle.bz_tree.specs.Walk.{IsTree, form}
use Rattle.bz_tree.specs.Outcomes.{Agree, Moved}
use Rattle.bz_tree.proofs.Proved.{forms_fit_trees, leaves_tile_the_keys}
use Rattle.bz_slotted.specs.Readers.{level_of, found_of}
use Rattle.bz_slotted.specs.Rules.{node_fault}
use Rattle.bz_content.specs.Image.{Image, node, root}
use Rattle.bz_content.specs.View.{view_of}
use Rattle.bz_content.proofs.Honesty.{no, honest}
use Rattle.bz_content.proofs.Reached.{is, level-is}
use Rattle.bz_content.proofs.Turns.{root-whole}

-- the root pointer goes to slot 0, which is a leaf that breaks no rule
pub record HasRootLeaf (c : Config) (x : Image) : Type 0 where
  pub some : 0 < c.nodes
  pub pointer : x.words 1 ≡ 1
  pub status : x.words 2 < 2 ^ 32
  pub whole : node_fault c.nodes (node c x.raw 0) (node c x.words 0) 0 None None ≡ None

-- the superblock and slot 0
abbrev single : Config → Form
single c = record {
  inside = λ k. (k == c.nodes) || (k == 0);
  level = λ k. if k == c.nodes then 1 else 0;
  low = λ k. None;
  high = λ k. None;
  up = λ k. c.nodes;
  index = λ k. 0;
}

pub single-fits : (c : Config) (x : Image) → HasRootLeaf c x → Fits (view_of c x) (single c)
single-fits c x h = record {
  top = rw (is c.nodes) refl;
  top_up = refl;
  top_low = refl;
  top_high = refl;
  top_one = rw (is c.nodes) refl;
  height = rw (is c.nodes) (sym height);
  tall = omega arith;
  super = rw (is c.nodes) (root-whole c.nodes (x.words 1) (x.words 2) (omega (arith, h.pointer)) (omega (arith, h.pointer, h.some)) h.status);
  whole = λ k ins ne. rw (no k c.nodes ne) (subst (λ s. node_fault c.nodes (node c x.raw s) (node c x.words s) 0 None None ≡ None) (sym (zero_is k ins ne)) h.whole);
  down = stands;
  hangs = λ k ins ne. record {
    inside = rw (is c.nodes) refl;
    inner = rw (is c.nodes) (omega arith);
    within = rw (is c.nodes) (omega arith);
    child = rw (is c.nodes) (root_is ∙ sym (zero_is k ins ne));
    lower = rw (no k c.nodes ne) (omega arith);
  };
}
  where
    root_is : root x.words ≡ 0
    root_is = omega (arith, h.pointer)

    zero_not : (0 == c.nodes) ≡ false
    zero_not = no 0 c.nodes (λ e. absurd (omega (arith, h.some)))

    zero_is : (k : ℕ) → ((k == c.nodes) || (k == 0)) ≡ true → k ≢ c.nodes → k ≡ 0
    zero_is k ins ne = let t : (k == c.nodes) ≡ false = no k c.nodes ne in grind (arith, nat_tests)

    height : level_of (node c x.words (root x.words)) + 1 ≡ 1
    height = ap (λ k. level_of (node c x.words k) + 1) root_is ∙ ap (λ l. l + 1) (level-is c.nodes 0 (node c x.raw 0) (node c x.words 0) None None h.whole)

    stands : (k i : ℕ) → ((k == c.nodes) || (k == 0)) ≡ true → 0 < (if k == c.nodes then 1 else 0) → i < (view_of c x).count k → Stands (view_of c x) (single c) k i ((view_of c x).child k i)
    stands k i ins l lt = elim (cases_eq k c.nodes) [
      | inl e ↦
          let t : (k == c.nodes) ≡ true = grind (arith, nat_tests) in
          let i0 : i ≡ 0 = (let y : i < 1 = rw t at lt in omega arith) in
          rw (t, i0) (rw root_is (record { inside = rw zero_not refl; level = rw (t, zero_not) refl; low = refl; high = rw t refl; up = sym e; index = refl }))
      | inr ne ↦ absurd (let y : 0 < 0 = rw (no k c.nodes ne) at l in omega arith)
    ]

-- the image is a tree with this content
pub record HoldsLeaf (c : Config) (x : Image) : Type 0 where
  pub tree : IsTree (view_of c x)
  pub content : (key : List ℕ) → content (view_of c x) key ≡ found_of (node c x.words 0) key
  pub inside : (k : ℕ) → (form (view_of c x)).inside k ≡ (k == c.nodes) || (k == 0)

pub root-leaf : (c : Config) (x : Image) → HasRootLeaf c x → HoldsLeaf c x
root-leaf c x h = record { tree = tree; content = said; inside = agree.inside }
  where
    g : Fits (view_of c x) (single c)
    g = single-fits c x h

    tree : IsTree (view_of c x)
    tree = record { honest = honest c x; one = g.top_one; tall = g.tall; none = (forms_fit_trees (view_of c x) (single c) g).0 }

    agree : Agree (view_of c x) (single c) (form (view_of c x))
    agree = (forms_fit_trees (view_of c x) (single c) g).1

    zero_not : (0 == c.nodes) ≡ false
    zero_not = no 0 c.nodes (λ e. absurd (omega (arith, h.some)))

    moved : Moved (single c) (form (view_of c x)) 0
    moved = agree.moved 0 (rw zero_not refl)

    at : (key : List ℕ) → leaf_of (view_of c x) key ≡ 0
    at key = (leaves_tile_the_keys (view_of c x) tree key 0).0 (record { inside = moved.inside; leaf = moved.level ∙ rw zero_not refl; low = rw moved.low refl; high = rw moved.high refl })

    said : (key : List ℕ) → content (view_of c x) key ≡ found_of (node c x.words 0) key
    said key = ap (λ k. (view_of c x).found k key) (at key) ∙ rw zero_not refl
