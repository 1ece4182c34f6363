-- A swap on two leaves is two swaps on one leaf, through an image that never stood.
use Rattle.std.proofs.Common.{◌≡◌, ◌≢◌, ℕ, ◌+◌, ◌<◌, ◌≤◌, ◌==◌, ◌&&◌, ◌⊎◌, if◌then◌else◌, Bool, true, false, List, arith, refl, sym, ap, subst, ◌∙◌, inl, inr}
use Rattle.std.specs.Prelude.{nat_le, nat_lt, None}
use Rattle.std.proofs.lemmas.Bool.{cases_eq, true≢false}
use Rattle.std.proofs.lemmas.Bool.Decides.{nat_tests}
use Rattle.bz_layout.specs.Addresses.{node_address}
use Rattle.bz_layout.specs.declared.config.Config.{Config}
use Rattle.bz_layout.specs.declared.sizes.TheConstants.{NODE_WORDS, SUPERBLOCK_WORDS, ROOT_AT, ROOT_STATUS_AT}
use Rattle.bz_tree.specs.Descent.{leaf_of, content}
use Rattle.bz_tree.specs.Outcomes.{SameTree}
use Rattle.bz_tree.specs.Walk.{IsTree, form_of}
use Rattle.bz_slotted.specs.InnerChanges.{StandsAlike}
use Rattle.bz_slotted.specs.Readers.{level_of, found_of}
use Rattle.bz_slotted.specs.Rules.{node_fault}
use Rattle.bz_content.specs.Changes.{SameNode, SameRoot}
use Rattle.bz_content.specs.Image.{Image, node}
use Rattle.bz_content.specs.Swaps.{form_in, OnLeaf, StaysWhole}
use Rattle.bz_content.specs.View.{view_of}
use Rattle.bz_content.proofs.Proved.{leaf_swaps_keep_the_tree}
use Rattle.bz_content.proofs.Sames.{node-same}
use Rattle.bz_moved.specs.TwoLeaves.{OnLeaves, is_in_slot, between, PairsAreTwoLeafSwaps, PairKept, PairSwapsKeepTheTree}

-- which addresses are of the slot
in-slot : (c : Config) (k i : ℕ) → i < NODE_WORDS → is_in_slot c k (node_address c k + i) ≡ true
in-slot c k i l =
    let a : nat_le (node_address c k) (node_address c k + i) ≡ true = grind (arith, nat_tests) in
    let b : nat_lt (node_address c k + i) (node_address c k + NODE_WORDS) ≡ true = grind (arith, nat_tests) in rw (a, b) refl

and-both : (a b : Bool) → (a && b) ≡ true → (a ≡ true) × (b ≡ true)
and-both true b e = (refl, e)
and-both false b e = absurd (true≢false (sym e))

out-of-slot : (c : Config) (k j i : ℕ) → j ≢ k → i < NODE_WORDS → is_in_slot c k (node_address c j + i) ≡ false
out-of-slot c k j i ne l = go (is_in_slot c k (node_address c j + i)) refl
  where
    go : (t : Bool) → is_in_slot c k (node_address c j + i) ≡ t → is_in_slot c k (node_address c j + i) ≡ false
    go false e = e
    go true e =
        let p = and-both (nat_le (node_address c k) (node_address c j + i)) (nat_lt (node_address c j + i) (node_address c k + NODE_WORDS)) e in
        let a : nat_le (node_address c k) (node_address c j + i) ≡ true = p.0 in
        let b : nat_lt (node_address c j + i) (node_address c k + NODE_WORDS) ≡ true = p.1 in
        let from : node_address c k ≤ node_address c j + i = grind (arith, nat_tests) in
        let to : node_address c j + i < node_address c k + NODE_WORDS = grind (arith, nat_tests) in
        absurd (ne (omega (arith, from, to, l)))

of-super : (c : Config) (k a : ℕ) → a < SUPERBLOCK_WORDS → is_in_slot c k a ≡ false
of-super c k a l = let t : nat_le (node_address c k) a ≡ false = grind (arith, nat_tests) in rw t refl

module _ (c : Config) (x y : Image) (k : ℕ) where
  -- the slot as it is afterwards
  at-words : node c (between c x y k).words k ≡ node c y.words k
  at-words = node-same c k y.words (between c x y k).words (λ i l. rw (in-slot c k i l) refl)

  at-raw : node c (between c x y k).raw k ≡ node c y.raw k
  at-raw = node-same c k y.raw (between c x y k).raw (λ i l. rw (in-slot c k i l) refl)

  -- and every other one as it was
  off-word : (j i : ℕ) → j ≢ k → i < NODE_WORDS → (between c x y k).words (node_address c j + i) ≡ x.words (node_address c j + i)
  off-word j i ne l = rw (out-of-slot c k j i ne l) refl

  off-words : (j : ℕ) → j ≢ k → node c (between c x y k).words j ≡ node c x.words j
  off-words j ne = node-same c j x.words (between c x y k).words (λ i l. off-word j i ne l)

  off-raw : (j : ℕ) → j ≢ k → node c (between c x y k).raw j ≡ node c x.raw j
  off-raw j ne = node-same c j x.raw (between c x y k).raw (λ i l. rw (out-of-slot c k j i ne l) refl)

  root-before : SameRoot x (between c x y k)
  root-before = record { pointer = rw (of-super c k ROOT_AT (omega arith)) refl; status = rw (of-super c k ROOT_STATUS_AT (omega arith)) refl }

  root-after : SameRoot x y → SameRoot (between c x y k) y
  root-after r = record { pointer = rw (of-super c k ROOT_AT (omega arith)) r.pointer; status = rw (of-super c k ROOT_STATUS_AT (omega arith)) r.status }

module _ (c : Config) (x y : Image) (a b : ℕ) (t : IsTree (view_of c x)) (s : OnLeaves c x y a b) (ne : a ≢ b) (wa : StaysWhole c x y a) (wb : StaysWhole c x y b) where
  on-first : OnLeaf c x (between c x y a) a
  on-first = record {
    inside = s.first.inside;
    leaf = s.first.leaf;
    root = root-before c x y a;
    others = λ j i below far. record {
      words = λ k l. off-word c x y a j k far l;
      stands = λ k from p. ap (λ n. n k) (off-raw c x y a j far);
    };
  }

  whole-first : StaysWhole c x (between c x y a) a
  whole-first = rw (at-words c x y a, at-raw c x y a) wa

  once : SameTree (view_of c x) (view_of c (between c x y a)) × ((key : List ℕ) → content (view_of c (between c x y a)) key ≡ if leaf_of (view_of c x) key == a then found_of (node c (between c x y a).words a) key else content (view_of c x) key)
  once = leaf_swaps_keep_the_tree c x (between c x y a) a t on-first whole-first

  inside-same : (j : ℕ) → (form_in c (between c x y a)).inside j ≡ (form_in c x).inside j
  inside-same j = ap (λ us. (form_of us).inside j) once.0.walk

  after : (j : ℕ) → (form_in c x).inside j ≡ true → j ≢ c.nodes → j ≢ b → (j ≡ a) ⊎ (j ≢ a) → SameNode c (between c x y a) y j
  after j i below far (inl e) = subst (λ z. SameNode c (between c x y a) y z) (sym e) (record {
    words = λ k l. rw (in-slot c a k l) refl;
    stands = λ k from p. ap (λ n. n k) (sym (at-raw c x y a));
  })
  after j i below far (inr other) =
      let same : SameNode c x y j = s.others j i below other far in record {
        words = λ k l. same.words k l ∙ sym (off-word c x y a j k other l);
        stands =
            subst (λ z. StandsAlike z (node c y.raw j) (node c (between c x y a).words j) (level_of (node c (between c x y a).words j))) (sym (off-raw c x y a j other))
            (subst (λ z. StandsAlike (node c x.raw j) (node c y.raw j) z (level_of z)) (sym (off-words c x y a j other)) same.stands);
      }

  on-second : OnLeaf c (between c x y a) y b
  on-second = record {
    inside = inside-same b ∙ s.second.inside;
    leaf = ap (λ us. (form_of us).level b) once.0.walk ∙ s.second.leaf;
    root = root-after c x y a s.root;
    others = λ j i below far. after j (sym (inside-same j) ∙ i) below far (cases_eq j a);
  }

  whole-second : StaysWhole c (between c x y a) y b
  whole-second = subst (λ us. node_fault c.nodes (node c y.raw b) (node c y.words b) 0 ((form_of us).low b) ((form_of us).high b) ≡ None) (sym once.0.walk) wb

  apart : PairKept c x y a b
  apart = record {
    tree = record { tree = twice.0.tree; walk = twice.0.walk ∙ once.0.walk; leaf = λ key. twice.0.leaf key ∙ once.0.leaf key };
    first = λ key e. not-second key (λ q. ne (sym e ∙ q)) ∙ (at-once key e ∙ ap (λ n. found_of n key) (at-words c x y a));
    second = λ key e. let q : (leaf_of (view_of c (between c x y a)) key == b) ≡ true = is key e in twice.1 key ∙ rw q refl;
    other = λ key na nb. not-second key nb ∙ not-once key na;
  }
    where
      twice : SameTree (view_of c (between c x y a)) (view_of c y) × ((key : List ℕ) → content (view_of c y) key ≡ if leaf_of (view_of c (between c x y a)) key == b then found_of (node c y.words b) key else content (view_of c (between c x y a)) key)
      twice = leaf_swaps_keep_the_tree c (between c x y a) y b once.0.tree on-second whole-second

      is : (key : List ℕ) → leaf_of (view_of c x) key ≡ b → (leaf_of (view_of c (between c x y a)) key == b) ≡ true
      is key e = let q : leaf_of (view_of c (between c x y a)) key ≡ b = once.0.leaf key ∙ e in grind (arith, nat_tests)

      not-second : (key : List ℕ) → leaf_of (view_of c x) key ≢ b → content (view_of c y) key ≡ content (view_of c (between c x y a)) key
      not-second key far =
          let n : leaf_of (view_of c (between c x y a)) key ≢ b = (λ e. far (sym (once.0.leaf key) ∙ e)) in
          let q : (leaf_of (view_of c (between c x y a)) key == b) ≡ false = grind (arith, nat_tests) in twice.1 key ∙ rw q refl

      at-once : (key : List ℕ) → leaf_of (view_of c x) key ≡ a → content (view_of c (between c x y a)) key ≡ found_of (node c (between c x y a).words a) key
      at-once key e = let q : (leaf_of (view_of c x) key == a) ≡ true = grind (arith, nat_tests) in once.1 key ∙ rw q refl

      not-once : (key : List ℕ) → leaf_of (view_of c x) key ≢ a → content (view_of c (between c x y a)) key ≡ content (view_of c x) key
      not-once key far = let q : (leaf_of (view_of c x) key == a) ≡ false = grind (arith, nat_tests) in once.1 key ∙ rw q refl

pub two-swaps : PairsAreTwoLeafSwaps
two-swaps c x y a b t s ne wa wb = record {
  first = on-first c x y a b t s ne wa wb;
  whole = whole-first c x y a b t s ne wa wb;
  second = on-second c x y a b t s ne wa wb;
  whole_too = whole-second c x y a b t s ne wa wb;
}

-- where both leaves are one, it is one swap on it
one : (c : Config) (x y : Image) (a b : ℕ) → IsTree (view_of c x) → OnLeaves c x y a b → a ≡ b → StaysWhole c x y a → PairKept c x y a b
one c x y a b t s e wa = record {
  tree = said.0;
  first = λ key q. at key q;
  second = λ key q. at key (q ∙ sym e) ∙ ap (λ k. found_of (node c y.words k) key) e;
  other = λ key n f. let q : (leaf_of (view_of c x) key == a) ≡ false = grind (arith, nat_tests) in said.1 key ∙ rw q refl;
}
  where
    on : OnLeaf c x y a
    on = record { inside = s.first.inside; leaf = s.first.leaf; root = s.root; others = λ j i below far. s.others j i below far (λ q. far (q ∙ sym e)) }

    said : SameTree (view_of c x) (view_of c y) × ((key : List ℕ) → content (view_of c y) key ≡ if leaf_of (view_of c x) key == a then found_of (node c y.words a) key else content (view_of c x) key)
    said = leaf_swaps_keep_the_tree c x y a t on wa

    at : (key : List ℕ) → leaf_of (view_of c x) key ≡ a → content (view_of c y) key ≡ found_of (node c y.words a) key
    at key q = let h : (leaf_of (view_of c x) key == a) ≡ true = grind (arith, nat_tests) in said.1 key ∙ rw h refl

pub pair-swaps : PairSwapsKeepTheTree
pair-swaps c x y a b t s wa wb = elim (cases_eq a b) [
  | inl e ↦ one c x y a b t s e wa
  | inr ne ↦ apart c x y a b t s ne wa wb
]
