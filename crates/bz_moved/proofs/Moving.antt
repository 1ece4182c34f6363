-- A record moves: within a leaf, or from one leaf to another.
use Rattle.std.proofs.Common.{◌≡◌, ◌≢◌, ℕ, ◌<◌, ◌&&◌, ◌==◌, if◌then◌else◌, Bool, true, false, List, arith, refl, sym, ap, ◌∙◌, inl, inr}
use Rattle.std.specs.Prelude.{None}
use Rattle.std.proofs.lemmas.Bool.{cases_eq, true≢false}
use Rattle.std.proofs.lemmas.Bool.Decides.{nat_tests}
use Rattle.bz_layout.specs.declared.config.Config.{Config}
use Rattle.bz_tree.specs.Descent.{leaf_of, content}
use Rattle.bz_tree.specs.Form.{Fits}
use Rattle.bz_tree.specs.Order.{is_at_least, is_within}
use Rattle.bz_tree.specs.Outcomes.{SameTree}
use Rattle.bz_tree.specs.Walk.{IsTree}
use Rattle.bz_tree.proofs.Proved.{leaves_tile_the_keys}
use Rattle.bz_slotted.specs.LeafLaws.{AnswersRewritten}
use Rattle.bz_slotted.specs.Page.{visible, extent_of, page}
use Rattle.bz_slotted.specs.Readers.{found_of}
use Rattle.bz_slotted.specs.Records.{key_in, key_at}
use Rattle.bz_slotted.specs.Rules.{node_fault}
use Rattle.bz_slotted.proofs.Proved.{leaf_rules_are_facts, rewrite_changes_one_key}
use Rattle.bz_content.specs.Image.{Image, node}
use Rattle.bz_content.specs.Swaps.{form_in}
use Rattle.bz_content.specs.View.{view_of}
use Rattle.bz_content.proofs.Honesty.{no}
use Rattle.bz_content.proofs.Reached.{fits}
use Rattle.bz_content.proofs.Proved.{leaf_swaps_keep_the_tree}
use Rattle.bz_moved.specs.OneLeaf.{AnswersTraded}
use Rattle.bz_moved.specs.TwoLeaves.{IsLeafIn, PairKept, TradesMoveARecord, PairsMoveARecord}
use Rattle.bz_moved.proofs.OneLeaf.{trades}
use Rattle.bz_moved.proofs.TwoLeaves.{pair-swaps}

and-both : (a b : Bool) → (a && b) ≡ true → (a ≡ true) × (b ≡ true)
and-both true b e = (refl, e)
and-both false b e = absurd (true≢false (sym e))

-- of a leaf that is reached
module _ (c : Config) (x : Image) (k : ℕ) (t : IsTree (view_of c x)) (s : IsLeafIn c x k) where
  below : k ≢ c.nodes
  below e =
      let g : Fits (view_of c x) (form_in c x) = fits c x t in
      absurd (omega (arith, g.tall, g.height, s.leaf, ap (form_in c x).level e))

  -- it breaks no rule
  was-whole : node_fault c.nodes (node c x.raw k) (node c x.words k) 0 ((form_in c x).low k) ((form_in c x).high k) ≡ None
  was-whole =
      let g : Fits (view_of c x) (form_in c x) = fits c x t in
      let e : node_fault c.nodes (node c x.raw k) (node c x.words k) ((form_in c x).level k) ((form_in c x).low k) ((form_in c x).high k) ≡ None =
      rw (no k c.nodes below) at (g.whole k s.inside below) in
      rw s.leaf at e

  -- it is the leaf of the keys in its range
  in-range : (key : List ℕ) → is_within key ((form_in c x).low k) ((form_in c x).high k) ≡ true → leaf_of (view_of c x) key ≡ k
  in-range key w =
      let p = and-both (is_at_least key ((form_in c x).low k)) _ w in
      (leaves_tile_the_keys (view_of c x) t key k).0 (record { inside = s.inside; leaf = s.leaf; low = p.0; high = p.1 })

  -- so it is of those of its records
  of-record : (i : ℕ) → visible ((page (node c x.words k)).meta i) ≡ true → i < (page (node c x.words k)).count → leaf_of (view_of c x) (key_at (page (node c x.words k)) i) ≡ k
  of-record i v l = in-range (key_at (page (node c x.words k)) i) (((leaf_rules_are_facts c.nodes (node c x.raw k) (node c x.words k) _ _).0 was-whole).range i l v)

  -- and says what the content is
  says : (key : List ℕ) → leaf_of (view_of c x) key ≡ k → content (view_of c x) key ≡ found_of (node c x.words k) key
  says key e = ap (λ z. (view_of c x).found z key) e ∙ rw (no k c.nodes below) refl

pub trades-move : TradesMoveARecord
trades-move c x y k i j gone come t on w = record {
  tree = said.0;
  differ = w.comes.distinct i w.goes.inside two w.goes.was;
  gone = at (key_at (page (node c x.words k)) i) (of-record c x k t leaf i w.goes.was w.goes.inside) ∙ a.gone;
  came = at (key_in (node c x.words k) (extent_of come)) (in-range c x k t leaf (key_in (node c x.words k) (extent_of come)) w.comes.range) ∙ a.new;
  other = λ key old new. elim (cases_eq (leaf_of (view_of c x) key) k) [
    | inl e ↦ at key e ∙ (a.other key new old ∙ sym (says c x k t leaf key e))
    | inr ne ↦ let q : (leaf_of (view_of c x) key == k) ≡ false = grind (arith, nat_tests) in said.1 key ∙ rw q refl
  ];
}
  where
    leaf : IsLeafIn c x k
    leaf = record { inside = on.inside; leaf = on.leaf }

    two : i ≢ j
    two e = true≢false (sym w.goes.was ∙ (ap (λ z. visible ((page (node c x.words k)).meta z)) e ∙ w.comes.was))

    a : AnswersTraded c.nodes (node c y.raw k) (node c x.words k) (node c y.words k) ((form_in c x).low k) ((form_in c x).high k) i come
    a = trades c.nodes (node c x.raw k) (node c y.raw k) (node c x.words k) (node c y.words k) _ _ i j gone come (was-whole c x k t leaf) w

    said : SameTree (view_of c x) (view_of c y) × ((key : List ℕ) → content (view_of c y) key ≡ if leaf_of (view_of c x) key == k then found_of (node c y.words k) key else content (view_of c x) key)
    said = leaf_swaps_keep_the_tree c x y k t on a.none

    at : (key : List ℕ) → leaf_of (view_of c x) key ≡ k → content (view_of c y) key ≡ found_of (node c y.words k) key
    at key e = let q : (leaf_of (view_of c x) key == k) ≡ true = grind (arith, nat_tests) in said.1 key ∙ rw q refl

pub pairs-move : PairsMoveARecord
pairs-move c x y a b i j gone come t on ne w = record {
  tree = kept.tree;
  differ = λ e. ne (sym old-leaf ∙ (ap (leaf_of (view_of c x)) e ∙ new-leaf));
  gone = kept.first (key_at (page (node c x.words a)) i) old-leaf ∙ goes.gone w.was w.hidden;
  came = kept.second (key_in (node c x.words b) (extent_of come)) new-leaf ∙ comes.new w.shows;
  other = λ key old new. elim (cases_eq (leaf_of (view_of c x) key) a) [
    | inl e ↦ kept.first key e ∙ (goes.other key (λ v. absurd (true≢false (sym v ∙ w.hidden))) (λ v. old) ∙ sym (says c x a t on.first key e))
    | inr na ↦ elim (cases_eq (leaf_of (view_of c x) key) b) [
      | inl e ↦ kept.second key e ∙ (comes.other key (λ v. new) (λ v. absurd (true≢false (sym v ∙ w.fresh))) ∙ sym (says c x b t on.second key e))
      | inr nb ↦ kept.other key na nb
    ]
  ];
}
  where
    goes : AnswersRewritten c.nodes (node c y.raw a) (node c x.words a) (node c y.words a) ((form_in c x).low a) ((form_in c x).high a) i gone
    goes = rewrite_changes_one_key c.nodes (node c x.raw a) (node c y.raw a) (node c x.words a) (node c y.words a) _ _ i gone (was-whole c x a t on.first) w.goes

    comes : AnswersRewritten c.nodes (node c y.raw b) (node c x.words b) (node c y.words b) ((form_in c x).low b) ((form_in c x).high b) j come
    comes = rewrite_changes_one_key c.nodes (node c x.raw b) (node c y.raw b) (node c x.words b) (node c y.words b) _ _ j come (was-whole c x b t on.second) w.comes

    kept : PairKept c x y a b
    kept = pair-swaps c x y a b t on goes.none comes.none

    old-leaf : leaf_of (view_of c x) (key_at (page (node c x.words a)) i) ≡ a
    old-leaf = of-record c x a t on.first i w.was w.goes.inside

    new-leaf : leaf_of (view_of c x) (key_in (node c x.words b) (extent_of come)) ≡ b
    new-leaf = in-range c x b t on.second (key_in (node c x.words b) (extent_of come)) (w.comes.range w.shows)
