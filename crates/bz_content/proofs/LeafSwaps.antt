-- The swaps on one leaf by their kinds: those that change no answer, and those that rewrite one record.
use Rattle.std.proofs.Common.{◌≡◌, ◌≢◌, ◌&&◌, ℕ, ◌==◌, if◌then◌else◌, ◌⊎◌, Bool, true, false, List, arith, refl, sym, ap, ◌∙◌, inl, inr}
use Rattle.std.specs.Prelude.{None}
use Rattle.std.proofs.lemmas.Bool.{cases_eq, true≢false}
use Rattle.std.proofs.lemmas.Bool.Decides.{nat_tests}
use Rattle.bz_layout.specs.declared.config.Config.{Config}
use Rattle.bz_tree.specs.Descent.{leaf_of, content}
use Rattle.bz_tree.specs.Form.{Fits, Holds}
use Rattle.bz_tree.specs.Order.{is_at_least, is_within}
use Rattle.bz_tree.specs.Outcomes.{SameTree, SameContent}
use Rattle.bz_tree.specs.Walk.{IsTree}
use Rattle.bz_tree.proofs.Proved.{leaves_tile_the_keys}
use Rattle.bz_slotted.specs.LeafLaws.{AnswersAlike, AnswersRewritten}
use Rattle.bz_slotted.specs.Page.{page, visible, extent_of}
use Rattle.bz_slotted.specs.Readers.{found_of}
use Rattle.bz_slotted.specs.Records.{key_in, key_at}
use Rattle.bz_slotted.specs.Rules.{node_fault}
use Rattle.bz_slotted.proofs.Proved.{freeze_is_quiet, growth_is_quiet, leaf_rules_are_facts, reservation_is_quiet, rewrite_changes_one_key, stores_are_quiet}
use Rattle.bz_content.specs.Image.{Image, node}
use Rattle.bz_content.specs.Laws.{QuietSwapsKeepTheContent, RewritesChangeOneKey}
use Rattle.bz_content.specs.Swaps.{form_in, OnLeaf, IsQuietChange}
use Rattle.bz_content.specs.View.{view_of}
use Rattle.bz_content.proofs.Honesty.{no}
use Rattle.bz_content.proofs.Reached.{fits}
use Rattle.bz_content.proofs.Swaps.{leaf-swaps}

-- the leaf breaks no rule before
module _ (c : Config) (x y : Image) (k : ℕ) (t : IsTree (view_of c x)) (s : OnLeaf c x y k) where
  below : k ≢ c.nodes
  below e =
      let g : Fits (view_of c x) (form_in c x) = fits c x t in
      absurd (omega (arith, g.tall, g.height, s.leaf, ap (form_in c x).level e))

  whole : node_fault c.nodes (node c x.raw k) (node c x.words k) 0 ((form_in c x).low k) ((form_in c x).high k) ≡ None
  whole =
      let g : Fits (view_of c x) (form_in c x) = fits c x t in
      let e : node_fault c.nodes (node c x.raw k) (node c x.words k) ((form_in c x).level k) ((form_in c x).low k) ((form_in c x).high k) ≡ None =
      rw (no k c.nodes below) at (g.whole k s.inside below) in
      rw s.leaf at e

  -- the content at keys of the leaf
  at-leaf : (key : List ℕ) → leaf_of (view_of c x) key ≡ k → content (view_of c x) key ≡ found_of (node c x.words k) key
  at-leaf key e = ap (λ z. (view_of c x).found z key) e ∙ rw (no k c.nodes below) refl

  quiet : AnswersAlike c.nodes (node c y.raw k) (node c x.words k) (node c y.words k) ((form_in c x).low k) ((form_in c x).high k)
      → SameTree (view_of c x) (view_of c y) × SameContent (view_of c x) (view_of c y)
  quiet a =
      let said = leaf-swaps c x y k t s a.none in
      (said.0, record { tree = said.0.tree; content = λ key. said.1 key ∙ same key (cases_eq (leaf_of (view_of c x) key) k) })
    where
      same : (key : List ℕ) → (leaf_of (view_of c x) key ≡ k) ⊎ (leaf_of (view_of c x) key ≢ k)
          → (if leaf_of (view_of c x) key == k then found_of (node c y.words k) key else content (view_of c x) key) ≡ content (view_of c x) key
      same key (inl e) = let q : (leaf_of (view_of c x) key == k) ≡ true = grind (arith, nat_tests) in rw q (a.same key ∙ sym (at-leaf key e))
      same key (inr n) = rw (no (leaf_of (view_of c x) key) k n) refl

pub quiet-swaps : QuietSwapsKeepTheContent
quiet-swaps c x y k t s q = quiet c x y k t s (alike q)
  where
    alike : IsQuietChange (node c x.raw k) (node c y.raw k) (node c x.words k) (node c y.words k)
        → AnswersAlike c.nodes (node c y.raw k) (node c x.words k) (node c y.words k) ((form_in c x).low k) ((form_in c x).high k)
    alike (inl r) = reservation_is_quiet c.nodes (node c x.raw k) (node c y.raw k) (node c x.words k) (node c y.words k) _ _ r.0 (whole c x y k t s) r.1
    alike (inr o) = elim o [
      | inl g ↦ growth_is_quiet c.nodes (node c x.raw k) (node c y.raw k) (node c x.words k) (node c y.words k) _ _ g.0 (whole c x y k t s) g.1
      | inr p ↦ elim p [
        | inl f ↦ freeze_is_quiet c.nodes (node c x.raw k) (node c y.raw k) (node c x.words k) (node c y.words k) _ _ (whole c x y k t s) f
        | inr w ↦ stores_are_quiet c.nodes (node c x.raw k) (node c y.raw k) (node c x.words k) (node c y.words k) _ _ (whole c x y k t s) w
      ]
    ]

first : (a b : Bool) → a && b ≡ true → a ≡ true
first true b h = refl
first false b h = h

second : (a b : Bool) → a && b ≡ true → b ≡ true
second true b h = h
second false b h = absurd (true≢false (sym h))

pub rewrites : RewritesChangeOneKey
rewrites c x y k j mt t s r = record {
  tree = said.0;
  other = λ key not_new not_old. said.1 key ∙ other key not_new not_old (cases_eq (leaf_of (view_of c x) key) k);
  new = λ v. at (key_in (node c x.words k) (extent_of mt)) (r.range v) ∙ a.new v;
  gone = λ v h. at (key_at (page (node c x.words k)) j) ((((leaf_rules_are_facts c.nodes (node c x.raw k) (node c x.words k) _ _).0 (whole c x y k t s)).range) j r.inside v) ∙ a.gone v h;
}
  where
    a : AnswersRewritten c.nodes (node c y.raw k) (node c x.words k) (node c y.words k) ((form_in c x).low k) ((form_in c x).high k) j mt
    a = rewrite_changes_one_key c.nodes (node c x.raw k) (node c y.raw k) (node c x.words k) (node c y.words k) _ _ j mt (whole c x y k t s) r

    said : SameTree (view_of c x) (view_of c y)
        × ((key : List ℕ) → content (view_of c y) key ≡ if leaf_of (view_of c x) key == k then found_of (node c y.words k) key else content (view_of c x) key)
    said = leaf-swaps c x y k t s a.none

    -- a key in the leaf's range is answered by the leaf
    at : (key : List ℕ) → is_within key ((form_in c x).low k) ((form_in c x).high k) ≡ true → content (view_of c y) key ≡ found_of (node c y.words k) key
    at key w =
        let holds : Holds (form_in c x) key k = record { inside = s.inside; leaf = s.leaf; low = first (is_at_least key ((form_in c x).low k)) _ w; high = second (is_at_least key ((form_in c x).low k)) _ w } in
        let e : leaf_of (view_of c x) key ≡ k = (leaves_tile_the_keys (view_of c x) t key k).0 holds in
        let q : (leaf_of (view_of c x) key == k) ≡ true = grind (arith, nat_tests) in
        said.1 key ∙ rw q refl

    other : (key : List ℕ) → (visible mt ≡ true → key_in (node c x.words k) (extent_of mt) ≢ key) → (visible ((page (node c x.words k)).meta j) ≡ true → key_at (page (node c x.words k)) j ≢ key)
        → (leaf_of (view_of c x) key ≡ k) ⊎ (leaf_of (view_of c x) key ≢ k)
        → (if leaf_of (view_of c x) key == k then found_of (node c y.words k) key else content (view_of c x) key) ≡ content (view_of c x) key
    other key not_new not_old (inl e) =
        let q : (leaf_of (view_of c x) key == k) ≡ true = grind (arith, nat_tests) in rw q (a.other key not_new not_old ∙ sym (at-leaf c x y k t s key e))
    other key not_new not_old (inr n) = rw (no (leaf_of (view_of c x) key) k n) refl
