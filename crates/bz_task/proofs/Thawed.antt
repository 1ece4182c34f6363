-- Leaves and children of the tree; a leaf that is not frozen is in the tree.
use Rattle.std.proofs.Common.{◌≡◌, ◌≢◌, ℕ, ◌<◌, ◌==◌, true, false, arith, sym, ap, subst, ◌∙◌, inl, inr, ◌+◌, refl}
use Rattle.std.specs.Prelude.{nat_lt, None}
use Rattle.std.proofs.lemmas.Bool.{true≢false}
use Rattle.std.proofs.lemmas.Bool.Decides.{nat_tests}
use Rattle.bz_layout.specs.declared.config.Config.{Config}
use Rattle.bz_content.specs.FromSlotted.Reading.{payload_at}
use Rattle.bz_content.specs.FromSlotted.Page.{extent_of, page}
use Rattle.bz_content.specs.FromSlotted.Readers.{count_of, child_of}
use Rattle.bz_content.specs.FromSlotted.Records.{pointer_at}
use Rattle.bz_content.specs.FromSlotted.Rules.{node_fault}
use Rattle.bz_word.specs.Statuses.{status}
use Rattle.bz_content.specs.Content.{view_in}
use Rattle.bz_content.specs.Image.{node}
use Rattle.bz_task.specs.Good.{IsGood}
use Rattle.bz_task.specs.Instant.{Instant, words, durable, page_at, form_at, is_inside}
use Rattle.bz_task.specs.Laws.{IsLeafInTree, ChildrenAreInTrees, ThawedLeavesStay}
use Rattle.bz_task.specs.Shown.{SameWords}
use Rattle.bz_task.proofs.Roots.{fits}
use Rattle.bz_task.proofs.Sames.{SamePlaces, words-places}
use Rattle.bz_task.proofs.Ages.{nodes-stay}
use Rattle.bz_task.proofs.Frozen.{fronts-stay}
use Rattle.bz_task.proofs.Ranges.{headers, ranges-stay}

no : (a b : ℕ) → a ≢ b → (a == b) ≡ false
no a b ne = grind (arith, nat_tests)

-- what a leaf of the tree is
pub in-tree : (c : Config) (x : Instant) (k : ℕ) → IsGood c x → k < c.nodes → is_inside c x k ≡ true → (form_at c x).level k ≡ 0 → IsLeafInTree c x k
in-tree c x k g l i z =
    let ne : k ≢ c.nodes = λ e. omega (arith, e, l) in
    let e : node_fault c.nodes (node c x.image k) (durable c x k) ((form_at c x).level k) ((form_at c x).low k) ((form_at c x).high k) ≡ None = rw (no k c.nodes ne) at ((fits c x g).whole k i ne) in
    record {
      slot = l;
      inside = i;
      reached = g.inside k i ne;
      leaf = z;
      flat = (headers c x k g ne i).level ∙ z;
      whole = subst (λ d. node_fault c.nodes (node c x.image k) (durable c x k) d ((form_at c x).low k) ((form_at c x).high k) ≡ None) z e;
    }

pub thawed-stay : ThawedLeavesStay
thawed-stay c at first last m j k h o l i z f e = record {
  leaf = in-tree c (at j) k gj l inside ((ranges-stay c at first last m j k h o ne i inside).level ∙ z);
  same = nodes-stay c at first last m j j k h o o.order (omega arith) reached e;
}
  where
    ne : k ≢ c.nodes
    ne q = omega (arith, q, l)

    gm : IsGood c (at m)
    gm = h.good m o.since (omega (arith, o.order, o.until))

    gj : IsGood c (at j)
    gj = h.good j (omega (arith, o.since, o.order)) o.until

    reached : (at m).reached k ≡ true
    reached = gm.inside k i ne

    still : (at j).reached k ≡ true
    still = (fronts-stay c at first last m j k h o reached).reached

    thawed : (page_at c (at j) k).frozen ≡ false
    thawed = ap (λ w. (status w).frozen) e ∙ f

    inside : is_inside c (at j) k ≡ true
    inside = elim (gj.placed k still) [ inl t ↦ t | inr t ↦ absurd (true≢false (sym t ∙ thawed)) ]

count-is : (n : ℕ → ℕ) → count_of n ≡ (page n).count
unfolding count_of
count-is n = refl

child-is : (n : ℕ → ℕ) (i to : ℕ) → i < (page n).count → n (pointer_at (page n) i) ≡ to + 1 → child_of n i ≡ to
unfolding child_of
child-is n i to l e = let t : nat_lt i (page n).count ≡ true = grind (arith, nat_tests) in rw t (omega (arith, e))

-- where a child stands
pub child-inside : ChildrenAreInTrees
child-inside c x k i to g ne ik inner l e =
    let f = fits c x g in
    let r : x.reached k ≡ true = g.inside k ik ne in
    let level : (form_at c x).level k ≡ (page_at c x k).level = sym (headers c x k g ne ik).level in
    let same : SameWords (words c x k) (durable c x k) = λ j h. g.shown k j r h in
    let p : SamePlaces (words c x k) (durable c x k) = words-places (words c x k) (durable c x k) same in
    let counted : i < (page (durable c x k)).count = omega (arith, l, p.count) in
    let count : (view_in c x.image).count k ≡ (page (durable c x k)).count = rw (no k c.nodes ne) (count-is (durable c x k)) in
    let pointer : durable c x k (pointer_at (page (durable c x k)) i) ≡ to + 1 =
    ap (λ z. durable c x k (payload_at (extent_of z))) (p.meta i l) ∙ (same (pointer_at (page_at c x k) i) (inr (inr (inl inner))) ∙ e) in
    let child : (view_in c x.image).child k i ≡ to = rw (no k c.nodes ne) (child-is (durable c x k) i to counted pointer) in
    subst (λ z. (form_at c x).inside z ≡ true) child (f.down k i ik (omega (arith, inner, level)) (omega (arith, counted, count))).inside
