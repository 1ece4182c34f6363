-- A swap that turns a link is lawful for everybody.
use Rattle.std.proofs.Common.{◌≡◌, ◌≢◌, ℕ, ◌+◌, ◌^◌, ◌<◌, ◌&&◌, ◌||◌, ◌⊎◌, Bool, true, false, List, arith, refl, sym, ap, subst, ◌∙◌, inl, inr, not}
use Rattle.std.specs.Prelude.{nat_lt}
use Rattle.std.proofs.lemmas.Bool.{cases_lt, true≢false}
use Rattle.std.proofs.lemmas.Bool.Decides.{nat_tests}
use Rattle.bz_layout.specs.Addresses.{node_address, IsOutsideSwaps}
use Rattle.bz_layout.specs.declared.sizes.TheConstants.{NODE_WORDS, SUPERBLOCK_WORDS, ROOT_AT, ROOT_STATUS_AT}
use Rattle.bz_tree.specs.Walk.{is_among}
use Rattle.bz_slotted.specs.Page.{page}
use Rattle.bz_word.specs.declared.entry.Entry.{Entry}
use Rattle.bz_task.specs.FromContent.Content.{IsWellFormed}
use Rattle.bz_task.specs.FromContent.Laws.{WellFormedImagesHaveNoFault, PlainWordsStandForThemselves}
use Rattle.bz_task.specs.FromContent.Resolving.{resolve}
use Rattle.bz_task.specs.Good.{IsGood}
use Rattle.bz_task.specs.Instant.{Instant, words, durable, page_at, is_inside}
use Rattle.bz_task.specs.Scene.{Scene, IsScene, here}
use Rattle.bz_task.specs.Shown.{IsShown, SameShownNode}
use Rattle.bz_task.specs.Steps.{IsEffect, NodeMoves}
use Rattle.bz_task.specs.Swaps.{IsMineAndDurable}
use Rattle.bz_renew.specs.LinkSwaps.{IsFresh, IsLinkSwap, LinkSwapsAreGood}
use Rattle.bz_renew.proofs.Words.{untouched, same-swapped, super-same, node-at, node-past, node-same, and-left, and-right, or-split, or-left, or-right}

module _ (formed : WellFormedImagesHaveNoFault) (plain : PlainWordsStandForThemselves) (entries : List Entry) (s : Scene) (changed gone new : List ℕ) (y : Instant) (good : IsScene s) (w : IsLinkSwap entries s changed gone new y) where
  g : IsGood s.past.config (here s)
  g = good.history.good s.past.now good.begun (omega arith)

  outside : (k i : ℕ) → IsOutsideSwaps s.past.config (node_address s.past.config k + i)
  outside k i = inr (omega arith)

  -- the words of slots of which none is named
  words-other : (k : ℕ) → is_among changed k ≡ false → (i : ℕ) → words s.past.config y k i ≡ words s.past.config (here s) k i
  words-other k f = node-same s.past.config (here s).value y.value k (λ i l. w.swaps.value (node_address s.past.config k + i) ∙ untouched entries (here s).value (node_address s.past.config k + i) (w.others k i f l))

  words-alike : (k : ℕ) → is_among changed k ≡ false → words s.past.config y k ≡ words s.past.config (here s) k
  words-alike k f = λ t z. words-other k f z t

  -- a new slot was not reached, and none of its words is named
  new-unreached : (k : ℕ) → IsFresh s k → (here s).reached k ≡ false
  new-unreached k f = go ((here s).reached k) refl
    where
      go : (t : Bool) → (here s).reached k ≡ t → (here s).reached k ≡ false
      go false e = e
      go true e = absurd ((f.own 0 (omega arith)).mine.hidden k 0 e (omega arith) refl (inl (omega arith)))

  unreached-unnamed : (k : ℕ) → (here s).reached k ≡ false → is_among changed k ≡ false
  unreached-unnamed k u = go (is_among changed k) refl
    where
      go : (t : Bool) → is_among changed k ≡ t → is_among changed k ≡ false
      go false e = e
      go true e = absurd (true≢false (sym (w.changes k e).reached ∙ u))

  -- which slots are in the tree afterwards
  inside-after : (k : ℕ) → is_inside s.past.config y k ≡ true → (is_among new k ≡ true) ⊎ ((is_inside s.past.config (here s) k ≡ true) × (is_among gone k ≡ false))
  inside-after k i = go (is_among new k) (is_inside s.past.config (here s) k) (is_among gone k) refl refl refl (sym (w.regrows.slots.reached k) ∙ i)
    where
      go : (a b d : Bool) → is_among new k ≡ a → is_inside s.past.config (here s) k ≡ b → is_among gone k ≡ d → (a || (b && not d)) ≡ true → (is_among new k ≡ true) ⊎ ((is_inside s.past.config (here s) k ≡ true) × (is_among gone k ≡ false))
      go true b d p q r e = inl p
      go false true false p q r e = inr (q, r)
      go false true true p q r e = absurd (cc)
      go false false d p q r e = absurd (cc)

  stays-inside : (k : ℕ) → is_inside s.past.config (here s) k ≡ true → is_among gone k ≡ false → is_inside s.past.config y k ≡ true
  stays-inside k i f = w.regrows.slots.reached k ∙ rw (i, f) (or-right (is_among new k) true refl)

  reached-still : (k : ℕ) → (here s).reached k ≡ true → y.reached k ≡ true
  reached-still k r = w.swaps.reached k ∙ or-left ((here s).reached k) _ r

  -- a slot that is reached now only is new
  newly : (k : ℕ) → (here s).reached k ≡ false → y.reached k ≡ true → (is_inside s.past.config y k ≡ true) × (is_among new k ≡ true)
  newly k u r =
      let both : (is_inside s.past.config y k && nat_lt k s.past.config.nodes) ≡ true = or-split ((here s).reached k) _ (sym (w.swaps.reached k) ∙ r) u in
      let i : is_inside s.past.config y k ≡ true = and-left (is_inside s.past.config y k) _ both in
      let l : nat_lt k s.past.config.nodes ≡ true = and-right (is_inside s.past.config y k) _ both in
      let ne : k ≢ s.past.config.nodes = grind (arith, nat_tests) in (
        i,
        elim (inside-after k i) [
          | inl is ↦ is
          | inr was ↦ absurd (true≢false (sym (g.inside k was.0 ne) ∙ u))
        ],
      )

  newly-fresh : (k : ℕ) → (here s).reached k ≡ false → y.reached k ≡ true → IsFresh s k
  newly-fresh k u r = w.fresh k (newly k u r).1

  inside-reached : (k : ℕ) → is_inside s.past.config y k ≡ true → k ≢ s.past.config.nodes → y.reached k ≡ true
  inside-reached k i ne = elim (inside-after k i) [
    | inl is ↦ (
        let l : nat_lt k s.past.config.nodes ≡ true = (let below : k < s.past.config.nodes = (w.fresh k is).slot in grind (arith, nat_tests)) in
        w.swaps.reached k ∙ rw (i, l) (or-right ((here s).reached k) true refl))
    | inr was ↦ reached-still k (g.inside k was.0 ne)
  ]

  -- slots are in the tree or frozen
  placed-was : (k : ℕ) → (here s).reached k ≡ true → (is_inside s.past.config y k ≡ true) ⊎ ((page_at s.past.config y k).frozen ≡ true)
  placed-was k r = elim (g.placed k r) [ inl i ↦ of-tree i (is_among gone k) refl | inr f ↦ inr (still f (is_among changed k) refl) ]
    where
      of-tree : is_inside s.past.config (here s) k ≡ true → (t : Bool) → is_among gone k ≡ t → (is_inside s.past.config y k ≡ true) ⊎ ((page_at s.past.config y k).frozen ≡ true)
      of-tree i true e = inr (w.frozen k e)
      of-tree i false e = inl (stays-inside k i e)

      still : (page_at s.past.config (here s) k).frozen ≡ true → (t : Bool) → is_among changed k ≡ t → (page_at s.past.config y k).frozen ≡ true
      still f true e = absurd (true≢false (sym f ∙ (w.changes k e).moved.thawed))
      still f false e = ap (λ n. (page n).frozen) (words-alike k e) ∙ f

  placed : (k : ℕ) → y.reached k ≡ true → (is_inside s.past.config y k ≡ true) ⊎ ((page_at s.past.config y k).frozen ≡ true)
  placed k r = go ((here s).reached k) refl
    where
      go : (t : Bool) → (here s).reached k ≡ t → (is_inside s.past.config y k ≡ true) ⊎ ((page_at s.past.config y k).frozen ≡ true)
      go true e = placed-was k e
      go false e = inl (newly k e r).0

  slots : (k : ℕ) → y.reached k ≡ true → k < s.past.config.nodes
  slots k r = go ((here s).reached k) refl
    where
      go : (t : Bool) → (here s).reached k ≡ t → k < s.past.config.nodes
      go true e = g.slots k e
      go false e = (newly-fresh k e r).slot

  -- what is read of a slot was read of it
  shown-was : (k i : ℕ) → (here s).reached k ≡ true → IsShown (words s.past.config y k) i → IsShown (words s.past.config (here s) k) i
  shown-was k i r h = go (is_among changed k) refl
    where
      go : (t : Bool) → is_among changed k ≡ t → IsShown (words s.past.config (here s) k) i
      go true e = (w.changes k e).shown i h
      go false e = subst (λ n. IsShown n i) (words-alike k e) h

  -- reads answer what the image has
  resolved-was : (k i : ℕ) → (here s).reached k ≡ true → i < NODE_WORDS → IsShown (words s.past.config y k) i → resolve (here s).image (node_address s.past.config k + i) ≡ (here s).value (node_address s.past.config k + i)
  resolved-was k i r l h = sym (node-at s.past.config (resolve (here s).image) k i l) ∙ (g.shown k i r (shown-was k i r h) ∙ node-at s.past.config (here s).value k i l)

  resolved-own : (k i : ℕ) → IsFresh s k → i < NODE_WORDS → resolve (here s).image (node_address s.past.config k + i) ≡ (here s).value (node_address s.past.config k + i)
  resolved-own k i f l =
      let own : IsMineAndDurable s (node_address s.past.config k + i) = f.own i l in
      let v : (here s).value (node_address s.past.config k + i) < 2 ^ 61 = (good.mine (node_address s.past.config k + i) own.mine).1.1 in
      plain (here s).image (node_address s.past.config k + i) (subst (λ z. z < 2 ^ 61) (sym own.flushed.image) v) ∙ own.flushed.image

  resolved : (k i : ℕ) → y.reached k ≡ true → i < NODE_WORDS → IsShown (words s.past.config y k) i → resolve (here s).image (node_address s.past.config k + i) ≡ (here s).value (node_address s.past.config k + i)
  resolved k i r l h = go ((here s).reached k) refl
    where
      go : (t : Bool) → (here s).reached k ≡ t → resolve (here s).image (node_address s.past.config k + i) ≡ (here s).value (node_address s.past.config k + i)
      go true e = resolved-was k i e l h
      go false e = resolved-own k i (newly-fresh k e r) l

  shown-after : (k i : ℕ) → y.reached k ≡ true → IsShown (words s.past.config y k) i → durable s.past.config y k i ≡ words s.past.config y k i
  shown-after k i r h = elim (cases_lt i NODE_WORDS) [
    | inl l ↦ (
        let a : ℕ = node_address s.past.config k + i in
        node-at s.past.config (resolve y.image) k i l ∙ (w.swaps.resolved a (outside k i) ∙ (same-swapped entries (resolve (here s).image) (here s).value a (resolved k i r l h) ∙ (sym (w.swaps.value a) ∙ sym (node-at s.past.config y.value k i l)))))
    | inr l ↦ node-past s.past.config (resolve y.image) k i l ∙ sym (node-past s.past.config y.value k i l)
  ]

  root-after : (a : ℕ) → a < SUPERBLOCK_WORDS → resolve (here s).image a ≡ (here s).value a → resolve y.image a ≡ y.value a
  root-after a l e = w.swaps.resolved a (inl l) ∙ (same-swapped entries (resolve (here s).image) (here s).value a e ∙ sym (w.swaps.value a))

  was : IsWellFormed s.past.config (here s).image
  was = (formed s.past.config (here s).image).0 g.form

  good-after : IsGood s.past.config y
  good-after = record {
    few = w.swaps.few;
    form = (formed s.past.config y.image).1 (record {
      super = super-same s.past.config (here s).image y.image (λ a l. w.swaps.raw a (inl l)) ∙ was.super;
      lawful = w.swaps.lawful;
      tree = w.regrows.content.tree;
    });
    inside = inside-reached;
    placed = placed;
    slots = slots;
    shown = shown-after;
    root = root-after ROOT_AT (omega arith) g.root;
    root_status = root-after ROOT_STATUS_AT (omega arith) g.root_status;
  }

  step-is : IsEffect s.past.config (here s) y
  step-is = record {
    effects = w.swaps.effects;
    reached = reached-still;
    nodes = λ k r. node (is_among changed k) k refl;
    root = w.root;
  }
    where
      node : (t : Bool) (k : ℕ) → is_among changed k ≡ t → SameShownNode s.past.config (here s) y k ⊎ NodeMoves s.past.config (here s) y k
      node true k e = inr (w.changes k e).moved
      node false k e = inl (λ i h. words-other k e i)

pub link-swaps : WellFormedImagesHaveNoFault → PlainWordsStandForThemselves → LinkSwapsAreGood
link-swaps formed plain change entries s changed gone new y good w = record {
  targets = w.targets;
  good = good-after formed plain entries s changed gone new y good w;
  step = step-is formed plain entries s changed gone new y good w;
  content = w.regrows.content.content;
  linked = λ k i u r l. ((newly-fresh formed plain entries s changed gone new y good w k u r).own i l).mine;
  linked_durable = λ k i u r l h. ((newly-fresh formed plain entries s changed gone new y good w k u r).own i l).flushed;
  shown = λ k i r l h. inl (shown-was formed plain entries s changed gone new y good w k i r h);
}
