-- A swap on two leaves that leaves both whole is lawful for everybody.
use Rattle.std.proofs.Common.{◌≡◌, ◌≢◌, ℕ, ◌+◌, ◌^◌, ◌<◌, ◌&&◌, ◌||◌, ◌⊎◌, Bool, true, false, List, arith, refl, sym, ap, subst, ◌∙◌, inl, inr}
use Rattle.std.specs.Prelude.{nat_lt}
use Rattle.std.proofs.lemmas.Bool.{cases_eq, cases_lt, true≢false}
use Rattle.std.proofs.lemmas.Bool.Decides.{nat_tests}
use Rattle.bz_layout.specs.Addresses.{node_address, IsOutsideSwaps}
use Rattle.bz_layout.specs.declared.sizes.TheConstants.{NODE_WORDS, SUPERBLOCK_WORDS, ROOT_AT, ROOT_STATUS_AT}
use Rattle.bz_layout.proofs.Laws.{slots_apart}
use Rattle.bz_tree.specs.Walk.{form_of}
use Rattle.bz_content.specs.FromSlotted.Page.{page}
use Rattle.bz_swap.specs.SwapMemory.{is_target}
use Rattle.bz_word.specs.declared.entry.Entry.{Entry}
use Rattle.bz_content.specs.Content.{image_of, IsWellFormed}
use Rattle.bz_content.specs.Image.{node}
use Rattle.bz_content.specs.Resolving.{resolve}
use Rattle.bz_content.proofs.Proved.{plain_words_stand_for_themselves, well_formed_images_have_no_fault}
use Rattle.bz_moved.specs.TwoLeaves.{OnLeaves, PairKept}
use Rattle.bz_moved.proofs.Proved.{pair_swaps_keep_the_tree}
use Rattle.bz_task.specs.Good.{IsGood}
use Rattle.bz_task.specs.Instant.{Instant, words, durable, is_inside}
use Rattle.bz_task.specs.PairSwaps.{IsLeafChanged, IsPairSwap, IsLawfulSwap, PairSwapsAreLawful}
use Rattle.bz_task.specs.Scene.{Scene, IsScene, here}
use Rattle.bz_task.specs.Shown.{IsShown}
use Rattle.bz_task.specs.Steps.{IsEffect}
use Rattle.bz_task.specs.Swaps.{IsMineAndDurable}
use Rattle.bz_task.proofs.Swapping.{untouched, same-swapped, super-same, node-at, node-past, node-same}

and-left : (a b : Bool) → (a && b) ≡ true → a ≡ true
and-left true b e = refl
and-left false b e = e

and-right : (a b : Bool) → (a && b) ≡ true → b ≡ true
and-right true b e = e
and-right false b e = absurd (cc)

module _ (entries : List Entry) (s : Scene) (k l : ℕ) (y : Instant) (good : IsScene s) (w : IsPairSwap entries s k l y) where
  g : IsGood s.past.config (here s)
  g = good.history.good s.past.now good.begun (omega arith)

  -- a slot is one of both, or another one
  which : (j : ℕ) → IsLeafChanged s j y ⊎ ((j ≢ k) × (j ≢ l))
  which j = elim (cases_eq j k) [
    | inl e ↦ inl (subst (λ z. IsLeafChanged s z y) (sym e) w.first)
    | inr far ↦ elim (cases_eq j l) [
      | inl e ↦ inl (subst (λ z. IsLeafChanged s z y) (sym e) w.second)
      | inr too ↦ inr (far, too)
    ]
  ]

  reached-of : (j : ℕ) → IsLeafChanged s j y → (here s).reached j ≡ true
  reached-of j d = g.inside j d.inside (λ e. omega (arith, e, d.slot))

  -- words of the superblock and of other slots are no targets
  super-untouched : (a : ℕ) → a < SUPERBLOCK_WORDS → is_target entries a ≡ false
  super-untouched a small = go (is_target entries a) refl
    where
      go : (t : Bool) → is_target entries a ≡ t → is_target entries a ≡ false
      go true e = elim (w.place a e) [
        | inl p ↦ absurd (omega (arith, p.address, small))
        | inr p ↦ absurd (omega (arith, p.address, small))
      ]
      go false e = e

  slot-untouched : (j i : ℕ) → (j ≢ k) × (j ≢ l) → i < NODE_WORDS → is_target entries (node_address s.past.config j + i) ≡ false
  slot-untouched j i ne small = go (is_target entries (node_address s.past.config j + i)) refl
    where
      go : (t : Bool) → is_target entries (node_address s.past.config j + i) ≡ t → is_target entries (node_address s.past.config j + i) ≡ false
      go true e = elim (w.place (node_address s.past.config j + i) e) [
        | inl p ↦ absurd (ne.0 (slots_apart s.past.config j k i p.place small p.within p.address).0)
        | inr p ↦ absurd (ne.1 (slots_apart s.past.config j l i p.place small p.within p.address).0)
      ]
      go false e = e

  outside : (j i : ℕ) → IsOutsideSwaps s.past.config (node_address s.past.config j + i)
  outside j i = inr (omega arith)

  -- the words of other slots
  words-other : (j : ℕ) → (j ≢ k) × (j ≢ l) → (i : ℕ) → words s.past.config y j i ≡ words s.past.config (here s) j i
  words-other j ne = node-same s.past.config (here s).value y.value j (λ i small. w.swaps.value (node_address s.past.config j + i) ∙ untouched entries (here s).value (node_address s.past.config j + i) (slot-untouched j i ne small))

  durable-other : (j : ℕ) → (j ≢ k) × (j ≢ l) → (i : ℕ) → i < NODE_WORDS → resolve y.image (node_address s.past.config j + i) ≡ resolve (here s).image (node_address s.past.config j + i)
  durable-other j ne i small = w.swaps.resolved (node_address s.past.config j + i) (outside j i) ∙ untouched entries (resolve (here s).image) (node_address s.past.config j + i) (slot-untouched j i ne small)

  root-word : (a : ℕ) → a < SUPERBLOCK_WORDS → resolve y.image a ≡ resolve (here s).image a
  root-word a small = w.swaps.resolved a (inl small) ∙ untouched entries (resolve (here s).image) a (super-untouched a small)

  root-value : (a : ℕ) → a < SUPERBLOCK_WORDS → y.value a ≡ (here s).value a
  root-value a small = w.swaps.value a ∙ untouched entries (here s).value a (super-untouched a small)

  raw-same : (j i : ℕ) → node s.past.config y.image j i ≡ node s.past.config (here s).image j i
  raw-same j = node-same s.past.config (here s).image y.image j (λ i small. w.swaps.raw (node_address s.past.config j + i) (outside j i))

  on-leaves : OnLeaves s.past.config (image_of (here s).image) (image_of y.image) k l
  on-leaves = record {
    first = record { inside = w.first.inside; leaf = w.first.leaf };
    second = record { inside = w.second.inside; leaf = w.second.leaf };
    root = record { pointer = root-word ROOT_AT (omega arith); status = root-word ROOT_STATUS_AT (omega arith) };
    others = λ j ij below far too. record {
      words = λ i small. durable-other j (far, too) i small;
      stands = λ i from ptr. raw-same j i;
    };
  }

  was : IsWellFormed s.past.config (here s).image
  was = (well_formed_images_have_no_fault s.past.config (here s).image).0 g.form

  kept : PairKept s.past.config (image_of (here s).image) (image_of y.image) k l
  kept = pair_swaps_keep_the_tree s.past.config (image_of (here s).image) (image_of y.image) k l was.tree on-leaves w.first.whole w.second.whole

  inside-same : (j : ℕ) → is_inside s.past.config y j ≡ is_inside s.past.config (here s) j
  inside-same j = ap (λ us. (form_of us).inside j) kept.tree.walk

  reached-same : (j : ℕ) → y.reached j ≡ (here s).reached j
  reached-same j = w.swaps.reached j ∙ go ((here s).reached j) refl (is_inside s.past.config y j && nat_lt j s.past.config.nodes) refl
    where
      go : (r : Bool) → (here s).reached j ≡ r → (t : Bool) → (is_inside s.past.config y j && nat_lt j s.past.config.nodes) ≡ t → (here s).reached j || (is_inside s.past.config y j && nat_lt j s.past.config.nodes) ≡ (here s).reached j
      go true e t q = rw e refl
      go false e false q = rw (e, q) refl
      go false e true q =
          let i : is_inside s.past.config (here s) j ≡ true = sym (inside-same j) ∙ and-left (is_inside s.past.config y j) (nat_lt j s.past.config.nodes) q in
          let small : nat_lt j s.past.config.nodes ≡ true = and-right (is_inside s.past.config y j) (nat_lt j s.past.config.nodes) q in
          let ne : j ≢ s.past.config.nodes = grind (arith, nat_tests) in
          absurd (true≢false (sym (g.inside j i ne) ∙ e))

  was-reached : (j : ℕ) → y.reached j ≡ true → (here s).reached j ≡ true
  was-reached j r = sym (reached-same j) ∙ r

  -- reads of such a leaf answer what the image has
  leaf-shown : (j i : ℕ) → IsLeafChanged s j y → i < NODE_WORDS → IsShown (words s.past.config y j) i → resolve (here s).image (node_address s.past.config j + i) ≡ (here s).value (node_address s.past.config j + i)
  leaf-shown j i d small h = elim (d.shown i small h) [
    | inl same ↦ sym (node-at s.past.config (resolve (here s).image) j i small) ∙ (g.shown j i (reached-of j d) same ∙ node-at s.past.config (here s).value j i small)
    | inr own ↦ (
        let v : (here s).value (node_address s.past.config j + i) < 2 ^ 61 = (good.mine (node_address s.past.config j + i) own.mine).1.1 in
        plain_words_stand_for_themselves (here s).image (node_address s.past.config j + i) (subst (λ z. z < 2 ^ 61) (sym own.flushed.image) v) ∙ own.flushed.image)
  ]

  its-shown : (j i : ℕ) → IsLeafChanged s j y → IsShown (words s.past.config y j) i → durable s.past.config y j i ≡ words s.past.config y j i
  its-shown j i d h = elim (cases_lt i NODE_WORDS) [
    | inl small ↦ (
        let a : ℕ = node_address s.past.config j + i in
        node-at s.past.config (resolve y.image) j i small ∙ (w.swaps.resolved a (outside j i) ∙ (same-swapped entries (resolve (here s).image) (here s).value a (leaf-shown j i d small h) ∙ (sym (w.swaps.value a) ∙ sym (node-at s.past.config y.value j i small)))))
    | inr past ↦ node-past s.past.config (resolve y.image) j i past ∙ sym (node-past s.past.config y.value j i past)
  ]

  words-shown : (j i : ℕ) → (j ≢ k) × (j ≢ l) → IsShown (words s.past.config y j) i → IsShown (words s.past.config (here s) j) i
  words-shown j i ne h = let e : words s.past.config y j ≡ words s.past.config (here s) j = λ t z. words-other j ne z t in subst (λ n. IsShown n i) e h

  other-shown : (j i : ℕ) → (j ≢ k) × (j ≢ l) → (here s).reached j ≡ true → IsShown (words s.past.config y j) i → durable s.past.config y j i ≡ words s.past.config y j i
  other-shown j i ne r h =
      node-same s.past.config (resolve (here s).image) (resolve y.image) j (durable-other j ne) i
      ∙ (g.shown j i r (words-shown j i ne h) ∙ sym (words-other j ne i))

  good-after : IsGood s.past.config y
  good-after = record {
    few = w.swaps.few;
    form = (well_formed_images_have_no_fault s.past.config y.image).1 (record {
      super = super-same s.past.config (here s).image y.image (λ a small. w.swaps.raw a (inl small)) ∙ was.super;
      lawful = w.swaps.lawful;
      tree = kept.tree.tree;
    });
    inside = λ j i ne. reached-same j ∙ g.inside j (sym (inside-same j) ∙ i) ne;
    placed = λ j r. elim (g.placed j (was-reached j r)) [
      | inl i ↦ inl (inside-same j ∙ i)
      | inr f ↦ elim (which j) [
        | inl d ↦ inl (inside-same j ∙ d.inside)
        | inr ne ↦ inr (let e : words s.past.config y j ≡ words s.past.config (here s) j = λ t z. words-other j ne z t in ap (λ n. (page n).frozen) e ∙ f)
      ]
    ];
    slots = λ j r. g.slots j (was-reached j r);
    shown = λ j i r h. elim (which j) [
      | inl d ↦ its-shown j i d h
      | inr ne ↦ other-shown j i ne (was-reached j r) h
    ];
    root = root-word ROOT_AT (omega arith) ∙ (g.root ∙ sym (root-value ROOT_AT (omega arith)));
    root_status = root-word ROOT_STATUS_AT (omega arith) ∙ (g.root_status ∙ sym (root-value ROOT_STATUS_AT (omega arith)));
  }

  step-is : IsEffect s.past.config (here s) y
  step-is = record {
    effects = w.swaps.effects;
    reached = λ j r. reached-same j ∙ r;
    nodes = λ j r. elim (which j) [
      | inl d ↦ inr d.moves
      | inr ne ↦ inl (λ i h. words-other j ne i)
    ];
    root = inl (root-value ROOT_AT (omega arith));
  }

  shown-after : (j i : ℕ) → (here s).reached j ≡ true → i < NODE_WORDS → IsShown (words s.past.config y j) i → IsShown (words s.past.config (here s) j) i ⊎ IsMineAndDurable s (node_address s.past.config j + i)
  shown-after j i r small h = elim (which j) [
    | inl d ↦ d.shown i small h
    | inr ne ↦ inl (words-shown j i ne h)
  ]

  lawful : IsLawfulSwap entries s y
  lawful = record {
    targets = w.targets;
    good = good-after;
    step = step-is;
    linked = λ j i before is small. absurd (true≢false (sym (was-reached j is) ∙ before));
    linked_durable = λ j i before is small h. absurd (true≢false (sym (was-reached j is) ∙ before));
    shown = shown-after;
  }

pub pair-swaps : PairSwapsAreLawful
pair-swaps entries s k l y good w =
    let told = kept entries s k l y good w in
    (lawful entries s k l y good w, record { first = told.first; second = told.second; other = told.other })
