-- A memory in which nothing changes for readers stays good.
use Rattle.std.proofs.Common.{◌≡◌, ◌≢◌, ℕ, ◌+◌, ◌-◌, ◌^◌, ◌<◌, ◌≤◌, ◌==◌, if◌then◌else◌, true, false, List, Option, arith, refl, sym, ap, subst, ◌∙◌, inl, inr}
use Rattle.std.specs.Prelude.{None}
use Rattle.std.proofs.lemmas.Bool.{cases_eq}
use Rattle.std.proofs.lemmas.Bool.Decides.{nat_tests}
use Rattle.bz_layout.specs.declared.config.Config.{Config}
use Rattle.bz_layout.specs.declared.sizes.TheConstants.{META_AT, STATUS_AT, HEADER_AT, ROOT_AT}
use Rattle.bz_tree.specs.Form.{Fits}
use Rattle.bz_tree.specs.Outcomes.{SameTree, SameContent}
use Rattle.bz_tree.specs.QuietSlots.{QuietSlots, SameLeaf}
use Rattle.bz_tree.specs.Slots.{SameSlot, SameTop}
use Rattle.bz_tree.specs.Walk.{form, form_of}
use Rattle.bz_tree.proofs.Proved.{quiet_slots_keep_the_tree, trees_have_forms}
use Rattle.bz_content.specs.FromSlotted.Changes.{StoresBeside}
use Rattle.bz_content.specs.FromSlotted.InnerChanges.{StandsAlike}
use Rattle.bz_content.specs.FromSlotted.LeafLaws.{AnswersAlike}
use Rattle.bz_content.specs.FromSlotted.Page.{page, extent_of}
use Rattle.bz_content.specs.FromSlotted.Records.{pointer_at}
use Rattle.bz_content.specs.FromSlotted.Readers.{level_of, count_of, child_of, key_of, found_of}
use Rattle.bz_content.specs.FromSlotted.Rules.{node_fault}
use Rattle.bz_content.specs.FromSlotted.Whole.{Whole}
use Rattle.bz_word.specs.Headers.{header}
use Rattle.bz_word.specs.Statuses.{status}
use Rattle.bz_word.specs.declared.meta.Meta.{Meta}
use Rattle.bz_content.specs.FromSlotted.Reading.{payload_at}
use Rattle.bz_content.specs.Content.{image_of, view_in, is_super, IsWellFormed}
use Rattle.bz_content.specs.Image.{node, root}
use Rattle.bz_content.specs.Lawful.{is_fixed}
use Rattle.bz_content.specs.Resolving.{resolve}
use Rattle.bz_content.proofs.FromSlotted.Proved.{leaf_rules_are_facts, standing_is_quiet, stores_are_quiet}
use Rattle.bz_content.proofs.Proved.{views_are_honest, well_formed_images_have_no_fault}
use Rattle.bz_task.specs.Good.{IsGood}
use Rattle.bz_task.specs.Instant.{Instant, words, durable, page_at, form_at, is_inside}
use Rattle.bz_task.specs.Laws.{HasRoot, IsLeafInTree}
use Rattle.bz_task.specs.Resting.{Rests, RestingMemoriesAreGood}
use Rattle.bz_task.specs.Shown.{IsShown, IsOfRecord, SameWords}
use Rattle.bz_task.proofs.Swapping.{every-same}
use Rattle.bz_task.proofs.Sames.{SamePlaces, words-places, words-records, places-shown, of-record, same-shown, front-shown}
use Rattle.bz_task.proofs.Ranges.{headers}
use Rattle.bz_task.proofs.Roots.{roots-reached}
use Rattle.bz_task.proofs.Thawed.{in-tree}

-- the words of the superblock that no swap names are all that its rule reads
super-fixed : (c : Config) (f g : ℕ → ℕ) → ((a : ℕ) → is_fixed a ≡ true → g a ≡ f a) → is_super c g ≡ is_super c f
unfolding is_super
super-fixed c f g h = rw (h 0 refl, h 3 refl, h 4 refl, every-same 11 (λ i. f (5 + i) == 0) (λ i. g (5 + i) == 0) (λ i l. ap (λ w. w == 0) (h (5 + i) (later i l)))) refl
  where
    later : (i : ℕ) → i < 11 → is_fixed (5 + i) ≡ true
    later i l = grind (arith, nat_tests)

level-by : (n m : ℕ → ℕ) → m HEADER_AT ≡ n HEADER_AT → level_of m ≡ level_of n
unfolding level_of
level-by n m e = ap (λ w. (header w).level) e

module _ (c : Config) (x y : Instant) (g : IsGood c x) (r : Rests c x y) where
  well : IsWellFormed c x.image
  well = (well_formed_images_have_no_fault c x.image).0 g.form

  -- what readers read of a reached node is what the image has
  shown-alike : (k : ℕ) → x.reached k ≡ true → SameWords (words c x k) (durable c x k)
  shown-alike k e i h = g.shown k i e h

  places : (k : ℕ) → x.reached k ≡ true → SamePlaces (words c x k) (durable c x k)
  places k e = words-places (words c x k) (durable c x k) (shown-alike k e)

  back : (k : ℕ) → x.reached k ≡ true → SamePlaces (durable c x k) (words c x k)
  back k e = let p : SamePlaces (words c x k) (durable c x k) = places k e in record {
    count = sym p.count;
    block = sym p.block;
    level = sym p.level;
    meta = λ j l. sym (p.meta j (subst (λ z. j < z) p.count l));
  }

  shown-there : (k i : ℕ) → x.reached k ≡ true → IsShown (durable c x k) i → IsShown (words c x k) i
  shown-there k i e h = places-shown (durable c x k) (words c x k) i (back k e) h

  resolved : (k i : ℕ) → x.reached k ≡ true → IsShown (durable c x k) i → durable c y k i ≡ durable c x k i
  resolved k i e h = r.resolved k i e (shown-there k i e h)

  -- a leaf
  leaf : (k : ℕ) → k ≢ c.nodes → is_inside c x k ≡ true → (form_at c x).level k ≡ 0 → SameLeaf (view_in c x.image) (view_in c y.image) (form_at c x) k
  leaf k ne i-k l = record { whole = rw no alike.none; found = λ key. rw no (alike.same key) }
    where
      no : (k == c.nodes) ≡ false
      no = grind (arith, nat_tests, ne)

      e : x.reached k ≡ true
      e = g.inside k i-k ne

      is : IsLeafInTree c x k
      is = in-tree c x k g (g.slots k e) i-k l

      block : (page (durable c x k)).block ≡ (page (words c x k)).block
      block = (places k e).block

      stores : StoresBeside (node c x.image k) (node c y.image k) (durable c x k) (durable c y k)
      stores = record {
        others = λ j h. resolved k j e (inr (inl h));
        records = λ j i lt vis from to.
            let o : IsOfRecord (durable c x k) i j = record { counted = lt; visible = vis; from = from; to = to } in
            let here : IsOfRecord (words c x k) i j = of-record (durable c x k) (words c x k) i j (back k e) o in
            (r.resolved k i e (inr (inr (inr (j, here)))), r.records k i j ne i-k is.flat here);
      }

      alike : AnswersAlike c.nodes (node c y.image k) (durable c x k) (durable c y k) ((form_at c x).low k) ((form_at c x).high k)
      alike = stores_are_quiet c.nodes (node c x.image k) (node c y.image k) (durable c x k) (durable c y k) ((form_at c x).low k) ((form_at c x).high k) is.whole stores

  -- an inner node: all its words are read
  inner-words : (k : ℕ) → x.reached k ≡ true → 0 < (page_at c x k).level → (i : ℕ) → durable c y k i ≡ durable c x k i
  inner-words k e l i = r.resolved k i e (inr (inr (inl l)))

  stands-alike : (k : ℕ) → k ≢ c.nodes → is_inside c x k ≡ true → x.reached k ≡ true → 0 < (page_at c x k).level → (l : ℕ) → 0 < l → StandsAlike (node c x.image k) (node c y.image k) (durable c x k) l
  stands-alike k ne ins e inner l some i from other =
      let p : SamePlaces (words c x k) (durable c x k) = places k e in
      r.separators k i ne ins inner (subst (λ n. META_AT + n ≤ i) p.count from)
      (λ j lt is. other some j (subst (λ n. j < n) (sym p.count) lt) (is ∙ pointer-alike k e j lt))
    where
      pointer-alike : (k : ℕ) → x.reached k ≡ true → (j : ℕ) → j < (page_at c x k).count → pointer_at (page_at c x k) j ≡ pointer_at (page (durable c x k)) j
      pointer-alike k e j lt = let p : SamePlaces (words c x k) (durable c x k) = places k e in ap (λ m. pointer_of m) (sym (p.meta j lt))
        where
          pointer_of : Meta → ℕ
          pointer_of m = payload_at (extent_of m)

  inner-fault : (k : ℕ) → k ≢ c.nodes → is_inside c x k ≡ true → x.reached k ≡ true → 0 < (page_at c x k).level → (l : ℕ) (low high : Option (List ℕ))
      → node_fault c.nodes (node c x.image k) (durable c x k) l low high ≡ None → node_fault c.nodes (node c y.image k) (durable c y k) l low high ≡ None
  inner-fault k ne ins e inner l low high none = elim (cases_eq l 0) [
    | inl z ↦ (
        let w : Whole (node c x.image k) (page (durable c x k)) low high = (leaf_rules_are_facts c.nodes (node c x.image k) (durable c x k) low high).0 (subst (λ n. node_fault c.nodes (node c x.image k) (durable c x k) n low high ≡ None) z none) in
        absurd (omega (arith, w.level.level, (places k e).level, inner)))
    | inr some ↦ (
        let ws : durable c y k ≡ durable c x k = λ t i. inner-words k e inner i t in
        subst (λ n. node_fault c.nodes (node c y.image k) n l low high ≡ None) (sym ws)
        (standing_is_quiet c.nodes (node c x.image k) (node c y.image k) (durable c x k) l low high none (stands-alike k ne ins e inner l (omega (arith, some)))))
  ]

  inner : (k : ℕ) → k ≢ c.nodes → is_inside c x k ≡ true → 0 < (form_at c x).level k → SameSlot (view_in c x.image) (view_in c y.image) k
  inner k ne i l = record {
    count = rw no (ap count_of same);
    child = λ j. rw no (ap (λ n. child_of n j) same);
    key = λ j. rw no (ap (λ n. key_of n j) same);
    found = λ key. rw no (ap (λ n. found_of n key) same);
    fault = λ level low high none. rw no (inner-fault k ne i e inner-level level low high (rw no at none));
  }
    where
      no : (k == c.nodes) ≡ false
      no = grind (arith, nat_tests, ne)

      e : x.reached k ≡ true
      e = g.inside k i ne

      inner-level : 0 < (page_at c x k).level
      inner-level = omega (arith, (headers c x k g ne i).level, l)

      same : durable c y k ≡ durable c x k
      same = λ t j. inner-words k e inner-level j t

  -- the superblock
  root-same : root (resolve y.image) ≡ root (resolve x.image)
  root-same = ap (λ n. n - 1) r.root

  top : SameSlot (view_in c x.image) (view_in c y.image) c.nodes
  top = record {
    count = rw yes refl;
    child = λ j. rw yes (ap (λ n. if j == 0 then n else 0) root-same);
    key = λ j. rw yes refl;
    found = λ key. rw yes refl;
    fault = λ l low high none. rw (yes, r.root, r.root_status) (rw yes at none);
  }
    where
      yes : (c.nodes == c.nodes) ≡ true
      yes = grind (arith, nat_tests)

  root-is : HasRoot c x (x.value ROOT_AT - 1)
  root-is = roots-reached c x g

  same-top : SameTop (view_in c x.image) (view_in c y.image)
  same-top = record {
    top = refl;
    height =
        let k : root (resolve x.image) ≡ x.value ROOT_AT - 1 = ap (λ n. n - 1) g.root in
        let e : x.reached (root (resolve x.image)) ≡ true = subst (λ n. x.reached n ≡ true) (sym k) root-is.reached in
        ap (λ n. level_of (node c (resolve y.image) n) + 1) root-same
        ∙ ap (λ n. n + 1) (level-by (durable c x (root (resolve x.image))) (durable c y (root (resolve x.image))) (r.resolved (root (resolve x.image)) HEADER_AT e (front-shown (words c x (root (resolve x.image))) HEADER_AT (omega arith))));
  }

  slots : QuietSlots (view_in c x.image) (view_in c y.image) (form (view_in c x.image))
  slots = record {
    same_top = same-top;
    inner = λ k i l. elim (cases_eq k c.nodes) [
      | inl e ↦ subst (λ n. SameSlot (view_in c x.image) (view_in c y.image) n) (sym e) top
      | inr ne ↦ inner k ne i l
    ];
    leaves = λ k i l. elim (cases_eq k c.nodes) [
      | inl e ↦ (let h : (form_at c x).level c.nodes ≡ (view_in c x.image).height = fits.height in absurd (omega (arith, h, fits.tall, l, ap (form_at c x).level e)))
      | inr ne ↦ leaf k ne i l
    ];
  }
    where
      fits : Fits (view_in c x.image) (form (view_in c x.image))
      fits = trees_have_forms (view_in c x.image) well.tree.one well.tree.tall well.tree.none

  kept : SameTree (view_in c x.image) (view_in c y.image) × SameContent (view_in c x.image) (view_in c y.image)
  kept = quiet_slots_keep_the_tree (view_in c x.image) (view_in c y.image) well.tree (views_are_honest c (image_of y.image)) slots

  inside-same : (k : ℕ) → is_inside c y k ≡ is_inside c x k
  inside-same k = ap (λ us. (form_of us).inside k) kept.0.walk

  fixed-same : (a : ℕ) → is_fixed a ≡ true → y.image a ≡ x.image a
  fixed-same = r.fixed

  was-reached : (k : ℕ) → y.reached k ≡ true → x.reached k ≡ true
  was-reached k e = sym (r.quiet.reached k) ∙ e

  good-after : IsGood c y
  good-after = record {
    few = subst (λ n. n < 2 ^ 32) (sym r.quiet.effects) g.few;
    form = (well_formed_images_have_no_fault c y.image).1 (record {
      super = super-fixed c x.image y.image r.fixed ∙ well.super;
      lawful = r.lawful;
      tree = kept.0.tree;
    });
    inside = λ k i ne. r.quiet.reached k ∙ g.inside k (sym (inside-same k) ∙ i) ne;
    placed = λ k e. elim (g.placed k (was-reached k e)) [
      | inl i ↦ inl (inside-same k ∙ i)
      | inr f ↦ inr (ap (λ n. (status n).frozen) (r.quiet.nodes k (was-reached k e) STATUS_AT (front-shown (words c x k) STATUS_AT (omega arith))) ∙ f)
    ];
    slots = λ k e. g.slots k (was-reached k e);
    shown = λ k i e h. let was : IsShown (words c x k) i = (same-shown (words c x k) (words c y k) (words-records (words c x k) (words c y k) (r.quiet.nodes k (was-reached k e))) i).1 h in
        r.resolved k i (was-reached k e) was ∙ (g.shown k i (was-reached k e) was ∙ sym (r.quiet.nodes k (was-reached k e) i was));
    root = r.root ∙ (g.root ∙ sym r.quiet.root.pointer);
    root_status = r.root_status ∙ (g.root_status ∙ sym r.quiet.root.status);
  }

pub resting : RestingMemoriesAreGood
resting c x y g r = record {
  good = good-after c x y g r;
  inside = inside-same c x y g r;
  content = (kept c x y g r).1.content;
  leaf = (kept c x y g r).0.leaf;
}
