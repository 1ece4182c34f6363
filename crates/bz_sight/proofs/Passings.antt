-- An act by which no swap takes effect changes nothing for readers.
use Rattle.std.proofs.Common.{◌≡◌, ◌≢◌, ℕ, ◌+◌, ◌<◌, ◌≤◌, ◌⊎◌, if◌then◌else◌, Bool, true, false, slice_index, arith, refl, sym, ap, subst, ◌∙◌, inl, inr}
use Rattle.std.specs.Prelude.{nat_lt, nat_le}
use Rattle.std.proofs.lemmas.Bool.{cases_lt}
use Rattle.std.proofs.lemmas.Bool.Decides.{nat_tests}
use Rattle.bz_layout.specs.Addresses.{swap_address, node_address, words_of as size_of}
use Rattle.bz_layout.specs.declared.config.Config.{Config}
use Rattle.bz_layout.specs.declared.sizes.TheConstants.{NODE_WORDS, SHARED_WORDS, META_AT, STATUS_AT, ROOT_AT, ROOT_STATUS_AT, SUPERBLOCK_WORDS}
use Rattle.bz_layout.proofs.Laws.{slots_apart}
use Rattle.bz_swap_cells.specs.Store.{IsOutside, is_outside}
use Rattle.bz_swap.specs.SwapMemory.{SwapMemory, value_at, is_named, is_among, is_settled_at}
use Rattle.bz_swap.proofs.SettledWords.{settled-same}
use Rattle.bz_content.specs.Image.{node}
use Rattle.bz_content.specs.Lawful.{is_fixed, is_in_descriptor, is_lawful}
use Rattle.bz_content.specs.Resolving.{resolve}
use Rattle.bz_content.proofs.Proved.{well_formed_images_have_no_fault}
use Rattle.bz_swap_image.proofs.Proved.{descriptors_are_lawful}
use Rattle.bz_sight.specs.Swapped.{LeavesItsValues}
use Rattle.bz_swap.specs.Held.{Holds, HoldsIn, IsHeld}
use Rattle.bz_swap.specs.declared.phase.Phase.{Phase}
use Rattle.bz_swap.specs.declared.phase.Phase.TheVariants.{Opened, Running, Recovering}
use Rattle.bz_slotted.specs.Page.{page, visible, held as is_held, extent_of, meta_of}
use Rattle.bz_word.specs.Statuses.{status}
use Rattle.bz_word.specs.declared.meta.Meta.{Meta}
use Rattle.bz_word.specs.declared.meta.Meta.TheVariants.{Unused, Reserved, Visible, Deleted}
use Rattle.bz_slotted.specs.Records.{pointer_at}
use Rattle.bz_slotted.specs.Whole.{Whole, IsInBlock}
use Rattle.bz_slotted.proofs.Proved.{leaf_rules_are_facts}
use Rattle.bz_task.specs.Instant.{Instant, words, durable, page_at, form_at, is_inside}
use Rattle.bz_task.specs.Laws.{IsLeafInTree}
use Rattle.bz_task.specs.Requests.{IsMetaPlace, IsPointerPlace}
use Rattle.bz_task.specs.Resting.{Rests, HoldsTheSame}
use Rattle.bz_task.specs.Shown.{IsShown, IsRead, IsOfRecord}
use Rattle.bz_task.specs.Steps.{IsQuiet}
use Rattle.bz_task.specs.Targets.{IsTargetAt}
use Rattle.bz_task.proofs.Proved.{headers_say_the_level, leaves_are_in_trees, resting_memories_are_good, targets_stay}
use Rattle.bz_sight.specs.Passing.{Passes, ActsPass}
use Rattle.bz_sight.specs.Sight.{IsSeen, IsHidden, answer_at, next_instant}
use Rattle.bz_sight.proofs.ReadWords.{read-before, read-settled, read-durable}
use Rattle.bz_sight.proofs.SwapMemories.{leaves-values}

-- outside a recovery time the memory is held
pub held : (m : SwapMemory) → m.phase ≢ Recovering → Holds m → IsHeld m
held m ne h = by-phase m.phase ne h
  where
    by-phase : (p : Phase) → p ≢ Recovering → HoldsIn p m → IsHeld m
    by-phase Opened n i = i
    by-phase Running n i = i
    by-phase Recovering n i = absurd (n refl)

-- the test of what lies outside the descriptors
pub outside-test : (swaps a : ℕ) → IsOutside swaps a → is_outside swaps a ≡ true
outside-test swaps a (inl l) = let t : nat_lt a SUPERBLOCK_WORDS ≡ true = grind (arith, nat_tests) in rw t refl
outside-test swaps a (inr l) = elim (cases_lt a SUPERBLOCK_WORDS) [
  | inl h ↦ (let t : nat_lt a SUPERBLOCK_WORDS ≡ true = grind (arith, nat_tests) in rw t refl)
  | inr h ↦ (let t : nat_lt a SUPERBLOCK_WORDS ≡ false = grind (arith, nat_tests) in let u : nat_lt a (swap_address swaps) ≡ false = grind (arith, nat_tests) in rw (t, u) refl)
]

if-true : {A : Type 0} (t : Bool) (v w : A) → t ≡ true → (if t then v else w) ≡ v
if-true t v w e = rw e refl

if-false : {A : Type 0} (t : Bool) (v w : A) → t ≡ false → (if t then v else w) ≡ w
if-false t v w e = rw e refl

-- what a read answers of a named and of a private word
pub answer-named : (m : SwapMemory) (a : ℕ) → IsOutside m.swaps a → is_named m a ≡ true → answer_at m a ≡ value_at m a
answer-named m a o e = if-true (is_outside m.swaps a) _ _ (outside-test m.swaps a o) ∙ if-true (is_named m a) _ _ e

pub answer-private : (m : SwapMemory) (a : ℕ) → IsOutside m.swaps a → is_named m a ≡ false → answer_at m a ≡ slice_index m.cached a
answer-private m a o e = if-true (is_outside m.swaps a) _ _ (outside-test m.swaps a o) ∙ if-false (is_named m a) _ _ e

-- a word of a slot as the slot has it
pub node-at : (c : Config) (f : ℕ → ℕ) (k i : ℕ) → i < NODE_WORDS → node c f k i ≡ f (node_address c k + i)
unfolding node
node-at c f k i l = let t : nat_lt i NODE_WORDS ≡ true = grind (arith, nat_tests) in rw t refl

pub node-past : (c : Config) (f : ℕ → ℕ) (k i : ℕ) → NODE_WORDS ≤ i → node c f k i ≡ 0
unfolding node
node-past c f k i l = let t : nat_lt i NODE_WORDS ≡ false = grind (arith, nat_tests) in rw t refl

-- an address that is none of a descriptor's lies outside them
pub outside-descriptors : (c : Config) (a : ℕ) → is_in_descriptor c a ≡ false → IsOutside c.swaps a
outside-descriptors c a e = elim (cases_lt a SUPERBLOCK_WORDS) [
  | inl l ↦ inl l
  | inr l ↦ elim (cases_lt a (node_address c 0)) [
    | inl m ↦ absurd (let t : nat_le SUPERBLOCK_WORDS a ≡ true = grind (arith, nat_tests) in let u : nat_lt a (node_address c 0) ≡ true = grind (arith, nat_tests) in grind (arith, nat_tests))
    | inr m ↦ inr (omega (arith, m))
  ]
]

-- a fixed word of the superblock
pub fixed-place : (a : ℕ) → is_fixed a ≡ true → (a < SUPERBLOCK_WORDS) × ((a ≢ ROOT_AT) × (a ≢ ROOT_STATUS_AT))
fixed-place a h = (grind (arith, nat_tests), (λ e. grind (arith, nat_tests), λ e. grind (arith, nat_tests)))

pub fixed-lawful : (c : Config) (f g : ℕ → ℕ) (a : ℕ) → is_in_descriptor c a ≡ false → is_fixed a ≡ true → g a ≡ f a → is_lawful c f a ≡ true → is_lawful c g a ≡ true
unfolding is_lawful
fixed-lawful c f g a out fix e h = rw (out, fix) (rw (out, fix, ← e) at h)

-- a visible record holds words
held-visible : (m : Meta) → visible m ≡ true → is_held m ≡ true
unfolding visible is_held
held-visible (Visible e) h = refl
held-visible (Reserved e) h = absurd (cc)
held-visible (Deleted k t) h = absurd (cc)
held-visible Unused h = absurd (cc)

module _ (c : Config) (x : Instant) (old new : SwapMemory) (seen : IsSeen c old x) (p : Passes c x old new) where
  abbrev y : Instant
  y = next_instant new x

  before : IsHeld old
  before = held old seen.phase seen.holds

  after : IsHeld new
  after = held new (λ e. seen.phase (sym p.same.phase ∙ e)) p.holds

  left-before : LeavesItsValues old
  left-before = leaves-values old (record { holds = seen.holds; phase = seen.phase })

  left-after : LeavesItsValues new
  left-after = leaves-values new (record { holds = p.holds; phase = λ e. seen.phase (sym p.same.phase ∙ e) })

  outside-new : (a : ℕ) → IsOutside old.swaps a → IsOutside new.swaps a
  outside-new a o = subst (λ n. IsOutside n a) (sym p.same.swaps) o

  named-same : (a : ℕ) → is_named new a ≡ is_named old a
  named-same a = ap (λ z. is_among z a) p.same.begun

  -- what a read of a word answers that is not hidden
  answers-same : (a : ℕ) → IsOutside old.swaps a → ¬ IsHidden c x a → answer_at new a ≡ answer_at old a
  answers-same a o seen-by = go (is_named old a) refl
    where
      go : (t : Bool) → is_named old a ≡ t → answer_at new a ≡ answer_at old a
      go true e = answer-named new a (outside-new a o) (named-same a ∙ e) ∙ (p.quiet.values a e ∙ sym (answer-named old a o e))
      go false e = answer-private new a (outside-new a o) (named-same a ∙ e) ∙ (elim (p.cached a o e) [ inl same ↦ same | inr h ↦ absurd (seen-by h) ] ∙ sym (answer-private old a o e))

  -- a word that is read resolves as before
  settled : (a : ℕ) → IsOutside old.swaps a → IsRead c x a → resolve (slice_index new.durable) a ≡ resolve (slice_index old.durable) a
  settled a o r = go (is_named old a) refl
    where
      go : (t : Bool) → is_named old a ≡ t → resolve (slice_index new.durable) a ≡ resolve (slice_index old.durable) a
      go true e = left-after.values a (outside-new a o) ∙ (p.quiet.values a e ∙ sym (left-before.values a o))
      go false e =
          left-after.values a (outside-new a o) ∙ ((after.private a (outside-new a o) (named-same a ∙ e)).1
          ∙ (read-durable c x old new a seen p r e ∙ (sym (before.private a o e).1 ∙ sym (left-before.values a o))))

  in-slots : (k i : ℕ) → IsOutside old.swaps (node_address c k + i)
  in-slots k i = inr (subst (λ n. swap_address n ≤ node_address c k + i) (sym seen.swaps) (omega arith))

  at-top : (a : ℕ) → a < SUPERBLOCK_WORDS → IsOutside old.swaps a
  at-top a l = inl l

  -- the words of the slots
  values-same : (k i : ℕ) → x.reached k ≡ true → IsShown (words c x k) i → words c y k i ≡ words c x k i
  values-same k i e h = elim (cases_lt i NODE_WORDS) [
    | inl l ↦ node-at c y.value k i l ∙ (answers-same (node_address c k + i) (in-slots k i) (λ q. q.unread k i e l refl h) ∙ (ap (λ f. f (node_address c k + i)) (sym seen.value) ∙ sym (node-at c x.value k i l)))
    | inr l ↦ node-past c y.value k i l ∙ sym (node-past c x.value k i l)
  ]

  top-same : (a : ℕ) → a < SUPERBLOCK_WORDS → answer_at new a ≡ answer_at old a
  top-same a l = answers-same a (at-top a l) (λ q. omega (arith, q.in_slots, l))

  image-old : resolve x.image ≡ resolve (slice_index old.durable)
  image-old = ap resolve seen.image

  -- a shown word is one that readers read
  shown-read : (k i : ℕ) → x.reached k ≡ true → i < NODE_WORDS → IsShown (words c x k) i → IsRead c x (node_address c k + i)
  shown-read k i e l h = inr (inr (record { slot = k; place = i; address = refl; within = l; reached = e; shown = h }))

  resolved-same : (k i : ℕ) → x.reached k ≡ true → IsShown (words c x k) i → durable c y k i ≡ durable c x k i
  resolved-same k i e h = elim (cases_lt i NODE_WORDS) [
    | inl l ↦ node-at c (resolve y.image) k i l ∙ (settled (node_address c k + i) (in-slots k i) (shown-read k i e l h) ∙ (ap (λ f. f (node_address c k + i)) (sym image-old) ∙ sym (node-at c (resolve x.image) k i l)))
    | inr l ↦ node-past c (resolve y.image) k i l ∙ sym (node-past c (resolve x.image) k i l)
  ]

  root-settled : (a : ℕ) → a < SUPERBLOCK_WORDS → IsRead c x a → resolve y.image a ≡ resolve x.image a
  root-settled a l r = settled a (at-top a l) r ∙ ap (λ f. f a) (sym image-old)

  -- the place of an address that a swap named is its place in its slot
  named-place : (k i : ℕ) → i < NODE_WORDS → is_named old (node_address c k + i) ≡ true → (i ≡ STATUS_AT) ⊎ (IsMetaPlace (page_at c x k) i ⊎ IsPointerPlace (page_at c x k) i)
  named-place k i l e = place (seen.targets (node_address c k + i) e)
    where
      place : IsTargetAt c x (node_address c k + i) → (i ≡ STATUS_AT) ⊎ (IsMetaPlace (page_at c x k) i ⊎ IsPointerPlace (page_at c x k) i)
      place (inl q) = absurd (omega (arith, q))
      place (inr (inl q)) = absurd (omega (arith, q))
      place (inr (inr t)) =
          let same : (k ≡ t.slot) × (i ≡ t.place) = slots_apart c k t.slot i t.place l t.within t.address in
          subst (λ j. (i ≡ STATUS_AT) ⊎ (IsMetaPlace (page_at c x j) i ⊎ IsPointerPlace (page_at c x j) i)) (sym same.0)
          (subst (λ j. (j ≡ STATUS_AT) ⊎ (IsMetaPlace (page_at c x t.slot) j ⊎ IsPointerPlace (page_at c x t.slot) j)) (sym same.1) t.kind)

  -- a word of a node that is read and that no swap may name stands as it stood
  raw-same : (k i : ℕ) → x.reached k ≡ true → IsShown (words c x k) i → (i < NODE_WORDS → (i ≡ STATUS_AT) ⊎ (IsMetaPlace (page_at c x k) i ⊎ IsPointerPlace (page_at c x k) i) → ⊥) → node c y.image k i ≡ node c x.image k i
  raw-same k i e h none = elim (cases_lt i NODE_WORDS) [
    | inl l ↦ node-at c y.image k i l ∙ (read-durable c x old new (node_address c k + i) seen p (shown-read k i e l h) (unnamed l) ∙ (ap (λ f. f (node_address c k + i)) (sym seen.image) ∙ sym (node-at c x.image k i l)))
    | inr l ↦ node-past c y.image k i l ∙ sym (node-past c x.image k i l)
  ]
    where
      unnamed : i < NODE_WORDS → is_named old (node_address c k + i) ≡ false
      unnamed l = go (is_named old (node_address c k + i)) refl
        where
          go : (t : Bool) → is_named old (node_address c k + i) ≡ t → is_named old (node_address c k + i) ≡ false
          go true q = absurd (none l (named-place k i l q))
          go false q = q

  -- a word of a visible record of a leaf lies in the block
  record-place : (k i j : ℕ) → k ≢ c.nodes → is_inside c x k ≡ true → (page_at c x k).level ≡ 0 → IsOfRecord (words c x k) i j → NODE_WORDS ≤ i + (page_at c x k).block
  record-place k i j ne ins flat o =
      let e : x.reached k ≡ true = seen.good.inside k ins ne in
      let leaf : IsLeafInTree c x k = leaves_are_in_trees c x k seen.good (seen.good.slots k e) ins (sym (headers_say_the_level c x k seen.good ne ins).level ∙ flat) in
      let w : Whole (node c x.image k) (page (durable c x k)) ((form_at c x).low k) ((form_at c x).high k) = (leaf_rules_are_facts c.nodes (node c x.image k) (durable c x k) _ _).0 leaf.whole in
      let stands : durable c x k STATUS_AT ≡ words c x k STATUS_AT = seen.good.shown k STATUS_AT e (inl (omega arith)) in
      let meta : durable c x k (META_AT + j) ≡ words c x k (META_AT + j) = seen.good.shown k (META_AT + j) e (inl (omega (arith, o.counted))) in
      let here : (page (durable c x k)).meta j ≡ (page_at c x k).meta j = ap meta_of meta in
      let block : (page (durable c x k)).block ≡ (page_at c x k).block = ap (λ w. (status w).block) stands in
      let count : (page (durable c x k)).count ≡ (page_at c x k).count = ap (λ w. (status w).count) stands in
      let within : IsInBlock (page (durable c x k)) ((page (durable c x k)).meta j) = w.inside j (omega (arith, count, o.counted)) (held-visible _ (ap visible here ∙ o.visible)) in
      omega (arith, within.starts, block, ap (λ m. (extent_of m).offset) here, o.from)

  -- the block leaves room for the words before it
  record-room : (k i j : ℕ) → k ≢ c.nodes → is_inside c x k ≡ true → (page_at c x k).level ≡ 0 → IsOfRecord (words c x k) i j → (page_at c x k).block ≤ SHARED_WORDS
  record-room k i j ne ins flat o =
      let e : x.reached k ≡ true = seen.good.inside k ins ne in
      let leaf : IsLeafInTree c x k = leaves_are_in_trees c x k seen.good (seen.good.slots k e) ins (sym (headers_say_the_level c x k seen.good ne ins).level ∙ flat) in
      let w : Whole (node c x.image k) (page (durable c x k)) ((form_at c x).low k) ((form_at c x).high k) = (leaf_rules_are_facts c.nodes (node c x.image k) (durable c x k) _ _).0 leaf.whole in
      let stands : durable c x k STATUS_AT ≡ words c x k STATUS_AT = seen.good.shown k STATUS_AT e (inl (omega arith)) in
      omega (arith, w.filled.room, ap (λ w. (status w).block) stands)

  record-same : (k i j : ℕ) → k ≢ c.nodes → is_inside c x k ≡ true → (page_at c x k).level ≡ 0 → IsOfRecord (words c x k) i j → node c y.image k i ≡ node c x.image k i
  record-same k i j ne ins flat o = raw-same k i (seen.good.inside k ins ne) (inr (inr (inr (j, o)))) none
    where
      none : i < NODE_WORDS → (i ≡ STATUS_AT) ⊎ (IsMetaPlace (page_at c x k) i ⊎ IsPointerPlace (page_at c x k) i) → ⊥
      none l (inl q) = omega (arith, q, record-place k i j ne ins flat o, record-room k i j ne ins flat o)
      none l (inr (inl m)) = omega (arith, m.free, record-place k i j ne ins flat o)
      none l (inr (inr q)) = omega (arith, q.inner, flat)

  separators-same : (k i : ℕ) → k ≢ c.nodes → is_inside c x k ≡ true → 0 < (page_at c x k).level → META_AT + (page_at c x k).count ≤ i
      → ((j : ℕ) → j < (page_at c x k).count → i ≢ pointer_at (page_at c x k) j) → node c y.image k i ≡ node c x.image k i
  separators-same k i ne ins inner from other = raw-same k i (seen.good.inside k ins ne) (inr (inr (inl inner))) none
    where
      none : i < NODE_WORDS → (i ≡ STATUS_AT) ⊎ (IsMetaPlace (page_at c x k) i ⊎ IsPointerPlace (page_at c x k) i) → ⊥
      none l (inl q) = omega (arith, q, from)
      none l (inr (inl m)) = omega (arith, m.leaf, inner)
      none l (inr (inr q)) = other q.child q.counted q.place

  -- the fixed words of the superblock
  fixed-private : (a : ℕ) → is_fixed a ≡ true → is_named old a ≡ false
  fixed-private a fix = go (is_named old a) refl
    where
      place : (a < SUPERBLOCK_WORDS) × ((a ≢ ROOT_AT) × (a ≢ ROOT_STATUS_AT))
      place = fixed-place a fix

      none : IsTargetAt c x a → ⊥
      none (inl q) = place.1.0 q
      none (inr (inl q)) = place.1.1 q
      none (inr (inr t)) = omega (arith, t.address, place.0)

      go : (t : Bool) → is_named old a ≡ t → is_named old a ≡ false
      go true e = absurd (none (seen.targets a e))
      go false e = e

  fixed-cached : (a : ℕ) → is_fixed a ≡ true → slice_index new.cached a ≡ slice_index old.cached a
  fixed-cached a fix =
      let place : (a < SUPERBLOCK_WORDS) × ((a ≢ ROOT_AT) × (a ≢ ROOT_STATUS_AT)) = fixed-place a fix in
      elim (p.cached a (at-top a place.0) (fixed-private a fix)) [
        | inl same ↦ same
        | inr h ↦ absurd (omega (arith, h.in_slots, place.0))
      ]

  fixed-after : (a : ℕ) → is_fixed a ≡ true → is_settled_at new a ≡ true
  fixed-after a fix = p.settled a (fixed-cached a fix) (seen.fixed a fix)

  fixed-same : (a : ℕ) → is_fixed a ≡ true → slice_index new.durable a ≡ slice_index old.durable a
  fixed-same a fix = sym (settled-same new a (fixed-after a fix)) ∙ (fixed-cached a fix ∙ settled-same old a (seen.fixed a fix))

  lawful-after : (a : ℕ) → a < size_of c → is_lawful c y.image a ≡ true
  lawful-after a l = descriptor (is_in_descriptor c a) refl (is_fixed a) refl
    where
      out : is_in_descriptor c a ≡ false → IsOutside new.swaps a
      out e = subst (λ n. IsOutside n a) (sym (p.same.swaps ∙ seen.swaps)) (outside-descriptors c a e)

      descriptor : (t : Bool) → is_in_descriptor c a ≡ t → (u : Bool) → is_fixed a ≡ u → is_lawful c y.image a ≡ true
      descriptor true e u q = descriptors_are_lawful c new a (p.same.swaps ∙ seen.swaps) after p.fields l e
      descriptor false e true q = fixed-lawful c x.image y.image a e q (fixed-same a q ∙ ap (λ f. f a) (sym seen.image)) (((well_formed_images_have_no_fault c x.image).0 seen.good.form).lawful a l)
      descriptor false e false q = left-after.lawful c a (sym (p.same.swaps ∙ seen.swaps)) (out e) q

  quiet-for-readers : IsQuiet c x y
  quiet-for-readers = record {
    effects = refl;
    reached = λ k. refl;
    nodes = λ k e i h. values-same k i e h;
    root = record {
      pointer = top-same ROOT_AT (omega arith) ∙ ap (λ f. f ROOT_AT) (sym seen.value);
      status = top-same ROOT_STATUS_AT (omega arith) ∙ ap (λ f. f ROOT_STATUS_AT) (sym seen.value);
    };
  }

  rests : Rests c x y
  rests = record {
    quiet = quiet-for-readers;
    lawful = lawful-after;
    fixed = λ a fix. fixed-same a fix ∙ ap (λ f. f a) (sym seen.image);
    root = root-settled ROOT_AT (omega arith) (inl refl);
    root_status = root-settled ROOT_STATUS_AT (omega arith) (inr (inl refl));
    resolved = resolved-same;
    records = record-same;
    separators = separators-same;
  }

  same : HoldsTheSame c x y
  same = resting_memories_are_good c x y seen.good rests

  seen-after : IsSeen c new y
  seen-after = record {
    config = seen.config;
    swaps = p.same.swaps ∙ seen.swaps;
    size = p.same.size ∙ seen.size;
    phase = λ e. seen.phase (sym p.same.phase ∙ e);
    holds = p.holds;
    fields = p.fields;
    fixed = fixed-after;
    image = refl;
    value = refl;
    settled = refl;
    good = same.good;
    targets = λ a e. targets_stay c x y a seen.good same.good (inl quiet-for-readers) (seen.targets a (sym (named-same a) ∙ e));
    shown = λ a r e. read-settled c x old new a seen p (read-before c x y a quiet-for-readers r) (sym (named-same a) ∙ e);
  }

pub acts-pass : ActsPass
acts-pass c x old new seen p = record {
  seen = seen-after c x old new seen p;
  rests = rests c x old new seen p;
  same = same c x old new seen p;
}
