-- A leaf before and after the swap that gives its block the words of a record.
use Rattle.std.proofs.Common.{◌≡◌, ◌≢◌, ℕ, ◌+◌, ◌^◌, ◌<◌, ◌==◌, ◌||◌, Bool, true, false, [], ◌∷◌, arith, refl, sym, ap, subst, ◌∙◌, inl, inr}
use Rattle.std.proofs.lemmas.Bool.{cases_lt, true≢false}
use Rattle.std.proofs.lemmas.Bool.Decides.{nat_tests}
use Rattle.bz_layout.specs.Addresses.{node_address}
use Rattle.bz_layout.specs.declared.sizes.TheConstants.{NODE_WORDS, STATUS_AT, HEADER_AT, META_AT}
use Rattle.bz_slotted.specs.Changes.{Grows}
use Rattle.bz_slotted.specs.LeafLaws.{AnswersAlike}
use Rattle.bz_slotted.specs.Page.{page}
use Rattle.bz_slotted.proofs.Proved.{growth_is_quiet}
use Rattle.bz_task.specs.FromSwap.SwapMemory.{is_target}
use Rattle.bz_word.specs.Headers.{header}
use Rattle.bz_word.specs.Statuses.{status, IsStatus}
use Rattle.bz_word.specs.declared.entry.Entry.{Entry}
use Rattle.bz_word.specs.declared.status.Status.{Status}
use Rattle.bz_word.proofs.Lemmas.{statuses}
use Rattle.bz_content.specs.Image.{node}
use Rattle.bz_content.specs.Resolving.{resolve}
use Rattle.bz_task.specs.Good.{IsGood}
use Rattle.bz_task.specs.Instant.{Instant, words, durable, form_at}
use Rattle.bz_task.specs.Laws.{SlotWords, SlotWord}
use Rattle.bz_task.specs.LeafSwaps.{IsLeafSwap}
use Rattle.bz_task.specs.Scene.{Scene, IsScene, here}
use Rattle.bz_task.specs.Shown.{IsShown}
use Rattle.bz_task.specs.Steps.{Moves, next_stamp}
use Rattle.bz_task.specs.Swaps.{Change, Stand, SwapsTo, swapped}
use Rattle.bz_task.proofs.Proved.{leaf_swaps_are_good, swaps_show_in_slots}
use Rattle.bz_record.specs.Laws.{SameLeaf}
use Rattle.bz_record.specs.Leaves.{WasLeafThen}
use Rattle.bz_record.specs.Records.{size_of, Fits}
use Rattle.bz_record.specs.Replacing.{growth, status_grown}
use Rattle.bz_record.specs.ReplacingLaws.{GrowthsAreGood}
use Rattle.bz_record.specs.declared.new_record.NewRecord.{NewRecord}
use Rattle.bz_record.proofs.Reserved.{of-record}
use Rattle.bz_record.proofs.Leaves.{leaves-stay}

-- what one entry sets and leaves
set-one : (e : Entry) (f : ℕ → ℕ) (a : ℕ) → e.target ≡ a → swapped (e ∷ []) f a ≡ e.new
set-one e f a h = let t : (e.target == a) ≡ true = grind (arith, nat_tests) in rw t refl

leave-one : (e : Entry) (f : ℕ → ℕ) (a : ℕ) → e.target ≢ a → swapped (e ∷ []) f a ≡ f a
leave-one e f a h = let t : (e.target == a) ≡ false = grind (arith, nat_tests) in rw t refl

-- the grown status
module _ (r : NewRecord) (f : Fits r) where
  grown-lawful : IsStatus (record (status r.status) { block = (status r.status).block + size_of r; dead = (status r.status).dead + size_of r; stamp = next_stamp (status r.status).stamp })
  grown-lawful = record { count = omega (arith, f.room.fits); block = omega (arith, f.room.fits); dead = omega (arith, f.room.fits, f.dead); stamp = omega arith }

  pub grown-plain : status_grown r < 2 ^ 61
  grown-plain = statuses.lawful _ grown-lawful

  pub grown-reads : status (status_grown r) ≡ record (status r.status) { block = (status r.status).block + size_of r; dead = (status r.status).dead + size_of r; stamp = next_stamp (status r.status).stamp }
  grown-reads = statuses.value _ grown-lawful

module _ (s : Scene) (y : Instant) (r : NewRecord) (moment : ℕ) (good : IsScene s) (f : Fits r) (leaf : WasLeafThen r.slot r.status moment s.past) (stand : Stand (growth s.past.config r ∷ []) (here s)) (swaps : SwapsTo s.past.config (growth s.past.config r ∷ []) (here s) y) where
  slot : SlotWords s.past.config (growth s.past.config r ∷ []) (here s) y r.slot
  slot = swaps_show_in_slots s.past.config (growth s.past.config r ∷ []) (here s) y r.slot swaps

  word : (i : ℕ) → i < NODE_WORDS → SlotWord s.past.config (growth s.past.config r ∷ []) (here s) y r.slot i
  word i l = slot.within i l

  pub was : words s.past.config (here s) r.slot STATUS_AT ≡ r.status
  was = (word STATUS_AT (omega arith)).before ∙ stand 0 (growth s.past.config r) (omega arith)

  pub same : SameLeaf s.past.config (s.past.at moment) (here s) r.slot
  same = leaves-stay s r.slot r.status moment good leaf f.room.thawed was

  now-good : IsGood s.past.config (here s)
  now-good = good.history.good s.past.now good.begun (omega arith)

  pub was-durable : durable s.past.config (here s) r.slot STATUS_AT ≡ r.status
  was-durable = now-good.shown r.slot STATUS_AT same.leaf.reached (inl (omega arith)) ∙ was

  pub is : words s.past.config y r.slot STATUS_AT ≡ status_grown r
  is = (word STATUS_AT (omega arith)).value ∙ set-one (growth s.past.config r) (here s).value (node_address s.past.config r.slot + STATUS_AT) refl

  is-durable : durable s.past.config y r.slot STATUS_AT ≡ status_grown r
  is-durable = (word STATUS_AT (omega arith)).durable_value ∙ set-one (growth s.past.config r) (resolve (here s).image) (node_address s.past.config r.slot + STATUS_AT) refl

  apart : (i : ℕ) → i ≢ STATUS_AT → node_address s.past.config r.slot + STATUS_AT ≢ node_address s.past.config r.slot + i
  apart i n e = n (omega (arith, e))

  pub others : (i : ℕ) → i ≢ STATUS_AT → words s.past.config y r.slot i ≡ words s.past.config (here s) r.slot i
  others i n = elim (cases_lt i NODE_WORDS) [
    | inl l ↦ (word i l).value ∙ (leave-one (growth s.past.config r) (here s).value (node_address s.past.config r.slot + i) (apart i n) ∙ sym (word i l).before)
    | inr l ↦ slot.past i l
  ]

  pub durable-others : (i : ℕ) → i ≢ STATUS_AT → durable s.past.config y r.slot i ≡ durable s.past.config (here s) r.slot i
  durable-others i n = elim (cases_lt i NODE_WORDS) [
    | inl l ↦ (word i l).durable_value ∙ (leave-one (growth s.past.config r) (resolve (here s).image) (node_address s.past.config r.slot + i) (apart i n) ∙ sym (word i l).resolved)
    | inr l ↦ slot.durable_past i l
  ]

  -- a field of the status afterwards
  field-is : (A : Type 0) (g : Status → A) (n : ℕ → ℕ) → n STATUS_AT ≡ status_grown r → g (status (n STATUS_AT)) ≡ g (record (status r.status) { block = (status r.status).block + size_of r; dead = (status r.status).dead + size_of r; stamp = next_stamp (status r.status).stamp })
  field-is A g n e = ap (λ z. g (status z)) e ∙ ap g (grown-reads r f)

  pub count-was : (page (words s.past.config (here s) r.slot)).count ≡ (status r.status).count
  count-was = ap (λ z. (status z).count) was

  block-was : (page (words s.past.config (here s) r.slot)).block ≡ (status r.status).block
  block-was = ap (λ z. (status z).block) was

  pub count-is : (page (words s.past.config y r.slot)).count ≡ (status r.status).count
  count-is = field-is ℕ (λ z. z.count) (words s.past.config y r.slot) is

  pub block-is : (page (words s.past.config y r.slot)).block ≡ (status r.status).block + size_of r
  block-is = field-is ℕ (λ z. z.block) (words s.past.config y r.slot) is

  pub count-durable : (page (durable s.past.config (here s) r.slot)).count ≡ (status r.status).count
  count-durable = ap (λ z. (status z).count) was-durable

  pub block-durable : (page (durable s.past.config (here s) r.slot)).block ≡ (status r.status).block
  block-durable = ap (λ z. (status z).block) was-durable

  dead-durable : (page (durable s.past.config (here s) r.slot)).dead ≡ (status r.status).dead
  dead-durable = ap (λ z. (status z).dead) was-durable

  moves : Moves (words s.past.config (here s) r.slot) (words s.past.config y r.slot)
  moves = record {
    thawed = ap (λ z. (status z).frozen) was ∙ f.room.thawed;
    stamp = field-is ℕ (λ z. z.stamp) (words s.past.config y r.slot) is ∙ ap (λ z. next_stamp (status z).stamp) (sym was);
    front = λ i n l. others i n;
    freeze = λ h. absurd (true≢false (sym h ∙ (field-is Bool (λ z. z.frozen) (words s.past.config y r.slot) is ∙ f.room.thawed)));
    inner = λ l. absurd (omega (arith, l, same.leaf.flat));
    count = omega (arith, count-was, count-is);
    block = omega (arith, block-was, block-is);
    spare = λ e l. omega (arith, count-is, block-is, f.room.fits);
  }

  grows : Grows (node s.past.config (here s).image r.slot) (node s.past.config y.image r.slot) (durable s.past.config (here s) r.slot) (durable s.past.config y r.slot) (size_of r)
  grows = record {
    others = durable-others;
    raw = λ i l. slot.raw i;
    status = subst (λ z. z < 2 ^ 61) (sym is-durable) (grown-plain r f);
    count = omega (arith, count-durable, field-is ℕ (λ z. z.count) (durable s.past.config y r.slot) is-durable);
    block = omega (arith, block-durable, field-is ℕ (λ z. z.block) (durable s.past.config y r.slot) is-durable);
    dead = omega (arith, dead-durable, field-is ℕ (λ z. z.dead) (durable s.past.config y r.slot) is-durable);
    room = omega (arith, count-durable, block-durable, f.room.fits);
  }

  pub alike : AnswersAlike s.past.config.nodes (node s.past.config y.image r.slot) (durable s.past.config (here s) r.slot) (durable s.past.config y r.slot) ((form_at s.past.config (here s)).low r.slot) ((form_at s.past.config (here s)).high r.slot)
  alike = growth_is_quiet s.past.config.nodes (node s.past.config (here s).image r.slot) (node s.past.config y.image r.slot) (durable s.past.config (here s) r.slot) (durable s.past.config y r.slot) _ _ (size_of r) same.leaf.whole grows

  -- what readers read afterwards they read before
  pub level-same : (page (words s.past.config y r.slot)).level ≡ (page (words s.past.config (here s) r.slot)).level
  level-same = ap (λ z. (header z).level) (others HEADER_AT (λ e. omega (arith, e)))

  shown-before : (i : ℕ) → IsShown (words s.past.config y r.slot) i → IsShown (words s.past.config (here s) r.slot) i
  shown-before i (inl h) = inl (omega (arith, h, count-was, count-is))
  shown-before i (inr (inl h)) = inr (inl (omega (arith, h, block-was, block-is)))
  shown-before i (inr (inr (inl h))) = inr (inr (inl (omega (arith, h, level-same))))
  shown-before i (inr (inr (inr o))) = inr (inr (inr (o.0, of-record (words s.past.config (here s) r.slot) (words s.past.config y r.slot) i o.0 (others (META_AT + o.0) (λ e. omega (arith, e))) (omega (arith, o.1.counted, count-was, count-is)) o.1)))

  address : (a : ℕ) → is_target (growth s.past.config r ∷ []) a ≡ true → a ≡ node_address s.past.config r.slot + STATUS_AT
  address a e = hit ((node_address s.past.config r.slot + STATUS_AT) == a) refl e
    where
      hit : (t : Bool) → ((node_address s.past.config r.slot + STATUS_AT) == a) ≡ t → t || false ≡ true → a ≡ node_address s.past.config r.slot + STATUS_AT
      hit true q h = grind (arith, nat_tests)
      hit false q h = absurd (cc)

  leaf-swap : (change : Change) → IsLeafSwap false change (growth s.past.config r ∷ []) s r.slot y
  leaf-swap change = record {
    swaps = swaps;
    inside = same.leaf.inside;
    slot = leaf.slot;
    leaf = same.leaf.leaf;
    place = λ a e. record { place = STATUS_AT; within = omega arith; address = address a e };
    targets = λ a e. inr (inr (record { slot = r.slot; place = STATUS_AT; address = address a e; within = omega arith; reached = same.leaf.reached; kind = inl refl }));
    moves = moves;
    whole = alike.none;
    says = alike.same;
    shown = λ i l h. inl (shown-before i h);
  }

pub growing : GrowthsAreGood
growing s y r moment change good f leaf stand swaps = leaf_swaps_are_good false change (growth s.past.config r ∷ []) s r.slot y good (leaf-swap s y r moment good f leaf stand swaps change)
