-- After a reservation the record has its place in the leaf, and its words are the worker's own.
use Rattle.std.proofs.Common.{◌≡◌, ℕ, ◌+◌, ◌<◌, ◌≤◌, ◌==◌, ◌&&◌, ◌||◌, Bool, true, false, arith, refl, sym, ap, subst, ◌∙◌, inl, inr}
use Rattle.std.specs.Prelude.{None, nat_lt, nat_le}
use Rattle.std.proofs.lemmas.Bool.{true≢false}
use Rattle.std.proofs.lemmas.Bool.Decides.{nat_tests}
use Rattle.bz_layout.specs.Addresses.{node_address, slot_of, node_word_of}
use Rattle.bz_layout.specs.declared.config.Config.{Config}
use Rattle.bz_layout.specs.declared.sizes.TheConstants.{NODE_WORDS, STATUS_AT, HEADER_AT, META_AT}
use Rattle.bz_layout.proofs.Laws.{slots_apart}
use Rattle.bz_slotted.specs.Page.{meta_of, visible, extent_of, page}
use Rattle.bz_slotted.specs.Readers.{found_of}
use Rattle.bz_slotted.specs.Whole.{Whole, IsInBlock}
use Rattle.bz_slotted.proofs.Proved.{leaf_rules_are_facts}
use Rattle.bz_word.specs.Headers.{header}
use Rattle.bz_word.specs.Metas.{meta_word}
use Rattle.bz_word.specs.Statuses.{status}
use Rattle.bz_word.specs.declared.entry.Entry.{Entry}
use Rattle.bz_word.specs.declared.meta.Meta.TheVariants.{Reserved}
use Rattle.bz_content.specs.Image.{node}
use Rattle.bz_task.specs.Good.{IsGood}
use Rattle.bz_task.specs.Instant.{words, durable, page_at, form_at, is_inside}
use Rattle.bz_task.specs.Laws.{SamePlace}
use Rattle.bz_task.specs.Scene.{Scene, IsMine, IsScene, here}
use Rattle.bz_task.specs.Shown.{IsOfRecord, IsShown}
use Rattle.bz_task.specs.Swaps.{Stand, grows_over, reserves as is_reserved, Takes}
use Rattle.bz_task.proofs.Proved.{ranges_stay}
use Rattle.bz_record.specs.Laws.{SameLeaf, HasReserved, ReservationsTakeWords}
use Rattle.bz_record.specs.Leaves.{WasLeafThen, WasLeafOf}
use Rattle.bz_record.specs.Records.{size_of, offset_of, place_of, address_of, Fits}
use Rattle.bz_record.specs.Swaps.{status_entry, entries_of, status_reserved, reservation}
use Rattle.bz_record.specs.declared.new_record.NewRecord.{NewRecord}
use Rattle.bz_record.proofs.Coding.{reserved-plain, reserved-reads}
use Rattle.bz_record.proofs.Effects.{has-swapped}
use Rattle.bz_record.proofs.Entries.{sets-meta}
use Rattle.bz_record.proofs.Leaves.{held-visible}
use Rattle.bz_record.proofs.Reserved.{place, slot, same, is, others, count-is, block-is, count-was, count-durable, block-durable, alike, record-before}
use Rattle.bz_record.proofs.Remembering.{leaves-were}

pub or-right : (a b : Bool) → b ≡ true → a || b ≡ true
or-right true b h = refl
or-right false b h = h

pub or-left : (a b : Bool) → a ≡ true → a || b ≡ true
or-left a b h = rw h refl

and-four : (a b c d : Bool) → a ≡ true → b ≡ true → c ≡ true → d ≡ true → (a && (b && (c && d))) ≡ true
and-four a b c d e f g h = rw (e, f, g, h) refl

-- an entry of a status by which the block takes a word
pub grows : (c : Config) (e : Entry) (k o : ℕ) → o < NODE_WORDS → e.target ≡ node_address c k + STATUS_AT → NODE_WORDS ≤ o + (status e.new).block → o + (status e.expected).block < NODE_WORDS → grows_over c e (node_address c k + o) ≡ true
grows c e k o l at new old =
    let slot : slot_of c (node_address c k + o) ≡ k = omega arith in
    let word : node_word_of c (node_address c k + o) ≡ o = omega arith in
    let one : nat_le (node_address c 0) (node_address c k + o) ≡ true = grind (arith, nat_tests) in
    let two : (e.target == node_address c (slot_of c (node_address c k + o)) + STATUS_AT) ≡ true = rw slot (grind (arith, nat_tests)) in
    let three : nat_le NODE_WORDS (node_word_of c (node_address c k + o) + (status e.new).block) ≡ true = rw word (grind (arith, nat_tests)) in
    let four : nat_lt (node_word_of c (node_address c k + o) + (status e.expected).block) NODE_WORDS ≡ true = rw word (grind (arith, nat_tests)) in
    and-four _ _ _ _ one two three four

module _ (s after : Scene) (r : NewRecord) (moment : ℕ) (good : IsScene s) (later : IsScene after) (f : Fits r) (leaf : WasLeafOf r.key None r.slot r.status moment s.past) (stand : Stand (entries_of s.past.config (reservation r)) (here s)) (t : Takes false (entries_of s.past.config (reservation r)) s after) where
  now : SameLeaf s.past.config (s.past.at moment) (here s) r.slot
  now = same s (here after) r moment good f leaf.leaf stand t.swaps

  status-is : words s.past.config (here after) r.slot STATUS_AT ≡ status_reserved r
  status-is = is s (here after) r moment good f leaf.leaf stand t.swaps

  -- a fact of the sizes and the memory
  with-config : (P : Config → Type 0) → P s.past.config → P after.past.config
  with-config P h = subst P (sym t.continues.config) h

  -- the words of the record are none that readers read
  whole : Whole (node s.past.config (here s).image r.slot) (page (durable s.past.config (here s) r.slot)) ((form_at s.past.config (here s)).low r.slot) ((form_at s.past.config (here s)).high r.slot)
  whole = (leaf_rules_are_facts s.past.config.nodes (node s.past.config (here s).image r.slot) (durable s.past.config (here s) r.slot) _ _).0 now.leaf.whole

  in-old-block : (i j : ℕ) → IsOfRecord (words s.past.config (here s) r.slot) i j → NODE_WORDS ≤ i + (status r.status).block
  in-old-block i j o =
      let e : durable s.past.config (here s) r.slot (META_AT + j) ≡ words s.past.config (here s) r.slot (META_AT + j) = (good.history.good s.past.now good.begun (omega arith)).shown r.slot (META_AT + j) now.leaf.reached (inl (omega (arith, o.counted))) in
      let l : j < (page (durable s.past.config (here s) r.slot)).count = omega (arith, o.counted, count-was s (here after) r moment good f leaf.leaf stand t.swaps, count-durable s (here after) r moment good f leaf.leaf stand t.swaps) in
      let v : visible ((page (durable s.past.config (here s) r.slot)).meta j) ≡ true = ap (λ z. visible (meta_of z)) e ∙ o.visible in
      let p : IsInBlock (page (durable s.past.config (here s) r.slot)) ((page (durable s.past.config (here s) r.slot)).meta j) = whole.inside j l (held-visible _ v) in
      omega (arith, p.starts, o.from, ap (λ z. (extent_of (meta_of z)).offset) e, block-durable s (here after) r moment good f leaf.leaf stand t.swaps)

  hidden-word : (i : ℕ) → i < size_of r → ¬ IsShown (words s.past.config (here after) r.slot) (offset_of r + i)
  hidden-word i l (inl h) = omega (arith, l, h, f.room.fits, count-is s (here after) r moment good f leaf.leaf stand t.swaps)
  hidden-word i l (inr (inl h)) = omega (arith, l, h, f.room.fits, block-is s (here after) r moment good f leaf.leaf stand t.swaps)
  hidden-word i l (inr (inr (inl h))) =
      omega (arith, h, now.leaf.flat, ap (λ z. (header z).level) (others s (here after) r moment good f leaf.leaf stand t.swaps HEADER_AT (λ e. omega (arith, e)) (λ e. omega (arith, e))))
  hidden-word i l (inr (inr (inr o))) =
      omega (arith, l, f.room.fits, in-old-block (offset_of r + i) o.0 (record-before s (here after) r moment good f leaf.leaf stand t.swaps (offset_of r + i) o.0 o.1))

  -- the swap reserves them
  reserved-word : (i : ℕ) → i < size_of r → is_reserved s.past.config (entries_of s.past.config (reservation r)) (address_of s.past.config r i) ≡ true
  reserved-word i l =
      let block : (status (status_reserved r)).block ≡ (status r.status).block + size_of r = ap (λ z. z.block) (reserved-reads r f) in
      or-left (grows_over s.past.config (status_entry s.past.config (reservation r)) (address_of s.past.config r i)) _
      (grows s.past.config (status_entry s.past.config (reservation r)) r.slot (offset_of r + i) (omega (arith, l, f.room.fits)) refl (omega (arith, l, f.room.fits, block)) (omega (arith, l, f.room.fits)))

  mine : (i : ℕ) → i < size_of r → IsMine after (address_of after.past.config r i)
  mine i l = with-config (λ c. IsMine after (address_of c r i)) (record {
    own = inr (t.reserved (address_of s.past.config r i) ∙ or-right (s.reserved (address_of s.past.config r i)) _ (reserved-word i l));
    hidden = λ k j reached within e shown.
        let p = slots_apart s.past.config r.slot k (offset_of r + i) j (omega (arith, l, f.room.fits)) within (e ∙ ap (λ c. node_address c k + j) t.continues.config) in
        hidden-word i l (subst (λ z. IsShown (words s.past.config (here after) z) (offset_of r + i)) (sym p.0) (subst (λ z. IsShown (words s.past.config (here after) k) z) (sym p.1) (subst (λ c. IsShown (words c (here after) k) j) t.continues.config shown)));
  })

  -- the leaf afterwards
  leaf-then : WasLeafOf r.key None r.slot r.status moment after.past
  leaf-then = leaves-were.leaf r.key None r.slot r.status moment s.past after.past leaf t.continues

  good-after : IsGood after.past.config (here after)
  good-after = later.history.good after.past.now later.begun (omega arith)

  reached-after : (here after).reached r.slot ≡ true
  reached-after = t.swaps.reached r.slot ∙ or-left _ _ now.leaf.reached

  thawed-after : (page_at after.past.config (here after) r.slot).frozen ≡ false
  thawed-after = with-config (λ c. (page_at c (here after) r.slot).frozen ≡ false) (ap (λ z. (status z).frozen) status-is ∙ (ap (λ z. z.frozen) (reserved-reads r f) ∙ f.room.thawed))

  inside-after : is_inside after.past.config (here after) r.slot ≡ true
  inside-after = elim (good-after.placed r.slot reached-after) [ inl i ↦ i | inr z ↦ absurd (true≢false (sym z ∙ thawed-after)) ]

  place-after : SamePlace after.past.config (after.past.at moment) (here after) r.slot
  place-after =
      ranges_stay after.past.config after.past.at after.past.since after.past.now moment after.past.now r.slot later.history (record { since = leaf-then.leaf.since; order = leaf-then.leaf.now; until = omega arith }) (λ e. omega (arith, e, leaf-then.leaf.slot)) leaf-then.leaf.inside inside-after

  was-leaf : WasLeafThen r.slot (status_reserved r) after.past.now after.past
  was-leaf = record {
    since = later.begun;
    now = omega arith;
    slot = leaf-then.leaf.slot;
    inside = inside-after;
    leaf = place-after.level ∙ leaf-then.leaf.leaf;
    was = with-config (λ c. words c (here after) r.slot STATUS_AT ≡ status_reserved r) status-is;
    plain = reserved-plain r f;
  }

  absent : found_of (durable s.past.config (here after) r.slot) r.key ≡ None
  absent = (alike s (here after) r moment good f leaf.leaf stand t.swaps).same r.key ∙ (now.found r.key ∙ leaf.found)

  sorted-words : (page (words s.past.config (here after) r.slot)).sorted ≡ (page (durable s.past.config (here s) r.slot)).sorted
  sorted-words =
      ap (λ z. (header z).sorted) (others s (here after) r moment good f leaf.leaf stand t.swaps HEADER_AT (λ e. omega (arith, e)) (λ e. omega (arith, e))
      ∙ sym ((good.history.good s.past.now good.begun (omega arith)).shown r.slot HEADER_AT now.leaf.reached (inl (omega arith))))

  unsorted : (page (words s.past.config (here after) r.slot)).sorted ≤ (status r.status).count
  unsorted = omega (arith, sorted-words, whole.filled.sorted, count-durable s (here after) r moment good f leaf.leaf stand t.swaps)

  taken : HasReserved r after
  taken = record {
    reserved = record {
      moment = after.past.now;
      leaf = record {
        leaf = was-leaf;
        range = rw (place-after.low, place-after.high) leaf-then.range;
        found = with-config (λ c. found_of (durable c (here after) r.slot) r.key ≡ None) absent;
      };
      meta = with-config (λ c. words c (here after) r.slot (META_AT + (status r.status).count) ≡ meta_word (Reserved (place_of r))) (sets-meta s.past.config (reservation r) (here s) (here after) (slot s (here after) r moment good f leaf.leaf stand t.swaps) (place s (here after) r moment good f leaf.leaf stand t.swaps));
      unsorted = with-config (λ c. (page_at c (here after) r.slot).sorted ≤ (status r.status).count) unsorted;
      swapped = has-swapped false (entries_of s.past.config (reservation r)) s after good t;
    };
    words = record { mine = mine; stored = λ i l none. absurd (omega (arith, none)); flushed = λ i l before. absurd (omega (arith, before)) };
  }

pub taking : ReservationsTakeWords
taking s after r moment good later f leaf stand t = taken s after r moment good later f leaf stand t
