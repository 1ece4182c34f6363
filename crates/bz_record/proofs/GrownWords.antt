-- After the first swap of an update the record's words are the worker's own, and the old record stands as it stood.
use Rattle.std.proofs.Common.{◌≡◌, ◌≢◌, ℕ, ◌+◌, ◌<◌, ◌≤◌, true, false, List, [], ◌∷◌, arith, refl, sym, ap, subst, ◌∙◌, inl, inr}
use Rattle.std.specs.Prelude.{Some}
use Rattle.std.proofs.lemmas.Bool.{true≢false}
use Rattle.bz_key.specs.Packing.{packed_len, unpacked}
use Rattle.bz_layout.specs.Addresses.{node_address}
use Rattle.bz_layout.specs.declared.config.Config.{Config}
use Rattle.bz_layout.specs.declared.sizes.TheConstants.{NODE_WORDS, STATUS_AT, META_AT}
use Rattle.bz_layout.proofs.Laws.{slots_apart}
use Rattle.bz_slotted.specs.Page.{meta_of, visible, held, extent_of, page}
use Rattle.bz_slotted.specs.Readers.{found_of}
use Rattle.bz_slotted.specs.Records.{key_in, key_at}
use Rattle.bz_slotted.specs.Whole.{Whole, IsInBlock}
use Rattle.bz_slotted.proofs.Proved.{leaf_rules_are_facts}
use Rattle.bz_word.specs.Metas.{meta_word}
use Rattle.bz_word.specs.Statuses.{status}
use Rattle.bz_word.specs.declared.meta.Extent.{Extent}
use Rattle.bz_word.specs.declared.meta.Meta.TheVariants.{Visible}
use Rattle.bz_content.specs.Image.{node}
use Rattle.bz_task.specs.Good.{IsGood}
use Rattle.bz_task.specs.Instant.{words, durable, page_at, form_at, is_inside}
use Rattle.bz_task.specs.Laws.{SamePlace}
use Rattle.bz_task.specs.Scene.{Scene, IsMine, IsScene, here}
use Rattle.bz_task.specs.Shown.{IsOfRecord, IsShown}
use Rattle.bz_task.specs.Swaps.{Stand, grows_over, reserves as is_reserved, Takes}
use Rattle.bz_task.proofs.Proved.{ranges_stay}
use Rattle.bz_record.specs.Laws.{SameLeaf}
use Rattle.bz_record.specs.Leaves.{WasLeafOf}
use Rattle.bz_record.specs.Records.{size_of, offset_of, address_of, Fits}
use Rattle.bz_record.specs.Replacing.{growth, status_grown, WasRecord}
use Rattle.bz_record.specs.ReplacingLaws.{IsGrown, GrowthsTakeWords}
use Rattle.bz_record.specs.declared.new_record.NewRecord.{NewRecord}
use Rattle.bz_record.proofs.Coding.{visible-extent}
use Rattle.bz_record.proofs.Effects.{has-swapped}
use Rattle.bz_record.proofs.Found.{words_at-same, now-meta, now-says, now-key}
use Rattle.bz_record.proofs.Growing.{grown-plain, grown-reads, same, is, others, durable-others, count-was, count-is, block-is, count-durable, block-durable, level-same, alike}
use Rattle.bz_record.proofs.Leaves.{held-visible}
use Rattle.bz_record.proofs.Reserved.{of-record}
use Rattle.bz_record.proofs.Taking.{grows, or-left, or-right}
use Rattle.bz_record.proofs.Remembering.{remembering}

module _ (s after : Scene) (r : NewRecord) (old : List ℕ) (place : ℕ) (e : Extent) (good : IsScene s) (later : IsScene after) (f : Fits r) (w : WasRecord r.key old r.slot r.status place e s.past) (stand : Stand (growth s.past.config r ∷ []) (here s)) (t : Takes false (growth s.past.config r ∷ []) s after) where
  now : SameLeaf s.past.config (s.past.at w.moment) (here s) r.slot
  now = same s (here after) r w.moment good f w.leaf.leaf stand t.swaps

  status-is : words s.past.config (here after) r.slot STATUS_AT ≡ status_grown r
  status-is = is s (here after) r w.moment good f w.leaf.leaf stand t.swaps

  -- a fact of the sizes and the memory
  with-config : (P : Config → Type 0) → P s.past.config → P after.past.config
  with-config P h = subst P (sym t.continues.config) h

  now-good : IsGood s.past.config (here s)
  now-good = good.history.good s.past.now good.begun (omega arith)

  whole : Whole (node s.past.config (here s).image r.slot) (page (durable s.past.config (here s) r.slot)) ((form_at s.past.config (here s)).low r.slot) ((form_at s.past.config (here s)).high r.slot)
  whole = (leaf_rules_are_facts s.past.config.nodes (node s.past.config (here s).image r.slot) (durable s.past.config (here s) r.slot) _ _).0 now.leaf.whole

  durable-count : (page (durable s.past.config (here s) r.slot)).count ≡ (status r.status).count
  durable-count = count-durable s (here after) r w.moment good f w.leaf.leaf stand t.swaps

  durable-block : (page (durable s.past.config (here s) r.slot)).block ≡ (status r.status).block
  durable-block = block-durable s (here after) r w.moment good f w.leaf.leaf stand t.swaps

  words-count : (page (words s.past.config (here s) r.slot)).count ≡ (status r.status).count
  words-count = count-was s (here after) r w.moment good f w.leaf.leaf stand t.swaps

  after-count : (page (words s.past.config (here after) r.slot)).count ≡ (status r.status).count
  after-count = count-is s (here after) r w.moment good f w.leaf.leaf stand t.swaps

  after-block : (page (words s.past.config (here after) r.slot)).block ≡ (status r.status).block + size_of r
  after-block = block-is s (here after) r w.moment good f w.leaf.leaf stand t.swaps

  same-words : (i : ℕ) → i ≢ STATUS_AT → words s.past.config (here after) r.slot i ≡ words s.past.config (here s) r.slot i
  same-words = others s (here after) r w.moment good f w.leaf.leaf stand t.swaps

  same-durable : (i : ℕ) → i ≢ STATUS_AT → durable s.past.config (here after) r.slot i ≡ durable s.past.config (here s) r.slot i
  same-durable = durable-others s (here after) r w.moment good f w.leaf.leaf stand t.swaps

  -- the words of the record are none that readers read
  in-old-block : (i j : ℕ) → IsOfRecord (words s.past.config (here s) r.slot) i j → NODE_WORDS ≤ i + (status r.status).block
  in-old-block i j o =
      let q : durable s.past.config (here s) r.slot (META_AT + j) ≡ words s.past.config (here s) r.slot (META_AT + j) = now-good.shown r.slot (META_AT + j) now.leaf.reached (inl (omega (arith, o.counted))) in
      let l : j < (page (durable s.past.config (here s) r.slot)).count = omega (arith, o.counted, words-count, durable-count) in
      let v : visible ((page (durable s.past.config (here s) r.slot)).meta j) ≡ true = ap (λ z. visible (meta_of z)) q ∙ o.visible in
      let p : IsInBlock (page (durable s.past.config (here s) r.slot)) ((page (durable s.past.config (here s) r.slot)).meta j) = whole.inside j l (held-visible _ v) in
      omega (arith, p.starts, o.from, ap (λ z. (extent_of (meta_of z)).offset) q, durable-block)

  hidden-word : (i : ℕ) → i < size_of r → ¬ IsShown (words s.past.config (here after) r.slot) (offset_of r + i)
  hidden-word i l (inl h) = omega (arith, l, h, f.room.fits, after-count)
  hidden-word i l (inr (inl h)) = omega (arith, l, h, f.room.fits, after-block)
  hidden-word i l (inr (inr (inl h))) = omega (arith, h, now.leaf.flat, level-same s (here after) r w.moment good f w.leaf.leaf stand t.swaps)
  hidden-word i l (inr (inr (inr o))) =
      let q : IsOfRecord (words s.past.config (here s) r.slot) (offset_of r + i) o.0 = of-record (words s.past.config (here s) r.slot) (words s.past.config (here after) r.slot) (offset_of r + i) o.0 (same-words (META_AT + o.0) (λ z. omega (arith, z))) (omega (arith, o.1.counted, words-count, after-count)) o.1 in
      omega (arith, l, f.room.fits, in-old-block (offset_of r + i) o.0 q)

  -- the swap reserves them
  reserved-word : (i : ℕ) → i < size_of r → is_reserved s.past.config (growth s.past.config r ∷ []) (address_of s.past.config r i) ≡ true
  reserved-word i l =
      let block : (status (status_grown r)).block ≡ (status r.status).block + size_of r = ap (λ z. z.block) (grown-reads r f) in
      or-left (grows_over s.past.config (growth s.past.config r) (address_of s.past.config r i)) _
      (grows s.past.config (growth s.past.config r) r.slot (offset_of r + i) (omega (arith, l, f.room.fits)) refl (omega (arith, l, f.room.fits, block)) (omega (arith, l, f.room.fits)))

  mine : (i : ℕ) → i < size_of r → IsMine after (address_of after.past.config r i)
  mine i l = with-config (λ c. IsMine after (address_of c r i)) (record {
    own = inr (t.reserved (address_of s.past.config r i) ∙ or-right (s.reserved (address_of s.past.config r i)) _ (reserved-word i l));
    hidden = λ k j reached within q shown.
        let p = slots_apart s.past.config r.slot k (offset_of r + i) j (omega (arith, l, f.room.fits)) within (q ∙ ap (λ c. node_address c k + j) t.continues.config) in
        hidden-word i l (subst (λ z. IsShown (words s.past.config (here after) z) (offset_of r + i)) (sym p.0) (subst (λ z. IsShown (words s.past.config (here after) k) z) (sym p.1) (subst (λ c. IsShown (words c (here after) k) j) t.continues.config shown)));
  })

  -- the leaf afterwards
  record-then : WasRecord r.key old r.slot r.status place e after.past
  record-then = remembering.found r.key old r.slot r.status place e s.past after.past w t.continues

  good-after : IsGood after.past.config (here after)
  good-after = later.history.good after.past.now later.begun (omega arith)

  thawed-after : (page_at after.past.config (here after) r.slot).frozen ≡ false
  thawed-after = with-config (λ c. (page_at c (here after) r.slot).frozen ≡ false) (ap (λ z. (status z).frozen) status-is ∙ (ap (λ z. z.frozen) (grown-reads r f) ∙ f.room.thawed))

  inside-after : is_inside after.past.config (here after) r.slot ≡ true
  inside-after = elim (good-after.placed r.slot (t.swaps.reached r.slot ∙ or-left _ _ now.leaf.reached)) [ inl i ↦ i | inr z ↦ absurd (true≢false (sym z ∙ thawed-after)) ]

  place-after : SamePlace after.past.config (after.past.at record-then.moment) (here after) r.slot
  place-after =
      ranges_stay after.past.config after.past.at after.past.since after.past.now record-then.moment after.past.now r.slot later.history (record { since = record-then.leaf.leaf.since; order = record-then.leaf.leaf.now; until = omega arith }) (λ z. omega (arith, z, record-then.leaf.leaf.slot)) record-then.leaf.leaf.inside inside-after

  leaf-after : WasLeafOf r.key (Some old) r.slot (status_grown r) after.past.now after.past
  leaf-after = record {
    leaf = record {
      since = later.begun;
      now = omega arith;
      slot = record-then.leaf.leaf.slot;
      inside = inside-after;
      leaf = place-after.level ∙ record-then.leaf.leaf.leaf;
      was = with-config (λ c. words c (here after) r.slot STATUS_AT ≡ status_grown r) status-is;
      plain = grown-plain r f;
    };
    range = rw (place-after.low, place-after.high) record-then.leaf.range;
    found = with-config (λ c. found_of (durable c (here after) r.slot) r.key ≡ Some old) ((alike s (here after) r w.moment good f w.leaf.leaf stand t.swaps).same r.key ∙ (now.found r.key ∙ w.leaf.found));
  }

  key-after : key_at (page (durable s.past.config (here after) r.slot)) place ≡ r.key
  key-after =
      let there : extent_of ((page (durable s.past.config (here s) r.slot)).meta place) ≡ e = ap extent_of (now-says s r.key old r.slot r.status place e good w now) ∙ visible-extent e in
      let start : 1 ≤ (extent_of ((page (durable s.past.config (here s) r.slot)).meta place)).offset = omega (arith, w.extent.start, ap (λ z. z.offset) there) in
      ap (λ z. key_in (durable s.past.config (here after) r.slot) (extent_of (meta_of z))) (same-durable (META_AT + place) (λ z. omega (arith, z)))
      ∙ (ap (unpacked (extent_of ((page (durable s.past.config (here s) r.slot)).meta place)).key) (words_at-same (durable s.past.config (here after) r.slot) (durable s.past.config (here s) r.slot) (extent_of ((page (durable s.past.config (here s) r.slot)).meta place)).offset (packed_len (extent_of ((page (durable s.past.config (here s) r.slot)).meta place)).key) (λ i from to. same-durable i (λ z. omega (arith, z, from, start))))
      ∙ now-key s r.key old r.slot r.status place e good w now)

  abbrev was-after : WasRecord r.key old r.slot (status_grown r) place e after.past
  was-after = record {
    moment = after.past.now;
    leaf = leaf-after;
    counted = omega (arith, w.counted, ap (λ z. z.count) (grown-reads r f));
    extent = w.extent;
    some = w.some;
    small = w.small;
    dead = omega (arith, f.dead, f.room.fits, ap (λ z. z.dead) (grown-reads r f));
    meta = with-config (λ c. words c (here after) r.slot (META_AT + place) ≡ meta_word (Visible e)) (same-words (META_AT + place) (λ z. omega (arith, z)) ∙ now-meta s r.key old r.slot r.status place e good w now);
    is_key = with-config (λ c. key_at (page (durable c (here after) r.slot)) place ≡ r.key) key-after;
  }

  older : (i : ℕ) → i < (status r.status).count → held ((page (durable s.past.config (here after) r.slot)).meta i) ≡ true → NODE_WORDS ≤ (extent_of ((page (durable s.past.config (here after) r.slot)).meta i)).offset + (status r.status).block
  older i l h =
      let q : durable s.past.config (here after) r.slot (META_AT + i) ≡ durable s.past.config (here s) r.slot (META_AT + i) = same-durable (META_AT + i) (λ z. omega (arith, z)) in
      let p : IsInBlock (page (durable s.past.config (here s) r.slot)) ((page (durable s.past.config (here s) r.slot)).meta i) = whole.inside i (omega (arith, l, durable-count)) (ap (λ z. held (meta_of z)) (sym q) ∙ h) in
      omega (arith, p.starts, durable-block, ap (λ z. (extent_of (meta_of z)).offset) q)

  taken : IsGrown r old place e after
  taken = record {
    grown = record {
      was = was-after;
      older = with-config (λ c. (i : ℕ) → i < (status r.status).count → held ((page (durable c (here after) r.slot)).meta i) ≡ true → NODE_WORDS ≤ (extent_of ((page (durable c (here after) r.slot)).meta i)).offset + (status r.status).block) older;
      swapped = has-swapped false (growth s.past.config r ∷ []) s after good t;
    };
    words = record { mine = mine; stored = λ i l none. absurd (omega (arith, none)); flushed = λ i l before. absurd (omega (arith, before)) };
  }

pub grown-taking : GrowthsTakeWords
grown-taking s after r old place e good later f w stand t = taken s after r old place e good later f w stand t
