-- A record that a leaf had at a place is there while the leaf's status is the one that was read.
use Rattle.std.proofs.Common.{◌≡◌, ℕ, ◌+◌, ◌-◌, ◌^◌, ◌<◌, ◌≤◌, true, List, arith, refl, sym, ap, subst, ◌∙◌, inl, inr}
use Rattle.std.proofs.lemmas.List.{ext_get_or}
use Rattle.std.proofs.lemmas.List.FromFn.{length-map-range_with_len, get_or-map-range_with_len}
use Rattle.bz_key.specs.Packing.{packed_len, unpacked}
use Rattle.bz_layout.specs.declared.sizes.TheConstants.{STATUS_AT, META_AT}
use Rattle.bz_slotted.specs.Page.{words_at, meta_of, visible, extent_of, page}
use Rattle.bz_slotted.specs.Records.{key_in, key_at}
use Rattle.bz_word.specs.Metas.{meta_word, IsMeta, IsExtent}
use Rattle.bz_word.specs.Statuses.{status, IsStatus}
use Rattle.bz_word.specs.declared.meta.Extent.{Extent}
use Rattle.bz_word.specs.declared.meta.Meta.TheVariants.{Visible, Deleted}
use Rattle.bz_word.proofs.Lemmas.{metas, statuses}
use Rattle.bz_task.specs.Good.{IsGood}
use Rattle.bz_task.specs.Instant.{words, durable}
use Rattle.bz_task.specs.Scene.{Scene, IsScene, here}
use Rattle.bz_task.specs.Steps.{next_stamp}
use Rattle.bz_record.specs.Laws.{SameLeaf}
use Rattle.bz_record.specs.Replacing.{WasRecord}
use Rattle.bz_record.specs.Swaps.{counted_status}
use Rattle.bz_record.proofs.Coding.{says, visible-shown, visible-extent}

-- words that are the same
pub words_at-same : (n m : ℕ → ℕ) (from count : ℕ) → ((i : ℕ) → from ≤ i → i < from + count → n i ≡ m i) → words_at n from count ≡ words_at m from count
unfolding words_at
words_at-same n m from count h =
    ext_get_or 0 _ _ (length-map-range_with_len n from count ∙ sym (length-map-range_with_len m from count)) (λ i l.
    let within : i < count = omega (arith, l, length-map-range_with_len n from count) in
    get_or-map-range_with_len n from count i (from + i) 0 within refl ∙ (h (from + i) (omega arith) (omega (arith, within)) ∙ sym (get_or-map-range_with_len m from count i (from + i) 0 within refl)))

-- a status word with another number of dead words
counted-lawful : (st dead : ℕ) → st < 2 ^ 61 → dead < 2 ^ 10 → IsStatus (record (status st) { dead = dead; stamp = next_stamp (status st).stamp })
counted-lawful st dead l d = let r = statuses.range st l in record { count = r.count; block = r.block; dead = d; stamp = omega arith }

pub counted-plain : (st dead : ℕ) → st < 2 ^ 61 → dead < 2 ^ 10 → counted_status st dead < 2 ^ 61
counted-plain st dead l d = statuses.lawful _ (counted-lawful st dead l d)

pub counted-reads : (st dead : ℕ) → st < 2 ^ 61 → dead < 2 ^ 10 → status (counted_status st dead) ≡ record (status st) { dead = dead; stamp = next_stamp (status st).stamp }
counted-reads st dead l d = statuses.value _ (counted-lawful st dead l d)

-- the metadata words of a visible and of a deleted record
pub visible-reads : (e : Extent) → IsExtent e → meta_of (meta_word (Visible e)) ≡ Visible e
visible-reads e l = says (meta_word (Visible e)) (metas.lawful (Visible e) l) ∙ metas.value (Visible e) l

pub visible-plain : (e : Extent) → IsExtent e → meta_word (Visible e) < 2 ^ 61
visible-plain e l = (metas.lawful (Visible e) l).control

deleted-lawful : (e : Extent) → IsExtent e → 0 < e.key → IsMeta (Deleted e.key e.total)
deleted-lawful e l some = (l.key, omega (arith, l.key, some), l.total)

pub deleted-reads : (e : Extent) → IsExtent e → 0 < e.key → meta_of (meta_word (Deleted e.key e.total)) ≡ Deleted e.key e.total
deleted-reads e l some = says (meta_word (Deleted e.key e.total)) (metas.lawful (Deleted e.key e.total) (deleted-lawful e l some)) ∙ metas.value (Deleted e.key e.total) (deleted-lawful e l some)

pub deleted-plain : (e : Extent) → IsExtent e → 0 < e.key → meta_word (Deleted e.key e.total) < 2 ^ 61
deleted-plain e l some = (metas.lawful (Deleted e.key e.total) (deleted-lawful e l some)).control

-- in the image of one moment and of another
module _ (s : Scene) (key payload : List ℕ) (k st place : ℕ) (e : Extent) (good : IsScene s) (w : WasRecord key payload k st place e s.past) (same : SameLeaf s.past.config (s.past.at w.moment) (here s) k) where
  then-good : IsGood s.past.config (s.past.at w.moment)
  then-good = good.history.good w.moment w.leaf.leaf.since w.leaf.leaf.now

  then-reached : (s.past.at w.moment).reached k ≡ true
  then-reached = then-good.inside k w.leaf.leaf.inside (λ q. omega (arith, q, w.leaf.leaf.slot))

  then-count : (page (words s.past.config (s.past.at w.moment) k)).count ≡ (status st).count
  then-count = ap (λ z. (status z).count) w.leaf.leaf.was

  pub now-meta : words s.past.config (here s) k (META_AT + place) ≡ meta_word (Visible e)
  now-meta = same.shows (META_AT + place) (inl (omega (arith, w.counted, then-count))) ∙ w.meta

  then-durable-meta : durable s.past.config (s.past.at w.moment) k (META_AT + place) ≡ meta_word (Visible e)
  then-durable-meta = then-good.shown k (META_AT + place) then-reached (inl (omega (arith, w.counted, then-count))) ∙ w.meta

  then-durable-status : durable s.past.config (s.past.at w.moment) k STATUS_AT ≡ st
  then-durable-status = then-good.shown k STATUS_AT then-reached (inl (omega arith)) ∙ w.leaf.leaf.was

  then-durable-count : (page (durable s.past.config (s.past.at w.moment) k)).count ≡ (status st).count
  then-durable-count = ap (λ z. (status z).count) then-durable-status

  pub now-durable-meta : durable s.past.config (here s) k (META_AT + place) ≡ meta_word (Visible e)
  now-durable-meta = same.stands (META_AT + place) (inl (omega (arith, w.counted, then-durable-count))) ∙ then-durable-meta

  -- what the image says of the place
  then-says : (page (durable s.past.config (s.past.at w.moment) k)).meta place ≡ Visible e
  then-says = ap meta_of then-durable-meta ∙ visible-reads e w.extent

  pub now-says : (page (durable s.past.config (here s) k)).meta place ≡ Visible e
  now-says = ap meta_of now-durable-meta ∙ visible-reads e w.extent

  then-extent : extent_of ((page (durable s.past.config (s.past.at w.moment) k)).meta place) ≡ e
  then-extent = ap extent_of then-says ∙ visible-extent e

  -- the words of its key stand as they stood
  stands : (i : ℕ) → e.offset ≤ i → i < e.offset + packed_len e.key → durable s.past.config (here s) k i ≡ durable s.past.config (s.past.at w.moment) k i
  stands i from to =
      same.stands i (inr (inr (inr (
        place,
        record {
          counted = omega (arith, w.counted, then-durable-count);
          visible = ap visible then-says ∙ visible-shown e;
          from = subst (λ z. z.offset ≤ i) (sym then-extent) from;
          to = subst (λ z. i < z.offset + (packed_len z.key + packed_len (z.total - z.key))) (sym then-extent) (omega (arith, to));
        },
      ))))

  pub now-key : key_at (page (durable s.past.config (here s) k)) place ≡ key
  now-key =
      ap (λ z. key_in (durable s.past.config (here s) k) (extent_of z)) now-says ∙ (ap (key_in (durable s.past.config (here s) k)) (visible-extent e)
      ∙ (ap (unpacked e.key) (words_at-same (durable s.past.config (here s) k) (durable s.past.config (s.past.at w.moment) k) e.offset (packed_len e.key) stands)
      ∙ (ap (key_in (durable s.past.config (s.past.at w.moment) k)) (sym then-extent) ∙ w.is_key)))
