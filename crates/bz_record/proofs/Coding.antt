-- Status and metadata words of a reservation and a publication, as they are read.
use Rattle.std.proofs.Common.{◌≡◌, ℕ, ◌+◌, ◌-◌, ◌^◌, ◌<◌, ◌≤◌, true, false, arith, refl, sym, subst, ◌∙◌}
use Rattle.std.specs.Prelude.{length}
use Rattle.std.proofs.lemmas.Bool.Decides.{nat_tests}
use Rattle.bz_key.specs.Packing.{packed, packed_len}
use Rattle.bz_key.specs.declared.limits.TheConstants.{KEY_BYTES, PAYLOAD_BYTES}
use Rattle.bz_key.proofs.Proved.{packing_is_small}
use Rattle.bz_slotted.specs.FromNode.Reading.{extent_words}
use Rattle.bz_slotted.specs.Page.{is_meta_word, meta_of, held, visible, used, extent_of}
use Rattle.bz_slotted.specs.Whole.{IsLeafRecord}
use Rattle.bz_word.specs.Metas.{meta_word, meta, IsMetaWord, IsExtent}
use Rattle.bz_word.specs.Statuses.{status, IsStatus}
use Rattle.bz_word.specs.declared.meta.Extent.{Extent}
use Rattle.bz_word.specs.declared.meta.Meta.{Meta}
use Rattle.bz_word.specs.declared.meta.Meta.TheVariants.{Reserved, Visible}
use Rattle.bz_word.specs.declared.status.Status.{Status}
use Rattle.bz_word.proofs.Lemmas.{metas, statuses}
use Rattle.bz_task.specs.Steps.{next_stamp}
use Rattle.bz_record.specs.Records.{size_of, place_of, Fits}
use Rattle.bz_record.specs.Swaps.{status_reserved, status_published}
use Rattle.bz_record.specs.declared.new_record.NewRecord.{NewRecord}

-- what a lawful metadata word says
pub says : (x : ℕ) → IsMetaWord x → meta_of x ≡ meta x
unfolding meta_of
says x h = let t : is_meta_word x ≡ true = grind (arith, nat_tests, h.control, h.lengths, h.offset) in rw t refl

module _ (r : NewRecord) (f : Fits r) where
  -- the status after the reservation
  reserved : Status
  reserved = record (status r.status) {
    count = (status r.status).count + 1;
    block = (status r.status).block + size_of r;
    dead = (status r.status).dead + size_of r;
    stamp = next_stamp (status r.status).stamp;
  }

  reserved-lawful : IsStatus reserved
  unfolding reserved
  reserved-lawful = record { count = omega (arith, f.room.fits); block = omega (arith, f.room.fits); dead = omega (arith, f.room.fits, f.dead); stamp = omega arith }

  pub reserved-plain : status_reserved r < 2 ^ 61
  unfolding reserved
  reserved-plain = statuses.lawful reserved reserved-lawful

  pub reserved-reads : status (status_reserved r) ≡ record (status r.status) { count = (status r.status).count + 1; block = (status r.status).block + size_of r; dead = (status r.status).dead + size_of r; stamp = next_stamp (status r.status).stamp }
  unfolding reserved
  reserved-reads = statuses.value reserved reserved-lawful

  -- and after the publication
  published-lawful : IsStatus (record (status (status_reserved r)) { dead = (status r.status).dead; stamp = next_stamp (status (status_reserved r)).stamp })
  published-lawful = rw reserved-reads (record { count = omega (arith, f.room.fits); block = omega (arith, f.room.fits); dead = omega (arith, f.room.fits, f.dead); stamp = omega arith })

  pub published-plain : status_published r < 2 ^ 61
  published-plain = statuses.lawful _ published-lawful

  pub published-reads : status (status_published r) ≡ record (status (status_reserved r)) { dead = (status r.status).dead; stamp = next_stamp (status (status_reserved r)).stamp }
  published-reads = statuses.value _ published-lawful

  -- the metadata words
  place-lawful : IsExtent (place_of r)
  place-lawful = record { offset = omega arith; start = omega (arith, f.room.fits); key = omega arith; total = omega (arith, f.key.fits, f.payload.fits) }

  pub reserved-meta-plain : meta_word (Reserved (place_of r)) < 2 ^ 61
  reserved-meta-plain = (metas.lawful (Reserved (place_of r)) place-lawful).control

  pub visible-meta-plain : meta_word (Visible (place_of r)) < 2 ^ 61
  visible-meta-plain = (metas.lawful (Visible (place_of r)) place-lawful).control

  pub reserved-says : meta_of (meta_word (Reserved (place_of r))) ≡ Reserved (place_of r)
  reserved-says = says (meta_word (Reserved (place_of r))) (metas.lawful (Reserved (place_of r)) place-lawful) ∙ metas.value (Reserved (place_of r)) place-lawful

  pub visible-says : meta_of (meta_word (Visible (place_of r))) ≡ Visible (place_of r)
  visible-says = says (meta_word (Visible (place_of r))) (metas.lawful (Visible (place_of r)) place-lawful) ∙ metas.value (Visible (place_of r)) place-lawful

  -- the record takes as many words as it has
  pub key-size : length (packed r.key) ≡ packed_len (length r.key)
  key-size = (packing_is_small r.key f.key.each).0

  pub payload-size : length (packed r.payload) ≡ packed_len (length r.payload)
  payload-size = (packing_is_small r.payload f.payload.each).0

  payload-len : length r.key + length r.payload - length r.key ≡ length r.payload
  payload-len = omega arith

  pub sizes-agree : extent_words (place_of r) ≡ size_of r
  sizes-agree = rw (key-size, payload-size, payload-len) refl

-- what is said of reserved and of visible records
pub reserved-held : (e : Extent) → held (Reserved e) ≡ true
unfolding held
reserved-held e = refl

pub reserved-hidden : (e : Extent) → visible (Reserved e) ≡ false
unfolding visible
reserved-hidden e = refl

pub reserved-used : (e : Extent) → used (Reserved e) ≡ true
unfolding used
reserved-used e = refl

pub reserved-extent : (e : Extent) → extent_of (Reserved e) ≡ e
unfolding extent_of
reserved-extent e = refl

pub visible-held : (e : Extent) → held (Visible e) ≡ true
unfolding held
visible-held e = refl

pub visible-shown : (e : Extent) → visible (Visible e) ≡ true
unfolding visible
visible-shown e = refl

pub visible-used : (e : Extent) → used (Visible e) ≡ true
unfolding used
visible-used e = refl

pub visible-extent : (e : Extent) → extent_of (Visible e) ≡ e
unfolding extent_of
visible-extent e = refl

-- its lengths are those of a leaf's record
pub leaf-record : (r : NewRecord) (m : Meta) → Fits r → extent_of m ≡ place_of r → IsLeafRecord m
leaf-record r m f e = record {
  some = subst (λ z. 0 < z.key) (sym e) f.key.some;
  short = subst (λ z. z.key ≤ KEY_BYTES) (sym e) f.key.fits;
  more = subst (λ z. z.key ≤ z.total) (sym e) (omega arith);
  payload = subst (λ z. z.total ≤ z.key + PAYLOAD_BYTES) (sym e) (omega (arith, f.payload.fits));
}
