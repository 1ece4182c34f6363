-- The record that was found in the view of a leaf which has the key.
use Rattle.std.proofs.Common.{◌≡◌, ◌≢◌, ℕ, ◌<◌, ◌≤◌, List, Option, arith, refl, sym, ap, subst, ◌∙◌}
use Rattle.std.specs.Prelude.{Some, None, length}
use Rattle.std.proofs.lemmas.List.FromFn.{length-map-range_with_len}
use Rattle.bz_key.specs.Packing.{packed, packed_len, unpacked}
use Rattle.bz_layout.specs.declared.sizes.TheConstants.{SHARED_WORDS}
use Rattle.bz_node.specs.Reading.{extent_words, payload_len}
use Rattle.bz_record.specs.FromSlotted.Page.{extent_of, meta_of}
use Rattle.bz_record.specs.FromSlotted.Records.{key_words, payload_words}
use Rattle.bz_word.specs.Statuses.{status}
use Rattle.bz_word.specs.declared.meta.Extent.{Extent}
use Rattle.bz_task.specs.Instant.{durable}
use Rattle.bz_task.specs.Outcomes.{payload_of, IsRecordOf}
use Rattle.bz_task.specs.Requests.{Tells}
use Rattle.bz_task.specs.Scene.{Scene, Stage, Waiting, Took, IsScene, HasFilled}
use Rattle.bz_task.specs.declared.todo.Seen.{Seen}
use Rattle.bz_task.specs.declared.todo.Seen.TheVariants.{Start, Read, Stored, Flushed, Swapped, NoSwap}
use Rattle.bz_task.specs.declared.view.Found.{Found}
use Rattle.bz_task.specs.declared.view.KeyView.{KeyView}
use Rattle.bz_record.specs.Laws.{IsKeyViewed}
use Rattle.bz_record.specs.Records.{words_for}
use Rattle.bz_record.specs.Replacing.{WasRecord}
use Rattle.bz_record.specs.declared.found_record.FoundRecord.{FoundRecord}
use Rattle.bz_record.proofs.Proved.{key_views_show_leaves, key_views_show_records}
use Rattle.bz_mutate.specs.Viewed.{HasViewed, IsVisible, IsFound}

some-of : (o : Option Found) → o ≢ None → (p : List ℕ) × (payload_of o ≡ Some p)
some-of None h = absurd (h refl)
some-of (Some found) h = (found.payload, refl)

-- what the view says of the key
pub says : (key : List ℕ) (v : KeyView) (s : Scene) → HasViewed key v s → (p : List ℕ) × (payload_of v.found ≡ Some p)
says key v s h = some-of v.found h.present

some-same : (p q : List ℕ) → Some p ≡ Some q → p ≡ q
some-same p q e = cc

-- the record that was found is a visible one
pub visible-found : (key : List ℕ) (v : KeyView) (s : Scene) → HasViewed key v s → IsVisible v
visible-found key v s h found is = (h.view.shows found is).visible

-- packed bytes, and those that are unpacked
packed-size : (bytes : List ℕ) → length (packed bytes) ≡ packed_len (length bytes)
unfolding packed
packed-size bytes = length-map-range_with_len _ 0 (packed_len (length bytes))

unpacked-size : (len : ℕ) (words : List ℕ) → length (unpacked len words) ≡ len
unfolding unpacked
unpacked-size len words = length-map-range_with_len _ 0 len

-- key and payload of so many bytes take as many words as the record
sizes-agree : (key payload : List ℕ) (e : Extent) → length key ≡ e.key → length payload ≡ payload_len e → words_for key payload ≡ extent_words e
sizes-agree key payload e k p = rw (packed-size key, packed-size payload, k, p) refl

module _ (key : List ℕ) (v : KeyView) (s : Scene) (good : IsScene s) (h : HasViewed key v s) where
  -- the record is one of the key's leaf
  pub was : (f : FoundRecord) → IsFound v f → WasRecord key ((says key v s h).0) v.slot v.status f.place f.extent s.past
  was f c =
      let same : c.found.payload ≡ (says key v s h).0 = some-same c.found.payload ((says key v s h).0) (sym (ap payload_of c.is) ∙ (says key v s h).1) in
      subst (λ z. WasRecord key z v.slot v.status f.place f.extent s.past) same
      (subst (λ (z : FoundRecord). WasRecord key c.found.payload v.slot v.status z.place z.extent s.past) (sym c.place) (key_views_show_records key v c.found s good h.view c.is))

  pub place : (f : FoundRecord) → IsFound v f → f.place < SHARED_WORDS
  place f c = let l : IsKeyViewed key v s.past = key_views_show_leaves key v s good h.view in let w : WasRecord key ((says key v s h).0) v.slot v.status f.place f.extent s.past = was f c in omega (arith, w.counted, l.room)

  -- it has the words of the key and of the payload
  pub size : (f : FoundRecord) → IsFound v f → words_for key ((says key v s h).0) ≡ extent_words f.extent
  size f c =
      let e : Extent = extent_of (meta_of c.found.meta) in
      let n : ℕ → ℕ = durable s.past.config (s.past.at v.at) v.slot in
      let r : IsRecordOf key n c.found = h.view.shows c.found c.is in
      let same : c.found.payload ≡ (says key v s h).0 = some-same c.found.payload ((says key v s h).0) (sym (ap payload_of c.is) ∙ (says key v s h).1) in
      let words : words_for key c.found.payload ≡ extent_words e =
      sizes-agree key c.found.payload e (ap length (sym r.same) ∙ unpacked-size e.key (key_words n e)) (ap length (sym r.payload) ∙ unpacked-size (payload_len e) (payload_words n e)) in
      subst (λ z. words_for key z ≡ extent_words f.extent) same (subst (λ (z : FoundRecord). words_for key c.found.payload ≡ extent_words z.extent) (sym c.place) words)

  -- no more words are dead than the block has
  pub dead : (status v.status).dead ≤ (status v.status).block
  dead = let l : IsKeyViewed key v s.past = key_views_show_leaves key v s good h.view in l.dead

  -- and one is found
  pub found : v.found ≡ None → ⊥
  found none = h.present none

-- nothing was asked for, so all that was taken is filled
pub started : (stage : Stage) (seen : Seen) (s : Scene) → Tells None stage seen s → HasFilled s
started Waiting Start s t = t
started Waiting (Read w) s t = absurd (t)
started Waiting Stored s t = absurd (t)
started Waiting Flushed s t = absurd (t)
started Waiting (Swapped w) s t = absurd (t)
started Waiting NoSwap s t = absurd (t)
started Took seen s t = absurd (t)
