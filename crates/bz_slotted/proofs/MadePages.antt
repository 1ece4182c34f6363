-- What leaves and inner nodes that are made whole have in common.
use Rattle.std.proofs.Common.{◌≡◌, ◌≢◌, ℕ, zero, suc, ◌+◌, ◌<◌, ◌≤◌, true, false, List, [], length, get_or, take, arith, refl, sym, ap, ◌∙◌, inl, inr, Option}
use Rattle.std.specs.Prelude.{All}
use Rattle.std.specs.List.{sum_by}
use Rattle.std.proofs.lemmas.Bool.{cases_lt}
use Rattle.std.proofs.lemmas.List.{take_all}
use Rattle.std.proofs.lemmas.List.Sums.{sum_by_more}
use Rattle.bz_layout.specs.declared.sizes.TheConstants.{LOW_FENCE_AT, HIGH_FENCE_AT, META_AT, SHARED_WORDS}
use Rattle.bz_layout.specs.declared.thresholds.TheConstants.{MAX_LEVELS}
use Rattle.bz_node.specs.Laws.{HasFront, HasPlaces}
use Rattle.bz_node.specs.Layout.{Entry, IsEntry, block, needed, node_words}
use Rattle.bz_node.specs.Reading.{extent_in, IsReadable}
use Rattle.bz_node.specs.Records.{IsBound}
use Rattle.bz_word.specs.declared.header.Header.{Header}
use Rattle.bz_word.specs.declared.meta.Extent.{Extent}
use Rattle.bz_word.specs.declared.meta.Meta.TheVariants.{Visible}
use Rattle.bz_word.specs.declared.status.Status.{Status}
use Rattle.bz_slotted.specs.Page.{visible, extent_of, page}
use Rattle.bz_slotted.specs.ReadingLaws.{node_of}
use Rattle.bz_slotted.specs.Records.{shown, live_block}
use Rattle.bz_slotted.specs.Whole.{IsAtLevel, HasFences, IsFilled, IsInBlock, Disjoint}
use Rattle.bz_slotted.proofs.Lists.{meta-unpacks}
use Rattle.bz_slotted.proofs.MadeWords.{HasLengths, fence-made, header-made, meta-made, length-block_of}
use Rattle.bz_slotted.proofs.Readable.{visible-sees, extent-sees}

-- a node made whole
pub record IsMade (l : ℕ) (lo hi : Option (List ℕ)) (entries : List Entry) : Type 0 where
  pub level : l < MAX_LEVELS
  pub low : IsBound lo
  pub high : IsBound hi
  pub each : All IsEntry entries
  pub fits : needed entries ≤ SHARED_WORDS
  pub front : HasFront (node_words l lo hi entries) l lo hi entries
  pub places : HasPlaces (node_words l lo hi entries)
  pub readable : IsReadable (node_words l lo hi entries)

-- as a node
abbrev pub made : ℕ → Option (List ℕ) → Option (List ℕ) → List Entry → ℕ → ℕ
made l lo hi entries = node_of (node_words l lo hi entries)

abbrev pub ext : ℕ → Option (List ℕ) → Option (List ℕ) → List Entry → ℕ → Extent
ext l lo hi entries i = extent_in (node_words l lo hi entries) i

module _ (l : ℕ) (lo hi : Option (List ℕ)) (entries : List Entry) (h : IsMade l lo hi entries) where
  pub count-made : (page (made l lo hi entries)).count ≡ length entries
  count-made = ap (λ (s : Status). s.count) h.front.status

  pub block-made : (page (made l lo hi entries)).block ≡ length (block entries)
  block-made = ap (λ (s : Status). s.block) h.front.status

  pub dead-made : (page (made l lo hi entries)).dead ≡ 0
  dead-made = ap (λ (s : Status). s.dead) h.front.status

  pub thawed-made : (page (made l lo hi entries)).frozen ≡ false
  thawed-made = ap (λ (s : Status). s.frozen) h.front.status

  pub sorted-made : (page (made l lo hi entries)).sorted ≡ length entries
  sorted-made = ap (λ (x : Header). x.sorted) h.front.header

  pub level-made : IsAtLevel (page (made l lo hi entries)) l
  level-made = record { header = header-made l lo hi entries h.level h.low h.high (omega (arith, h.fits)); level = ap (λ (x : Header). x.level) h.front.header; lowest = h.level }

  pub fences-made : HasFences (page (made l lo hi entries)) lo hi
  fences-made = record {
    low = rw (ap (λ (x : Header). x.low) h.front.header) (fence-made (node_words l lo hi entries) LOW_FENCE_AT lo h.low h.front.low_fence);
    high = rw (ap (λ (x : Header). x.high) h.front.header) (fence-made (node_words l lo hi entries) HIGH_FENCE_AT hi h.high h.front.high_fence);
  }

  pub meta-said : (i : ℕ) → i < length entries → (page (made l lo hi entries)).meta i ≡ Visible (ext l lo hi entries i)
  meta-said i li = let within : i < (page (made l lo hi entries)).count = omega (arith, count-made) in meta-unpacks (made l lo hi entries (META_AT + i)) (h.readable.metas i within) ∙ h.places.visible i within

  pub shows-made : (i : ℕ) → i < length entries → visible ((page (made l lo hi entries)).meta i) ≡ true
  shows-made i li = visible-sees ((page (made l lo hi entries)).meta i) (ext l lo hi entries i) (meta-said i li)

  pub ext-made : (i : ℕ) → i < length entries → extent_of ((page (made l lo hi entries)).meta i) ≡ ext l lo hi entries i
  ext-made i li = extent-sees ((page (made l lo hi entries)).meta i) (ext l lo hi entries i) (meta-said i li)

  pub lengths-made : (i : ℕ) (d : Entry) → i < length entries → HasLengths (made l lo hi entries (META_AT + i)) (get_or entries i d)
  lengths-made i d li = meta-made l lo hi entries i d h.low h.high h.each li

  shown-made : (i : ℕ) (d : Entry) → i < length entries → shown ((page (made l lo hi entries)).meta i) ≡ length (get_or entries i d).words
  shown-made i d li =
      let s = lengths-made i d li in let c = h.each i d li in
      rw (shows-made i li, ext-made i li) (rw (s.key, s.total) (sym c.counted))

  live-made : (k : ℕ) → k ≤ length entries → live_block (page (made l lo hi entries)).meta k ≡ sum_by (λ (e : Entry). length e.words) (take k entries)
  unfolding live_block
  live-made zero le = refl
  live-made (suc k) le =
      let d : Entry = record { key = 0; total = 0; words = [] } in
      let more = sum_by_more (λ (e : Entry). length e.words) entries k d (omega arith) in
      rw (live-made k (omega arith), shown-made k d (omega arith)) (sym more ∙ ap (λ n. sum_by (λ (e : Entry). length e.words) (take n entries)) (one k))
    where
      one : (n : ℕ) → n + 1 ≡ suc n
      one n = omega arith

  pub filled-made : IsFilled (page (made l lo hi entries))
  filled-made =
      let live : live_block (page (made l lo hi entries)).meta (length entries) ≡ length (block entries) =
      live-made (length entries) (omega arith) ∙ ap (sum_by (λ (e : Entry). length e.words)) (take_all (length entries) entries (omega arith)) ∙ sym (length-block_of entries) in record {
        status = h.readable.status;
        room = omega (arith, h.fits, count-made, block-made);
        sorted = omega (arith, sorted-made, count-made);
        free = h.places.free;
        dead = omega (arith, live, dead-made, block-made, ap (live_block (page (made l lo hi entries)).meta) count-made);
      }

  pub inside-made : (i : ℕ) → i < length entries → IsInBlock (page (made l lo hi entries)) ((page (made l lo hi entries)).meta i)
  inside-made i li = let within : i < (page (made l lo hi entries)).count = omega (arith, count-made) in record { starts = rw (ext-made i li) (h.places.inside i within); ends = rw (ext-made i li) (h.places.ends i within) }

  pub apart-made : (i j : ℕ) → i < length entries → j < length entries → i ≢ j → Disjoint ((page (made l lo hi entries)).meta i) ((page (made l lo hi entries)).meta j)
  apart-made i j li lj ne = rw (ext-made i li, ext-made j lj) (elim (cases_lt i j) [
    | inl less ↦ inr (h.places.below i j less (omega (arith, count-made)))
    | inr more ↦ inl (h.places.below j i (omega (arith, ne)) (omega (arith, count-made)))
  ])
