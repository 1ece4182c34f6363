-- A leaf in which the next metadata word was reserved is whole.
use Rattle.std.proofs.Common.{◌≡◌, ◌≢◌, ℕ, suc, ◌+◌, ◌<◌, true, List, arith, refl, sym, ap, ◌∙◌, inl, inr, Option}
use Rattle.std.proofs.lemmas.Bool.{cases_eq, true≢false}
use Rattle.bz_layout.specs.declared.sizes.TheConstants.{META_AT}
use Rattle.bz_word.specs.declared.meta.Meta.{Meta}
use Rattle.bz_slotted.specs.Changes.{Reserves}
use Rattle.bz_slotted.specs.Page.{meta_of, visible, held, used, extent_of, page}
use Rattle.bz_slotted.specs.Records.{key_in, key_at, shown, live_block}
use Rattle.bz_slotted.specs.Whole.{IsLeafRecord, IsInBlock, IsPlainKey, IsPlainPayload, IsFilled, RecordsAreApart, Whole}
use Rattle.bz_slotted.proofs.Faults.{held-visible}
use Rattle.bz_slotted.proofs.Fronts.{SameFront, sorted-same, level-stays, fences-stay}
use Rattle.bz_slotted.proofs.Lives.{live_block-same}
use Rattle.bz_slotted.proofs.Words.{Agree, key-same, plain_key-same, plain_payload-same}

module _ (r s n m : ℕ → ℕ) (lo hi : Option (List ℕ)) (mt : Meta) (h : Whole r (page n) lo hi) (c : Reserves r s n m mt) where
  front : SameFront n m
  front i a b = c.others i (λ e. absurd (omega arith)) (λ e. absurd (omega arith))

  pub meta-old : (i : ℕ) → i ≢ (page n).count → (page m).meta i ≡ (page n).meta i
  meta-old i ne = ap meta_of (c.others (META_AT + i) (λ e. absurd (omega arith)) (λ e. ne (omega arith)))

  pub meta-last : (i : ℕ) → i ≡ (page n).count → (page m).meta i ≡ mt
  meta-last i e = ap (λ x. meta_of (m (META_AT + x))) e ∙ c.said

  beyond : (i : ℕ) → META_AT + (page n).count < i → m i ≡ n i
  beyond i a = c.others i (λ e. absurd (omega arith)) (λ e. absurd (omega arith))

  pub agree-old : (k : Meta) → IsInBlock (page n) k → Agree m n (extent_of k)
  agree-old k b i x y = beyond i (omega (arith, c.room, b.starts))

  agree_raw : (k : Meta) → IsInBlock (page n) k → Agree s r (extent_of k)
  agree_raw k b i x y = c.raw i (omega (arith, c.room, b.starts))

  pub block-old : (i : ℕ) → i < (page n).count → visible ((page n).meta i) ≡ true → IsInBlock (page n) ((page n).meta i)
  block-old i l v = h.inside i l (held-visible ((page n).meta i) v)

  -- a visible record is an old one
  pub shows : (i : ℕ) → visible ((page m).meta i) ≡ true → i ≢ (page n).count
  shows i v e = true≢false (sym v ∙ ap visible (meta-last i e) ∙ c.hidden)

  shown-old : (i : ℕ) → visible ((page m).meta i) ≡ true → visible ((page n).meta i) ≡ true
  shown-old i v = ap visible (sym (meta-old i (shows i v))) ∙ v

  key-old : (i : ℕ) → i < (page n).count → visible ((page m).meta i) ≡ true → key_at (page m) i ≡ key_at (page n) i
  key-old i l v = ap (λ x. key_in m (extent_of x)) (meta-old i (shows i v)) ∙ key-same m n (extent_of ((page n).meta i)) (agree-old ((page n).meta i) (block-old i l (shown-old i v)))

  one : (k : ℕ) → k + 1 ≡ suc k
  one k = omega arith

  lives : live_block (page m).meta (page m).count ≡ live_block (page n).meta (page n).count
  unfolding live_block
  lives =
      let old : live_block (page m).meta (page n).count ≡ live_block (page n).meta (page n).count = live_block-same (page m).meta (page n).meta (page n).count (λ i l. meta-old i (λ e. absurd (omega arith))) in
      let none : shown ((page m).meta (page n).count) ≡ 0 = ap shown (meta-last (page n).count refl) ∙ rw c.hidden refl in
      let more : live_block (page m).meta (page m).count ≡ live_block (page m).meta (page n).count + shown ((page m).meta (page n).count) = ap (live_block (page m).meta) (c.count ∙ one (page n).count) in
      omega (arith, old, none, more)

  filled : IsFilled (page m)
  filled = record {
    status = c.status;
    room = omega (arith, c.room, c.count, c.block);
    sorted = omega (arith, h.filled.sorted, sorted-same n m front, c.count);
    free = λ i a b. beyond i (omega (arith, c.count)) ∙ h.filled.free i (omega (arith, c.count)) (omega (arith, c.block));
    dead = omega (arith, lives, c.dead, c.block, h.filled.dead);
  }

  in-block : (k : Meta) → IsInBlock (page n) k → IsInBlock (page m) k
  in-block k b = record { starts = omega (arith, b.starts, c.block); ends = b.ends }

  in-new : IsInBlock (page m) mt
  in-new = record { starts = omega (arith, c.place, c.block); ends = omega (arith, c.place) }

  each : (P : Meta → Type 0) → ((i : ℕ) → i < (page n).count → P ((page n).meta i)) → P mt → (i : ℕ) → i < (page m).count → P ((page m).meta i)
  each P old new i l = elim (cases_eq i (page n).count) [ inl e ↦ rw (meta-last i e) new | inr ne ↦ rw (meta-old i ne) (old i (omega (arith, c.count))) ]

  apart : RecordsAreApart (page m)
  apart i k li lk ne hi hk = elim (cases_eq i (page n).count) [
    | inl e ↦ let nk : k ≢ (page n).count = (λ x. ne (e ∙ sym x)) in rw (meta-last i e, meta-old k nk) (inl (omega (arith, c.place, (h.inside k (omega (arith, c.count)) (rw (meta-old k nk) at hk)).starts)))
    | inr ni ↦ elim (cases_eq k (page n).count) [
      | inl e ↦ rw (meta-last k e, meta-old i ni) (inr (omega (arith, c.place, (h.inside i (omega (arith, c.count)) (rw (meta-old i ni) at hi)).starts)))
      | inr nk ↦ rw (meta-old i ni, meta-old k nk) (h.apart i k (omega (arith, c.count)) (omega (arith, c.count)) ne (rw (meta-old i ni) at hi) (rw (meta-old k nk) at hk))
    ]
  ]

  below : (i : ℕ) → i < (page m).count → visible ((page m).meta i) ≡ true → i < (page n).count
  below i l v = omega (arith, c.count, shows i v)

  pub whole-reserve : Whole s (page m) lo hi
  whole-reserve = record {
    level = level-stays n m 0 front h.level;
    fences = fences-stay n m lo hi front h.fences;
    filled = filled;
    used = each (λ k. used k ≡ true) h.used c.taken;
    lengths = each IsLeafRecord h.lengths c.lengths;
    inside = each (λ k. held k ≡ true → IsInBlock (page m) k) (λ i l hl. in-block ((page n).meta i) (h.inside i l hl)) (λ hl. in-new);
    apart = apart;
    key = each (λ k. visible k ≡ true → IsPlainKey s m (extent_of k)) (λ i l v. plain_key-same r s n m (extent_of ((page n).meta i)) (agree_raw ((page n).meta i) (block-old i l v)) (agree-old ((page n).meta i) (block-old i l v)) (h.key i l v)) (λ v. absurd (true≢false (sym v ∙ c.hidden)));
    payload = each (λ k. visible k ≡ true → IsPlainPayload s m (extent_of k)) (λ i l v. plain_payload-same r s n m (extent_of ((page n).meta i)) (agree_raw ((page n).meta i) (block-old i l v)) (agree-old ((page n).meta i) (block-old i l v)) (h.payload i l v)) (λ v. absurd (true≢false (sym v ∙ c.hidden)));
    order = λ i k less ls vi vk. let so : (page m).sorted ≡ (page n).sorted = sorted-same n m front in
        rw (key-old i (omega (arith, so, h.filled.sorted)) vi, key-old k (omega (arith, so, h.filled.sorted)) vk) (h.order i k less (omega (arith, so)) (shown-old i vi) (shown-old k vk));
    range = λ i l v. rw (key-old i (below i l v) v) (h.range i (below i l v) (shown-old i v));
    distinct = λ i k li lk ne vi vk same. h.distinct i k (below i li vi) (below k lk vk) ne (shown-old i vi) (shown-old k vk) (sym (key-old i (below i li vi) vi) ∙ same ∙ key-old k (below k lk vk) vk);
  }
