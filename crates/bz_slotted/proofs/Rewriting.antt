-- A leaf of which one metadata word says something else is whole.
use Rattle.std.proofs.Common.{◌≡◌, ◌≢◌, ℕ, ◌+◌, ◌<◌, ◌≤◌, true, List, arith, refl, sym, ap, ◌∙◌, inl, inr, Option}
use Rattle.std.proofs.lemmas.Bool.{cases_eq}
use Rattle.bz_layout.specs.declared.sizes.TheConstants.{META_AT}
use Rattle.bz_tree.specs.Order.{is_within}
use Rattle.bz_word.specs.declared.meta.Meta.{Meta}
use Rattle.bz_slotted.specs.Changes.{Rewrites}
use Rattle.bz_slotted.specs.Page.{meta_of, visible, held, used, extent_of, page}
use Rattle.bz_slotted.specs.Records.{key_in, key_at, live_block}
use Rattle.bz_slotted.specs.Whole.{IsLeafRecord, IsInBlock, IsPlainKey, IsPlainPayload, Disjoint, IsFilled, RecordsAreApart, KeysRise, KeysDiffer, Whole}
use Rattle.bz_slotted.proofs.Faults.{held-visible}
use Rattle.bz_slotted.proofs.Fronts.{SameFront, sorted-same, level-stays, fences-stay}
use Rattle.bz_slotted.proofs.Lives.{live_block-put}
use Rattle.bz_slotted.proofs.Words.{Agree, key-same, plain_key-same, plain_payload-same}

pub disjoint-flip : (a b : Meta) → Disjoint a b → Disjoint b a
disjoint-flip a b (inl x) = inr x
disjoint-flip a b (inr x) = inl x

module _ (r s n m : ℕ → ℕ) (lo hi : Option (List ℕ)) (j : ℕ) (mt : Meta) (h : Whole r (page n) lo hi) (c : Rewrites r s n m lo hi j mt) where
  front : SameFront n m
  front i a b = c.others i (λ e. absurd (omega arith)) (λ e. absurd (omega arith))

  pub meta-other : (i : ℕ) → i ≢ j → (page m).meta i ≡ (page n).meta i
  meta-other i ne = ap meta_of (c.others (META_AT + i) (λ e. absurd (omega arith)) (λ e. ne (omega arith)))

  pub meta-at : (i : ℕ) → i ≡ j → (page m).meta i ≡ mt
  meta-at i e = ap (λ x. meta_of (m (META_AT + x))) e ∙ c.said

  beyond : (i : ℕ) → META_AT + (page n).count ≤ i → m i ≡ n i
  beyond i a = c.others i (λ e. absurd (omega arith)) (λ e. absurd (omega (arith, c.inside)))

  -- the words of a record in the block are as they were
  pub agree : (k : Meta) → IsInBlock (page n) k → Agree m n (extent_of k)
  agree k b i x y = beyond i (omega (arith, h.filled.room, b.starts))

  agree_raw : (k : Meta) → IsInBlock (page n) k → Agree s r (extent_of k)
  agree_raw k b i x y = c.raw i (omega (arith, h.filled.room, b.starts))

  pub block-of : (i : ℕ) → i < (page n).count → visible ((page n).meta i) ≡ true → IsInBlock (page n) ((page n).meta i)
  block-of i l v = h.inside i l (held-visible ((page n).meta i) v)

  pub block-new : visible mt ≡ true → IsInBlock (page n) mt
  block-new v = c.in_block (held-visible mt v)

  pub key-other : (i : ℕ) → i ≢ j → i < (page n).count → visible ((page n).meta i) ≡ true → key_at (page m) i ≡ key_at (page n) i
  key-other i ne l v = ap (λ x. key_in m (extent_of x)) (meta-other i ne) ∙ key-same m n (extent_of ((page n).meta i)) (agree ((page n).meta i) (block-of i l v))

  pub key-new : (i : ℕ) → i ≡ j → visible mt ≡ true → key_at (page m) i ≡ key_in n (extent_of mt)
  key-new i e v = ap (λ x. key_in m (extent_of x)) (meta-at i e) ∙ key-same m n (extent_of mt) (agree mt (block-new v))

  filled : IsFilled (page m)
  filled = record {
    status = c.status;
    room = omega (arith, h.filled.room, c.count, c.block);
    sorted = omega (arith, h.filled.sorted, sorted-same n m front, c.count);
    free = λ i a b. beyond i (omega (arith, c.count)) ∙ h.filled.free i (omega (arith, c.count)) (omega (arith, c.block));
    dead = omega (arith, c.dead, c.block, h.filled.dead, live_block-put (page n).meta (page m).meta j (page n).count mt (λ i l ne. meta-other i ne) (meta-at j refl) c.inside, ap (live_block (page m).meta) c.count);
  }

  in-block : (k : Meta) → IsInBlock (page n) k → IsInBlock (page m) k
  in-block k b = record { starts = omega (arith, b.starts, c.block); ends = b.ends }

  -- a fact of each record, from that of the others and that of the new one
  each : (P : Meta → Type 0) → ((i : ℕ) → i < (page n).count → P ((page n).meta i)) → P mt → (i : ℕ) → i < (page m).count → P ((page m).meta i)
  each P old new i l = elim (cases_eq i j) [ inl e ↦ rw (meta-at i e) new | inr ne ↦ rw (meta-other i ne) (old i (omega (arith, c.count))) ]

  apart : RecordsAreApart (page m)
  apart i k li lk ne hi hk = elim (cases_eq i j) [
    | inl e ↦ let nk : k ≢ j = (λ q. ne (e ∙ sym q)) in rw (meta-at i e, meta-other k nk) (disjoint-flip ((page n).meta k) mt (c.apart k (omega (arith, c.count)) nk (rw (meta-at i e) at hi) (rw (meta-other k nk) at hk)))
    | inr ni ↦ elim (cases_eq k j) [
      | inl e ↦ rw (meta-at k e, meta-other i ni) (c.apart i (omega (arith, c.count)) ni (rw (meta-at k e) at hk) (rw (meta-other i ni) at hi))
      | inr nk ↦ rw (meta-other i ni, meta-other k nk) (h.apart i k (omega (arith, c.count)) (omega (arith, c.count)) ne (rw (meta-other i ni) at hi) (rw (meta-other k nk) at hk))
    ]
  ]

  order : KeysRise (page m)
  order i k less ls vi vk = let so : (page m).sorted ≡ (page n).sorted = sorted-same n m front in elim (cases_eq i j) [
    | inl e ↦ let nk : k ≢ j = (λ x. absurd (omega (arith, e, x))) in let vm : visible mt ≡ true = rw (meta-at i e) at vi in let vk2 : visible ((page n).meta k) ≡ true = rw (meta-other k nk) at vk in
        elim (c.tail vm) [ inl t ↦ absurd (omega (arith, t, e, so)) | inr t ↦ rw (key-new i e vm, t.1, key-other k nk (omega (arith, so, h.filled.sorted)) vk2) (h.order j k (omega (arith, e)) (omega (arith, so)) t.0 vk2) ]
    | inr ni ↦ let vi2 : visible ((page n).meta i) ≡ true = rw (meta-other i ni) at vi in elim (cases_eq k j) [
      | inl e ↦ let vm : visible mt ≡ true = rw (meta-at k e) at vk in
          elim (c.tail vm) [ inl t ↦ absurd (omega (arith, t, e, so)) | inr t ↦ rw (key-new k e vm, t.1, key-other i ni (omega (arith, so, h.filled.sorted)) vi2) (h.order i j (omega (arith, e)) (omega (arith, so, e)) vi2 t.0) ]
      | inr nk ↦ let vk2 : visible ((page n).meta k) ≡ true = rw (meta-other k nk) at vk in rw (key-other i ni (omega (arith, so, h.filled.sorted)) vi2, key-other k nk (omega (arith, so, h.filled.sorted)) vk2) (h.order i k less (omega (arith, so)) vi2 vk2)
    ]
  ]

  distinct : KeysDiffer (page m)
  distinct i k li lk ne vi vk same = elim (cases_eq i j) [
    | inl e ↦ let nk : k ≢ j = (λ x. ne (e ∙ sym x)) in let vm : visible mt ≡ true = rw (meta-at i e) at vi in let vk2 : visible ((page n).meta k) ≡ true = rw (meta-other k nk) at vk in
        c.distinct k (omega (arith, c.count)) nk vm vk2 (sym (key-other k nk (omega (arith, c.count)) vk2) ∙ sym same ∙ key-new i e vm)
    | inr ni ↦ let vi2 : visible ((page n).meta i) ≡ true = rw (meta-other i ni) at vi in elim (cases_eq k j) [
      | inl e ↦ let vm : visible mt ≡ true = rw (meta-at k e) at vk in c.distinct i (omega (arith, c.count)) ni vm vi2 (sym (key-other i ni (omega (arith, c.count)) vi2) ∙ same ∙ key-new k e vm)
      | inr nk ↦ let vk2 : visible ((page n).meta k) ≡ true = rw (meta-other k nk) at vk in h.distinct i k (omega (arith, c.count)) (omega (arith, c.count)) ne vi2 vk2 (sym (key-other i ni (omega (arith, c.count)) vi2) ∙ same ∙ key-other k nk (omega (arith, c.count)) vk2)
    ]
  ]

  range : (i : ℕ) → i < (page m).count → visible ((page m).meta i) ≡ true → is_within (key_at (page m) i) lo hi ≡ true
  range i l v = elim (cases_eq i j) [
    | inl e ↦ let vm : visible mt ≡ true = rw (meta-at i e) at v in rw (key-new i e vm) (c.range vm)
    | inr ne ↦ let vi : visible ((page n).meta i) ≡ true = rw (meta-other i ne) at v in rw (key-other i ne (omega (arith, c.count)) vi) (h.range i (omega (arith, c.count)) vi)
  ]

  pub whole-rewrite : Whole s (page m) lo hi
  whole-rewrite = record {
    level = level-stays n m 0 front h.level;
    fences = fences-stay n m lo hi front h.fences;
    filled = filled;
    used = each (λ k. used k ≡ true) h.used c.taken;
    lengths = each IsLeafRecord h.lengths c.lengths;
    inside = each (λ k. held k ≡ true → IsInBlock (page m) k) (λ i l hl. in-block ((page n).meta i) (h.inside i l hl)) (λ hl. in-block mt (c.in_block hl));
    apart = apart;
    key = each (λ k. visible k ≡ true → IsPlainKey s m (extent_of k)) (λ i l v. plain_key-same r s n m (extent_of ((page n).meta i)) (agree_raw ((page n).meta i) (block-of i l v)) (agree ((page n).meta i) (block-of i l v)) (h.key i l v))
        (λ v. plain_key-same r s n m (extent_of mt) (agree_raw mt (block-new v)) (agree mt (block-new v)) (c.key v));
    payload = each (λ k. visible k ≡ true → IsPlainPayload s m (extent_of k)) (λ i l v. plain_payload-same r s n m (extent_of ((page n).meta i)) (agree_raw ((page n).meta i) (block-of i l v)) (agree ((page n).meta i) (block-of i l v)) (h.payload i l v))
        (λ v. plain_payload-same r s n m (extent_of mt) (agree_raw mt (block-new v)) (agree mt (block-new v)) (c.payload v));
    order = order;
    range = range;
    distinct = distinct;
  }
