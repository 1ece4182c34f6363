-- An inner node of which one pointer and the stamp change is whole, and changes that child alone.
use Rattle.std.proofs.Common.{◌≡◌, ◌≢◌, ℕ, ◌+◌, ◌<◌, ◌≤◌, List, arith, sym, ap, subst, ◌∙◌, inl, inr, Option}
use Rattle.std.proofs.lemmas.Bool.{cases_eq}
use Rattle.bz_key.specs.Packing.{packed_len, unpacked}
use Rattle.bz_layout.specs.declared.sizes.TheConstants.{META_AT}
use Rattle.bz_node.specs.Reading.{payload_at}
use Rattle.bz_word.specs.declared.meta.Extent.{Extent}
use Rattle.bz_word.specs.declared.meta.Meta.{Meta}
use Rattle.bz_slotted.specs.InnerChanges.{PointerSwap}
use Rattle.bz_slotted.specs.Page.{meta_of, extent_of, page}
use Rattle.bz_slotted.specs.Records.{key_words, key_in, key_at, weight, live_block, pointer_at}
use Rattle.bz_slotted.specs.Whole.{IsInnerRecord, IsPlainKey, IsFilled, IsPointer, WholeInner}
use Rattle.bz_slotted.proofs.Fronts.{SameFront, sorted-same, level-stays, fences-stay}
use Rattle.bz_slotted.proofs.Lives.{live_block-same}
use Rattle.bz_slotted.proofs.Words.{words_at-same}

-- two nodes agree on the words of a record's key
abbrev pub AgreeKey : (f g : ℕ → ℕ) → Extent → Type 0
AgreeKey f g e = (k : ℕ) → e.offset ≤ k → k < e.offset + packed_len e.key → f k ≡ g k

pub plain_key-kept : (r s n m : ℕ → ℕ) (e : Extent) → AgreeKey s r e → AgreeKey m n e → IsPlainKey r n e → IsPlainKey s m e
plain_key-kept r s n m e sr mn h = let words : key_words m e ≡ key_words n e = words_at-same m n e.offset (packed_len e.key) mn in record {
  stands = words_at-same s r e.offset (packed_len e.key) sr ∙ h.stands ∙ sym words;
  packs = rw words h.packs;
}

-- a pointer stands in its record, behind the key
pub pointer-in : (j : ℕ) (k : Meta) → IsInnerRecord j k → (payload_at (extent_of k) < (extent_of k).offset + weight k) × ((extent_of k).offset + packed_len (extent_of k).key ≤ payload_at (extent_of k))
pointer-in j k h = (omega (arith, h.pointer), omega arith)

module _ (nodes : ℕ) (r n : ℕ → ℕ) (l : ℕ) (lo hi : Option (List ℕ)) (w : WholeInner nodes r (page n) l lo hi) where
  pub pointer-low : (j : ℕ) → j < (page n).count → META_AT + (page n).count ≤ pointer_at (page n) j
  pointer-low j lj = omega (arith, w.filled.room, (w.inside j lj).starts)

  -- no word of a key is one of a pointer
  pub key-no-pointer : (i j k : ℕ) → i < (page n).count → j < (page n).count → (extent_of ((page n).meta j)).offset ≤ k → k < (extent_of ((page n).meta j)).offset + packed_len (extent_of ((page n).meta j)).key → k ≢ pointer_at (page n) i
  key-no-pointer i j k li lj a b e = elim (cases_eq j i) [
    | inl q ↦ absurd (omega (arith, ap (λ x. pointer_at (page n) x) q))
    | inr ne ↦ elim (w.apart j i lj li ne) [
      | inl d ↦ absurd (omega (arith, d, e, b, (pointer-in j ((page n).meta j) (w.lengths j lj)).0, (pointer-in i ((page n).meta i) (w.lengths i li)).1))
      | inr d ↦ absurd (omega (arith, d, e, a, (pointer-in i ((page n).meta i) (w.lengths i li)).0))
    ]
  ]

  pub pointers-differ : (i j : ℕ) → i < (page n).count → j < (page n).count → i ≢ j → pointer_at (page n) i ≢ pointer_at (page n) j
  pointers-differ i j li lj ne e = elim (w.apart i j li lj ne) [
    | inl d ↦ absurd (omega (arith, d, e, (pointer-in i ((page n).meta i) (w.lengths i li)).0))
    | inr d ↦ absurd (omega (arith, d, e, (pointer-in j ((page n).meta j) (w.lengths j lj)).0))
  ]

  pub stands-inner : (s : ℕ → ℕ) → ((k : ℕ) → META_AT + (page n).count ≤ k → ((j : ℕ) → j < (page n).count → k ≢ pointer_at (page n) j) → s k ≡ r k) → (j : ℕ) → j < (page n).count → AgreeKey s r (extent_of ((page n).meta j))
  stands-inner s h j lj k a b = h k (omega (arith, w.filled.room, (w.inside j lj).starts)) (λ i li. key-no-pointer i j k li lj a b)

  module _ (s m : ℕ → ℕ) (i c : ℕ) (x : PointerSwap nodes r s n m i c) where
    front : SameFront n m
    front k a b = x.others k (λ e. absurd (omega arith)) (λ e. absurd (omega (arith, pointer-low i x.inside)))

    pub meta-stays : (j : ℕ) → j < (page n).count → (page m).meta j ≡ (page n).meta j
    meta-stays j lj = ap meta_of (x.others (META_AT + j) (λ e. absurd (omega arith)) (λ e. absurd (omega (arith, pointer-low i x.inside))))

    agree : (j : ℕ) → j < (page n).count → AgreeKey m n (extent_of ((page n).meta j))
    agree j lj k a b = x.others k (λ e. absurd (omega (arith, w.filled.room, (w.inside j lj).starts))) (key-no-pointer i j k x.inside lj a b)

    pub key-stays : (j : ℕ) → j < (page n).count → key_at (page m) j ≡ key_at (page n) j
    key-stays j lj = ap (λ t. key_in m (extent_of t)) (meta-stays j lj) ∙ ap (unpacked (extent_of ((page n).meta j)).key) (words_at-same m n (extent_of ((page n).meta j)).offset (packed_len (extent_of ((page n).meta j)).key) (agree j lj))

    pub pointer-stays : (j : ℕ) → j < (page n).count → pointer_at (page m) j ≡ pointer_at (page n) j
    pointer-stays j lj = ap (λ t. payload_at (extent_of t)) (meta-stays j lj)

    pub pointer-new : m (pointer_at (page m) i) ≡ c + 1
    pointer-new = ap m (pointer-stays i x.inside) ∙ x.new

    pub pointer-other : (j : ℕ) → j < (page n).count → j ≢ i → m (pointer_at (page m) j) ≡ n (pointer_at (page n) j)
    pointer-other j lj ne = ap m (pointer-stays j lj) ∙ x.others (pointer_at (page n) j) (λ e. absurd (omega (arith, pointer-low j lj))) (pointers-differ j i lj x.inside ne)

    old : (j : ℕ) → j < (page m).count → j < (page n).count
    old j lj = omega (arith, x.count)

    links : (j : ℕ) → j < (page m).count → IsPointer nodes (m (pointer_at (page m) j))
    links j lj = elim (cases_eq j i) [
      | inl e ↦ subst (λ t. IsPointer nodes (m (pointer_at (page m) t))) (sym e) (rw pointer-new (record { some = omega arith; slot = omega (arith, x.slot) }))
      | inr ne ↦ rw (pointer-other j (old j lj) ne) (w.links j (old j lj))
    ]

    filled : IsFilled (page m)
    filled = record {
      status = x.status;
      room = omega (arith, w.filled.room, x.count, x.block);
      sorted = omega (arith, w.filled.sorted, sorted-same n m front, x.count);
      free = λ k a b. x.others k (λ e. absurd (omega arith)) (λ e. absurd (omega (arith, (w.inside i x.inside).starts, x.block, x.count))) ∙ w.filled.free k (omega (arith, x.count)) (omega (arith, x.block));
      dead = omega (arith, x.dead, x.block, w.filled.dead, live_block-same (page m).meta (page n).meta (page n).count meta-stays, ap (live_block (page m).meta) x.count);
    }

    pub whole-stays : WholeInner nodes s (page m) l lo hi
    whole-stays = record {
      level = level-stays n m l front w.level;
      fences = fences-stay n m lo hi front w.fences;
      filled = filled;
      settled = record { thawed = x.thawed; some = omega (arith, w.settled.some, x.count); none_dead = omega (arith, w.settled.none_dead, x.dead); all_sorted = omega (arith, w.settled.all_sorted, sorted-same n m front, x.count) };
      shows = λ j lj. rw (meta-stays j (old j lj)) (w.shows j (old j lj));
      lengths = λ j lj. rw (meta-stays j (old j lj)) (w.lengths j (old j lj));
      inside = λ j lj. let b = w.inside j (old j lj) in rw (meta-stays j (old j lj)) (record { starts = omega (arith, b.starts, x.block); ends = b.ends });
      apart = λ a b la lb ne. rw (meta-stays a (old a la), meta-stays b (old b lb)) (w.apart a b (old a la) (old b lb) ne);
      key = λ j pos lj. rw (meta-stays j (old j lj)) (plain_key-kept r s n m (extent_of ((page n).meta j)) (stands-inner s x.raw j (old j lj)) (agree j (old j lj)) (w.key j pos (old j lj)));
      rise = λ a b less lb. rw (key-stays a (old a (omega arith)), key-stays b (old b lb)) (w.rise a b less (old b lb));
      above = λ j pos lj. rw (key-stays j (old j lj)) (w.above j pos (old j lj));
      below = λ j pos lj. rw (key-stays j (old j lj)) (w.below j pos (old j lj));
      links = links;
    }
