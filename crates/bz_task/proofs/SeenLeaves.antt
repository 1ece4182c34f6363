-- Words that are those of a leaf to its readers are a leaf by themselves.
use Rattle.std.proofs.Common.{◌≡◌, ℕ, zero, suc, ◌+◌, ◌^◌, ◌<◌, ◌≤◌, ◌&&◌, if◌then◌else◌, Bool, true, false, List, arith, refl, sym, ap, subst, ◌∙◌, inl, inr, Option}
use Rattle.std.specs.Prelude.{bytes_eq, Some, None, IsSome}
use Rattle.bz_call.specs.FromKey.Packing.{packed_len, unpacked, unpacked_key, unpacked_payload}
use Rattle.bz_call.proofs.FromKey.UnpackingLaws.{unpacked_key-sound}
use Rattle.bz_layout.specs.declared.sizes.TheConstants.{STATUS_AT, HEADER_AT, LOW_FENCE_AT, HIGH_FENCE_AT, META_AT, FENCE_WORDS}
use Rattle.bz_content.specs.FromSlotted.Reading.{payload_at, payload_len}
use Rattle.bz_content.specs.FromSlotted.Page.{words_at, visible, held, used, extent_of, page}
use Rattle.bz_content.specs.FromSlotted.Readers.{found_of}
use Rattle.bz_content.specs.FromSlotted.Records.{key_words, payload_words, key_in, payload_in, key_at, weight, live_block, search_to}
use Rattle.bz_content.specs.FromSlotted.Whole.{Whole, IsFence, IsInBlock, IsLeafRecord, IsPlainKey, IsPlainPayload}
use Rattle.bz_content.proofs.FromSlotted.Proved.{leaf_rules_are_facts}
use Rattle.bz_word.specs.Headers.{header}
use Rattle.bz_word.specs.Statuses.{status}
use Rattle.bz_word.specs.declared.meta.Meta.{Meta}
use Rattle.bz_task.specs.Laws.{SeenLeavesAreWhole}
use Rattle.bz_task.specs.Shown.{SameWords}
use Rattle.bz_task.proofs.Ranges.{words_at-same}
use Rattle.bz_task.proofs.Sames.{front-shown, SamePlaces, words-places, status-same}

live-same : (f g : ℕ → Meta) (n : ℕ) → ((j : ℕ) → j < n → g j ≡ f j) → live_block g n ≡ live_block f n
unfolding live_block
live-same f g zero h = refl
live-same f g (suc n) h = rw (h n (omega arith), live-same f g n (λ j l. h j (omega arith))) refl

search-same : (n m : ℕ → ℕ) (f g : ℕ → Meta) (key : List ℕ) (count : ℕ) → ((j : ℕ) → j < count → g j ≡ f j)
    → ((j : ℕ) → j < count → visible (f j) ≡ true → (key_in m (extent_of (f j)) ≡ key_in n (extent_of (f j))) × (payload_in m (extent_of (f j)) ≡ payload_in n (extent_of (f j))))
    → search_to m g key count ≡ search_to n f key count
unfolding search_to
search-same n m f g key zero h r = refl
search-same n m f g key (suc k) h r = go (visible (f k)) refl (search-same n m f g key k (λ j l. h j (omega arith)) (λ j l. r j (omega arith)))
  where
    go : (b : Bool) → visible (f k) ≡ b → search_to m g key k ≡ search_to n f key k
        → (if visible (g k) && bytes_eq (key_in m (extent_of (g k))) key then Some (payload_in m (extent_of (g k))) else search_to m g key k)
        ≡ (if visible (f k) && bytes_eq (key_in n (extent_of (f k))) key then Some (payload_in n (extent_of (f k))) else search_to n f key k)
    go true v rest = rw (h k (omega arith), (r k (omega arith) v).0, (r k (omega arith) v).1, rest) refl
    go false v rest = rw (h k (omega arith), v, rest) refl

module _ (raw n m : ℕ → ℕ) (lo hi : Option (List ℕ)) (w : Whole raw (page n) lo hi) (s : SameWords n m) where
  places : SamePlaces n m
  places = words-places n m s

  st : m STATUS_AT ≡ n STATUS_AT
  st = status-same n m s

  hd : m HEADER_AT ≡ n HEADER_AT
  hd = s HEADER_AT (front-shown n HEADER_AT (omega arith))

  -- a word of a visible record
  word : (j : ℕ) → j < (page n).count → visible ((page n).meta j) ≡ true → (i : ℕ) → (extent_of ((page n).meta j)).offset ≤ i → i < (extent_of ((page n).meta j)).offset + weight ((page n).meta j) → m i ≡ n i
  word j l v i from to = s i (inr (inr (inr (j, record { counted = l; visible = v; from = from; to = to }))))

  keys : (j : ℕ) → j < (page n).count → visible ((page n).meta j) ≡ true → key_words m (extent_of ((page n).meta j)) ≡ key_words n (extent_of ((page n).meta j))
  keys j l v = words_at-same m n (extent_of ((page n).meta j)).offset (packed_len (extent_of ((page n).meta j)).key) (λ i a b. word j l v i a (omega (arith, b)))

  payloads : (j : ℕ) → j < (page n).count → visible ((page n).meta j) ≡ true → payload_words m (extent_of ((page n).meta j)) ≡ payload_words n (extent_of ((page n).meta j))
  payloads j l v = words_at-same m n (payload_at (extent_of ((page n).meta j))) (packed_len (payload_len (extent_of ((page n).meta j)))) (λ i a b. word j l v i (omega (arith, a)) (omega (arith, b)))

  key-same : (j : ℕ) → j < (page n).count → visible ((page n).meta j) ≡ true → key_in m (extent_of ((page n).meta j)) ≡ key_in n (extent_of ((page n).meta j))
  key-same j l v = ap (unpacked (extent_of ((page n).meta j)).key) (keys j l v)

  payload-same : (j : ℕ) → j < (page n).count → visible ((page n).meta j) ≡ true → payload_in m (extent_of ((page n).meta j)) ≡ payload_in n (extent_of ((page n).meta j))
  payload-same j l v = ap (unpacked (payload_len (extent_of ((page n).meta j)))) (payloads j l v)

  metas : (j : ℕ) → j < (page n).count → (page m).meta j ≡ (page n).meta j
  metas = places.meta

  here : (j : ℕ) → j < (page m).count → j < (page n).count
  here j l = omega (arith, l, places.count)

  -- a fact of each metadata word
  each : (P : Meta → Type 0) → ((j : ℕ) → j < (page n).count → P ((page n).meta j)) → (j : ℕ) → j < (page m).count → P ((page m).meta j)
  each P h j l = subst P (sym (metas j (here j l))) (h j (here j l))

  seen : (j : ℕ) → j < (page m).count → visible ((page m).meta j) ≡ true → visible ((page n).meta j) ≡ true
  seen j l v = subst (λ x. visible x ≡ true) (metas j (here j l)) v

  key-at : (j : ℕ) → j < (page m).count → visible ((page m).meta j) ≡ true → key_at (page m) j ≡ key_at (page n) j
  key-at j l v = ap (λ x. key_in m (extent_of x)) (metas j (here j l)) ∙ key-same j (here j l) (seen j l v)

  fence : (at len : ℕ) (bound : Option (List ℕ)) → at + FENCE_WORDS ≤ META_AT → IsFence n at len bound → IsFence m at len bound
  fence at len None short f = (f.0, λ i l. s (at + i) (front-shown n (at + i) (omega (arith, short, l))) ∙ f.1 i l)
  fence at len (Some key) short f =
      let u = unpacked_key-sound len (words_at n at (packed_len len)) key f in
      ap (unpacked_key len) (words_at-same m n at (packed_len len) (λ i a b. s i (front-shown n i (omega (arith, b, u.0.fits, u.1, short))))) ∙ f

  held-in : (j : ℕ) → j < (page n).count → held ((page n).meta j) ≡ true → IsInBlock (page m) ((page n).meta j)
  held-in j l h = let i = w.inside j l h in record { starts = omega (arith, i.starts, places.block); ends = i.ends }

  whole : Whole m (page m) lo hi
  whole = record {
    level = record { header = subst (λ z. z < 2 ^ 32) (sym hd) w.level.header; level = places.level ∙ w.level.level; lowest = w.level.lowest };
    fences = record {
      low = fence LOW_FENCE_AT (page m).low lo (omega arith) (subst (λ z. IsFence n LOW_FENCE_AT z lo) (ap (λ z. (header z).low) (sym hd)) w.fences.low);
      high = fence HIGH_FENCE_AT (page m).high hi (omega arith) (subst (λ z. IsFence n HIGH_FENCE_AT z hi) (ap (λ z. (header z).high) (sym hd)) w.fences.high);
    };
    filled = record {
      status = subst (λ z. z < 2 ^ 61) (sym st) w.filled.status;
      room = omega (arith, w.filled.room, places.count, places.block);
      sorted = omega (arith, w.filled.sorted, places.count, ap (λ z. (header z).sorted) hd);
      free = λ i a b. s i (inr (inl (omega (arith, b, places.block)))) ∙ w.filled.free i (omega (arith, a, places.count)) (omega (arith, b, places.block));
      dead = ap (λ z. (status z).dead + live_block (page m).meta (page m).count) st
          ∙ (ap (λ z. (page n).dead + z) (ap (live_block (page m).meta) places.count ∙ live-same (page n).meta (page m).meta (page n).count metas) ∙ (w.filled.dead ∙ sym places.block));
    };
    used = each (λ x. used x ≡ true) w.used;
    lengths = each IsLeafRecord w.lengths;
    inside = each (λ x. held x ≡ true → IsInBlock (page m) x) held-in;
    apart = λ i j a b ne h k. rw (metas i (here i a), metas j (here j b)) (w.apart i j (here i a) (here j b) ne (rw (metas i (here i a)) at h) (rw (metas j (here j b)) at k));
    key = each (λ x. visible x ≡ true → IsPlainKey m m (extent_of x)) (λ j l v. record { stands = refl; packs = subst (λ z. IsSome (unpacked_key (extent_of ((page n).meta j)).key z)) (sym (keys j l v)) (w.key j l v).packs });
    payload = each (λ x. visible x ≡ true → IsPlainPayload m m (extent_of x)) (λ j l v. record { stands = refl; packs = subst (λ z. IsSome (unpacked_payload (payload_len (extent_of ((page n).meta j))) z)) (sym (payloads j l v)) (w.payload j l v).packs });
    order = λ i j a b vi vj.
        let lj : j < (page m).count = omega (arith, b, ap (λ z. (header z).sorted) hd, w.filled.sorted, places.count) in
        let li : i < (page m).count = omega (arith, a, lj) in
        rw (key-at i li vi, key-at j lj vj) (w.order i j a (omega (arith, b, ap (λ z. (header z).sorted) hd)) (seen i li vi) (seen j lj vj));
    range = λ j l v. rw (key-at j l v) (w.range j (here j l) (seen j l v));
    distinct = λ i j a b ne vi vj e. w.distinct i j (here i a) (here j b) ne (seen i a vi) (seen j b vj) (sym (key-at i a vi) ∙ (e ∙ key-at j b vj));
  }

  says : (key : List ℕ) → found_of m key ≡ found_of n key
  unfolding found_of
  says key = ap (search_to m (page m).meta key) places.count ∙ search-same n m (page n).meta (page m).meta key (page n).count metas (λ j l v. (key-same j l v, payload-same j l v))

pub seen-whole : SeenLeavesAreWhole
seen-whole nodes raw n m lo hi e s =
    let w : Whole raw (page n) lo hi = (leaf_rules_are_facts nodes raw n lo hi).0 e in
    record { whole = (leaf_rules_are_facts nodes m m lo hi).1 (whole raw n m lo hi w s); found = says raw n m lo hi w s }
