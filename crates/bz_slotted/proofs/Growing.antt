-- A leaf of which the status alone changes, or words that no visible record holds, is whole and answers alike.
use Rattle.std.proofs.Common.{◌≡◌, ℕ, ◌+◌, ◌^◌, ◌<◌, ◌≤◌, true, List, arith, sym, ap, ◌∙◌, Option}
use Rattle.bz_layout.specs.declared.sizes.TheConstants.{NODE_WORDS, STATUS_AT, META_AT, SHARED_WORDS}
use Rattle.bz_word.specs.Statuses.{status}
use Rattle.bz_slotted.specs.Changes.{Grows, Restamps, StoresBeside}
use Rattle.bz_slotted.specs.Page.{meta_of, visible, extent_of, page}
use Rattle.bz_slotted.specs.Records.{key_in, key_at, live_block}
use Rattle.bz_slotted.specs.Whole.{Whole}
use Rattle.bz_slotted.proofs.Faults.{held-visible}
use Rattle.bz_slotted.proofs.Fronts.{SameFront, sorted-same, level-stays, fences-stay}
use Rattle.bz_slotted.proofs.Lives.{live_block-same}
use Rattle.bz_slotted.proofs.Words.{Agree, key-same, plain_key-same, plain_payload-same}

-- front, metadata words and visible records are as they were; block and delete size grew alike
pub record Stays (r s n m : ℕ → ℕ) (words : ℕ) : Type 0 where
  pub front : SameFront n m
  pub status : m STATUS_AT < 2 ^ 61
  pub count : (page m).count ≡ (page n).count
  pub block : (page m).block ≡ (page n).block + words
  pub dead : (page m).dead ≡ (page n).dead + words
  pub room : (page n).count + (page n).block + words ≤ SHARED_WORDS
  pub metas : (j : ℕ) → j < (page n).count → (page m).meta j ≡ (page n).meta j
  pub free : (i : ℕ) → META_AT + (page n).count ≤ i → i + (page n).block < NODE_WORDS → m i ≡ n i
  pub agree : (j : ℕ) → j < (page n).count → visible ((page n).meta j) ≡ true → Agree m n (extent_of ((page n).meta j))
  pub agree_raw : (j : ℕ) → j < (page n).count → visible ((page n).meta j) ≡ true → Agree s r (extent_of ((page n).meta j))

pub stays-whole : (r s n m : ℕ → ℕ) (lo hi : Option (List ℕ)) (words : ℕ) → Whole r (page n) lo hi → Stays r s n m words → Whole s (page m) lo hi
stays-whole r s n m lo hi words h c = record {
  level = level-stays n m 0 c.front h.level;
  fences = fences-stay n m lo hi c.front h.fences;
  filled = record {
    status = c.status;
    room = omega (arith, c.room, c.count, c.block);
    sorted = omega (arith, h.filled.sorted, sorted-same n m c.front, c.count);
    free = λ i a b. c.free i (omega (arith, c.count)) (omega (arith, c.block)) ∙ h.filled.free i (omega (arith, c.count)) (omega (arith, c.block));
    dead = omega (arith, c.dead, c.block, h.filled.dead, live_block-same (page m).meta (page n).meta (page n).count c.metas, ap (live_block (page m).meta) c.count);
  };
  used = λ j l. rw (c.metas j (old j l)) (h.used j (old j l));
  lengths = λ j l. rw (c.metas j (old j l)) (h.lengths j (old j l));
  inside = λ j l hl. let x = h.inside j (old j l) (rw (c.metas j (old j l)) at hl) in rw (c.metas j (old j l)) (record { starts = omega (arith, x.starts, c.block); ends = x.ends });
  apart = λ i j li lj ne hi hj. rw (c.metas i (old i li), c.metas j (old j lj)) (h.apart i j (old i li) (old j lj) ne (rw (c.metas i (old i li)) at hi) (rw (c.metas j (old j lj)) at hj));
  key = λ j l v. let o = old j l in let vo : visible ((page n).meta j) ≡ true = rw (c.metas j o) at v in rw (c.metas j o) (plain_key-same r s n m (extent_of ((page n).meta j)) (c.agree_raw j o vo) (c.agree j o vo) (h.key j o vo));
  payload = λ j l v. let o = old j l in let vo : visible ((page n).meta j) ≡ true = rw (c.metas j o) at v in rw (c.metas j o) (plain_payload-same r s n m (extent_of ((page n).meta j)) (c.agree_raw j o vo) (c.agree j o vo) (h.payload j o vo));
  order = λ i j less l vi vj. let oj : j < (page n).count = omega (arith, sorted-same n m c.front, h.filled.sorted) in let oi : i < (page n).count = omega arith in
      rw (key i oi vi, key j oj vj) (h.order i j less (omega (arith, sorted-same n m c.front)) (rw (c.metas i oi) at vi) (rw (c.metas j oj) at vj));
  range = λ j l v. rw (key j (old j l) v) (h.range j (old j l) (rw (c.metas j (old j l)) at v));
  distinct = λ i j li lj ne vi vj same. h.distinct i j (old i li) (old j lj) ne (rw (c.metas i (old i li)) at vi) (rw (c.metas j (old j lj)) at vj) (sym (key i (old i li) vi) ∙ same ∙ key j (old j lj) vj);
}
  where
    old : (j : ℕ) → j < (page m).count → j < (page n).count
    old j l = omega (arith, c.count)

    key : (j : ℕ) → j < (page n).count → visible ((page m).meta j) ≡ true → key_at (page m) j ≡ key_at (page n) j
    key j l v = ap (λ x. key_in m (extent_of x)) (c.metas j l) ∙ key-same m n (extent_of ((page n).meta j)) (c.agree j l (rw (c.metas j l) at v))

pub grown : (r s n m : ℕ → ℕ) (lo hi : Option (List ℕ)) (words : ℕ) → Whole r (page n) lo hi → Grows r s n m words → Stays r s n m words
grown r s n m lo hi words h c = record {
  front = λ i a b. c.others i (λ e. absurd (omega arith));
  status = c.status;
  count = c.count;
  block = c.block;
  dead = c.dead;
  room = c.room;
  metas = λ j l. ap meta_of (c.others (META_AT + j) (λ e. absurd (omega arith)));
  free = λ i a b. c.others i (λ e. absurd (omega arith));
  agree = λ j l v k a b. let x = h.inside j l (held-visible ((page n).meta j) v) in c.others k (λ e. absurd (omega (arith, x.starts, h.filled.room)));
  agree_raw = λ j l v k a b. let x = h.inside j l (held-visible ((page n).meta j) v) in c.raw k (omega (arith, x.starts, h.filled.room));
}

pub restamped : (r s n m : ℕ → ℕ) (lo hi : Option (List ℕ)) → Whole r (page n) lo hi → Restamps r s n m → Grows r s n m 0
restamped r s n m lo hi h c = record {
  others = c.others;
  raw = c.raw;
  status = c.status;
  count = c.count;
  block = omega (arith, c.block);
  dead = omega (arith, c.dead);
  room = omega (arith, h.filled.room);
}

pub stored : (r s n m : ℕ → ℕ) (lo hi : Option (List ℕ)) → Whole r (page n) lo hi → StoresBeside r s n m → Stays r s n m 0
stored r s n m lo hi h c = let st : m STATUS_AT ≡ n STATUS_AT = c.others STATUS_AT (omega (arith, h.filled.room)) in record {
  front = λ i a b. c.others i (omega (arith, h.filled.room));
  status = rw st h.filled.status;
  count = ap (λ x. (status x).count) st;
  block = omega (arith, ap (λ x. (status x).block) st);
  dead = omega (arith, ap (λ x. (status x).dead) st);
  room = omega (arith, h.filled.room);
  metas = λ j l. ap meta_of (c.others (META_AT + j) (omega (arith, h.filled.room)));
  free = λ i a b. c.others i b;
  agree = λ j l v k a b. (c.records j k l v a b).0;
  agree_raw = λ j l v k a b. (c.records j k l v a b).1;
}
