-- Separators and the places of child pointers stay, so the child of a key is the same one.
use Rattle.std.proofs.Common.{◌≡◌, ◌≢◌, ℕ, ◌+◌, ◌<◌, true, List, arith, refl, sym, ap, ◌∙◌, inl, inr}
use Rattle.std.specs.Prelude.{nat_lt}
use Rattle.std.proofs.lemmas.Bool.{cases_eq}
use Rattle.std.proofs.lemmas.Bool.Decides.{nat_tests}
use Rattle.bz_key.specs.Packing.{packed_len, unpacked}
use Rattle.bz_layout.specs.declared.sizes.TheConstants.{META_AT}
use Rattle.bz_node.specs.Reading.{payload_at}
use Rattle.bz_tree.specs.Order.{is_before}
use Rattle.bz_slotted.specs.Page.{meta_of, extent_of, page}
use Rattle.bz_slotted.specs.Readers.{key_of}
use Rattle.bz_slotted.specs.Records.{key_words, key_at, pointer_at}
use Rattle.bz_task.specs.Shown.{SameRecords, SameSeparators}
use Rattle.bz_descend.specs.Ways.{Chooses}
use Rattle.bz_descend.specs.Inners.{IsInner}
use Rattle.bz_descend.proofs.Inners.{words_at-same}

-- an inner node that is the same but for its status has its separators
pub records-separators : (n m : ℕ → ℕ) → 0 < (page n).level → SameRecords n m → SameSeparators n m
records-separators n m inner s = record {
  count = s.count;
  block = s.block;
  front = λ i ne l. s.words i ne (inl l);
  words = λ i l no. s.words i (λ e. omega (arith, e, l)) (inr (inr (inl inner)));
}

pub key-is : (n : ℕ → ℕ) (j : ℕ) → j < (page n).count → key_of n j ≡ key_at (page n) j
unfolding key_of
key-is n j l = let t : nat_lt j (page n).count ≡ true = grind (arith, nat_tests) in rw t refl

-- a word of a record's key is no pointer
no-pointer : (n : ℕ → ℕ) → IsInner n → (i j t : ℕ) → i < (page n).count → j < (page n).count → t < packed_len (extent_of ((page n).meta j)).key → (extent_of ((page n).meta j)).offset + t ≢ pointer_at (page n) i
no-pointer n w i j t a b l e = elim (cases_eq i j) [
  | inl same ↦ omega (arith, l, e ∙ ap (pointer_at (page n)) same)
  | inr other ↦ elim (w.apart j i b a (λ q. other (sym q))) [
    | inl before ↦ omega (arith, l, e, before)
    | inr after ↦ omega (arith, e, after, (w.lengths i a).pointer)
  ]
]

module _ (n m : ℕ → ℕ) (w : IsInner n) (s : SameSeparators n m) where
  pub meta-kept : (j : ℕ) → j < (page n).count → (page m).meta j ≡ (page n).meta j
  meta-kept j l = ap meta_of (s.front (META_AT + j) (λ e. omega (arith, e)) (omega (arith, l)))

  pub pointer-kept : (j : ℕ) → j < (page n).count → pointer_at (page m) j ≡ pointer_at (page n) j
  pointer-kept j l = ap (λ z. payload_at (extent_of z)) (meta-kept j l)

  pub word-kept : (j t : ℕ) → j < (page n).count → t < packed_len (extent_of ((page n).meta j)).key → m ((extent_of ((page n).meta j)).offset + t) ≡ n ((extent_of ((page n).meta j)).offset + t)
  word-kept j t c l = s.words ((extent_of ((page n).meta j)).offset + t) (omega (arith, (w.inside j c).starts, w.room)) (λ i d e. no-pointer n w i j t d c l e)

  pub key-kept : (j : ℕ) → j < (page n).count → key_of m j ≡ key_of n j
  key-kept j l =
      key-is m j (omega (arith, l, s.count))
      ∙ (ap (λ z. unpacked (extent_of z).key (key_words m (extent_of z))) (meta-kept j l)
      ∙ (ap (unpacked (extent_of ((page n).meta j)).key) (words_at-same m n (extent_of ((page n).meta j)).offset (packed_len (extent_of ((page n).meta j)).key) (λ t d. word-kept j t l d))
      ∙ sym (key-is n j l)))

  pub chooses-later : (key : List ℕ) (i : ℕ) → Chooses key n i → Chooses key m i
  chooses-later key i h = record {
    counted = omega (arith, h.counted, s.count);
    from = λ p. ap (is_before key) (key-kept i h.counted) ∙ h.from p;
    to = λ p. let l : i + 1 < (page n).count = omega (arith, p, s.count) in ap (is_before key) (key-kept (i + 1) l) ∙ h.to l;
  }

  pub chooses-earlier : (key : List ℕ) (i : ℕ) → Chooses key m i → Chooses key n i
  chooses-earlier key i h = let c : i < (page n).count = omega (arith, h.counted, s.count) in record {
    counted = c;
    from = λ p. ap (is_before key) (sym (key-kept i c)) ∙ h.from p;
    to = λ p. ap (is_before key) (sym (key-kept (i + 1) p)) ∙ h.to (omega (arith, p, s.count));
  }
