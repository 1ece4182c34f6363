-- The live words of a leaf, told by its metadata words, and with one of them another.
use Rattle.std.proofs.Common.{◌≡◌, ◌≢◌, ℕ, zero, suc, ◌+◌, ◌<◌, ◌≤◌, if◌then◌else◌, Bool, true, false, arith, refl, sym, ap, inl, inr}
use Rattle.std.proofs.lemmas.Bool.{cases_eq}
use Rattle.bz_layout.specs.declared.thresholds.TheConstants.{LEAF_RECORD_WORDS}
use Rattle.bz_slotted.specs.Page.{visible}
use Rattle.bz_slotted.specs.Records.{weight, live_block, live_to}
use Rattle.bz_slotted.specs.Whole.{IsLeafRecord}
use Rattle.bz_word.specs.declared.meta.Meta.{Meta}

pub live-same : (f g : ℕ → Meta) (n : ℕ) → ((j : ℕ) → j < n → f j ≡ g j) → live_to f n ≡ live_to g n
unfolding live_to
live-same f g zero h = refl
live-same f g (suc n) h = λ t. live-same f g n (λ j l. h j (omega arith)) t + (if visible (h n (omega arith) t) then 1 + weight (h n (omega arith) t) else 0)

-- one record has no more live words than it has words
live-of-one : (m : Meta) → (if visible m then 1 + weight m else 0) ≤ 1 + weight m
live-of-one m = go (visible m)
  where
    go : (t : Bool) → (if t then 1 + weight m else 0) ≤ 1 + weight m
    go true = omega arith
    go false = omega arith

-- with another at one place no more are gone than the words of the one that was there
pub live-put : (f g : ℕ → Meta) (j n most : ℕ) → ((i : ℕ) → i < n → i ≢ j → f i ≡ g i) → 1 + weight (f j) ≤ most → live_to f n ≤ live_to g n + most
unfolding live_to
live-put f g j zero most h l = omega arith
live-put f g j (suc n) most h l = elim (cases_eq j n) [
  | inl e ↦
      let below : live_to f n ≡ live_to g n = live-same f g n (λ i less. h i (omega arith) (λ q. absurd (omega arith))) in
      let one : (if visible (f j) then 1 + weight (f j) else 0) ≤ 1 + weight (f j) = live-of-one (f j) in
      omega (arith, below, one, l, ap (λ i. if visible (f i) then 1 + weight (f i) else 0) e)
  | inr ne ↦
      let below : live_to f n ≤ live_to g n + most = live-put f g j n most (λ i less. h i (omega arith)) l in
      omega (arith, below, ap (λ (m : Meta). if visible m then 1 + weight m else 0) (h n (omega arith) (λ q. ne (sym q))))
]

-- a record of a leaf has no more words than this
pub record-fits : (m : Meta) → IsLeafRecord m → 1 + weight m ≤ LEAF_RECORD_WORDS
record-fits m l = omega (arith, l.short, l.payload)

-- with their metadata words they are no fewer than without
pub block-live : (f : ℕ → Meta) (n : ℕ) → live_block f n ≤ live_to f n
unfolding live_to live_block
block-live f zero = omega arith
block-live f (suc n) = go (visible (f n)) (block-live f n)
  where
    go : (t : Bool) → live_block f n ≤ live_to f n → live_block f n + (if t then weight (f n) else 0) ≤ live_to f n + (if t then 1 + weight (f n) else 0)
    go true h = omega (arith, h)
    go false h = omega (arith, h)
