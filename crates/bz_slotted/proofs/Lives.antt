-- Live words, told by the metadata words, and with one of them another.
use Rattle.std.proofs.Common.{◌≡◌, ◌≢◌, ℕ, zero, suc, ◌+◌, ◌<◌, ◌≤◌, if◌then◌else◌, Bool, true, false, arith, refl, sym, ap, inl, inr}
use Rattle.std.proofs.lemmas.Bool.{cases_eq}
use Rattle.bz_word.specs.declared.meta.Meta.{Meta}
use Rattle.bz_slotted.specs.Page.{visible}
use Rattle.bz_slotted.specs.Records.{weight, shown, live_block, live_to}

pub live_block-same : (a b : ℕ → Meta) (n : ℕ) → ((i : ℕ) → i < n → a i ≡ b i) → live_block a n ≡ live_block b n
unfolding live_block
live_block-same a b zero h = refl
live_block-same a b (suc n) h = rw (live_block-same a b n (λ i l. h i (omega arith)), h n (omega arith)) refl

pub live_block-put : (a b : ℕ → Meta) (j n : ℕ) (m : Meta) → ((i : ℕ) → i < n → i ≢ j → b i ≡ a i) → b j ≡ m → j < n → live_block b n + shown (a j) ≡ live_block a n + shown m
unfolding live_block
live_block-put a b j zero m h at l = absurd (omega arith)
live_block-put a b j (suc n) m h at l = elim (cases_eq j n) [
  | inl e ↦ let below : live_block b n ≡ live_block a n = live_block-same b a n (λ i less. h i (omega arith) (λ q. absurd (omega arith))) in
      omega (arith, below, ap shown at, ap (λ x. shown (a x)) e, ap (λ x. shown (b x)) e)
  | inr ne ↦ let ih : live_block b n + shown (a j) ≡ live_block a n + shown m = live_block-put a b j n m (λ i less. h i (omega arith)) at (omega arith) in
      let same : b n ≡ a n = h n (omega arith) (λ q. ne (sym q)) in omega (arith, ih, ap shown same)
]

-- with their metadata words they are at most all metadata words more
pub live_to-le : (meta : ℕ → Meta) (n : ℕ) → live_to meta n ≤ n + live_block meta n
unfolding live_to live_block
live_to-le meta zero = omega arith
live_to-le meta (suc n) = go (visible (meta n)) refl (live_to-le meta n)
  where
    go : (b : Bool) → visible (meta n) ≡ b → live_to meta n ≤ n + live_block meta n → live_to meta n + (if b then 1 + weight (meta n) else 0) ≤ suc n + (live_block meta n + (if b then weight (meta n) else 0))
    go true e h = omega arith
    go false e h = omega arith
