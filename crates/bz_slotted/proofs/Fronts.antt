-- Level and fences of a node whose words before the metadata, but the status, are as they were.
use Rattle.std.proofs.Common.{◌≡◌, ℕ, ◌<◌, ◌≤◌, List, arith, ap, ◌∙◌, Option}
use Rattle.bz_layout.specs.declared.sizes.TheConstants.{HEADER_AT, LOW_FENCE_AT, HIGH_FENCE_AT, META_AT}
use Rattle.bz_word.specs.Headers.{header}
use Rattle.bz_slotted.specs.Page.{page}
use Rattle.bz_slotted.specs.Whole.{IsAtLevel, HasFences}
use Rattle.bz_slotted.proofs.Words.{fence-same}

abbrev pub SameFront : (n m : ℕ → ℕ) → Type 0
SameFront n m = (i : ℕ) → HEADER_AT ≤ i → i < META_AT → m i ≡ n i

header-same : (n m : ℕ → ℕ) → SameFront n m → m HEADER_AT ≡ n HEADER_AT
header-same n m h = h HEADER_AT (omega arith) (omega arith)

pub sorted-same : (n m : ℕ → ℕ) → SameFront n m → (page m).sorted ≡ (page n).sorted
sorted-same n m h = ap (λ x. (header x).sorted) (header-same n m h)

pub level-stays : (n m : ℕ → ℕ) (l : ℕ) → SameFront n m → IsAtLevel (page n) l → IsAtLevel (page m) l
level-stays n m l h w = record { header = rw (header-same n m h) w.header; level = ap (λ x. (header x).level) (header-same n m h) ∙ w.level; lowest = w.lowest }

pub fences-stay : (n m : ℕ → ℕ) (lo hi : Option (List ℕ)) → SameFront n m → HasFences (page n) lo hi → HasFences (page m) lo hi
fences-stay n m lo hi h w = record {
  low = rw (header-same n m h) (fence-same n m LOW_FENCE_AT (page n).low lo (λ k a b. h k (omega arith) (omega arith)) w.low);
  high = rw (header-same n m h) (fence-same n m HIGH_FENCE_AT (page n).high hi (λ k a b. h k (omega arith) (omega arith)) w.high);
}
