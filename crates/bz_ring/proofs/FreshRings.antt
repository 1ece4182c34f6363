-- Fresh memory holds the empty list.
use Rattle.std.proofs.Common.{◌≡◌, ◌≤◌, ◌<◌, ◌⊎◌, inl, inr, ℕ, ◌+◌, ◌-◌, true, List, [], ◌∷◌, replicate, get_or, refl, ◌∙◌, arith}
use Rattle.std.proofs.lemmas.List.{length-replicate, get_or-replicate}
use Rattle.std.proofs.lemmas.Bool.{cases_lt}
use Rattle.std.proofs.Math.ListN.{get_or-eq_default}
use Rattle.std.proofs.Math.Seq.{get_or-append_right}
use Rattle.bz_word.specs.Kinds.{kind}
use Rattle.bz_swap_cells.specs.Store.{is_outside}
use Rattle.bz_swap_cells.proofs.Places.{outside-told}
use Rattle.bz_layout.specs.declared.sizes.TheConstants.{SUPERBLOCK_USED}
use Rattle.bz_swap.specs.Resolve.{resolve}
use Rattle.bz_ring.specs.declared.ring.Ring.{Ring}
use Rattle.bz_ring.specs.Content.{cell_of, size_of}
use Rattle.bz_ring.specs.Fresh.{fresh_words, FreshMemoryIsEmpty}
use Rattle.bz_ring.proofs.Contents.{holds-content}

-- this many words 0
abbrev zeros : ℕ → List ℕ
zeros n = replicate n 0

get_or-zeros : (n k : ℕ) → get_or (zeros n) k 0 ≡ 0
get_or-zeros n k = at (cases_lt k n)
  where
    at : (k < n) ⊎ (n ≤ k) → get_or (zeros n) k 0 ≡ 0
    at (inl inside) = get_or-replicate n k 0 0 inside
    at (inr past) = get_or-eq_default (zeros n) 0 (omega (arith, length-replicate {A = ℕ} n 0))

-- a word 0 resolves to 0
zero-value : (r : Ring) (a : ℕ) → is_outside r.swaps a ≡ true → get_or (fresh_words r) a 0 ≡ 0 → resolve r.swaps (fresh_words r) a ≡ 0
unfolding kind
zero-value r a outside word = rw (outside, word) refl

cells-empty : (r : Ring) (counter : ℕ) → resolve r.swaps (fresh_words r) (cell_of r counter) ≡ 0
cells-empty r counter =
    zero-value r (cell_of r counter) (outside-told r.swaps (cell_of r counter) (inr (omega arith)))
    (get_or-append_right (3 ∷ 0 ∷ 0 ∷ r.capacity ∷ r.swaps ∷ []) (zeros (size_of r - SUPERBLOCK_USED)) (cell_of r counter) 0 (omega arith)
    ∙ get_or-zeros (size_of r - SUPERBLOCK_USED) (cell_of r counter - 5))

pub fresh_memory_is_empty : FreshMemoryIsEmpty
unfolding kind
fresh_memory_is_empty r is = holds-content r (resolve r.swaps (fresh_words r)) [] (record {
  counted = refl;
  fits = omega arith;
  inside = λ i within. absurd (omega arith);
  outside = λ i from within. cells-empty r (0 + i);
})
