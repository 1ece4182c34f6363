-- Fresh memory word by word.
use Rattle.std.proofs.Common.{◌≡◌, ℕ, ◌-◌, ◌≤◌, ◌<◌, ◌⊎◌, List, length, replicate, get_or, refl, ◌∙◌, inl, inr, arith}
use Rattle.std.proofs.lemmas.List.{length-replicate, get_or-replicate}
use Rattle.std.proofs.Math.ListN.{get_or-eq_default}
use Rattle.std.proofs.Math.Seq.{get_or-append_right}
use Rattle.std.proofs.lemmas.Bool.{cases_lt}
use Rattle.bz_layout.specs.Addresses.{words_of}
use Rattle.bz_layout.specs.Fresh.{fresh_superblock, FreshWordsSay}
use Rattle.bz_layout.specs.declared.sizes.TheConstants.{SUPERBLOCK_USED}

-- this many words 0
abbrev zeros : ℕ → List ℕ
zeros n = replicate n 0

-- zeros read as 0, also past their end
get_or-zeros : (n k : ℕ) → get_or (zeros n) k 0 ≡ 0
get_or-zeros n k = at (cases_lt k n)
  where
    at : (k < n) ⊎ (n ≤ k) → get_or (zeros n) k 0 ≡ 0
    at (inl inside) = get_or-replicate n k 0 0 inside
    at (inr past) = get_or-eq_default (zeros n) 0 (omega (arith, length-replicate {A = ℕ} n 0))

pub fresh_words_say-holds : FreshWordsSay
fresh_words_say-holds c = record {
  size = omega (arith, length-replicate {A = ℕ} (words_of c - SUPERBLOCK_USED) 0);
  format = refl;
  root = refl;
  nodes = refl;
  swaps = refl;
  root_status = refl;
  rest = λ a past. get_or-append_right (fresh_superblock c) (zeros (words_of c - SUPERBLOCK_USED)) a 0 past ∙ get_or-zeros (words_of c - SUPERBLOCK_USED) (a - length (fresh_superblock c));
}
