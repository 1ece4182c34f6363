-- The free words of a node that breaks no rule are 0, and its status and its header tell which they are.
use Rattle.std.proofs.Common.{◌≡◌, ℕ, ◌+◌, ◌-◌, ◌<◌, List, arith, ap, subst, ◌∙◌, inl, inr, Option}
use Rattle.std.specs.Prelude.{Some, None, slice_index, slice_set, replicate}
use Rattle.std.proofs.lemmas.Bool.{cases_lt}
use Rattle.std.proofs.lemmas.List.{length-replicate, get_or-replicate, get_or_past, get_or-set_other}
use Rattle.bz_key.specs.Packing.{packed_len}
use Rattle.bz_key.proofs.UnpackingLaws.{unpacked_key-sound}
use Rattle.bz_layout.specs.declared.sizes.TheConstants.{STATUS_AT, HEADER_AT, LOW_FENCE_AT, HIGH_FENCE_AT}
use Rattle.bz_slotted.specs.Page.{words_at, page}
use Rattle.bz_slotted.specs.Whole.{IsFence, HasFences, IsFilled}
use Rattle.bz_word.specs.Headers.{header}
use Rattle.bz_word.specs.Statuses.{status}
use Rattle.bz_gaps.specs.FreeWords.{IsOfNoFence, IsFree}

-- a word of an absent fence
no-fence : (n : ℕ → ℕ) (at len i : ℕ) (bound : Option (List ℕ)) → IsFence n at len bound → IsOfNoFence at len i → n i ≡ 0
no-fence n at len i None f o =
    let back : at + (i - at) ≡ i = omega (arith, o.from) in
    subst (λ z. n z ≡ 0) back (f.1 (i - at) (omega (arith, o.from, o.to)))
no-fence n at len i (Some key) f o =
    let u = unpacked_key-sound len (words_at n at (packed_len len)) key f in
    absurd (omega (arith, u.0.some, u.1, o.none))

pub free-zero : (n : ℕ → ℕ) (low high : Option (List ℕ)) (i : ℕ) → IsFilled (page n) → HasFences (page n) low high → IsFree n i → n i ≡ 0
free-zero n low high i f h (inl b) = f.free i b.behind b.before
free-zero n low high i f h (inr (inl o)) = no-fence n LOW_FENCE_AT (page n).low i low h.low o
free-zero n low high i f h (inr (inr o)) = no-fence n HIGH_FENCE_AT (page n).high i high h.high o

-- nodes of one status and one header have the same free words
pub free-alike : (n m : ℕ → ℕ) (i : ℕ) → m STATUS_AT ≡ n STATUS_AT → m HEADER_AT ≡ n HEADER_AT → IsFree n i → IsFree m i
free-alike n m i s h (inl b) = inl (record { behind = omega (arith, b.behind, ap (λ z. (status z).count) s); before = omega (arith, b.before, ap (λ z. (status z).block) s) })
free-alike n m i s h (inr (inl o)) = inr (inl (record { none = ap (λ z. (header z).low) h ∙ o.none; from = o.from; to = o.to }))
free-alike n m i s h (inr (inr o)) = inr (inr (record { none = ap (λ z. (header z).high) h ∙ o.none; from = o.from; to = o.to }))

-- the header is no free word
pub header-used : (n : ℕ → ℕ) → IsFree n HEADER_AT → ⊥
header-used n (inl b) = absurd (omega (arith, b.behind))
header-used n (inr (inl o)) = absurd (omega (arith, o.from))
header-used n (inr (inr o)) = absurd (omega (arith, o.from))

-- a node of which the first word alone was read
pub only-first : (count first i : ℕ) → 0 < i → slice_index (slice_set (replicate count 0) 0 first) i ≡ 0
only-first count first i some = get_or-set_other (replicate count 0) 0 i first 0 (λ e. absurd (omega (arith, e, some))) ∙ elim (cases_lt i count) [
  | inl l ↦ get_or-replicate count i 0 0 l
  | inr l ↦ get_or_past (replicate count 0) i 0 (omega (arith, l, length-replicate {A = ℕ} count 0))
]
