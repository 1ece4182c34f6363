-- The words of a held memory's descriptors are such as an image may hold.
use Rattle.std.proofs.Common.{◌≡◌, ℕ, zero, suc, ◌+◌, ◌%◌, ◌^◌, ◌<◌, ◌≤◌, ◌==◌, if◌then◌else◌, true, false, slice_index, arith, refl, sym, ap, subst, ◌∙◌}
use Rattle.std.specs.Prelude.{nat_le}
use Rattle.std.proofs.lemmas.Bool.Decides.{nat_tests}
use Rattle.bz_layout.specs.Addresses.{swap_address, node_address, swap_of, swap_word_of}
use Rattle.bz_layout.specs.declared.config.Config.{Config}
use Rattle.bz_layout.specs.declared.sizes.TheConstants.{SUPERBLOCK_WORDS, SWAP_STATUS_AT}
use Rattle.bz_layout.proofs.Laws.{addresses_are_placed}
use Rattle.bz_swap_cells.specs.Store.{status_word, status_at}
use Rattle.bz_swap_machine.specs.declared.status.SwapStatus.{SwapStatus}
use Rattle.bz_swap_machine.specs.declared.status.SwapStatus.TheVariants.{Free, Undecided, Deciding, Decided}
use Rattle.bz_swap_machine.specs.declared.status.Verdict.TheVariants.{Succeeded, Failed}
use Rattle.bz_content.specs.Lawful.{is_in_descriptor, is_lawful, is_word, is_value, LAST_STATUS}
use Rattle.bz_swap_image.specs.Images.{DescriptorsAreLawful}

-- the words that spell a status, and plain ones, are words of a descriptor
status-lawful : (t : SwapStatus) → (is_word (status_word t) ≡ true) × (nat_le (status_word t % 2 ^ 63) LAST_STATUS ≡ true)
status-lawful Free = (refl, refl)
status-lawful Undecided = (refl, refl)
status-lawful (Deciding Succeeded) = (refl, refl)
status-lawful (Deciding Failed) = (refl, refl)
status-lawful (Decided Succeeded) = (refl, refl)
status-lawful (Decided Failed) = (refl, refl)

plain-word : (x : ℕ) → x < 2 ^ 61 → (is_word x ≡ true) × (is_value x ≡ true)
plain-word x l = (grind (arith, nat_tests), grind (arith, nat_tests))

descriptor-by : (c : Config) (f : ℕ → ℕ) (a : ℕ) → is_in_descriptor c a ≡ true → is_word (f a) ≡ true → (if swap_word_of a == SWAP_STATUS_AT then nat_le (f a % 2 ^ 63) LAST_STATUS else is_value (f a)) ≡ true → is_lawful c f a ≡ true
unfolding is_lawful
descriptor-by c f a e w h = rw (e, w) h

in-descriptor : (c : Config) (a : ℕ) → is_in_descriptor c a ≡ true → (SUPERBLOCK_WORDS ≤ a) × (a < node_address c 0)
in-descriptor c a h = (grind (arith, nat_tests), grind (arith, nat_tests))

pub descriptors-lawful : DescriptorsAreLawful
descriptors-lawful c m a e good fields l h =
    let within : (SUPERBLOCK_WORDS ≤ a) × (a < node_address c 0) = in-descriptor c a h in
    let at : (swap_of a < c.swaps) × (a ≡ swap_address (swap_of a) + swap_word_of a) = (addresses_are_placed c a l).in_descriptor within.0 within.1 in
    by-word (swap_of a) (swap_word_of a) refl (subst (λ n. swap_of a < n) (sym e) at.0) at.1
  where
    by-word : (s i : ℕ) → swap_word_of a ≡ i → s < m.swaps → a ≡ swap_address s + i → is_lawful c (slice_index m.durable) a ≡ true
    by-word s zero q lt is =
        let word : slice_index m.durable a ≡ status_word (status_at m.swaps m.durable s) = ap (slice_index m.durable) (is ∙ omega arith) ∙ good.status s lt in
        let fit : (is_word (status_word (status_at m.swaps m.durable s)) ≡ true) × (nat_le (status_word (status_at m.swaps m.durable s) % 2 ^ 63) LAST_STATUS ≡ true) = status-lawful (status_at m.swaps m.durable s) in
        descriptor-by c (slice_index m.durable) a h (ap is_word word ∙ fit.0) (rw q (ap (λ x. nat_le (x % 2 ^ 63) LAST_STATUS) word ∙ fit.1))
    by-word s (suc k) q lt is =
        let small : swap_word_of a < 16 = omega arith in
        let plain : slice_index m.durable a < 2 ^ 61 = subst (λ n. slice_index m.durable n < 2 ^ 61) (sym (is ∙ omega arith)) (fields.durable s k lt (omega (arith, q, small))) in
        let fit : (is_word (slice_index m.durable a) ≡ true) × (is_value (slice_index m.durable a) ≡ true) = plain-word (slice_index m.durable a) plain in
        let no : (suc k == SWAP_STATUS_AT) ≡ false = grind (arith, nat_tests) in
        descriptor-by c (slice_index m.durable) a h fit.0 (rw (q, no) fit.1)
