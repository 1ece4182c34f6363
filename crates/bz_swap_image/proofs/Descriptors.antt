-- A descriptor that the swap can read says the same to a reader of the image.
use Rattle.std.proofs.Common.{◌≡◌, ◌≢◌, ℕ, zero, suc, ◌+◌, ◌*◌, ◌%◌, ◌^◌, ◌<◌, ◌==◌, true, false, List, arith, refl, ap, sym, ◌∙◌, inl, inr}
use Rattle.std.specs.Prelude.{nat_lt, slice_index}
use Rattle.std.proofs.lemmas.Bool.{cases_eq}
use Rattle.std.proofs.lemmas.Bool.Decides.{nat_tests}
use Rattle.bz_layout.specs.Addresses.{swap_address}
use Rattle.bz_swap_machine.specs.Machine.{Entries, is_succeeded}
use Rattle.bz_swap_machine.specs.declared.status.SwapStatus.TheVariants.{Free}
use Rattle.bz_swap_cells.specs.Store.{status_of, status_at, field_count, field_address, descriptor_word_at}
use Rattle.bz_swap.specs.Lawful.{IsReadable}
use Rattle.bz_swap.specs.Resolve.{first_entry, entries_at}
use Rattle.bz_content.specs.Resolving.{status_in, count_in, target_in, expected_in, value_in, entry_for}

-- a status that is not free, by its number
pub record IsTold (x : ℕ) : Type 0 where
  pub succeeded : (x % 2 ^ 63 == 2) ≡ is_succeeded (status_of x)
  pub begun : (x % 2 ^ 63 == 0) ≡ false

no : (x n : ℕ) → x ≢ n → (x == n) ≡ false
no x n ne = grind (arith, nat_tests)

status-told : (x : ℕ) → status_of x ≢ Free → IsTold x
unfolding status_of
status-told x begun = elim (cases_eq x 1) [
  | inl e ↦ rw e (record { succeeded = refl; begun = refl })
  | inr a ↦ elim (cases_eq x (2 ^ 63 + 2)) [
    | inl e ↦ rw e (record { succeeded = refl; begun = refl })
    | inr b ↦ elim (cases_eq x (2 ^ 63 + 3)) [
      | inl e ↦ rw e (record { succeeded = refl; begun = refl })
      | inr d ↦ elim (cases_eq x 2) [
        | inl e ↦ rw e (record { succeeded = refl; begun = refl })
        | inr f ↦ elim (cases_eq x 3) [
          | inl e ↦ rw e (record { succeeded = refl; begun = refl })
          | inr g ↦ absurd (begun (rw (no x 1 a, no x (2 ^ 63 + 2) b, no x (2 ^ 63 + 3) d, no x 2 f, no x 3 g) refl))
        ]
      ]
    ]
  ]
]

pub status-word : (swaps : ℕ) (image : List ℕ) (s : ℕ) → s < swaps → status_at swaps image s ≡ status_of (slice_index image (swap_address s + 0))
status-word swaps image s less = let a : nat_lt s swaps ≡ true = grind (arith, nat_tests) in rw a (ap (λ b. status_of (slice_index image b)) (omega arith))

-- the status of a readable descriptor
pub readable-status : (swaps : ℕ) (image : List ℕ) (s : ℕ) → IsReadable swaps image s →
    ((status_in (slice_index image) s == 2) ≡ is_succeeded (status_at swaps image s)) × ((status_in (slice_index image) s == 0) ≡ false)
readable-status swaps image s r =
    let word = status-word swaps image s r.number in
    let told : IsTold (slice_index image (swap_address s + 0)) = status-told (slice_index image (swap_address s + 0)) (λ e. r.status (word ∙ e)) in
    (told.succeeded ∙ ap is_succeeded (sym word), told.begun)

word-is : (swaps : ℕ) (image : List ℕ) (s k b : ℕ) → s < swaps → k < field_count → field_address s k ≡ b → descriptor_word_at swaps image s k ≡ slice_index image b
word-is swaps image s k b number less at =
    let p : nat_lt s swaps ≡ true = grind (arith, nat_tests) in
    let q : nat_lt k field_count ≡ true = grind (arith, nat_tests) in
    rw (p, q) (ap (slice_index image) at)

-- what is read of a descriptor is the same, its entries up to four
pub record ReadsAlike (swaps : ℕ) (image : List ℕ) (s : ℕ) : Type 0 where
  pub count : (entries_at swaps image s).count ≡ count_in (slice_index image) s
  pub target : (i : ℕ) → i < 4 → (entries_at swaps image s).target i ≡ target_in (slice_index image) s i
  pub expected : (i : ℕ) → i < 4 → (entries_at swaps image s).expected i ≡ expected_in (slice_index image) s i
  pub value : (i : ℕ) → i < 4 → (entries_at swaps image s).value i ≡ value_in (slice_index image) s i

pub reads-alike : (swaps : ℕ) (image : List ℕ) (s : ℕ) → s < swaps → ReadsAlike swaps image s
reads-alike swaps image s number = record {
  count = word-is swaps image s 0 (swap_address s + 1) number (omega arith) (omega arith);
  target = λ i less. word-is swaps image s (1 + 3 * i) (swap_address s + (2 + 3 * i) + 0) number (omega arith) (omega arith);
  expected = λ i less. word-is swaps image s (2 + 3 * i) (swap_address s + (2 + 3 * i) + 1) number (omega arith) (omega arith);
  value = λ i less. word-is swaps image s (3 + 3 * i) (swap_address s + (2 + 3 * i) + 2) number (omega arith) (omega arith);
}

pub first-is : (x : Entries) (raw : ℕ → ℕ) (s a n i : ℕ) → ((j : ℕ) → j < i + n → x.target j ≡ target_in raw s j) → first_entry x a n i ≡ entry_for raw s a i n
unfolding entry_for
first-is x raw s a zero i same = refl
first-is x raw s a (suc n) i same = rw (same i (omega arith), first-is x raw s a n (i + 1) (λ j less. same j (omega arith))) refl

-- the entry of an address is the same
pub readable-index : (swaps : ℕ) (image : List ℕ) (s a : ℕ) → IsReadable swaps image s →
    (entries_at swaps image s).index a ≡ entry_for (slice_index image) s a 0 (count_in (slice_index image) s)
readable-index swaps image s a r =
    let alike = reads-alike swaps image s r.number in
    first-is (entries_at swaps image s) (slice_index image) s a (entries_at swaps image s).count 0 (λ j less. alike.target j (omega (arith, less, r.count)))
    ∙ ap (entry_for (slice_index image) s a 0) alike.count
