-- The first fault of a head is the first rule that it breaks.
use Rattle.std.proofs.Common.{◌≡◌, ◌≤◌, ℕ, Bool, true, false, List, length, take, refl, sym, ap, ◌∙◌, Ok, Err, arith}
use Rattle.std.specs.Prelude.{bytes_eq}
use mathlib.Core.Bool.{true≢false}
use Rattle.std.proofs.lemmas.Bool.Decides.{nat_tests}
use Rattle.std.proofs.lemmas.Slice.Eq.{bytes_eq-Decides}
use Rattle.bz_image.specs.declared.image.Head.{Head}
use Rattle.bz_image.specs.declared.fault.ImageFault.{ImageFault}
use Rattle.bz_image.specs.declared.fault.ImageFault.TheVariants.{Short, Magic, Version, Sizes, Long, Memory}
use Rattle.bz_image.specs.declared.form.TheConstants.{VERSION}
use Rattle.bz_image.specs.Form.{magic, AreSizes}
use Rattle.bz_image.specs.Reads.{number_at, sizes_fit, head_of}
use Rattle.bz_image.specs.Faults.{HasMagic, BreaksHead, IsHead}
use Rattle.bz_image.proofs.HeadLemmas.{head_by, by_good, Good}

-- the same rules, by the length of the bytes, the test of their magic bytes, their version and their numbers
abbrev breaks_by : ℕ → Bool → ℕ → ℕ → ℕ → ImageFault → Type 0
breaks_by long is_magic version nodes swaps Short = ¬ (20 ≤ long)
breaks_by long is_magic version nodes swaps Magic = (20 ≤ long) × (is_magic ≡ false)
breaks_by long is_magic version nodes swaps Version = (20 ≤ long) × (is_magic ≡ true) × ¬ (version ≡ VERSION)
breaks_by long is_magic version nodes swaps Sizes = (20 ≤ long) × (is_magic ≡ true) × (version ≡ VERSION) × ¬ AreSizes nodes swaps
breaks_by long is_magic version nodes swaps Long = ⊥
breaks_by long is_magic version nodes swaps Memory = ⊥

sizes_told : (nodes swaps : ℕ) → sizes_fit nodes swaps ≡ true → AreSizes nodes swaps
sizes_told nodes swaps h = record {
  some_nodes = grind (arith, nat_tests);
  nodes_fit = grind (arith, nat_tests);
  some_swaps = grind (arith, nat_tests);
  swaps_fit = grind (arith, nat_tests);
}

sizes_taken : (nodes swaps : ℕ) → AreSizes nodes swaps → sizes_fit nodes swaps ≡ true
sizes_taken nodes swaps sizes = grind (arith, nat_tests, sizes.some_nodes, sizes.nodes_fit, sizes.some_swaps, sizes.swaps_fit)

is_false : (b : Bool) → ¬ (b ≡ true) → b ≡ false
is_false true h = absurd (h refl)
is_false false h = refl

told_by : (long : ℕ) (is_magic : Bool) (version nodes swaps : ℕ) (fault : ImageFault) → head_by long is_magic version nodes swaps ≡ Err fault → breaks_by long is_magic version nodes swaps fault
told_by long is_magic version nodes swaps Short is = λ enough. grind (arith, nat_tests)
told_by long is_magic version nodes swaps Magic is = (grind (arith, nat_tests), grind (arith, nat_tests))
told_by long is_magic version nodes swaps Version is = (grind (arith, nat_tests), grind (arith, nat_tests), λ known. grind (arith, nat_tests))
told_by long is_magic version nodes swaps Sizes is =
    (grind (arith, nat_tests), grind (arith, nat_tests), grind (arith, nat_tests), λ sizes. let fit = sizes_taken nodes swaps sizes in grind (arith, nat_tests))
told_by long is_magic version nodes swaps Long is = grind (arith, nat_tests)
told_by long is_magic version nodes swaps Memory is = grind (arith, nat_tests)

found_by : (long : ℕ) (is_magic : Bool) (version nodes swaps : ℕ) (fault : ImageFault) → breaks_by long is_magic version nodes swaps fault → head_by long is_magic version nodes swaps ≡ Err fault
found_by long is_magic version nodes swaps Short breaks = grind (arith, nat_tests)
found_by long is_magic version nodes swaps Magic breaks = grind (arith, nat_tests, breaks.0, breaks.1)
found_by long is_magic version nodes swaps Version breaks = grind (arith, nat_tests, breaks.0, breaks.1, breaks.2)
found_by long is_magic version nodes swaps Sizes breaks =
    let off : sizes_fit nodes swaps ≡ false = is_false (sizes_fit nodes swaps) (λ fit. breaks.3 (sizes_told nodes swaps fit)) in
    grind (arith, nat_tests, breaks.0, breaks.1, breaks.2)
found_by long is_magic version nodes swaps Long breaks = absurd breaks
found_by long is_magic version nodes swaps Memory breaks = absurd breaks

-- the test of the magic bytes
magic_is : (bytes : List ℕ) → bytes_eq (take 8 bytes) magic ≡ true → HasMagic bytes
magic_is bytes h = (bytes_eq-Decides (take 8 bytes) magic).0 h

is_magic : (bytes : List ℕ) → HasMagic bytes → bytes_eq (take 8 bytes) magic ≡ true
is_magic bytes h = (bytes_eq-Decides (take 8 bytes) magic).1 h

pub no_magic : (bytes : List ℕ) → bytes_eq (take 8 bytes) magic ≡ false → ¬ HasMagic bytes
no_magic bytes h is = true≢false (sym (is_magic bytes is) ∙ h)

-- the two, of bytes
parts_told : (bytes : List ℕ) (fault : ImageFault) → head_of bytes ≡ Err fault → breaks_by (length bytes) (bytes_eq (take 8 bytes) magic) (number_at 8 bytes) (number_at 12 bytes) (number_at 16 bytes) fault
parts_told bytes fault is = told_by (length bytes) (bytes_eq (take 8 bytes) magic) (number_at 8 bytes) (number_at 12 bytes) (number_at 16 bytes) fault is

parts_found : (bytes : List ℕ) (fault : ImageFault) → breaks_by (length bytes) (bytes_eq (take 8 bytes) magic) (number_at 8 bytes) (number_at 12 bytes) (number_at 16 bytes) fault → head_of bytes ≡ Err fault
parts_found bytes fault breaks = found_by (length bytes) (bytes_eq (take 8 bytes) magic) (number_at 8 bytes) (number_at 12 bytes) (number_at 16 bytes) fault breaks

-- the first fault of a head
pub head_told : (bytes : List ℕ) (fault : ImageFault) → head_of bytes ≡ Err fault → BreaksHead bytes fault
head_told bytes Short is = parts_told bytes Short is
head_told bytes Magic is = let by = parts_told bytes Magic is in (by.0, no_magic bytes by.1)
head_told bytes Version is = let by = parts_told bytes Version is in (by.0, magic_is bytes by.1, by.2)
head_told bytes Sizes is = let by = parts_told bytes Sizes is in (by.0, magic_is bytes by.1, by.2, by.3)
head_told bytes Long is = parts_told bytes Long is
head_told bytes Memory is = parts_told bytes Memory is

pub head_found : (bytes : List ℕ) (fault : ImageFault) → BreaksHead bytes fault → head_of bytes ≡ Err fault
head_found bytes Short breaks = parts_found bytes Short breaks
head_found bytes Magic breaks = parts_found bytes Magic (breaks.0, is_false _ (λ h. breaks.1 (magic_is bytes h)))
head_found bytes Version breaks = parts_found bytes Version (breaks.0, is_magic bytes breaks.1, breaks.2)
head_found bytes Sizes breaks = parts_found bytes Sizes (breaks.0, is_magic bytes breaks.1, breaks.2, breaks.3)
head_found bytes Long breaks = absurd breaks
head_found bytes Memory breaks = absurd breaks

-- bytes of another version are no head
pub version_is : (bytes : List ℕ) → 20 ≤ length bytes → bytes_eq (take 8 bytes) magic ≡ true → ¬ (number_at 8 bytes ≡ VERSION) → head_of bytes ≡ Err Version
version_is bytes enough good other = parts_found bytes Version (enough, good, other)

-- the head that bytes tell
abbrev pub told_head : List ℕ → Head
told_head bytes = record { nodes = number_at 12 bytes; swaps = number_at 16 bytes }

pub head_taken : (bytes : List ℕ) → IsHead bytes → head_of bytes ≡ Ok (told_head bytes)
head_taken bytes is = by_good (length bytes) (bytes_eq (take 8 bytes) magic) (number_at 8 bytes) (number_at 12 bytes) (number_at 16 bytes) is.0 (is_magic bytes is.1) is.2 is.3

pub good_is_head : (bytes : List ℕ) (head : Head) → Good bytes head → IsHead bytes
good_is_head bytes head good = (
  good.enough,
  magic_is bytes good.is_magic,
  good.version,
  record {
    some_nodes = omega (arith, good.nodes, good.fit.some_nodes);
    nodes_fit = omega (arith, good.nodes, good.fit.nodes_fit);
    some_swaps = omega (arith, good.swaps, good.fit.some_swaps);
    swaps_fit = omega (arith, good.swaps, good.fit.swaps_fit);
  },
)

-- sizes that were read of a head, and are none or are some
module _ (bytes : List ℕ) (nodes swaps : ℕ) (enough : 20 ≤ length bytes) (good : bytes_eq (take 8 bytes) magic ≡ true) (known : number_at 8 bytes ≡ VERSION) (n : nodes ≡ number_at 12 bytes) (s : swaps ≡ number_at 16 bytes) where
  pub sizes_refused : ¬ AreSizes nodes swaps → head_of bytes ≡ Err Sizes
  sizes_refused none = parts_found bytes Sizes (
    enough,
    good,
    known,
    λ sizes. none (record {
      some_nodes = omega (arith, n, sizes.some_nodes);
      nodes_fit = omega (arith, n, sizes.nodes_fit);
      some_swaps = omega (arith, s, sizes.some_swaps);
      swaps_fit = omega (arith, s, sizes.swaps_fit);
    }),
  )

  pub sizes_are_read : AreSizes nodes swaps → Ok (record { nodes = nodes; swaps = swaps }) ≡ head_of bytes
  sizes_are_read sizes =
      ap (λ (i : ℕ). Ok (record { nodes = i; swaps = swaps })) n
      ∙ ap (λ (i : ℕ). Ok (record { nodes = number_at 12 bytes; swaps = i })) s
      ∙ sym (by_good (length bytes) (bytes_eq (take 8 bytes) magic) (number_at 8 bytes) (number_at 12 bytes) (number_at 16 bytes) enough good known (record {
        some_nodes = omega (arith, n, sizes.some_nodes);
        nodes_fit = omega (arith, n, sizes.nodes_fit);
        some_swaps = omega (arith, s, sizes.some_swaps);
        swaps_fit = omega (arith, s, sizes.swaps_fit);
      }))
