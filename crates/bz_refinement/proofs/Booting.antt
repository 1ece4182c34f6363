-- A memory that is opened over an image that breaks no rule is as after a power cut.
use Rattle.std.proofs.Common.{◌≡◌, ℕ, ◌+◌, ◌^◌, ◌<◌, ◌==◌, true, false, List, length, slice_index, arith, refl, sym, ap, subst, []}
use Rattle.std.specs.Prelude.{None}
use Rattle.std.proofs.lemmas.Bool.{and_parts}
use Rattle.std.proofs.lemmas.Bool.Decides.{nat_tests}
use Rattle.std.proofs.lemmas.List.{length-replicate}
use Rattle.bz_swap_cells.specs.Store.{field_address}
use Rattle.bz_content.specs.Content.{image_fault, IsWellFormed}
use Rattle.bz_content.specs.Lawful.{is_in_descriptor, is_lawful, is_value, is_word}
use Rattle.bz_content.specs.Resolving.{resolve}
use Rattle.bz_content.proofs.Proved.{well_formed_images_have_no_fault}
use Rattle.bz_layout.specs.Addresses.{swap_word_of, words_of as size_of}
use Rattle.bz_layout.specs.Config.{IsConfig}
use Rattle.bz_layout.specs.declared.config.Config.{Config}
use Rattle.bz_layout.specs.declared.sizes.TheConstants.{SWAP_STATUS_AT}
use Rattle.bz_swap.proofs.Fresh.{all-same}
use Rattle.bz_swap.specs.PlainFields.{ArePlainFields}
use Rattle.bz_swap.specs.Power.{opened}
use Rattle.bz_swap.specs.SwapMemory.{Working, idle}
use Rattle.bz_swap.specs.declared.phase.Phase.{Phase}
use Rattle.bz_swap.specs.declared.phase.Phase.TheVariants.{Running}
use Rattle.bz_swap.proofs.Proved.{plain_fields_stay}
use Rattle.bz_refinement.specs.Recovering.{IsOff}
use Rattle.bz_refinement.specs.RecoveryLaws.{ImagesAreOff}

-- a lawful word of a descriptor after its status is plain
word-plain : (c : Config) (raw : ℕ → ℕ) (a : ℕ) → is_in_descriptor c a ≡ true → (swap_word_of a == SWAP_STATUS_AT) ≡ false → is_lawful c raw a ≡ true → raw a < 2 ^ 61
unfolding is_lawful
word-plain c raw a inside later t =
    let p = and_parts (is_word (raw a)) _ t in
    let v : is_value (raw a) ≡ true = rw (inside, later) at p.1 in
    grind (arith, nat_tests)

fields-plain : (c : Config) (image : List ℕ) → IsWellFormed c (slice_index image) → ArePlainFields c.swaps image
fields-plain c image well s k number field =
    let inside : is_in_descriptor c (field_address s k) ≡ true = grind (arith, nat_tests) in
    let word : swap_word_of (field_address s k) ≡ 1 + k = omega (arith, field) in
    let later : (swap_word_of (field_address s k) == SWAP_STATUS_AT) ≡ false = grind (arith, nat_tests) in
    word-plain c (slice_index image) (field_address s k) inside later (well.lawful (field_address s k) (omega (arith, number, field)))

module _ (c : Config) (image : List ℕ) (config : IsConfig c) (size : length image ≡ size_of c) (none : image_fault c (slice_index image) ≡ None) where
  well : IsWellFormed c (slice_index image)
  well = (well_formed_images_have_no_fault c (slice_index image)).0 none

  off : (phase : Phase) → (phase ≡ Running → ⊥) → IsOff c (resolve (slice_index image)) (opened phase image c.swaps c.workers)
  off phase not = record {
    memory = record {
      config = config;
      swaps = refl;
      cached = size;
      durable = size;
      workers = length-replicate (c.workers + 1) idle;
      others = λ w some. ap (λ (u : Working). u.doing) (all-same (c.workers + 1) w idle);
      fields = plain_fields_stay.opening phase image c.swaps c.workers (fields-plain c image well);
      form = none;
    };
    phase = not;
    idle = ap (λ (u : Working). u.doing) (all-same (c.workers + 1) 0 idle);
    clean = λ v. all-same (c.workers + 1) v [];
    powered = record { image = record { lawful = well.lawful; resolved = λ a s. refl }; same = λ a within. refl };
  }

pub images-off : ImagesAreOff
images-off c m image config size none is =
    subst (IsOff c (resolve (slice_index image))) (sym is.is) (off c image config size none is.phase is.otherwise)
