-- What a reader answers where the bytes are no image, or memory is wanting for it.
use Rattle.std.proofs.Common.{◌≡◌, ◌<◌, ◌≤◌, ℕ, List, length, refl, sym, ap, ◌∙◌, subst, Result, Ok, Err, arith}
use Rattle.std.specs.Prelude.{IsOk}
use Rattle.std.proofs.lemmas.Bool.Decides.{nat_tests}
use Rattle.bz_image.specs.Form.{file_length}
use Rattle.bz_image.specs.Reads.{head_of, image_at, front_behind, front_of, whole_of, image_of, Reads, ReadsFront}
use Rattle.bz_image.specs.declared.fault.ImageFault.{ImageFault}
use Rattle.bz_image.specs.declared.fault.ImageFault.TheVariants.{Short, Magic, Version, Sizes, Long, Memory}
use Rattle.bz_image.specs.declared.image.Head.{Head}
use Rattle.bz_image.specs.declared.image.Image.{Image}
use Rattle.bz_image.proofs.FaultLemmas.{head_told}
use Rattle.bz_image.proofs.ImageLemmas.{enough_for, no_more, front_is, image_is}

-- a head that is none
front_by : (bytes : List ℕ) (fault : ImageFault) → Err fault ≡ head_of bytes → front_of bytes ≡ Err fault
front_by bytes fault is = ap (λ (found : Result Head ImageFault). front_behind found bytes) (sym is)

whole_by : (bytes : List ℕ) (fault : ImageFault) → Err fault ≡ head_of bytes → image_of bytes ≡ Err fault
whole_by bytes fault is = ap (λ (found : Result Image ImageFault). whole_of found bytes) (front_by bytes fault is)

pub front_refused : (bytes : List ℕ) (fault : ImageFault) → Err fault ≡ head_of bytes → ReadsFront (front_of bytes) (Err fault)
front_refused bytes Short is = front_by bytes Short is
front_refused bytes Magic is = front_by bytes Magic is
front_refused bytes Version is = front_by bytes Version is
front_refused bytes Sizes is = front_by bytes Sizes is
front_refused bytes Long is = front_by bytes Long is
front_refused bytes Memory is = absurd (head_told bytes Memory (sym is))

pub whole_refused : (bytes : List ℕ) (fault : ImageFault) → Err fault ≡ head_of bytes → Reads (image_of bytes) (Err fault)
whole_refused bytes Short is = whole_by bytes Short is
whole_refused bytes Magic is = whole_by bytes Magic is
whole_refused bytes Version is = whole_by bytes Version is
whole_refused bytes Sizes is = whole_by bytes Sizes is
whole_refused bytes Long is = whole_by bytes Long is
whole_refused bytes Memory is = absurd (head_told bytes Memory (sym is))

-- a good head, and what stands behind it
few_for : (long wanted : ℕ) (image : Image) → long < wanted → enough_for long wanted image ≡ Err Short
few_for long wanted image few = grind (arith, nat_tests)

more_than : (long wanted : ℕ) (image : Image) → wanted < long → no_more long wanted image ≡ Err Long
more_than long wanted image more = grind (arith, nat_tests)

module _ (bytes : List ℕ) (head : Head) (count : ℕ) (read : Ok head ≡ head_of bytes) (long : count ≡ file_length head.nodes head.swaps) where
  pub front_short : length bytes < count → front_of bytes ≡ Err Short
  front_short few =
      ap (λ (found : Result Head ImageFault). front_behind found bytes) (sym read)
      ∙ few_for (length bytes) (file_length head.nodes head.swaps) (image_at head bytes) (omega (arith, long, few))

  pub whole_short : length bytes < count → image_of bytes ≡ Err Short
  whole_short few = ap (λ (found : Result Image ImageFault). whole_of found bytes) (front_short few)

  front_there : count ≤ length bytes → front_of bytes ≡ Ok (image_at head bytes)
  front_there fits = (front_is bytes head (image_at head bytes) count read long fits refl).0

  pub whole_long : count < length bytes → image_of bytes ≡ Err Long
  whole_long more =
      ap (λ (found : Result Image ImageFault). whole_of found bytes) (front_there (omega (arith, more)))
      ∙ more_than (length bytes) (file_length head.nodes head.swaps) (image_at head bytes) (omega (arith, long, more))

  pub front_is_ok : count ≤ length bytes → IsOk (front_of bytes)
  front_is_ok fits = subst IsOk (sym (front_there fits)) refl

  pub whole_is_ok : count ≤ length bytes → length bytes ≤ count → IsOk (image_of bytes)
  whole_is_ok fits ends = subst IsOk (sym (image_is bytes head (image_at head bytes) count read long fits ends refl)) refl
