-- The first fault of a file, or of the front of bytes, is the first rule that they break.
use Rattle.std.proofs.Common.{◌≡◌, ◌≤◌, ◌⊎◌, inl, inr, ℕ, List, length, refl, sym, subst, ap, ◌∙◌, Result, Ok, Err, arith}
use Rattle.std.proofs.lemmas.Bool.Decides.{nat_tests}
use Rattle.bz_image.specs.declared.image.Head.{Head}
use Rattle.bz_image.specs.declared.image.Image.{Image}
use Rattle.bz_image.specs.declared.fault.ImageFault.{ImageFault}
use Rattle.bz_image.specs.declared.fault.ImageFault.TheVariants.{Short, Magic, Version, Sizes, Long, Memory}
use Rattle.bz_image.specs.Form.{file_length}
use Rattle.bz_image.specs.Reads.{head_of, front_behind, front_of, whole_of, image_of, image_at}
use Rattle.bz_image.specs.Faults.{BreaksHead, IsHead, BreaksFront, BreaksFile, told_length}
use Rattle.bz_image.proofs.HeadLemmas.{Good, head_good}
use Rattle.bz_image.proofs.ImageLemmas.{enough_for, enough, no_more, Front, front_parts}
use Rattle.bz_image.proofs.FaultLemmas.{head_told, head_found, told_head, head_taken, good_is_head}

-- the same fault, told of more
of_head : (bytes : List ℕ) (fault : ImageFault) → BreaksHead bytes fault → BreaksFront bytes fault
of_head bytes Short breaks = inl breaks
of_head bytes Magic breaks = breaks
of_head bytes Version breaks = breaks
of_head bytes Sizes breaks = breaks
of_head bytes Long breaks = absurd breaks
of_head bytes Memory breaks = absurd breaks

of_front : (bytes : List ℕ) (fault : ImageFault) → BreaksFront bytes fault → BreaksFile bytes fault
of_front bytes Short breaks = breaks
of_front bytes Magic breaks = breaks
of_front bytes Version breaks = breaks
of_front bytes Sizes breaks = breaks
of_front bytes Long breaks = absurd breaks
of_front bytes Memory breaks = absurd breaks

-- the first fault of the front of bytes
too_short : (long wanted : ℕ) (image : Image) (fault : ImageFault) → enough_for long wanted image ≡ Err fault → (fault ≡ Short) × ¬ (wanted ≤ long)
too_short long wanted image fault is = (grind (arith, nat_tests), λ le. grind (arith, nat_tests))

is_short : (long wanted : ℕ) (image : Image) → ¬ (wanted ≤ long) → enough_for long wanted image ≡ Err Short
is_short long wanted image h = grind (arith, nat_tests)

front_told : (bytes : List ℕ) (fault : ImageFault) (found : Result Head ImageFault) → head_of bytes ≡ found → front_behind found bytes ≡ Err fault → BreaksFront bytes fault
front_told bytes fault (Err other) read is = of_head bytes fault (head_told bytes fault (read ∙ cc))
front_told bytes fault (Ok head) read is =
    let good : Good bytes head = head_good bytes head read in
    let by = too_short (length bytes) (file_length head.nodes head.swaps) (image_at head bytes) fault is in
    let lengths : told_length bytes ≡ file_length head.nodes head.swaps = omega (arith, good.nodes, good.swaps) in
    subst (BreaksFront bytes) (sym by.0) (inr (good_is_head bytes head good, λ le. by.1 (omega (arith, lengths))))

pub front_fault : (bytes : List ℕ) (fault : ImageFault) → front_of bytes ≡ Err fault → BreaksFront bytes fault
front_fault bytes fault is = front_told bytes fault (head_of bytes) refl is

behind : (bytes : List ℕ) (found : Result Head ImageFault) → head_of bytes ≡ found → front_of bytes ≡ front_behind found bytes
behind bytes found is = ap (λ (f : Result Head ImageFault). front_behind f bytes) is

short_found : (bytes : List ℕ) → (BreaksHead bytes Short ⊎ (IsHead bytes × ¬ (told_length bytes ≤ length bytes))) → front_of bytes ≡ Err Short
short_found bytes (inl breaks) = behind bytes _ (head_found bytes Short breaks)
short_found bytes (inr less) =
    behind bytes _ (head_taken bytes less.0) ∙ is_short (length bytes) (told_length bytes) (image_at (told_head bytes) bytes) less.1

pub front_found : (bytes : List ℕ) (fault : ImageFault) → BreaksFront bytes fault → front_of bytes ≡ Err fault
front_found bytes Short breaks = short_found bytes breaks
front_found bytes Magic breaks = behind bytes _ (head_found bytes Magic breaks)
front_found bytes Version breaks = behind bytes _ (head_found bytes Version breaks)
front_found bytes Sizes breaks = behind bytes _ (head_found bytes Sizes breaks)
front_found bytes Long breaks = absurd breaks
front_found bytes Memory breaks = absurd breaks

-- the first fault of a file
too_long : (long wanted : ℕ) (image : Image) (fault : ImageFault) → no_more long wanted image ≡ Err fault → (fault ≡ Long) × ¬ (long ≤ wanted)
too_long long wanted image fault is = (grind (arith, nat_tests), λ le. grind (arith, nat_tests))

is_long : (long wanted : ℕ) (image : Image) → ¬ (long ≤ wanted) → no_more long wanted image ≡ Err Long
is_long long wanted image h = grind (arith, nat_tests)

file_told : (bytes : List ℕ) (fault : ImageFault) (found : Result Image ImageFault) → front_of bytes ≡ found → whole_of found bytes ≡ Err fault → BreaksFile bytes fault
file_told bytes fault (Err other) read is = of_front bytes fault (front_fault bytes fault (read ∙ cc))
file_told bytes fault (Ok image) read is =
    let front : Front bytes image = front_parts bytes image (head_of bytes) refl read in
    let by = too_long (length bytes) (file_length image.nodes image.swaps) image fault is in
    let lengths : told_length bytes ≡ file_length image.nodes image.swaps = omega (arith, front.head.nodes, front.head.swaps) in
    subst (BreaksFile bytes) (sym by.0) (good_is_head bytes _ front.head, λ le. by.1 (omega (arith, lengths)))

pub file_fault : (bytes : List ℕ) (fault : ImageFault) → image_of bytes ≡ Err fault → BreaksFile bytes fault
file_fault bytes fault is = file_told bytes fault (front_of bytes) refl is

whole : (bytes : List ℕ) (found : Result Image ImageFault) → front_of bytes ≡ found → image_of bytes ≡ whole_of found bytes
whole bytes found is = ap (λ (f : Result Image ImageFault). whole_of f bytes) is

pub file_found : (bytes : List ℕ) (fault : ImageFault) → BreaksFile bytes fault → image_of bytes ≡ Err fault
file_found bytes Short breaks = whole bytes _ (front_found bytes Short breaks)
file_found bytes Magic breaks = whole bytes _ (front_found bytes Magic breaks)
file_found bytes Version breaks = whole bytes _ (front_found bytes Version breaks)
file_found bytes Sizes breaks = whole bytes _ (front_found bytes Sizes breaks)
file_found bytes Long breaks =
    let image : Image = image_at (told_head bytes) bytes in
    let front : front_of bytes ≡ Ok (image_at (told_head bytes) bytes) =
    behind bytes _ (head_taken bytes breaks.0) ∙ enough (length bytes) (told_length bytes) (image_at (told_head bytes) bytes) (omega (arith, breaks.1)) in
    whole bytes _ front ∙ is_long (length bytes) (told_length bytes) (image_at (told_head bytes) bytes) breaks.1
file_found bytes Memory breaks = absurd breaks
