-- What was read of a source, and what it is where it is no image.
use Rattle.std.proofs.Common.{◌≡◌, ◌≢◌, ◌≤◌, ◌<◌, ℕ, Bool, true, false, List, [], ◌++◌, take, length, append-nil, append_assoc, refl, sym, ap, ◌∙◌, arith, subst}
use Rattle.std.specs.Prelude.{Option, Result, Ok, Err, if◌then◌else◌, nat_lt}
use Rattle.std.proofs.lemmas.Bool.Decides.{nat_tests}
use Rattle.std.specs.Io.KnownBytes.{Consumes, IsAtEnd}
use Rattle.bz_io.proofs.Consumed.{consumes_twice}
use Rattle.bz_image.specs.Faults.{BreaksHead}
use Rattle.bz_image.specs.Fetches.{IsFilled, GaveFault}
use Rattle.bz_image.specs.Form.{file_length, file_of_image}
use Rattle.bz_image.specs.Reads.{head_of, front_behind, front_of, whole_of, image_of, image_at, Reads}
use Rattle.bz_image.specs.declared.fault.ImageFault.{ImageFault}
use Rattle.bz_image.specs.declared.fault.ImageFault.TheVariants.{Short, Magic, Version, Sizes, Long, Memory}
use Rattle.bz_image.specs.declared.image.Head.{Head}
use Rattle.bz_image.specs.declared.image.Image.{Image}
use Rattle.bz_image.proofs.FaultLemmas.{head_told}
use Rattle.bz_image.proofs.HeadLemmas.{head_alone, head_good}

-- behind these bytes the source gave others, and there are at most so many in all
pub record Filling (left left_after : Option (List ℕ)) (bytes filled : List ℕ) (count : ℕ) : Type 0 where
  pub given : List ℕ
  pub consumed : Consumes left left_after given
  pub is : filled ≡ bytes ++ given
  pub fits : length filled ≤ count

consumes_none : (a : Option (List ℕ)) → Consumes a a []
consumes_none (Option.None) = tt
consumes_none (Option.Some xs) = refl

pub filling_none : (a : Option (List ℕ)) (bytes : List ℕ) (count : ℕ) → length bytes ≤ count → Filling a a bytes bytes count
filling_none a bytes count fits = record { given = []; consumed = consumes_none a; is = sym (append-nil bytes); fits = fits }

-- a piece more
pub filling_more : (a b c : Option (List ℕ)) (bytes filled more piece : List ℕ) (taken count : ℕ) → Filling a b bytes filled count → Consumes b c (take taken piece) → more ≡ filled ++ take taken piece → length more ≤ count → Filling a c bytes more count
filling_more a b c bytes filled more piece taken count h consumed is fits = record {
  given = h.given ++ take taken piece;
  consumed = consumes_twice a b c h.given (take taken piece) h.consumed consumed;
  is = is ∙ ap (λ (xs : List ℕ). xs ++ take taken piece) h.is ∙ append_assoc bytes h.given (take taken piece);
  fits = fits;
}

pub filled_whole : (a b : Option (List ℕ)) (bytes filled : List ℕ) (count : ℕ) → Filling a b bytes filled count → count ≤ length filled → IsFilled a b bytes filled count
filled_whole a b bytes filled count h whole = record { given = h.given; consumed = h.consumed; is = h.is; fits = h.fits; ended = λ less. absurd (omega (arith, less, whole)) }

pub filled_at_end : (a b c : Option (List ℕ)) (bytes filled piece : List ℕ) (count : ℕ) → Filling a b bytes filled count → Consumes b c (take 0 piece) → IsAtEnd c → IsFilled a c bytes filled count
filled_at_end a b c bytes filled piece count h none end = record {
  given = h.given;
  consumed = subst (Consumes a c) (append-nil h.given) (consumes_twice a b c h.given [] h.consumed none);
  is = h.is;
  fits = h.fits;
  ended = λ less. end;
}

-- the bytes of an image, of which the head was read first
pub all_given : (a b c : Option (List ℕ)) (head bytes : List ℕ) (most count : ℕ) (image : Image) → IsFilled a b [] head most → IsFilled b c head bytes count → bytes ≡ file_of_image image → Consumes a c (file_of_image image)
all_given a b c head bytes most count image first second is =
    subst (Consumes a c) (ap (λ (xs : List ℕ). xs ++ second.given) (sym first.is) ∙ sym second.is ∙ is) (consumes_twice a b c first.given second.given first.consumed second.consumed)

-- a head that is none
pub bad_head : (a b : Option (List ℕ)) (head : List ℕ) (fault : ImageFault) → IsFilled a b [] head 20 → head_of head ≡ Err fault → GaveFault a b fault
bad_head a b head fault filled is = record {
  bytes = head;
  given = subst (Consumes a b) (sym filled.is) filled.consumed;
  is_fault = ap (λ (found : Result Head ImageFault). front_behind found head) is;
  ended = λ short. let few : BreaksHead head Short = head_told head Short (is ∙ ap (λ (f : ImageFault). Err f) short) in filled.ended (by_few (length head) few);
  alone = λ other. filled.fits;
}
  where
    by_few : (n : ℕ) → ¬ (20 ≤ n) → n < 20
    by_few n few = grind arith

-- bytes that a good head stands before, no more than it tells: where they are no image they are too few
by_length : (long most : ℕ) (image : Image) (fault : ImageFault) → long ≤ most
    → (if nat_lt long most then Err Short else (if nat_lt most long then Err Long else Ok image)) ≡ Err fault → (long < most) × (fault ≡ Short)
by_length long most image fault fits is = (grind (arith, nat_tests), grind (arith, nat_tests))

pub bad_rest : (a b c : Option (List ℕ)) (start bytes : List ℕ) (head : Head) (count : ℕ) (fault : ImageFault) → IsFilled a b [] start 20 → IsFilled b c start bytes count → count ≡ file_length head.nodes head.swaps
    → Ok head ≡ head_of start → Reads (image_of bytes) (Err fault) → fault ≢ Memory → GaveFault a c fault
bad_rest a b c start bytes head count fault first second long read told known = record {
  bytes = bytes;
  given = subst (Consumes a c) (ap (λ (xs : List ℕ). xs ++ second.given) (sym first.is) ∙ sym second.is) (consumes_twice a b c first.given second.given first.consumed second.consumed);
  is_fault = front_is ∙ short-front (length bytes) (file_length head.nodes head.swaps) few.0 ∙ ap (λ (f : ImageFault). Err f) (sym few.1);
  ended = λ short. second.ended (omega (arith, few.0, long));
  alone = λ other. absurd (other few.1);
}
  where
    told_by : (f : ImageFault) → Reads (image_of bytes) (Err f) → f ≢ Memory → image_of bytes ≡ Err f
    told_by Short h known = h
    told_by Magic h known = h
    told_by Version h known = h
    told_by Sizes h known = h
    told_by Long h known = h
    told_by Memory h known = absurd (known refl)

    head_is : head_of bytes ≡ Ok head
    head_is = ap head_of second.is ∙ head_alone start second.given (head_good start head (sym read)).enough ∙ sym read

    front_is : front_of bytes ≡ (if nat_lt (length bytes) (file_length head.nodes head.swaps) then Err Short else Ok (image_at head bytes))
    front_is = ap (λ (found : Result Head ImageFault). front_behind found bytes) head_is

    whole_by : (short : Bool) → whole_of (if short then Err Short else Ok (image_at head bytes)) bytes ≡ (if short then Err Short else (if nat_lt (file_length head.nodes head.swaps) (length bytes) then Err Long else Ok (image_at head bytes)))
    whole_by true = refl
    whole_by false = refl

    whole_is : image_of bytes ≡ (if nat_lt (length bytes) (file_length head.nodes head.swaps) then Err Short else (if nat_lt (file_length head.nodes head.swaps) (length bytes) then Err Long else Ok (image_at head bytes)))
    whole_is = ap (λ (found : Result Image ImageFault). whole_of found bytes) front_is ∙ whole_by (nat_lt (length bytes) (file_length head.nodes head.swaps))

    few : (length bytes < file_length head.nodes head.swaps) × (fault ≡ Short)
    few = by_length (length bytes) (file_length head.nodes head.swaps) (image_at head bytes) fault (omega (arith, second.fits, long)) (sym whole_is ∙ told_by fault told known)

    short-front : (n most : ℕ) → n < most → (if nat_lt n most then Err Short else Ok (image_at head bytes)) ≡ Err Short
    short-front n most less = grind (arith, nat_tests)
