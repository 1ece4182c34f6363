-- Images, read and written.
use Rattle.std.proofs.Common.{◌≡◌, ◌<◌, ◌≤◌, ℕ, ◌*◌, List, [], ◌++◌, length, take, drop, refl, sym, ap, ◌∙◌, Result, Ok, Err, arith, length-append, append-nil, take_all, subst}
use Rattle.std.specs.Prelude.{◌∷◌, ◌^◌, slice_index, nat_lt, if◌then◌else◌}
use Rattle.std.proofs.Math.Seq.{take-add}
use Rattle.std.proofs.lemmas.Bool.Decides.{nat_tests}
use Rattle.std.proofs.lemmas.List.{length-drop}
use Rattle.bz_image.specs.declared.image.Head.{Head}
use Rattle.bz_image.specs.declared.image.Image.{Image}
use Rattle.bz_image.specs.declared.fault.ImageFault.{ImageFault}
use Rattle.bz_image.specs.declared.fault.ImageFault.TheVariants.{Short, Long}
use Rattle.bz_image.specs.Form.{word_count, file_length, bytes_of_head, bytes_of_words, file_of_image, IsSized}
use Rattle.bz_image.specs.Reads.{words_in, head_of, image_at, front_behind, front_of, whole_of, image_of}
use Rattle.bz_image.specs.Laws.{AreBytes, IsFileOf}
use Rattle.bz_image.proofs.WordLemmas.{words_in-bytes, length-words_in, words_fit, bytes-drop, bytes_of_words-in}
use Rattle.bz_image.proofs.HeadLemmas.{Good, head_reads, head_good, head_again}

abbrev FitsAll : List ℕ → Type 0
FitsAll words = (a : ℕ) → slice_index words a < 2 ^ 64

abbrev pub enough_for : ℕ → ℕ → Image → Result Image ImageFault
enough_for long wanted image = if nat_lt long wanted then Err Short else Ok image

pub enough : (long wanted : ℕ) (image : Image) → wanted ≤ long → enough_for long wanted image ≡ Ok image
enough long wanted image h = grind (arith, nat_tests)

enough_was : (long wanted : ℕ) (image found : Image) → enough_for long wanted image ≡ Ok found → wanted ≤ long
enough_was long wanted image found is = grind (arith, nat_tests)

enough_is : (long wanted : ℕ) (image found : Image) → enough_for long wanted image ≡ Ok found → image ≡ found
enough_is long wanted image found is = grind (arith, nat_tests)

abbrev pub no_more : ℕ → ℕ → Image → Result Image ImageFault
no_more long wanted image = if nat_lt wanted long then Err Long else Ok image

ends : (long wanted : ℕ) (image : Image) → long ≡ wanted → no_more long wanted image ≡ Ok image
ends long wanted image h = grind (arith, nat_tests)

ends_was : (long wanted : ℕ) (image found : Image) → no_more long wanted image ≡ Ok found → long ≤ wanted
ends_was long wanted image found is = grind (arith, nat_tests)

ends_is : (long wanted : ℕ) (image found : Image) → no_more long wanted image ≡ Ok found → image ≡ found
ends_is long wanted image found is = grind (arith, nat_tests)

length-bytes_of_words : (words : List ℕ) → length (bytes_of_words words) ≡ 8 * length words
length-bytes_of_words [] = refl
length-bytes_of_words (w ∷ words) = omega (arith, length-bytes_of_words words)

length-file_of_image : (image : Image) → IsSized image → length (file_of_image image) ≡ file_length image.nodes image.swaps
length-file_of_image image is = omega (arith, length-bytes_of_words image.words, is.counted)

-- an image that is written reads back, whatever stands behind it
pub front_reads : (image : Image) (rest : List ℕ) → IsSized image → front_of (file_of_image image ++ rest) ≡ Ok image
front_reads image rest is =
    let head : Head = record { nodes = image.nodes; swaps = image.swaps } in
    let bytes : List ℕ = file_of_image image ++ rest in
    let read : head_of (file_of_image image ++ rest) ≡ Ok (record { nodes = image.nodes; swaps = image.swaps }) =
    head_reads image.nodes image.swaps (bytes_of_words image.words ++ rest) is.sizes in
    let words : words_in (word_count image.nodes image.swaps) (bytes_of_words image.words ++ rest) ≡ image.words =
    ap (λ (i : ℕ). words_in i (bytes_of_words image.words ++ rest)) (sym is.counted) ∙ words_in-bytes image.words rest is.words_fit in
    ap (λ (found : Result Head ImageFault). front_behind found (file_of_image image ++ rest)) read
    ∙ enough (length (file_of_image image ++ rest)) (file_length image.nodes image.swaps) (image_at (record { nodes = image.nodes; swaps = image.swaps }) (file_of_image image ++ rest)) (omega (arith, length-append (bytes_of_words image.words) rest, length-bytes_of_words image.words, is.counted))
    ∙ ap (λ (ws : List ℕ). Ok (record { nodes = image.nodes; swaps = image.swaps; words = ws })) words

pub record Front (bytes : List ℕ) (image : Image) : Type 0 where
  pub head : Good bytes (record { nodes = image.nodes; swaps = image.swaps })
  pub enough_bytes : file_length image.nodes image.swaps ≤ length bytes
  pub words_are : words_in (word_count image.nodes image.swaps) (drop 20 bytes) ≡ image.words

pub front_parts : (bytes : List ℕ) (image : Image) (found : Result Head ImageFault) → head_of bytes ≡ found → front_behind found bytes ≡ Ok image → Front bytes image
front_parts bytes image (Err fault) read is = absurd (cc)
front_parts bytes image (Ok head) read is =
    let same : image_at head bytes ≡ image = enough_is _ _ _ _ is in
    let nodes : head.nodes ≡ image.nodes = ap (λ (i : Image). i.nodes) same in
    let swaps : head.swaps ≡ image.swaps = ap (λ (i : Image). i.swaps) same in
    let words : words_in (word_count head.nodes head.swaps) (drop 20 bytes) ≡ image.words = ap (λ (i : Image). i.words) same in
    let both : word_count head.nodes head.swaps ≡ word_count image.nodes image.swaps = ap (λ (i : Image). word_count i.nodes i.swaps) same in
    record {
      head = head_good bytes _ (read ∙ ap (λ (i : Image). Ok (record { nodes = i.nodes; swaps = i.swaps })) same);
      enough_bytes = omega (arith, both, enough_was (length bytes) (file_length head.nodes head.swaps) (image_at head bytes) image is);
      words_are = ap (λ (i : ℕ). words_in i (drop 20 bytes)) (sym both) ∙ words;
    }

-- bytes with an image at the front are what is written of it, as far as it goes
pub front_written : (bytes : List ℕ) (image : Image) → AreBytes bytes → front_of bytes ≡ Ok image → IsFileOf image (take (file_length image.nodes image.swaps) bytes)
front_written bytes image are is =
    let front : Front bytes image = front_parts bytes image (head_of bytes) refl is in
    let count : ℕ = word_count image.nodes image.swaps in
    let text : bytes_of_words (words_in (word_count image.nodes image.swaps) (drop 20 bytes)) ≡ take (8 * word_count image.nodes image.swaps) (drop 20 bytes) =
    bytes_of_words-in (word_count image.nodes image.swaps) (8 * word_count image.nodes image.swaps) (drop 20 bytes) refl (omega (arith, length-drop 20 bytes, front.enough_bytes)) (bytes-drop 20 bytes are) in
    let behind : take (8 * word_count image.nodes image.swaps) (drop 20 bytes) ≡ bytes_of_words image.words = sym text ∙ ap bytes_of_words front.words_are in
    let first : take 20 bytes ≡ bytes_of_head image.nodes image.swaps = head_again bytes _ are front.head in
    record {
      is_sized = record {
        sizes = front.head.fit;
        counted = ap length (sym front.words_are) ∙ length-words_in (word_count image.nodes image.swaps) (drop 20 bytes);
        words_fit = subst FitsAll front.words_are (words_fit (word_count image.nodes image.swaps) (drop 20 bytes) (bytes-drop 20 bytes are));
      };
      bytes_are = take-add 20 (8 * word_count image.nodes image.swaps) bytes ∙ ap (λ (ys : List ℕ). ys ++ take (8 * word_count image.nodes image.swaps) (drop 20 bytes)) first ∙ ap (λ (ys : List ℕ). bytes_of_head image.nodes image.swaps ++ ys) behind;
    }

-- an image that is written reads back
pub image_reads : (image : Image) → IsSized image → image_of (file_of_image image) ≡ Ok image
image_reads image is =
    let front : front_of (file_of_image image) ≡ Ok image = ap front_of (sym (append-nil (file_of_image image))) ∙ front_reads image [] is in
    ap (λ (found : Result Image ImageFault). whole_of found (file_of_image image)) front
    ∙ ends (length (file_of_image image)) (file_length image.nodes image.swaps) image (length-file_of_image image is)

whole_parts : (bytes : List ℕ) (image : Image) (found : Result Image ImageFault) → front_of bytes ≡ found → whole_of found bytes ≡ Ok image → (front_of bytes ≡ Ok image) × (length bytes ≤ file_length image.nodes image.swaps)
whole_parts bytes image (Err fault) read is = absurd (cc)
whole_parts bytes image (Ok found) read is =
    let same : found ≡ image = ends_is (length bytes) (file_length found.nodes found.swaps) found image is in
    let lengths : file_length found.nodes found.swaps ≡ file_length image.nodes image.swaps = ap (λ (i : Image). file_length i.nodes i.swaps) same in
    (read ∙ ap (λ (i : Image). Ok i) same, omega (arith, lengths, ends_was (length bytes) (file_length found.nodes found.swaps) found image is))

-- bytes that are an image are what is written of it
pub image_written : (bytes : List ℕ) (image : Image) → AreBytes bytes → image_of bytes ≡ Ok image → IsFileOf image bytes
image_written bytes image are is =
    let parts = whole_parts bytes image (front_of bytes) refl is in
    let written : IsFileOf image (take (file_length image.nodes image.swaps) bytes) = front_written bytes image are parts.0 in
    record {
      is_sized = written.is_sized;
      bytes_are = sym (take_all (file_length image.nodes image.swaps) bytes parts.1) ∙ written.bytes_are;
    }

-- what a reader finds behind a head
pub front_is : (bytes : List ℕ) (head : Head) (image : Image) (count : ℕ) → Ok head ≡ head_of bytes → count ≡ file_length head.nodes head.swaps → count ≤ length bytes → image ≡ image_at head bytes
    → (front_of bytes ≡ Ok image) × (count ≡ file_length image.nodes image.swaps)
front_is bytes head image count read long fits is = (
  ap (λ (found : Result Head ImageFault). front_behind found bytes) (sym read)
      ∙ enough (length bytes) (file_length head.nodes head.swaps) (image_at head bytes) (omega (arith, long, fits))
      ∙ ap (λ (i : Image). Ok i) (sym is),
  long ∙ ap (λ (i : Image). file_length i.nodes i.swaps) (sym is),
)

pub image_is : (bytes : List ℕ) (head : Head) (image : Image) (count : ℕ) → Ok head ≡ head_of bytes → count ≡ file_length head.nodes head.swaps → count ≤ length bytes → length bytes ≤ count → image ≡ image_at head bytes → image_of bytes ≡ Ok image
image_is bytes head image count read long fits ends_there is =
    let front = front_is bytes head image count read long fits is in
    ap (λ (found : Result Image ImageFault). whole_of found bytes) front.0
    ∙ ends (length bytes) (file_length image.nodes image.swaps) image (omega (arith, front.1, fits, ends_there))

-- what was read has the size of a memory
pub image_sized : (bytes : List ℕ) (image : Image) → AreBytes bytes → image_of bytes ≡ Ok image → IsSized image
image_sized bytes image are is = (image_written bytes image are is).is_sized

pub front_sized : (bytes : List ℕ) (image : Image) → AreBytes bytes → front_of bytes ≡ Ok image → IsSized image
front_sized bytes image are is = (front_written bytes image are is).is_sized
