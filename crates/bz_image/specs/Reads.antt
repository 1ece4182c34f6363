-- What bytes are: an image, or the first fault that they have.
use Rattle.std.specs.Prelude.{◌≡◌, ℕ, zero, suc, ◌&&◌, ◌==◌, nat_lt, nat_le, Bool, if◌then◌else◌, List, [], ◌∷◌, length, take, drop, bytes_eq, Result, Ok, Err, IsOk}
use Rattle.byteorder.specs.Endian.{little_number}
use Rattle.bz_layout.specs.declared.limits.TheConstants.{MIN_NODES, MAX_NODES, MIN_SWAPS, MAX_SWAPS}
use Rattle.bz_image.specs.declared.form.TheConstants.{VERSION, VERSION_AT, NODES_AT, SWAPS_AT, HEAD_BYTES, WORD_BYTES}
use Rattle.bz_image.specs.declared.image.Head.{Head}
use Rattle.bz_image.specs.declared.image.Image.{Image}
use Rattle.bz_image.specs.declared.fault.ImageFault.{ImageFault}
use Rattle.bz_image.specs.declared.fault.ImageFault.TheVariants.{Short, Magic, Version, Sizes, Long, Memory}
use Rattle.bz_image.specs.Form.{magic, word_count, file_length}

-- the number in the four bytes at a place
abbrev pub number_at : ℕ → List ℕ → ℕ
number_at place bytes = little_number 4 (drop place bytes)

-- so many words, in eight bytes each
abbrev pub words_in : ℕ → List ℕ → List ℕ
words_in zero bytes = []
words_in (suc n) bytes = little_number WORD_BYTES bytes ∷ words_in n (drop WORD_BYTES bytes)

-- a memory may have so many node slots and descriptors
abbrev pub sizes_fit : ℕ → ℕ → Bool
sizes_fit nodes swaps =
    (nat_le MIN_NODES nodes && nat_le nodes MAX_NODES) && (nat_le MIN_SWAPS swaps && nat_le swaps MAX_SWAPS)

-- a head whose magic bytes and version are right
abbrev pub sizes_of : ℕ → ℕ → Result Head ImageFault
sizes_of nodes swaps = if sizes_fit nodes swaps then Ok (record { nodes = nodes; swaps = swaps }) else Err Sizes

-- the head at the front of bytes, or the first fault that it has
abbrev pub head_of : List ℕ → Result Head ImageFault
head_of bytes =
    if nat_lt (length bytes) HEAD_BYTES then Err Short
    else if bytes_eq (take VERSION_AT bytes) magic
    then (if number_at VERSION_AT bytes == VERSION
    then sizes_of (number_at NODES_AT bytes) (number_at SWAPS_AT bytes)
    else Err Version)
    else Err Magic

-- the image of this head, whose words stand behind it
abbrev pub image_at : Head → List ℕ → Image
image_at head bytes = record {
  nodes = head.nodes;
  swaps = head.swaps;
  words = words_in (word_count head.nodes head.swaps) (drop HEAD_BYTES bytes);
}

-- the image at the front, where other bytes may follow
abbrev pub front_behind : Result Head ImageFault → List ℕ → Result Image ImageFault
front_behind (Err fault) bytes = Err fault
front_behind (Ok head) bytes =
    if nat_lt (length bytes) (file_length head.nodes head.swaps) then Err Short else Ok (image_at head bytes)

abbrev pub front_of : List ℕ → Result Image ImageFault
front_of bytes = front_behind (head_of bytes) bytes

-- the image that the bytes are, where none may follow
abbrev pub whole_of : Result Image ImageFault → List ℕ → Result Image ImageFault
whole_of (Err fault) bytes = Err fault
whole_of (Ok image) bytes = if nat_lt (file_length image.nodes image.swaps) (length bytes) then Err Long else Ok image

abbrev pub image_of : List ℕ → Result Image ImageFault
image_of bytes = whole_of (front_of bytes) bytes

-- a reader answers what the definition says, and want of memory only where there is an image
abbrev pub Reads : Result Image ImageFault → Result Image ImageFault → Type 0
Reads found (Ok image) = found ≡ Ok image
Reads found (Err Short) = found ≡ Err Short
Reads found (Err Magic) = found ≡ Err Magic
Reads found (Err Version) = found ≡ Err Version
Reads found (Err Sizes) = found ≡ Err Sizes
Reads found (Err Long) = found ≡ Err Long
Reads found (Err Memory) = IsOk found

-- the same with the length of the image that was found
abbrev pub ReadsFront : Result Image ImageFault → Result (Image × ℕ) ImageFault → Type 0
ReadsFront found (Ok (image, count)) = (found ≡ Ok image) × (count ≡ file_length image.nodes image.swaps)
ReadsFront found (Err Short) = found ≡ Err Short
ReadsFront found (Err Magic) = found ≡ Err Magic
ReadsFront found (Err Version) = found ≡ Err Version
ReadsFront found (Err Sizes) = found ≡ Err Sizes
ReadsFront found (Err Long) = found ≡ Err Long
ReadsFront found (Err Memory) = IsOk found
