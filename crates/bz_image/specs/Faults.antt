-- The rules of a file, in the order in which they are asked, and the first that bytes break.
use Rattle.std.specs.Prelude.{◌≡◌, ◌≤◌, ◌⊎◌, ℕ, List, length, take}
use Rattle.bz_image.specs.declared.form.TheConstants.{VERSION, VERSION_AT, NODES_AT, SWAPS_AT, HEAD_BYTES}
use Rattle.bz_image.specs.declared.fault.ImageFault.{ImageFault}
use Rattle.bz_image.specs.declared.fault.ImageFault.TheVariants.{Short, Magic, Version, Sizes, Long, Memory}
use Rattle.bz_image.specs.Form.{magic, file_length, AreSizes}
use Rattle.bz_image.specs.Reads.{number_at}

-- the bytes are enough for a head
abbrev pub HasHead : List ℕ → Type 0
HasHead bytes = HEAD_BYTES ≤ length bytes

-- they begin as an image file does
abbrev pub HasMagic : List ℕ → Type 0
HasMagic bytes = take VERSION_AT bytes ≡ magic

-- their version is the one that is known
abbrev pub HasVersion : List ℕ → Type 0
HasVersion bytes = number_at VERSION_AT bytes ≡ VERSION

-- a memory may have so many node slots and descriptors as it tells
abbrev pub HasSizes : List ℕ → Type 0
HasSizes bytes = AreSizes (number_at NODES_AT bytes) (number_at SWAPS_AT bytes)

-- the length that a head tells
abbrev pub told_length : List ℕ → ℕ
told_length bytes = file_length (number_at NODES_AT bytes) (number_at SWAPS_AT bytes)

-- a head breaks this rule, and none before it
abbrev pub BreaksHead : List ℕ → ImageFault → Type 0
BreaksHead bytes Short = ¬ HasHead bytes
BreaksHead bytes Magic = HasHead bytes × ¬ HasMagic bytes
BreaksHead bytes Version = HasHead bytes × HasMagic bytes × ¬ HasVersion bytes
BreaksHead bytes Sizes = HasHead bytes × HasMagic bytes × HasVersion bytes × ¬ HasSizes bytes
BreaksHead bytes Long = ⊥
BreaksHead bytes Memory = ⊥

-- a head breaks no rule
abbrev pub IsHead : List ℕ → Type 0
IsHead bytes = HasHead bytes × HasMagic bytes × HasVersion bytes × HasSizes bytes

-- the front of bytes breaks this rule of a file, and none before it
abbrev pub BreaksFront : List ℕ → ImageFault → Type 0
BreaksFront bytes Short = BreaksHead bytes Short ⊎ (IsHead bytes × ¬ (told_length bytes ≤ length bytes))
BreaksFront bytes Magic = BreaksHead bytes Magic
BreaksFront bytes Version = BreaksHead bytes Version
BreaksFront bytes Sizes = BreaksHead bytes Sizes
BreaksFront bytes Long = ⊥
BreaksFront bytes Memory = ⊥

-- the bytes break this rule of a file, and none before it
abbrev pub BreaksFile : List ℕ → ImageFault → Type 0
BreaksFile bytes Short = BreaksFront bytes Short
BreaksFile bytes Magic = BreaksFront bytes Magic
BreaksFile bytes Version = BreaksFront bytes Version
BreaksFile bytes Sizes = BreaksFront bytes Sizes
BreaksFile bytes Long = IsHead bytes × ¬ (length bytes ≤ told_length bytes)
BreaksFile bytes Memory = ⊥
