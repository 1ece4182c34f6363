-- Writing and reading are the inverse of each other, and faults are told in their order.
use Rattle.std.specs.Prelude.{◌≡◌, ◌↔◌, ◌≤◌, ◌<◌, ◌^◌, ℕ, List, ◌++◌, length, take, slice_index, Ok, Err}
use Rattle.bz_layout.specs.declared.config.Config.{Config}
use Rattle.bz_layout.specs.Config.{IsConfig}
use Rattle.bz_layout.specs.Addresses.{words_of}
use Rattle.bz_image.specs.declared.form.TheConstants.{HEAD_BYTES}
use Rattle.bz_image.specs.declared.image.Image.{Image}
use Rattle.bz_image.specs.declared.fault.ImageFault.{ImageFault}
use Rattle.bz_image.specs.Form.{file_length, file_of_image, IsSized}
use Rattle.bz_image.specs.Reads.{head_of, front_of, image_of}
use Rattle.bz_image.specs.Faults.{BreaksHead, BreaksFront, BreaksFile}

-- what is written of an image reads back as it
abbrev pub ImagesReadBack : Type 0
ImagesReadBack = (image : Image) → IsSized image → image_of (file_of_image image) ≡ Ok image

-- also at the front, whatever stands behind it
abbrev pub FrontsReadBack : Type 0
FrontsReadBack = (image : Image) (rest : List ℕ) → IsSized image → front_of (file_of_image image ++ rest) ≡ Ok image

-- each of them is a byte
abbrev pub AreBytes : List ℕ → Type 0
AreBytes bytes = (i : ℕ) → slice_index bytes i < 256

-- the bytes are those of this image
pub record IsFileOf (image : Image) (bytes : List ℕ) : Type 0 where
  pub is_sized : IsSized image
  pub bytes_are : bytes ≡ file_of_image image

-- bytes that read as an image are what is written of it
abbrev pub ImagesAreWritten : Type 0
ImagesAreWritten = (bytes : List ℕ) (image : Image) → AreBytes bytes → image_of bytes ≡ Ok image → IsFileOf image bytes

-- and at the front those that its length counts are
abbrev pub FrontsAreWritten : Type 0
FrontsAreWritten =
    (bytes : List ℕ) (image : Image) → AreBytes bytes → front_of bytes ≡ Ok image
    → IsFileOf image (take (file_length image.nodes image.swaps) bytes)

-- a fault is told exactly where its rule is the first that is broken
pub record TellsFault (bytes : List ℕ) (fault : ImageFault) : Type 0 where
  pub head : (head_of bytes ≡ Err fault) ↔ BreaksHead bytes fault
  pub front : (front_of bytes ≡ Err fault) ↔ BreaksFront bytes fault
  pub file : (image_of bytes ≡ Err fault) ↔ BreaksFile bytes fault

abbrev pub FaultsAreFirst : Type 0
FaultsAreFirst = (bytes : List ℕ) (fault : ImageFault) → TellsFault bytes fault

-- a head is read from its own bytes alone
abbrev pub HeadsStandAlone : Type 0
HeadsStandAlone = (bytes rest : List ℕ) → HEAD_BYTES ≤ length bytes → head_of (bytes ++ rest) ≡ head_of bytes

-- the words of a memory, with its numbers, are an image that has a file
abbrev pub MemoriesAreSized : Type 0
MemoriesAreSized =
    (c : Config) (words : List ℕ) → IsConfig c → length words ≡ words_of c → ((a : ℕ) → slice_index words a < 2 ^ 64)
    → IsSized (record { nodes = c.nodes; swaps = c.swaps; words = words })
