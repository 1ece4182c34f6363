-- What a source gave that begins with an image file, or should.
use Rattle.std.specs.Prelude.{◌≡◌, ◌≢◌, ◌≤◌, ◌<◌, ℕ, List, ◌++◌, length, Option, Err}
use Rattle.std.specs.Io.KnownBytes.{Consumes, IsAtEnd}
use Rattle.bz_image.specs.declared.fault.ImageFault.{ImageFault}
use Rattle.bz_image.specs.declared.fault.ImageFault.TheVariants.{Short}
use Rattle.bz_image.specs.declared.form.TheConstants.{HEAD_BYTES}
use Rattle.bz_image.specs.Reads.{front_of}

-- behind these bytes the source gave others, so that there are so many in all, or fewer where it was at its end
pub record IsFilled (left left_after : Option (List ℕ)) (bytes filled : List ℕ) (count : ℕ) : Type 0 where
  pub given : List ℕ
  pub consumed : Consumes left left_after given
  pub is : filled ≡ bytes ++ given
  pub fits : length filled ≤ count
  pub ended : length filled < count → IsAtEnd left_after

-- the source gave bytes that are no image and begin with none, and this is the fault of their front. Where they are too few, it
-- had no more; and every other fault is told of the bytes of a head alone.
pub record GaveFault (left left_after : Option (List ℕ)) (fault : ImageFault) : Type 0 where
  pub bytes : List ℕ
  pub given : Consumes left left_after bytes
  pub is_fault : front_of bytes ≡ Err fault
  pub ended : fault ≡ Short → IsAtEnd left_after
  pub alone : fault ≢ Short → length bytes ≤ HEAD_BYTES
