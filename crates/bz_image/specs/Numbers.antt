-- The numbers of image files, each once: a change of the format replaces them here and in the constants.
use Rattle.std.specs.Prelude.{◌≡◌}
use Rattle.bz_image.specs.declared.form.TheConstants.{VERSION, HEAD_BYTES, WORD_BYTES}

pub record NumbersOfFormats : Type 0 where
  pub version : VERSION ≡ 2
  pub head_bytes : HEAD_BYTES ≡ 20
  pub word_bytes : WORD_BYTES ≡ 8
