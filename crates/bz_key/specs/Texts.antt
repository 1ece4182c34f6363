-- The texts of errors.
use Rattle.std.specs.Prelude.{ℕ, List, codes}
use Rattle.bz_key.specs.declared.error.KeyError.{KeyError}
use Rattle.bz_key.specs.declared.error.KeyError.TheVariants.{Empty, TooLong}

abbrev pub key_error_text : KeyError → List ℕ
key_error_text Empty = codes "a key has at least one byte"
key_error_text TooLong = codes "too many bytes for a key"
