-- What this crate proves, as lemmas that other crates cite by these names.
use Rattle.bz_search.proofs.Powers.{digits-are-binary}
use Rattle.bz_search.specs.Digits.{DigitsAreBinary}

-- the binary digits of a number are as many as it needs
pub digits_are_binary : DigitsAreBinary
digits_are_binary = digits-are-binary
