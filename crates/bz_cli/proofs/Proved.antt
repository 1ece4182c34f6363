-- What this crate proves, as lemmas that other crates cite by these names.
use Rattle.bz_cli.proofs.UsageLemmas.{one_line}
use Rattle.bz_cli.specs.Laws.{WordsAreOneLine}

-- words that are one command line are no other
pub words_are_one_line : WordsAreOneLine
words_are_one_line = one_line
