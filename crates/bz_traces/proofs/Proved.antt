-- What this crate proves, as lemmas that other crates cite by these names.
use Rattle.bz_traces.proofs.Apart.{apart, one_journal}
use Rattle.bz_traces.proofs.Fitting.{fitting_have_lines}
use Rattle.std.proofs.Common.{refl}
use Rattle.std.specs.Fmt.{digits}
use Rattle.json.specs.Print.{escape_byte}
use Rattle.bz_key.specs.Spelling.{spelled, spelled_bytes, spelled_byte}
use Rattle.bz_traces.specs.Example.{TwoLinesAreThese}
use Rattle.bz_traces.specs.Laws.{NoLineBreaksLines, TextIsOfOneJournal, FittingHaveLines}

-- what is read as a journal is broken by no line
pub no_line_breaks_lines : NoLineBreaksLines
no_line_breaks_lines = apart

-- and it is what was written of no other journal
pub text_is_of_one_journal : TextIsOfOneJournal
text_is_of_one_journal = one_journal

-- which journals have lines
pub fitting_journals_have_lines : FittingHaveLines
fitting_journals_have_lines = fitting_have_lines

-- the lines of fresh memory and of an insert that begins, computed
pub two_lines_are_these : TwoLinesAreThese
unfolding escape_byte digits spelled spelled_bytes spelled_byte
two_lines_are_these = refl
