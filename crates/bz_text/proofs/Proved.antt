-- What this crate proves, as lemmas that other crates cite by these names.
use Rattle.bz_text.proofs.Fates.{fates-are-right}
use Rattle.bz_text.proofs.InTime.{reports-are-in-time}
use Rattle.bz_text.proofs.RightReports.{reports-are-right}
use Rattle.bz_text.proofs.RightSummaries.{counts-are-the-ends, each-count-is-right}
use Rattle.bz_text.specs.Fates.{FatesAreRight}
use Rattle.bz_text.specs.InTime.{ReportsAreInTime}
use Rattle.bz_text.specs.RightLines.{ReportsAreRight}
use Rattle.bz_text.specs.RightSummary.{CountsAreTheEnds, EachCountIsRight}

-- the report of a sound journal has a line for each End, and each line tells the call that was open then, with its right reply
pub reports_are_right : ReportsAreRight
reports_are_right = reports-are-right

-- the counts of a summary are together as many as the journal has Ends: each is counted once
pub counts_are_the_ends : CountsAreTheEnds
counts_are_the_ends = counts-are-the-ends

-- each count of a summary is the number of Ends with its reply
pub each_count_is_right : EachCountIsRight
each_count_is_right = each-count-is-right

-- the line of a call that was open at a cut says `kept` where the journal has its Effect, and otherwise `lost`
pub fates_are_right : FatesAreRight
fates_are_right = fates-are-right

-- the lines of the calls that have ended stand in the order of their moments
pub reports_are_in_time : ReportsAreInTime
reports_are_in_time = reports-are-in-time
