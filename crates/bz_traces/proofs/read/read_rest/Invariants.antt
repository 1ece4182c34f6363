use Rattle.std.proofs.Common.{◌≡◌, ◌+◌, ℕ, ◌≤◌, ◌-◌, ◌++◌, List, drop, length}
use Rattle.bz_traces.specs.Journals.{HasLines}
use Rattle.bz_lines.specs.Lines.{lines_of, text_of}
use Rattle.bz_traces.specs.Steps.{AreCounts, HasRoomFor, feeds}
use Rattle.bz_traces.proofs.read.read_rest.Given as goal

-- the bytes are the lines of the marks so far, and what is left
abbrev pub invariant-loop-at : goal.invariant-loop-at
invariant-loop-at l = record {
  within : l.at ≤ length l.rest;
  lines : HasLines l.config l.journal;
  counts : AreCounts l.journal.past l.counts;
  room : HasRoomFor (feeds (drop l.at l.rest) + 1) l.journal;
  text : (bytes : List ℕ) → bytes ≡ text_of (lines_of l.config l.fn.journal) ++ l.rest → bytes ≡ text_of (lines_of l.config l.journal) ++ drop l.at l.rest;
}

abbrev pub decreases-loop-at : goal.decreases-loop-at
decreases-loop-at l = length l.rest - l.at
