use Rattle.std.proofs.Common.{take, ◌+◌, ◌≤◌}
use Rattle.std.specs.Io.KnownBytes.{Appends}
use Rattle.bz_lines.specs.Lines.{lines_of, text_of}
use Rattle.bz_traces.proofs.write.write_journal.Given as goal

-- the first line and those of the marks so far are written
abbrev pub invariant-loop-i : goal.invariant-loop-i
invariant-loop-i g l = record {
  written : Appends (g.K.Sink.held l.fn.sink) (g.K.Sink.held l.sink) (text_of (take (l.i + 1) (lines_of l.config l.journal)));
  later : g.K.Sink.faults l.fn.sink ≤ g.K.Sink.faults l.sink;
}
