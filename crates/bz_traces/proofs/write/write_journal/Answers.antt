use Rattle.std.proofs.Common.{◌<◌, ◌+◌, length, map, reverse, arith}
use Rattle.bz_lines.specs.Lines.{lines_of, head_line, line_of}
use Rattle.bz_traces.proofs.LineLemmas.{count_lines, line_at}
use Rattle.bz_traces.proofs.WriteLemmas.{appends_line, grew_line, grew_head, grew_whole}
use Rattle.bz_traces.proofs.write.write_journal.Goals as goal

pub returns-in-Err-clause-front : goal.returns-in-Err-clause-front
returns-in-Err-clause-front g c = λ wrote. grew_head _ _ (head_line c.args.config.now c.args.journal.now.start) (map (line_of c.args.journal.now.pages) (reverse c.args.journal.now.past)) (rw c.start.ensures at c.in-Err.ensures.front wrote)

pub loop-i-preserved : goal.loop-i-preserved
loop-i-preserved g c =
    let within : c.loop-i.i < length c.args.journal.now.past = omega (arith, c.loop-i-test.true, c.length-i-end.ensures) in
    record {
      written = appends_line _ _ _ (lines_of c.args.config.now c.args.journal.now) (c.loop-i.i + 1) (line_of c.args.journal.now.pages c.mark-mark.result) (omega (arith, count_lines c.args.config.now c.args.journal.now))
          (line_at c.args.config.now c.args.journal.now c.loop-i.i c.mark-mark.result within c.mark-mark.ensures) c.loop-i.invariant.written c.in-Ok-write_mark.ensures.all;
      later = omega (arith, c.in-Ok-write_mark.ensures.later, c.loop-i.invariant.later);
    }

pub returns-in-Err-write_mark-clause-front : goal.returns-in-Err-write_mark-clause-front
returns-in-Err-write_mark-clause-front g c =
    let within : c.loop-i.i < length c.args.journal.now.past = omega (arith, c.loop-i-test.true, c.length-i-end.ensures) in
    λ wrote. grew_line _ _ _ (lines_of c.args.config.now c.args.journal.now) (c.loop-i.i + 1) (line_of c.args.journal.now.pages c.mark-mark.result) (omega (arith, count_lines c.args.config.now c.args.journal.now))
    (line_at c.args.config.now c.args.journal.now c.loop-i.i c.mark-mark.result within c.mark-mark.ensures) c.loop-i.invariant.written (c.in-Err-write_mark.ensures.front wrote)

pub returns-in-Err-write_mark-clause-whole : goal.returns-in-Err-write_mark-clause-whole
returns-in-Err-write_mark-clause-whole g c =
    let within : c.loop-i.i < length c.args.journal.now.past = omega (arith, c.loop-i-test.true, c.length-i-end.ensures) in
    λ wanted. grew_whole g.K.Sink.held _ _ _ (lines_of c.args.config.now c.args.journal.now) (c.loop-i.i + 1) (omega (arith, count_lines c.args.config.now c.args.journal.now)) c.loop-i.invariant.written (c.in-Err-write_mark.ensures.memory wanted)
