-- Once the last line is flushed, a record is written.
use Rattle.std.specs.Prelude.{ℕ, ◌+◌, ◌<◌}
use Rattle.std.proofs.Common.{arith}
use Rattle.bz_task.specs.Scene.{Scene}
use Rattle.bz_record.specs.Records.{size_of}
use Rattle.bz_record.specs.Writing.{first_line, last_line, IsWritingRecord, HasWritten}
use Rattle.bz_record.specs.declared.new_record.NewRecord.{NewRecord}

pub written : (r : NewRecord) (lines : ℕ) (s : Scene) → IsWritingRecord r (size_of r) lines s → last_line s.past.config r < first_line s.past.config r + lines → HasWritten r s
written r lines s w l = record {
  mine = w.mine;
  stored = λ i h. w.stored i h h;
  flushed = λ i h. w.flushed i h (omega (arith, l, h));
}
