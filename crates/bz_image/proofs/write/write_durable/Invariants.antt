use Rattle.std.proofs.Common.{take, ◌-◌, ◌≤◌}
use Rattle.std.specs.Io.KnownBytes.{Appends}
use Rattle.bz_image.specs.Form.{bytes_of_words}
use Rattle.bz_image.specs.Worlds.{durable_words}
use Rattle.bz_image.proofs.write.write_durable.Given as goal

-- what was written are the bytes of the words so far
abbrev pub invariant-loop-done : goal.invariant-loop-done
invariant-loop-done g l =
    (l.done ≤ l.size) × Appends (g.K.Sink.held l.initial.sink) (g.K.Sink.held l.sink) (bytes_of_words (take l.done (durable_words l.world)))
    × (g.K.Sink.faults l.initial.sink ≤ g.K.Sink.faults l.sink)

abbrev pub decreases-loop-done : goal.decreases-loop-done
decreases-loop-done g l = l.size - l.done
