-- How the endings of the parts of `queue` are those of the program.
use Rattle.std.proofs.Common.{◌≡◌, ◌⊎◌, inl, inr, ℕ, List, ◌++◌, refl, subst, ◌∙◌}
use Rattle.std.specs.Prelude.{Option, None, codes}
use Rattle.bz_cli.specs.CommandLine.{IsCommandLine}
use Rattle.bz_cli.specs.declared.command.Command.{Command}
use Rattle.bz_cli.specs.declared.command.Command.TheVariants.{Queue}
use Rattle.bz_cli.specs.declared.command.CommandLine.{CommandLine}
use Rattle.bz_queue.specs.QueueView.{QueueView}
use Rattle.bz_sched.specs.FromWorld.WorldView.{WorldView}
use Rattle.bz_top.specs.Endings.{Outside, IsEnded}
use Rattle.bz_top.specs.Faults.{fault_line, broken_text}
use Rattle.bz_top.specs.Parts.{given, sunk}
use Rattle.bz_top.specs.QueueEndings.{IsQueue, IsQueueInput, AsksQueue, IsQueueEnded, EndsBy, queue_limit_text, report_from}
use Rattle.bz_top.specs.QueueParts.{QueueFinishes, QueueStops, QueueGivesUp, QueueRuns, QueueRefuses, QueueWants, RanQueueSource}
use Rattle.bz_top.proofs.QueueStatus.{queue_done, queue_unread, queue_broken, queue_too_long, queue_limited, queue_want}

-- the ending of a command that has no queue
pub world_ends : (o : Outside) (one status : ℕ) (world lab : Option WorldView) (queue : Option QueueView) → status ≡ one → lab ≡ world → queue ≡ None → IsEnded o one world → EndsBy o status lab queue
world_ends o one status world lab queue same_status same_lab none ended = inl (rw (same_status, same_lab) ended, none)

module _ (o : Outside) (status marks : ℕ) (queue : Option QueueView) (command : IsQueue o.words marks) where
  wants : QueueWants (sunk o.held o.held_after o.write_faults o.write_faults_after) status queue → IsQueueEnded o status queue
  wants w = queue_want o status queue (fault_line (codes "memory")) (inl (record { marks = marks; command = command; no_queue = w.no_queue; writes = refl })) w.said

  refused : (bytes : List ℕ) → IsQueueInput o bytes → QueueRefuses bytes (sunk o.held o.held_after o.write_faults o.write_faults_after) status queue → IsQueueEnded o status queue
  refused bytes input h = elim h.said [
    | inl said ↦
        queue_broken o status queue (fault_line (broken_text h.line h.rule))
        (record { marks = marks; command = command; bytes = bytes; input = input; line = h.line; rule = h.rule; is_fault = h.is_fault; no_queue = h.no_queue; writes = refl })
        said
    | inr said ↦ wants (record { no_queue = h.no_queue; said = said })
  ]

  ran : (bytes : List ℕ) → IsQueueInput o bytes → QueueRuns marks bytes (sunk o.held o.held_after o.write_faults o.write_faults_after) status queue → IsQueueEnded o status queue
  ran bytes input h = by h.ran
    where
      asks : AsksQueue o marks h.job
      asks = record { command = command; bytes = bytes; input = input; is_script = h.is_script }

      by : QueueFinishes marks h.job (sunk o.held o.held_after o.write_faults o.write_faults_after) status queue
          ⊎ (QueueStops marks h.job (sunk o.held o.held_after o.write_faults o.write_faults_after) status queue ⊎ QueueGivesUp marks h.job (sunk o.held o.held_after o.write_faults o.write_faults_after) status queue)
          → IsQueueEnded o status queue
      by (inl done) =
          queue_done o status queue (report_from done.view)
          (record { marks = marks; job = h.job; asks = asks; view = done.view; is_queue = done.is_queue; right = done.right; ran = done.ran; writes = refl })
          done.said
      by (inr (inl stops)) =
          queue_limited o status queue (report_from stops.view ++ fault_line (queue_limit_text stops.which))
          (record { marks = marks; job = h.job; asks = asks; view = stops.view; is_queue = stops.is_queue; right = stops.right; which = stops.which; ran = stops.ran; writes = refl })
          stops.said
      by (inr (inr gives_up)) =
          queue_want o status queue (fault_line (codes "memory"))
          (inr (record { marks = marks; job = h.job; asks = asks; view = gives_up.view; is_queue = gives_up.is_queue; right = gives_up.right; ran = gives_up.ran; writes = refl }))
          gives_up.said

  bytes_ran : (bytes : List ℕ) → IsQueueInput o bytes → QueueRuns marks bytes (sunk o.held o.held_after o.write_faults o.write_faults_after) status queue ⊎ (QueueRefuses bytes (sunk o.held o.held_after o.write_faults o.write_faults_after) status queue ⊎ QueueWants (sunk o.held o.held_after o.write_faults o.write_faults_after) status queue)
      → IsQueueEnded o status queue
  bytes_ran bytes input (inl runs) = ran bytes input runs
  bytes_ran bytes input (inr (inl h)) = refused bytes input h
  bytes_ran bytes input (inr (inr w)) = wants w

  source_ran : (lab : Option WorldView) → RanQueueSource marks (given o.left o.left_after o.read_faults o.read_faults_after) (sunk o.held o.held_after o.write_faults o.write_faults_after) status lab queue → EndsBy o status lab queue
  source_ran lab (inl (inl fails, none)) =
      inr (queue_unread o status queue (fault_line (codes "read")) (record { marks = marks; command = command; rose = fails.rose; no_queue = none; writes = refl }) fails.said, fails.no_lab)
  source_ran lab (inl (inr (inl over), none)) =
      inr (queue_too_long o status queue (fault_line (codes "script too long")) (record { marks = marks; command = command; more = over.more; no_queue = none; writes = refl }) over.said, over.no_lab)
  source_ran lab (inl (inr (inr w), none)) = inr (wants (record { no_queue = none; said = w.said }), w.no_lab)
  source_ran lab (inr out) = inr (bytes_ran out.bytes (record { whole = out.whole; fits = out.fits }) out.ran.1, out.ran.0)

-- the command `queue`
pub ended_queue : (o : Outside) (status : ℕ) (lab : Option WorldView) (queue : Option QueueView) (line : CommandLine) → IsCommandLine o.words line → line.command ≡ Queue
    → RanQueueSource line.marks (given o.left o.left_after o.read_faults o.read_faults_after) (sunk o.held o.held_after o.write_faults o.write_faults_after) status lab queue → EndsBy o status lab queue
ended_queue o status lab queue line command is ran =
    let named : IsQueue o.words line.marks = subst (λ (c : Command). IsCommandLine o.words (record { command = c; marks = line.marks })) is command in
    source_ran o status line.marks queue named lab ran
