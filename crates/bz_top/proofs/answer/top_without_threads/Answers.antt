use Rattle.std.proofs.Common.{inr, refl, ap, Err, arith}
use Rattle.std.specs.Prelude.{None}
use Rattle.bz_top.proofs.AnswerLemmas.{answered_source}
use Rattle.bz_top.proofs.EndLemmas.{ended_usage, ended_early, ended-workload, none_before}
use Rattle.bz_top.proofs.QueueEnds.{ended_queue}
use Rattle.bz_top.proofs.answer.top_without_threads.Goals as goal

pub returns-in-Err-Usage : goal.returns-in-Err-Usage
returns-in-Err-Usage g c = record { answered = c.answer_of.ensures _ (ended_usage _ _ _ (λ command. c.in-Err-Usage.ensures.usage (ap Err c.in-Err-Usage.field-0-is) command.0 command.1) refl c.refuse.ensures.lab c.refuse.ensures.wrote) }

pub returns-in-Err-Memory : goal.returns-in-Err-Memory
returns-in-Err-Memory g c = record { answered = c.answer_of-in-Err-Memory.ensures _ (ended_early _ _ _ (inr refl) c.no_memory.ensures.lab c.no_memory.ensures.wrote) }

pub returns-in-Run : goal.returns-in-Run
returns-in-Run g c = record { answered = c.answer_of-in-Run.ensures _ (answered_source _ c.in-Ok.line c.in-Ok.ensures.command None (rw c.in-Run.is refl) tt c.in-Ok.ensures.in_range _ _ (none_before _) (omega arith) _ c.run_source.ensures) }

pub returns-in-Dump : goal.returns-in-Dump
returns-in-Dump g c = record { answered = c.answer_of-in-Dump.ensures _ (answered_source _ c.in-Ok.line c.in-Ok.ensures.command None (rw c.in-Dump.is refl) tt c.in-Ok.ensures.in_range _ _ (none_before _) (omega arith) _ c.run_source-in-Dump.ensures) }

pub returns-in-Trace : goal.returns-in-Trace
returns-in-Trace g c = record { answered = c.answer_of-in-Trace.ensures _ (answered_source _ c.in-Ok.line c.in-Ok.ensures.command None (rw c.in-Trace.is refl) tt c.in-Ok.ensures.in_range _ _ (none_before _) (omega arith) _ c.run_source-in-Trace.ensures) }

pub returns-in-Load : goal.returns-in-Load
returns-in-Load g c = record { answered = c.answer_of-in-Load.ensures _ (c.load.ensures _ c.in-Ok.ensures.command) }

pub returns-in-Work : goal.returns-in-Work
returns-in-Work g c =
    record { answered = c.answer_of-in-Work.ensures _ (ended-workload _ _ _ c.in-Ok.line c.in-Work.seed c.in-Work.calls c.in-Work.workers c.in-Ok.ensures.command c.in-Work.is refl c.run_workload.ensures) }

pub returns-in-Queue : goal.returns-in-Queue
returns-in-Queue g c = record { answered = ended_queue _ _ _ _ c.in-Ok.line c.in-Ok.ensures.command c.in-Queue.is c.run_queue_source.ensures }
