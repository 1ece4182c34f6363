use Rattle.bz_queue.proofs.Views.{acted-room, steps-on, steps-went}
use Rattle.bz_queue.proofs.step.step_open.Goals as goal

pub returns-in-Busy-clause-steps : goal.returns-in-Busy-clause-steps
returns-in-Busy-clause-steps c = steps-on c.args.parts.now c.act-done.new.parts c.args.w c.requires.kept c.requires.open c.act-done.ensures.made

pub returns-in_default : goal.returns-in_default
returns-in_default c = record { kept = c.go_on.ensures.kept; steps = steps-went c.args.parts.now c.act-done.new.parts c.go_on.new.parts c.args.w c.go_on.result c.requires.kept c.requires.open c.act-done.ensures.made c.go_on.ensures }

pub go_on-requires : goal.go_on-requires
go_on-requires c = record { ended = c.act-done.ensures.ended c.in_default.not-Busy; room = acted-room c.args.parts.now c.act-done.new.parts c.args.w c.act-done.ensures.made c.requires.room }
