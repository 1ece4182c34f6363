use Rattle.std.proofs.Common.{arith, subst}
use Rattle.bz_call.specs.Map.{Map}
use Rattle.bz_check.specs.Pairs.{Holds}
use Rattle.bz_check.proofs.Counting.{counts_more}
use Rattle.bz_check.proofs.Replaying.{replays_more}
use Rattle.bz_check.proofs.Knowing.{knows_more}
use Rattle.bz_check.proofs.Mapping.{map_more}
use Rattle.bz_check.proofs.Judging.{fault_tells}
use Rattle.bz_check.proofs.Passing.{seen_more}
use Rattle.bz_check.proofs.Seeing.{sight_more}
use Rattle.bz_check.proofs.judge.judge_mark.Goals as goal

pub returns-clause-words : goal.returns-clause-words
returns-clause-words c = λ start past now image of r. rw (c.in_ok-take.ensures, now) (replays_more start past c.args.replay.now c.args.mark.now r image.lines of)

pub returns-clause-calls : goal.returns-clause-calls
returns-clause-calls c = λ at_start past now k. rw (c.take-2.ensures, now) (knows_more at_start past c.args.table.now c.args.mark.now k c.names_worker.ensures (omega (arith, now, c.requires.few)))

pub returns-clause-pairs : goal.returns-clause-pairs
returns-clause-pairs c = λ at_start past at k h.
    let P : Map → Type 0 = λ m. Holds m c.step_map.new.map.entries in
    subst P (map_more at_start past c.args.table.now c.args.mark.now at k c.names_worker.ensures) (c.in_ok-step_map.ensures _ h)

pub returns-clause-seen : goal.returns-clause-seen
returns-clause-seen c = λ at_start past at k h saw. seen_more at past c.args.mark.now c.args.sights.now c.see.new.self _ c.in_ok-see.ensures saw
    (sight_more at_start past c.args.table.now c.args.mark.now at c.args.map.now.entries k c.names_worker.ensures h)

pub returns-clause-counts : goal.returns-clause-counts
returns-clause-counts c = λ numbers past now k. rw (c.take-3.ensures, now) (counts_more numbers past c.args.mark.now c.args.counter.now k)

pub returns-clause-fault : goal.returns-clause-fault
returns-clause-fault c = λ numbers start at_start past at config now image are r k h saw counts.
    rw (c.fault_of-fault.ensures, now) (fault_tells numbers at_start start at past c.args.mark.now c.args.replay.now c.args.table.now c.args.map.now.entries c.args.sights.now c.args.counter.now config image are (omega (arith, now, c.requires.few)) r k c.names_worker.ensures h saw counts)
