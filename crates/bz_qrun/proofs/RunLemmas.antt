-- A script that was run over a new queue.
use Rattle.std.proofs.Common.{◌≡◌, ℕ, List, [], refl, sym, ap, subst, ◌∙◌}
use Rattle.std.specs.Prelude.{Option, Some, Result}
use Rattle.bz_qscript.specs.ItemLaws.{IsJob}
use Rattle.bz_qscript.specs.Script.{QJob}
use Rattle.bz_qsched.specs.Items.{ItemsDone}
use Rattle.bz_qsched.specs.Queued.{Queued}
use Rattle.bz_qsched.specs.Runs.{point_of, point_with}
use Rattle.bz_qsched.specs.declared.items.ItemsEnd.{ItemsEnd}
use Rattle.bz_qsched.specs.declared.items.ItemsEnd.TheVariants as end
use Rattle.bz_queue.specs.QueueView.{QueueView, new_view}
use Rattle.bz_queue.specs.declared.open.Numbers.{Numbers}
use Rattle.bz_ring.specs.Fresh.{IsRing, fresh_words}
use Rattle.bz_ring.specs.declared.calls.QCall.{QCall}
use Rattle.bz_ring.specs.declared.ring.Ring.{Ring}
use Rattle.bz_qrun.specs.Run.{ring_of, numbers_of, IsNewFor, IsOf, RanTo}

-- a script's sizes are those of a ring
pub ring_is : (job : QJob) → IsJob job → IsRing (ring_of job)
ring_is job h = record { some = h.some_cells; few = h.few_cells; one = h.some_swaps; numbered = h.few_swaps }

new_ran : (job : QJob) (marks : ℕ) (how : ItemsEnd) (new : QueueView) → ItemsDone (point_with (new_view (numbers_of job marks)) []) (new_view (numbers_of job marks)) job.items how new → RanTo job marks how new
new_ran job marks end.Finished new h = record { is = record { numbers = h.on.numbers; start = h.on.start; most = h.on.most }; follows = h.follows }
new_ran job marks (end.Limit why) new h = record { is = record { numbers = h.on.numbers; start = h.on.start; most = h.on.most }; follows = h.follows }

-- the items that were done over a new queue, where no call waited
pub ran_over : (job : QJob) (marks : ℕ) (old : QueueView) (waiting : Queued) (how : ItemsEnd) (new : QueueView) → IsNewFor job marks old → waiting.calls ≡ [] → ItemsDone (point_of old waiting) old job.items how new → RanTo job marks how new
ran_over job marks old waiting how new is none done =
    new_ran job marks how new
    (subst (λ (calls : List (ℕ × QCall)). ItemsDone (point_with (new_view (numbers_of job marks)) calls) (new_view (numbers_of job marks)) job.items how new) none
    (subst (λ (q : QueueView). ItemsDone (point_of q waiting) q job.items how new) is done))

-- the queue is one of the script then
pub is_of : (job : QJob) (marks : ℕ) (how : ItemsEnd) (q : QueueView) → RanTo job marks how q → IsOf job marks q
is_of job marks end.Finished q ran = ran.is
is_of job marks (end.Limit why) q ran = ran.is

pub ring_in : (job : QJob) (marks : ℕ) (q : QueueView) → IsOf job marks q → q.numbers.ring ≡ ring_of job
ring_in job marks q is = ap (λ (numbers : Numbers). numbers.ring) is.numbers

pub start_in : (job : QJob) (marks : ℕ) (q : QueueView) → IsOf job marks q → q.log.start ≡ fresh_words q.numbers.ring
start_in job marks q is = is.start ∙ ap fresh_words (sym (ring_in job marks q is))

pub capacity_in : (job : QJob) (marks : ℕ) (q : QueueView) → IsOf job marks q → job.capacity ≡ q.numbers.ring.capacity
capacity_in job marks q is = sym (ap (λ (ring : Ring). ring.capacity) (ring_in job marks q is))

pub is_ring_in : (job : QJob) (marks : ℕ) (q : QueueView) → IsJob job → IsOf job marks q → IsRing q.numbers.ring
is_ring_in job marks q h is = subst IsRing (sym (ring_in job marks q is)) (ring_is job h)
