-- What comes of a queue in which one worker steps alone, while words become durable by themselves: its call ends.
use Rattle.std.specs.Prelude.{◌≡◌, ◌≢◌, ◌⊎◌, ◌≤◌, ℕ, ◌+◌, ◌*◌, true, List, [], ◌∷◌, length, None}
use Rattle.bz_swap_machine.specs.Allowed.{for_worker}
use Rattle.bz_mark.specs.declared.power.Power.TheVariants as power
use Rattle.bz_ring.specs.Calls.{open_call}
use Rattle.bz_queue.specs.QueueView.{QueueView, IsApplied, is_short, power_in}
use Rattle.bz_queue.specs.declared.answers.QApplied.{QApplied}
use Rattle.bz_queue.specs.declared.answers.QApplied.TheVariants as applied
use Rattle.bz_queue.specs.declared.answers.QEvent.{QEvent}
use Rattle.bz_queue.specs.declared.answers.QEvent.TheVariants as event

-- steps of a worker and evictions, in any order, and after each step its call goes on. The newest event stands first
abbrev pub StepsOn : List QEvent → QueueView → ℕ → QueueView → Type 0
StepsOn [] old w new = new ≡ old
StepsOn (event.Step v ∷ events) old w new = (v ≡ w) × ((mid : QueueView) × (StepsOn events old w mid × IsApplied mid (event.Step w) applied.Stepped new))
StepsOn (event.Evict a ∷ events) old w new = (mid : QueueView) × (StepsOn events old w mid × ((answer : QApplied) × IsApplied mid (event.Evict a) answer new))
StepsOn (other ∷ events) old w new = ⊥

-- how many of the events are steps, and how many are evictions
abbrev pub steps_in : List QEvent → ℕ
steps_in [] = 0
steps_in (event.Step v ∷ events) = steps_in events + 1
steps_in (other ∷ events) = steps_in events

abbrev pub evictions_in : List QEvent → ℕ
evictions_in [] = 0
evictions_in (event.Evict a ∷ events) = evictions_in events + 1
evictions_in (other ∷ events) = evictions_in events

-- the worker has an open call, and the power is on
pub record MayStep (q : QueueView) (w : ℕ) : Type 0 where
  pub on : power_in q ≡ power.On
  pub within : w ≤ q.numbers.workers
  pub is_open : open_call w q.log.past ≢ None

-- how many marks a call may take that its worker ends alone: so many for each worker, and for two more
abbrev pub most_alone : QueueView → ℕ
most_alone q = for_worker * (q.numbers.workers + 2)

-- after these events the next step is answered so: the call goes on, or has ended, or fewer than three places are left in the journal. So few steps it took, and so
-- few marks beside one of each eviction
pub record EndsAlone (old : QueueView) (events : List QEvent) (last : QueueView) (answer : QApplied) (new : QueueView) : Type 0 where
  pub answered : (answer ≡ applied.Stepped) ⊎ (((number : ℕ) × (answer ≡ applied.Ended number)) ⊎ ((answer ≡ applied.Limit) × (is_short last.log ≡ true)))
  pub steps : steps_in events ≤ most_alone old
  pub marks : length new.log.past ≤ length old.log.past + most_alone old + evictions_in events

-- whatever the others have come to
abbrev pub SoloCallsEnd : Type 0
SoloCallsEnd = (old last new : QueueView) (w : ℕ) (events : List QEvent) (answer : QApplied) → MayStep old w → StepsOn events old w last → IsApplied last (event.Step w) answer new → EndsAlone old events last answer new
