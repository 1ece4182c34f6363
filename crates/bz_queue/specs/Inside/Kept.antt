-- What a queue keeps true of its parts.
use Rattle.std.specs.Prelude.{◌≡◌, ◌<◌, ◌≤◌, ◌+◌, ◌*◌, ◌-◌, ◌/◌, ℕ, true, false, List, map, length, slice_index, get_or, None}
use Rattle.bz_layout.specs.declared.sizes.TheConstants.{LINE_WORDS}
use Rattle.bz_mark.specs.Counts.{acts_by, is_taken}
use Rattle.bz_mark.specs.Times.{since_on}
use Rattle.bz_mark.specs.WordsAfter.{state_after_marks, words_after_marks}
use Rattle.bz_swap_marks.specs.Past.{SamePast}
use Rattle.bz_rivals.specs.Notes.{AreNoted}
use Rattle.bz_swap.specs.Settled.{AreOwned}
use Rattle.bz_swap.specs.TakenStatuses.{IsTaken, BegunAreTaken}
use Rattle.bz_swap.specs.SwapMemory.{SwapMemory, Working, memory_words, value_at, has_effect}
use Rattle.bz_change.specs.Laws.{IsCalm}
use Rattle.bz_ring.specs.declared.marks.QMark.{QMark}
use Rattle.bz_ring.specs.declared.ring.TheConstants.{TAIL_AT}
use Rattle.bz_ring.specs.declared.ring.Ring.{Ring}
use Rattle.bz_ring.specs.Calls.{begun_calls, count_begins, items_after, open_call}
use Rattle.bz_ring.specs.Content.{size_of}
use Rattle.bz_ring.specs.ContentLaws.{HoldsItems}
use Rattle.bz_mark.specs.declared.power.Power.{Power}
use Rattle.bz_mark.specs.declared.power.Power.TheVariants as power
use Rattle.bz_ring.specs.Follows.{power_after}
use Rattle.bz_ring.specs.Fresh.{fresh_words}
use Rattle.bz_ring.specs.Journal.{QLog, memory_of}
use Rattle.bz_ring.specs.Solitary.{IsSparing}
use Rattle.bz_ring.specs.Sound.{IsSound, first_items}
use Rattle.bz_swap_recovery.specs.Recovering as recovery
use Rattle.bz_sweep.specs.Duties.{acts_left, asks_of}
use Rattle.bz_sweep.specs.declared.area.Area.{Area}
use Rattle.bz_queue.specs.Inside.Left.{lefts_of}
use Rattle.bz_queue.specs.Inside.Serving.{IsSlot}
use Rattle.bz_queue.specs.Inside.Sparing.{IsSparingSlot}
use Rattle.bz_queue.specs.Inside.Sweepable.{IsSweepable}
use Rattle.bz_queue.specs.QueueView.{QueueView, AreNumbers, recovery_most}
use Rattle.bz_queue.specs.declared.parts.Parts.{Parts}

-- the tables have their sizes, and the counts are the journal's
pub record IsTabled (p : Parts) : Type 0 where
  pub numbers : AreNumbers p.numbers
  pub start : p.journal.start ≡ fresh_words p.numbers.ring
  pub most : p.journal.most ≡ p.numbers.marks
  pub marks : length p.journal.past ≤ p.numbers.marks
  pub places : length p.workers.items ≡ 65
  pub number_places : length p.last.items ≡ 65
  pub owner_places : length p.owners.items ≡ p.numbers.ring.swaps
  pub crew : length p.access.workers ≡ p.numbers.workers + 1
  pub swaps : p.access.swaps ≡ p.numbers.ring.swaps
  pub size : length p.access.cached ≡ size_of p.numbers.ring
  pub counted : (w : ℕ) → w < 65 → slice_index p.last.items w ≡ begun_calls w p.journal.past
  pub begins : p.begun ≡ count_begins p.journal.past
  pub few : p.begun ≤ p.numbers.calls
  pub steps : p.access.steps ≤ length p.journal.past
  pub powered : power_after p.journal.past ≡ p.power

-- each swap begun is a worker's, or its descriptor was taken since power on, as the journal shows; and it shows no other taken
pub record AreShown (m : SwapMemory) (past : List QMark) : Type 0 where
  pub begun : BegunAreTaken m
  pub shown : (s : ℕ) → s < m.swaps → IsTaken m s → is_taken s (since_on (memory_of past)) ≡ true
  pub only : (s : ℕ) → s < m.swaps → is_taken s (since_on (memory_of past)) ≡ true → s < m.taken

-- the swap memory, outside a recovery time: its words, and what it keeps of the past, are those that the marks make; and a word that no swap has named is the same
-- in the caches and in the memory itself, so that what readers see is what the durable words stand for
pub record IsMemory (m : SwapMemory) (log : QLog) : Type 0 where
  pub words : memory_words m ≡ words_after_marks log.start (memory_of log.past)
  pub past : SamePast m (state_after_marks log.start (memory_of log.past))
  pub calm : IsCalm m
  pub owned : AreOwned m
  pub noted : AreNoted m
  pub shown : AreShown m log.past
  pub unused : (s : ℕ) → m.taken ≤ s → has_effect m s ≡ false
  pub sweepable : IsSweepable m
  -- each step of the tail made a mark
  pub low : value_at m TAIL_AT ≤ length log.past

-- what holds while the power is on
pub record IsAwake (p : Parts) : Type 0 where
  pub on : p.power ≡ power.On
  pub tabled : IsTabled p
  pub memory : IsMemory p.access p.journal
  pub sound : IsSound p.numbers.ring p.journal.start p.journal.past
  pub slots : (w : ℕ) → IsSlot p.numbers.ring p.access p.journal.past p.owners.items p.numbers.workers w (get_or p.workers.items w None)
  pub sparing : IsSparing p.numbers.ring p.journal.past
  pub alone : (w : ℕ) → IsSparingSlot p.numbers.ring p.access p.journal.past w (get_or p.workers.items w None)

-- what a sweep goes over: the cells and the zeros behind them stand after the descriptors
abbrev pub area_of : Ring → Area
area_of r = record { swaps = r.swaps; words = (r.capacity + (LINE_WORDS - 1)) / LINE_WORDS * LINE_WORDS }

-- what holds from a power cut until the power is on again: no call is open, and these values, which the durable words stand for, hold the journal's list
pub record IsDark (p : Parts) : Type 0 where
  pub tabled : IsTabled p
  pub sound : IsSound p.numbers.ring p.journal.start p.journal.past
  pub sparing : IsSparing p.numbers.ring p.journal.past
  pub words : memory_words p.access ≡ words_after_marks p.journal.start (memory_of p.journal.past)
  pub past : SamePast p.access (state_after_marks p.journal.start (memory_of p.journal.past))
  pub none : (w : ℕ) → get_or p.workers.items w None ≡ None
  pub calls : (w : ℕ) → open_call w p.journal.past ≡ None
  pub values : ℕ → ℕ
  pub list : HoldsItems p.numbers.ring values (items_after p.numbers.ring.capacity (first_items p.numbers.ring p.journal.start) p.journal.past)
  pub low : values TAIL_AT ≤ length p.journal.past

-- while it is off nothing goes on
pub record IsOff (p : Parts) : Type 0 where
  pub dark : IsDark p
  pub memory : recovery.IsOff (area_of p.numbers.ring) dark.values p.access

-- while it recovers worker 0 does what the sweep asks for: since the power came on no descriptor was taken, and with the acts that are left worker 0 makes fewer
-- than so many a word
pub record IsSwept (p : Parts) (turn : recovery.Turn) : Type 0 where
  pub dark : IsDark p
  pub memory : recovery.IsSweeping (area_of p.numbers.ring) dark.values p.access turn p.sweep
  pub untaken : (s : ℕ) → is_taken s (since_on (memory_of p.journal.past)) ≡ false
  pub spent : acts_by 0 (since_on (memory_of p.journal.past)) + recovery.to_come turn p.access (asks_of p.sweep) + acts_left p.sweep (recovery.words_in p.access) < recovery_most p.numbers

-- and between events it has started its next act
abbrev pub IsStarted : Parts → Type 0
IsStarted p = IsSwept p recovery.Started

abbrev pub IsKeptIn : Power → Parts → Type 0
IsKeptIn power.On p = IsAwake p
IsKeptIn power.Off p = IsOff p
IsKeptIn power.Recovering p = IsStarted p

-- what always holds, and what does by the power
pub record IsKept (p : Parts) : Type 0 where
  pub tabled : IsTabled p
  pub sound : IsSound p.numbers.ring p.journal.start p.journal.past
  pub sparing : IsSparing p.numbers.ring p.journal.past
  pub words : memory_words p.access ≡ words_after_marks p.journal.start (memory_of p.journal.past)
  pub state : IsKeptIn p.power p

-- what callers see
abbrev pub view_of : Parts → QueueView
view_of p = record { numbers = p.numbers; log = p.journal; flushes = map (λ (worker : Working). worker.flush_next) p.access.workers; left = lefts_of p }
