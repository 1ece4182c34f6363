-- What a world keeps true of its parts.
use Rattle.std.specs.Prelude.{◌≡◌, ◌⊎◌, ℕ, ◌+◌, ◌^◌, ◌<◌, ◌≤◌, length, slice_index, get_or, Bool, true, false, List, None}
use Rattle.std.specs.FinMap.{len}
use Rattle.bz_layout.specs.Config.{IsConfig}
use Rattle.bz_recover.specs.Duties.{WalksIn}
use Rattle.bz_rivals.specs.Notes.{SwapsNothing, AreNoted}
use Rattle.bz_layout.specs.Slots.{FreeSlots}
use Rattle.bz_layout.specs.declared.config.Config.{Config}
use Rattle.bz_mark.specs.Log.{count_begins, count_page_calls}
use Rattle.bz_mark.specs.WordsAfter.{words_after_marks}
use Rattle.bz_mark.specs.declared.marks.Mark.{Mark}
use Rattle.bz_sound.specs.Calls.{open_call, begun_calls, map_after}
use Rattle.bz_sound.specs.Memory.Moments.{map_at_start}
use Rattle.bz_mark.specs.declared.power.Power.{Power}
use Rattle.bz_mark.specs.declared.power.Power.TheVariants as power
use Rattle.bz_sound.specs.Power.Sound.{IsSound}
use Rattle.bz_tree.specs.Walk.{is_among}
use Rattle.bz_mark.specs.Counts.{is_taken}
use Rattle.bz_sound.specs.Memory.Spent.{is_reached_in, is_stored_into}
use Rattle.bz_mark.specs.Times.{power_of, since_on}
use Rattle.bz_sound.specs.Power.Times.{image_at_on}
use Rattle.bz_refinement.specs.Living.{IsLiving}
use Rattle.bz_refinement.specs.Recovering as recovery
use Rattle.bz_refinement.specs.Reviving as reviving
use Rattle.bz_refinement.specs.Story.{Story}
use Rattle.bz_swap.specs.SwapMemory.{SwapMemory, has_effect, memory_words}
use Rattle.bz_swap.specs.TakenStatuses.{IsTaken, BegunAreTaken}
use Rattle.bz_world.specs.Inside.Solitary.{IsSolitaryIn}
use Rattle.bz_world.specs.Inside.Paid.{stock_of}
use Rattle.bz_world.specs.Inside.Serving.{IsSlot}
use Rattle.bz_world.specs.Leaves.{AreLeavesKept}
use Rattle.bz_world.specs.declared.parts.Parts.{Parts}

-- so many pairs the map has: fewer than a list has room for at first, and each mark adds at most one
pub record CountsPairs (c : Config) (start : List ℕ) (past : List Mark) (n : ℕ) : Type 0 where
  pub size : n ≡ len (map_after (map_at_start c start) past)
  pub few : n < 2 ^ 63 + length past

-- the tables have their sizes, and the counts are the journal's
pub record IsTabled (p : Parts) : Type 0 where
  pub config : IsConfig p.config
  pub limits : p.journal.limits ≡ record { marks = p.config.marks; calls = p.config.calls; pages = p.config.pages }
  pub marks : length p.journal.past ≤ p.config.marks
  pub places : length p.workers.items ≡ 65
  pub number_places : length p.numbers.items ≡ 65
  pub owner_places : length p.owners.items ≡ p.config.swaps
  pub crew : length p.access.workers ≡ p.config.workers + 1
  pub counted : (w : ℕ) → w < 65 → slice_index p.numbers.items w ≡ begun_calls w p.journal.past
  pub strangers : (w : ℕ) → ((w ≡ 0) ⊎ (p.config.workers < w)) → open_call w p.journal.past ≡ None
  pub begins : p.begun ≡ count_begins p.journal.past
  pub few_begins : p.begun ≤ p.config.calls
  pub page_calls : p.pages_begun ≡ count_page_calls p.journal.past
  pub few_page_calls : p.pages_begun ≤ p.config.pages
  pub steps : p.access.steps ≤ length p.journal.past
  pub pairs : CountsPairs p.config p.journal.start p.journal.past p.pairs
  pub power : power_of p.at_start p.journal.past ≡ p.power

-- worker 0 does no swap; as many swaps were begun as descriptors are taken, and no other is noted as missed
pub record KeepsNotes (m : SwapMemory) : Type 0 where
  pub zero : SwapsNothing m 0
  pub noted : AreNoted m

-- each descriptor that was taken is one in which the journal shows a swap begun since power on, or one that a worker is about to
-- begin
pub record AreTaken (p : Parts) : Type 0 where
  pub shown : (s : ℕ) → s < p.config.swaps → IsTaken p.access s → is_taken s (since_on p.journal.past) ≡ true
  pub held : BegunAreTaken p.access
  pub few : p.access.taken ≤ p.config.swaps
  pub notes : KeepsNotes p.access
  -- no other has had an effect
  pub unused : (s : ℕ) → p.access.taken ≤ s → has_effect p.access s ≡ false
  -- and the journal shows no other begun since power on, nor a store into a free slot
  pub only : (s : ℕ) → s < p.config.swaps → is_taken s (since_on p.journal.past) ≡ true → s < p.access.taken
  pub unstored : (k : ℕ) → is_among p.slots.free k ≡ true → is_stored_into p.config k (since_on p.journal.past) ≡ false

-- a free slot is one of the memory, which was not reached in the image at power on and which nobody took since; each other one
-- was reached or taken
pub record AreFree (c : Config) (image : ℕ → ℕ) (slots : FreeSlots) (took : ℕ → ℕ → Bool) : Type 0 where
  pub nodes : slots.nodes ≡ c.nodes
  pub within : (k : ℕ) → is_among slots.free k ≡ true → k < c.nodes
  pub fresh : (k : ℕ) → is_among slots.free k ≡ true → is_reached_in c image k ≡ false
  pub untaken : (v k : ℕ) → is_among slots.free k ≡ true → took v k ≡ false
  pub others : (k : ℕ) → k < c.nodes → is_among slots.free k ≡ false → (is_reached_in c image k ≡ true) ⊎ ((v : ℕ) × (took v k ≡ true))

-- what holds while the power is on
pub record IsAwake (p : Parts) : Type 0 where
  pub on : p.power ≡ power.On
  pub story : Story
  pub tabled : IsTabled p
  pub taken : AreTaken p
  pub living : IsLiving p.config p.access p.journal story
  pub sound : IsSound p.config p.at_start p.journal
  pub leaves : AreLeavesKept p.config p.at_start p.journal
  pub free : AreFree p.config (image_at_on p.journal.start p.journal.past) p.slots story.took
  pub workers : (w : ℕ) → IsSlot p.config p.access p.journal story p.owners.items (stock_of p) w (get_or p.workers.items w None)
  pub solitary : (w : ℕ) → IsSolitaryIn p.access p.journal.past story p.workers.items w

-- what holds from a power cut until the power is on again: no call is open, and nothing is said of which slots are free
pub record IsDark (p : Parts) : Type 0 where
  pub tabled : IsTabled p
  pub sound : IsSound p.config p.at_start p.journal
  pub leaves : AreLeavesKept p.config p.at_start p.journal
  pub none : (w : ℕ) → get_or p.workers.items w None ≡ None
  pub slots : p.slots.nodes ≡ p.config.nodes
  -- the values to which the durable words resolved when the power failed
  pub values : ℕ → ℕ

-- while it is off nothing goes on
pub record IsOff (p : Parts) : Type 0 where
  pub dark : IsDark p
  pub memory : reviving.IsOffIn p.config dark.values p.access p.journal

-- while it recovers, worker 0 does, and its walk knows the slots
pub record IsRecovering (p : Parts) (turn : recovery.Turn) : Type 0 where
  pub dark : IsDark p
  pub walks : WalksIn p.recovery dark.values p.slots
  pub memory : reviving.IsRecoveringIn p.config dark.values p.access p.journal turn p.recovery

-- and between events it has started its next act
abbrev pub IsStarted : Parts → Type 0
IsStarted p = IsRecovering p recovery.Started

abbrev pub IsKeptIn : Power → Parts → Type 0
IsKeptIn power.On p = IsAwake p
IsKeptIn power.Off p = IsOff p
IsKeptIn power.Recovering p = IsStarted p

-- what always holds, and what does by the power
pub record IsKept (p : Parts) : Type 0 where
  pub tabled : IsTabled p
  pub sound : IsSound p.config p.at_start p.journal
  pub leaves : AreLeavesKept p.config p.at_start p.journal
  pub words : memory_words p.access ≡ words_after_marks p.journal.start p.journal.past
  pub state : IsKeptIn p.power p
