-- What is known of a leaf while a key is looked up in it.
use Rattle.std.specs.Prelude.{◌≡◌, ◌≢◌, ℕ, ◌+◌, ◌-◌, ◌*◌, ◌^◌, ◌<◌, ◌≤◌, Bool, true, false, List, Option, None, slice_index}
use Rattle.bz_layout.specs.declared.sizes.TheConstants.{NODE_WORDS}
use Rattle.bz_layout.specs.declared.thresholds.TheConstants.{PAYLOAD_WORDS, FIND_READS_PER_RECORD, FIND_READS_BESIDES}
use Rattle.bz_search.specs.Digits.{digits}
use Rattle.bz_slotted.specs.Page.{page}
use Rattle.bz_slotted.specs.ReadingLaws.{node_of}
use Rattle.bz_slotted.specs.Whole.{Whole}
use Rattle.bz_word.specs.Statuses.{status}
use Rattle.bz_leaf.specs.Facts.{IsKnownLeaf, Reading, HasLink, validating_reads}
use Rattle.bz_task.specs.Instant.{durable}
use Rattle.bz_task.specs.Outcomes.{IsPath, IsKeyView}
use Rattle.bz_task.specs.Scene.{Past, Scene, Stage, Waiting, Took, HasFilled}
use Rattle.bz_task.specs.Shown.{SameShownNode}
use Rattle.bz_task.specs.Swaps.{Change}
use Rattle.bz_task.specs.declared.path.Link.{Link}
use Rattle.bz_task.specs.declared.path.Path.{Path}
use Rattle.bz_task.specs.declared.todo.Outcome.{Outcome}
use Rattle.bz_task.specs.declared.todo.Outcome.TheVariants.{Key, Restart}
use Rattle.bz_task.specs.declared.todo.Seen.{Seen}
use Rattle.bz_task.specs.declared.todo.Seen.TheVariants.{Read as Was}
use Rattle.bz_find.specs.Bounds.{IsStep}
use Rattle.bz_find.specs.Costs.{compare_reads, spent, more_at, most_more}
use Rattle.bz_find.specs.Knowing.{dead_met, Knows, HasFound}
use Rattle.bz_find.specs.Phases.{view_of}
use Rattle.bz_find.specs.declared.find.Find.{Find}
use Rattle.bz_find.specs.declared.phase.FindPhase.{FindPhase}
use Rattle.bz_find.specs.declared.phase.FindPhase.TheVariants.{Fresh, Status, Header, Searching, Again, Link as Of_link, Guard, Viewed, Changed}
use Rattle.bz_find.specs.declared.search.Search.{Search}
use Rattle.bz_find.specs.declared.search.Step.TheVariants.{Done}

-- the most reads of a look-up of a key in a leaf with these words: of each record after the sorted ones, of a sorted one for each
-- binary digit of their number, of each sorted one that is met and not visible its metadata word, and besides status, header,
-- the payload and what validates
abbrev pub find_reads : (ℕ → ℕ) → List ℕ → ℕ
find_reads n key = FIND_READS_PER_RECORD * (((page n).count - (page n).sorted) + digits (page n).sorted) + dead_met n key + FIND_READS_BESIDES

-- the reads of status and header
abbrev pub front_reads : ℕ
front_reads = 2

-- the most acts of any look-up: these reads, those of the search, those that validate, and the end
abbrev pub find_acts : ℕ
find_acts = front_reads + (1 + most_more) + validating_reads + 2

abbrev pub left_at : Search → FindPhase → ℕ
left_at t Fresh = find_acts
left_at t Status = find_acts - 1
left_at t Header = find_acts - front_reads
left_at t Searching = more_at t.step + validating_reads + 1
left_at t Again = validating_reads
left_at t Of_link = validating_reads
left_at t (Guard at) = validating_reads - 1
left_at t phase = 0

-- the most reads that were asked for up to a phase, with its own
abbrev pub reads_at : Search → FindPhase → ℕ
reads_at t Fresh = 0
reads_at t Status = 1
reads_at t Header = front_reads
reads_at t Searching = front_reads + spent t
reads_at t Again = front_reads + compare_reads t + PAYLOAD_WORDS + 1
reads_at t Of_link = front_reads + compare_reads t + PAYLOAD_WORDS + 1
reads_at t phase = compare_reads t + FIND_READS_BESIDES

-- words and steps are in range
abbrev pub find_bounds : Find → FindPhase → Type 0
find_bounds t Header = t.status < 2 ^ 61
find_bounds t Searching = (t.status < 2 ^ 61) × IsStep t.search × (t.search.step ≢ Done)
find_bounds t Again = t.status < 2 ^ 61
find_bounds t phase = Unit {0}

-- and its reads are few
pub record IsBounded (t : Find) : Type 0 where
  pub bounds : find_bounds t t.phase
  pub few : t.asked + left_at t.search t.phase ≤ find_acts
  pub reads : t.asked ≤ reads_at t.search t.phase

-- the words are those of a whole leaf, which is as it was at a moment since which they were read
pub record IsStill (p : Past) (link : Link) (ws : List ℕ) (from : ℕ) : Type 0 where
  pub same : (m : ℕ) → from ≤ m → m ≤ p.now → SameShownNode p.config (p.at from) (p.at m) link.slot
  pub low : Option (List ℕ)
  pub high : Option (List ℕ)
  pub whole : Whole (node_of ws) (page (node_of ws)) low high

-- the status was read; these were the words in use then
pub record Opened (key : List ℕ) (link : Link) (st : ℕ) (p : Past) : Type 0 where
  pub ws : List ℕ
  pub reading : Reading key link ws NODE_WORDS p
  pub status : slice_index ws 0 ≡ st

-- and what the search knows was so then, if the leaf is still as it was
pub record Searched (key : List ℕ) (link : Link) (st : ℕ) (t : Search) (p : Past) : Type 0 where
  pub opened : Opened key link st p
  pub same : t.key ≡ key
  pub knows : IsStill p link opened.ws opened.reading.read_at → Knows (node_of opened.ws) t

-- the search has ended in a leaf that was frozen, or was not
pub record Ended (key : List ℕ) (link : Link) (st : ℕ) (t : Search) (frozen : Bool) (p : Past) : Type 0 where
  pub opened : Opened key link st p
  pub same : t.key ≡ key
  pub found : IsStill p link opened.ws opened.reading.read_at → HasFound (node_of opened.ws) t
  pub is : (status st).frozen ≡ frozen

-- and then the link led to it
pub record Linked (key : List ℕ) (link : Link) (st : ℕ) (t : Search) (at : ℕ) (p : Past) : Type 0 where
  pub ws : List ℕ
  pub led : HasLink key link ws at p
  pub status : slice_index ws 0 ≡ st
  pub same : t.key ≡ key
  pub found : IsStill p link ws led.leaf.all.read_at → HasFound (node_of ws) t

-- what was looked at is of these words
pub record IsReckoned (n : ℕ → ℕ) (t : Search) (key : List ℕ) : Type 0 where
  pub count : t.count ≡ (page n).count
  pub sorted : t.sorted ≡ (page n).sorted
  pub dead : t.dead ≡ dead_met n key

-- what was found was so at a moment
pub record IsFoundAt (key : List ℕ) (t : Find) (at : ℕ) (p : Past) : Type 0 where
  pub view : IsKeyView key (view_of t at) p
  pub reckoned : IsReckoned (durable p.config (p.at at) t.link.slot) t.search key

-- a leaf had so many records, so many of them sorted, in the durable image of a moment since the look-up began
pub record HadCounts (p : Past) (slot n m : ℕ) : Type 0 where
  pub moment : ℕ
  pub since : p.since ≤ moment
  pub now : moment ≤ p.now
  pub count : (page (durable p.config (p.at moment) slot)).count ≡ n
  pub sorted : (page (durable p.config (p.at moment) slot)).sorted ≡ m

-- the search goes by the numbers of the leaf, and of the sorted records it has met no more than there are
pub record GoesByLeaf (t : Find) (p : Past) : Type 0 where
  pub had : HadCounts p t.link.slot t.search.count t.search.sorted
  pub met : t.search.dead ≤ t.search.sorted

-- so it is once the header was read
abbrev pub find_counts : Find → FindPhase → Past → Type 0
find_counts t Fresh p = Unit {0}
find_counts t Status p = Unit {0}
find_counts t Header p = Unit {0}
find_counts t phase p = GoesByLeaf t p

-- the most reads of a look-up in vain, in a leaf with so many records, so many of them sorted: each of these may have been met
abbrev pub vain_reads : ℕ → ℕ → ℕ
vain_reads count sorted = FIND_READS_PER_RECORD * ((count - sorted) + digits sorted) + sorted + FIND_READS_BESIDES

-- no more reads than these were asked for where a validating load found another value, by what the leaf had at a moment
pub record StopsIn (slot reads : ℕ) (p : Past) : Type 0 where
  pub count : ℕ
  pub sorted : ℕ
  pub had : HadCounts p slot count sorted
  pub few : reads ≤ vain_reads count sorted

abbrev pub find_learnt : Find → FindPhase → Past → Type 0
find_learnt t Fresh p = IsKnownLeaf t.key t.link p
find_learnt t Status p = IsKnownLeaf t.key t.link p
find_learnt t Header p = Opened t.key t.link t.status p
find_learnt t Searching p = Searched t.key t.link t.status t.search p
find_learnt t Again p = Ended t.key t.link t.status t.search false p
find_learnt t Of_link p = Ended t.key t.link t.status t.search true p
find_learnt t (Guard at) p = Linked t.key t.link t.status t.search at p
find_learnt t (Viewed at) p = IsFoundAt t.key t at p
find_learnt t Changed p = Unit {0}

abbrev pub find_facts : Find → FindPhase → Stage → Scene → Type 0
find_facts t phase Took s = ⊥
find_facts t Fresh Waiting s = IsKnownLeaf t.key t.link s.past
find_facts t phase Waiting s = HasFilled s × find_learnt t phase s.past

-- what its end means: the view is one of the key, and so is still the path to it
abbrev pub find_means : List ℕ → Path → Outcome → Scene → Type 0
find_means key path (Key view) s = IsKeyView key view s.past × IsPath key path s.past
find_means key path Restart s = Unit {0}
find_means key path outcome s = ⊥

-- a look-up ends so and in no other way
abbrev pub IsEndOfFind : Outcome → Type 0
IsEndOfFind (Key view) = Unit {0}
IsEndOfFind Restart = Unit {0}
IsEndOfFind outcome = ⊥

-- a validating load found another value: another status, another link, or a guard that is frozen
abbrev pub find_differs : Find → FindPhase → Seen → Type 0
find_differs t Again (Was v) = v ≢ t.status
find_differs t Of_link (Was v) = v ≢ t.link.slot + 1
find_differs t (Guard at) (Was v) = (status v).frozen ≡ true
find_differs t phase seen = ⊥

-- a look-up of a key changes nothing there
abbrev pub find_change : List ℕ → Change
find_change key = record { key = key; old = None; new = None }
