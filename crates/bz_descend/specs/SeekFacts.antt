-- What a descent has learnt at each of its phases, and what it costs.
use Rattle.std.specs.Prelude.{◌≡◌, ℕ, zero, suc, ◌+◌, ◌-◌, ◌*◌, ◌^◌, ◌<◌, ◌≤◌, nat_lt, if◌then◌else◌, true, List, Option, Some, None, slice_get}
use Rattle.bz_key.specs.Packing.{packed_len}
use Rattle.bz_layout.specs.Addresses.{node_address}
use Rattle.bz_layout.specs.declared.config.Config.{Config}
use Rattle.bz_layout.specs.declared.sizes.TheConstants.{NODE_WORDS, STATUS_AT, HEADER_AT, META_AT, ROOT_AT, ROOT_STATUS_AT}
use Rattle.bz_layout.specs.declared.thresholds.TheConstants.{MAX_LEVELS, DESCEND_READS_AT_ROOT, DESCEND_READS_BESIDES, DESCEND_READS_PER_RECORD}
use Rattle.bz_search.specs.Digits.{digits}
use Rattle.bz_search.specs.Probes.{middle, IsProbe}
use Rattle.bz_slotted.specs.Page.{meta_of, extent_of, page}
use Rattle.bz_word.specs.Headers.{header}
use Rattle.bz_word.specs.Statuses.{status}
use Rattle.bz_word.specs.declared.meta.Extent.{Extent}
use Rattle.bz_task.specs.Instant.{durable, page_at}
use Rattle.bz_task.specs.Outcomes.{IsPath}
use Rattle.bz_task.specs.Scene.{Past, Scene, Stage, Waiting, Took, HasFilled}
use Rattle.bz_task.specs.declared.path.Link.{Link}
use Rattle.bz_task.specs.declared.path.Path.{Path}
use Rattle.bz_task.specs.declared.todo.Outcome.{Outcome}
use Rattle.bz_task.specs.declared.todo.Outcome.TheVariants.{Path as IsAPath, Restart}
use Rattle.bz_task.specs.declared.todo.Seen.{Seen}
use Rattle.bz_task.specs.declared.todo.Seen.TheVariants.{Read as Was}
use Rattle.bz_task.specs.declared.todo.Todo.{Todo}
use Rattle.bz_task.specs.declared.todo.Todo.TheVariants.{Read, Finish}
use Rattle.bz_descend.specs.Facts.{IsAt, IsInNode, SawGuard}
use Rattle.bz_descend.specs.Halving.{Sees, ReadsSeparator, SeesFirst}
use Rattle.bz_descend.specs.Inners.{most_records, HasChosen}
use Rattle.bz_descend.specs.Ways.{AreThawed, Arrives, ArrivesAtInner, MeetsFrozen}
use Rattle.bz_descend.specs.declared.sight.Probe.{Probe}
use Rattle.bz_descend.specs.declared.sight.Sight.{Sight}
use Rattle.bz_descend.specs.declared.sight.Way.{Way}
use Rattle.bz_descend.specs.declared.sight.Way.TheVariants.{Fresh, Guard, Root, Header, Status, Meta, Word, First, Pointer, Found, Changed}

abbrev pub seek_asks : Config → Way → Option Todo
seek_asks c Fresh = None
seek_asks c Guard = Some (Read ROOT_STATUS_AT)
seek_asks c (Root st) = Some (Read ROOT_AT)
seek_asks c (Header k) = Some (Read (node_address c k + HEADER_AT))
seek_asks c (Status k) = Some (Read (node_address c k + STATUS_AT))
seek_asks c (Meta r) = Some (Read (node_address c r.slot + (META_AT + r.part.index)))
seek_asks c (Word r e i) = Some (Read (node_address c r.slot + (e.offset + i)))
seek_asks c (First r) = Some (Read (node_address c r.slot + META_AT))
seek_asks c (Pointer r) = Some (Read (node_address c r.slot + r.pointer))
seek_asks c Found = Some Finish
seek_asks c Changed = Some Finish

abbrev pub seek_end : Path → Way → Option Outcome
seek_end path Found = Some (IsAPath path)
seek_end path Changed = Some Restart
seek_end path phase = None

-- the phase at a node to which so many links lead: it is a leaf where there is one for each level from the root's on
abbrev pub arrived_at : ℕ → ℕ → ℕ → Way
arrived_at height depth k = if nat_lt height depth then Found else Status k

-- the most reads of an inner node with so many records: for each binary digit of their number the words of a record's metadata
-- and key, and besides its status, the metadata word of its first record, and the pointer; the header of no child
abbrev pub reads_of : ℕ → ℕ
reads_of count = DESCEND_READS_PER_RECORD * digits count + (DESCEND_READS_BESIDES - 1)

-- how many records the node above a link has, by the status that guards the link
abbrev pub count_above : Option Link → ℕ
count_above None = 0
count_above (Some link) = (status link.status).count

-- the most reads of the first inner nodes of a path, so many
unfoldable pub reads_through : List Link → ℕ → ℕ
reads_through links zero = 0
reads_through links (suc n) = reads_through links n + reads_of (count_above (slice_get links (n + 1)))

-- the most reads of a descent along a path: root status, root pointer and the root's header, and those of each inner node
abbrev pub path_reads : Path → ℕ
path_reads path = DESCEND_READS_AT_ROOT + reads_through path.links (path.depth - 1)

-- a node had so many records, in the durable image of a moment since the look-up began
pub record HadRecords (p : Past) (slot n : ℕ) : Type 0 where
  pub moment : ℕ
  pub since : p.since ≤ moment
  pub now : moment ≤ p.now
  pub count : (page (durable p.config (p.at moment) slot)).count ≡ n

-- the numbers of records by which the reads along a path are reckoned are those of its nodes
abbrev pub AreCountsOfNodes : Path → Past → Type 0
AreCountsOfNodes path p =
    (i : ℕ) (above link : Link) → i + 1 < path.depth → slice_get path.links i ≡ Some above → slice_get path.links (i + 1) ≡ Some link → HadRecords p above.slot (status link.status).count

-- no more reads than these were asked for where a guard was frozen: those of the inner nodes before it on the way, and its own
pub record StopsAfter (key : List ℕ) (reads : ℕ) (p : Past) : Type 0 where
  pub path : Path
  pub frozen : MeetsFrozen key path p
  pub counts : AreCountsOfNodes path p
  pub few : reads ≤ path_reads path + 1

-- the most reads that were asked for up to a phase, with its own
abbrev pub reads_at : Path → Way → ℕ
reads_at path Fresh = 0
reads_at path Guard = 1
reads_at path (Root st) = DESCEND_READS_AT_ROOT - 1
reads_at path (Header k) = path_reads path
reads_at path (Status k) = path_reads path + 1
reads_at path (Meta r) = path_reads path + 2 + DESCEND_READS_PER_RECORD * (digits r.count - digits (r.part.high - r.part.low))
reads_at path (Word r e i) = path_reads path + 3 + DESCEND_READS_PER_RECORD * (digits r.count - digits (r.part.high - r.part.low)) + i
reads_at path (First r) = path_reads path + 2 + DESCEND_READS_PER_RECORD * digits r.count
reads_at path (Pointer r) = path_reads path + 3 + DESCEND_READS_PER_RECORD * digits r.count
reads_at path Found = path_reads path
reads_at path Changed = path_reads path + 1

-- a phase asks for a read, but at the end
abbrev pub asks_one : Way → ℕ
asks_one Found = 0
asks_one Changed = 0
asks_one phase = 1

-- the most reads of any inner node, of any descent, and of a node to which so many links lead and those below, and one more
abbrev pub most_node_reads : ℕ
most_node_reads = reads_of most_records

abbrev pub seek_reads : ℕ
seek_reads = DESCEND_READS_AT_ROOT + most_node_reads * (MAX_LEVELS - 1)

abbrev pub left_from : ℕ → ℕ
left_from depth = 1 + most_node_reads * (MAX_LEVELS - depth)

abbrev pub seek_left : ℕ → Way → ℕ
seek_left depth Fresh = seek_reads + 1
seek_left depth Guard = seek_reads
seek_left depth (Root st) = left_from 1 + 1
seek_left depth (Header k) = left_from depth
seek_left depth (Status k) = left_from (depth + 1) + 2 + DESCEND_READS_PER_RECORD * digits most_records
seek_left depth (Meta r) = left_from (depth + 1) + 1 + DESCEND_READS_PER_RECORD * digits (r.part.high - r.part.low)
seek_left depth (Word r e i) = left_from (depth + 1) + 1 + DESCEND_READS_PER_RECORD * digits (r.part.high - r.part.low) - (i + 1)
seek_left depth (First r) = left_from (depth + 1) + 1
seek_left depth (Pointer r) = left_from (depth + 1)
seek_left depth phase = 0

-- a guard that is frozen
abbrev pub seek_differs : Way → Seen → Type 0
seek_differs (Status k) (Was v) = (status v).frozen ≡ true
seek_differs phase seen = ⊥

-- where the root is so high, the level of the node to which a path leads, as it was met
abbrev pub IsUnder : ℕ → (key : List ℕ) (path : Path) (k : ℕ) (p : Past) → Arrives key path k p → Type 0
IsUnder height key path k p a = (page_at p.config (p.at a.met) k).level + path.depth ≡ height + 1

-- what is known of a node, and with it its level
abbrev pub MeetsInner : List ℕ → Path → ℕ → ℕ → Past → Type 0
MeetsInner key path height k p = (a : ArrivesAtInner key path k p) × IsUnder height key path k p a.node

abbrev pub MeetsSight : List ℕ → Path → ℕ → Sight → Past → Type 0
MeetsSight key path height r p = (l : Sees key path r p) × IsUnder height key path r.slot p l.opened.at_inner.node

abbrev pub MeetsSeparator : List ℕ → Path → ℕ → List ℕ → Sight → Extent → ℕ → Past → Type 0
MeetsSeparator key path height ws r e i p = (l : ReadsSeparator key path ws r e i p) × IsUnder height key path r.slot p l.sees.opened.at_inner.node

abbrev pub MeetsFirst : List ℕ → Path → ℕ → Probe → Past → Type 0
MeetsFirst key path height r p = (l : SeesFirst key path r p) × IsUnder height key path r.slot p l.opened.at_inner.node

abbrev pub MeetsChosen : List ℕ → Path → ℕ → Probe → Past → Type 0
MeetsChosen key path height r p = (l : HasChosen key path r p) × IsUnder height key path r.slot p l.opened.at_inner.node

abbrev pub seek_learnt : List ℕ → Path → ℕ → List ℕ → Way → Past → Type 0
seek_learnt key path height ws Fresh p = Unit {0}
seek_learnt key path height ws Guard p = Unit {0}
seek_learnt key path height ws (Root st) p = SawGuard st p
seek_learnt key path height ws (Header k) p = Arrives key path k p
seek_learnt key path height ws (Status k) p = MeetsInner key path height k p
seek_learnt key path height ws (Meta r) p = MeetsSight key path height r p
seek_learnt key path height ws (Word r e i) p = MeetsSeparator key path height ws r e i p
seek_learnt key path height ws (First r) p = MeetsFirst key path height r p
seek_learnt key path height ws (Pointer r) p = MeetsChosen key path height r p
seek_learnt key path height ws Found p = IsPath key path p × AreThawed path
seek_learnt key path height ws Changed p = MeetsFrozen key path p

abbrev pub seek_facts : List ℕ → Path → ℕ → List ℕ → Way → Stage → Scene → Type 0
seek_facts key path height ws phase Took s = ⊥
seek_facts key path height ws Fresh Waiting s = Unit {0}
seek_facts key path height ws phase Waiting s = HasFilled s × seek_learnt key path height ws phase s.past

-- a part of the records of a node after the first, and the place of a pointer
pub record IsSight (c : Config) (depth : ℕ) (r : Sight) : Type 0 where
  pub at : IsAt c depth r.slot
  pub count : r.count ≡ (status r.status).count
  pub fits : r.count ≤ most_records
  pub probe : IsProbe r.part
  pub index : r.part.index ≡ middle r.part.low r.part.high
  pub from : 0 < r.part.low
  pub within : r.part.high ≤ r.count
  pub place : r.pointer < NODE_WORDS

-- a node that was opened, and the place of a pointer
pub record IsPlace (c : Config) (depth : ℕ) (r : Probe) : Type 0 where
  pub at : IsAt c depth r.slot
  pub count : r.count ≡ (status r.status).count
  pub place : r.pointer < NODE_WORDS

-- slots, places and numbers that are named are such
abbrev pub seek_bounds : Config → ℕ → Way → Type 0
seek_bounds c depth (Header k) = (k < c.nodes) × (depth ≡ 1)
seek_bounds c depth (Status k) = IsAt c depth k
seek_bounds c depth (Meta r) = IsSight c depth r
seek_bounds c depth (Word r e i) = IsSight c depth r × IsInNode e × (i < packed_len e.key)
seek_bounds c depth (First r) = IsPlace c depth r
seek_bounds c depth (Pointer r) = IsPlace c depth r
seek_bounds c depth phase = Unit {0}

-- what is read is such as the nodes of a tree have
abbrev pub seek_heard : Config → ℕ → Way → Seen → Type 0
seek_heard c depth (Root st) (Was v) = (0 < v) × (v ≤ c.nodes)
seek_heard c depth (Header k) (Was v) = (v < 2 ^ 32) × ((header v).level + depth ≤ MAX_LEVELS)
seek_heard c depth (Status k) (Was v) = (v < 2 ^ 61) × (0 < (status v).count) × ((status v).count ≤ most_records)
seek_heard c depth (Meta r) (Was v) = IsInNode (extent_of (meta_of v)) × (0 < (extent_of (meta_of v)).key)
seek_heard c depth (First r) (Was v) = IsInNode (extent_of (meta_of v))
seek_heard c depth (Pointer r) (Was v) = (0 < v) × (v ≤ c.nodes)
seek_heard c depth phase seen = Unit {0}

-- and the reads of a phase are few, and the levels too
pub record IsCounted (c : Config) (path : Path) (height : ℕ) (phase : Way) (asked : ℕ) : Type 0 where
  pub bounds : seek_bounds c path.depth phase
  pub low : height < MAX_LEVELS
  pub few : asked + seek_left path.depth phase ≤ seek_reads + 1
  pub reads : asked ≤ reads_at path phase
