-- The phases of a look-up: what each asks for, and what comes after it.
use Rattle.std.specs.Prelude.{ℕ, ◌+◌, ◌^◌, ◌<◌, ◌==◌, if◌then◌else◌, Option, Some, None}
use Rattle.bz_layout.specs.Addresses.{node_address}
use Rattle.bz_layout.specs.declared.sizes.TheConstants.{STATUS_AT, HEADER_AT}
use Rattle.bz_word.specs.Statuses.{status}
use Rattle.bz_task.specs.declared.todo.Outcome.{Outcome}
use Rattle.bz_task.specs.declared.todo.Outcome.TheVariants.{Key, Restart}
use Rattle.bz_task.specs.declared.todo.Seen.{Seen}
use Rattle.bz_task.specs.declared.todo.Seen.TheVariants.{Read as Was}
use Rattle.bz_task.specs.declared.todo.Todo.{Todo}
use Rattle.bz_task.specs.declared.todo.Todo.TheVariants.{Read, Finish}
use Rattle.bz_task.specs.declared.view.KeyView.{KeyView}
use Rattle.bz_find.specs.Words.{records_in, sorted_in}
use Rattle.bz_find.specs.Steps.{place_of, begun, heard}
use Rattle.bz_find.specs.declared.find.Find.{Find}
use Rattle.bz_find.specs.declared.phase.FindPhase.{FindPhase}
use Rattle.bz_find.specs.declared.phase.FindPhase.TheVariants.{Fresh, Status, Header, Searching, Again, Link as Of_link, Guard, Viewed, Changed}
use Rattle.bz_find.specs.declared.search.Search.{Search}
use Rattle.bz_find.specs.declared.search.Step.{Step}
use Rattle.bz_find.specs.declared.search.Step.TheVariants.{Done}

-- what was found, at a moment
abbrev pub view_of : Find → ℕ → KeyView
view_of t at = record { slot = t.link.slot; status = t.status; found = t.search.found; at = at }

abbrev pub find_asks : Find → FindPhase → Option Todo
find_asks t Fresh = None
find_asks t Status = Some (Read (node_address t.config t.link.slot + STATUS_AT))
find_asks t Header = Some (Read (node_address t.config t.link.slot + HEADER_AT))
find_asks t Searching = Some (Read (node_address t.config t.link.slot + place_of t.search.step))
find_asks t Again = Some (Read (node_address t.config t.link.slot + STATUS_AT))
find_asks t Of_link = Some (Read t.link.link)
find_asks t (Guard at) = Some (Read t.link.guard)
find_asks t (Viewed at) = Some Finish
find_asks t Changed = Some Finish

abbrev pub find_end : Find → FindPhase → Option Outcome
find_end t (Viewed at) = Some (Key (view_of t at))
find_end t Changed = Some Restart
find_end t phase = None

-- while the search wants words it goes on, and then comes the validation
abbrev pub phase_after : Step → ℕ → FindPhase
phase_after Done st = if (status st).frozen then Of_link else Again
phase_after step st = Searching

abbrev pub gone_on : Find → Find
gone_on t = record t { phase = phase_after t.search.step t.status }

-- the search of a leaf with this header
abbrev pub search_of : Find → ℕ → Search
search_of t h = begun t.key (records_in t.status) (sorted_in h (records_in t.status))

-- the answer of a phase has come at a moment
abbrev pub told : Find → FindPhase → Seen → ℕ → Find
told t Status (Was v) now = record t { status = v; phase = Header }
told t Header (Was v) now = gone_on (record t { search = search_of t v })
told t Searching (Was v) now = gone_on (record t { search = heard t.search v })
told t Again (Was v) now = record t { phase = if v == t.status then Viewed now else Changed }
told t Of_link (Was v) now = record t { phase = if v == t.link.slot + 1 then Guard now else Changed }
told t (Guard at) (Was v) now = record t { phase = if (status v).frozen then Changed else Viewed at }
told t phase seen now = record t { phase = Status }

-- a phase asks for a read, but at the end
abbrev pub reads_of : FindPhase → ℕ
reads_of (Viewed at) = 0
reads_of Changed = 0
reads_of phase = 1

abbrev pub counted : Find → Find
counted t = record t { asked = t.asked + reads_of t.phase }

-- what was read is a plain word
abbrev pub IsPlain : Seen → Type 0
IsPlain (Was v) = v < 2 ^ 61
IsPlain seen = Unit {0}
