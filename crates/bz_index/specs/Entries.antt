-- A world's journal as a fixed part and a list of entries, the newest first, and whose the entries are.
use Rattle.std.specs.Prelude.{ℕ, Bool, false, if◌then◌else◌, nat_lt, List, [], ◌∷◌, drop, get_or, reverse}
use Rattle.bz_bus.specs.declared.TheConstants.{PASSES}
use Rattle.bz_call.specs.Pages.{names_page}
use Rattle.bz_index.specs.declared.shared.Origin.{Origin}
use Rattle.bz_index.specs.declared.shared.IndexEntry.{IndexEntry}
use Rattle.bz_mark.specs.Log.{Log}
use Rattle.bz_mark.specs.declared.marks.Mark.{Mark}
use Rattle.bz_mark.specs.declared.marks.Mark.TheVariants.{Begin, End, Evict, Cut, On, Ready}
use Rattle.bz_sound.specs.Replies.{Pages}
use Rattle.bz_world.specs.WorldView.{WorldView}

-- the mark is an End that names a page
abbrev pub has_page : Mark → Bool
has_page (End w n reply at) = names_page reply
has_page mark = false

-- the pass whose the Begins of a worker are: its own. A worker whose number no pass can have would have the first pass begin its calls, which begins none
abbrev pub beginner_of : ℕ → ℕ
beginner_of w = if nat_lt w PASSES then w else 0

-- the pass that makes such marks: the worker's its Begins and Ends, the first pass evictions and what becomes of the
-- power; acts and effects are nobody's, since an act of one worker may bring the effect of another's call
abbrev pub maker_of : Mark → ℕ
maker_of (Begin w n call) = beginner_of w
maker_of (End w n reply at) = w
maker_of (Evict a) = 0
maker_of Cut = 0
maker_of On = 0
maker_of Ready = 0
maker_of mark = PASSES

abbrev pub owner_of : IndexEntry → ℕ
owner_of entry = maker_of entry.mark

-- the marks, each with its page if it names one: marks and pages stand newest first
abbrev pub told : List Mark → Pages → List IndexEntry
told [] pages = []
told (mark ∷ past) pages =
    record { mark = mark; page = if has_page mark then get_or pages 0 [] else [] } ∷ told past (if has_page mark then drop 1 pages else pages)

abbrev pub entries_in : Log → List IndexEntry
entries_in log = told log.past (reverse log.pages)

-- what stays of a world
abbrev pub origin_of : WorldView → Origin
origin_of lab = record {
  config = lab.config;
  start = lab.log.start;
  at_start = lab.at_start;
  marks = lab.log.limits.marks;
  calls = lab.log.limits.calls;
  pages = lab.log.limits.pages;
}

abbrev pub marks_in : List IndexEntry → List Mark
marks_in [] = []
marks_in (entry ∷ entries) = entry.mark ∷ marks_in entries

-- the pages of the Ends that name one, the newest first
abbrev pub pages_in : List IndexEntry → Pages
pages_in [] = []
pages_in (entry ∷ entries) = if has_page entry.mark then entry.page ∷ pages_in entries else pages_in entries

-- the journal that the fixed part and the entries tell
abbrev pub log_of : Origin → List IndexEntry → Log
log_of origin entries = record {
  start = origin.start;
  past = marks_in entries;
  pages = reverse (pages_in entries);
  limits = record { marks = origin.marks; calls = origin.calls; pages = origin.pages };
}
