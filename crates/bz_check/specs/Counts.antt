-- What a judge counts of marks: the descriptors that are taken since the power last came on, and the pages that Ends named. The newest
-- mark stands first.
use Rattle.std.specs.Prelude.{◌≡◌, ◌<◌, ◌≤◌, ◌+◌, ◌-◌, ◌/◌, ◌%◌, ◌==◌, ◌&&◌, ◌||◌, not, nat_lt, nat_le, if◌then◌else◌, ℕ, List, length, replicate, slice_index, slice_set, Option, Some, None}
use Rattle.bz_layout.specs.declared.config.Config.{Config}
use Rattle.bz_layout.specs.declared.sizes.TheConstants.{SUPERBLOCK_WORDS, SWAP_STATUS_AT, SWAP_WORDS}
use Rattle.bz_call.specs.declared.replies.Reply.{Reply}
use Rattle.bz_call.specs.declared.replies.Reply.TheVariants.{Page}
use Rattle.bz_mark.specs.Counts.{BEGUN, is_taken, count_taken}
use Rattle.bz_mark.specs.Log.{count_page_ends}
use Rattle.bz_mark.specs.Times.{since_on}
use Rattle.bz_mark.specs.declared.marks.Mark.{Mark}
use Rattle.bz_mark.specs.declared.marks.Mark.TheVariants.{Store, End, On}
use Rattle.bz_check.specs.declared.counter.Standing.{Standing}
use Rattle.bz_check.specs.Tables.{Known, others_in}

-- for each descriptor the moment after the last store that began a swap in it, and 0 where none did; how many workers there are; the
-- moment after the last On; how many descriptors are taken since; and how many Ends named a page
pub record Counted : Type 0 where
  pub begun : List ℕ
  pub workers : ℕ
  pub on : ℕ
  pub taken : ℕ
  pub pages : ℕ

-- before any mark
abbrev pub no_counts : Config → Counted
no_counts c = record { begun = replicate c.swaps 0; workers = c.workers; on = 0; taken = 0; pages = 0 }

-- none of these is more than the marks
pub record CountsWithin (now : ℕ) (k : Counted) : Type 0 where
  pub taken : k.taken ≤ now
  pub pages : k.pages ≤ now

-- the descriptor in which a store begins a swap, if it is one of so many
abbrev pub taken_from : ℕ → ℕ → Option ℕ
taken_from swaps from = if from % SWAP_WORDS == SWAP_STATUS_AT && nat_lt (from / SWAP_WORDS) swaps then Some (from / SWAP_WORDS) else None

abbrev pub taken_by : ℕ → ℕ → ℕ → ℕ → Option ℕ
taken_by swaps w a v = if w == 0 || (not (v == BEGUN) || nat_lt a SUPERBLOCK_WORDS) then None else taken_from swaps (a - SUPERBLOCK_WORDS)

-- after a swap has begun there
abbrev pub with_taken : Counted → ℕ → Option ℕ → Counted
with_taken k now None = k
with_taken k now (Some swap) = record k { begun = slice_set k.begun swap (now + 1); taken = if nat_le (slice_index k.begun swap) k.on then k.taken + 1 else k.taken }

-- after an End with a reply
abbrev pub with_reply : Counted → Reply → Counted
with_reply k (Page page next) = record k { pages = k.pages + 1 }
with_reply k reply = k

-- after a mark at a moment
abbrev pub counts_after : Counted → ℕ → Mark → Counted
counts_after k now (Store w a v) = with_taken k now (taken_by (length k.begun) w a v)
counts_after k now (End w n reply at) = with_reply k reply
counts_after k now On = record k { on = now + 1; taken = 0 }
counts_after k now mark = k

-- how things stand for the End of a worker's call at a moment
abbrev pub standing_in : Counted → Known → ℕ → ℕ → Standing
standing_in k t now w = record { moment = now; page = k.pages; spent = nat_le (length k.begun) (k.taken + others_in t k.workers w) }

-- the counts are those of the marks. A descriptor is taken since the last On where a swap began in it after that
pub record Counts (c : Config) (past : List Mark) (k : Counted) : Type 0 where
  pub size : length k.begun ≡ c.swaps
  pub workers : k.workers ≡ c.workers
  pub on : k.on ≤ length past
  pub dated : (swap : ℕ) → swap < c.swaps → slice_index k.begun swap ≤ length past
  pub shown : (swap : ℕ) → swap < c.swaps → is_taken swap (since_on past) ≡ nat_lt k.on (slice_index k.begun swap)
  pub taken : k.taken ≡ count_taken c (since_on past)
  pub pages : k.pages ≡ count_page_ends past
  pub within : CountsWithin (length past) k
