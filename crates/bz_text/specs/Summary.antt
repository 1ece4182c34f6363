-- The summary of a workload, in three lines: what was asked, how the calls have ended, and how many pairs there are.
use Rattle.std.specs.Prelude.{ℕ, ◌+◌, List, [], ◌∷◌, ◌++◌, codes}
use Rattle.std.specs.FinMap.{len}
use Rattle.std.specs.Fmt.{decimal}
use Rattle.bz_call.specs.declared.replies.Reply.{Reply}
use Rattle.bz_call.specs.declared.replies.Reply.TheVariants.{Inserted, Exists, Deleted, Updated, Missing, Value, Page, Full}
use Rattle.bz_layout.specs.declared.config.Config.{Config}
use Rattle.bz_mark.specs.Log.{Log}
use Rattle.bz_mark.specs.declared.marks.Mark.{Mark}
use Rattle.bz_mark.specs.declared.marks.Mark.TheVariants.{End}
use Rattle.bz_sound.specs.Calls.{map_after}
use Rattle.bz_sound.specs.Memory.Moments.{map_at_start}
use Rattle.bz_text.specs.declared.counts.Counts.{Counts}

-- no call has ended
abbrev pub no_counts : Counts
no_counts = record { inserted = 0; exists = 0; deleted = 0; updated = 0; missing = 0; value = 0; page = 0; full = 0 }

-- one call more has ended, with this reply
abbrev pub counted : Reply → Counts → Counts
counted Inserted counts = record counts { inserted = counts.inserted + 1 }
counted Exists counts = record counts { exists = counts.exists + 1 }
counted (Deleted had) counts = record counts { deleted = counts.deleted + 1 }
counted (Updated had) counts = record counts { updated = counts.updated + 1 }
counted Missing counts = record counts { missing = counts.missing + 1 }
counted (Value found) counts = record counts { value = counts.value + 1 }
counted (Page number next) counts = record counts { page = counts.page + 1 }
counted (Full spent) counts = record counts { full = counts.full + 1 }

-- the Ends among the marks, counted by their replies
abbrev pub counts_of : List Mark → Counts
counts_of [] = no_counts
counts_of (End w n reply at ∷ past) = counted reply (counts_of past)
counts_of (mark ∷ past) = counts_of past

-- how many pairs the map has after the last mark: that of the start, with every effect since
abbrev pub pairs_left : Config → Log → ℕ
pairs_left c log = len (map_after (map_at_start c log.start) log.past)

-- how many calls of how many workers were asked for
abbrev pub asked_text : ℕ → ℕ → List ℕ
asked_text calls workers = codes "work " ++ (decimal calls ++ (codes " calls " ++ (decimal workers ++ (codes " workers" ++ 10 ∷ []))))

abbrev pub counts_text : Counts → List ℕ
counts_text counts =
    codes "inserted " ++ (decimal counts.inserted ++ (codes " exists " ++ (decimal counts.exists
    ++ (codes " deleted " ++ (decimal counts.deleted ++ (codes " updated " ++ (decimal counts.updated
    ++ (codes " missing " ++ (decimal counts.missing ++ (codes " value " ++ (decimal counts.value
    ++ (codes " page " ++ (decimal counts.page ++ (codes " full " ++ (decimal counts.full ++ 10 ∷ [])))))))))))))))

abbrev pub pairs_text : ℕ → List ℕ
pairs_text pairs = codes "pairs " ++ (decimal pairs ++ 10 ∷ [])

-- the summary of a journal over a memory of this configuration
abbrev pub summary_of : Config → ℕ → ℕ → Log → List ℕ
summary_of c calls workers log = asked_text calls workers ++ (counts_text (counts_of log.past) ++ pairs_text (pairs_left c log))
