-- What the counts of a summary say in the journal's words.
use Rattle.std.proofs.Common.{◌≡◌, ℕ, ◌+◌, Bool, true, false, if◌then◌else◌, List, [], ◌∷◌}
use Rattle.bz_call.specs.declared.replies.Reply.{Reply}
use Rattle.bz_call.specs.declared.replies.Reply.TheVariants.{Inserted, Exists, Deleted, Updated, Missing, Value, Page, Full}
use Rattle.bz_mark.specs.Log.{count_ends}
use Rattle.bz_mark.specs.declared.marks.Mark.{Mark}
use Rattle.bz_mark.specs.declared.marks.Mark.TheVariants.{End}
use Rattle.bz_text.specs.Summary.{counts_of}
use Rattle.bz_text.specs.declared.counts.Counts.{Counts}

-- all counts together
abbrev pub total : Counts → ℕ
total counts = counts.inserted + counts.exists + counts.deleted + counts.updated + counts.missing + counts.value + counts.page + counts.full

-- the counts of a journal are as many as its Ends
abbrev pub CountsAreTheEnds : Type 0
CountsAreTheEnds = (past : List Mark) → total (counts_of past) ≡ count_ends past

-- how many Ends have a reply of this kind
abbrev pub count_replies : (Reply → Bool) → List Mark → ℕ
count_replies kind [] = 0
count_replies kind (End w n reply at ∷ past) = if kind reply then count_replies kind past + 1 else count_replies kind past
count_replies kind (mark ∷ past) = count_replies kind past

abbrev pub is_inserted : Reply → Bool
is_inserted Inserted = true
is_inserted reply = false

abbrev pub is_exists : Reply → Bool
is_exists Exists = true
is_exists reply = false

abbrev pub is_deleted : Reply → Bool
is_deleted (Deleted had) = true
is_deleted reply = false

abbrev pub is_updated : Reply → Bool
is_updated (Updated had) = true
is_updated reply = false

abbrev pub is_missing : Reply → Bool
is_missing Missing = true
is_missing reply = false

abbrev pub is_value : Reply → Bool
is_value (Value found) = true
is_value reply = false

abbrev pub is_page : Reply → Bool
is_page (Page number next) = true
is_page reply = false

abbrev pub is_full : Reply → Bool
is_full (Full spent) = true
is_full reply = false

-- each count is the number of Ends with that reply
pub record AreCounted (past : List Mark) : Type 0 where
  pub inserted : (counts_of past).inserted ≡ count_replies is_inserted past
  pub exists : (counts_of past).exists ≡ count_replies is_exists past
  pub deleted : (counts_of past).deleted ≡ count_replies is_deleted past
  pub updated : (counts_of past).updated ≡ count_replies is_updated past
  pub missing : (counts_of past).missing ≡ count_replies is_missing past
  pub value : (counts_of past).value ≡ count_replies is_value past
  pub page : (counts_of past).page ≡ count_replies is_page past
  pub full : (counts_of past).full ≡ count_replies is_full past

abbrev pub EachCountIsRight : Type 0
EachCountIsRight = (past : List Mark) → AreCounted past
