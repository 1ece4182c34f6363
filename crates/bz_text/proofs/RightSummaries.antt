-- The counts of a journal are as many as its Ends, and each is the number of those with its reply.
use Rattle.std.proofs.Common.{◌≡◌, ℕ, ◌+◌, List, [], ◌∷◌, refl, ap, ◌∙◌, arith}
use Rattle.bz_call.specs.declared.replies.Reply.{Reply}
use Rattle.bz_call.specs.declared.replies.Reply.TheVariants.{Inserted, Exists, Deleted, Updated, Missing, Value, Page, Full}
use Rattle.bz_mark.specs.declared.marks.Mark.{Mark}
use Rattle.bz_mark.specs.declared.marks.Mark.TheVariants.{End}
use Rattle.bz_text.specs.Summary.{counted, counts_of}
use Rattle.bz_text.specs.declared.counts.Counts.{Counts}
use Rattle.bz_text.specs.RightSummary.{total, CountsAreTheEnds, AreCounted, EachCountIsRight}

one_more : (reply : Reply) (counts : Counts) → total (counted reply counts) ≡ total counts + 1
one_more Inserted counts = omega arith
one_more Exists counts = omega arith
one_more (Deleted had) counts = omega arith
one_more (Updated had) counts = omega arith
one_more Missing counts = omega arith
one_more (Value found) counts = omega arith
one_more (Page number next) counts = omega arith
one_more (Full spent) counts = omega arith

pub counts-are-the-ends : CountsAreTheEnds
counts-are-the-ends [] = refl
counts-are-the-ends (End w n reply at ∷ past) = one_more reply (counts_of past) ∙ ap (λ n. n + 1) (counts-are-the-ends past)
counts-are-the-ends (mark ∷ past) = counts-are-the-ends past

-- one End more, by its reply
with_reply : (w n at : ℕ) (reply : Reply) (past : List Mark) → AreCounted past → AreCounted (End w n reply at ∷ past)
with_reply w n at Inserted past h = record { inserted = ap (λ n. n + 1) h.inserted; exists = h.exists; deleted = h.deleted; updated = h.updated; missing = h.missing; value = h.value; page = h.page; full = h.full }
with_reply w n at Exists past h = record { inserted = h.inserted; exists = ap (λ n. n + 1) h.exists; deleted = h.deleted; updated = h.updated; missing = h.missing; value = h.value; page = h.page; full = h.full }
with_reply w n at (Deleted had) past h = record { inserted = h.inserted; exists = h.exists; deleted = ap (λ n. n + 1) h.deleted; updated = h.updated; missing = h.missing; value = h.value; page = h.page; full = h.full }
with_reply w n at (Updated had) past h = record { inserted = h.inserted; exists = h.exists; deleted = h.deleted; updated = ap (λ n. n + 1) h.updated; missing = h.missing; value = h.value; page = h.page; full = h.full }
with_reply w n at Missing past h = record { inserted = h.inserted; exists = h.exists; deleted = h.deleted; updated = h.updated; missing = ap (λ n. n + 1) h.missing; value = h.value; page = h.page; full = h.full }
with_reply w n at (Value found) past h = record { inserted = h.inserted; exists = h.exists; deleted = h.deleted; updated = h.updated; missing = h.missing; value = ap (λ n. n + 1) h.value; page = h.page; full = h.full }
with_reply w n at (Page number next) past h = record { inserted = h.inserted; exists = h.exists; deleted = h.deleted; updated = h.updated; missing = h.missing; value = h.value; page = ap (λ n. n + 1) h.page; full = h.full }
with_reply w n at (Full spent) past h = record { inserted = h.inserted; exists = h.exists; deleted = h.deleted; updated = h.updated; missing = h.missing; value = h.value; page = h.page; full = ap (λ n. n + 1) h.full }

pub each-count-is-right : EachCountIsRight
each-count-is-right [] = record { inserted = refl; exists = refl; deleted = refl; updated = refl; missing = refl; value = refl; page = refl; full = refl }
each-count-is-right (End w n reply at ∷ past) = with_reply w n at reply past (each-count-is-right past)
each-count-is-right (mark ∷ past) =
    let h = each-count-is-right past in
    record { inserted = h.inserted; exists = h.exists; deleted = h.deleted; updated = h.updated; missing = h.missing; value = h.value; page = h.page; full = h.full }
