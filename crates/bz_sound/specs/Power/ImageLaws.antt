-- What the image of a moment says of replies and effects where the power fails and comes on again.
use Rattle.std.specs.Prelude.{◌≡◌, ◌<◌, ℕ, List, [], ◌∷◌, ◌++◌, length, Option, Some, None}
use Rattle.bz_layout.specs.declared.config.Config.{Config}
use Rattle.bz_content.specs.Content.{image_fault, content_in}
use Rattle.bz_call.specs.Map.{key_of, apply}
use Rattle.bz_call.specs.declared.calls.Call.TheVariants as call
use Rattle.bz_call.specs.declared.replies.Reply.{Reply}
use Rattle.bz_call.specs.declared.replies.Reply.TheVariants.{Page, Full}
use Rattle.bz_call.specs.declared.replies.Spent.{Spent}
use Rattle.bz_call.specs.declared.replies.Spent.TheVariants.{Swaps}
use Rattle.bz_mark.specs.Log.{Log}
use Rattle.bz_mark.specs.declared.marks.Mark.{Mark}
use Rattle.bz_mark.specs.declared.power.Power.{Power}
use Rattle.bz_sound.specs.Calls.{Open, open_call, map_at}
use Rattle.bz_sound.specs.Memory.ImageLaws.{ReadsAt, ImageAnswersBy, IsImagePage, ChangesKey, IsChangeOf, EffectFollows, AreHeldBy, AreOthersHeld}
use Rattle.bz_sound.specs.Memory.Moments.{image_after, image_at, map_at_start, Decodes, IsAfterFence}
use Rattle.bz_sound.specs.Memory.Replies.{IsWrite}
use Rattle.bz_mark.specs.Counts.{is_taken}
use Rattle.bz_sound.specs.Memory.Spent.{LacksSlots}
use Rattle.bz_sound.specs.Power.Replies.{IsRightReply}
use Rattle.bz_sound.specs.Power.Sound.{IsSound}
use Rattle.bz_sound.specs.Power.Spent.{is_used, count_used, IsSpent}
use Rattle.bz_mark.specs.Times.{since_on}

-- what the image has directly after a load answers a call
abbrev pub AnswersComeFromTheImage : Type 0
AnswersComeFromTheImage =
    (c : Config) (at_start : Power) (log : Log) (w at : ℕ) (opened : Open) → IsSound c at_start log → ReadsAt log.past w opened at →
    ImageAnswersBy (IsSpent c log.start log.past w opened) c log w opened at

-- and gives the page of a leaf
abbrev pub PagesComeFromTheImage : Type 0
PagesComeFromTheImage =
    (c : Config) (at_start : Power) (log : Log) (w at : ℕ) (opened : Open) (from : List ℕ) (next : Option (List ℕ)) (pairs : List (List ℕ × List ℕ)) →
    IsSound c at_start log → ReadsAt log.past w opened at → opened.call ≡ call.Page from → IsImagePage c (image_at log.start at log.past) from next pairs →
    IsRightReply c log.start (log.pages ++ pairs ∷ []) log.past (record { worker = w; opened = opened; reply = Page (length log.pages) next; at = at })

-- where a fence or an eviction changes the content as an open call does that has no Effect yet, its Effect may follow
abbrev pub ChangesFollow : Type 0
ChangesFollow =
    (c : Config) (at_start : Power) (log : Log) (mark : Mark) (w : ℕ) (opened : Open) (old new : Option (List ℕ)) →
    IsSound c at_start log → IsAfterFence (mark ∷ log.past) → open_call w log.past ≡ Some opened → opened.effect ≡ None → IsChangeOf opened.call old new →
    image_fault c (image_after log.start (mark ∷ log.past)) ≡ None →
    ChangesKey c (image_after log.start log.past) (image_after log.start (mark ∷ log.past)) (key_of opened.call) old new →
    EffectFollows c log mark w opened old

-- where one leaves the content, as each does in recovery, the words decode as before
abbrev pub SameContentDecodes : Type 0
SameContentDecodes =
    (c : Config) (at_start : Power) (log : Log) (mark : Mark) → IsSound c at_start log → IsAfterFence (mark ∷ log.past) →
    image_fault c (image_after log.start (mark ∷ log.past)) ≡ None →
    ((key : List ℕ) → content_in c (image_after log.start (mark ∷ log.past)) key ≡ content_in c (image_after log.start log.past) key) →
    Decodes c log.start (mark ∷ log.past)

-- an open call that has an Effect is answered as the map answers it directly before
abbrev pub EffectsAnswer : Type 0
EffectsAnswer =
    (c : Config) (log : Log) (w at : ℕ) (opened : Open) (reply : Reply) → open_call w log.past ≡ Some opened → opened.effect ≡ Some at →
    (apply (map_at (map_at_start c log.start) at log.past) opened.call).reply ≡ Some reply →
    IsRightReply c log.start log.pages log.past (record { worker = w; opened = opened; reply = reply; at = at })

-- one that may change the map and has none is answered Full now, where something is spent since the power came on
abbrev pub SpentAnswersFull : Type 0
SpentAnswersFull =
    (c : Config) (log : Log) (w : ℕ) (opened : Open) (spent : Spent) → open_call w log.past ≡ Some opened → opened.effect ≡ None → IsWrite opened.call →
    IsSpent c log.start log.past w opened spent →
    IsRightReply c log.start log.pages log.past (record { worker = w; opened = opened; reply = Full spent; at = length log.past })

-- descriptors are spent where each is taken since then, or held by another worker with an open call
abbrev pub HeldSwapsAreSpent : Type 0
HeldSwapsAreSpent =
    (c : Config) (start : List ℕ) (past : List Mark) (w : ℕ) (opened : Open) (holder : ℕ → ℕ) → AreHeldBy (λ swap. is_taken swap (since_on past)) c past w holder →
    IsSpent c start past w opened Swaps

-- more slots are lacking than are free where each other one is used since then, or held by another worker with an open call
abbrev pub HeldSlotsAreSpent : Type 0
HeldSlotsAreSpent =
    (c : Config) (start : List ℕ) (past : List Mark) (w slots : ℕ) (free : List ℕ) (holder place : ℕ → ℕ) → length free < slots → AreOthersHeld (λ slot. is_used c start past slot) free c past w holder place →
    LacksSlots c (count_used c start past) slots w past
