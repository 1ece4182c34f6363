-- How sound journals grow.
use Rattle.std.specs.Prelude.{◌≡◌, ◌≤◌, ℕ, true, false, List, [], ◌∷◌, ◌++◌, length, Some, None, slice_index}
use Rattle.bz_layout.specs.Addresses as layout
use Rattle.bz_layout.specs.declared.config.Config.{Config}
use Rattle.bz_content.specs.Content.{image_fault}
use Rattle.bz_call.specs.Pages.{names_page}
use Rattle.bz_call.specs.declared.calls.Call.{Call}
use Rattle.bz_mark.specs.Log.{Log, Limits, with_mark, with_page}
use Rattle.bz_mark.specs.Moments.{at_moment}
use Rattle.bz_mark.specs.WordsAfter.{words_after_marks, Found}
use Rattle.bz_mark.specs.declared.marks.Mark.{Mark}
use Rattle.bz_mark.specs.declared.marks.Mark.TheVariants.{Begin, End, Load, Store, Cas, Ask, Effect}
use Rattle.bz_sound.specs.Calls.{open_call, MayBegin}
use Rattle.bz_sound.specs.Memory.Moments.{map_at_start, Decodes, IsAfterLoad, IsAfterFence}
use Rattle.bz_sound.specs.Memory.Calls.{MayFollow}
use Rattle.bz_sound.specs.Memory.Replies.{Answer, IsRightReply}
use Rattle.bz_sound.specs.Memory.Sound.{IsSound}

-- a journal without marks over a well-formed image is sound
abbrev pub FreshJournalsAreSound : Type 0
FreshJournalsAreSound =
    (c : Config) (start : List ℕ) (limits : Limits) → length start ≡ layout.words_of c → image_fault c (slice_index start) ≡ None →
    IsSound c (record { start = start; past = []; pages = []; limits = limits })

-- the mark changes no durable word by the memory's rule
abbrev pub IsQuietAct : Mark → Type 0
IsQuietAct (Load w a v) = Unit {0}
IsQuietAct (Store w a v) = Unit {0}
IsQuietAct (Cas w a old new found) = Unit {0}
IsQuietAct (Ask w line) = Unit {0}
IsQuietAct mark = ⊥

-- a load, store, compare-and-swap or ask may be added
abbrev pub QuietActsFollow : Type 0
QuietActsFollow =
    (c : Config) (log : Log) (mark : Mark) → IsSound c log → IsQuietAct mark → MayFollow (map_at_start c log.start) log.past mark →
    Found (words_after_marks log.start log.past) mark → IsSound c (with_mark log mark)

-- a fence or an eviction may be added after which the durable words decode to the map as it was
abbrev pub FencesFollow : Type 0
FencesFollow =
    (c : Config) (log : Log) (mark : Mark) → IsSound c log → IsAfterFence (mark ∷ log.past) → MayFollow (map_at_start c log.start) log.past mark →
    Decodes c log.start (mark ∷ log.past) → IsSound c (with_mark log mark)

-- So may each of these with the Effect of a call, after which they decode to the map with the call's step. In
-- between they need not decode: that moment is inner.
abbrev pub EffectsFollowActs : Type 0
EffectsFollowActs =
    (c : Config) (log : Log) (mark : Mark) (w n : ℕ) → IsSound c log → MayFollow (map_at_start c log.start) log.past mark →
    MayFollow (map_at_start c log.start) (mark ∷ log.past) (Effect w n) → Decodes c log.start (Effect w n ∷ mark ∷ log.past) →
    IsSound c (with_mark (with_mark log mark) (Effect w n))

-- a call may begin
abbrev pub BeginsFollow : Type 0
BeginsFollow =
    (c : Config) (log : Log) (w n : ℕ) (call : Call) → IsSound c log → 1 ≤ w → MayBegin log.past w n → IsSound c (with_mark log (Begin w n call))

-- a call may end by a right reply that names no page
abbrev pub EndsFollow : Type 0
EndsFollow =
    (c : Config) (log : Log) (answer : Answer) → IsSound c log → open_call answer.worker log.past ≡ Some answer.opened → names_page answer.reply ≡ false →
    IsRightReply c log.start log.pages log.past answer →
    IsSound c (with_mark log (End answer.worker answer.opened.number answer.reply answer.at))

-- and by one that names a page, which comes with the End
abbrev pub PageEndsFollow : Type 0
PageEndsFollow =
    (c : Config) (log : Log) (answer : Answer) (pairs : List (List ℕ × List ℕ)) → IsSound c log → open_call answer.worker log.past ≡ Some answer.opened →
    names_page answer.reply ≡ true → IsRightReply c log.start (log.pages ++ pairs ∷ []) log.past answer →
    IsSound c (with_page (with_mark log (End answer.worker answer.opened.number answer.reply answer.at)) pairs)

-- directly after a load the durable words decode
abbrev pub LoadsAreSettled : Type 0
LoadsAreSettled =
    (c : Config) (log : Log) (w at : ℕ) → IsSound c log → at ≤ length log.past → IsAfterLoad w (at_moment at log.past) →
    Decodes c log.start (at_moment at log.past)
