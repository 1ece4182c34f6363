-- How sound journals grow where the power fails and comes on again.
use Rattle.std.specs.Prelude.{◌≡◌, ◌≤◌, ℕ, true, false, List, [], ◌∷◌, ◌++◌, length, Some, None, slice_index}
use Rattle.bz_layout.specs.Addresses as layout
use Rattle.bz_layout.specs.declared.config.Config.{Config}
use Rattle.bz_content.specs.Content.{image_fault}
use Rattle.bz_call.specs.Pages.{names_page}
use Rattle.bz_call.specs.declared.calls.Call.{Call}
use Rattle.bz_mark.specs.Log.{Log, Limits, with_mark, with_page}
use Rattle.bz_mark.specs.Moments.{at_moment}
use Rattle.bz_mark.specs.WordsAfter.{words_after_marks, Found}
use Rattle.bz_mark.specs.declared.marks.Mark.{Mark}
use Rattle.bz_mark.specs.declared.marks.Mark.TheVariants.{Begin, End, Effect}
use Rattle.bz_mark.specs.declared.power.Power.{Power}
use Rattle.bz_sound.specs.Calls.{open_call}
use Rattle.bz_sound.specs.Memory.Laws.{IsQuietAct}
use Rattle.bz_sound.specs.Memory.Moments.{map_at_start, Decodes, IsAfterLoad, IsAfterFence}
use Rattle.bz_sound.specs.Memory.Replies.{Answer}
use Rattle.bz_sound.specs.Power.Calls.{MayFollow, BeginsPowered}
use Rattle.bz_sound.specs.Power.Replies.{IsRightReply}
use Rattle.bz_sound.specs.Power.Sound.{IsSound}

-- a journal without marks over a well-formed image is sound, whether the power is on at its start or not
abbrev pub FreshJournalsAreSound : Type 0
FreshJournalsAreSound =
    (c : Config) (at_start : Power) (start : List ℕ) (limits : Limits) → length start ≡ layout.words_of c → image_fault c (slice_index start) ≡ None →
    IsSound c at_start (record { start = start; past = []; pages = []; limits = limits })

-- a load, store, compare-and-swap or ask may be added, of worker 0 in recovery and of any other worker whose call is open
abbrev pub QuietActsFollow : Type 0
QuietActsFollow =
    (c : Config) (at_start : Power) (log : Log) (mark : Mark) → IsSound c at_start log → IsQuietAct mark → MayFollow at_start (map_at_start c log.start) log.past mark →
    Found (words_after_marks log.start log.past) mark → IsSound c at_start (with_mark log mark)

-- a fence or an eviction may be added after which the durable words decode to the map as it was
abbrev pub FencesFollow : Type 0
FencesFollow =
    (c : Config) (at_start : Power) (log : Log) (mark : Mark) → IsSound c at_start log → IsAfterFence (mark ∷ log.past) →
    MayFollow at_start (map_at_start c log.start) log.past mark → Decodes c log.start (mark ∷ log.past) → IsSound c at_start (with_mark log mark)

-- so may each of these with the Effect of a call, after which they decode to the map with the call's step
abbrev pub EffectsFollowActs : Type 0
EffectsFollowActs =
    (c : Config) (at_start : Power) (log : Log) (mark : Mark) (w n : ℕ) → IsSound c at_start log → MayFollow at_start (map_at_start c log.start) log.past mark →
    MayFollow at_start (map_at_start c log.start) (mark ∷ log.past) (Effect w n) → Decodes c log.start (Effect w n ∷ mark ∷ log.past) →
    IsSound c at_start (with_mark (with_mark log mark) (Effect w n))

-- with the power on a call may begin
abbrev pub BeginsFollow : Type 0
BeginsFollow =
    (c : Config) (at_start : Power) (log : Log) (w n : ℕ) (call : Call) → IsSound c at_start log → BeginsPowered at_start log.past w n →
    IsSound c at_start (with_mark log (Begin w n call))

-- a call may end by a right reply that names no page
abbrev pub EndsFollow : Type 0
EndsFollow =
    (c : Config) (at_start : Power) (log : Log) (answer : Answer) → IsSound c at_start log → open_call answer.worker log.past ≡ Some answer.opened →
    names_page answer.reply ≡ false → IsRightReply c log.start log.pages log.past answer →
    IsSound c at_start (with_mark log (End answer.worker answer.opened.number answer.reply answer.at))

-- and by one that names a page, which comes with the End
abbrev pub PageEndsFollow : Type 0
PageEndsFollow =
    (c : Config) (at_start : Power) (log : Log) (answer : Answer) (pairs : List (List ℕ × List ℕ)) → IsSound c at_start log →
    open_call answer.worker log.past ≡ Some answer.opened → names_page answer.reply ≡ true → IsRightReply c log.start (log.pages ++ pairs ∷ []) log.past answer →
    IsSound c at_start (with_page (with_mark log (End answer.worker answer.opened.number answer.reply answer.at)) pairs)

-- directly after a load the durable words decode
abbrev pub LoadsAreSettled : Type 0
LoadsAreSettled =
    (c : Config) (at_start : Power) (log : Log) (w at : ℕ) → IsSound c at_start log → at ≤ length log.past → IsAfterLoad w (at_moment at log.past) →
    Decodes c log.start (at_moment at log.past)
