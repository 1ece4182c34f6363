-- What this crate proves, as lemmas that other crates cite by these names.
use Rattle.bz_sound.proofs.Cuts.AsBefore.{sound-as-before}
use Rattle.bz_sound.proofs.Cuts.Follows.{power-stands, power-tells}
use Rattle.bz_sound.proofs.Cuts.Growth.{begins, cuts-follow, effects, ends, flushes, fresh-sound, loads-settled, ons-follow, page-ends, quiet-acts, readys-follow}
use Rattle.bz_sound.proofs.Cuts.Left.{cuts-leave, marks-leave}
use Rattle.bz_sound.proofs.Cuts.OneHistory.{powered-history}
use Rattle.bz_sound.proofs.Cuts.Told.{acts-allowed, calls-are-last, changes-follow, effects-answer, effects-directly, effects-once, ends-within, full-has-cause, held-spent, image-answers, image-pages, room-left, same-content, slots-spent, spent-answers, told-took-effect}
use Rattle.bz_sound.proofs.Cuts.WorkedCuts.{worked-cuts}
use Rattle.bz_sound.proofs.Solitary.{none-is-open-beside-a-solitary-call}
use Rattle.bz_sound.proofs.Memory.Apart.{apart-solitary}
use Rattle.bz_sound.proofs.Memory.OpenEffects.{effects-stay}
use Rattle.bz_sound.proofs.Memory.Told.{acts-of-open-calls}
use Rattle.bz_sound.proofs.Memory.Worked.{worked-get}
use Rattle.bz_sound.specs.Solitary.{NoneIsOpenBesideASolitaryCall}
use Rattle.bz_sound.specs.Memory.CallLaws.{ActsAreOfOpenCalls, ApartCallsAreSolitary}
use Rattle.bz_sound.specs.Memory.Example.{WorkedGetIsSound}
use Rattle.bz_sound.specs.Memory.OpenCallLaws.{EffectsStayOpen}
use Rattle.bz_sound.specs.Power.CallLaws.{ActsAreAllowed, EffectsComeDirectly, EffectsStandOnce, EndsLieWithinTheirCalls, FullHasACause, OpenCallsAreLast, OpenCallsLeaveRoom, ToldChangesTookEffect}
use Rattle.bz_sound.specs.Power.CutLaws.{CutsLeave, PowerMarksLeave}
use Rattle.bz_sound.specs.Power.Example.{WorkedCuts}
use Rattle.bz_sound.specs.Power.Growth.{BeginsFollow, EffectsFollowActs, EndsFollow, FencesFollow, FreshJournalsAreSound, LoadsAreSettled, PageEndsFollow, QuietActsFollow}
use Rattle.bz_sound.specs.Power.History.{OneHistory}
use Rattle.bz_sound.specs.Power.ImageLaws.{AnswersComeFromTheImage, ChangesFollow, EffectsAnswer, HeldSlotsAreSpent, HeldSwapsAreSpent, PagesComeFromTheImage, SameContentDecodes, SpentAnswersFull}
use Rattle.bz_sound.specs.Power.Laws.{CutsFollow, OnsFollow, PowerMarksStand, PowerTellsWhatFollows, ReadysFollow, SoundAsBefore}

-- a journal without marks over a well-formed image is sound
pub fresh_journals_are_sound : FreshJournalsAreSound
fresh_journals_are_sound = fresh-sound

-- a load, store, compare-and-swap or ask keeps a journal sound, worker 0's in recovery among them
pub quiet_acts_follow : QuietActsFollow
quiet_acts_follow = quiet-acts

-- so does a fence or an eviction after which the durable words decode to the map
pub fences_follow : FencesFollow
fences_follow = flushes

-- so does a fence or an eviction with the Effect that names what it changed
pub effects_follow_acts : EffectsFollowActs
effects_follow_acts = effects

-- so does the Begin of a call with the power on
pub begins_follow : BeginsFollow
begins_follow = begins

-- so does an End with a right reply
pub ends_follow : EndsFollow
ends_follow = ends

-- so does an End that names the page which comes with it
pub page_ends_follow : PageEndsFollow
page_ends_follow = page-ends

-- directly after a load the durable words decode to the map
pub loads_are_settled : LoadsAreSettled
loads_are_settled = loads-settled

-- what the image has there for a key gives the right reply
pub answers_come_from_the_image : AnswersComeFromTheImage
answers_come_from_the_image = image-answers

-- what the image has there in a leaf gives the right page
pub pages_come_from_the_image : PagesComeFromTheImage
pages_come_from_the_image = image-pages

-- a fence or an eviction that changes the content as an open call does is followed by its Effect
pub changes_follow : ChangesFollow
changes_follow = changes-follow

-- a call that has an Effect is answered by the map directly before it
pub effects_answer : EffectsAnswer
effects_answer = effects-answer

-- a call without one is answered Full where something is spent since the power came on
pub spent_answers_full : SpentAnswersFull
spent_answers_full = spent-answers

-- descriptors are spent where each is taken since then or held by another worker with an open call
pub held_swaps_are_spent : HeldSwapsAreSpent
held_swaps_are_spent = held-spent

-- more slots are lacking than are free where each other one is used since then or held by another worker with an open call
pub held_slots_are_spent : HeldSlotsAreSpent
held_slots_are_spent = slots-spent

-- one that leaves the content, as each does in recovery, needs no Effect
pub same_content_decodes : SameContentDecodes
same_content_decodes = same-content

-- an open call is the last that its worker began, and the worker is not 0
pub open_calls_are_last : OpenCallsAreLast
open_calls_are_last = calls-are-last

-- while a call is open there is room for its End, and for its page if it asks for one
pub open_calls_leave_room : OpenCallsLeaveRoom
open_calls_leave_room = room-left

-- while calls run one after the other no two are open
pub apart_calls_are_solitary : ApartCallsAreSolitary
apart_calls_are_solitary = apart-solitary

-- acts are of workers whose call is open
pub acts_are_of_open_calls : ActsAreOfOpenCalls
acts_are_of_open_calls = acts-of-open-calls

-- an Effect stands directly after a fence or an eviction
pub effects_come_directly : EffectsComeDirectly
effects_come_directly = effects-directly

-- no call takes effect twice
pub effects_stand_once : EffectsStandOnce
effects_stand_once = effects-once

-- while a call with an Effect is open, further marks leave the map directly before the Effect
pub effects_stay_open : EffectsStayOpen
effects_stay_open = effects-stay

-- the moment that an End names lies after the Begin of its call and not after the End
pub ends_lie_within_their_calls : EndsLieWithinTheirCalls
ends_lie_within_their_calls = ends-within

-- a call that tells of a key inserted or deleted took effect
pub told_changes_took_effect : ToldChangesTookEffect
told_changes_took_effect = told-took-effect

-- a Full changed nothing and has a cause since the power came on
pub full_has_a_cause : FullHasACause
full_has_a_cause = full-has-cause

-- the calls of a sound journal, those among them that a cut ended after their Effect, are one history of one map
pub one_history : OneHistory
one_history = powered-history

-- a small journal that was worked out by hand is sound, and those that differ from it in one thing are not
pub worked_get_is_sound : WorkedGetIsSound
worked_get_is_sound = worked-get

-- without a power cut a journal is sound exactly where it is by the definitions that have none
pub sound_as_before : SoundAsBefore
sound_as_before = sound-as-before

-- the power tells which mark may follow: after a Cut nothing but an On, and an On nowhere else
pub power_tells_what_follows : PowerTellsWhatFollows
power_tells_what_follows = power-tells

-- so each Cut, On, Ready and Begin of a sound journal stands where the power is as it asks
pub power_marks_stand : PowerMarksStand
power_marks_stand = power-stands

-- a power cut keeps a journal sound, wherever the power is not off
pub cuts_follow : CutsFollow
cuts_follow = cuts-follow

-- so does an On after a cut
pub ons_follow : OnsFollow
ons_follow = ons-follow

-- what a cut leaves: the durable words, the map, and the calls that happened
pub cuts_leave : CutsLeave
cuts_leave = cuts-leave

-- power on and the end of recovery leave words, map and open calls
pub power_marks_leave : PowerMarksLeave
power_marks_leave = marks-leave

-- so does the end of recovery directly after an act of worker 0
pub readys_follow : ReadysFollow
readys_follow = readys-follow

-- a call that began while none was open is the only one that is open until the next Begin
pub none_is_open_beside_a_solitary_call : NoneIsOpenBesideASolitaryCall
none_is_open_beside_a_solitary_call = none-is-open-beside-a-solitary-call

-- acts are of worker 0 in recovery, and of workers whose call is open
pub acts_are_allowed : ActsAreAllowed
acts_are_allowed = acts-allowed

-- small journals with power cuts that were worked out by hand are sound, and those that differ from them in one thing are not
pub worked_cuts_are_sound : WorkedCuts
worked_cuts_are_sound = worked-cuts
