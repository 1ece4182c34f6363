-- What sound journals tell of their calls, and what the image says of replies and effects, where the power fails.
use Rattle.bz_call.specs.declared.replies.Reply.TheVariants.{Full}
use Rattle.bz_mark.specs.Moments.{at_moment}
use Rattle.bz_mark.specs.declared.marks.Mark.TheVariants.{Load, Store, Cas, Ask, Fence}
use Rattle.bz_sound.specs.Memory.Moments.{map_at_start}
use Rattle.bz_mark.specs.Counts.{is_taken}
use Rattle.bz_sound.specs.Power.Calls.{MayFollow}
use Rattle.bz_sound.specs.Power.CallLaws.{OpenCallsAreLast, OpenCallsLeaveRoom, ActsAreAllowed, EffectsComeDirectly, EffectsStandOnce, EndsLieWithinTheirCalls, ToldChangesTookEffect, FullHasACause}
use Rattle.bz_sound.specs.Power.ImageLaws.{AnswersComeFromTheImage, PagesComeFromTheImage, ChangesFollow, SameContentDecodes, EffectsAnswer, SpentAnswersFull, HeldSwapsAreSpent, HeldSlotsAreSpent}
use Rattle.bz_sound.specs.Power.Spent.{is_used, IsSpent}
use Rattle.bz_mark.specs.Times.{since_on}
use Rattle.bz_sound.proofs.Cuts.Growth.{decodes-now, loads-settled}
use Rattle.bz_sound.proofs.Memory.Acknowledged.{told-took}
use Rattle.bz_sound.proofs.Memory.Changed.{change-decodes, content-decodes}
use Rattle.bz_sound.proofs.Memory.Ended.{effect-answers, cause-answers}
use Rattle.bz_sound.proofs.Memory.Held.{held-count}
use Rattle.bz_sound.proofs.Memory.HeldSlots.{others-count}
use Rattle.bz_sound.proofs.Memory.Marks.{each-at}
use Rattle.bz_sound.proofs.Memory.Once.{stands-once}
use Rattle.bz_sound.proofs.Memory.ReadPages.{pages-by}
use Rattle.bz_sound.proofs.Memory.Reads.{answers-by}
use Rattle.bz_sound.proofs.Memory.RoomLeft.{leaves-room}
use Rattle.bz_sound.proofs.Memory.Settled.{after-fence}
use Rattle.bz_sound.proofs.Memory.Standing.{powered-stands}
use Rattle.bz_sound.proofs.Memory.Told.{EndsCall, ended, last-call, lies-within, full-cause}

pub calls-are-last : OpenCallsAreLast
calls-are-last c at_start log w opened sound is = last-call _ log.past w opened (powered-stands c at_start log sound).once is

pub room-left : OpenCallsLeaveRoom
room-left c at_start log w opened sound is = leaves-room (IsSpent c log.start) c log w opened (powered-stands c at_start log sound) is

pub acts-allowed : ActsAreAllowed
acts-allowed c at_start log moment w sound h = record {
  load = λ a v is. each-at (MayFollow at_start (map_at_start c log.start)) log.past moment (Load w a v) sound.once h is;
  store = λ a v is. each-at (MayFollow at_start (map_at_start c log.start)) log.past moment (Store w a v) sound.once h is;
  compare_and_swap = λ a old new found is. each-at (MayFollow at_start (map_at_start c log.start)) log.past moment (Cas w a old new found) sound.once h is;
  ask = λ line is. each-at (MayFollow at_start (map_at_start c log.start)) log.past moment (Ask w line) sound.once h is;
  fence = λ is. each-at (MayFollow at_start (map_at_start c log.start)) log.past moment (Fence w) sound.once h is;
}

pub effects-directly : EffectsComeDirectly
effects-directly c at_start log moment w n sound h is = after-fence _ log.past moment w n (powered-stands c at_start log sound).once h is

pub effects-once : EffectsStandOnce
effects-once c at_start log first second w n sound h k is again = stands-once _ log.past first second w n (powered-stands c at_start log sound).once h k is again

pub ends-within : EndsLieWithinTheirCalls
ends-within c at_start log moment w n at reply sound h is = lies-within (IsSpent c log.start) c log moment w n at reply (powered-stands c at_start log sound) h is

pub told-took-effect : ToldChangesTookEffect
told-took-effect c at_start log moment w n at reply sound h is told = told-took (IsSpent c log.start) c log moment w n at reply (powered-stands c at_start log sound) h is told

pub full-has-cause : FullHasACause
full-has-cause c at_start log moment w n at spent sound h is =
    let e : EndsCall (IsSpent c log.start) c log.start log.pages (at_moment moment log.past) w n (Full spent) at = ended (IsSpent c log.start) c log moment w n at (Full spent) (powered-stands c at_start log sound) h is in
    let cause = full-cause (IsSpent c log.start (at_moment moment log.past) w e.opened) c log.start log.pages (at_moment moment log.past) w at spent e.opened e.opened.effect e.right.right in
    record { opened = e.opened; is_open = e.is_open; quiet = cause.0; cause = cause.1 }

pub image-answers : AnswersComeFromTheImage
image-answers c at_start log w at opened sound reads =
    answers-by (IsSpent c log.start log.past w opened) c log w at opened (loads-settled c at_start log w at sound reads.before_end reads.loaded) reads

pub image-pages : PagesComeFromTheImage
image-pages c at_start log w at opened from next pairs sound reads asked is =
    pages-by (IsSpent c log.start log.past w opened) c log w at opened from next pairs (loads-settled c at_start log w at sound reads.before_end reads.loaded) sound.pages reads asked is

pub changes-follow : ChangesFollow
changes-follow c at_start log mark w opened old new sound flush is quiet changes whole change =
    change-decodes c log mark w opened old new (decodes-now c at_start log sound) flush is quiet changes whole change

pub same-content : SameContentDecodes
same-content c at_start log mark sound flush whole same = content-decodes c log mark (decodes-now c at_start log sound) flush whole same

pub effects-answer : EffectsAnswer
effects-answer c log w at opened reply is took answers = effect-answers (IsSpent c log.start log.past w opened) c log w at opened reply is took answers

pub spent-answers : SpentAnswersFull
spent-answers c log w opened spent is quiet writes cause = cause-answers (IsSpent c log.start log.past w opened) c log w opened spent is quiet writes cause

pub held-spent : HeldSwapsAreSpent
held-spent c start past w opened holder h = held-count (λ s. is_taken s (since_on past)) c past w holder h

pub slots-spent : HeldSlotsAreSpent
slots-spent c start past w slots free holder place fewer h = others-count (λ s. is_used c start past s) c past w slots free holder place fewer h
