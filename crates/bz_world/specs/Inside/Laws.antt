-- The laws of the crates below on which the world's acts stand.
use Rattle.std.specs.Prelude.{◌≡◌, ◌-◌, Some, slice_get}
use Rattle.bz_solo.specs.FromAlone.Brief.{LookUpsAreBrief, WaysAreBrief, BriefLookUpsGoOn, GetsAreBrief}
use Rattle.bz_solo.specs.FromAlone.Counts.{OwnSwapsAreCounted}
use Rattle.bz_solo.specs.FromAlone.Quiet.{EffectsNeverFall}
use Rattle.bz_solo.specs.FromAlone.Reads.{PathsReadFew}
use Rattle.bz_solo.specs.FromAlone.Restarts.{UndisturbedRestartsAreRefusals}
use Rattle.bz_solo.specs.FromAlone.Tasks.{UndisturbedTasksGoOn}
use Rattle.bz_solo.specs.FromCosts.Costs.{SoloCallsAreAffordable}
use Rattle.bz_solo.specs.FromCosts.Laws.{AskedSwapsAreCounted}
use Rattle.bz_solo.specs.FromCosts.Resources.{Resource}
use Rattle.bz_solo.specs.Renewals.{RenewalsArePaid, AscentsArePaid}
use Rattle.bz_solo.specs.Rounds.{LessIsSpared, EndsAreAfforded, EndsArePaid, WaysArePaid, ChangesArePaid, LeavesAreRead, ReadLeavesArePaid, TasksMayBegin, RoundsBegin, DisturbedRoundsArePaid, EndsLeaveARound}
use Rattle.bz_solo.specs.Steps.{AnyCallIsPaid, AnyRoundIsPaid, FirstRoundsArePaid, IdleMemoriesAllowNothing, QuietStepsArePaid, ForeignEffectsArePaid, EffectMarksArePaid, LessIsPaid, OwnEffectsArePaid, HearingsArePaid, StartsArePaid}
use Rattle.bz_page.specs.Laws.{ViewsSayWhatImagesSay}
use Rattle.bz_record.specs.Laws.{ViewsShowLeaves}
use Rattle.bz_rivals.specs.Laws.{RivalsFall}
use Rattle.bz_rivals.specs.Notes.{NotesAreOfBegun, ZeroSwapsNothing}
use Rattle.bz_rivals.specs.Wins.{OwnSwapsWin, ExpectedStand}
use Rattle.bz_solo.specs.FromAlone.Trees.{TreesStand}
use Rattle.bz_content.specs.Laws.{WellFormedImagesHaveNoFault}
use Rattle.bz_solo.specs.FromJoined.DueMerges.{UndisturbedMergesAreDue, UndisturbedViewsTellTheLiveWords}
use Rattle.bz_solo.specs.FromJoined.Neighbours.{KnownLeavesStay, UndisturbedMergesDoNotLackRoom, MergesKnowTheirLeaf, NeighboursStand}
use Rattle.bz_solo.specs.FromJoined.SmallLeaves.{DeletesTellOfMerges, UndisturbedRootLeavesAreTheTree, MergeableLeavesStandBelow}
use Rattle.bz_solo.specs.FromRounds.Due.{UndisturbedLeavesAreDue, UndisturbedAscentsAreDue}
use Rattle.bz_solo.specs.FromRounds.Levels.{UndisturbedAscentsAreBelowTheStage}
use Rattle.bz_solo.specs.FromRounds.Stands.{UndisturbedViewsTellTheLeaf, StagesStand}
use Rattle.bz_solo.specs.FromTally.Laws.{LeavesComeAndGo, MergesCountAtLast}
use Rattle.bz_solo.specs.FromRounds.Viewed.{UndisturbedViewsTellTheStage, UndisturbedKeyViewsTellTheStage}
use Rattle.bz_sight.specs.Acts.{FlushingStepsFlush, QuietStepsPass, StepsLeaveCaches, StoringStepsStore}
use Rattle.bz_sight.specs.Effects.{EffectsTakePlace}
use Rattle.bz_sight.specs.Passing.{ActsPass}
use Rattle.bz_sight.specs.Starts.{OwnWordsAreHidden, TasksMayStart, StartsAreSeen}
use Rattle.bz_sound.specs.Solitary.{NoneIsOpenBesideASolitaryCall}
use Rattle.bz_sound.specs.Memory.CallLaws.{OpenCallsAreKept}
use Rattle.bz_sound.specs.Memory.OpenCallLaws.{EffectsStayOpen}
use Rattle.bz_sound.specs.Power.CallLaws.{OpenCallsAreLast, OpenCallsLeaveRoom}
use Rattle.bz_sound.specs.Power.Growth.{BeginsFollow, EffectsFollowActs, EndsFollow, FencesFollow, LoadsAreSettled, PageEndsFollow, QuietActsFollow}
use Rattle.bz_sound.specs.Power.ImageLaws.{AnswersComeFromTheImage, ChangesFollow, PagesComeFromTheImage, SameContentDecodes, SpentAnswersFull}
use Rattle.bz_stage.specs.Laws.{LackingLeavesSay}
use Rattle.bz_refinement.specs.Laws.{EffectsAreTold, FlushesAreTold, LivesGoOn, QuietMarksAreLawful, ScenesAreSeen, StoresAreTold}
use Rattle.bz_swap.specs.SoloRuns.{SoloStepsAreAllowed, SoloStepsAreAllowedByKind}
use Rattle.bz_swap.specs.TakenStatuses.{BegunStayTaken, TakenStatusesStay}
use Rattle.bz_task.specs.declared.path.Link.{Link}
use Rattle.bz_task.specs.declared.path.Path.{Path}
use Rattle.bz_solo.specs.FromTally.Deletes.{DeletesTakeOneRecord}
use Rattle.bz_task.specs.Laws.{FrontsStay, RangesStay}

-- a path has a last link
abbrev pub HasEnd : Path → Type 0
HasEnd path = (link : Link) × (slice_get path.links (path.depth - 1) ≡ Some link)

-- by which the journal stays sound
pub record JournalLaws : Type 0 where
  pub quiet : QuietActsFollow
  pub flush : FencesFollow
  pub same : SameContentDecodes

-- by which a solitary get is brief
pub record SolitaryLaws : Type 0 where
  pub alone : NoneIsOpenBesideASolitaryCall
  pub brief : LookUpsAreBrief
  pub ways : WaysAreBrief
  pub goes_on : BriefLookUpsGoOn
  pub few : GetsAreBrief
  pub fall : EffectsNeverFall
  pub scenes : ScenesAreSeen

-- by which the swap memory keeps what is known of its descriptors
pub record BegunLaws : Type 0 where
  pub taken : BegunStayTaken
  pub zero : ZeroSwapsNothing
  pub noted : NotesAreOfBegun

-- by which the call of a worker that steps alone is paid for
pub record PaidLaws : Type 0 where
  pub affordable : SoloCallsAreAffordable
  pub any : AnyCallIsPaid
  pub round : AnyRoundIsPaid
  pub first : (r : Resource) → FirstRoundsArePaid r
  pub quiet : (r : Resource) → QuietStepsArePaid r
  pub foreign : (r : Resource) → ForeignEffectsArePaid r
  pub marks : (r : Resource) → EffectMarksArePaid r
  pub less : (r : Resource) → LessIsPaid r
  pub own : (r : Resource) → OwnEffectsArePaid r
  pub heard : (r : Resource) → HearingsArePaid r
  pub starts : (r : Resource) → StartsArePaid r
  pub idle : IdleMemoriesAllowNothing
  pub asked : AskedSwapsAreCounted
  pub steps : SoloStepsAreAllowed
  pub kinds : SoloStepsAreAllowedByKind
  pub rivals : RivalsFall

-- and what comes after a task
pub record RoundLaws : Type 0 where
  pub less : (r : Resource) → LessIsSpared r
  pub afforded : (r : Resource) → EndsAreAfforded r
  pub ends : (r : Resource) → EndsArePaid r
  pub ways : (r : Resource) → WaysArePaid r
  pub changes : (r : Resource) → ChangesArePaid r
  pub leaves : (r : Resource) → LeavesAreRead r
  pub read : (r : Resource) → ReadLeavesArePaid r
  pub tasks : (r : Resource) → TasksMayBegin r
  pub begin : (r : Resource) → RoundsBegin r
  pub disturbed : (r : Resource) → DisturbedRoundsArePaid r
  pub rounds : (r : Resource) → EndsLeaveARound r
  pub renewals : (r : Resource) → RenewalsArePaid r
  pub ascents : (r : Resource) → AscentsArePaid r
  pub asked : AskedSwapsAreCounted
  pub views : UndisturbedViewsTellTheLeaf
  pub stages : UndisturbedViewsTellTheStage
  pub key_stages : UndisturbedKeyViewsTellTheStage
  pub due : UndisturbedLeavesAreDue
  pub up_due : UndisturbedAscentsAreDue
  pub below : UndisturbedAscentsAreBelowTheStage
  pub lacking : LackingLeavesSay
  pub stand : StagesStand
  pub live : UndisturbedViewsTellTheLiveWords
  pub low : PathsReadFew
  pub scenes : ScenesAreSeen
  pub trees : TreesStand
  pub neighbours : NeighboursStand
  pub merges_due : UndisturbedMergesAreDue
  pub knows : MergesKnowTheirLeaf
  pub roots : UndisturbedRootLeavesAreTheTree

-- by which a worker that is alone does not begin again
pub record UndisturbedLaws : Type 0 where
  pub counted : OwnSwapsAreCounted
  pub goes_on : UndisturbedTasksGoOn
  pub refused : UndisturbedRestartsAreRefusals
  pub wins : OwnSwapsWin
  pub stand : ExpectedStand
  pub scenes : ScenesAreSeen
  pub paid : PaidLaws
  pub rounds : RoundLaws
  pub settled : LoadsAreSettled
  pub known : KnownLeavesStay
  pub room : UndisturbedMergesDoNotLackRoom

-- by which an act without effect leads on
pub record StepLaws : Type 0 where
  pub journal : JournalLaws
  pub scenes : ScenesAreSeen
  pub ranges : RangesStay
  pub lives : LivesGoOn
  pub quiet : QuietMarksAreLawful
  pub stores : StoresAreTold
  pub flushes : FlushesAreTold
  pub pass : ActsPass
  pub steps : QuietStepsPass
  pub caches : StepsLeaveCaches
  pub storing : StoringStepsStore
  pub flushing : FlushingStepsFlush
  pub hidden : OwnWordsAreHidden
  pub taken : TakenStatusesStay
  pub begun : BegunLaws
  pub stay : EffectsStayOpen
  pub solitary : SolitaryLaws
  pub solo : UndisturbedLaws

-- and by which the effect of a swap does
pub record StrikeLaws : Type 0 where
  pub scenes : ScenesAreSeen
  pub lives : LivesGoOn
  pub quiet : QuietMarksAreLawful
  pub told : EffectsAreTold
  pub place : EffectsTakePlace
  pub same : SameContentDecodes
  pub flushes : FencesFollow
  pub changes : ChangesFollow
  pub effects : EffectsFollowActs
  pub calls : OpenCallsAreKept
  pub last : OpenCallsAreLast
  pub pass : ActsPass
  pub stay : EffectsStayOpen
  pub leaves : LeavesComeAndGo
  pub deletes : DeletesTakeOneRecord
  pub stand : StagesStand
  pub known : KnownLeavesStay
  pub counts : MergesCountAtLast
  pub trees : TreesStand
  pub tells : DeletesTellOfMerges
  pub below : MergeableLeavesStandBelow
  pub formed : WellFormedImagesHaveNoFault
  pub fronts : FrontsStay
  pub said : ViewsSayWhatImagesSay
  pub solitary : SolitaryLaws
  pub paid : PaidLaws

-- and by which a start leaves the world as it should be
pub record StartLaws : Type 0 where
  pub scenes : ScenesAreSeen
  pub hidden : OwnWordsAreHidden
  pub may : TasksMayStart
  pub starts : StartsAreSeen
  pub begun : BegunLaws
  pub solitary : SolitaryLaws
  pub solo : UndisturbedLaws

-- and by which the journal takes the marks of calls
pub record EndLaws : Type 0 where
  pub scenes : ScenesAreSeen
  pub lives : LivesGoOn
  pub quiet : QuietMarksAreLawful
  pub calls : OpenCallsAreKept
  pub last : OpenCallsAreLast
  pub room : OpenCallsLeaveRoom
  pub ends : EndsFollow
  pub pages : PageEndsFollow
  pub begins : BeginsFollow
  pub stay : EffectsStayOpen
  pub solitary : SolitaryLaws

-- and by which a view answers a call
pub record AnswerLaws : Type 0 where
  pub answers : AnswersComeFromTheImage
  pub pages : PagesComeFromTheImage
  pub spent : SpentAnswersFull
  pub views : ViewsShowLeaves
  pub said : ViewsSayWhatImagesSay
  pub solitary : SolitaryLaws
