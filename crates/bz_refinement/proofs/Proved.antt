-- What this crate proves, as lemmas that other crates cite by these names.
use Rattle.bz_refinement.proofs.Awaiting.{acts-keep}
use Rattle.bz_refinement.proofs.Booting.{images-off}
use Rattle.bz_refinement.proofs.Lives.{lives-on}
use Rattle.bz_refinement.proofs.Openings.{fresh-lives}
use Rattle.bz_refinement.proofs.Powering.{begins, cuts-leave, goes-on, image-now, may-start}
use Rattle.bz_refinement.proofs.Rebirths.{acts-marked, cuts-marked, evictions-marked, gives-life, images-open, on-marked, turns, walks-end}
use Rattle.bz_refinement.proofs.Recoveries.{acts-recover, evictions-leave}
use Rattle.bz_refinement.proofs.Revivals.{revives}
use Rattle.bz_refinement.proofs.Scenes.{scenes-seen}
use Rattle.bz_refinement.proofs.Striking.{effects-told}
use Rattle.bz_refinement.proofs.Takings.{slots-taken}
use Rattle.bz_refinement.proofs.Watching.{flushes-told, quiet-lawful, stores-told}
use Rattle.bz_refinement.specs.Laws.{ActsKeepAwaited, EffectsAreTold, FlushesAreTold, LivesGoOn, QuietMarksAreLawful, ScenesAreSeen, SlotsAreTaken, StoresAreTold}
use Rattle.bz_refinement.specs.Opening.{FreshStoriesLive}
use Rattle.bz_refinement.specs.RecoveryLaws.{ActsMayStart, ActsRecover, CutsLeaveTheImage, EvictionsLeaveRecoveries, ImagesAreOff, RecoveriesBegin, RecoveriesGoOn, RecoveriesKeepTheImage, RecoveriesRevive}
use Rattle.bz_refinement.specs.Reviving.{ActsAreMarked, CutsAreMarked, EvictionsAreMarked, ImagesOpenJournals, PowerOnIsMarked, RecoveriesGiveLife, TurnsMakeNoMark, WalksEnd}

-- the scene of a call that has begun is one of the memory now
pub scenes_are_seen : ScenesAreSeen
scenes_are_seen = scenes-seen

-- a mark by which no swap takes effect leaves a living memory
pub lives_go_on : LivesGoOn
lives_go_on = lives-on

-- where it is nobody's private store, it is a lawful step for every worker
pub quiet_marks_are_lawful : QuietMarksAreLawful
quiet_marks_are_lawful = quiet-lawful

-- a private store is one to its worker, and lawful for the others
pub stores_are_told : StoresAreTold
stores_are_told = stores-told

-- an act that is no private store, and a store into what is the worker's own, keep what others await
pub acts_keep_awaited : ActsKeepAwaited
acts_keep_awaited = acts-keep

-- the end of a private flush is one to its worker
pub flushes_are_told : FlushesAreTold
flushes_are_told = flushes-told

-- the effect of a swap: the memory lives on, it is one to its worker, and lawful for the others
pub effects_are_told : EffectsAreTold
effects_are_told = effects-told

-- slots that a worker takes are gained by it, and the memory lives on
pub slots_are_taken : SlotsAreTaken
slots_are_taken = slots-taken

-- fresh memory, as it is opened, lives
pub fresh_stories_live : FreshStoriesLive
fresh_stories_live = fresh-lives

-- after a power cut the durable words resolve to what they resolved to, also where one cuts a recovery short
pub cuts_leave_the_image : CutsLeaveTheImage
cuts_leave_the_image = cuts-leave

-- a memory that is opened over an image that breaks no rule is as after a power cut
pub images_are_off : ImagesAreOff
images_are_off = images-off

-- a new recovery knows the memory over which it begins
pub recoveries_begin : RecoveriesBegin
recoveries_begin = begins

-- at every moment of a recovery the durable words resolve to the values of power on
pub recoveries_keep_the_image : RecoveriesKeepTheImage
recoveries_keep_the_image = image-now

-- a recovery that is told what came of its act knows the memory, and asks for the next one
pub recoveries_go_on : RecoveriesGoOn
recoveries_go_on = goes-on

-- what a recovery asks for may be started, by worker 0
pub acts_may_start : ActsMayStart
acts_may_start = may-start

-- an act of worker 0 is the one that was asked for; the durable words hold what they held
pub acts_recover : ActsRecover
acts_recover = acts-recover

-- an eviction tells no effect, and the durable words hold what they held
pub evictions_leave_recoveries : EvictionsLeaveRecoveries
evictions_leave_recoveries = evictions-leave

-- where the recovery asks for nothing more the memory may be renewed, and is seen then as a settled one
pub recoveries_revive : RecoveriesRevive
recoveries_revive = revives

-- a power cut ends a life, or cuts a recovery short; no call is open then
pub cuts_are_marked : CutsAreMarked
cuts_are_marked = cuts-marked

-- a journal that begins over an image begins with the power off
pub images_open_journals : ImagesOpenJournals
images_open_journals = images-open

-- power on changes no word, and a recovery begins
pub power_on_is_marked : PowerOnIsMarked
power_on_is_marked = on-marked

-- what a recovery is told, and what worker 0 starts, makes no mark
pub turns_make_no_mark : TurnsMakeNoMark
turns_make_no_mark = turns

-- after the mark of an act of worker 0 the durable words decode as before
pub acts_are_marked : ActsAreMarked
acts_are_marked = acts-marked

-- so they do after an eviction
pub evictions_are_marked : EvictionsAreMarked
evictions_are_marked = evictions-marked

-- where the recovery has ended a new life begins
pub recoveries_give_life : RecoveriesGiveLife
recoveries_give_life = gives-life

-- then exactly the slots of the tree are held
pub walks_end : WalksEnd
walks_end = walks-end
