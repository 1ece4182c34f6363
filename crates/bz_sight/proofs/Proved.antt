-- What this crate proves, as lemmas that other crates cite by these names.
use Rattle.bz_sight.proofs.Acting.{effect-step, evictions, flushing, leave-caches, quiet-step, storing}
use Rattle.bz_sight.proofs.Awaiting.{starts-keep}
use Rattle.bz_sight.proofs.Effecting.{effects-keep-own, effects-take-place}
use Rattle.bz_sight.proofs.Leavings.{flushes-seen, leaves-all, stores-seen}
use Rattle.bz_sight.proofs.Openings.{fresh-seen}
use Rattle.bz_sight.proofs.Passings.{acts-pass}
use Rattle.bz_sight.proofs.Renewals.{renewed-seen}
use Rattle.bz_sight.proofs.Starting.{hidden, hidden-values, may-start, starts-seen}
use Rattle.bz_sight.proofs.SwapMemories.{changes-nothing, effect-shows, leaves-values}
use Rattle.bz_sight.specs.Acts.{EffectStepsTakePlace, EvictionsAreSeen, FlushingStepsFlush, QuietStepsPass, StepsLeaveCaches, StoringStepsStore}
use Rattle.bz_sight.specs.Awaiting.{StartsKeepAwaits}
use Rattle.bz_sight.specs.Effects.{EffectsKeepOwn, EffectsTakePlace}
use Rattle.bz_sight.specs.Laws.{HiddenWordsAreValues}
use Rattle.bz_sight.specs.Opening.{FreshMemoryIsSeen}
use Rattle.bz_sight.specs.Passing.{ActsLeaveAll, ActsPass, FlushesAreSeen, StoresAreSeen}
use Rattle.bz_sight.specs.Renewal.{RenewedMemoriesAreSeen}
use Rattle.bz_sight.specs.Starts.{OwnWordsAreHidden, StartsAreSeen, TasksMayStart}
use Rattle.bz_sight.specs.Swapped.{EffectsShowOnTheImage, HeldMemoriesLeaveTheirValues, QuietMomentsChangeNothing}

-- such an act, which is nobody's private store, leaves all that anybody owns
pub acts_leave_all : ActsLeaveAll
acts_leave_all = leaves-all

-- a private store is seen as one
pub stores_are_seen : StoresAreSeen
stores_are_seen = stores-seen

-- a flush makes what its worker owns in the line durable
pub flushes_are_seen : FlushesAreSeen
flushes_are_seen = flushes-seen

-- a step that tells no effect is an act by which none takes effect
pub quiet_steps_pass : QuietStepsPass
quiet_steps_pass = quiet-step

-- a step that is no private store leaves every private word in the caches
pub steps_leave_caches : StepsLeaveCaches
steps_leave_caches = leave-caches

-- the step of a private store
pub storing_steps_store : StoringStepsStore
storing_steps_store = storing

-- the step of a private flush, an ask or a fence
pub flushing_steps_flush : FlushingStepsFlush
flushing_steps_flush = flushing

-- a step that tells an effect
pub effect_steps_take_place : EffectStepsTakePlace
effect_steps_take_place = effect-step

-- evictions, with an effect and without
pub evictions_are_seen : EvictionsAreSeen
evictions_are_seen = evictions

-- what one owns is hidden from all others
pub own_words_are_hidden : OwnWordsAreHidden
own_words_are_hidden = hidden

-- a hidden word is private, and a read of it answers a value
pub hidden_words_are_values : HiddenWordsAreValues
hidden_words_are_values = hidden-values

-- fresh memory, as it is opened, is seen as a settled memory that holds nothing
pub fresh_memory_is_seen : FreshMemoryIsSeen
fresh_memory_is_seen = fresh-seen

-- a memory that is renewed when its recovery has ended is seen as a settled one
pub renewed_memories_are_seen : RenewedMemoriesAreSeen
renewed_memories_are_seen = renewed-seen

-- outside a recovery time a swap memory leaves its values
pub held_memories_leave_their_values : HeldMemoriesLeaveTheirValues
held_memories_leave_their_values = leaves-values

-- a swap that takes effect changes its targets in the image, and no other named word
pub effects_show_on_the_image : EffectsShowOnTheImage
effects_show_on_the_image = effect-shows

-- where no swap takes effect, no named word changes
pub quiet_moments_change_nothing : QuietMomentsChangeNothing
quiet_moments_change_nothing = changes-nothing

-- an act by which no swap takes effect leaves a memory that is seen as before, but for words that nobody reads
pub acts_pass : ActsPass
acts_pass = acts-pass

-- the effect of a swap is seen as one: its entries change for readers, and nothing else
pub effects_take_place : EffectsTakePlace
effects_take_place = effects-take-place

-- it leaves what anybody owns
pub effects_keep_own : EffectsKeepOwn
effects_keep_own = effects-keep-own

-- what a task may ask for may be started
pub tasks_may_start : TasksMayStart
tasks_may_start = may-start

-- a start makes no act: the same memory is seen
pub starts_are_seen : StartsAreSeen
starts_are_seen = starts-seen

-- and what a worker awaits that is to fence a line stays awaited
pub starts_keep_awaits : StartsKeepAwaits
starts_keep_awaits = starts-keep
