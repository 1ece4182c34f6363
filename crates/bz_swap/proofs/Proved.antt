-- What this crate proves, as lemmas that other crates cite by these names.
use Rattle.bz_swap.proofs.AtomicCalls.{access_is_atomic as access_is_atomic-holds}
use Rattle.bz_swap.proofs.BegunStay.{begun_stay_taken as begun_stay_taken-holds}
use Rattle.bz_swap.proofs.DroppedStay.{dropped_stay as dropped_stay-holds}
use Rattle.bz_swap.proofs.EffectsInside.{effects_stay_inside as effects_stay_inside-holds}
use Rattle.bz_swap.proofs.FieldsStay.{plain_fields_stay as plain_fields_stay-holds}
use Rattle.bz_swap.proofs.SoloRuns.{solo_steps_are_allowed as undisturbed_steps_are_allowed-holds, solo_steps_are_allowed_by_kind as undisturbed_steps_are_allowed_by_kind-holds}
use Rattle.bz_swap.proofs.OwnedStay.{owned_stay as owned_stay-holds}
use Rattle.bz_swap.proofs.SettledKept.{settled_words_stay as settled_words_stay-holds}
use Rattle.bz_swap.proofs.SettledStay.{effects_stay as effects_stay-holds, settled_stay as settled_stay-holds}
use Rattle.bz_swap.proofs.TakenStay.{taken_statuses_stay as taken_statuses_stay-holds}
use Rattle.bz_swap.proofs.WordSizes.{sizes_stay as sizes_stay-holds}
use Rattle.bz_swap.specs.AtomicCalls.{AccessIsAtomic}
use Rattle.bz_swap.specs.EffectPlaces.{EffectsStayInside}
use Rattle.bz_swap.specs.SoloRuns.{SoloStepsAreAllowed, SoloStepsAreAllowedByKind}
use Rattle.bz_swap.specs.PlainFields.{PlainFieldsStay}
use Rattle.bz_swap.specs.Settled.{DroppedStay, EffectsStay, OwnedStay, SettledStay}
use Rattle.bz_swap.specs.SettledWords.{SettledWordsStay}
use Rattle.bz_swap.specs.Sizes.{SizesStay}
use Rattle.bz_swap.specs.TakenStatuses.{BegunStayTaken, TakenStatusesStay}

-- what the calls of `Access` do are the events of the atomic swap memory
pub access_is_atomic : AccessIsAtomic
access_is_atomic = access_is_atomic-holds

-- there are as many durable words as cached ones, in whole lines, whatever happens
pub sizes_stay : SizesStay
sizes_stay = sizes_stay-holds

-- the words of the descriptors after their statuses stay plain, where a recovery writes plain words
pub plain_fields_stay : PlainFieldsStay
plain_fields_stay = plain_fields_stay-holds

-- an act or eviction that gives a swap its effect changes no durable word outside the descriptors
pub effects_stay_inside : EffectsStayInside
effects_stay_inside = effects_stay_inside-holds

-- a status that is not free stays so in the caches, outside a recovery time; it comes to be so by the store of undecided, by the worker of its swap
pub taken_statuses_stay : TakenStatusesStay
taken_statuses_stay = taken_statuses_stay-holds

-- from an opening or a renewal to the next power cut, each swap begun is a worker's operation or its descriptor's status is not free
pub begun_stay_taken : BegunStayTaken
begun_stay_taken = begun_stay_taken-holds

-- a swap that no worker does any more has had its effect or never will, whatever happens up to the next act of a recovery
pub settled_stay : SettledStay
settled_stay = settled_stay-holds

-- a settled word stays settled, unless a private store changes it
pub settled_words_stay : SettledWordsStay
settled_words_stay = settled_words_stay-holds

-- an effect is for good, and is told once
pub effects_stay : EffectsStay
effects_stay = effects_stay-holds

-- a swap without effect at a power cut never has one, where the recovery writes no status but free
pub dropped_stay : DroppedStay
dropped_stay = dropped_stay-holds

-- a swap is one worker's operation at most, and when it is answered it is settled as the answer says
pub owned_stay : OwnedStay
owned_stay = owned_stay-holds

-- what is left to a worker falls with each of its steps, and its starts add what they allow: so a worker that steps alone makes no more steps than are allowed
pub solo_steps_are_allowed : SoloStepsAreAllowed
solo_steps_are_allowed = undisturbed_steps_are_allowed-holds

-- by the finer count too, where a read, a load or a store allows one step
pub solo_steps_are_allowed_by_kind : SoloStepsAreAllowedByKind
solo_steps_are_allowed_by_kind = undisturbed_steps_are_allowed_by_kind-holds
