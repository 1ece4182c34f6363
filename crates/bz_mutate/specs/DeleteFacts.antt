-- What a delete knows, and what it asks for.
use Rattle.std.specs.Prelude.{◌≡◌, ℕ, ◌-◌, ◌^◌, ◌<◌, ◌≤◌, ◌&&◌, nat_lt, Bool, true, false, List, Option, Some, None}
use Rattle.bz_call.specs.declared.replies.Spent.TheVariants.{Swaps}
use Rattle.bz_layout.specs.declared.config.Config.{Config}
use Rattle.bz_layout.specs.declared.sizes.TheConstants.{SHARED_WORDS}
use Rattle.bz_layout.specs.declared.thresholds.TheConstants.{MERGE_BELOW}
use Rattle.bz_node.specs.Reading.{extent_words}
use Rattle.bz_word.specs.Metas.{IsExtent}
use Rattle.bz_word.specs.Statuses.{status}
use Rattle.bz_task.specs.Outcomes.{payload_of}
use Rattle.bz_task.specs.Scene.{Scene, Stage, Waiting, Took, HasFilled}
use Rattle.bz_task.specs.Swaps.{Change}
use Rattle.bz_task.specs.declared.todo.Outcome.{Outcome}
use Rattle.bz_task.specs.declared.todo.Outcome.TheVariants.{Done as IsDone, Restart as Restarts, NeedsRoom as Needs, Full as IsFull}
use Rattle.bz_task.specs.declared.todo.Todo.{Todo}
use Rattle.bz_task.specs.declared.todo.Todo.TheVariants.{Swap as Swaps_for, Finish}
use Rattle.bz_task.specs.declared.view.KeyView.{KeyView}
use Rattle.bz_record.specs.Records.{words_for}
use Rattle.bz_record.specs.Replacing.{removal, WasRecord}
use Rattle.bz_record.specs.Swaps.{entries_of}
use Rattle.bz_record.specs.declared.found_record.FoundRecord.{FoundRecord}
use Rattle.bz_mutate.specs.Viewed.{HasViewed}
use Rattle.bz_mutate.specs.declared.delete_phase.DeletePhase.{DeletePhase}
use Rattle.bz_mutate.specs.declared.delete_phase.DeletePhase.TheVariants.{Fresh, Remove, Done, Restart, NeedsRoom, Full}

abbrev pub delete_asks : Config → KeyView → DeletePhase → Option Todo
delete_asks c v Fresh = None
delete_asks c v (Remove f) = Some (Swaps_for (entries_of c (removal v.slot v.status f.place f.extent)))
delete_asks c v phase = Some Finish

abbrev pub delete_end : DeletePhase → Option Outcome
delete_end Done = Some IsDone
delete_end Restart = Some Restarts
delete_end NeedsRoom = Some Needs
delete_end Full = Some (IsFull Swaps)
delete_end phase = None

abbrev pub delete_left : DeletePhase → ℕ
delete_left Fresh = 2
delete_left (Remove f) = 1
delete_left phase = 0

-- the most swaps: the removal, until it has ended
abbrev pub delete_swaps : DeletePhase → ℕ
delete_swaps Fresh = 1
delete_swaps (Remove f) = 1
delete_swaps phase = 0

abbrev pub delete_publishes : DeletePhase → Bool
delete_publishes (Remove f) = true
delete_publishes phase = false

-- the key is gone, which had what the view says of it
abbrev pub deletion : List ℕ → KeyView → Change
deletion key v = record { key = key; old = payload_of v.found; new = None }

-- its record was found, which has the words of the key and of the payload, in a leaf that was not frozen
pub record CanRemove (key : List ℕ) (v : KeyView) (f : FoundRecord) (s : Scene) : Type 0 where
  pub payload : List ℕ
  pub said : payload_of v.found ≡ Some payload
  pub was : WasRecord key payload v.slot v.status f.place f.extent s.past
  pub size : words_for key payload ≡ extent_words f.extent
  pub thawed : (status v.status).frozen ≡ false
  pub going : s.effected ≡ false

-- the call has had its effect
pub record HasRemoved (v : KeyView) (s : Scene) : Type 0 where
  pub thawed : (status v.status).frozen ≡ false
  pub effected : s.effected ≡ true

abbrev pub delete_learnt : List ℕ → KeyView → DeletePhase → Stage → Scene → Type 0
delete_learnt key v Fresh Waiting s = HasViewed key v s
delete_learnt key v (Remove f) Waiting s = CanRemove key v f s
delete_learnt key v (Remove f) Took s = HasRemoved v s
delete_learnt key v Done Waiting s = HasRemoved v s
delete_learnt key v Restart Waiting s = (status v.status).frozen ≡ false
delete_learnt key v Full Waiting s = (status v.status).frozen ≡ false
delete_learnt key v NeedsRoom Waiting s = (status v.status).frozen ≡ true
delete_learnt key v phase Took s = ⊥

-- from the first act on each slot that was taken has been stored into
abbrev pub delete_facts : List ℕ → KeyView → DeletePhase → Stage → Scene → Type 0
delete_facts key v Fresh stage s = delete_learnt key v Fresh stage s
delete_facts key v phase stage s = HasFilled s × delete_learnt key v phase stage s

-- of the block of a leaf with this status fewer words are live, once the record of a key is gone that had this payload, than a leaf needs to
-- stand alone
abbrev pub leaves_few_without : ℕ → List ℕ → Option (List ℕ) → Bool
leaves_few_without st key None = false
leaves_few_without st key (Some payload) = nat_lt st (2 ^ 61) && nat_lt ((status st).block - (status st).dead - words_for key payload) MERGE_BELOW

-- it ends for want of room exactly where the viewed leaf is frozen
abbrev pub delete_means : KeyView → Outcome → Scene → Type 0
delete_means v IsDone s = HasRemoved v s
delete_means v Restarts s = (status v.status).frozen ≡ false
delete_means v Needs s = (status v.status).frozen ≡ true
delete_means v (IsFull Swaps) s = (status v.status).frozen ≡ false
delete_means v outcome s = ⊥

-- a delete ends so and in no other way
abbrev pub IsEndOfDelete : Outcome → Type 0
IsEndOfDelete IsDone = Unit {0}
IsEndOfDelete Restarts = Unit {0}
IsEndOfDelete Needs = Unit {0}
IsEndOfDelete (IsFull Swaps) = Unit {0}
IsEndOfDelete outcome = ⊥

-- the record that is named is one of a leaf
pub record IsRemovable (c : Config) (v : KeyView) (f : FoundRecord) : Type 0 where
  pub slot : v.slot < c.nodes
  pub place : f.place < SHARED_WORDS
  pub plain : v.status < 2 ^ 61
  pub extent : IsExtent f.extent
  pub some : 0 < f.extent.key
  pub small : extent_words f.extent ≤ SHARED_WORDS
  pub dead : (status v.status).dead ≤ SHARED_WORDS

abbrev pub IsReady : Config → KeyView → DeletePhase → Type 0
IsReady c v (Remove f) = IsRemovable c v f
IsReady c v phase = Unit {0}

-- a phase in which a delete may begin
abbrev pub IsFirst : DeletePhase → Type 0
IsFirst (Remove f) = Unit {0}
IsFirst NeedsRoom = Unit {0}
IsFirst phase = ⊥
