-- What comes after a task is paid for by what it has left: the next task of the round, or the next round.
use Rattle.std.specs.Prelude.{◌≡◌, ◌≢◌, ◌⊎◌, ℕ, ◌+◌, ◌<◌, ◌≤◌, true, false, None, Some}
use Rattle.bz_joined.specs.FromAlone.Undisturbed.{IsUndisturbed}
use Rattle.bz_call.specs.Map.{key_of}
use Rattle.bz_costs.specs.Solo.{one_mark}
use Rattle.bz_costs.specs.Resources.{Resource}
use Rattle.bz_costs.specs.Weights.{start_takes, weigh}
use Rattle.bz_costs.specs.Most.{most_of, most_of_find, most_of_leaf, most_of_joining, most_of_lowering, IsWithinItsActs}
use Rattle.bz_costs.specs.FromDescend.SeekFacts.{seek_reads}
use Rattle.bz_costs.specs.FromRunning.Duties.{end_of, left_of, made_of}
use Rattle.bz_costs.specs.FromRunning.Kinds as kinds
use Rattle.bz_costs.specs.FromRunning.Kinds.{Kind, kind_of}
use Rattle.bz_costs.specs.FromRunning.AnyTask.{AnyTask}
use Rattle.bz_joined.specs.FromStage.Stages.{stage_in}
use Rattle.bz_swap.specs.SwapMemory.{SwapMemory}
use Rattle.bz_task.specs.Scene.{Past}
use Rattle.bz_task.specs.declared.todo.Outcome.{Outcome}
use Rattle.bz_task.specs.declared.todo.Outcome.TheVariants.{Done, NeedsRoom, Restart}
use Rattle.bz_task.specs.declared.todo.Todo.TheVariants.{Read}
use Rattle.bz_solo.specs.Errands.{Errand, words_asked, is_read, IsLookOf, may_swap_twice, after, goes_further, further}
use Rattle.bz_solo.specs.declared.rest.Rest.TheVariants as rest
use Rattle.bz_solo.specs.Prices.{Prices, coming}
use Rattle.bz_solo.specs.Sum.{Spares, PaysForRound, IsSmall, IsClean, IsPaid}

-- the stage of the call's key now, for the words that it asks for
abbrev pub stage_now : Errand → Past → ℕ
stage_now e p = stage_in p.config (p.at p.now).image (key_of e.call) (words_asked e.call)

-- less is spared too
abbrev pub LessIsSpared : Resource → Type 0
LessIsSpared r = (m : SwapMemory) (w : ℕ) (e : Errand) (used by : ℕ) (p : Past) (price less : Prices → ℕ) → ((q : Prices) → less q ≤ price q) → Spares r m w e used by p price → Spares r m w e used by p less

-- what a task has not started yet is there, what it may still take besides, and a mark for the end of the call
abbrev pub EndsAreAfforded : Resource → Type 0
EndsAreAfforded r = (m : SwapMemory) (w : ℕ) (e : Errand) (t : AnyTask) (untold extra used by : ℕ) (p : Past) → IsPaid r m w e t untold extra used by p → used + (extra + weigh r t) + one_mark r ≤ by

-- a look-up that has ended, or a task that ended for want of room, leaves what may come after it
abbrev pub EndsArePaid : Resource → Type 0
EndsArePaid r = (m : SwapMemory) (w : ℕ) (e : Errand) (t : AnyTask) (o : Outcome) (used by : ℕ) (p : Past) → end_of t ≡ Some o → o ≢ Done → may_swap_twice (kind_of t) ≡ false → IsPaid r m w e t 0 0 used by p →
    Spares r m w e used by p (λ q. coming r q e (kind_of t))

-- after a way the leaf is read whole: of a call that has had its effect, where its leaf is to be merged, that reads, or that froze its leaf. Of
-- another that has had its effect, the inner node under the root is merged, or the root lowered. Else the key is looked up there
pub record WaysArePaid (r : Resource) : Type 0 where
  pub read : (q : Prices) (e : Errand) → (e.effected ≡ true → e.rest ≡ rest.Leaf) → (e.effected ≡ true) ⊎ ((is_read e.call ≡ true) ⊎ (e.froze ≡ true)) → most_of_leaf r + coming r q e kinds.ReadWhole ≤ coming r q e kinds.Seek
  pub inner : (q : Prices) (e : Errand) → e.effected ≡ true → e.rest ≡ rest.Inner → most_of_joining r + coming r q e kinds.MergeNodes ≤ coming r q e kinds.Seek
  pub root : (q : Prices) (e : Errand) → e.effected ≡ true → most_of_lowering r + coming r q e kinds.LowerRoot ≤ coming r q e kinds.Seek
  pub find : (q : Prices) (e : Errand) → e.effected ≡ false → e.froze ≡ false → most_of_find r + coming r q e kinds.Find ≤ coming r q e kinds.Seek

-- once the key was looked up, a change is paid for
abbrev pub ChangesArePaid : Resource → Type 0
ChangesArePaid r = (q : Prices) (e : Errand) (t : AnyTask) → e.effected ≡ false → is_read e.call ≡ false → (kind_of t ≡ kinds.Insert) ⊎ ((kind_of t ≡ kinds.Update) ⊎ (kind_of t ≡ kinds.Delete)) →
    most_of r t + coming r q e (kind_of t) ≤ coming r q e kinds.Find

-- and where its leaf has no room, so is the reading of the whole leaf
abbrev pub LeavesAreRead : Resource → Type 0
LeavesAreRead r = (m : SwapMemory) (w : ℕ) (e : Errand) (used by : ℕ) (p : Past) → e.effected ≡ false → is_read e.call ≡ false → (IsUndisturbed 0 p → 0 < stage_now e p) → Spares r m w e used by p (λ q. coming r q e kinds.Find) →
    Spares r m w e used by p (λ q. most_of_leaf r + coming r q e kinds.ReadWhole)

-- a leaf that was read whole is made anew where it has no room, and the key is looked up again where it has
pub record ReadLeavesArePaid (r : Resource) : Type 0 where
  pub lacks : (m : SwapMemory) (w : ℕ) (e : Errand) (used by : ℕ) (p : Past) → e.effected ≡ false → is_read e.call ≡ false → (IsUndisturbed 0 p → 0 < stage_now e p) → Spares r m w e used by p (λ q. coming r q e kinds.ReadWhole) →
      Spares r m w e used by p (λ q. q.viewed)
  pub has : (m : SwapMemory) (w : ℕ) (e : Errand) (used by : ℕ) (p : Past) → e.effected ≡ false → is_read e.call ≡ false → (IsUndisturbed 0 p → stage_now e p ≡ 0) → Spares r m w e used by p (λ q. coming r q e kinds.ReadWhole) →
      PaysForRound r m w (after e kinds.ReadWhole) used by p
  -- of a delete that has had its effect, the key is looked up again where the leaf may not be merged
  pub small : (m : SwapMemory) (w : ℕ) (e : Errand) (used by : ℕ) (p : Past) → e.effected ≡ true → Spares r m w e used by p (λ q. coming r q e kinds.ReadWhole) → PaysForRound r m w (record e { rest = rest.Inner }) used by p

-- a task that is yet to begin is paid for
abbrev pub TasksMayBegin : Resource → Type 0
TasksMayBegin r =
    (m : SwapMemory) (w : ℕ) (e : Errand) (t : AnyTask) (used by : ℕ) (p : Past) → end_of t ≡ None → made_of t ≡ 0 → IsWithinItsActs t → (e.effected ≡ false → IsLookOf e.call (kind_of t)) →
    (e.effected ≡ false → kind_of t ≡ kinds.Merge → IsUndisturbed 0 p → IsSmall e p) → Spares r m w e used by p (λ q. most_of r t + coming r q e (kind_of t)) → IsPaid r m w e t 0 0 used by p

-- a look-up that has begun with its first read, which is to be started
pub record IsBegunAt (t : AnyTask) (p q : Past) : Type 0 where
  pub kind : kind_of t ≡ kinds.Seek
  pub left : left_of t ≤ seek_reads
  pub goes : end_of t ≡ None
  pub config : q.config ≡ p.config
  pub now : q.now ≡ p.now
  pub since : q.since ≡ q.now
  pub image : (q.at q.now).image ≡ (p.at p.now).image

-- a round begins
abbrev pub RoundsBegin : Resource → Type 0
RoundsBegin r = (m : SwapMemory) (w : ℕ) (e : Errand) (t : AnyTask) (used by a : ℕ) (p q : Past) → IsBegunAt t p q → PaysForRound r m w e used by p → IsPaid r m w e t 0 (start_takes r (Read a)) used by q

-- it is paid for: where another's swap took effect in the one before
abbrev pub DisturbedRoundsArePaid : Resource → Type 0
DisturbedRoundsArePaid r = (m : SwapMemory) (w : ℕ) (e : Errand) (used by : ℕ) (p : Past) (price : Prices → ℕ) → (IsUndisturbed 0 p → ⊥) → Spares r m w e used by p price → PaysForRound r m w e used by p

-- and after a task of a call without effect: one that is done; one that has to begin again; and one that ended for want of room, where that was
-- not a split or a change in a clean round. Of a merge the leaf is to be copied alone then
pub record EndsLeaveARound (r : Resource) : Type 0 where
  pub done : (m : SwapMemory) (w : ℕ) (e : Errand) (t : AnyTask) (used by : ℕ) (p : Past) → e.effected ≡ false → end_of t ≡ Some Done → IsPaid r m w e t 0 0 used by p → PaysForRound r m w (after e (kind_of t)) used by p
  pub restart : (m : SwapMemory) (w : ℕ) (e : Errand) (t : AnyTask) (used by : ℕ) (p : Past) → e.effected ≡ false → end_of t ≡ Some Restart → IsPaid r m w e t 0 0 used by p → PaysForRound r m w e used by p
  pub merge : (m : SwapMemory) (w : ℕ) (e : Errand) (t : AnyTask) (used by : ℕ) (p : Past) → e.effected ≡ false → end_of t ≡ Some NeedsRoom → kind_of t ≡ kinds.Merge → IsPaid r m w e t 0 0 used by p → PaysForRound r m w (record e { alone = true }) used by p
  pub crowded : (m : SwapMemory) (w : ℕ) (e : Errand) (t : AnyTask) (used by : ℕ) (p : Past) → e.effected ≡ false → end_of t ≡ Some NeedsRoom → (IsClean e t 0 p → ⊥) → IsPaid r m w e t 0 0 used by p → PaysForRound r m w (record e { alone = false }) used by p
  -- and of a delete that has had its effect, whose leaf, or the inner node under the root, or the root is still to be tried
  pub further : (m : SwapMemory) (w : ℕ) (e : Errand) (t : AnyTask) (used by : ℕ) (p : Past) → e.effected ≡ true → goes_further (kind_of t) ≡ true → IsPaid r m w e t 0 0 used by p → PaysForRound r m w (further e (kind_of t)) used by p
