-- Of the kinds of tasks, as far as their own swaps are concerned: those that change a record, and those that freeze a leaf or make a node anew.
use Rattle.std.proofs.Common.{◌≡◌, ℕ, ◌<◌, Bool, true, false, List, Option, Some, None, IsSome, arith, refl, sym, ap, subst, ◌∙◌, inl, inr}
use Rattle.bz_call.specs.declared.calls.Call.{Call}
use Rattle.bz_call.specs.declared.calls.Call.TheVariants as call
use Rattle.bz_costs.specs.FromRunning.Duties.{asks_of, end_of, change_swaps, publishing_of, makes_no_change, view_of}
use Rattle.bz_costs.specs.FromRunning.Kinds as kinds
use Rattle.bz_costs.specs.FromRunning.Kinds.{Kind, kind_of, is_look, is_renewal}
use Rattle.bz_costs.specs.FromRunning.Laws.{AreLaws}
use Rattle.bz_costs.specs.FromRunning.MadeFor.{IsMadeFor}
use Rattle.bz_costs.specs.FromRunning.AnyTask.{AnyTask}
use Rattle.bz_costs.specs.FromRunning.AnyTask.TheVariants.{Seeking, Finding, Reading, Inserting, Updating, Deleting, Merging, MergingInner, Lowering}
use Rattle.bz_task.specs.Scene.{Past}
use Rattle.bz_task.specs.declared.todo.Outcome.{Outcome}
use Rattle.bz_task.specs.declared.todo.Todo.TheVariants.{Swap, Finish}
use Rattle.bz_word.specs.declared.entry.Entry.{Entry}
use Rattle.bz_solo.specs.Errands.{Errand, is_read, IsLookOf, may_swap_twice}
use Rattle.bz_solo.specs.Prices.{Prices, coming_to_write, coming_after}
use Rattle.bz_costs.specs.Resources.{Resource}

abbrev pub is_change : Kind → Bool
is_change kinds.Insert = true
is_change kinds.Update = true
is_change kinds.Delete = true
is_change other = false

different : {A : Type 0} → true ≡ false → A
different e = absurd (cc)

-- a call that does anything but look is one that makes a change
pub writes : (called : Call) (k : Kind) → IsLookOf called k → is_look k ≡ false → is_read called ≡ false
writes (call.Get key) k (inl e) f = absurd (different (sym (ap is_look e) ∙ f))
writes (call.Get key) k (inr e) f = absurd (different (sym (ap is_look e) ∙ f))
writes (call.Page key) k (inl e) f = absurd (different (sym (ap is_look e) ∙ f))
writes (call.Page key) k (inr e) f = absurd (different (sym (ap is_look e) ∙ f))
writes other k i f = refl

pub change-looks : (k : Kind) → is_change k ≡ true → is_look k ≡ false
change-looks kinds.Seek c = absurd (cc)
change-looks kinds.Find c = absurd (cc)
change-looks kinds.ReadWhole c = absurd (cc)
change-looks k c = refl

pub change-twice : (k : Kind) → is_change k ≡ true → may_swap_twice k ≡ true
change-twice kinds.Insert c = refl
change-twice kinds.Update c = refl
change-twice kinds.Delete c = refl
change-twice k c = absurd (cc)

pub change-merge : (k : Kind) → is_change k ≡ true → k ≡ kinds.Merge → ⊥
change-merge k c e = different (sym (sym (ap is_change e) ∙ c))

-- what comes after a change does not stand on the leaf, nor on whether it has had its effect
pub change-coming : (r : Resource) (q x : Prices) (e : Errand) (k : Kind) → is_change k ≡ true → coming_to_write r q e k ≡ coming_to_write r x e k
change-coming r q x e kinds.Insert c = refl
change-coming r q x e kinds.Update c = refl
change-coming r q x e kinds.Delete c = refl
change-coming r q x e k c = absurd (cc)

pub change-after : (r : Resource) (q : Prices) (e : Errand) (k : Kind) → is_change k ≡ true → coming_after r e.rest k ≡ coming_to_write r q e k
change-after r q e kinds.Insert c = refl
change-after r q e kinds.Update c = refl
change-after r q e kinds.Delete c = refl
change-after r q e k c = absurd (cc)

-- the tasks that make a change
pub publishing-change : (t : AnyTask) → publishing_of t ≡ true → is_change (kind_of t) ≡ true
unfolding view_of kind_of
publishing-change (Inserting t) p = refl
publishing-change (Updating t) p = refl
publishing-change (Deleting t) p = refl
publishing-change t p = absurd (cc)

pub swapping-change : (t : AnyTask) → 0 < change_swaps t → is_change (kind_of t) ≡ true
unfolding change_swaps kind_of
swapping-change (Inserting t) l = refl
swapping-change (Updating t) l = refl
swapping-change (Deleting t) l = refl
swapping-change t l = absurd (omega (arith, l))

pub swapping-changes : (t : AnyTask) → 0 < change_swaps t → makes_no_change t ≡ false
unfolding change_swaps makes_no_change
swapping-changes (Inserting t) l = refl
swapping-changes (Updating t) l = refl
swapping-changes (Deleting t) l = refl
swapping-changes t l = absurd (omega (arith, l))

-- and those that were made for a key and its words
pub record IsMaking (t : AnyTask) : Type 0 where
  pub silent : makes_no_change t ≡ true
  pub once : may_swap_twice (kind_of t) ≡ false
  pub works : is_look (kind_of t) ≡ false
  pub renews : is_renewal (kind_of t) ≡ true

pub making : (t : AnyTask) (key : List ℕ) (words : ℕ) (p : Past) → IsMadeFor t key words p → IsMaking t
unfolding IsMadeFor makes_no_change kind_of
making (Seeking t) key words p m = absurd m
making (Finding t) key words p m = absurd m
making (Reading t) key words p m = absurd m
making (Inserting t) key words p m = absurd m
making (Updating t) key words p m = absurd m
making (Deleting t) key words p m = absurd m
making (Merging t) key words p m = absurd m
making (MergingInner t) key words p m = absurd m
making (Lowering t) key words p m = absurd m
making t key words p m = record { silent = refl; once = refl; works = refl; renews = refl }

-- a task that asks for a swap has not ended
pub not-ended : (t : AnyTask) (entries : List Entry) → AreLaws t → asks_of t ≡ Some (Swap entries) → end_of t ≡ None
not-ended t entries laws a = go (end_of t) refl
  where
    finished : Some Finish ≡ Some (Swap entries) → ⊥
    finished e = cc

    go : (o : Option Outcome) → end_of t ≡ o → end_of t ≡ None
    go None e = e
    go (Some o) e = absurd (finished (sym (laws.only (subst IsSome (sym e) refl)) ∙ a))
