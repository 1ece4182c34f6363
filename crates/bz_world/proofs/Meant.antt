-- What a task is meant for stays, and those that make a leaf anew are made for the key and the words of their call.
use Rattle.std.proofs.Common.{◌≡◌, ◌⊎◌, ℕ, ◌+◌, ◌<◌, List, true, false, arith, refl, sym, ap, subst, ◌∙◌, inl, inr}
use Rattle.std.proofs.lemmas.Bool.{true≢false}
use Rattle.bz_call.specs.Map.{key_of}
use Rattle.bz_call.specs.declared.calls.Call.{Call}
use Rattle.bz_call.specs.declared.calls.Call.TheVariants as call
use Rattle.bz_layout.specs.Slots.{FreeSlots}
use Rattle.bz_layout.specs.declared.thresholds.TheConstants.{MERGE_SLOTS, SPLIT_SLOTS}
use Rattle.bz_record.specs.Records.{words_for, LacksRoom}
use Rattle.bz_any_task.specs.Duties.{change_swaps, wants_of, publishing_of, view_of}
use Rattle.bz_any_task.specs.Hearing.{HasHeard}
use Rattle.bz_any_task.specs.Laws.{AreLaws}
use Rattle.bz_solo.specs.Errands.{IsLookOf, may_swap_twice}
use Rattle.bz_any_task.specs.Kinds as kinds
use Rattle.bz_any_task.specs.FromInner.Lower.{Lower}
use Rattle.bz_any_task.specs.FromInner.MergeInner.{MergeInner}
use Rattle.bz_any_task.specs.Kinds.{Kind, is_look, is_renewal, kind_of}
use Rattle.bz_any_task.specs.MadeFor.{IsMadeFor, IsMergeFor}
use Rattle.bz_any_task.specs.declared.running.AnyTask.{AnyTask}
use Rattle.bz_any_task.specs.declared.running.AnyTask.TheVariants.{Seeking, Finding, Reading, Inserting, Updating, Deleting, Freezing, Consolidating, Splitting, SplittingBelow, SplittingInner, SplittingInnerRoot, Merging, MergingInner, Lowering}
use Rattle.bz_task.specs.Outcomes.{IsView}
use Rattle.bz_task.specs.Scene.{Past, Continues}
use Rattle.bz_task.specs.declared.todo.Seen.{Seen}
use Rattle.bz_task.specs.declared.todo.Todo.{Todo}
use Rattle.bz_task.specs.declared.view.LeafView.{LeafView}
use Rattle.bz_word.specs.Statuses.{status}
use Rattle.bz_solo.specs.Errands.{words_asked}
use Rattle.bz_solo.specs.Meant.{IsMeantFor}
use Rattle.bz_content.specs.Content.{image_of, leaf_in}
use Rattle.bz_stage.specs.FromLeaves.Neighbours.{leaf_page}
use Rattle.bz_slotted.specs.Records.{live_words}
use Rattle.bz_world.specs.Inside.Meant.{IsMeant, IsOfSettled, tries_later}
use Rattle.bz_world.specs.Inside.Telling.{HasTold}
use Rattle.bz_world.specs.declared.serving.OpenCall.{OpenCall}
use Rattle.bz_world.proofs.Paid.{within-told}
use Rattle.bz_world.specs.Inside.Room.{LacksRoomFor}

-- one moment later
pub meant-on : (called : Call) (t : AnyTask) (p q : Past) → AreLaws t → Continues p q → IsMeantFor called t p → IsMeantFor called t q
meant-on called t p q laws on (inl none) = inl none
meant-on called t p q laws on (inr (inl merges)) = inr (inl (laws.merge_for (key_of called) p q merges on))
meant-on called t p q laws on (inr (inr made)) = inr (inr (laws.made_for (key_of called) (words_asked called) p q made on))

-- once it was told something
still-none : (old new : AnyTask) (seen : Seen) (moment : ℕ) (free : FreeSlots) (todo : Todo) (left : FreeSlots) → HasHeard old seen moment free todo new left → (is_look (kind_of old) ≡ true) ⊎ (0 < change_swaps old) → (is_look (kind_of new) ≡ true) ⊎ (0 < change_swaps new)
still-none old new seen moment free todo left h (inl look) = inl (ap is_look h.kind ∙ look)
still-none old new seen moment free todo left h (inr some) = inr (subst (λ n. 0 < n) (sym h.swaps) some)

pub meant-told : (called : Call) (p : Past) (old new : AnyTask) (seen : Seen) (moment : ℕ) (free : FreeSlots) (todo : Todo) (left : FreeSlots) → HasHeard old seen moment free todo new left → IsMeantFor called old p → IsMeantFor called new p
meant-told called p old new seen moment free todo left h (inl none) = inl (record { slots = h.wants ∙ none.slots; swaps = still-none old new seen moment free todo left h none.swaps })
meant-told called p old new seen moment free todo left h (inr (inl merges)) = inr (inl (h.merge_for (key_of called) p merges))
meant-told called p old new seen moment free todo left h (inr (inr made)) = inr (inr (h.made_for (key_of called) (words_asked called) p made))

-- a merge takes two slots
pub merges-want : (t : AnyTask) (key : List ℕ) (p : Past) → IsMergeFor t key p → wants_of t ≡ MERGE_SLOTS
unfolding wants_of IsMergeFor
merges-want (Seeking t) key p m = absurd m
merges-want (Finding t) key p m = absurd m
merges-want (Reading t) key p m = absurd m
merges-want (Inserting t) key p m = absurd m
merges-want (Updating t) key p m = absurd m
merges-want (Deleting t) key p m = absurd m
merges-want (Freezing t) key p m = absurd m
merges-want (Consolidating t) key p m = absurd m
merges-want (Splitting t) key p m = absurd m
merges-want (SplittingBelow t a) key p m = absurd m
merges-want (SplittingInner t a) key p m = absurd m
merges-want (SplittingInnerRoot t a) key p m = absurd m
merges-want (Merging t) key p m = refl
merges-want (MergingInner t) key p m = absurd m
merges-want (Lowering t) key p m = absurd m

-- no task that takes a level away is one of a call without effect
pub inner-not-meant : (called : Call) (t : MergeInner) (p : Past) → IsMeantFor called (MergingInner t) p → ⊥
unfolding wants_of IsMergeFor IsMadeFor
inner-not-meant called t p (inl none) = absurd (omega (arith, none.slots))
inner-not-meant called t p (inr (inl merges)) = merges
inner-not-meant called t p (inr (inr made)) = made

neither : (false ≡ true) ⊎ (0 < 0) → ⊥
neither (inl look) = true≢false (sym look)
neither (inr some) = absurd (omega (arith, some))

pub lower-not-meant : (called : Call) (t : Lower) (p : Past) → IsMeantFor called (Lowering t) p → ⊥
unfolding kind_of change_swaps IsMergeFor IsMadeFor
lower-not-meant called t p (inl none) = neither none.swaps
lower-not-meant called t p (inr (inl merges)) = merges
lower-not-meant called t p (inr (inr made)) = made

-- a split was made for them
pub split-meant : (called : Call) (t : AnyTask) (p : Past) → wants_of t ≡ SPLIT_SLOTS → IsMeantFor called t p → IsMadeFor t (key_of called) (words_asked called) p
split-meant called t p wants (inl none) = absurd (omega (arith, wants, none.slots))
split-meant called t p wants (inr (inl merges)) = absurd (omega (arith, wants, merges-want t (key_of called) p merges))
split-meant called t p wants (inr (inr made)) = made

-- and so is the freeze of a leaf without room for the call
pub freeze-meant : (called : Call) (t : AnyTask) (view : LeafView) (p : Past) → LacksRoomFor called view.status → (status view.status).frozen ≡ false → IsView (key_of called) view p
    → ((key : List ℕ) (words : ℕ) (q : Past) → IsView key view q → LacksRoom view.status words → IsMadeFor t key (words + 1) q) → IsMadeFor t (key_of called) (words_asked called) p
freeze-meant (call.Insert key payload) t view p lacks thawed viewed made = made key (words_for key payload) p viewed lacks
freeze-meant (call.Update key payload) t view p lacks thawed viewed made = made key (words_for key payload) p viewed lacks
freeze-meant (call.Upsert key payload) t view p lacks thawed viewed made = made key (words_for key payload) p viewed lacks
freeze-meant (call.Delete key) t view p lacks thawed viewed made = absurd (true≢false (sym lacks ∙ thawed))
freeze-meant (call.Get key) t view p lacks thawed viewed made = absurd lacks
freeze-meant (call.Page from) t view p lacks thawed viewed made = absurd lacks

-- what the leaf of a copy was it was
settled-on : (t : AnyTask) (key : List ℕ) (p q : Past) → Continues p q → IsOfSettled t key p → IsOfSettled t key q
settled-on t key p q on s = record {
  slot = s.slot;
  was = record {
    moment = s.was.moment;
    since = omega (arith, on.since, s.was.since);
    now = omega (arith, on.now, s.was.now);
    leaf = (λ e. leaf_in (on.config e) (on.at s.was.moment s.was.now e).image key) ∙ s.was.leaf;
    frozen = (λ e. (leaf_page (on.config e) (image_of (on.at s.was.moment s.was.now e).image) key).frozen) ∙ s.was.frozen;
    few = let same : live_words (leaf_page q.config (image_of (q.at s.was.moment).image) key) ≡ live_words (leaf_page p.config (image_of (p.at s.was.moment).image) key) = λ e. live_words (leaf_page (on.config e) (image_of (on.at s.was.moment s.was.now e).image) key) in omega (arith, same, s.was.few);
  };
  known = s.known;
  only = s.only;
  made = s.made;
}

-- so it stays of a call, from moment to moment, and once its task was told something
pub call-meant-on : (x : OpenCall) (p q : Past) → AreLaws x.task → Continues p q → IsMeant x p → IsMeant x q
call-meant-on x p q laws on m = record { within = m.within; fit = m.fit; look = m.look; meant = λ quiet. meant-on x.call x.task p q laws on (m.meant quiet); later = m.later; small = λ merge. laws.small_for (key_of x.call) p q (m.small merge) on; copied = λ copy. settled-on x.task (key_of x.call) p q on (m.copied copy); first = m.first }

pub call-meant-told : (x : OpenCall) (p : Past) (seen : Seen) (moment : ℕ) (free : FreeSlots) (todo : Todo) (y : OpenCall) (left : FreeSlots) → HasTold x seen moment free todo y left → IsMeant x p → IsMeant y p
call-meant-told x p seen moment free todo y left h m = subst (λ (z : OpenCall). IsMeant z p) (sym h.rest) (record {
  within = within-told x.task y.task seen moment free todo left h.heard m.within;
  fit = record { words = m.fit.words; thawed = m.fit.thawed; quiet = m.fit.quiet };
  look = λ quiet. subst (IsLookOf x.call) (sym h.heard.kind) (m.look quiet);
  meant = λ quiet. meant-told x.call p x.task y.task seen moment free todo left h.heard (m.meant quiet);
  later = λ at is. ap is_renewal h.heard.kind ∙ m.later at is;
  small = λ merge. h.heard.small_for (key_of x.call) p (m.small (sym h.heard.kind ∙ merge));
  copied = λ copy. let s = m.copied (sym h.heard.kind ∙ copy) in record { slot = s.slot; was = s.was; known = s.known; only = s.only; made = h.heard.made_for (key_of x.call) 0 s.known s.made };
  first = λ other. m.first (sym (ap tries_later h.heard.kind) ∙ other);
})

-- the swap of a change merges nothing
pub publishing-no-merge : (t : AnyTask) → publishing_of t ≡ true → kind_of t ≡ kinds.Merge → ⊥
unfolding view_of kind_of
publishing-no-merge (Inserting t) e merge = cc merge
publishing-no-merge (Updating t) e merge = cc merge
publishing-no-merge (Deleting t) e merge = cc merge
publishing-no-merge t e merge = true≢false (sym e)

-- nor copies
pub publishing-no-copy : (t : AnyTask) → publishing_of t ≡ true → kind_of t ≡ kinds.Copy → ⊥
unfolding view_of kind_of
publishing-no-copy (Inserting t) e copy = cc copy
publishing-no-copy (Updating t) e copy = cc copy
publishing-no-copy (Deleting t) e copy = cc copy
publishing-no-copy (Merging t) e copy = cc copy
publishing-no-copy t e copy = true≢false (sym e)

-- and makes nothing anew
pub publishing-kind : (t : AnyTask) → publishing_of t ≡ true → is_renewal (kind_of t) ≡ false
unfolding view_of kind_of
publishing-kind (Seeking t) e = refl
publishing-kind (Finding t) e = refl
publishing-kind (Reading t) e = refl
publishing-kind (Inserting t) e = refl
publishing-kind (Updating t) e = refl
publishing-kind (Deleting t) e = refl
publishing-kind (Freezing t) e = absurd (true≢false (sym e))
publishing-kind (Consolidating t) e = absurd (true≢false (sym e))
publishing-kind (Splitting t) e = absurd (true≢false (sym e))
publishing-kind (SplittingBelow t a) e = absurd (true≢false (sym e))
publishing-kind (SplittingInner t a) e = absurd (true≢false (sym e))
publishing-kind (SplittingInnerRoot t a) e = absurd (true≢false (sym e))
publishing-kind (Merging t) e = refl
publishing-kind (MergingInner t) e = refl
publishing-kind (Lowering t) e = refl

-- a task that swaps, and makes nothing anew but by a merge, is a change, or a merge, or takes a level away
pub swaps-or-merges : (k : Kind) → is_renewal k ≡ false → (is_look k ≡ true → ⊥) → may_swap_twice k ≡ true
swaps-or-merges kinds.Seek r l = absurd (l refl)
swaps-or-merges kinds.Find r l = absurd (l refl)
swaps-or-merges kinds.ReadWhole r l = absurd (l refl)
swaps-or-merges kinds.Insert r l = refl
swaps-or-merges kinds.Update r l = refl
swaps-or-merges kinds.Delete r l = refl
swaps-or-merges kinds.Freeze r l = absurd (true≢false r)
swaps-or-merges kinds.Copy r l = absurd (true≢false r)
swaps-or-merges kinds.SplitRootLeaf r l = absurd (true≢false r)
swaps-or-merges (kinds.SplitLeaf a) r l = absurd (true≢false r)
swaps-or-merges (kinds.SplitNode a) r l = absurd (true≢false r)
swaps-or-merges (kinds.SplitRootNode a) r l = absurd (true≢false r)
swaps-or-merges kinds.Merge r l = refl
swaps-or-merges kinds.MergeNodes r l = refl
swaps-or-merges kinds.LowerRoot r l = refl
