-- A task that a call gets is paid for.
use Rattle.std.proofs.Common.{◌≡◌, ◌≢◌, ◌⊎◌, ℕ, ◌+◌, ◌≤◌, ◌<◌, true, false, List, arith, refl, sym, ap, subst, ◌∙◌, inl, inr, Option, Some, None, is_some}
use Rattle.std.specs.Prelude.{IsSome, nat_lt}
use Rattle.std.proofs.lemmas.Bool.Decides.{nat_tests}
use Rattle.bz_call.specs.Map.{key_of}
use Rattle.bz_call.specs.Pages.{is_page}
use Rattle.bz_layout.specs.declared.thresholds.TheConstants.{SPLIT_ABOVE}
use Rattle.bz_solo.specs.Renewals.{IsLacking, IsLarge}
use Rattle.bz_record.specs.Records.{words_for}
use Rattle.bz_solo.specs.FromRounds.Viewed.{TellsTheStage}
use Rattle.bz_slotted.specs.Readers.{live_of}
use Rattle.bz_slotted.specs.ReadingLaws.{node_of}
use Rattle.bz_stage.specs.Stages.{stage_in}
use Rattle.bz_task.specs.Outcomes.{IsView}
use Rattle.bz_task.specs.declared.view.LeafView.{LeafView}
use Rattle.bz_word.specs.Statuses.{status}
use Rattle.bz_world.specs.Inside.Room.{LacksRoomFor, HasRoomFor}
use Rattle.bz_solo.specs.FromAlone.Undisturbed.{IsUndisturbed}
use Rattle.bz_call.specs.declared.replies.Spent.{Spent}
use Rattle.bz_call.specs.declared.calls.Call.{Call}
use Rattle.bz_call.specs.declared.calls.Call.TheVariants as call
use Rattle.bz_solo.specs.FromCosts.Most.{most_of, most_of_seek, most_of_find, most_of_leaf, most_of_insert, most_of_update, most_of_delete, most_of_freeze, most_of_copy, most_of_merge, most_of_joining, most_of_lowering, most_of_root, most_of_below, most_of_inner, most_of_inner_root}
use Rattle.bz_solo.specs.declared.rest.Rest.TheVariants as rest
use Rattle.bz_solo.specs.Errands.{Errand, words_asked, is_read, IsLookOf, may_swap_twice, after, further, goes_further, rest_after}
use Rattle.bz_solo.specs.declared.rest.Rest.{Rest}
use Rattle.bz_solo.specs.Prices.{Prices, coming}
use Rattle.bz_solo.specs.FromCosts.Resources.{Resource}
use Rattle.bz_solo.specs.Sum.{IsSmall, PaysForRound}
use Rattle.bz_swap.specs.SwapMemory.{SwapMemory}
use Rattle.bz_any_task.specs.Duties.{asks_of, end_of, made_of}
use Rattle.bz_any_task.specs.Kinds as kinds
use Rattle.bz_any_task.specs.Kinds.{Kind, is_look, kind_of}
use Rattle.bz_any_task.specs.Ends.{IsEndOf}
use Rattle.bz_any_task.specs.Laws.{AreLaws}
use Rattle.bz_task.specs.declared.todo.Outcome.TheVariants as outcome
use Rattle.bz_task.specs.declared.view.KeyView.{KeyView}
use Rattle.bz_any_task.specs.declared.running.AnyTask.{AnyTask}
use Rattle.bz_any_task.specs.declared.running.AnyTask.TheVariants.{Seeking, Finding, Reading, Inserting, Updating, Deleting, Freezing, Consolidating, Splitting, SplittingBelow, SplittingInner, SplittingInnerRoot, Merging, MergingInner, Lowering}
use Rattle.bz_sound.specs.Memory.Replies.{IsWrite}
use Rattle.bz_task.specs.Scene.{Past, Scene, here}
use Rattle.bz_task.specs.declared.path.Path.{Path}
use Rattle.bz_task.specs.declared.todo.Outcome.{Outcome}
use Rattle.bz_task.specs.declared.todo.Outcome.TheVariants.{Done}
use Rattle.bz_task.specs.declared.todo.Todo.{Todo}
use Rattle.bz_task.specs.declared.todo.Todo.TheVariants.{Finish}
use Rattle.bz_world.specs.Inside.Going.{MustGoOn, MustFind, MustAnswer, HasEnded, HasMergedIn, HasRoomForEnd, StandsToLook, known}
use Rattle.bz_world.specs.Inside.Laws.{UndisturbedLaws, RoundLaws}
use Rattle.bz_world.specs.Inside.Meant.{IsMeant}
use Rattle.bz_world.specs.Inside.Paid.{bound_in, errand_of, is_joining, no_extra, used_in, IsPaidFor, HasARoundAs, HasToSpare}
use Rattle.bz_world.specs.declared.parts.Parts.{Parts}
use Rattle.bz_world.specs.declared.serving.OpenCall.{OpenCall}
use Rattle.bz_world.proofs.Endings.{full-no-look}
use Rattle.bz_world.proofs.Paid.{none-of, affords-room, swaps-write}
use Rattle.bz_world.proofs.PaidSteps.{room-of}
use Rattle.bz_world.proofs.TakingOn.{known-scene}

-- the greatest weight of a task by its kind
abbrev pub most_in : Resource → Kind → ℕ
most_in r kinds.Seek = most_of_seek r
most_in r kinds.Find = most_of_find r
most_in r kinds.ReadWhole = most_of_leaf r
most_in r kinds.Insert = most_of_insert r
most_in r kinds.Update = most_of_update r
most_in r kinds.Delete = most_of_delete r
most_in r kinds.Freeze = most_of_freeze r
most_in r kinds.Copy = most_of_copy r
most_in r kinds.SplitRootLeaf = most_of_root r
most_in r (kinds.SplitLeaf a) = most_of_below r
most_in r (kinds.SplitNode a) = most_of_inner r
most_in r (kinds.SplitRootNode a) = most_of_inner_root r
most_in r kinds.Merge = most_of_merge r
most_in r kinds.MergeNodes = most_of_joining r
most_in r kinds.LowerRoot = most_of_lowering r

pub most-kind : (r : Resource) (t : AnyTask) → most_of r t ≡ most_in r (kind_of t)
unfolding kind_of
most-kind r (Seeking t) = refl
most-kind r (Finding t) = refl
most-kind r (Reading t) = refl
most-kind r (Inserting t) = refl
most-kind r (Updating t) = refl
most-kind r (Deleting t) = refl
most-kind r (Freezing t) = refl
most-kind r (Consolidating t) = refl
most-kind r (Splitting t) = refl
most-kind r (SplittingBelow t a) = refl
most-kind r (SplittingInner t a) = refl
most-kind r (SplittingInnerRoot t a) = refl
most-kind r (Merging t) = refl
most-kind r (MergingInner t) = refl
most-kind r (Lowering t) = refl

-- a task that asks for nothing yet has not ended
no-end : (o : Option Outcome) (asked : Option Todo) → (IsSome o → asked ≡ Some Finish) → asked ≡ None → o ≡ None
no-end None asked only none = refl
no-end (Some o) asked only none = absurd (let finish : asked ≡ Some Finish = only refl in cc (finish, none))

pub not-ended : (t : AnyTask) (todo : Todo) → AreLaws t → asks_of t ≡ Some todo → todo ≢ Finish → end_of t ≡ None
not-ended t todo laws asks more = go (end_of t) (asks_of t) laws.only asks
  where
    go : (o : Option Outcome) (asked : Option Todo) → (IsSome o → asked ≡ Some Finish) → asked ≡ Some todo → o ≡ None
    go None asked only is = refl
    go (Some o) asked only is = absurd (let finish : Some todo ≡ Some Finish = sym is ∙ only refl in more (cc finish))

-- any task is one of a call that makes a change
pub writes-look : (called : Call) (k : Kind) → is_read called ≡ false → IsLookOf called k
writes-look (call.Insert key payload) k w = tt
writes-look (call.Update key payload) k w = tt
writes-look (call.Upsert key payload) k w = tt
writes-look (call.Delete key) k w = tt
writes-look (call.Get key) k w = absurd (cc w)
writes-look (call.Page key) k w = absurd (cc w)

-- which puts something at its key, or takes it out
pub is-write : (called : Call) → is_read called ≡ false → IsWrite called
is-write (call.Insert key payload) w = tt
is-write (call.Update key payload) w = tt
is-write (call.Upsert key payload) w = tt
is-write (call.Delete key) w = tt
is-write (call.Get key) w = absurd (cc w)
is-write (call.Page key) w = absurd (cc w)

-- and each call looks for its leaf
pub seeks : (called : Call) → IsLookOf called kinds.Seek
seeks (call.Insert key payload) = tt
seeks (call.Update key payload) = tt
seeks (call.Upsert key payload) = tt
seeks (call.Delete key) = tt
seeks (call.Get key) = inl refl
seeks (call.Page key) = inl refl

pub task-paid : RoundLaws → (p : Parts) (w : ℕ) (on : MustGoOn p w) (task : AnyTask) (way : Option Path) (had : Option (List ℕ)) (k : Kind) → kind_of task ≡ k → AreLaws task → asks_of task ≡ None → made_of task ≡ 0
    → IsMeant (record on.serving { task = task; path = way; had = had }) (known p w on).past → (on.serving.effect ≡ None → k ≡ kinds.Merge → IsUndisturbed 0 (known p w on).past → IsSmall (errand_of on.serving) (known p w on).past)
    → HasToSpare p w on.serving (known p w on).past (λ r q. most_in r k + coming r q (errand_of on.serving) k) → IsPaidFor p w (record on.serving { task = task; path = way; had = had }) 0 no_extra (known p w on).past
task-paid b p w on task way had k kind laws asks made meant small spares r counted =
    b.tasks r p.access w (errand_of on.serving) task (used_in r p w) (bound_in r p w) (known p w on).past (no-end (end_of task) (asks_of task) laws.only asks) made meant.within (λ quiet. meant.look (none-of on.serving.effect quiet))
    (λ quiet merge. small (none-of on.serving.effect quiet) (sym kind ∙ merge))
    (b.less r p.access w (errand_of on.serving) (used_in r p w) (bound_in r p w) (known p w on).past (λ q. most_in r k + coming r q (errand_of on.serving) k) (λ q. most_of r task + coming r q (errand_of on.serving) (kind_of task))
    (λ q. omega (arith, most-kind r task, ap (most_in r) kind, ap (coming r q (errand_of on.serving)) kind)) (spares r counted))

-- a look-up has no effect of its own
look-swaps : (k : Kind) → is_look k ≡ true → may_swap_twice k ≡ false
look-swaps kinds.Seek e = refl
look-swaps kinds.Find e = refl
look-swaps kinds.ReadWhole e = refl
look-swaps k e = absurd (cc e)

not-many : (n : ℕ) → n ≤ SPLIT_ABOVE → nat_lt SPLIT_ABOVE n ≡ false
not-many n few = grind (arith, nat_tests)

too-many : (n : ℕ) → SPLIT_ABOVE < n → nat_lt SPLIT_ABOVE n ≡ true
too-many n many = grind (arith, nat_tests)

-- the end of a look-up of this kind leaves what may come after it
pub ended-spares : RoundLaws → (p : Parts) (w : ℕ) (on : MustGoOn p w) (o : Outcome) (k : Kind) → kind_of on.serving.task ≡ k → is_look k ≡ true → end_of on.serving.task ≡ Some o → o ≢ Done → IsPaidFor p w on.serving 0 no_extra (known p w on).past
    → HasToSpare p w on.serving (known p w on).past (λ r q. coming r q (errand_of on.serving) k)
ended-spares b p w on o k kind look ended goes paid = subst (λ z. HasToSpare p w on.serving (known p w on).past (λ r q. coming r q (errand_of on.serving) z)) kind
    (λ r counted. b.ends r p.access w (errand_of on.serving) on.serving.task o (used_in r p w) (bound_in r p w) (known p w on).past ended goes (look-swaps (kind_of on.serving.task) (ap is_look kind ∙ look)) (paid r counted))

-- a mark is left for the end of the call
pub end-room : RoundLaws → (p : Parts) (w : ℕ) (x : OpenCall) (past : Past) → IsPaidFor p w x 0 no_extra past → HasRoomForEnd p w
end-room b p w x past paid = room-of b p w x 0 no_extra past paid

pub spared-room : (p : Parts) (w : ℕ) (x : OpenCall) (past : Past) (price : Resource → Prices → ℕ) → HasToSpare p w x past price → HasRoomForEnd p w
spared-room p w x past price s r counted = affords-room r p.access w (errand_of x) (used_in r p w) (bound_in r p w) _ (s r counted).affords

pub round-room : (p : Parts) (w : ℕ) (e : Errand) (past : Past) → HasARoundAs p w e past → HasRoomForEnd p w
round-room p w e past h r counted = affords-room r p.access w e (used_in r p w) (bound_in r p w) _ (h r counted).affords

-- what is left once the way was found pays for the reading of the whole leaf
pub way-read : RoundLaws → (p : Parts) (w : ℕ) (path : Path) (m : MustFind p w path) → ((errand_of m.on.serving).effected ≡ true) ⊎ ((is_read m.on.serving.call ≡ true) ⊎ (m.on.serving.froze ≡ true))
    → HasToSpare p w m.on.serving (known p w m.on).past (λ r q. most_of_leaf r + coming r q (errand_of m.on.serving) kinds.ReadWhole)
way-read b p w path m why r counted = b.less r p.access w (errand_of m.on.serving) (used_in r p w) (bound_in r p w) (known p w m.on).past (λ q. coming r q (errand_of m.on.serving) kinds.Seek) (λ q. most_of_leaf r + coming r q (errand_of m.on.serving) kinds.ReadWhole)
    (λ q. (b.ways r).read q (errand_of m.on.serving) (λ done. m.on.fit.quiet m.quiet) why) (m.spares r counted)

-- what the leaf's status tells of the stage
pub lacks-stage : (called : Call) (st : ℕ) (s : Scene) → TellsTheStage st (key_of called) s → LacksRoomFor called st → 0 < stage_in s.past.config (here s).image (key_of called) (words_asked called)
lacks-stage (call.Insert key payload) st s t l = t.lacks (words_for key payload) l
lacks-stage (call.Update key payload) st s t l = t.lacks (words_for key payload) l
lacks-stage (call.Upsert key payload) st s t l = t.lacks (words_for key payload) l
lacks-stage (call.Delete key) st s t l = t.frozen l 0
lacks-stage (call.Get key) st s t l = absurd l
lacks-stage (call.Page key) st s t l = absurd l

has-stage : (called : Call) (st : ℕ) (s : Scene) → is_read called ≡ false → TellsTheStage st (key_of called) s → HasRoomFor called st → stage_in s.past.config (here s).image (key_of called) (words_asked called) ≡ 0
has-stage (call.Insert key payload) st s w t h = t.has (words_for key payload) h
has-stage (call.Update key payload) st s w t h = t.has (words_for key payload) h
has-stage (call.Upsert key payload) st s w t h = t.has (words_for key payload) h
has-stage (call.Delete key) st s w t h = t.thawed h
has-stage (call.Get key) st s w t h = absurd (cc w)
has-stage (call.Page key) st s w t h = absurd (cc w)

-- a leaf that was read whole, and has no room
pub read-lacks : UndisturbedLaws → (p : Parts) (w : ℕ) (view : LeafView) (m : MustAnswer p w view) → is_read m.on.serving.call ≡ false → LacksRoomFor m.on.serving.call view.status → HasToSpare p w m.on.serving (known p w m.on).past (λ r q. q.viewed)
read-lacks b p w view m write lacks r counted = (b.rounds.read r).lacks p.access w (errand_of m.on.serving) (used_in r p w) (bound_in r p w) (known p w m.on).past (ap is_some m.quiet) write
    (λ alone. lacks-stage m.on.serving.call view.status (known p w m.on) (b.rounds.stages (key_of m.on.serving.call) view (known p w m.on) (known-scene b.scenes p w m.on) alone m.viewed) lacks) (m.spares r counted)

-- or has it, so that the key is looked up again
pub read-has : UndisturbedLaws → (p : Parts) (w : ℕ) (view : LeafView) (m : MustAnswer p w view) → is_read m.on.serving.call ≡ false → HasRoomFor m.on.serving.call view.status
    → HasARoundAs p w (after (errand_of m.on.serving) (kind_of m.on.serving.task)) (known p w m.on).past
read-has b p w view m write has = subst (λ k. HasARoundAs p w (after (errand_of m.on.serving) k) (known p w m.on).past) (sym m.kind)
    (λ r counted. (b.rounds.read r).has p.access w (errand_of m.on.serving) (used_in r p w) (bound_in r p w) (known p w m.on).past (ap is_some m.quiet) write
    (λ alone. has-stage m.on.serving.call view.status (known p w m.on) write (b.rounds.stages (key_of m.on.serving.call) view (known p w m.on) (known-scene b.scenes p w m.on) alone m.viewed) has) (m.spares r counted))

-- a frozen leaf that lacks the room is small, or large; one that is not is frozen first
pub is-small : UndisturbedLaws → (p : Parts) (w : ℕ) (on : MustGoOn p w) (view : LeafView) → IsView (key_of on.serving.call) view (known p w on).past → (status view.status).frozen ≡ true → live_of (node_of view.image.0) ≤ SPLIT_ABOVE → IsUndisturbed 0 (known p w on).past → IsSmall (errand_of on.serving) (known p w on).past
is-small b p w on view viewed frozen few alone =
    let t = b.rounds.views (key_of on.serving.call) view (known p w on) (known-scene b.scenes p w on) alone viewed in
    record { frozen = t.frozen ∙ frozen; few = t.crowded ∙ not-many (live_of (node_of view.image.0)) few }

pub is-large : UndisturbedLaws → (p : Parts) (w : ℕ) (on : MustGoOn p w) (view : LeafView) → IsView (key_of on.serving.call) view (known p w on).past → (status view.status).frozen ≡ true → SPLIT_ABOVE < live_of (node_of view.image.0) → IsUndisturbed 0 (known p w on).past → IsLarge (errand_of on.serving) (known p w on).past
is-large b p w on view viewed frozen many alone =
    let t = b.rounds.views (key_of on.serving.call) view (known p w on) (known-scene b.scenes p w on) alone viewed in
    record { frozen = t.frozen ∙ frozen; many = t.crowded ∙ too-many (live_of (node_of view.image.0)) many }

pub is-lacking : UndisturbedLaws → (p : Parts) (w : ℕ) (on : MustGoOn p w) (view : LeafView) → IsView (key_of on.serving.call) view (known p w on).past → (status view.status).frozen ≡ false → LacksRoomFor on.serving.call view.status → IsUndisturbed 0 (known p w on).past → IsLacking (errand_of on.serving) (known p w on).past
is-lacking b p w on view viewed thawed lacks alone =
    let t = b.rounds.views (key_of on.serving.call) view (known p w on) (known-scene b.scenes p w on) alone viewed in
    record { thawed = t.frozen ∙ thawed; lacks = lacks-stage on.serving.call view.status (known p w on) (b.rounds.stages (key_of on.serving.call) view (known p w on) (known-scene b.scenes p w on) alone viewed) lacks }

-- only a call that makes a change lacks room
pub lacks-write : (called : Call) (st : ℕ) → LacksRoomFor called st → is_read called ≡ false
lacks-write (call.Insert key payload) st l = refl
lacks-write (call.Update key payload) st l = refl
lacks-write (call.Upsert key payload) st l = refl
lacks-write (call.Delete key) st l = refl
lacks-write (call.Get key) st l = absurd l
lacks-write (call.Page key) st l = absurd l

-- how a task has ended tells of which kind it is
pub path-kind : (k : Kind) (path : Path) → IsEndOf k (outcome.Path path) → k ≡ kinds.Seek
path-kind kinds.Seek path e = refl
path-kind k path e = absurd e

pub key-kind : (k : Kind) (view : KeyView) → IsEndOf k (outcome.Key view) → k ≡ kinds.Find
key-kind kinds.Find view e = refl
key-kind k view e = absurd e

pub view-kind : (k : Kind) (view : LeafView) → IsEndOf k (outcome.View view) → k ≡ kinds.ReadWhole
view-kind kinds.ReadWhole view e = refl
view-kind k view e = absurd e

-- a task that wants something is none of a call that reads
pub full-writes : (p : Parts) (w : ℕ) (spent : Spent) (e : HasEnded p w (outcome.Full spent)) → is_read e.on.serving.call ≡ false
full-writes p w spent e = swaps-write e.on.serving.call (kind_of e.on.serving.task) (e.meant.look e.quiet)
    (full-no-look (kind_of e.on.serving.task) spent (e.tasked.laws.ends_of (outcome.Full spent) (known p w e.on) (e.tasked.laws.sound.ends (known p w e.on) (outcome.Full spent) e.facts e.end).0))

-- once a call has had its effect its leaf is read whole, and merged then
pub after-read : RoundLaws → (p : Parts) (w : ℕ) (on : MustGoOn p w) → is_some on.serving.effect ≡ true → on.serving.rest ≡ rest.Leaf → HasToSpare p w on.serving (known p w on).past (λ r q. coming r q (errand_of on.serving) kinds.Seek)
    → HasToSpare p w on.serving (known p w on).past (λ r q. most_of_leaf r + coming r q (errand_of on.serving) kinds.ReadWhole)
after-read b p w on effected first spares r counted = b.less r p.access w (errand_of on.serving) (used_in r p w) (bound_in r p w) (known p w on).past (λ q. coming r q (errand_of on.serving) kinds.Seek) (λ q. most_of_leaf r + coming r q (errand_of on.serving) kinds.ReadWhole)
    (λ q. (b.ways r).read q (errand_of on.serving) (λ done. first) (inl effected)) (spares r counted)

-- or the inner node under the root is merged, or the root lowered
pub after-pass : RoundLaws → (p : Parts) (w : ℕ) (on : MustGoOn p w) → is_some on.serving.effect ≡ true → on.serving.rest ≡ rest.Inner → HasToSpare p w on.serving (known p w on).past (λ r q. coming r q (errand_of on.serving) kinds.Seek)
    → HasToSpare p w on.serving (known p w on).past (λ r q. most_of_joining r + coming r q (errand_of on.serving) kinds.MergeNodes)
after-pass b p w on effected left spares r counted = b.less r p.access w (errand_of on.serving) (used_in r p w) (bound_in r p w) (known p w on).past (λ q. coming r q (errand_of on.serving) kinds.Seek) (λ q. most_of_joining r + coming r q (errand_of on.serving) kinds.MergeNodes)
    (λ q. (b.ways r).inner q (errand_of on.serving) effected left) (spares r counted)

pub after-way : RoundLaws → (p : Parts) (w : ℕ) (on : MustGoOn p w) → is_some on.serving.effect ≡ true → HasToSpare p w on.serving (known p w on).past (λ r q. coming r q (errand_of on.serving) kinds.Seek)
    → HasToSpare p w on.serving (known p w on).past (λ r q. most_of_lowering r + coming r q (errand_of on.serving) kinds.LowerRoot)
after-way b p w on effected spares r counted = b.less r p.access w (errand_of on.serving) (used_in r p w) (bound_in r p w) (known p w on).past (λ q. coming r q (errand_of on.serving) kinds.Seek) (λ q. most_of_lowering r + coming r q (errand_of on.serving) kinds.LowerRoot)
    (λ q. (b.ways r).root q (errand_of on.serving) effected) (spares r counted)

merge-comes : (r : Resource) (q : Prices) (e : Errand) → e.effected ≡ true → most_of_merge r + coming r q e kinds.Merge ≤ coming r q e kinds.ReadWhole
merge-comes r q e effected = rw effected (omega arith)

pub after-merge : RoundLaws → (p : Parts) (w : ℕ) (on : MustGoOn p w) → is_some on.serving.effect ≡ true → HasToSpare p w on.serving (known p w on).past (λ r q. coming r q (errand_of on.serving) kinds.ReadWhole)
    → HasToSpare p w on.serving (known p w on).past (λ r q. most_of_merge r + coming r q (errand_of on.serving) kinds.Merge)
after-merge b p w on effected spares r counted = b.less r p.access w (errand_of on.serving) (used_in r p w) (bound_in r p w) (known p w on).past (λ q. coming r q (errand_of on.serving) kinds.ReadWhole) (λ q. most_of_merge r + coming r q (errand_of on.serving) kinds.Merge)
    (λ q. merge-comes r q (errand_of on.serving) effected) (spares r counted)

-- neither a get nor a page
pub no-read : (called : Call) → ((key : List ℕ) → called ≢ call.Get key) → ((key : List ℕ) → called ≢ call.Page key) → is_read called ≡ false
no-read (call.Insert key payload) get page = refl
no-read (call.Update key payload) get page = refl
no-read (call.Upsert key payload) get page = refl
no-read (call.Delete key) get page = refl
no-read (call.Get key) get page = absurd (get key refl)
no-read (call.Page key) get page = absurd (page key refl)

-- any call but a page looks its key up
pub finds : (called : Call) → is_page called ≡ false → IsLookOf called kinds.Find
finds (call.Insert key payload) page = tt
finds (call.Update key payload) page = tt
finds (call.Upsert key payload) page = tt
finds (call.Delete key) page = tt
finds (call.Get key) page = inr refl
finds (call.Page key) page = absurd (cc page)

-- and a page reads its leaf whole, and changes nothing
pub pages-read : (called : Call) → is_page called ≡ true → IsLookOf called kinds.ReadWhole × (is_read called ≡ true)
pages-read (call.Insert key payload) page = absurd (cc page)
pages-read (call.Update key payload) page = absurd (cc page)
pages-read (call.Upsert key payload) page = absurd (cc page)
pages-read (call.Delete key) page = absurd (cc page)
pages-read (call.Get key) page = absurd (cc page)
pages-read (call.Page key) page = (inr refl, refl)

-- a merge of two nodes goes further, and not to the leaf of its key again
pub joined-further : (k : Kind) → is_joining k ≡ true → goes_further k ≡ true
joined-further kinds.Merge e = refl
joined-further kinds.MergeNodes e = refl
joined-further k e = absurd (cc e)

pub joined-rest : (k : Kind) → is_joining k ≡ true → rest_after k ≢ rest.Leaf
joined-rest kinds.Merge e leaf = cc leaf
joined-rest kinds.MergeNodes e leaf = cc leaf
joined-rest k e leaf = absurd (cc e)

pub joined-later : (p : Parts) (w : ℕ) (on : MustGoOn p w) (at : ℕ) → is_joining (kind_of on.serving.task) ≡ true → HasMergedIn p w at on → StandsToLook p w on at (rest_after (kind_of on.serving.task))
joined-later p w on at joins merged = by (kind_of on.serving.task) joins
  where
    by : (k : Kind) → is_joining k ≡ true → StandsToLook p w on at (rest_after k)
    by kinds.Merge e = merged
    by kinds.MergeNodes e = merged
    by k e = absurd (cc e)

-- a round of a delete whose leaf is still to be merged
pub first-pays : (r : Resource) (e : Errand) → e.rest ≡ rest.Leaf → {m : SwapMemory} {w used by : ℕ} {p : Past} {k : Kind} → PaysForRound r m w (further e k) used by p → k ≡ kinds.Delete → PaysForRound r m w e used by p
first-pays r e first {m} {w} {used} {by} {p} pays delete = subst (λ (l : Rest). PaysForRound r m w (record e { rest = l }) used by p) (sym first) (subst (λ k. PaysForRound r m w (further e k) used by p) delete pays)
