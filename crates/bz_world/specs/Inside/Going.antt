-- A call whose task has ended: nothing goes on for it, until it is answered or gets another task.
use Rattle.std.specs.Prelude.{◌≡◌, ◌≢◌, ◌+◌, ◌<◌, ◌≤◌, ◌⊎◌, ℕ, suc, ◌++◌, ◌∷◌, [], ◌*◌, Bool, true, false, List, length, get_or, Option, Some, None, option_map}
use Rattle.bz_call.specs.Map.{key_of}
use Rattle.bz_call.specs.Pages.{is_page}
use Rattle.bz_call.specs.declared.calls.Call.{Call}
use Rattle.bz_call.specs.declared.calls.Call.TheVariants as call
use Rattle.bz_call.specs.declared.replies.Reply.{Reply}
use Rattle.bz_call.specs.declared.replies.Reply.TheVariants.{Full, Page}
use Rattle.bz_call.specs.declared.replies.Spent.{Spent}
use Rattle.bz_call.specs.declared.replies.Spent.TheVariants.{Nodes, Swaps}
use Rattle.bz_any_task.specs.FromBelow.Facts.{IsThawedAbove}
use Rattle.bz_any_task.specs.FromConsol.Facts.{LeadsTo}
use Rattle.bz_solo.specs.FromCosts.Most.{most_of_leaf, most_of_merge}
use Rattle.bz_solo.specs.FromCosts.Solo.{one_mark}
use Rattle.bz_solo.specs.FromCosts.Resources.{Resource}
use Rattle.bz_solo.specs.FromCosts.Weights.{start_takes}
use Rattle.bz_layout.specs.declared.config.Config.{Config}
use Rattle.bz_solo.specs.Errands.{Errand, is_read, is_freeze, rest_after, IsLookOf}
use Rattle.bz_solo.specs.declared.rest.Rest.{Rest}
use Rattle.bz_solo.specs.declared.rest.Rest.TheVariants as rest
use Rattle.bz_solo.specs.Prices.{coming}
use Rattle.bz_solo.specs.Rounds.{stage_now}
use Rattle.bz_solo.specs.Sum.{IsThawed}
use Rattle.bz_layout.specs.declared.thresholds.TheConstants.{SPLIT_ABOVE, SPLIT_SLOTS, MERGE_BELOW}
use Rattle.bz_solo.specs.FromAlone.Undisturbed.{IsUndisturbed}
use Rattle.bz_solo.specs.FromAlone.Counts.{HasOthers}
use Rattle.bz_solo.specs.FromAlone.Reads.{get_reads}
use Rattle.bz_any_task.specs.Duties.{config_of, asks_of, end_of, made_of, ascent_of, change_swaps, needs_of, wants_of, facts_of, means_of, makes_no_change}
use Rattle.bz_any_task.specs.FromAscent.Ascents.{IsOneUp}
use Rattle.bz_any_task.specs.FromAscent.Ascent.{Ascent}
use Rattle.bz_any_task.specs.GoingUp.{GoesUp, HasOneUp, IsInScene, MayBeSplit}
use Rattle.bz_any_task.specs.Kinds as kinds
use Rattle.bz_any_task.specs.Kinds.{Kind, kind_of}
use Rattle.bz_any_task.specs.declared.running.AnyTask.{AnyTask}
use Rattle.bz_slotted.specs.Readers.{live_of}
use Rattle.bz_slotted.specs.ReadingLaws.{node_of}
use Rattle.bz_stage.specs.FromLeaves.Neighbours.{MayBeMerged}
use Rattle.bz_sound.specs.Solitary.{IsSolitary, acts_since}
use Rattle.bz_sound.specs.Memory.Moments.{image_at}
use Rattle.bz_sound.specs.Power.Replies.{IsRightReply}
use Rattle.bz_sound.specs.Power.Spent.{IsSpent}
use Rattle.bz_refinement.specs.Story.{scene}
use Rattle.bz_swap.specs.SwapMemory.{worker_of}
use Rattle.bz_task.specs.Outcomes.{IsPath, IsView, IsKeyView}
use Rattle.bz_task.specs.Scene.{Scene, Waiting}
use Rattle.bz_task.specs.declared.path.Path.{Path}
use Rattle.bz_task.specs.declared.todo.Outcome.{Outcome}
use Rattle.bz_task.specs.declared.todo.Outcome.TheVariants as outcomes
use Rattle.bz_task.specs.declared.todo.Todo.{Todo}
use Rattle.bz_task.specs.declared.view.KeyView.{KeyView}
use Rattle.bz_task.specs.declared.view.LeafView.{LeafView}
use Rattle.bz_word.specs.Statuses.{status}
use Rattle.bz_world.specs.Inside.Acted.{IsBetween}
use Rattle.bz_world.specs.Inside.Alone.{EndsAlone}
use Rattle.bz_world.specs.Inside.Beginning.{supply_of}
use Rattle.bz_world.specs.Inside.Due.{IsDue, IsDueAlone, TakesRightly}
use Rattle.bz_world.specs.Inside.Exact.{CountsExactly, HasCounted, reach_idle}
use Rattle.bz_world.specs.Inside.Kept.{IsAwake}
use Rattle.bz_world.specs.Inside.Meant.{IsMeant}
use Rattle.bz_world.specs.Inside.Merging.{tells_few, IsStanding, IsTellingFew, MergesDuly}
use Rattle.bz_world.specs.Merges.{IsMergedSince, MergesFor}
use Rattle.bz_world.specs.Inside.Paid.{begun_with, bound_in, errand_of, is_merge, is_joining, no_extra, stock_of, used_in, IsCounted, IsFit, IsPaidFor, HasToSpare, HasARound, HasARoundAs}
use Rattle.bz_world.specs.Inside.Room.{LacksRoomFor}
use Rattle.bz_world.specs.Inside.Solitary.{WhereSolitary, IsNotSolitary, IsSolitaryGet, HasLooked}
use Rattle.bz_world.specs.WorldView.{deadline, GoesOn, Spends, HadFew, HasRunOut, EndsFullOfLittle, EndsFullRightly, EndsAsTold, EndsMerged, EndsUnspent, GetsBriefly, KeepsSupply, RunsWhole, TakesAsTold, is_delete}
use Rattle.bz_world.specs.Inside.Serving.{IsTasked, IsWanted, NeedsAtLeast, MayGoOn, tells_of}
use Rattle.bz_world.specs.Roomy.{HadRoom}
use Rattle.bz_world.specs.declared.answers.Applied.{Applied}
use Rattle.bz_world.specs.declared.parts.Parts.{Parts}
use Rattle.bz_world.specs.declared.serving.OpenCall.{OpenCall}

-- the worker's call is served, nothing goes on for it, and each slot that the worker took has been stored into
pub record MustGoOn (p : Parts) (w : ℕ) : Type 0 where
  pub serving : OpenCall
  pub is : get_or p.workers.items w None ≡ Some serving
  pub between : IsBetween p w serving
  pub filled : (k : ℕ) → between.story.took w k ≡ true → between.story.filled w k ≡ true
  pub fit : IsFit serving
  pub solitary : WhereSolitary p.journal.past w serving.call (HasLooked p.access p.journal.past between.story w serving between.opened)
  pub exact : CountsExactly p.config p.journal w between.opened (scene p.config p.journal.past between.story w between.call_open.look.since between.opened).past (reach_idle p.access) (stock_of p) (tells_of serving) serving
  pub merges : MergesDuly p.config p.journal w between.opened (scene p.config p.journal.past between.story w between.call_open.look.since between.opened).past (reach_idle p.access) (stock_of p) serving

-- the call in this place changes nothing
abbrev pub is_read_in : Option OpenCall → Bool
is_read_in None = false
is_read_in (Some x) = is_read x.call

-- the call in this place may go on so
abbrev pub MayGoOnIn : Option OpenCall → Type 0
MayGoOnIn None = ⊥
MayGoOnIn (Some x) = MayGoOn x

-- what is known of the memory since the present look-up of the call began
abbrev pub known : (p : Parts) (w : ℕ) → MustGoOn p w → Scene
known p w m = scene p.config p.journal.past m.between.story w m.between.call_open.look.since m.between.opened

-- of a call whose leaf had room, where no other call is open: it does not come to this
abbrev pub HadNoRoom : (p : Parts) (w : ℕ) → MustGoOn p w → Type 0
HadNoRoom p w m = IsSolitary w p.journal.past → HadRoom p.config p.journal.start p.journal.past m.between.opened → ⊥

-- none looks its key up again, but for a delete that has made its change
abbrev pub HasCountedAll : (p : Parts) (w : ℕ) → MustGoOn p w → Type 0
HasCountedAll p w m = HasCounted m.between.opened (known p w m).past (reach_idle p.access) (stock_of p) (tells_of m.serving) m.serving

abbrev pub LooksUpAgain : (p : Parts) (w : ℕ) → MustGoOn p w → Type 0
LooksUpAgain p w m = IsSolitary w p.journal.past → HadRoom p.config p.journal.start p.journal.past m.between.opened → HasCountedAll p w m

-- nor reads one its leaf whole, but for such a delete, since whose look-up nobody's swap took effect
abbrev pub ReadsAgain : (p : Parts) (w : ℕ) → MustGoOn p w → Type 0
ReadsAgain p w m = IsSolitary w p.journal.past → HadRoom p.config p.journal.start p.journal.past m.between.opened → HasCountedAll p w m × HasOthers 0 0 (known p w m).past

-- what stands of a delete that has had its effect, beside which no other call is open, where its leaf might be merged directly after that
pub record StoodFor (p : Parts) (w : ℕ) (on : MustGoOn p w) (at : ℕ) : Type 0 where
  pub after_begin : on.between.opened.begun ≤ at
  pub by_now : suc at ≤ length p.journal.past
  pub standing : MayBeMerged p.config ((known p w on).past.at (suc at)).image (key_of on.serving.call) → IsStanding p.config p.journal at (known p w on).past (reach_idle p.access) (stock_of p)

-- of a delete beside which no other call was open: its leaf was merged, if it might be directly after its effect, or slots or descriptors were not left
abbrev pub HasMergedIn : (p : Parts) (w at : ℕ) → MustGoOn p w → Type 0
HasMergedIn p w at on =
    IsSolitary w p.journal.past → is_delete on.serving.call ≡ true → MayBeMerged p.config (image_at p.journal.start (suc at) p.journal.past) (key_of on.serving.call) → IsMergedSince p.config p.journal.start p.journal.past at

-- before its key is looked up again: that it leaves little was told, where its leaf is to be merged; and else that is over
abbrev pub StandsToLook : (p : Parts) (w : ℕ) → MustGoOn p w → (at : ℕ) → Rest → Type 0
StandsToLook p w on at rest.Leaf = StoodFor p w on at × (MayBeMerged p.config ((known p w on).past.at (suc at)).image (key_of on.serving.call) → IsTellingFew (reach_idle p.access) on.serving)
StandsToLook p w on at rest.Inner = HasMergedIn p w at on
StandsToLook p w on at rest.Root = HasMergedIn p w at on

abbrev pub StandsForLookingAs : (p : Parts) (w : ℕ) → MustGoOn p w → Rest → Type 0
StandsForLookingAs p w on left = IsSolitary w p.journal.past → (at : ℕ) → on.serving.effect ≡ Some at → is_delete on.serving.call ≡ true → StandsToLook p w on at left

abbrev pub StandsForLooking : (p : Parts) (w : ℕ) → MustGoOn p w → Type 0
StandsForLooking p w on = StandsForLookingAs p w on on.serving.rest

-- and nobody's swap took effect since it looks for its leaf
abbrev pub StandsForReading : (p : Parts) (w : ℕ) → MustGoOn p w → Type 0
StandsForReading p w on = IsSolitary w p.journal.past → (at : ℕ) → on.serving.effect ≡ Some at → is_delete on.serving.call ≡ true → StoodFor p w on at × (MayBeMerged p.config ((known p w on).past.at (suc at)).image (key_of on.serving.call) → HasOthers 0 0 (known p w on).past)

-- and it may look its key up, or have its leaf changed: it is no solitary get, which is never looked up again
pub record MustLookUp (p : Parts) (w : ℕ) : Type 0 where
  pub on : MustGoOn p w
  pub may : MayGoOn on.serving
  pub other : IsNotSolitary p.journal.past w on.serving.call
  pub pays : HasARound p w on.serving (known p w on).past
  pub stands : StandsForLooking p w on
  pub over : kind_of on.serving.task ≡ kinds.Delete → end_of on.serving.task ≢ None
  pub again : LooksUpAgain p w on

-- the same, where it is looked up as the end of its task leaves it: so its leaf is read whole after its own freeze, or copied alone
pub record MustLookUpAs (p : Parts) (w : ℕ) (change : Errand → Kind → Errand) : Type 0 where
  pub on : MustGoOn p w
  pub may : MayGoOn on.serving
  pub other : IsNotSolitary p.journal.past w on.serving.call
  pub pays : HasARoundAs p w (change (errand_of on.serving) (kind_of on.serving.task)) (known p w on).past
  pub stands : StandsForLookingAs p w on (change (errand_of on.serving) (kind_of on.serving.task)).rest
  pub over : kind_of on.serving.task ≡ kinds.Delete → end_of on.serving.task ≢ None
  pub again : LooksUpAgain p w on

-- of one that has had its effect, where another thing is tried next than its leaf
pub record MustPass (p : Parts) (w : ℕ) (change : Errand → Kind → Errand) : Type 0 where
  pub looks : MustLookUpAs p w change
  pub effected : looks.on.serving.effect ≢ None
  pub roomless : HadNoRoom p w looks.on
  pub later : (change (errand_of looks.on.serving) (kind_of looks.on.serving.task)).rest ≢ rest.Leaf

-- the call that is served, how its task has ended, what it asks for, the way to its leaf, its effect, and whether it froze its leaf last
abbrev pub call_in : Option OpenCall → Option Call
call_in slot = option_map (λ (x : OpenCall). x.call) slot

abbrev pub end_in : Option OpenCall → Option Outcome
end_in None = None
end_in (Some x) = end_of x.task

abbrev pub asks_in : Option OpenCall → Option Todo
asks_in None = None
asks_in (Some x) = asks_of x.task

abbrev pub path_in : Option OpenCall → Option Path
path_in None = None
path_in (Some x) = x.path

abbrev pub effect_in : Option OpenCall → Option ℕ
effect_in None = None
effect_in (Some x) = x.effect

-- whether the call asks for a page
abbrev pub page_in : Option OpenCall → Bool
page_in None = false
page_in (Some x) = is_page x.call

abbrev pub froze_in : Option OpenCall → Bool
froze_in None = false
froze_in (Some x) = x.froze

-- whether its leaf is to be copied alone; whether its task freezes or merges a leaf; that it is a delete
abbrev pub unmerged_in : Option OpenCall → Bool
unmerged_in None = false
unmerged_in (Some x) = x.alone

abbrev pub freezes_in : Option OpenCall → Bool
freezes_in None = false
freezes_in (Some x) = is_freeze (kind_of x.task)

abbrev pub merges_in : Option OpenCall → Bool
merges_in None = false
merges_in (Some x) = is_merge (kind_of x.task)

-- whether its task merges two nodes; what is still to be tried once it has had its effect, and what is to be tried after its task
abbrev pub joins_in : Option OpenCall → Bool
joins_in None = false
joins_in (Some x) = is_joining (kind_of x.task)

abbrev pub still_in : Option OpenCall → Option Rest
still_in slot = option_map (λ (x : OpenCall). x.rest) slot

abbrev pub next_in : Option OpenCall → Option Rest
next_in slot = option_map (λ (x : OpenCall). rest_after (kind_of x.task)) slot

abbrev pub DeletesIn : Option OpenCall → Type 0
DeletesIn None = ⊥
DeletesIn (Some x) = kind_of x.task ≡ kinds.Delete

-- whether its task is a delete which tells that little is left in a leaf below another node
abbrev pub few_in : Option OpenCall → Bool
few_in None = false
few_in (Some x) = tells_few x

-- its key may be looked up in its leaf: it is no page
abbrev pub LooksUpIn : Option OpenCall → Type 0
LooksUpIn None = ⊥
LooksUpIn (Some x) = IsLookOf x.call kinds.Find

abbrev pub had_in : Option OpenCall → Option (List ℕ)
had_in None = None
had_in (Some x) = x.had

-- how many slots its task takes from its begin to its end
abbrev pub wants_in : Option OpenCall → ℕ
wants_in None = 0
wants_in (Some x) = wants_of x.task

-- and how many it still takes
abbrev pub needs_in : Option OpenCall → ℕ
needs_in None = 0
needs_in (Some x) = needs_of x.task

-- its task knows what it should, of a memory of these sizes
pub record CanGoUp (x : OpenCall) (c : Config) : Type 0 where
  pub config : config_of x.task ≡ c
  pub known : IsInScene x.task

abbrev pub CanGoUpIn : Option OpenCall → Config → Type 0
CanGoUpIn None c = ⊥
CanGoUpIn (Some x) c = CanGoUp x c

-- a split may come before its own
-- a node stands above the one that it splits, and may be split
pub record MayGoUp (t : AnyTask) : Type 0 where
  pub from : Ascent
  pub up : Ascent
  pub begun : ascent_of t ≡ Some from
  pub one : IsOneUp from up
  pub may : MayBeSplit up

abbrev pub MayGoUpIn : Option OpenCall → Type 0
MayGoUpIn None = ⊥
MayGoUpIn (Some x) = MayGoUp x.task

-- it stands there wherever the node is no root
abbrev pub StandsBelow : AnyTask → Type 0
StandsBelow t = (a : Ascent) → ascent_of t ≡ Some a → 0 < a.place → HasOneUp a

abbrev pub StandsBelowIn : Option OpenCall → Type 0
StandsBelowIn None = Unit {0}
StandsBelowIn (Some x) = StandsBelow x.task

abbrev pub GoesUpIn : Option OpenCall → AnyTask → Type 0
GoesUpIn None next = ⊥
GoesUpIn (Some x) next = GoesUp x.task next

-- its task has ended for want of slots only where fewer are left, and where it runs alone from the begin of its call on, there were few then
abbrev pub IsFullRightly : Parts → ℕ → Type 0
IsFullRightly p w = end_in (get_or p.workers.items w None) ≡ Some (outcomes.Full Nodes) → (length p.slots.free < wants_in (get_or p.workers.items w None)) × (RunsWhole p.config w p.journal.past → HadFew p.config (begun_with p) Nodes)

-- nor has it ended for want of a descriptor
abbrev pub HasNotLackedSwaps : Parts → ℕ → Type 0
HasNotLackedSwaps p w = end_in (get_or p.workers.items w None) ≢ Some (outcomes.Full Swaps)

-- and for want of room only if it makes no change
abbrev pub makes_none_in : Option OpenCall → Bool
makes_none_in None = true
makes_none_in (Some x) = makes_no_change x.task

abbrev pub HasNotLackedRoom : Parts → ℕ → Type 0
HasNotLackedRoom p w = end_in (get_or p.workers.items w None) ≡ Some outcomes.NeedsRoom → makes_none_in (get_or p.workers.items w None) ≡ true

-- the call gets another task, and with it a way
abbrev pub with_task : Option OpenCall → AnyTask → Option Path → Option OpenCall
with_task slot task path = option_map (λ (x : OpenCall). record x { task = task; path = path }) slot

-- or one that makes its change, where its key had this payload, or none
abbrev pub with_change : Option OpenCall → AnyTask → Option (List ℕ) → Option OpenCall
with_change slot task had = option_map (λ (x : OpenCall). record x { task = task; had = had }) slot

-- or it is said whether its leaf is copied alone
abbrev pub with_unmerged : Option OpenCall → Bool → Option OpenCall
with_unmerged slot alone = option_map (λ (x : OpenCall). record x { alone = alone }) slot

-- and whether its own freeze of its leaf was the last to end
abbrev pub with_froze : Option OpenCall → Bool → Option OpenCall
with_froze slot froze = option_map (λ (x : OpenCall). record x { froze = froze }) slot

-- and what is still to be tried once it has had its effect
abbrev pub with_rest : Option OpenCall → Rest → Option OpenCall
with_rest slot left = option_map (λ (x : OpenCall). record x { rest = left }) slot

-- what the start of this takes, if it is asked for
abbrev pub taken_for : Option Todo → Resource → ℕ
taken_for None r = 0
taken_for (Some todo) r = start_takes r todo

-- a task that it may get, which asks for this: after this path was found, if one was, and for the change of the call, where
-- its key had this payload, or none
pub record MustTakeOn (p : Parts) (w : ℕ) (task : AnyTask) (way : Option Path) (had : Option (List ℕ)) (asked : Option Todo) : Type 0 where
  pub on : MustGoOn p w
  pub may : MayGoOn on.serving
  pub tasked : IsTasked p.config on.serving.call way had task
  pub asks : asks_of task ≡ asked
  pub facts : facts_of task Waiting (known p w on)
  pub wanted : IsWanted p.config p.journal on.between.opened task
  pub solitary : WhereSolitary p.journal.past w on.serving.call (IsSolitaryGet p.access p.journal.past on.between.story w (record on.serving { task = task; path = way; had = had }) on.between.opened)
  pub meant : IsMeant (record on.serving { task = task; path = way; had = had }) (known p w on).past
  pub paid : IsPaidFor p w (record on.serving { task = task; path = way; had = had }) 0 (taken_for asked) (known p w on).past
  pub due : TakesRightly p.config p.access.taken p.journal (stock_of p) w (record on.serving { task = task; path = way; had = had })
  pub exact : CountsExactly p.config p.journal w on.between.opened (known p w on).past (reach_idle p.access) (stock_of p) (tells_of (record on.serving { task = task; path = way; had = had })) (record on.serving { task = task; path = way; had = had })
  pub merges : MergesDuly p.config p.journal w on.between.opened (known p w on).past (reach_idle p.access) (stock_of p) (record on.serving { task = task; path = way; had = had })

-- the way to its leaf was found, which is to be read whole
pub record MustRead (p : Parts) (w : ℕ) (path : Path) : Type 0 where
  pub on : MustGoOn p w
  pub may : MayGoOn on.serving
  pub leads : IsPath (key_of on.serving.call) path (known p w on).past
  pub other : IsNotSolitary p.journal.past w on.serving.call
  pub spares : HasToSpare p w on.serving (known p w on).past (λ r q. most_of_leaf r + coming r q (errand_of on.serving) kinds.ReadWhole)
  pub look : on.serving.effect ≡ None → IsLookOf on.serving.call kinds.ReadWhole
  -- for a page, or to make it anew
  pub due : on.serving.effect ≡ None → IsSolitary w p.journal.past → (is_page on.serving.call ≡ true) ⊎ IsDue p.config p.journal on.serving.call
  pub stands : StandsForReading p w on
  pub again : ReadsAgain p w on
  pub first : on.serving.rest ≡ rest.Leaf

-- its task knows what it should, and has ended so
abbrev pub EndsSo : (p : Parts) (w : ℕ) → MustGoOn p w → Outcome → Type 0
EndsSo p w on outcome = facts_of on.serving.task Waiting (known p w on) × (end_of on.serving.task ≡ Some outcome)

-- or its key is to be looked up there
pub record MustFind (p : Parts) (w : ℕ) (path : Path) : Type 0 where
  pub on : MustGoOn p w
  pub quiet : on.serving.effect ≡ None
  pub leads : IsPath (key_of on.serving.call) path (known p w on).past
  pub ends : EndsSo p w on (outcomes.Path path)
  pub kind : kind_of on.serving.task ≡ kinds.Seek
  pub spares : HasToSpare p w on.serving (known p w on).past (λ r q. coming r q (errand_of on.serving) kinds.Seek)

-- its task has ended so, and it had no effect
pub record HasEnded (p : Parts) (w : ℕ) (outcome : Outcome) : Type 0 where
  pub on : MustGoOn p w
  pub tasked : IsTasked p.config on.serving.call on.serving.path on.serving.had on.serving.task
  pub facts : facts_of on.serving.task Waiting (known p w on)
  pub end : end_of on.serving.task ≡ Some outcome
  pub quiet : on.serving.effect ≡ None
  pub path : (path : Path) → outcome ≡ outcomes.Path path → IsPath (key_of on.serving.call) path (known p w on).past
  pub view : (view : LeafView) → outcome ≡ outcomes.View view → IsView (key_of on.serving.call) view (known p w on).past
  pub found : (view : KeyView) → outcome ≡ outcomes.Key view → IsKeyView (key_of on.serving.call) view (known p w on).past
  pub leads_found : (view : KeyView) → outcome ≡ outcomes.Key view → (path : Path) → on.serving.path ≡ Some path → IsPath (key_of on.serving.call) path (known p w on).past
  pub leads : (view : LeafView) → outcome ≡ outcomes.View view → (path : Path) → on.serving.path ≡ Some path → IsPath (key_of on.serving.call) path (known p w on).past
  pub full : outcome ≡ outcomes.Full Nodes → (length p.slots.free < wants_of on.serving.task) × (RunsWhole p.config w p.journal.past → HadFew p.config (begun_with p) Nodes)
  pub swaps : outcome ≢ outcomes.Full Swaps
  pub silent : outcome ≡ outcomes.NeedsRoom → makes_no_change on.serving.task ≡ true
  pub some : (view : LeafView) → outcome ≡ outcomes.View view → on.serving.path ≢ None
  pub some_found : (view : KeyView) → outcome ≡ outcomes.Key view → on.serving.path ≢ None
  pub alone : EndsAlone outcome (known p w on).past
  pub meant : IsMeant on.serving (known p w on).past
  pub paid : IsPaidFor p w on.serving 0 no_extra (known p w on).past

-- its leaf was read, by the path that was found, and it had no effect
pub record MustAnswer (p : Parts) (w : ℕ) (view : LeafView) : Type 0 where
  pub on : MustGoOn p w
  pub viewed : IsView (key_of on.serving.call) view (known p w on).past
  pub leads : (path : Path) → on.serving.path ≡ Some path → IsPath (key_of on.serving.call) path (known p w on).past
  pub quiet : on.serving.effect ≡ None
  pub other : IsNotSolitary p.journal.past w on.serving.call
  pub some : on.serving.path ≢ None
  pub spares : HasToSpare p w on.serving (known p w on).past (λ r q. coming r q (errand_of on.serving) kinds.ReadWhole)
  pub look : IsLookOf on.serving.call kinds.ReadWhole
  pub kind : kind_of on.serving.task ≡ kinds.ReadWhole

-- or its key was looked up there
pub record MustAnswerKey (p : Parts) (w : ℕ) (view : KeyView) : Type 0 where
  pub on : MustGoOn p w
  pub viewed : IsKeyView (key_of on.serving.call) view (known p w on).past
  pub leads : (path : Path) → on.serving.path ≡ Some path → IsPath (key_of on.serving.call) path (known p w on).past
  pub quiet : on.serving.effect ≡ None
  pub ends : EndsSo p w on (outcomes.Key view)
  pub kind : kind_of on.serving.task ≡ kinds.Find
  pub some : on.serving.path ≢ None
  pub spares : HasToSpare p w on.serving (known p w on).past (λ r q. coming r q (errand_of on.serving) kinds.Find)
  pub look : IsLookOf on.serving.call kinds.Find

-- the way to its leaf was found and is known, and it had no effect
pub record MustReadWhole (p : Parts) (w : ℕ) : Type 0 where
  pub on : MustGoOn p w
  pub leads : (path : Path) → on.serving.path ≡ Some path → IsPath (key_of on.serving.call) path (known p w on).past
  pub quiet : on.serving.effect ≡ None
  pub other : IsNotSolitary p.journal.past w on.serving.call
  pub some : on.serving.path ≢ None

-- a change of a record
abbrev pub IsChangeKind : Kind → Type 0
IsChangeKind kind = (kind ≡ kinds.Insert) ⊎ ((kind ≡ kinds.Update) ⊎ (kind ≡ kinds.Delete))

-- that leaf is to be read whole, since it has no room for the change
pub record MustReadCrowded (p : Parts) (w : ℕ) : Type 0 where
  pub reads : MustReadWhole p w
  pub write : is_read reads.on.serving.call ≡ false
  pub spares : HasToSpare p w reads.on.serving (known p w reads.on).past (λ r q. most_of_leaf r + coming r q (errand_of reads.on.serving) kinds.ReadWhole)
  pub due : IsDueAlone p.config p.journal w reads.on.serving.call
  pub again : HadNoRoom p w reads.on

-- a task that makes its change, which is yet to begin
pub record MustChange (p : Parts) (w : ℕ) (had : Option (List ℕ)) (task : AnyTask) : Type 0 where
  pub reads : MustReadWhole p w
  pub tasked : IsTasked p.config reads.on.serving.call reads.on.serving.path had task
  pub asks : asks_of task ≡ None
  pub facts : facts_of task Waiting (known p w reads.on)
  pub wants : wants_of task ≡ 0
  pub changes : 0 < change_swaps task
  pub kind : IsChangeKind (kind_of task)
  pub write : is_read reads.on.serving.call ≡ false
  pub spares : HasToSpare p w reads.on.serving (known p w reads.on).past (λ r q. coming r q (errand_of reads.on.serving) kinds.Find)
  pub made : made_of task ≡ 0
  pub silent : makes_no_change task ≡ false
  -- it ends for want of room only where there is none, in a clean round
  pub lacks : (z : Scene) → means_of task outcomes.NeedsRoom z → IsUndisturbed 0 (known p w reads.on).past → 0 < stage_now (errand_of reads.on.serving) (known p w reads.on).past
  pub due : IsDueAlone p.config p.journal w reads.on.serving.call
  pub exact : CountsExactly p.config p.journal w reads.on.between.opened (known p w reads.on).past (reach_idle p.access) (stock_of p) (tells_of (record reads.on.serving { task = task; path = reads.on.serving.path; had = had })) (record reads.on.serving { task = task; path = reads.on.serving.path; had = had })
  pub merges : MergesDuly p.config p.journal w reads.on.between.opened (known p w reads.on).past (reach_idle p.access) (stock_of p) (record reads.on.serving { task = task; path = reads.on.serving.path; had = had })

-- that leaf is frozen, or has no room for what the call puts there
pub record MustRestructure (p : Parts) (w : ℕ) (view : LeafView) : Type 0 where
  pub answer : MustAnswer p w view
  pub lacks : LacksRoomFor answer.on.serving.call view.status
  pub spares : HasToSpare p w answer.on.serving (known p w answer.on).past (λ r q. q.viewed)

-- its leaf, which was found by this path, is to be made anew
pub record MustMakeAnew (p : Parts) (w : ℕ) (path : Path) (view : LeafView) : Type 0 where
  pub answer : MustAnswer p w view
  pub way : IsPath (key_of answer.on.serving.call) path (known p w answer.on).past
  pub lacks : LacksRoomFor answer.on.serving.call view.status
  pub spares : HasToSpare p w answer.on.serving (known p w answer.on).past (λ r q. q.viewed)

-- and is frozen, so that it may be copied
pub record MustCopy (p : Parts) (w : ℕ) (path : Path) (view : LeafView) : Type 0 where
  pub anew : MustMakeAnew p w path view
  pub frozen : (status view.status).frozen ≡ true
  pub few : live_of (node_of view.image.0) ≤ SPLIT_ABOVE
  pub leads : LeadsTo path view.slot

-- or has more live words than it may keep, and is the root, so that it may be split
pub record MustSplit (p : Parts) (w : ℕ) (path : Path) (view : LeafView) : Type 0 where
  pub anew : MustMakeAnew p w path view
  pub frozen : (status view.status).frozen ≡ true
  pub many : SPLIT_ABOVE < live_of (node_of view.image.0)
  pub root : path.depth ≡ 1
  pub leads : LeadsTo path view.slot

-- or stands below a parent, to which the path leads by a guard that was no frozen node's, so that it may be split there
pub record MustSplitBelow (p : Parts) (w : ℕ) (path : Path) (view : LeafView) : Type 0 where
  pub anew : MustMakeAnew p w path view
  pub frozen : (status view.status).frozen ≡ true
  pub many : SPLIT_ABOVE < live_of (node_of view.image.0)
  pub deep : 2 ≤ path.depth
  pub leads : LeadsTo path view.slot
  pub thawed : IsThawedAbove path

-- or it was read, frozen or not, and has too few live words to stand alone below a parent, to which the path leads by guards that were
-- no frozen nodes': it may be merged with a neighbour, where that is wanted
pub record MustMerge (p : Parts) (w : ℕ) (path : Path) (view : LeafView) : Type 0 where
  pub on : MustGoOn p w
  pub may : MayGoOn on.serving
  pub viewed : IsView (key_of on.serving.call) view (known p w on).past
  pub way : IsPath (key_of on.serving.call) path (known p w on).past
  pub deep : 2 ≤ path.depth
  pub small : live_of (node_of view.image.0) < MERGE_BELOW
  pub leads : LeadsTo path view.slot
  pub thawed : IsThawedAbove path
  pub other : IsNotSolitary p.journal.past w on.serving.call
  pub frozen : on.serving.effect ≡ None → (status view.status).frozen ≡ true
  pub write : on.serving.effect ≡ None → is_read on.serving.call ≡ false
  pub thawed_call : IsThawed (errand_of on.serving)
  pub due : on.serving.effect ≡ None → IsDueAlone p.config p.journal w on.serving.call
  pub stands : StandsForReading p w on
  pub first : on.serving.rest ≡ rest.Leaf
  pub again : HadNoRoom p w on
  pub spares : HasToSpare p w on.serving (known p w on).past (λ r q. most_of_merge r + coming r q (errand_of on.serving) kinds.Merge)

-- its split has ended because the node above lacked the room, and this is the split of that one, which is yet to begin
pub record MustGoUp (p : Parts) (w : ℕ) (task : AnyTask) : Type 0 where
  pub ends : HasEnded p w outcomes.NeedsRoom
  pub up : GoesUp ends.on.serving.task task

-- no more is used than may be, and a mark is left for the end of the call
abbrev pub HasRoomForEnd : Parts → ℕ → Type 0
HasRoomForEnd p w = (r : Resource) → IsCounted r p.config w p.journal.past → used_in r p w + one_mark r ≤ bound_in r p w

-- what is spent has run out, which of a call whose worker steps alone from its begin on is so only where there was little then
pub record RunsOut (p : Parts) (w : ℕ) (spent : Spent) : Type 0 where
  pub out : HasRunOut p.config p.journal w (supply_of p) spent
  pub little : RunsWhole p.config w p.journal.past → HadFew p.config (begun_with p) spent

-- the call puts this payload at its key, where the key is absent, or present
abbrev pub MayInsert : Call → List ℕ → List ℕ → Type 0
MayInsert called key payload = (called ≡ call.Insert key payload) ⊎ (called ≡ call.Upsert key payload)

abbrev pub MayUpdate : Call → List ℕ → List ℕ → Type 0
MayUpdate called key payload = (called ≡ call.Update key payload) ⊎ (called ≡ call.Upsert key payload)

pub record MustInsert (p : Parts) (w : ℕ) (view : KeyView) (key payload : List ℕ) : Type 0 where
  pub answer : MustAnswerKey p w view
  pub may : MayInsert answer.on.serving.call key payload

pub record MustUpdate (p : Parts) (w : ℕ) (view : KeyView) (key payload : List ℕ) : Type 0 where
  pub answer : MustAnswerKey p w view
  pub may : MayUpdate answer.on.serving.call key payload

-- or takes it out
pub record MustDelete (p : Parts) (w : ℕ) (view : KeyView) (key : List ℕ) : Type 0 where
  pub answer : MustAnswerKey p w view
  pub may : answer.on.serving.call ≡ call.Delete key

-- it had its effect at this moment
pub record HadEffect (p : Parts) (w at : ℕ) : Type 0 where
  pub on : MustGoOn p w
  pub effect : on.serving.effect ≡ Some at
  pub room : HasRoomForEnd p w

pub record HasToEnd (p : Parts) (w at : ℕ) : Type 0 where
  pub had : HadEffect p w at
  pub merged : HasMergedIn p w at had.on

-- and its task has ended so
pub record HasEndedAfter (p : Parts) (w at : ℕ) (outcome : Outcome) : Type 0 where
  pub had : HadEffect p w at
  pub ends : end_of had.on.serving.task ≡ Some outcome
  pub facts : facts_of had.on.serving.task Waiting (known p w had.on)
  pub tasked : IsTasked p.config had.on.serving.call had.on.serving.path had.on.serving.had had.on.serving.task
  pub paid : IsPaidFor p w had.on.serving 0 no_extra (known p w had.on).past
  pub path : (path : Path) → outcome ≡ outcomes.Path path → IsPath (key_of had.on.serving.call) path (known p w had.on).past
  pub view : (view : LeafView) → outcome ≡ outcomes.View view → IsView (key_of had.on.serving.call) view (known p w had.on).past
  pub leads : (view : LeafView) → outcome ≡ outcomes.View view → (path : Path) → had.on.serving.path ≡ Some path → IsPath (key_of had.on.serving.call) path (known p w had.on).past
  pub some : (view : LeafView) → outcome ≡ outcomes.View view → had.on.serving.path ≢ None
  pub alone : EndsAlone outcome (known p w had.on).past
  pub swaps : outcome ≢ outcomes.Full Swaps
  pub meant : IsMeant had.on.serving (known p w had.on).past

-- or the leaf of a delete was read since, by the path that was found
pub record HasReadAfter (p : Parts) (w at : ℕ) (view : LeafView) : Type 0 where
  pub had : HadEffect p w at
  pub kind : kind_of had.on.serving.task ≡ kinds.ReadWhole
  pub first : had.on.serving.rest ≡ rest.Leaf
  pub deletes : is_delete had.on.serving.call ≡ true
  pub viewed : IsView (key_of had.on.serving.call) view (known p w had.on).past
  pub leads : (path : Path) → had.on.serving.path ≡ Some path → IsPath (key_of had.on.serving.call) path (known p w had.on).past
  pub spares : HasToSpare p w had.on.serving (known p w had.on).past (λ r q. coming r q (errand_of had.on.serving) kinds.ReadWhole)
  pub some : had.on.serving.path ≢ None
  pub ends : end_of had.on.serving.task ≡ Some (outcomes.View view)

-- the way to its leaf was found once more
pub record HasFoundAfter (p : Parts) (w at : ℕ) (path : Path) : Type 0 where
  pub had : HadEffect p w at
  pub deletes : is_delete had.on.serving.call ≡ true
  pub kind : kind_of had.on.serving.task ≡ kinds.Seek
  pub ends : end_of had.on.serving.task ≡ Some (outcomes.Path path)
  pub leads : IsPath (key_of had.on.serving.call) path (known p w had.on).past
  pub spares : HasToSpare p w had.on.serving (known p w had.on).past (λ r q. coming r q (errand_of had.on.serving) kinds.Seek)

-- or a task that looks for nothing has ended so
pub record HasTriedAfter (p : Parts) (w at : ℕ) (outcome : Outcome) : Type 0 where
  pub ends : HasEndedAfter p w at outcome
  pub deletes : is_delete ends.had.on.serving.call ≡ true
  pub no_path : (path : Path) → outcome ≢ outcomes.Path path
  pub no_view : (view : LeafView) → outcome ≢ outcomes.View view

-- no descriptor is left
pub record LacksSwap (p : Parts) (w : ℕ) : Type 0 where
  pub on : MustGoOn p w
  pub spent : p.access.taken ≡ p.config.swaps
  pub little : RunsWhole p.config w p.journal.past → HadFew p.config (begun_with p) Swaps
  pub room : HasRoomForEnd p w
  pub write : on.serving.effect ≡ None → is_read on.serving.call ≡ false
  pub told : on.serving.effect ≡ None → IsSolitary w p.journal.past → HadRoom p.config p.journal.start p.journal.past on.between.opened → TakesAsTold (begun_with p) (supply_of p) (Full Swaps)
  pub merged : (at : ℕ) → on.serving.effect ≡ Some at → HasMergedIn p w at on

-- fewer slots are left than its task takes, because the leaf of its key had to be made anew; and the call had no effect
pub record IsOutOfSlots (p : Parts) (w : ℕ) : Type 0 where
  pub on : MustGoOn p w
  pub quiet : on.serving.effect ≡ None
  pub fewer : length p.slots.free < wants_of on.serving.task
  pub needed : NeedsAtLeast p.config p.journal.start p.journal.past on.between.opened (wants_of on.serving.task)
  pub little : RunsWhole p.config w p.journal.past → HadFew p.config (begun_with p) Nodes

-- something is spent and has run out, and the call had no effect
pub record IsShort (p : Parts) (w : ℕ) (spent : Spent) : Type 0 where
  pub on : MustGoOn p w
  pub quiet : on.serving.effect ≡ None
  pub write : is_read on.serving.call ≡ false
  pub room : HasRoomForEnd p w
  pub cause : IsSpent p.config p.journal.start p.journal.past w on.between.opened spent
  pub out : RunsOut p w spent
  pub told : IsSolitary w p.journal.past → HadRoom p.config p.journal.start p.journal.past on.between.opened → TakesAsTold (begun_with p) (supply_of p) (Full spent)

-- this is a right reply to it, at this moment; a Full only where what it names has run out; and where it is a solitary get, after few acts
pub record MustEnd (p : Parts) (w : ℕ) (reply : Reply) (at : ℕ) : Type 0 where
  pub on : MustGoOn p w
  pub right : IsRightReply p.config p.journal.start p.journal.pages p.journal.past (record { worker = w; opened = on.between.opened; reply = reply; at = at })
  pub full : (spent : Spent) → reply ≡ Full spent → RunsOut p w spent
  pub told : IsSolitary w p.journal.past → HadRoom p.config p.journal.start p.journal.past on.between.opened → TakesAsTold (begun_with p) (supply_of p) reply
  pub room : HasRoomForEnd p w
  pub brief : WhereSolitary p.journal.past w on.serving.call (λ key. acts_since w p.journal.past ≤ 2 * get_reads p.config (image_at p.journal.start at p.journal.past) key)
  pub merged : MergesFor p.config p.journal.start p.journal.past w reply

-- the page that was put together is the right one, up to this key
pub record MustEndPage (p : Parts) (w : ℕ) (next : Option (List ℕ)) (at : ℕ) : Type 0 where
  pub on : MustGoOn p w
  pub asks : is_page on.serving.call ≡ true
  pub right : IsRightReply p.config p.journal.start (p.journal.pages ++ p.page ∷ []) p.journal.past (record { worker = w; opened = on.between.opened; reply = Page (length p.journal.pages) next; at = at })
  pub room : HasRoomForEnd p w

-- the call went on without an act: at most its End was added, a Full only where what it names has run out, and that of a solitary get
-- only after few acts; at most one descriptor was taken, and the slots of at most one task; and what the other workers do is the same
pub record WentOn (old : Parts) (w : ℕ) (answer : Applied) (new : Parts) : Type 0 where
  pub kept : IsAwake new
  pub ends : GoesOn old.journal w answer new.journal
  pub spends : Spends SPLIT_SLOTS (supply_of old) (supply_of new)
  pub full : EndsFullRightly new.config old.journal w new.journal (supply_of new)
  pub config : new.config ≡ old.config
  pub at_start : new.at_start ≡ old.at_start
  pub left_out : new.left_out ≡ old.left_out
  pub others : (v : ℕ) → v ≢ w → worker_of new.access v ≡ worker_of old.access v
  pub brief : GetsBriefly new.config old.journal w new.journal
  pub solo : length new.journal.past ≤ deadline new.config w old.journal.past
  pub begun : begun_with new ≡ begun_with old
  pub supplied : RunsWhole new.config w old.journal.past → KeepsSupply (begun_with new) (supply_of new)
  pub little : RunsWhole new.config w old.journal.past → EndsFullOfLittle new.config old.journal w new.journal (begun_with new)
  pub unspent : EndsUnspent old.journal w new.journal (begun_with new) (supply_of new)
  pub merged : EndsMerged new.config old.journal w new.journal
  pub exact : EndsAsTold new.config old.journal w new.journal (begun_with new) (supply_of new)
