-- A call that gets another task.
use Rattle.std.proofs.Common.{◌≡◌, ◌≢◌, ◌⊎◌, ◌≤◌, ◌<◌, ◌+◌, ◌-◌, ℕ, Bool, true, false, List, [], length, arith, refl, sym, ap, subst, ◌∙◌, inl, inr, Option, Some, None, suc}
use Rattle.std.specs.Prelude.{get_or, IsSome}
use Rattle.std.specs.Global.{Vec}
use Rattle.std.specs.Vec.{with_item}
use Rattle.std.proofs.lemmas.List.{get_or_read_under, get_or-set_same, get_or-set_other, length-set}
use Rattle.bz_call.specs.Map.{key_of}
use Rattle.bz_call.specs.declared.calls.Call.{Call}
use Rattle.bz_call.specs.declared.calls.Call.TheVariants as call
use Rattle.bz_call.specs.declared.replies.Reply.TheVariants as reply
use Rattle.bz_layout.specs.declared.thresholds.TheConstants.{SPLIT_SLOTS}
use Rattle.bz_mark.specs.declared.marks.Mark.{Mark}
use Rattle.bz_mark.specs.declared.marks.Mark.TheVariants.{End}
use Rattle.bz_solo.specs.FromAlone.Counts.{HasOthers}
use Rattle.bz_any_task.specs.Duties.{config_of, asks_of, end_of, made_of, needs_of, wants_of, facts_of, means_of, makes_no_change, goes_on}
use Rattle.bz_any_task.specs.Hearing.{IsLookup}
use Rattle.bz_any_task.specs.Laws.{AreLaws}
use Rattle.bz_any_task.specs.declared.running.AnyTask.{AnyTask}
use Rattle.bz_sound.specs.Solitary.{IsSolitary}
use Rattle.bz_refinement.specs.Laws.{ScenesAreSeen}
use Rattle.bz_swap.specs.SwapMemory.{SwapMemory, worker_of}
use Rattle.bz_task.specs.Outcomes.{IsPath}
use Rattle.bz_task.specs.Requests.{Hears, Tells, swaps_in}
use Rattle.bz_task.specs.Scene.{Past, Scene, IsScene, HasFilled, Waiting}
use Rattle.bz_task.specs.declared.path.Path.{Path}
use Rattle.bz_task.specs.declared.view.LeafView.{LeafView}
use Rattle.bz_call.specs.declared.replies.Spent.{Spent}
use Rattle.bz_call.specs.declared.replies.Spent.TheVariants.{Swaps}
use Rattle.bz_layout.specs.Slots.{FreeSlots}
use Rattle.bz_refinement.specs.Story.{scene}
use Rattle.bz_task.specs.declared.todo.Outcome.{Outcome}
use Rattle.bz_task.specs.declared.todo.Outcome.TheVariants as outcomes
use Rattle.bz_task.specs.declared.todo.Outcome.TheVariants.{Full}
use Rattle.bz_task.specs.declared.view.KeyView.{KeyView}
use Rattle.bz_task.specs.declared.todo.Seen.TheVariants.{Start, NoSwap}
use Rattle.bz_task.specs.declared.todo.Todo.{Todo}
use Rattle.bz_task.specs.declared.todo.Todo.TheVariants.{Read, Finish}
use Rattle.bz_world.specs.Roomy.{HadRoom}
use Rattle.bz_world.specs.Inside.Acted.{IsBetween, MustTell}
use Rattle.bz_world.specs.Inside.Going.{MustGoOn, HadNoRoom, LooksUpAgain, MustLookUp, MustLookUpAs, MustTakeOn, MustRead, MustReadWhole, HasRoomForEnd, taken_for, HasReadAfter, LacksSwap, known, call_in, end_in, path_in, WentOn, MayGoOnIn, HasMergedIn, MustPass, StandsForLooking, StandsToLook}
use Rattle.bz_world.specs.Inside.Beginning.{supply_of}
use Rattle.bz_world.specs.Inside.Due.{TakesRightly, only_looks}
use Rattle.bz_world.specs.Inside.Exact.{CountsExactly, HasStood, IsExact, reach_idle, seeks}
use Rattle.bz_world.specs.Inside.Kept.{IsAwake}
use Rattle.bz_world.specs.Inside.Laws.{UndisturbedLaws}
use Rattle.bz_world.specs.Inside.Solitary.{WhereSolitary, IsNotSolitary, IsNotSolitaryIn, IsSolitaryGet, HasLooked, AsksBriefly}
use Rattle.bz_solo.specs.FromAlone.Undisturbed.{IsUndisturbed}
use Rattle.bz_layout.specs.declared.thresholds.TheConstants.{SWAPS_PER_CALL}
use Rattle.bz_solo.specs.FromCosts.Resources.{Resource, Marks, Descriptors}
use Rattle.bz_solo.specs.FromCosts.Weights.{start_takes, weigh}
use Rattle.bz_swap.specs.Solo.{left_to}
use Rattle.bz_layout.specs.declared.config.Config.{Config}
use Rattle.bz_solo.specs.FromCosts.Most.{most_of_leaf}
use Rattle.bz_solo.specs.Errands.{Errand, is_read, is_freeze, after}
use Rattle.bz_solo.specs.Prices.{coming}
use Rattle.bz_solo.specs.Rounds.{stage_now}
use Rattle.bz_solo.specs.Sum.{Affords, Round, Disturbed, Clean, reserve, prices_of, Spares}
use Rattle.bz_mark.specs.Log.{Log}
use Rattle.bz_any_task.specs.Kinds as kinds
use Rattle.bz_any_task.specs.Kinds.{Kind, kind_of, is_look}
use Rattle.std.proofs.lemmas.Bool.{true≢false}
use Rattle.bz_world.specs.Inside.Laws.{RoundLaws}
use Rattle.bz_world.specs.Inside.Meant.{IsMeant}
use Rattle.bz_world.specs.Inside.Paid.{begun_with, bound_in, crowded, errand_of, is_merge, stock_of, used_in, IsPaidFor, HasARoundAs, HasToSpare}
use Rattle.bz_world.specs.WorldView.{deadline, is_delete, EndsMerged}
use Rattle.bz_world.proofs.Paid.{swaps-write, swapless}
use Rattle.bz_world.proofs.PaidSteps.{kept-supply, less-in, room-of}
use Rattle.bz_world.specs.WorldView.{GoesOn, EndsAsTold, EndsFullOfLittle, EndsFullRightly, EndsUnspent, GetsBriefly, RunsWhole}
use Rattle.bz_world.specs.Inside.Serving.{IsOpened, IsSlot, IsToldBy, IsWanted, MayGoOn, effect_reply, tells_of}
use Rattle.bz_world.specs.Inside.Telling.{MustStart, HasTold, HasToldIn, LacksDescriptor, MustTellOf, MustStartOf, MustBegin}
use Rattle.bz_world.specs.declared.answers.Applied.{Applied}
use Rattle.bz_world.specs.declared.answers.Applied.TheVariants as applied
use Rattle.bz_world.specs.declared.parts.Parts.{Parts}
use Rattle.bz_world.specs.declared.serving.OpenCall.{OpenCall}
use Rattle.bz_world.proofs.Alone.{hears-now}
use Rattle.bz_world.proofs.Due.{freezes-no-look}
use Rattle.bz_world.proofs.Exact.{exact-unmerged, exact-anew, exact-froze, full-told, seeks-look, seeks-only}
use Rattle.bz_world.proofs.Powered.{begun-in}
use Rattle.bz_world.proofs.Staying.{none-unfilled}
use Rattle.bz_world.proofs.Supplies.{not-longer}
use Rattle.bz_world.proofs.Tabled.{tabled-beside}
use Rattle.bz_task.specs.declared.todo.Seen.{Seen}
use Rattle.bz_world.specs.Inside.Merging.{looks_on, HasToMerge, IsDuly, IsLookingOn, IsOver, IsStanding, IsTellingFew, MergesDuly}
use Rattle.bz_world.proofs.Merging.{duly-unmerged, duly-froze}
use Rattle.bz_world.proofs.MergeEnds.{ended-merged, looks-on-ends, then-image}
use Rattle.bz_solo.specs.FromTally.Leaves.{leaves_in}
use Rattle.bz_mark.proofs.MomentLaws.{at_moment-now}
use Rattle.bz_sound.specs.Memory.Moments.{image_after}
use Rattle.bz_solo.specs.declared.rest.Rest.{Rest}
use Rattle.bz_solo.specs.declared.rest.Rest.TheVariants as rest
use Rattle.bz_stage.specs.FromLeaves.Neighbours.{MayBeMerged}

-- each slot that was taken has been stored into
pub has-filled : (p : Parts) (w : ℕ) (on : MustGoOn p w) → HasFilled (known p w on)
has-filled p w on k e = on.filled k e

-- what stands in the table of a worker whose task asks for something
pub serving-is : (p : Parts) (w : ℕ) (todo : Todo) (m : MustStart p w todo) (slot : Option OpenCall) → slot ≡ get_or p.workers.items w slot → slot ≡ Some m.serving
serving-is p w todo m slot e = get_or_read_under p.workers.items w (length p.workers.items) slot None e (omega (arith, m.asking.between.within, m.asking.between.tabled.places, m.asking.between.tabled.config.workers_in_range.at_most)) refl ∙ m.is

-- a task that has ended, so that its call goes on
abbrev pub must-go-on : (p : Parts) (w : ℕ) (todo : Todo) (m : MustStart p w todo) (outcome : Outcome) → end_of m.serving.task ≡ Some outcome → WhereSolitary p.journal.past w m.serving.call (HasLooked p.access p.journal.past m.asking.between.story w m.serving m.asking.between.opened) → MustGoOn p w
must-go-on p w todo m outcome ended solitary = record {
  serving = m.serving;
  is = m.is;
  between = m.asking.between;
  filled = (m.asking.tasked.laws.sound.ends (scene p.config p.journal.past m.asking.between.story w m.asking.between.call_open.look.since m.asking.between.opened) outcome m.asking.facts ended).1;
  fit = m.asking.meant.fit;
  exact = m.asking.exact;
  merges = m.asking.merges;
  solitary = solitary;
}

pub ended-by : (p : Parts) (w : ℕ) (todo : Todo) (m : MustStart p w todo) (outcome : Outcome) → end_in (get_or p.workers.items w None) ≡ Some outcome → end_of m.serving.task ≡ Some outcome
ended-by p w todo m outcome ended = subst (λ z. end_in z ≡ Some outcome) m.is ended

-- a solitary get asks for no swap
no-swap : (p : Parts) (w : ℕ) (todo : Todo) (m : MustStart p w todo) → LacksDescriptor p todo → IsNotSolitary p.journal.past w m.serving.call
no-swap p w todo m lacks key get solitary = subst (AsksBriefly p.access p.journal.past m.asking.between.story w m.serving m.asking.between.opened key) lacks.is (m.asking.solitary key get solitary)

-- a task that asks for a swap, for which there is no descriptor, is told so
pub lacks-told : UndisturbedLaws → (p : Parts) (w : ℕ) (todo : Todo) → MustStart p w todo → LacksDescriptor p todo → MustTell p w NoSwap
lacks-told solo p w todo m lacks = record {
  serving = m.serving;
  is = m.is;
  told = record {
    between = m.asking.between;
    tasked = m.asking.tasked;
    stage = Waiting;
    facts = m.asking.facts;
    covered = m.asking.covered;
    finished = elim m.asking.finished [
      | inl on ↦ inl on
      | inr ends ↦ absurd (cc (ends, lacks.is))
    ];
    hears = subst (λ z. Hears z NoSwap) (sym (m.asking.asks ∙ ap Some lacks.is)) tt;
    tells = subst (λ z. Tells z Waiting NoSwap (scene p.config p.journal.past m.asking.between.story w m.asking.between.call_open.look.since m.asking.between.opened)) (sym (m.asking.asks ∙ ap Some lacks.is)) tt;
    solitary = λ key get solitary. absurd (no-swap p w todo m lacks key get solitary);
    alone = hears-now solo.counted m.serving.task (scene p.config p.journal.past m.asking.between.story w m.asking.between.call_open.look.since m.asking.between.opened)
        (solo.scenes p.config p.access p.journal m.asking.between.story w m.asking.between.call_open.look.since m.asking.between.opened m.asking.between.living (begun-in m.asking.between.living m.asking.between.call_open)).scene
        (sym m.asking.tasked.config) m.asking.facts NoSwap refl (λ e. absurd (cc e));
    meant = m.asking.meant;
    exact = m.asking.exact;
    merges = m.asking.merges;
    paid = less-in solo.paid p.config p.access p.journal.past (stock_of p) w (errand_of m.serving) m.serving.task 0 (λ r. start_takes r todo) (scene p.config p.journal.past m.asking.between.story w m.asking.between.call_open.look.since m.asking.between.opened).past m.asking.paid;
  };
}

-- nor is it one then
pub lacks-other : (p : Parts) (w : ℕ) (todo then : Todo) (m : MustStart p w todo) → LacksDescriptor p todo → (q : Parts) (moment : ℕ) (free left : FreeSlots) → q ≡ record p { slots = q.slots; workers = q.workers } → (asks : MustStart q w then)
    → HasToldIn (get_or p.workers.items w None) NoSwap moment free then (get_or q.workers.items w None) left → IsNotSolitary q.journal.past w asks.serving.call
lacks-other p w todo then m lacks q moment free left rest asks told key get solitary =
    let heard : HasTold m.serving NoSwap moment free then asks.serving left = subst (λ z. HasToldIn z NoSwap moment free then (Some asks.serving) left) m.is (subst (λ z. HasToldIn (get_or p.workers.items w None) NoSwap moment free then z left) asks.is told) in
    no-swap p w todo m lacks key (sym (ap (λ (z : OpenCall). z.call) heard.rest) ∙ get) (subst (IsSolitary w) (ap (λ (z : Parts). z.journal.past) rest) solitary)

-- and then it has ended
pub lacks-swap : RoundLaws → (p : Parts) (w : ℕ) (todo then : Todo) (m : MustStart p w todo) → LacksDescriptor p todo → (q : Parts) (moment : ℕ) (free left : FreeSlots) → q ≡ record p { slots = q.slots; workers = q.workers } → MustStart q w then
    → HasToldIn (get_or p.workers.items w None) NoSwap moment free then (get_or q.workers.items w None) left → LacksSwap q w
lacks-swap b p w todo then m lacks q moment free left rest asks told = record {
  on = must-go-on q w then asks (Full Swaps) (heard.heard.goes.no_swap refl) (λ key get solitary. absurd (lacks-other p w todo then m lacks q moment free left rest asks told key get solitary));
  spent = ap (λ (z : Parts). z.access.taken) rest ∙ (lacks.spent ∙ sym (ap (λ (z : Parts). z.config.swaps) rest));
  little = λ whole. omega (
    arith,
    few (b.afforded Descriptors p.access w (errand_of m.serving) m.serving.task 0 (start_takes Descriptors todo) (used_in Descriptors p w) (bound_in Descriptors p w) (scene p.config p.journal.past m.asking.between.story w m.asking.between.call_open.look.since m.asking.between.opened).past
        (m.asking.paid Descriptors (subst (λ (z : Parts). RunsWhole z.config w z.journal.past) rest whole))),
    ap (λ (z : Parts). z.config.swaps) rest,
    ap (λ (z : Parts). z.taken_then) rest,
  );
  room = room-of b q w asks.serving 0 (λ r. start_takes r then) (scene q.config q.journal.past asks.asking.between.story w asks.asking.between.call_open.look.since asks.asking.between.opened).past asks.asking.paid;
  write = λ quiet. subst (λ (x : OpenCall). is_read x.call ≡ false) (sym heard.rest) (swaps-write m.serving.call (kind_of m.serving.task) (m.asking.meant.look (sym (ap (λ (x : OpenCall). x.effect) heard.rest) ∙ quiet))
      (λ look. swapless b.asked m.serving.task lacks.entries (m.asking.asks ∙ ap Some lacks.is) (m.asking.tasked.laws.looks look).swaps));
  told = λ quiet solitary room. full-told asks.asking.between.opened (scene q.config q.journal.past asks.asking.between.story w asks.asking.between.call_open.look.since asks.asking.between.opened).past q.access.taken (stock_of q) asks.serving quiet (heard.heard.goes.no_swap refl)
      (λ looks. swapless b.asked m.serving.task lacks.entries (m.asking.asks ∙ ap Some lacks.is) (m.asking.tasked.laws.looks (seeks-look (kind_of m.serving.task) (sym (ap seeks heard.heard.kind) ∙ looks))).swaps) (asks.asking.exact solitary room);
  merged = λ at is. ended-merged b.scenes b.trees q w at (must-go-on q w then asks (Full Swaps) (heard.heard.goes.no_swap refl) (λ key get solitary. absurd (lacks-other p w todo then m lacks q moment free left rest asks told key get solitary))) is (Full Swaps) (heard.heard.goes.no_swap refl)
      (λ full. ap (λ (z : Parts). z.access.taken) rest ∙ (lacks.spent ∙ sym (ap (λ (z : Parts). z.config.swaps) rest)))
      (λ begun may s. never-full s.task);
}
  where
    heard : HasTold m.serving NoSwap moment free then asks.serving left
    heard = subst (λ z. HasToldIn z NoSwap moment free then (Some asks.serving) left) m.is (subst (λ z. HasToldIn (get_or p.workers.items w None) NoSwap moment free then z left) asks.is told)

    -- neither a delete that told of its swap ends so, nor what looks on
    never-full : IsTellingFew (reach_idle q.access) asks.serving ⊎ IsLookingOn (scene q.config q.journal.past asks.asking.between.story w asks.asking.between.call_open.look.since asks.asking.between.opened).past asks.serving → ⊥
    never-full (inl tells) = cc (tells.ends (Full Swaps) (heard.heard.goes.no_swap refl))
    never-full (inr look) = looks-on-ends (kind_of asks.serving.task) (Full Swaps) look.looks (asks.asking.tasked.laws.ends_of (Full Swaps) (scene q.config q.journal.past asks.asking.between.story w asks.asking.between.call_open.look.since asks.asking.between.opened)
        (asks.asking.tasked.laws.sound.ends (scene q.config q.journal.past asks.asking.between.story w asks.asking.between.call_open.look.since asks.asking.between.opened) (Full Swaps) asks.asking.facts (heard.heard.goes.no_swap refl)).0)

    -- the descriptor that is asked for was still to be had, by what is promised for the call
    few : p.access.taken - p.taken_then + (start_takes Descriptors todo + weigh Descriptors m.serving.task) + 0 ≤ SWAPS_PER_CALL → p.config.swaps < p.taken_then + SWAPS_PER_CALL
    few l = omega (arith, l, lacks.spent, ap (λ (z : Todo). swaps_in (Some z)) lacks.is)

-- the world but for the worker's task
pub between-tasks : (p : Parts) (w : ℕ) (x y : OpenCall) (b : IsBetween p w x) (workers : Vec (Option OpenCall)) → length workers.items ≡ length p.workers.items → ((v : ℕ) → v ≢ w → get_or workers.items v None ≡ get_or p.workers.items v None)
    → IsOpened p.config p.journal w b.opened y → TakesRightly p.config p.access.taken p.journal (stock_of p) w y → IsBetween (record p { workers = workers }) w y
between-tasks p w x y b workers size rest opened due = record {
  on = b.on;
  story = b.story;
  tabled = tabled-beside (record { workers = size; owners = refl; crew = refl; steps = refl; rest = refl }) b.tabled;
  taken = assumption b.taken;
  living = b.living;
  sound = b.sound;
  leaves = b.leaves;
  free = b.free;
  others = λ v ne. subst (IsSlot p.config p.access p.journal b.story p.owners.items (stock_of p) v) (sym (rest v ne)) (b.others v ne);
  worker = b.worker;
  within = b.within;
  opened = b.opened;
  call_open = opened;
  idle = b.idle;
  due = due;
  steps = b.steps;
}

-- what stands in the table, and the call there
pub slot-is : (p : Parts) (w : ℕ) (on : MustGoOn p w) (slot : Option OpenCall) → slot ≡ get_or p.workers.items w slot → slot ≡ Some on.serving
slot-is p w on slot e = get_or_read_under p.workers.items w (length p.workers.items) slot None e (omega (arith, on.between.within, on.between.tabled.places, on.between.tabled.config.workers_in_range.at_most)) refl ∙ on.is

-- with the way to its leaf, if that was found
some-of : (way : Option Path) → way ≢ None → IsSome way
some-of None none = absurd (none refl)
some-of (Some path) none = refl

pub some-path : (p : Parts) (w : ℕ) (on : MustGoOn p w) (slot : Option OpenCall) → slot ≡ get_or p.workers.items w slot → on.serving.path ≢ None → IsSome (path_in slot)
some-path p w on slot e some = subst (λ (z : Option OpenCall). IsSome (path_in z)) (sym (slot-is p w on slot e)) (some-of on.serving.path some)

pub call-is : (p : Parts) (w : ℕ) (on : MustGoOn p w) (slot : Option OpenCall) (call : Call) → slot ≡ get_or p.workers.items w slot → call_in slot ≡ Some call → on.serving.call ≡ call
call-is p w on slot call e is = let same : Some on.serving.call ≡ Some call = sym (ap call_in (slot-is p w on slot e)) ∙ is in cc same

pub called-is : (p : Parts) (w : ℕ) (on : MustGoOn p w) (call : Call) → call_in (get_or p.workers.items w None) ≡ Some call → on.serving.call ≡ call
called-is p w on call is = let same : Some on.serving.call ≡ Some call = sym (ap call_in on.is) ∙ is in cc same

-- what is known of the memory is of it as it is
pub known-scene : ScenesAreSeen → (p : Parts) (w : ℕ) (on : MustGoOn p w) → IsScene (known p w on)
known-scene scenes p w on = (scenes p.config p.access p.journal on.between.story w on.between.call_open.look.since on.between.opened on.between.living (begun-in on.between.living on.between.call_open)).scene

-- its look-up begins anew, now: nobody's swap took effect since
abbrev pub anew-past : (p : Parts) (w : ℕ) → MustGoOn p w → Past
anew-past p w on = (scene p.config p.journal.past on.between.story w (length p.journal.past) on.between.opened).past

pub stood-anew : (p : Parts) (w : ℕ) (on : MustGoOn p w) → HasStood on.between.opened (known p w on).past → HasStood on.between.opened (anew-past p w on)
stood-anew p w on stood = record { at = stood.at; effect = stood.effect; after_begin = stood.after_begin; by_now = stood.by_now; still = stood.still; enough = stood.enough }

-- a merge that is due stays due
still-stands : (p : Parts) (w : ℕ) (on : MustGoOn p w) (at : ℕ) → IsStanding p.config p.journal at (known p w on).past (reach_idle p.access) (stock_of p) → IsStanding p.config p.journal at (anew-past p w on) (reach_idle p.access) (stock_of p)
still-stands p w on at s = record { stood = record { by_now = s.stood.by_now; still = s.stood.still }; taken = s.taken; left = s.left }

-- where the merge of its leaf is over, that is known from now on
over-anew : (p : Parts) (w : ℕ) (on : MustGoOn p w) (at : ℕ) → on.between.opened.begun ≤ at → suc at ≤ length p.journal.past → IsSolitary w p.journal.past → is_delete on.serving.call ≡ true → HasMergedIn p w at on → on.serving.rest ≢ rest.Leaf
    → MayBeMerged p.config ((known p w on).past.at (suc at)).image (key_of on.serving.call) → IsOver p.config p.journal at (anew-past p w on) on.serving
over-anew p w on at begun by_now solitary deletes merged later may = record {
  later = later;
  moment = length p.journal.past;
  after = by_now;
  stood = record { by_now = omega arith; still = refl };
  over = elim (merged solitary deletes (subst (λ image. MayBeMerged p.config image (key_of on.serving.call)) (then-image p w on at begun (suc at) (omega arith) by_now) may)) [
    | inl less ↦ inl (omega (arith, less, ap (leaves_in p.config) (then-image p w on at begun (length p.journal.past) by_now (omega arith) ∙ ap (image_after p.journal.start) (at_moment-now p.journal.past)), ap (leaves_in p.config) (then-image p w on at begun (suc at) (omega arith) by_now)))
    | inr lacks ↦ inr lacks
  ];
}

-- so it is of what is known
over-known : (p : Parts) (w : ℕ) (on : MustGoOn p w) (at : ℕ) → on.between.opened.begun ≤ at → suc at ≤ length p.journal.past → IsSolitary w p.journal.past → is_delete on.serving.call ≡ true → HasMergedIn p w at on → (left : Rest) → left ≢ rest.Leaf
    → MayBeMerged p.config ((known p w on).past.at (suc at)).image (key_of on.serving.call) → IsOver p.config p.journal at (known p w on).past (record on.serving { rest = left })
over-known p w on at begun by_now solitary deletes merged left later may = record {
  later = later;
  moment = length p.journal.past;
  after = by_now;
  stood = record { by_now = omega arith; still = refl };
  over = elim (merged solitary deletes (subst (λ image. MayBeMerged p.config image (key_of on.serving.call)) (then-image p w on at begun (suc at) (omega arith) by_now) may)) [
    | inl less ↦ inl (omega (arith, less, ap (leaves_in p.config) (then-image p w on at begun (length p.journal.past) by_now (omega arith) ∙ ap (image_after p.journal.start) (at_moment-now p.journal.past)), ap (leaves_in p.config) (then-image p w on at begun (suc at) (omega arith) by_now)))
    | inr lacks ↦ inr lacks
  ];
}

-- a call that may look its key up may do so anew
duly-by : (p : Parts) (w : ℕ) (on : MustGoOn p w) (at : ℕ) → IsSolitary w p.journal.past → on.serving.effect ≡ Some at → is_delete on.serving.call ≡ true → (left : Rest) → on.serving.rest ≡ left → StandsToLook p w on at left
    → HasToMerge p.config p.journal on.between.opened at (anew-past p w on) (reach_idle p.access) (stock_of p) on.serving
duly-by p w on at solitary is deletes rest.Leaf same s = record { after_begin = s.0.after_begin; by_now = s.0.by_now; merging = λ may. inl (record { standing = still-stands p w on at (s.0.standing may); task = inl (s.1 may) }) }
duly-by p w on at solitary is deletes left same s = let m = (on.merges solitary).merging at is deletes in record {
  after_begin = m.after_begin;
  by_now = m.by_now;
  merging = λ may. inr (inr (inr (over-anew p w on at m.after_begin m.by_now solitary deletes s (λ leaf. cc (same, leaf)) may)));
}

pub duly-anew : (p : Parts) (w : ℕ) (on : MustGoOn p w) → IsSolitary w p.journal.past → ((at : ℕ) → on.serving.effect ≡ Some at → is_delete on.serving.call ≡ true → StandsToLook p w on at on.serving.rest)
    → (kind_of on.serving.task ≡ kinds.Delete → end_of on.serving.task ≢ None) → IsDuly p.config p.journal on.between.opened (anew-past p w on) (reach_idle p.access) (stock_of p) on.serving
duly-anew p w on solitary stands over = record {
  looking = λ quiet seek. omega arith;
  deleting = λ quiet kind going. absurd (over kind going);
  merging = λ at is deletes. duly-by p w on at solitary is deletes on.serving.rest refl (stands at is deletes);
}

-- so it goes on
abbrev pub looks-anew : (p : Parts) (w : ℕ) (on : MustGoOn p w) → LooksUpAgain p w on → StandsForLooking p w on → (kind_of on.serving.task ≡ kinds.Delete → end_of on.serving.task ≢ None) → MustGoOn p w
looks-anew p w on again stands over = record on {
  merges = λ solitary. duly-anew p w on solitary (stands solitary) over;
  exact = λ solitary room. exact-anew on.between.opened (known p w on).past (anew-past p w on) (reach_idle p.access) (stock_of p) (tells_of on.serving) on.serving (again solitary room).effected (stood-anew p w on) (omega arith) (on.exact solitary room);
  between = record on.between {
    call_open = record on.between.call_open {
      look = let l = on.between.call_open.look in record { since = length p.journal.past; after_begin = omega (arith, l.after_begin, l.by_now); by_now = omega arith };
    };
  };
}

-- so does that of a delete which looks once more at its leaf
pub look-after : (p : Parts) (w : ℕ) (on : MustGoOn p w) (again : LooksUpAgain p w on) (stands : StandsForLooking p w on) (over : kind_of on.serving.task ≡ kinds.Delete → end_of on.serving.task ≢ None) → IsSolitary w p.journal.past → HadRoom p.config p.journal.start p.journal.past on.between.opened → (task : AnyTask) → is_look (kind_of task) ≡ true
    → IsExact on.between.opened (known p w (looks-anew p w on again stands over)).past (reach_idle p.access) (stock_of p) (tells_of on.serving) (record on.serving { task = task; path = None })
look-after p w on again stands over solitary room task looks =
    let was = again solitary room in
    inr (inr (inr (record { looks = looks; counted = record { effected = was.effected; same_taken = was.same_taken; same_left = was.same_left; stood = stood-anew p w on was.stood; unpassed = was.unpassed }; alone = omega arith })))

-- and its look-up goes on with the merge that is due
duly-on : (p : Parts) (w : ℕ) (on : MustGoOn p w) (task : AnyTask) → kind_of task ≡ kinds.Seek → (at : ℕ) → IsSolitary w p.journal.past → on.serving.effect ≡ Some at → is_delete on.serving.call ≡ true → (left : Rest) → on.serving.rest ≡ left → StandsToLook p w on at left
    → HasToMerge p.config p.journal on.between.opened at (anew-past p w on) (reach_idle p.access) (stock_of p) (record on.serving { task = task; path = None })
duly-on p w on task kind at solitary is deletes rest.Leaf same s = record {
  after_begin = s.0.after_begin;
  by_now = s.0.by_now;
  merging = λ may. inl (record { standing = still-stands p w on at (s.0.standing may); task = inr (record { looks = ap looks_on kind; first = λ seek. same; alone = omega arith }) });
}
duly-on p w on task kind at solitary is deletes left same s = let m = (on.merges solitary).merging at is deletes in record {
  after_begin = m.after_begin;
  by_now = m.by_now;
  merging = λ may. let o = over-anew p w on at m.after_begin m.by_now solitary deletes s (λ leaf. cc (same, leaf)) may in inr (inr (inr (record { later = o.later; moment = o.moment; after = o.after; stood = o.stood; over = o.over })));
}

pub duly-looks : (p : Parts) (w : ℕ) (on : MustGoOn p w) (again : LooksUpAgain p w on) (stands : StandsForLooking p w on) (over : kind_of on.serving.task ≡ kinds.Delete → end_of on.serving.task ≢ None) (task : AnyTask) → kind_of task ≡ kinds.Seek
    → MergesDuly p.config p.journal w on.between.opened (known p w (looks-anew p w on again stands over)).past (reach_idle p.access) (stock_of p) (record on.serving { task = task; path = None })
duly-looks p w on again stands over task kind solitary = record {
  looking = λ quiet seek. omega arith;
  deleting = λ quiet delete going. absurd (cc (kind, delete));
  merging = λ at is deletes. duly-on p w on task kind at solitary is deletes on.serving.rest refl (stands solitary at is deletes);
}

-- a task that takes no slot needs no reason
pub none-wanted : (p : Parts) (w : ℕ) (on : MustGoOn p w) (task : AnyTask) → wants_of task ≡ 0 → IsWanted p.config p.journal on.between.opened task
none-wanted p w on task none quiet some = absurd (omega (arith, none, some))

-- a way that was found is one
pub has-way : (path : Path) → Some path ≡ None → ⊥
has-way path none = absurd (cc none)

-- a look-up takes nothing, and what was taken before was taken rightly
pub looks-right : (p : Parts) (w : ℕ) (on : MustGoOn p w) (task : AnyTask) (way : Option Path) → only_looks on.serving.call (kind_of task) ≡ true → TakesRightly p.config p.access.taken p.journal (stock_of p) w (record on.serving { task = task; path = way })
looks-right p w on task way looks quiet solitary = elim (on.between.due quiet solitary) [
  | inl due ↦ inl due
  | inr none ↦ inr (record { looks = looks; thawed = none.thawed; same_taken = none.same_taken; same_left = none.same_left })
]

-- where no way was found it ends in no leaf
abbrev bogus : Path
bogus = record { links = []; depth = 0 }

pub no-view : (key : List ℕ) (task : AnyTask) → ((way : Option Path) → IsLookup key way task) → (view : LeafView) (s : Scene) → means_of task (outcomes.View view) s → ⊥
no-view key task looks view s means = let some : 0 < 0 = ((looks (Some bogus)).leads bogus refl view s means).some in omega (arith, some)

pub no-key : (key : List ℕ) (task : AnyTask) → ((way : Option Path) → IsLookup key way task) → (view : KeyView) (s : Scene) → means_of task (outcomes.Key view) s → ⊥
no-key key task looks view s means = let some : 0 < 0 = ((looks (Some bogus)).leads_found bogus refl view s means).some in omega (arith, some)

-- a task that makes no change, for the call's key
abbrev pub lookup-taken : (p : Parts) (w : ℕ) (on : MustGoOn p w) → MayGoOn on.serving → (task : AnyTask) (way : Option Path) (asked : Option Todo) (key : List ℕ) → config_of task ≡ p.config → AreLaws task → makes_no_change task ≡ true → IsLookup key way task → (way ≡ None → (other : Option Path) → IsLookup key other task) → key ≡ key_of on.serving.call
    → asks_of task ≡ asked → facts_of task Waiting (known p w on) → IsWanted p.config p.journal on.between.opened task
    → WhereSolitary p.journal.past w on.serving.call (IsSolitaryGet p.access p.journal.past on.between.story w (record on.serving { task = task; path = way }) on.between.opened) → IsMeant (record on.serving { task = task; path = way }) (known p w on).past → IsPaidFor p w (record on.serving { task = task; path = way }) 0 (taken_for asked) (known p w on).past
    → TakesRightly p.config p.access.taken p.journal (stock_of p) w (record on.serving { task = task; path = way }) → CountsExactly p.config p.journal w on.between.opened (known p w on).past (reach_idle p.access) (stock_of p) (tells_of (record on.serving { task = task; path = way })) (record on.serving { task = task; path = way })
    → MergesDuly p.config p.journal w on.between.opened (known p w on).past (reach_idle p.access) (stock_of p) (record on.serving { task = task; path = way })
    → MustTakeOn p w task way on.serving.had asked
lookup-taken p w on may task way asked key config laws looks lookup wayless same asks facts wanted solitary meant paid due exact merges = record {
  on = on;
  may = may;
  tasked = record { config = config; laws = laws; lookup = subst (λ k. IsLookup k way task) same lookup; change = inl looks; wayless = λ none other. subst (λ k. IsLookup k other task) same (wayless none other) };
  asks = asks;
  facts = facts;
  wanted = wanted;
  solitary = solitary;
  meant = meant;
  paid = paid;
  due = due;
  exact = exact;
  merges = merges;
}

-- a task of a call without effect that neither looks its key up nor deletes it
pub duly-other : (p : Parts) (w : ℕ) (on : MustGoOn p w) (task : AnyTask) (way : Option Path) → on.serving.effect ≡ None → (seeks (kind_of task) ≡ true → ⊥) → (kind_of task ≡ kinds.Delete → ⊥)
    → MergesDuly p.config p.journal w on.between.opened (known p w on).past (reach_idle p.access) (stock_of p) (record on.serving { task = task; path = way })
duly-other p w on task way quiet seek delete solitary = record { looking = λ none looks. absurd (seek looks); deleting = λ none kind going. absurd (delete kind); merging = λ at is deletes. absurd (cc (quiet, is)) }

-- the way by which its leaf was read since is one of its key
pub read-way : (p : Parts) (w at : ℕ) (view : LeafView) (r : HasReadAfter p w at view) (slot : Option OpenCall) → slot ≡ get_or p.workers.items w slot → (way : Option Path) → way ≡ path_in slot → (path : Path) → way ≡ Some path → IsPath (key_of r.had.on.serving.call) path (known p w r.had.on).past
read-way p w at view r slot e way named path is = r.leads path (ap path_in (sym (slot-is p w r.had.on slot e)) ∙ (sym named ∙ is))

-- whether its leaf is copied alone is nothing to what is known
pub said-unmerged : (p : Parts) (w : ℕ) (on : MustGoOn p w) → IsNotSolitary p.journal.past w on.serving.call → (alone : Bool) (slot : Option OpenCall) → slot ≡ Some (record on.serving { alone = alone }) → MustGoOn (record p { workers = with_item p.workers w slot }) w
unfolding between-tasks
said-unmerged p w on other alone slot is = record {
  serving = record on.serving { alone = alone };
  is = get_or-set_same p.workers.items w slot None (omega (arith, on.between.within, on.between.tabled.places, on.between.tabled.config.workers_in_range.at_most)) ∙ is;
  between = between-tasks p w on.serving (record on.serving { alone = alone }) on.between (with_item p.workers w slot) (length-set p.workers.items w slot) (λ v ne. get_or-set_other p.workers.items w v slot None ne)
      (assumption on.between.call_open) on.between.due;
  filled = on.filled;
  fit = record { words = on.fit.words; thawed = on.fit.thawed; quiet = on.fit.quiet };
  solitary = λ key get solitary. absurd (other key get solitary);
  merges = λ solitary. duly-unmerged p.config p.journal on.between.opened (known p w on).past (reach_idle p.access) (stock_of p) on.serving alone (on.merges solitary);
  exact = λ solitary room. exact-unmerged on.between.opened (known p w on).past (reach_idle p.access) (stock_of p) (tells_of on.serving) on.serving alone (on.exact solitary room);
}

pub said-may : (p : Parts) (w : ℕ) (m : MustLookUpAs p w crowded) (alone : Bool) → alone ≡ is_merge (kind_of m.on.serving.task) → (slot : Option OpenCall) → slot ≡ Some (record m.on.serving { alone = alone }) → MustLookUp (record p { workers = with_item p.workers w slot }) w
unfolding said-unmerged between-tasks
said-may p w m alone merges slot is = record {
  on = said-unmerged p w m.on m.other alone slot is;
  may = m.may;
  other = m.other;
  pays = subst (λ (a : Bool). HasARoundAs p w (record (errand_of m.on.serving) { alone = a }) (known p w m.on).past) (sym merges) m.pays;
  stands = λ solitary at is deletes. as-before at m.on.serving.rest (m.stands solitary at is deletes);
  over = m.over;
  again = λ solitary room. assumption (m.again solitary room);
}
  where
    as-before : (at : ℕ) (left : Rest) → StandsToLook p w m.on at left → StandsToLook (record p { workers = with_item p.workers w slot }) w (said-unmerged p w m.on m.other alone slot is) at left
    as-before at rest.Leaf s = (assumption s.0, λ may. assumption (s.1 may))
    as-before at rest.Inner s = s
    as-before at rest.Root s = s

-- nor is whether its own freeze of its leaf was the last to end
pub said-froze : (p : Parts) (w : ℕ) (on : MustGoOn p w) → IsNotSolitary p.journal.past w on.serving.call → (froze : Bool) → (froze ≡ true → is_read on.serving.call ≡ false) → (froze ≡ true → only_looks on.serving.call (kind_of on.serving.task) ≡ true → ⊥) → (slot : Option OpenCall) → slot ≡ Some (record on.serving { froze = froze }) → MustGoOn (record p { workers = with_item p.workers w slot }) w
unfolding between-tasks
said-froze p w on other froze thawed freezes slot is = record {
  serving = record on.serving { froze = froze };
  is = get_or-set_same p.workers.items w slot None (omega (arith, on.between.within, on.between.tabled.places, on.between.tabled.config.workers_in_range.at_most)) ∙ is;
  between = between-tasks p w on.serving (record on.serving { froze = froze }) on.between (with_item p.workers w slot) (length-set p.workers.items w slot) (λ v ne. get_or-set_other p.workers.items w v slot None ne)
      (assumption on.between.call_open) right;
  filled = on.filled;
  fit = record { words = on.fit.words; thawed = thawed; quiet = on.fit.quiet };
  solitary = λ key get solitary. absurd (other key get solitary);
  merges = λ solitary. duly-froze p.config p.journal on.between.opened (known p w on).past (reach_idle p.access) (stock_of p) on.serving froze (on.merges solitary);
  exact = λ solitary room. exact-froze on.between.opened (known p w on).past (reach_idle p.access) (stock_of p) (tells_of on.serving) on.serving froze (λ f looks. freezes f (seeks-only on.serving.call (kind_of on.serving.task) looks)) (on.exact solitary room);
}
  where
    unfrozen : only_looks on.serving.call (kind_of on.serving.task) ≡ true → (f : Bool) → froze ≡ f → froze ≡ false
    unfrozen looks true e = absurd (freezes e looks)
    unfrozen looks false e = e

    right : TakesRightly p.config p.access.taken p.journal (stock_of p) w (record on.serving { froze = froze })
    right quiet solitary = elim (on.between.due quiet solitary) [
      | inl due ↦ inl due
      | inr none ↦ inr (record { looks = none.looks; thawed = unfrozen none.looks froze refl; same_taken = none.same_taken; same_left = none.same_left })
    ]

pub froze-may : (p : Parts) (w : ℕ) (m : MustLookUpAs p w after) (froze : Bool) → froze ≡ is_freeze (kind_of m.on.serving.task) → (slot : Option OpenCall) → slot ≡ Some (record m.on.serving { froze = froze }) → MustLookUp (record p { workers = with_item p.workers w slot }) w
unfolding said-froze between-tasks
froze-may p w m froze freezes slot is = record {
  on = said-froze p w m.on m.other froze (λ e. (m.pays Marks tt).thawed (sym freezes ∙ e)) (λ e. freezes-no-look m.on.serving.call (kind_of m.on.serving.task) (sym freezes ∙ e)) slot is;
  may = m.may;
  other = m.other;
  pays = subst (λ (f : Bool). HasARoundAs p w (record (errand_of m.on.serving) { froze = f }) (known p w m.on).past) (sym freezes) m.pays;
  stands = λ solitary at is deletes. as-before at m.on.serving.rest (m.stands solitary at is deletes);
  over = m.over;
  again = λ solitary room. assumption (m.again solitary room);
}
  where
    as-before : (at : ℕ) (left : Rest) → StandsToLook p w m.on at left → StandsToLook (record p { workers = with_item p.workers w slot }) w (said-froze p w m.on m.other froze (λ e. (m.pays Marks tt).thawed (sym freezes ∙ e)) (λ e. freezes-no-look m.on.serving.call (kind_of m.on.serving.task) (sym freezes ∙ e)) slot is) at left
    as-before at rest.Leaf s = (assumption s.0, λ may. assumption (s.1 may))
    as-before at rest.Inner s = s
    as-before at rest.Root s = s

-- where another thing is tried next than its leaf, the merge of that is over
pub said-rest : (p : Parts) (w : ℕ) (on : MustGoOn p w) → IsNotSolitary p.journal.past w on.serving.call → on.serving.effect ≢ None → HadNoRoom p w on → (left : Rest) → left ≢ rest.Leaf → ((at : ℕ) → on.serving.effect ≡ Some at → HasMergedIn p w at on) → (slot : Option OpenCall) → slot ≡ Some (record on.serving { rest = left }) → MustGoOn (record p { workers = with_item p.workers w slot }) w
unfolding between-tasks
said-rest p w on other effected roomless left later merged slot is = record {
  serving = record on.serving { rest = left };
  is = get_or-set_same p.workers.items w slot None (omega (arith, on.between.within, on.between.tabled.places, on.between.tabled.config.workers_in_range.at_most)) ∙ is;
  between = between-tasks p w on.serving (record on.serving { rest = left }) on.between (with_item p.workers w slot) (length-set p.workers.items w slot) (λ v ne. get_or-set_other p.workers.items w v slot None ne)
      (assumption on.between.call_open) (λ quiet solitary. absurd (effected quiet));
  filled = on.filled;
  fit = record { words = on.fit.words; thawed = on.fit.thawed; quiet = λ quiet. absurd (effected quiet) };
  solitary = λ key get solitary. absurd (other key get solitary);
  merges = λ solitary. record {
    looking = λ quiet seek. absurd (effected quiet);
    deleting = λ quiet kind going. absurd (effected quiet);
    merging = λ at effect deletes. let m = (on.merges solitary).merging at effect deletes in record {
      after_begin = m.after_begin;
      by_now = m.by_now;
      merging = λ may. let o = over-known p w on at m.after_begin m.by_now solitary deletes (merged at effect) left later may in inr (inr (inr o));
    };
  };
  exact = λ solitary room. absurd (roomless solitary room);
}

pub rest-may : (p : Parts) (w : ℕ) (change : Errand → Kind → Errand) (m : MustPass p w change) (left : Rest) → left ≡ (change (errand_of m.looks.on.serving) (kind_of m.looks.on.serving.task)).rest → ((e : Errand) (k : Kind) → change e k ≡ record e { rest = (change e k).rest }) → (slot : Option OpenCall)
    → slot ≡ Some (record m.looks.on.serving { rest = left }) → MustLookUp (record p { workers = with_item p.workers w slot }) w
unfolding said-rest between-tasks
rest-may p w change m left same only slot is = record {
  on = said-rest p w m.looks.on m.looks.other m.effected m.roomless left other (λ at effect solitary deletes. by left other at (subst (StandsToLook p w m.looks.on at) (sym same) (m.looks.stands solitary at effect deletes)) solitary deletes) slot is;
  may = m.looks.may;
  other = m.looks.other;
  pays = subst (λ (e : Errand). HasARoundAs p w e (known p w m.looks.on).past) (only (errand_of m.looks.on.serving) (kind_of m.looks.on.serving.task) ∙ ap (λ (l : Rest). record (errand_of m.looks.on.serving) { rest = l }) (sym same)) m.looks.pays;
  stands = λ solitary at effect deletes. as-before at left other (subst (StandsToLook p w m.looks.on at) (sym same) (m.looks.stands solitary at effect deletes));
  over = m.looks.over;
  again = λ solitary room. absurd (m.roomless solitary room);
}
  where
    other : left ≢ rest.Leaf
    other leaf = m.later (sym same ∙ leaf)

    by : (l : Rest) → l ≢ rest.Leaf → (at : ℕ) → StandsToLook p w m.looks.on at l → HasMergedIn p w at m.looks.on
    by rest.Leaf o at s = absurd (o refl)
    by rest.Inner o at s = s
    by rest.Root o at s = s

    as-before : (at : ℕ) (l : Rest) → l ≢ rest.Leaf → StandsToLook p w m.looks.on at l → StandsToLook (record p { workers = with_item p.workers w slot }) w (said-rest p w m.looks.on m.looks.other m.effected m.roomless left other (λ at effect solitary deletes. by left other at (subst (StandsToLook p w m.looks.on at) (sym same) (m.looks.stands solitary at effect deletes)) solitary deletes) slot is) at l
    as-before at rest.Leaf o s = absurd (o refl)
    as-before at rest.Inner o s = s
    as-before at rest.Root o s = s

thawed-spares : (r : Resource) (m : SwapMemory) (w : ℕ) (e : Errand) (used by : ℕ) (p : Past) → Spares r m w e used by p (λ q. most_of_leaf r + coming r q e kinds.ReadWhole) → Spares r m w (record e { froze = false }) used by p (λ q. most_of_leaf r + coming r q (record e { froze = false }) kinds.ReadWhole)
thawed-spares r m w e used by p s = by-round s.round s.alone s.affords
  where
    by-round : (round : Round) → (round ≡ Clean → IsUndisturbed 0 p) → Affords r m w e used by (reserve r round + (most_of_leaf r + coming r (prices_of r round e p) e kinds.ReadWhole)) → Spares r m w (record e { froze = false }) used by p (λ q. most_of_leaf r + coming r q (record e { froze = false }) kinds.ReadWhole)
    by-round Disturbed alone a = record { round = Disturbed; alone = alone; thawed = λ f. absurd (true≢false (sym f)); affords = record { enough = a.enough } }
    by-round Clean alone a = record { round = Clean; alone = alone; thawed = λ f. absurd (true≢false (sym f)); affords = record { enough = a.enough } }

pub thawed-read : (p : Parts) (w : ℕ) (path : Path) (m : MustRead p w path) (slot : Option OpenCall) → slot ≡ Some (record m.on.serving { froze = false }) → MustRead (record p { workers = with_item p.workers w slot }) w path
unfolding said-froze between-tasks
thawed-read p w path m slot is = record {
  on = said-froze p w m.on m.other false (λ e. absurd (true≢false (sym e))) (λ e. absurd (true≢false (sym e))) slot is;
  may = m.may;
  leads = m.leads;
  other = m.other;
  look = m.look;
  due = m.due;
  stands = λ solitary at is deletes. let s = m.stands solitary at is deletes in (assumption s.0, s.1);
  again = λ solitary room. assumption (m.again solitary room);
  first = m.first;
  spares = λ r counted. thawed-spares r p.access w (errand_of m.on.serving) (used_in r p w) (bound_in r p w) (known p w m.on).past (m.spares r counted);
}

-- what may come once the key was looked up is paid for, and a task ends for want of room only where there is none
pub record IsSpared (p : Parts) (w : ℕ) (on : MustGoOn p w) (task : AnyTask) : Type 0 where
  pub slotless : needs_of task ≡ 0
  pub spares : HasToSpare p w on.serving (known p w on).past (λ r q. coming r q (errand_of on.serving) kinds.Find)
  pub lacks : (z : Scene) → means_of task outcomes.NeedsRoom z → IsUndisturbed 0 (known p w on).past → 0 < stage_now (errand_of on.serving) (known p w on).past

module _ (p : Parts) (w : ℕ) (task : AnyTask) (had : Option (List ℕ)) (asked : Option Todo) (path : Option Path) (m : MustTakeOn p w task path had asked) (slot : Option OpenCall) (is : slot ≡ Some (record m.on.serving { task = task; path = path; had = had })) (told : IsToldBy p.config p.journal m.on.between.opened had) where
  abbrev pub next : OpenCall
  next = record m.on.serving { task = task; path = path; had = had }

  abbrev pub taken : Parts
  taken = record p { workers = with_item p.workers w slot }

  between : IsBetween taken w next
  between = between-tasks p w m.on.serving next m.on.between (with_item p.workers w slot) (length-set p.workers.items w slot) (λ v ne. get_or-set_other p.workers.items w v slot None ne)
      (assumption (told, m.wanted, m.on.between.call_open)) m.due

  pub here-is : get_or taken.workers.items w None ≡ Some next
  here-is = get_or-set_same p.workers.items w slot None (omega (arith, m.on.between.within, m.on.between.tabled.places, m.on.between.tabled.config.workers_in_range.at_most)) ∙ is

  -- the swaps of others since its look-up began, by what its task knows
  counts-now : UndisturbedLaws → (others : ℕ) × HasOthers others (made_of task) (known p w m.on).past
  counts-now solo = solo.counted task (known p w m.on) (known-scene solo.scenes p w m.on) m.facts

  -- which asks for something already
  pub taken-asks : UndisturbedLaws → IsNotSolitary p.journal.past w m.on.serving.call → (todo : Todo) → todo ≢ Finish → asked ≡ Some todo → MustStart taken w todo
  unfolding between between-tasks
  taken-asks solo other todo more e = record {
    serving = next;
    is = here-is;
    asking = record {
      between = between;
      tasked = let t = m.tasked in record { config = t.config; laws = t.laws; lookup = t.lookup; change = t.change; wayless = t.wayless };
      asks = m.asks ∙ e;
      finished = inl m.may;
      facts = m.facts;
      covered = none-unfilled (m.on.between.story.took w) (m.on.between.story.filled w) (needs_of task) (omega (arith, m.tasked.laws.few, m.tasked.laws.most)) m.on.filled;
      solitary = λ key get solitary. absurd (other key get solitary);
      alone = record { others = (counts-now solo).0; made = made_of task; counted = (counts-now solo).1; stands = λ ends. absurd (more ends) };
      meant = m.meant;
      exact = m.exact;
      merges = m.merges;
      paid = subst (λ (o : Option Todo). IsPaidFor p w next 0 (taken_for o) (known p w m.on).past) e m.paid;
    };
  }

  -- or is to be told to begin
  pub taken-begins : UndisturbedLaws → asked ≡ None → MustTell taken w Start
  unfolding between between-tasks
  taken-begins solo e = record {
    serving = next;
    is = here-is;
    told = record {
      between = between;
      tasked = let t = m.tasked in record { config = t.config; laws = t.laws; lookup = t.lookup; change = t.change; wayless = t.wayless };
      stage = Waiting;
      facts = m.facts;
      covered = none-unfilled (m.on.between.story.took w) (m.on.between.story.filled w) (needs_of task) (omega (arith, m.tasked.laws.few, m.tasked.laws.most)) m.on.filled;
      finished = inl m.may;
      hears = subst (λ z. Hears z Start) (sym (m.asks ∙ e)) tt;
      tells = subst (λ z. Tells z Waiting Start (known p w m.on)) (sym (m.asks ∙ e)) (has-filled p w m.on);
      solitary = λ key get solitary. (m.solitary key get solitary, refl);
      alone = hears-now solo.counted task (known p w m.on) (known-scene solo.scenes p w m.on) (sym m.tasked.config) m.facts Start refl (λ e. absurd (cc e));
      meant = m.meant;
      exact = m.exact;
      merges = m.merges;
      paid = subst (λ (o : Option Todo). IsPaidFor p w next 0 (taken_for o) (known p w m.on).past) e m.paid;
    };
  }

  -- where the call is no solitary get
  pub task-begins : UndisturbedLaws → IsNotSolitary p.journal.past w m.on.serving.call → asked ≡ None → goes_on task ≡ true → MustBegin taken w
  unfolding taken-begins between between-tasks
  task-begins solo other e goes = record { tell = taken-begins solo e; other = other; goes = goes }

  -- and the way to its leaf is known as before
  pub begins-knowing : (solo : UndisturbedLaws) (e : asked ≡ None) → ((way : Path) → m.on.serving.path ≡ Some way → IsPath (key_of m.on.serving.call) way (known p w m.on).past) → m.on.serving.effect ≡ None → m.on.serving.path ≢ None → path ≡ m.on.serving.path → (pays : IsSpared p w m.on task) → MustTellOf taken w Start
  unfolding taken-begins between between-tasks
  begins-knowing solo e leads quiet some same pays = record {
    must = taken-begins solo e;
    knows = record { leads = λ way is. leads way (sym same ∙ is); quiet = quiet; some = λ none. some (sym same ∙ none); slotless = pays.slotless; spares = pays.spares; lacks = pays.lacks };
  }

  -- or has just been found
  pub begins-found : (solo : UndisturbedLaws) (e : asked ≡ None) (found : Path) → path ≡ Some found → IsPath (key_of m.on.serving.call) found (known p w m.on).past → m.on.serving.effect ≡ None → (pays : IsSpared p w m.on task) → MustTellOf taken w Start
  unfolding taken-begins between between-tasks
  begins-found solo e found at leads quiet pays = record {
    must = taken-begins solo e;
    knows = record {
      leads = λ way is. let both : Some found ≡ Some way = sym at ∙ is in let same : found ≡ way = cc both in subst (λ z. IsPath (key_of m.on.serving.call) z (known p w m.on).past) same leads;
      quiet = quiet;
      some = λ none. absurd (cc (at, none));
      slotless = pays.slotless;
      spares = pays.spares;
      lacks = pays.lacks;
    };
  }

-- a task that was told something is of a call that may go on as before
pub told-may : (old slot : Option OpenCall) (seen : Seen) (moment : ℕ) (free : FreeSlots) (todo : Todo) (left : FreeSlots) → HasToldIn old seen moment free todo slot left → MayGoOnIn old → MayGoOnIn slot
told-may (Some x) (Some y) seen moment free todo left h may = subst MayGoOn (sym h.rest) may
told-may None slot seen moment free todo left h may = absurd may
told-may (Some x) None seen moment free todo left h may = absurd h

-- and of one that is no solitary get, or whose path was found
pub told-other : (old slot : Option OpenCall) (seen : Seen) (moment : ℕ) (free : FreeSlots) (todo : Todo) (left : FreeSlots) → HasToldIn old seen moment free todo slot left → (past : List Mark) (w : ℕ) → IsNotSolitaryIn past w old → IsNotSolitaryIn past w slot
told-other (Some x) (Some y) seen moment free todo left h past w other = subst (λ (z : OpenCall). IsNotSolitary past w z.call) (sym h.rest) other
told-other None slot seen moment free todo left h past w other = absurd h
told-other (Some x) None seen moment free todo left h past w other = absurd h

pub told-path : (old slot : Option OpenCall) (seen : Seen) (moment : ℕ) (free : FreeSlots) (todo : Todo) (left : FreeSlots) → HasToldIn old seen moment free todo slot left → path_in slot ≡ path_in old
told-path (Some x) (Some y) seen moment free todo left h = ap (λ (z : OpenCall). z.path) h.rest
told-path None slot seen moment free todo left h = absurd h
told-path (Some x) None seen moment free todo left h = absurd h

-- a task that goes on as it begins does not end then
pub never-ends : (old slot : Option OpenCall) (moment : ℕ) (free : FreeSlots) (todo : Todo) (left : FreeSlots) → HasToldIn old Start moment free todo slot left → (x : OpenCall) → old ≡ Some x → goes_on x.task ≡ true → todo ≡ Finish → ⊥
never-ends (Some y) (Some z) moment free todo left h x is goes ends =
    let same : y ≡ x = cc is in
    let none : end_of z.task ≡ None = h.heard.begins refl (subst (λ (o : OpenCall). goes_on o.task ≡ true) (sym same) goes) in
    let some : IsSome (end_of z.task) = h.laws.finish (h.heard.goes.asked ∙ ap Some ends) in
    cc (subst IsSome none some)
never-ends None slot moment free todo left h x is goes ends = absurd h
never-ends (Some y) None moment free todo left h x is goes ends = absurd h

-- where its task has ended the leaf may be read whole
abbrev pub must-read-whole : (p : Parts) (w : ℕ) (todo : Todo) (m : MustStartOf p w todo) (outcome : Outcome) → end_of m.must.serving.task ≡ Some outcome → IsNotSolitary p.journal.past w m.must.serving.call → MustReadWhole p w
must-read-whole p w todo m outcome ended other = record { on = must-go-on p w todo m.must outcome ended (λ key get solitary. absurd (other key get solitary)); leads = m.knows.leads; quiet = m.knows.quiet; other = other; some = m.knows.some }

-- a call that went on from parts with other slots and tasks
pub told-went : (old mid : Parts) (w : ℕ) (answer : Applied) (new : Parts) → mid ≡ record old { slots = mid.slots; workers = mid.workers } → length mid.slots.free ≤ length old.slots.free → length old.slots.free ≤ length new.slots.free + SPLIT_SLOTS
    → WentOn mid w answer new → WentOn old w answer new
told-went old mid w answer new rest fewer few went = record {
  kept = went.kept;
  ends = subst (λ j. GoesOn j w answer new.journal) (ap (λ (p : Parts). p.journal) rest) went.ends;
  spends = record {
    taken = subst (λ (m : SwapMemory). (new.access.taken ≡ m.taken) ⊎ (new.access.taken ≡ m.taken + 1)) (ap (λ (p : Parts). p.access) rest) went.spends.taken;
    fewer = let less : length new.slots.free ≤ length mid.slots.free = went.spends.fewer in omega (arith, less, fewer);
    few = few;
  };
  full = subst (λ j. EndsFullRightly new.config j w new.journal (supply_of new)) (ap (λ (p : Parts). p.journal) rest) went.full;
  brief = subst (λ j. GetsBriefly new.config j w new.journal) (ap (λ (p : Parts). p.journal) rest) went.brief;
  solo = subst (λ (j : Log). length new.journal.past ≤ deadline new.config w j.past) (ap (λ (p : Parts). p.journal) rest) went.solo;
  begun = went.begun ∙ ap begun_with rest;
  supplied = λ whole. went.supplied (subst (λ (j : Log). RunsWhole new.config w j.past) (sym (ap (λ (p : Parts). p.journal) rest)) whole);
  little = λ whole. subst (λ (j : Log). EndsFullOfLittle new.config j w new.journal (begun_with new)) (ap (λ (p : Parts). p.journal) rest) (went.little (subst (λ (j : Log). RunsWhole new.config w j.past) (sym (ap (λ (p : Parts). p.journal) rest)) whole));
  unspent = subst (λ (j : Log). EndsUnspent j w new.journal (begun_with new) (supply_of new)) (ap (λ (p : Parts). p.journal) rest) went.unspent;
  exact = subst (λ (j : Log). EndsAsTold new.config j w new.journal (begun_with new) (supply_of new)) (ap (λ (p : Parts). p.journal) rest) went.exact;
  merged = subst (λ (j : Log). EndsMerged new.config j w new.journal) (ap (λ (p : Parts). p.journal) rest) went.merged;
  config = went.config ∙ ap (λ (p : Parts). p.config) rest;
  at_start = went.at_start ∙ ap (λ (p : Parts). p.at_start) rest;
  left_out = went.left_out ∙ ap (λ (p : Parts). p.left_out) rest;
  others = λ v ne. went.others v ne ∙ ap (λ (p : Parts). worker_of p.access v) rest;
}

-- or with another task, and another page on its way
pub went-anew : (p : Parts) (workers : Vec (Option OpenCall)) (page : List (List ℕ × List ℕ)) (w : ℕ) (answer : Applied) (new : Parts) → WentOn (record p { workers = workers; page = page }) w answer new → WentOn p w answer new
went-anew p workers page w answer new went = record {
  kept = went.kept;
  ends = went.ends;
  spends = let s = went.spends in record { taken = s.taken; fewer = s.fewer; few = s.few };
  full = went.full;
  config = went.config;
  at_start = went.at_start;
  left_out = went.left_out;
  others = went.others;
  brief = went.brief;
  solo = went.solo;
  begun = went.begun;
  supplied = went.supplied;
  little = went.little;
  unspent = went.unspent;
  exact = went.exact;
  merged = went.merged;
}

-- or that started something
pub went-started : (p : Parts) (workers : Vec (Option OpenCall)) (w : ℕ) (new : Parts) → IsAwake new → new ≡ record p { access = new.access; owners = new.owners; workers = workers }
    → (new.access.taken ≡ p.access.taken) ⊎ (new.access.taken ≡ p.access.taken + 1) → ((v : ℕ) → v ≢ w → worker_of new.access v ≡ worker_of p.access v) → HasRoomForEnd p w → (x : OpenCall) → get_or workers.items w None ≡ Some x → WentOn p w applied.Stepped new
went-started p workers w new kept rest taken others room x here = record {
  kept = kept;
  ends = ap (λ (z : Parts). z.journal) rest;
  spends = record {
    taken = taken;
    fewer = omega (arith, ap (λ (z : Parts). length z.slots.free) rest);
    few = omega (arith, ap (λ (z : Parts). length z.slots.free) rest);
  };
  full = λ n at spent e. absurd (not-longer (End w n (reply.Full spent) at) p.journal.past (sym (ap (λ (z : Parts). z.journal.past) rest) ∙ e));
  brief = λ n at answer opened key e. absurd (not-longer (End w n answer at) p.journal.past (sym (ap (λ (z : Parts). z.journal.past) rest) ∙ e));
  config = ap (λ (z : Parts). z.config) rest;
  at_start = ap (λ (z : Parts). z.at_start) rest;
  left_out = ap (λ (z : Parts). z.left_out) rest;
  others = others;
  solo = let l : length new.journal.past ≡ length p.journal.past = ap (λ (z : Parts). length z.journal.past) rest in subst (λ (c : Config). length new.journal.past ≤ deadline c w p.journal.past) (sym (ap (λ (z : Parts). z.config) rest)) (in-time l (room Marks tt));
  begun = ap begun_with rest;
  supplied = λ whole. kept-supply new kept w x (subst (λ (z : Parts). get_or z.workers.items w None ≡ Some x) (sym rest) here) (subst (λ (j : Log). RunsWhole new.config w j.past) (sym (ap (λ (z : Parts). z.journal) rest)) whole);
  little = λ whole n at spent e. absurd (not-longer (End w n (reply.Full spent) at) p.journal.past (sym (ap (λ (z : Parts). z.journal.past) rest) ∙ e));
  unspent = λ n at answer e tells solitary. absurd (not-longer (End w n answer at) p.journal.past (sym (ap (λ (z : Parts). z.journal.past) rest) ∙ e));
  merged = λ n at answer e. absurd (not-longer (End w n answer at) p.journal.past (sym (ap (λ (z : Parts). z.journal.past) rest) ∙ e));
  exact = λ n at answer opened e is-open solitary room. absurd (not-longer (End w n answer at) p.journal.past (sym (ap (λ (z : Parts). z.journal.past) rest) ∙ e));
}
  where
    in-time : length new.journal.past ≡ length p.journal.past → length p.journal.past + left_to p.access w + 1 ≤ deadline p.config w p.journal.past → length new.journal.past ≤ deadline p.config w p.journal.past
    in-time l enough = omega (arith, l, enough)

-- for what is no swap there is always room
pub starts-always : (p : Parts) (a : ℕ) (new : Parts) (b : Bool) → (b ≡ true → IsAwake new) → (b ≡ false → LacksDescriptor p (Read a)) → IsAwake new
starts-always p a new true started lacks = started refl
starts-always p a new false started lacks = let d = lacks refl in absurd (cc d.is)

-- a change is never answered by a Full
pub no-full : (called : Call) (had : Option (List ℕ)) (spent : Spent) → effect_reply called had ≡ reply.Full spent → ⊥
no-full (call.Insert key payload) None spent e = absurd (cc e)
no-full (call.Insert key payload) (Some had) spent e = absurd (cc e)
no-full (call.Delete key) None spent e = absurd (cc e)
no-full (call.Delete key) (Some had) spent e = absurd (cc e)
no-full (call.Update key payload) None spent e = absurd (cc e)
no-full (call.Update key payload) (Some had) spent e = absurd (cc e)
no-full (call.Upsert key payload) None spent e = absurd (cc e)
no-full (call.Upsert key payload) (Some had) spent e = absurd (cc e)
no-full (call.Get key) None spent e = absurd (cc e)
no-full (call.Get key) (Some had) spent e = absurd (cc e)
no-full (call.Page from) None spent e = absurd (cc e)
no-full (call.Page from) (Some had) spent e = absurd (cc e)
