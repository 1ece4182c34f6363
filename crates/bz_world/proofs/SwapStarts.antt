-- A worker starts a swap that its task asks for.
use Rattle.std.proofs.Common.{◌≡◌, ◌≢◌, ℕ, ◌<◌, if◌then◌else◌, Bool, false, List, [], ◌∷◌, ◌++◌, length, slice_index, arith, refl, sym, ap, subst, ◌∙◌, inl, inr, Option, Some, None}
use Rattle.std.specs.Prelude.{get_or, All}
use Rattle.std.specs.Global.{Vec}
use Rattle.std.proofs.lemmas.Bool.{cases_eq}
use Rattle.std.proofs.lemmas.List.{length-set}
use Rattle.std.proofs.Math.ListN.{get_or-append}
use Rattle.std.proofs.Math.Seq.{get_or-append_seam}
use Rattle.bz_solo.specs.FromAlone.Undisturbed.{IsUndisturbed}
use Rattle.bz_solo.specs.FromAlone.Counts.{HasOthers}
use Rattle.bz_any_task.specs.Duties.{made_of, facts_of}
use Rattle.bz_any_task.specs.Kinds.{kind_of}
use Rattle.bz_sight.specs.Sight.{IsHidden, IsSeen}
use Rattle.bz_sight.specs.Starts.{StartsAreSeen, Sees, StoresAreHidden, OwnWordsAreHidden}
use Rattle.bz_sound.specs.Solitary.{NoneIsOpenBesideASolitaryCall}
use Rattle.bz_refinement.specs.Laws.{ScenesAreSeen}
use Rattle.bz_refinement.specs.Living.{IsLiving, IsHeldBy}
use Rattle.bz_refinement.specs.Story.{scene}
use Rattle.bz_swap.specs.EntryLists.{IsEntryList}
use Rattle.bz_swap.specs.Held.{Holds}
use Rattle.bz_swap.specs.Starts.{MayWork, MaySwap, swapping}
use Rattle.bz_swap.specs.SwapMemory.{SwapMemory, Doing, Idle, Reading, Swapping, Loading, Storing, Flushing, doing_of, entries_of, is_named}
use Rattle.bz_task.specs.Requests.{IsEntryToAsk, IsOwnStore}
use Rattle.bz_task.specs.Scene.{Scene, Waiting, Took, IsScene}
use Rattle.bz_task.specs.declared.todo.Todo.{Todo}
use Rattle.bz_task.specs.declared.todo.Todo.TheVariants as todo
use Rattle.bz_word.specs.declared.entry.Entry.{Entry}
use Rattle.bz_world.specs.Inside.Acted.{IsBetween}
use Rattle.bz_world.specs.Inside.Alone.{untold, DoesWell, WaitsUndisturbed}
use Rattle.bz_world.specs.Inside.Exact.{reach_idle, reach_of, underway}
use Rattle.bz_world.specs.Inside.Kept.{IsAwake}
use Rattle.bz_world.specs.Inside.Laws.{UndisturbedLaws, BegunLaws}
use Rattle.bz_world.specs.Inside.Serving.{IsServing, IsDoing, IsSlot, stage_in, tells_of}
use Rattle.bz_world.specs.Inside.Telling.{MustStart}
use Rattle.bz_world.specs.declared.parts.Parts.{Parts}
use Rattle.bz_world.specs.declared.serving.OpenCall.{OpenCall}
use Rattle.bz_world.specs.Inside.Paid.{errand_of, no_extra, stock_of, IsPaidIn}
use Rattle.bz_world.proofs.PaidSteps.{starts-in}
use Rattle.bz_world.proofs.Alone.{waits-same}
use Rattle.bz_world.proofs.AloneStarts.{stands-now, starts-well, well-beside}
use Rattle.bz_world.proofs.Due.{looks-only, not-solitary}
use Rattle.bz_world.proofs.Exact.{exact-swaps, still-asks}
use Rattle.bz_world.proofs.Merging.{duly-swaps}
use Rattle.bz_world.proofs.Solitary.{in-place, only-own}
use Rattle.bz_world.proofs.Paid.{swapless}
use Rattle.bz_world.proofs.Powered.{begun-in}
use Rattle.bz_world.proofs.Starting.{starts-it, starts-others}
use Rattle.bz_world.proofs.Staying.{finishing-stays}
use Rattle.bz_world.proofs.Tabled.{tabled-beside}
use Rattle.bz_sight.specs.Awaiting.{Awaits}
use Rattle.bz_sight.proofs.Proved.{starts_keep_awaits}

module _ (scenes : ScenesAreSeen) (hidden : OwnWordsAreHidden) (p : Parts) (w : ℕ) (asked : Todo) (m : MustStart p w asked) where
  abbrev pub between : IsBetween p w m.serving
  between = m.asking.between

  -- the stores that others do are hidden
  store-by : (v a u : ℕ) (x : OpenCall) (h : IsServing p.config p.access p.journal between.story p.owners.items (stock_of p) v x) (t : Todo) → h.asked ≡ t → IsDoing p.access p.owners.items v t → doing_of p.access v ≡ Storing a u → IsHidden p.config (between.story.at (length p.journal.past)) a
  store-by v a u x h (todo.Read c) e d storing = absurd (cc (d, storing))
  store-by v a u x h (todo.Load c) e d storing = absurd d
  store-by v a u x h (todo.Flush line) e d storing = absurd (cc (d.0, storing))
  store-by v a u x h (todo.Swap entries) e d storing = absurd (cc (d.doing, storing))
  store-by v a u x h todo.Finish e d storing = absurd d
  store-by v a u x h (todo.Store c q) e d storing =
      let s : Scene = scene p.config p.journal.past between.story v h.call_open.look.since h.opened in
      let sees : Sees p.config (between.story.at (length p.journal.past)) (scene p.config p.journal.past between.story v h.call_open.look.since h.opened) = scenes p.config p.access p.journal between.story v h.call_open.look.since h.opened between.living (begun-in between.living h.call_open) in
      let same : todo.Store c q ≡ todo.Store a u = cc (d.0, storing) in
      let own : IsOwnStore (scene p.config p.journal.past between.story v h.call_open.look.since h.opened) a u =
      h.tasked.laws.sound.askable (scene p.config p.journal.past between.story v h.call_open.look.since h.opened) (todo.Store a u) (sym h.tasked.config)
      (subst (λ z. facts_of x.task z (scene p.config p.journal.past between.story v h.call_open.look.since h.opened)) (ap (stage_in p.access) storing) h.facts) sees.scene (h.asks ∙ ap Some (e ∙ same)) in
      hidden p.config (between.story.at (length p.journal.past)) (scene p.config p.journal.past between.story v h.call_open.look.since h.opened) a sees own.mine

  slot-store : (v a u : ℕ) (slot : Option OpenCall) → IsSlot p.config p.access p.journal between.story p.owners.items (stock_of p) v slot → doing_of p.access v ≡ Storing a u → IsHidden p.config (between.story.at (length p.journal.past)) a
  slot-store v a u None h storing = absurd (cc (h.idle, storing))
  slot-store v a u (Some x) h storing = store-by v a u x h h.asked refl h.doing storing

  pub stores-hidden : StoresAreHidden p.config (between.story.at (length p.journal.past)) p.access
  stores-hidden v a u storing = elim (cases_eq v w) [
    | inl e ↦ absurd (cc (storing, ap (doing_of p.access) e, between.idle))
    | inr ne ↦ slot-store v a u (get_or p.workers.items v None) (between.others v ne) storing
  ]

-- the swap has the number of the next descriptor, and the table names its worker
module _ (solo : UndisturbedLaws) (starts : StartsAreSeen) (scenes : ScenesAreSeen) (begun : BegunLaws) (alone : NoneIsOpenBesideASolitaryCall) (p : Parts) (w : ℕ) (entries : List Entry) (m : MustStart p w (todo.Swap entries)) (may : MaySwap p.access w entries) (ask : All (IsEntryToAsk (scene p.config p.journal.past m.asking.between.story w m.asking.between.call_open.look.since m.asking.between.opened)) entries)
    (holds : Holds (swapping p.access w entries)) (list : IsEntryList entries) (room : p.access.taken < p.config.swaps) (owners : Vec ℕ) (size : length owners.items ≡ p.config.swaps) (mine : slice_index owners.items p.access.taken ≡ w)
    (rest : (s : ℕ) → s ≢ p.access.taken → slice_index owners.items s ≡ slice_index p.owners.items s) where
  abbrev was : IsBetween p w m.serving
  was = m.asking.between

  abbrev new : SwapMemory
  new = swapping p.access w entries

  number : length p.access.begun ≡ p.access.taken
  number = was.taken.notes.noted.begun

  -- its entries stand at its number, and those of the others where they stood
  own-entries : entries_of new p.access.taken ≡ entries
  own-entries = subst (λ k. get_or (p.access.begun ++ entries ∷ []) k [] ≡ entries) number (get_or-append_seam p.access.begun entries [] [])

  other-entries : (s : ℕ) → s < p.access.taken → entries_of new s ≡ entries_of p.access s
  other-entries s l = get_or-append p.access.begun (entries ∷ []) [] s (omega (arith, l, number))

  work : MayWork p.access w
  work = may.work

  living : IsLiving p.config new p.journal was.story
  living =
      let seen : IsSeen p.config new (was.story.at (length p.journal.past)) = starts.swap p.config (was.story.at (length p.journal.past)) p.access w entries (scene p.config p.journal.past was.story w was.call_open.look.since was.opened) was.living.seen (scenes p.config p.access p.journal was.story w was.call_open.look.since was.opened was.living (begun-in was.living was.call_open)) may ask holds in
      let awaits : (v a : ℕ) → IsHeldBy p.config (was.story.at (length p.journal.past)) was.story v a → is_named new a ≡ false → Awaits new v a =
      λ v a held private. starts_keep_awaits.swap p.access w entries v a work.within (was.living.awaits v a held) private in
      assumption (was.living, seen, awaits)

  does : doing_of new w ≡ Swapping p.access.taken
  does = starts-it p.access w (Swapping p.access.taken) work.within

  waits : stage_in new (doing_of new w) ≡ Waiting
  waits = ap (stage_in new) does ∙ ap (λ z. if z then Took else Waiting) (was.taken.unused p.access.taken (omega arith))

  abbrev its-scene : Scene
  its-scene = scene p.config p.journal.past was.story w was.call_open.look.since was.opened

  none-yet : untold new (doing_of new w) ≡ 0
  none-yet = ap (untold new) does ∙ ap (λ (z : Bool). if z then 1 else 0) (was.taken.unused p.access.taken (omega arith))

  -- while nobody else's swap took effect since its look-up began, it goes well
  waits-now : WaitsUndisturbed new (doing_of new w) m.serving.task its-scene.past
  waits-now = record {
    others = told.0;
    counted = omega (arith, told.1, none-yet);
    well = λ none. subst (DoesWell new) (sym does) (starts-well p.access w entries was.taken.notes.noted own-entries
        (stands-now solo.stand p.config (was.story.at (length p.journal.past)) p.access w entries was.living.seen may
        ((solo.goes_on m.serving.task its-scene (sym m.asking.tasked.config) good m.asking.facts (undisturbed-by none)).stands entries m.asking.asks)));
    waited = record { scene = its-scene; config = sym m.asking.tasked.config; facts = m.asking.facts };
  }
    where
      good : IsScene its-scene
      good = (scenes p.config p.access p.journal was.story w was.call_open.look.since was.opened was.living (begun-in was.living was.call_open)).scene

      told : (others : ℕ) × HasOthers others (made_of m.serving.task) its-scene.past
      told = solo.counted m.serving.task its-scene good m.asking.facts

      undisturbed-by : told.0 ≡ 0 → IsUndisturbed (made_of m.serving.task) its-scene.past
      undisturbed-by none = omega (arith, told.1, none)

  -- its start is paid for
  pays : IsPaidIn p.config new p.journal.past (stock_of p) w (errand_of m.serving) m.serving.task 0 no_extra its-scene.past
  pays = starts-in solo.paid p.config p.access new p.journal.past (stock_of p) w (errand_of m.serving) m.serving.task 0 (todo.Swap entries) its-scene.past
      (record { left = solo.paid.steps.swap p.access w entries; taken = omega arith; rivals = solo.paid.rivals.swap p.access w entries }) m.asking.paid

  serves-on : IsServing p.config new p.journal was.story owners.items (stock_of p) w m.serving
  serves-on = record {
    opened = was.opened;
    call_open = was.call_open;
    tasked = m.asking.tasked;
    asked = todo.Swap entries;
    asks = m.asking.asks;
    doing = record { swap = p.access.taken; doing = does; same = own-entries; owner = mine; begun = omega arith; list = list };
    finishing = elim m.asking.finished [
      | inl on ↦ inl on
      | inr ends ↦ absurd (cc ends)
    ];
    facts = subst (λ z. facts_of m.serving.task z (scene p.config p.journal.past was.story w was.call_open.look.since was.opened)) (sym waits) m.asking.facts;
    covered = m.asking.covered;
    alone = waits-now;
    meant = m.asking.meant;
    paid = λ steps. subst (λ u. IsPaidIn p.config new p.journal.past (stock_of p) w (errand_of m.serving) m.serving.task u no_extra its-scene.past) (sym none-yet) pays;
    -- what only looks asks for no swap
    due = λ quiet solitary. elim (was.due quiet solitary) [
      | inl due ↦ inl due
      | inr none ↦ absurd (swapless solo.paid.asked m.serving.task entries m.asking.asks (m.asking.tasked.laws.looks (looks-only m.serving.call (kind_of m.serving.task) none.looks)).swaps)
    ];
    merges = λ solitary. duly-swaps p.config p.journal its-scene.past (reach_idle p.access) (reach_of new w) (stock_of p) m.serving (omega arith) refl none-yet refl (ap underway does)
        (still-asks m.serving.task m.asking.tasked.laws (todo.Swap entries) m.asking.asks (λ ends. absurd (cc ends))) (swapless solo.paid.asked m.serving.task entries m.asking.asks) (λ looks. (m.asking.tasked.laws.looks looks).swaps) was.opened (m.asking.merges solitary);
    exact = λ solitary room. exact-swaps was.opened its-scene.past (reach_idle p.access) (reach_of new w) (stock_of p) (tells_of m.serving) m.serving (omega arith) refl none-yet refl (ap underway does)
        (still-asks m.serving.task m.asking.tasked.laws (todo.Swap entries) m.asking.asks (λ ends. absurd (cc ends)))
        (swapless solo.paid.asked m.serving.task entries m.asking.asks) (λ looks. (m.asking.tasked.laws.looks looks).swaps) (m.asking.exact solitary room);
  }

  -- the others do what they did
  other-begun : (v : ℕ) (slot : Option OpenCall) → IsSlot p.config p.access p.journal was.story p.owners.items (stock_of p) v slot → (s : ℕ) → doing_of p.access v ≡ Swapping s → s < p.access.taken
  other-begun v None h s e = absurd (cc (h.idle, e))
  other-begun v (Some x) h s e = by-doing h.asked h.doing
    where
      by-doing : (t : Todo) → IsDoing p.access p.owners.items v t → s < p.access.taken
      by-doing (todo.Read c) d = absurd (cc (d, e))
      by-doing (todo.Load c) d = absurd d
      by-doing (todo.Store c u) d = absurd (cc (d.0, e))
      by-doing (todo.Flush line) d = absurd (cc (d.0, e))
      by-doing todo.Finish d = absurd d
      by-doing (todo.Swap others) d = let same : d.swap ≡ s = cc (d.doing, e) in subst (λ t. t < p.access.taken) same d.begun

  other-slot : (v : ℕ) → v ≢ w → IsSlot p.config new p.journal was.story owners.items (stock_of p) v (get_or p.workers.items v None)
  other-slot v ne = slot-of (get_or p.workers.items v None) (was.others v ne)
    where
      slot-of : (slot : Option OpenCall) → IsSlot p.config p.access p.journal was.story p.owners.items (stock_of p) v slot → IsSlot p.config new p.journal was.story owners.items (stock_of p) v slot
      slot-of None h = record { none_open = h.none_open; idle = starts-others p.access w v (Swapping p.access.taken) ne ∙ h.idle; filled = h.filled }
      slot-of (Some x) h = record {
        opened = h.opened;
        call_open = assumption h.call_open;
        tasked = h.tasked;
        asked = h.asked;
        asks = h.asks;
        doing = doing-of h.asked h.doing;
        finishing = finishing-stays p.access new v x (starts-others p.access w v (Swapping p.access.taken) ne) h.finishing;
        facts = subst (λ z. facts_of x.task z (scene p.config p.journal.past was.story v h.call_open.look.since h.opened)) (sym (ap (stage_in new) (starts-others p.access w v (Swapping p.access.taken) ne) ∙ same-stage (doing_of p.access v))) h.facts;
        covered = h.covered;
        alone = waits-same p.access new v x.task (scene p.config p.journal.past was.story v h.call_open.look.since h.opened).past (starts-others p.access w v (Swapping p.access.taken) ne) (λ s d. refl)
            (λ s d well. well-beside p.access w s entries (other-entries s (other-begun v (Some x) h s d)) well) h.alone;
        meant = h.meant;
        paid = λ steps. absurd (ne (was.steps v steps));
        due = λ quiet solitary. absurd (not-solitary alone w v p.journal.past was.opened was.call_open.is_open ne solitary);
        merges = λ solitary. absurd (not-solitary alone w v p.journal.past was.opened was.call_open.is_open ne solitary);
        exact = λ solitary room. absurd (not-solitary alone w v p.journal.past was.opened was.call_open.is_open ne solitary);
      }
        where
          same-stage : (d : Doing) → stage_in new d ≡ stage_in p.access d
          same-stage Idle = refl
          same-stage (Reading c) = refl
          same-stage (Swapping s) = refl
          same-stage (Loading c) = refl
          same-stage (Storing c u) = refl
          same-stage (Flushing line) = refl

          doing-of : (t : Todo) → IsDoing p.access p.owners.items v t → IsDoing new owners.items v t
          doing-of (todo.Read c) d = starts-others p.access w v (Swapping p.access.taken) ne ∙ d
          doing-of (todo.Load c) d = absurd d
          doing-of (todo.Store c u) d = (starts-others p.access w v (Swapping p.access.taken) ne ∙ d.0, d.1)
          doing-of (todo.Flush line) d = (starts-others p.access w v (Swapping p.access.taken) ne ∙ d.0, d.1)
          doing-of todo.Finish d = absurd d
          doing-of (todo.Swap others) d = record {
            swap = d.swap;
            doing = starts-others p.access w v (Swapping p.access.taken) ne ∙ d.doing;
            same = other-entries d.swap d.begun ∙ d.same;
            owner = rest d.swap (λ e. absurd (omega (arith, e, d.begun))) ∙ d.owner;
            begun = omega (arith, d.begun);
            list = d.list;
          }

  slots : (v : ℕ) → IsSlot p.config new p.journal was.story owners.items (stock_of p) v (get_or p.workers.items v None)
  slots v = elim (cases_eq v w) [
    | inr ne ↦ other-slot v ne
    | inl e ↦ subst (λ u. IsSlot p.config new p.journal was.story owners.items (stock_of p) u (get_or p.workers.items u None)) (sym e)
        (subst (IsSlot p.config new p.journal was.story owners.items (stock_of p) w) (sym m.is) serves-on)
  ]

  pub swapping-kept : IsAwake (record p { access = new; owners = owners })
  swapping-kept = record {
    on = was.on;
    story = was.story;
    tabled = let t = was.tabled in tabled-beside (record { workers = refl; owners = size ∙ sym t.owner_places; crew = length-set p.access.workers w (record { doing = Swapping p.access.taken; flush_next = false }); steps = refl; rest = refl }) t;
    taken = let t = was.taken in record {
      shown = t.shown;
      held = begun.taken.swap p.access w entries work.within was.idle t.held;
      few = omega (arith, room);
      notes = record { zero = begun.zero.swap p.access w entries was.worker t.notes.zero; noted = begun.noted.swap p.access w entries t.notes.noted };
      unused = λ s l. t.unused s (omega (arith, l));
      only = λ s l seen. omega (arith, t.only s l seen);
      unstored = t.unstored;
    };
    living = living;
    sound = was.sound;
    leaves = was.leaves;
    free = was.free;
    workers = slots;
    solitary = only-own alone new p.journal.past was.story p.workers.items w was.opened was.call_open.is_open
        (in-place new p.journal.past was.story p.workers.items w m.serving was.opened m.is was.call_open.is_open (λ key get solitary. absurd (m.asking.solitary key get solitary)));
  }
