-- An act of a worker by which no swap takes effect: the world but for this worker.
use Rattle.std.proofs.Common.{◌≡◌, ◌≢◌, ℕ, ◌+◌, ◌<◌, ◌≤◌, ◌∷◌, true, length, arith, refl, sym, ap, subst, ◌∙◌, inl, inr, Some, None}
use Rattle.std.specs.Prelude.{get_or}
use Rattle.std.proofs.lemmas.Bool.{cases_eq, cases_lt}
use Rattle.bz_swap_acts.specs.declared.acted.Act.{Act}
use Rattle.bz_swap_machine.specs.declared.done.Done.{Done}
use Rattle.bz_swap_machine.specs.declared.done.Done.TheVariants.{Busy, Read, Swapped, Stored, Flushed}
use Rattle.bz_mark.specs.Log.{with_mark}
use Rattle.bz_any_task.specs.Duties.{facts_of}
use Rattle.bz_sight.specs.Passing.{Passes, Passed}
use Rattle.bz_sight.specs.Sight.{next_instant}
use Rattle.bz_sight.specs.Starts.{Sees}
use Rattle.bz_sound.specs.Calls.{Open, open_call}
use Rattle.bz_sound.specs.Memory.Calls.{HasOpenCall}
use Rattle.bz_sound.specs.Power.Sound.{IsSound}
use Rattle.bz_refinement.specs.Laws.{HasBegun, GoesOn, goes_on, KeepsAwaited}
use Rattle.bz_refinement.specs.Living.{IsLiving}
use Rattle.bz_refinement.specs.Story.{Story, scene, and_then}
use Rattle.bz_swap.specs.SwapMemory.{Doing, Idle, Storing, doing_of}
use Rattle.bz_swap.specs.Steps.{doing_after}
use Rattle.bz_task.specs.Requests.{IsAskable, IsOwnStore}
use Rattle.bz_task.specs.Scene.{Continues, IsLawful, Waiting}
use Rattle.bz_task.specs.declared.todo.Todo.{Todo}
use Rattle.bz_task.specs.declared.todo.Todo.TheVariants as todo
use Rattle.bz_world.specs.Inside.Acted.{IsActed, IsBetween}
use Rattle.bz_world.specs.Inside.Kept.{IsTabled, AreTaken, AreFree, IsAwake}
use Rattle.bz_world.specs.Inside.Solitary.{IsSolitaryIn}
use Rattle.bz_world.specs.WorldView.{mark_of}
use Rattle.bz_world.specs.Inside.Serving.{IsServing, IsDoing, IsSlot, stage_in, tells_of}
use Rattle.bz_world.specs.declared.parts.Parts.{Parts}
use Rattle.bz_world.specs.declared.serving.OpenCall.{OpenCall}
use Rattle.bz_sound.specs.Power.Times.{image_at_on}
use Rattle.bz_rivals.specs.Rivals.{rivals}
use Rattle.bz_refinement.proofs.Powered.{stored-since}
use Rattle.bz_world.specs.Inside.Alone.{untold}
use Rattle.bz_world.specs.Inside.Due.{TakesRightly}
use Rattle.bz_world.specs.Inside.Exact.{CountsExactly, reach, reach_of, underway}
use Rattle.bz_world.specs.Inside.Paid.{errand_of, no_extra, runner, stock_of, IsPaidIn}
use Rattle.bz_world.proofs.Alone.{untold-by, waits-on, well-acted}
use Rattle.bz_world.proofs.Due.{act-map, not-solitary, rightly-on}
use Rattle.bz_world.proofs.Exact.{exact-on, reach-same}
use Rattle.bz_world.proofs.LeavesKept.{passed-leaves}
use Rattle.bz_world.proofs.Solitary.{solitary-act}
use Rattle.bz_world.proofs.Paid.{act-steps, act-runs, one-steps, who-steps, paid-here, next-is}
use Rattle.bz_world.proofs.PaidSteps.{StepsFurther, quiet-in}
use Rattle.bz_world.proofs.Powered.{begun-in, looks-on, free-on, leaves-power, may-act}
use Rattle.bz_world.proofs.Owners.{pending-begun}
use Rattle.bz_world.proofs.Marking.{act-marked, act-kept, act-calls}
use Rattle.bz_world.specs.Inside.Laws.{StepLaws}
use Rattle.bz_world.specs.Leaves.{LeavesFollow}
use Rattle.bz_world.proofs.Stepped.{act-tabled, act-taken, act-sound, held}
use Rattle.bz_world.proofs.Staying.{SameFor, Pays, slot-stays, told-stays, wanted-stays, Takes, none-takes-well}
use Rattle.bz_world.proofs.ToldActs.{act-avoids, own-avoids}
use Rattle.bz_world.specs.Inside.Merging.{MergesDuly}
use Rattle.bz_world.proofs.Merging.{duly-later, still-effects}
use Rattle.bz_sight.specs.Acts.{IsStoring}
use Rattle.bz_refinement.proofs.Proved.{acts_keep_awaited}

-- the call of a worker that serves one is open, so it is one of the workers
module _ (p : Parts) (k : IsAwake p) (w : ℕ) (x : OpenCall) (is-worker : get_or p.workers.items w None ≡ Some x) where
  pub serves : IsServing p.config p.access p.journal k.story p.owners.items (stock_of p) w x
  serves = subst (IsSlot p.config p.access p.journal k.story p.owners.items (stock_of p) w) is-worker (k.workers w)

  has-call : ¬ (open_call w p.journal.past ≡ None)
  has-call e = absurd (cc (e, serves.call_open.is_open))

  pub some-worker : 0 < w
  some-worker = elim (cases_eq w 0) [
    | inl e ↦ absurd (has-call (k.tabled.strangers w (inl e)))
    | inr ne ↦ omega (arith, ne)
  ]

  pub within-crew : w ≤ p.config.workers
  within-crew = elim (cases_lt p.config.workers w) [
    | inl l ↦ absurd (has-call (k.tabled.strangers w (inr l)))
    | inr l ↦ l
  ]

  pub call-is-open : HasOpenCall p.journal.past w
  call-is-open = record { opened = serves.opened; is_open = serves.call_open.is_open }

pub idle-by : (d : Doing) (done : Done) → done ≢ Busy → doing_after d done ≡ Idle
idle-by d Busy ne = absurd (ne refl)
idle-by d (Read v) ne = refl
idle-by d (Swapped won) ne = refl
idle-by d Stored ne = refl
idle-by d Flushed ne = refl

-- worker w, which serves x, made an act at which no swap took effect
module _ (b : StepLaws) (old new : Parts) (w : ℕ) (x : OpenCall) (made : Act) (done : Done) (k : IsAwake old) (is-worker : get_or old.workers.items w None ≡ Some x) (a : IsActed old w made done None new) where
  abbrev pub s : IsServing old.config old.access old.journal k.story old.owners.items (stock_of old) w x
  s = serves old k w x is-worker

  pub sees : (v : ℕ) (y : OpenCall) → (t : IsServing old.config old.access old.journal k.story old.owners.items (stock_of old) v y) → Sees old.config (k.story.at (length old.journal.past)) (scene old.config old.journal.past k.story v t.call_open.look.since t.opened)
  sees v y t = b.scenes old.config old.access old.journal k.story v t.call_open.look.since t.opened k.living (begun-in k.living t.call_open)

  -- what its task asks for may be asked for
  pub askable : (todo : Todo) → s.asked ≡ todo → stage_in old.access (doing_of old.access w) ≡ Waiting → IsAskable (scene old.config old.journal.past k.story w s.call_open.look.since s.opened) todo
  askable todo e waits = s.tasked.laws.sound.askable (scene old.config old.journal.past k.story w s.call_open.look.since s.opened) todo (sym s.tasked.config) (subst (λ z. facts_of x.task z (scene old.config old.journal.past k.story w s.call_open.look.since s.opened)) waits s.facts) (sees w x s).scene (s.asks ∙ ap Some e)

  -- a private store that it does is its own
  own-store : (todo : Todo) → s.asked ≡ todo → IsDoing old.access old.owners.items w todo → (d u : ℕ) → doing_of old.access w ≡ Storing d u → IsOwnStore (scene old.config old.journal.past k.story w s.call_open.look.since s.opened) d u
  own-store (todo.Read c) e h d u storing = absurd (cc (h, storing))
  own-store (todo.Load c) e h d u storing = absurd h
  own-store (todo.Store c v) e h d u storing = askable (todo.Store d u) (e ∙ cc (h.0, storing)) (ap (stage_in old.access) storing)
  own-store (todo.Flush line) e h d u storing = absurd (cc (h.0, storing))
  own-store (todo.Swap entries) e h d u storing = absurd (cc (h.doing, storing))
  own-store todo.Finish e h d u storing = absurd h

  pub own : (d u : ℕ) → doing_of old.access w ≡ Storing d u → IsOwnStore (scene old.config old.journal.past k.story w s.call_open.look.since s.opened) d u
  own = own-store s.asked refl s.doing

  pub passes : Passes old.config (k.story.at (length old.journal.past)) old.access new.access
  passes = b.steps old.config (k.story.at (length old.journal.past)) old.access new.access w made done k.living.seen a.step a.held
      (λ d u storing. b.hidden old.config (k.story.at (length old.journal.past)) (scene old.config old.journal.past k.story w s.call_open.look.since s.opened) d (sees w x s) (own d u storing).mine)

  pub passed : Passed old.config (k.story.at (length old.journal.past)) new.access
  passed = b.pass old.config (k.story.at (length old.journal.past)) old.access new.access k.living.seen passes

  -- what others await stays in the caches
  quiet-keeps : ((d u : ℕ) → doing_of old.access w ≢ Storing d u) → KeepsAwaited old.config old.access new.access old.journal k.story
  quiet-keeps none = acts_keep_awaited.quiet old.config old.access new.access old.journal k.story k.living (b.caches old.access new.access w made done None a.step none)

  keeps-by : (todo : Todo) → s.asked ≡ todo → IsDoing old.access old.owners.items w todo → KeepsAwaited old.config old.access new.access old.journal k.story
  keeps-by (todo.Read c) e h = quiet-keeps (λ d u storing. absurd (cc (h, storing)))
  keeps-by (todo.Load c) e h = absurd h
  keeps-by (todo.Flush line) e h = quiet-keeps (λ d u storing. absurd (cc (h.0, storing)))
  keeps-by (todo.Swap entries) e h = quiet-keeps (λ d u storing. absurd (cc (h.doing, storing)))
  keeps-by todo.Finish e h = absurd h
  keeps-by (todo.Store c v) e h =
      let stores : IsStoring old.access new.access made done None c v = b.storing old.config (k.story.at (length old.journal.past)) old.access new.access w made done None c v k.living.seen a.step h.0 h.1 in
      acts_keep_awaited.store old.config old.access new.access old.journal k.story w c v s.call_open.look.since s.opened k.living
      (record { stores = stores.stores; begun = begun-in k.living s.call_open; own = own c v h.0 }) (a.step.one.doing ∙ ap (doing_after (doing_of old.access w)) stores.answer)

  pub goes : GoesOn old.config old.access new.access old.journal k.story (mark_of w made)
  goes = record { living = k.living; passes = passes; keeps = keeps-by s.asked refl s.doing; marked = act-marked w old.access new.access old.journal made done k.living.words k.living.past a.step.one; past = act-kept w old.access new.access old.journal made done k.living.words k.living.past a.step.one; powered = leaves-power w old.journal.past made }

  pub sound : IsSound old.config old.at_start (with_mark old.journal (mark_of w made))
  sound = act-sound b.journal old new k.story w made done None k.living k.sound a (may-act old.at_start old.journal.past w (some-worker old k w x is-worker) (call-is-open old k w x is-worker)) passed

  -- the leaves stay as many
  life : IsLiving old.config new.access (with_mark old.journal (mark_of w made)) (goes_on old.journal k.story new.access k.story.filled)
  life = b.lives old.config old.access new.access old.journal k.story (mark_of w made) k.story.filled goes (λ v j f. stored-since old.config old.journal.past (mark_of w made) j (leaves-power w old.journal.past made) (k.living.stored v j f))

  pub leaves : LeavesFollow old.config old.at_start old.journal.start old.journal.past (mark_of w made)
  leaves = passed-leaves b.ranges old.config old.at_start old.access new.access old.journal (mark_of w made) k.story (goes_on old.journal k.story new.access k.story.filled) k.living life refl passed

  -- what others do is the same
  pub same-other : (v : ℕ) → v ≢ w → SameFor old.access new.access v
  same-other v ne = record {
    doing = ap (λ z. z.doing) (a.step.one.others.workers v ne);
    begun = a.step.one.others.begun;
    taken = a.step.one.others.taken;
    size = a.step.one.others.size;
    effects = λ t d. a.step.effect.swaps t;
  }

  pub same-own : done ≡ Busy → SameFor old.access new.access w
  same-own busy = record {
    doing = a.step.one.doing ∙ ap (doing_after (doing_of old.access w)) busy;
    begun = a.step.one.others.begun;
    taken = a.step.one.others.taken;
    size = a.step.one.others.size;
    effects = λ t d. a.step.effect.swaps t;
  }

  -- it has stepped, and took no descriptor
  pub further : StepsFurther old.access new.access w
  further = record { left = a.step.one.spent; taken = a.step.one.others.taken }

  pub few-rivals : rivals new.access w ≤ rivals old.access w
  few-rivals = let few : rivals new.access w + 0 ≤ rivals old.access w = b.solo.paid.rivals.step old.access new.access w made done None a.step in omega (arith, few)

  -- which is paid for
  pub quiet-paid : (after : Story) → IsLiving old.config new.access (with_mark old.journal (mark_of w made)) after → after.at ≡ and_then k.story.at (length old.journal.past) (next_instant new.access (k.story.at (length old.journal.past)))
      → (y : OpenCall) (t : IsServing old.config old.access old.journal k.story old.owners.items (stock_of old) w y) → HasBegun (with_mark old.journal (mark_of w made)) after t.call_open.look.since
      → Continues (scene old.config old.journal.past k.story w t.call_open.look.since t.opened).past (scene old.config (mark_of w made ∷ old.journal.past) after w t.call_open.look.since t.opened).past
      → IsPaidIn old.config new.access (mark_of w made ∷ old.journal.past) (stock_of old) w (errand_of y) y.task (untold old.access (doing_of old.access w)) no_extra (scene old.config (mark_of w made ∷ old.journal.past) after w t.call_open.look.since t.opened).past
  quiet-paid after living at y t begun continues =
      quiet-in b.solo.paid old.config old.access new.access old.journal.past (mark_of w made) (stock_of old) w (errand_of y) y.task (untold old.access (doing_of old.access w)) (scene old.config old.journal.past k.story w t.call_open.look.since t.opened).past
      (scene old.config (mark_of w made ∷ old.journal.past) after w t.call_open.look.since t.opened)
      (b.scenes old.config new.access (with_mark old.journal (mark_of w made)) after w t.call_open.look.since t.opened living begun).scene
      (next-is old.config old.journal.past (mark_of w made) k.story after w t.call_open.look.since t.opened t.opened (next_instant new.access (k.story.at (length old.journal.past))) 0 at t.call_open.look.by_now (omega arith) continues)
      (act-steps w made old.journal.past) further few-rivals (paid-here b.solo.paid old k w y t (some-worker old k w x is-worker) (within-crew old k w x is-worker))

  -- and the others do not step
  pub none-pays : (after : Story) (v : ℕ) → v ≢ w → Pays old.config old.access old.journal (mark_of w made) k.story after old.owners.items (stock_of old) (stock_of old) new.access v
  none-pays after v ne y t steps = absurd (one-steps v w ne (runner old.config (mark_of w made ∷ old.journal.past)) (act-runs old.config w made old.journal.past) steps)

  -- none of them is alone, and the worker itself has taken no more
  pub none-takes : (after : Story) (v : ℕ) → v ≢ w → Takes old.config old.access old.journal (mark_of w made) k.story after old.owners.items (stock_of old) (stock_of old) new.access v
  none-takes after v ne = none-takes-well old.config old.access new.access old.journal (mark_of w made) k.story after old.owners.items (stock_of old) (stock_of old) v
      (not-solitary b.solitary.alone w v (mark_of w made ∷ old.journal.past) s.opened (act-calls w w old.journal.past made ∙ s.call_open.is_open) ne)

  pub own-rightly : (y : OpenCall) → IsServing old.config old.access old.journal k.story old.owners.items (stock_of old) w y → TakesRightly old.config new.access.taken (with_mark old.journal (mark_of w made)) (stock_of old) w y
  own-rightly y t = rightly-on old.config old.access.taken new.access.taken old.journal (mark_of w made) (stock_of old) w y a.step.one.others.taken (act-map w made old.journal.past) (solitary-act w w old.journal.past made) t.due

  -- with as many of its swaps under way, and of its effects that it was not told
  pub own-exactly : (after : Story) → after.at ≡ and_then k.story.at (length old.journal.past) (next_instant new.access (k.story.at (length old.journal.past))) → (untold_now way : ℕ) → untold old.access (doing_of old.access w) ≡ untold_now → underway (doing_of old.access w) ≡ way
      → (y : OpenCall) (t : IsServing old.config old.access old.journal k.story old.owners.items (stock_of old) w y)
      → CountsExactly old.config (with_mark old.journal (mark_of w made)) w t.opened (scene old.config (mark_of w made ∷ old.journal.past) after w t.call_open.look.since t.opened).past (reach new.access.taken untold_now way) (stock_of old) (tells_of y) y
  own-exactly after at untold_now way unheard under y t = exact-on old.config old.journal (mark_of w made) k.story after w t.call_open.look.since t.opened (next_instant new.access (k.story.at (length old.journal.past))) at t.call_open.look.by_now (omega (arith, t.call_open.look.after_begin, t.call_open.look.by_now)) refl
      (reach_of old.access w) (reach new.access.taken untold_now way) (stock_of old) (tells_of y) y (reach-same new.access.taken untold_now way old.access.taken (untold old.access (doing_of old.access w)) (underway (doing_of old.access w)) a.step.one.others.taken (sym unheard) (sym under))
      (solitary-act w w old.journal.past made) t.exact

  -- and the merge that is due as due
  pub own-duly : (after : Story) → after.at ≡ and_then k.story.at (length old.journal.past) (next_instant new.access (k.story.at (length old.journal.past))) → (untold_now way : ℕ) → untold old.access (doing_of old.access w) ≡ untold_now → underway (doing_of old.access w) ≡ way
      → (y : OpenCall) (t : IsServing old.config old.access old.journal k.story old.owners.items (stock_of old) w y)
      → Continues (scene old.config old.journal.past k.story w t.call_open.look.since t.opened).past (scene old.config (mark_of w made ∷ old.journal.past) after w t.call_open.look.since t.opened).past
      → MergesDuly old.config (with_mark old.journal (mark_of w made)) w t.opened (scene old.config (mark_of w made ∷ old.journal.past) after w t.call_open.look.since t.opened).past (reach new.access.taken untold_now way) (stock_of old) y
  own-duly after at untold_now way unheard under y t continues solitary = duly-later old.config old.journal (mark_of w made) (scene old.config old.journal.past k.story w t.call_open.look.since t.opened).past (scene old.config (mark_of w made ∷ old.journal.past) after w t.call_open.look.since t.opened).past
      continues t.call_open.look.by_now refl (still-effects k.story after (length old.journal.past) (next_instant new.access (k.story.at (length old.journal.past))) at refl) b.solo.known (reach_of old.access w) (stock_of old) y t.opened (reach new.access.taken untold_now way)
      (reach-same new.access.taken untold_now way old.access.taken (untold old.access (doing_of old.access w)) (underway (doing_of old.access w)) a.step.one.others.taken (sym unheard) (sym under)) (t.merges (solitary-act w w old.journal.past made solitary))

  pub own-takes : (after : Story) → after.at ≡ and_then k.story.at (length old.journal.past) (next_instant new.access (k.story.at (length old.journal.past))) → SameFor old.access new.access w
      → ((y : OpenCall) (t : IsServing old.config old.access old.journal k.story old.owners.items (stock_of old) w y) → Continues (scene old.config old.journal.past k.story w t.call_open.look.since t.opened).past (scene old.config (mark_of w made ∷ old.journal.past) after w t.call_open.look.since t.opened).past)
      → Takes old.config old.access old.journal (mark_of w made) k.story after old.owners.items (stock_of old) (stock_of old) new.access w
  own-takes after at same continues y t = record {
    rightly = own-rightly y t;
    exactly = own-exactly after at (untold new.access (doing_of new.access w)) (underway (doing_of new.access w)) (sym (ap (untold new.access) same.doing ∙ untold-by old.access new.access (doing_of old.access w) same.effects)) (sym (ap underway same.doing)) y t;
    duly = own-duly after at (untold new.access (doing_of new.access w)) (underway (doing_of new.access w)) (sym (ap (untold new.access) same.doing ∙ untold-by old.access new.access (doing_of old.access w) same.effects)) (sym (ap underway same.doing)) y t (continues y t);
  }

  -- so what is known of a worker stays, if the mark is a lawful step for it
  pub stays : (after : Story) (v : ℕ) → IsLiving old.config new.access (with_mark old.journal (mark_of w made)) after → after.from ≡ k.story.from → SameFor old.access new.access v
      → ((since : ℕ) (opened : Open) → HasBegun old.journal k.story since → IsLawful (scene old.config old.journal.past k.story v since opened) (scene old.config (mark_of w made ∷ old.journal.past) after v since opened))
      → ((j : ℕ) → after.took v j ≡ k.story.took v j) → ((j : ℕ) → k.story.filled v j ≡ true → after.filled v j ≡ true) → after.at ≡ and_then k.story.at (length old.journal.past) (next_instant new.access (k.story.at (length old.journal.past)))
      → Pays old.config old.access old.journal (mark_of w made) k.story after old.owners.items (stock_of old) (stock_of old) new.access v → Takes old.config old.access old.journal (mark_of w made) k.story after old.owners.items (stock_of old) (stock_of old) new.access v → IsSlot old.config new.access (with_mark old.journal (mark_of w made)) after old.owners.items (stock_of old) v (get_or old.workers.items v None)
  stays after v living from same lawful took filled at pays takes = slot-stays b.scenes b.stay old.config old.access new.access old.journal (mark_of w made) k.story after old.owners.items (stock_of old) (stock_of old) v (get_or old.workers.items v None) living (record {
    same = same;
    calls = act-calls v w old.journal.past made;
    from = from;
    lawful = lawful;
    took = took;
    filled = filled;
    alone = λ since opened t l h. waits-on old.config old.access new.access old.journal.past (mark_of w made) k.story after v since opened opened t (next_instant new.access (k.story.at (length old.journal.past))) at l h refl same.doing same.effects
        (λ j d well. well-acted b.solo.wins old.access new.access w made done j a.step well);
  }) pays takes (k.workers v)

  pub tabled : length old.journal.past < old.config.marks → IsTabled new
  tabled room = act-tabled old new w made done None k.tabled a room

  pub taken : AreTaken new
  taken = act-taken b.taken b.begun old new w made done None k.taken (held old.access k.living.seen.phase k.living.seen.holds) k.living.seen.swaps a (some-worker old k w x is-worker) (pending-begun old k)
      (act-avoids old.config old.access w made old.slots.free a.step.writes k.living.seen.swaps (λ d u storing. own-avoids old k w s.call_open.look.since s.opened d (own d u storing).mine))

  -- the world goes on
  pub goes-on : (after : Story) → length old.journal.past < old.config.marks → IsLiving old.config new.access (with_mark old.journal (mark_of w made)) after
      → AreFree old.config (image_at_on old.journal.start old.journal.past) old.slots after.took → ((v : ℕ) → IsSlot old.config new.access (with_mark old.journal (mark_of w made)) after old.owners.items (stock_of old) v (get_or old.workers.items v None)) → ((v : ℕ) → IsSolitaryIn new.access (mark_of w made ∷ old.journal.past) after old.workers.items v) → IsAwake new
  goes-on after room living free slots solitary = subst IsAwake (sym a.rest) (record {
    on = k.on;
    story = after;
    tabled = subst IsTabled a.rest (tabled room);
    taken = subst AreTaken a.rest taken;
    living = living;
    sound = sound;
    leaves = (leaves, k.leaves);
    free = free-on old.config old.journal.start old.journal.past (mark_of w made) old.slots after.took (leaves-power w old.journal.past made) free;
    workers = slots;
    solitary = solitary;
  })

  -- and the worker, whose operation was answered, is to be told
  abbrev pub answered : (after : Story) → length old.journal.past < old.config.marks → done ≢ Busy → IsLiving old.config new.access (with_mark old.journal (mark_of w made)) after
      → AreFree old.config (image_at_on old.journal.start old.journal.past) old.slots after.took → ((v : ℕ) → v ≢ w → IsSlot old.config new.access (with_mark old.journal (mark_of w made)) after old.owners.items (stock_of old) v (get_or old.workers.items v None))
      → IsBetween (record old { access = new.access; journal = with_mark old.journal (mark_of w made) }) w x
  answered after room ne living free slots = record {
    on = k.on;
    story = after;
    tabled = subst IsTabled a.rest (tabled room);
    taken = subst AreTaken a.rest taken;
    living = living;
    sound = sound;
    leaves = (leaves, k.leaves);
    free = free-on old.config old.journal.start old.journal.past (mark_of w made) old.slots after.took (leaves-power w old.journal.past made) free;
    others = slots;
    worker = some-worker old k w x is-worker;
    within = within-crew old k w x is-worker;
    opened = s.opened;
    call_open = record {
      is_open = act-calls w w old.journal.past made ∙ s.call_open.is_open;
      call = s.call_open.call;
      effect = s.call_open.effect;
      look = looks-on old.journal.past (mark_of w made) s.opened s.call_open.look;
      told = told-stays b.stay old.config old.journal (mark_of w made) w s.opened x.had s.call_open.is_open s.call_open.told;
      wanted = wanted-stays old.config old.journal (mark_of w made) s.opened x.task s.call_open.wanted;
    };
    idle = a.step.one.doing ∙ idle-by (doing_of old.access w) done ne;
    due = own-rightly x s;
    steps = λ v is. who-steps v w (runner old.config (mark_of w made ∷ old.journal.past)) (act-runs old.config w made old.journal.past) is;
  }
