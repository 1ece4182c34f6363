-- A worker starts what its task asks for.
use Rattle.std.proofs.Common.{◌≡◌, ◌≢◌, ℕ, ◌+◌, ◌<◌, ◌≤◌, length, arith, false, refl, sym, ap, subst, ◌∙◌, inl, inr, None}
use Rattle.std.specs.Prelude.{get_or}
use Rattle.std.proofs.lemmas.Bool.{cases_eq}
use Rattle.std.proofs.lemmas.List.{get_or-set_same, get_or-set_other, length-set}
use Rattle.bz_solo.specs.FromAlone.Counts.{HasOthers}
use Rattle.bz_any_task.specs.Duties.{made_of, facts_of}
use Rattle.bz_sight.specs.Sight.{IsSeen}
use Rattle.bz_sight.specs.Starts.{StartsAreSeen, Sees}
use Rattle.bz_sound.specs.Solitary.{NoneIsOpenBesideASolitaryCall}
use Rattle.bz_refinement.specs.Living.{IsLiving, IsHeldBy}
use Rattle.bz_refinement.specs.Story.{Story, scene}
use Rattle.bz_task.specs.Requests.{IsAskable}
use Rattle.bz_swap.specs.Held.{Holds}
use Rattle.bz_swap.specs.Starts.{MayWork, started}
use Rattle.bz_swap.specs.SwapMemory.{SwapMemory, Doing, Working, Swapping, idle, doing_of, is_named}
use Rattle.bz_task.specs.Scene.{Scene, Waiting, IsScene}
use Rattle.bz_task.specs.declared.todo.Todo.{Todo}
use Rattle.bz_world.specs.Inside.Acted.{IsBetween}
use Rattle.bz_world.specs.Inside.Alone.{WaitsUndisturbed, untold}
use Rattle.bz_world.specs.Inside.Exact.{IsExact, underway}
use Rattle.bz_world.specs.Inside.Merging.{IsDuly}
use Rattle.bz_world.specs.Inside.Kept.{KeepsNotes, IsAwake}
use Rattle.bz_world.specs.Inside.Laws.{UndisturbedLaws, BegunLaws, StartLaws}
use Rattle.bz_world.specs.Inside.Serving.{IsServing, IsDoing, IsSlot, stage_in, tells_of}
use Rattle.bz_world.specs.Inside.Telling.{MustStart}
use Rattle.bz_world.specs.declared.parts.Parts.{Parts}
use Rattle.bz_solo.specs.FromCosts.Weights.{start_allows}
use Rattle.bz_swap.specs.Solo.{allowed_by_kind, left_to}
use Rattle.bz_world.specs.Inside.Paid.{errand_of, no_extra, stock_of, IsPaidIn}
use Rattle.bz_world.proofs.PaidSteps.{starts-in}
use Rattle.bz_world.proofs.Alone.{none-untold, none-well}
use Rattle.bz_world.proofs.Due.{not-solitary}
use Rattle.bz_world.proofs.Exact.{none-underway, reach-same}
use Rattle.bz_world.proofs.Solitary.{in-place, only-own, started-solitary}
use Rattle.bz_world.proofs.Powered.{begun-in}
use Rattle.bz_world.proofs.Staying.{SameFor, slot-same}
use Rattle.bz_world.proofs.Tabled.{tabled-beside}
use Rattle.bz_sight.specs.Awaiting.{Awaits}
use Rattle.bz_sight.proofs.Proved.{starts_keep_awaits}

-- what a worker does that has started something, and what the others do
pub starts-it : (m : SwapMemory) (w : ℕ) (doing : Doing) → w < length m.workers → doing_of (started m w doing) w ≡ doing
starts-it m w doing l = ap (λ (z : Working). z.doing) (get_or-set_same m.workers w (record { doing = doing; flush_next = false }) idle l)

pub starts-others : (m : SwapMemory) (w v : ℕ) (doing : Doing) → v ≢ w → doing_of (started m w doing) v ≡ doing_of m v
starts-others m w v doing ne = ap (λ (z : Working). z.doing) (get_or-set_other m.workers w v (record { doing = doing; flush_next = false }) idle ne)

-- the worker may start something
pub may-work : (p : Parts) (w : ℕ) (todo : Todo) → (m : MustStart p w todo) → MayWork p.access w
may-work p w todo m = let between = m.asking.between in record {
  some = between.worker;
  within = omega (arith, between.tabled.crew, between.within);
  idle = between.idle;
  phase = between.living.seen.phase;
}

-- what it asks for may be asked for
pub record IsAskedFor (p : Parts) (s : Scene) (story : Story) (todo : Todo) : Type 0 where
  pub sees : Sees p.config (story.at (length p.journal.past)) s
  pub askable : IsAskable s todo

pub may-ask : StartLaws → (p : Parts) (w : ℕ) (todo : Todo) → (m : MustStart p w todo) → IsAskedFor p (scene p.config p.journal.past m.asking.between.story w m.asking.between.call_open.look.since m.asking.between.opened) m.asking.between.story todo
may-ask b p w todo m =
    let sees : Sees p.config (m.asking.between.story.at (length p.journal.past)) (scene p.config p.journal.past m.asking.between.story w m.asking.between.call_open.look.since m.asking.between.opened) = b.scenes p.config p.access p.journal m.asking.between.story w m.asking.between.call_open.look.since m.asking.between.opened m.asking.between.living (begun-in m.asking.between.living m.asking.between.call_open) in
    record {
      sees = sees;
      askable = m.asking.tasked.laws.sound.askable (scene p.config p.journal.past m.asking.between.story w m.asking.between.call_open.look.since m.asking.between.opened) todo (sym m.asking.tasked.config) m.asking.facts sees.scene m.asking.asks;
    }

-- a read, a store or a flush
module _ (solo : UndisturbedLaws) (starts : StartsAreSeen) (begun : BegunLaws) (alone : NoneIsOpenBesideASolitaryCall) (p : Parts) (w : ℕ) (todo : Todo) (m : MustStart p w todo) (doing : Doing) (holds : Holds (started p.access w doing)) (does : IsDoing (started p.access w doing) p.owners.items w todo)
    (waits : stage_in (started p.access w doing) doing ≡ Waiting) (no-swap : (s : ℕ) → doing ≢ Swapping s) (allows : allowed_by_kind doing ≡ start_allows todo) where
  abbrev between : IsBetween p w m.serving
  between = m.asking.between

  work : MayWork p.access w
  work = may-work p w todo m

  living : IsLiving p.config (started p.access w doing) p.journal between.story
  living =
      let seen : IsSeen p.config (started p.access w doing) (between.story.at (length p.journal.past)) = starts.start p.config (between.story.at (length p.journal.past)) p.access w doing between.living.seen work.some holds in
      let awaits : (v a : ℕ) → IsHeldBy p.config (between.story.at (length p.journal.past)) between.story v a → is_named (started p.access w doing) a ≡ false → Awaits (started p.access w doing) v a =
      λ v a held private. starts_keep_awaits.start p.access w doing v a work.within (between.living.awaits v a held private) in
      assumption (between.living, seen, awaits)

  abbrev its-scene : Scene
  its-scene = scene p.config p.journal.past between.story w between.call_open.look.since between.opened

  -- it is no swap
  none : (s : ℕ) → doing_of (started p.access w doing) w ≢ Swapping s
  none s e = no-swap s (sym (starts-it p.access w doing work.within) ∙ e)

  waits-now : WaitsUndisturbed (started p.access w doing) (doing_of (started p.access w doing) w) m.serving.task its-scene.past
  waits-now =
      let good : IsScene its-scene = (solo.scenes p.config p.access p.journal between.story w between.call_open.look.since between.opened between.living (begun-in between.living between.call_open)).scene in
      let told : (others : ℕ) × HasOthers others (made_of m.serving.task) its-scene.past = solo.counted m.serving.task its-scene good m.asking.facts in
      record {
        others = told.0;
        counted = omega (arith, told.1, none-untold (started p.access w doing) (doing_of (started p.access w doing) w) none);
        well = λ alone. none-well (started p.access w doing) (doing_of (started p.access w doing) w) none;
        waited = record { scene = its-scene; config = sym m.asking.tasked.config; facts = m.asking.facts };
      }

  -- its start is paid for
  pays : IsPaidIn p.config (started p.access w doing) p.journal.past (stock_of p) w (errand_of m.serving) m.serving.task 0 no_extra its-scene.past
  pays = starts-in solo.paid p.config p.access (started p.access w doing) p.journal.past (stock_of p) w (errand_of m.serving) m.serving.task 0 todo its-scene.past (record {
    left = let more : left_to (started p.access w doing) w ≤ left_to p.access w + allowed_by_kind doing = solo.paid.kinds.start p.access w doing in omega (arith, more, allows);
    taken = omega arith;
    rivals = solo.paid.rivals.start p.access w doing;
  }) m.asking.paid

  serves-on : IsServing p.config (started p.access w doing) p.journal between.story p.owners.items (stock_of p) w m.serving
  serves-on = record {
    opened = between.opened;
    call_open = between.call_open;
    tasked = m.asking.tasked;
    asked = todo;
    asks = m.asking.asks;
    doing = does;
    finishing = elim m.asking.finished [
      | inl on ↦ inl on
      | inr ends ↦ absurd (subst (IsDoing (started p.access w doing) p.owners.items w) ends does)
    ];
    facts = subst (λ z. facts_of m.serving.task z (scene p.config p.journal.past between.story w between.call_open.look.since between.opened)) (sym (ap (stage_in (started p.access w doing)) (starts-it p.access w doing work.within) ∙ waits)) m.asking.facts;
    covered = m.asking.covered;
    alone = waits-now;
    meant = m.asking.meant;
    paid = λ steps. subst (λ u. IsPaidIn p.config (started p.access w doing) p.journal.past (stock_of p) w (errand_of m.serving) m.serving.task u no_extra its-scene.past) (sym (none-untold (started p.access w doing) (doing_of (started p.access w doing) w) none)) pays;
    due = between.due;
    merges = λ solitary. subst (λ r. IsDuly p.config p.journal between.opened its-scene.past r (stock_of p) m.serving) (sym (reach-same (started p.access w doing).taken (untold (started p.access w doing) (doing_of (started p.access w doing) w)) (underway (doing_of (started p.access w doing) w)) p.access.taken 0 0 refl
        (none-untold (started p.access w doing) (doing_of (started p.access w doing) w) none) (none-underway (doing_of (started p.access w doing) w) none))) (m.asking.merges solitary);
    exact = λ solitary room. subst (λ r. IsExact between.opened its-scene.past r (stock_of p) (tells_of m.serving) m.serving) (sym (reach-same (started p.access w doing).taken (untold (started p.access w doing) (doing_of (started p.access w doing) w)) (underway (doing_of (started p.access w doing) w)) p.access.taken 0 0 refl
        (none-untold (started p.access w doing) (doing_of (started p.access w doing) w) none) (none-underway (doing_of (started p.access w doing) w) none))) (m.asking.exact solitary room);
  }

  same-other : (v : ℕ) → v ≢ w → SameFor p.access (started p.access w doing) v
  same-other v ne = record { doing = starts-others p.access w v doing ne; begun = refl; taken = refl; size = refl; effects = λ s d. refl }

  slots : (v : ℕ) → IsSlot p.config (started p.access w doing) p.journal between.story p.owners.items (stock_of p) v (get_or p.workers.items v None)
  slots v = elim (cases_eq v w) [
    | inr ne ↦ slot-same p.config p.access (started p.access w doing) p.journal between.story p.owners.items p.owners.items (stock_of p) (stock_of p) v (get_or p.workers.items v None) (same-other v ne) (λ s d well. record { unnoted = well.unnoted; stands = well.stands }) (λ s d. refl) (λ is. ne (between.steps v is)) (not-solitary alone w v p.journal.past between.opened between.call_open.is_open ne) (between.others v ne)
    | inl e ↦ subst (λ u. IsSlot p.config (started p.access w doing) p.journal between.story p.owners.items (stock_of p) u (get_or p.workers.items u None)) (sym e)
        (subst (IsSlot p.config (started p.access w doing) p.journal between.story p.owners.items (stock_of p) w) (sym m.is) serves-on)
  ]

  notes : KeepsNotes (started p.access w doing)
  notes = let t = between.taken.notes in record {
    zero = λ s e. t.zero s (sym (starts-others p.access w 0 doing (λ z. absurd (omega (arith, z, between.worker)))) ∙ e);
    noted = begun.noted.start p.access w doing t.noted;
  }

  pub started-kept : IsAwake (record p { access = started p.access w doing })
  started-kept = record {
    on = between.on;
    story = between.story;
    tabled = tabled-beside (record { workers = refl; owners = refl; crew = length-set p.access.workers w (record { doing = doing; flush_next = false }); steps = refl; rest = refl }) between.tabled;
    taken = let t = between.taken in record { shown = t.shown; held = begun.taken.start p.access w doing between.idle t.held; few = t.few; notes = notes; unused = t.unused; only = t.only; unstored = t.unstored };
    living = living;
    sound = between.sound;
    leaves = between.leaves;
    free = between.free;
    workers = slots;
    solitary = only-own alone (started p.access w doing) p.journal.past between.story p.workers.items w between.opened between.call_open.is_open
        (in-place (started p.access w doing) p.journal.past between.story p.workers.items w m.serving between.opened m.is between.call_open.is_open
        (λ key get solitary. started-solitary p.access p.journal.past between.story p.owners.items w m.serving between.opened key doing todo (m.asking.solitary key get solitary) does (starts-it p.access w doing work.within)));
  }
