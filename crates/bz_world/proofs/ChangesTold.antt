-- The task that makes a call's change: it is taken on, is told to begin, and ends then only for want of room.
use Rattle.std.proofs.Common.{◌≡◌, ◌≢◌, ◌+◌, ℕ, false, List, arith, refl, sym, ap, subst, ◌∙◌, inl, inr, Option, Some, None}
use Rattle.std.specs.Prelude.{get_or, is_some, IsSome}
use Rattle.bz_call.specs.declared.replies.Spent.{Spent}
use Rattle.bz_call.specs.declared.replies.Spent.TheVariants.{Nodes, Swaps, Height}
use Rattle.bz_layout.specs.Slots.{FreeSlots}
use Rattle.bz_solo.specs.Errands.{is_read}
use Rattle.bz_solo.specs.Prices.{coming}
use Rattle.bz_any_task.specs.Duties.{end_of, means_of}
use Rattle.bz_any_task.specs.Ends.{IsEndOf}
use Rattle.bz_any_task.specs.Hearing.{HasHeard}
use Rattle.bz_any_task.specs.Kinds as kinds
use Rattle.bz_any_task.specs.Kinds.{Kind, kind_of}
use Rattle.bz_any_task.specs.declared.running.AnyTask.{AnyTask}
use Rattle.bz_refinement.specs.Story.{scene}
use Rattle.bz_task.specs.Requests.{IsCause}
use Rattle.bz_task.specs.Scene.{Scene, IsScene}
use Rattle.bz_task.specs.declared.todo.Outcome.{Outcome}
use Rattle.bz_task.specs.declared.todo.Outcome.TheVariants.{Done, Restart, NeedsRoom, Full}
use Rattle.bz_task.specs.declared.todo.Seen.TheVariants.{Start}
use Rattle.bz_task.specs.declared.todo.Todo.{Todo}
use Rattle.bz_task.specs.declared.todo.Todo.TheVariants.{Finish}
use Rattle.bz_world.specs.Inside.Going.{MustTakeOn, MustChange, MustReadCrowded, IsChangeKind, known}
use Rattle.bz_world.specs.Inside.Laws.{UndisturbedLaws, RoundLaws}
use Rattle.bz_world.specs.Inside.Solitary.{IsNotSolitary}
use Rattle.bz_world.specs.Inside.Meant.{IsMeant}
use Rattle.bz_world.specs.Inside.Paid.{bound_in, errand_of, used_in, HasToSpare}
use Rattle.bz_world.specs.Inside.Telling.{MustStart, MustStartOf, HasToldIn, HasTold}
use Rattle.bz_world.specs.declared.parts.Parts.{Parts}
use Rattle.bz_world.specs.declared.serving.OpenCall.{OpenCall}
use Rattle.bz_world.proofs.Due.{looks-only}
use Rattle.bz_world.proofs.Exactly.{again-ended}
use Rattle.bz_world.proofs.Endings.{is_change, changes, change-renews-none, change-needs-room, room-no-look}
use Rattle.bz_world.proofs.Paid.{within-of, swaps-write}
use Rattle.bz_world.proofs.Powered.{begun-in}
use Rattle.bz_world.proofs.Spared.{most_in, most-kind, task-paid, writes-look}
use Rattle.bz_world.proofs.TakingOn.{must-read-whole, none-wanted}

-- what it is meant for, and that it is paid for
pub change-meant : (p : Parts) (w : ℕ) (had : Option (List ℕ)) (task : AnyTask) (m : MustChange p w had task) → IsMeant (record m.reads.on.serving { task = task; path = m.reads.on.serving.path; had = had }) (known p w m.reads.on).past
change-meant p w had task m = record {
  within = within-of task (λ a e. absurd (cc (sym (changes (kind_of task) m.kind) ∙ ap is_change e)));
  look = λ quiet. writes-look m.reads.on.serving.call (kind_of task) m.write;
  fit = record { words = m.reads.on.fit.words; thawed = m.reads.on.fit.thawed; quiet = m.reads.on.fit.quiet };
  first = λ other. m.reads.on.fit.quiet m.reads.quiet;
  meant = λ quiet. inl (record { slots = m.wants; swaps = inr m.changes });
  later = λ at is. change-renews-none (kind_of task) (changes (kind_of task) m.kind);
  small = λ merge. absurd (cc (sym (changes (kind_of task) m.kind) ∙ ap is_change merge));
  copied = λ copy. absurd (cc (sym (changes (kind_of task) m.kind) ∙ ap is_change copy));
}

pub change-spares : RoundLaws → (p : Parts) (w : ℕ) (had : Option (List ℕ)) (task : AnyTask) (m : MustChange p w had task) → HasToSpare p w m.reads.on.serving (known p w m.reads.on).past (λ r q. most_in r (kind_of task) + coming r q (errand_of m.reads.on.serving) (kind_of task))
change-spares b p w had task m r counted =
    b.less r p.access w (errand_of m.reads.on.serving) (used_in r p w) (bound_in r p w) (known p w m.reads.on).past (λ q. coming r q (errand_of m.reads.on.serving) kinds.Find) (λ q. most_in r (kind_of task) + coming r q (errand_of m.reads.on.serving) (kind_of task))
    (λ q. omega (arith, most-kind r task, b.changes r q (errand_of m.reads.on.serving) task (ap is_some m.reads.quiet) m.write m.kind)) (m.spares r counted)

-- and no change is a merge
pub no-merge : (k : Kind) → IsChangeKind k → k ≡ kinds.Merge → ⊥
no-merge k kind merge = cc (sym (changes k kind) ∙ ap is_change merge)

abbrev pub takes : RoundLaws → (p : Parts) (w : ℕ) (had : Option (List ℕ)) (task : AnyTask) (m : MustChange p w had task) → MustTakeOn p w task m.reads.on.serving.path had None
takes b p w had task m = record {
  on = m.reads.on;
  may = inl m.reads.quiet;
  tasked = m.tasked;
  asks = m.asks;
  facts = m.facts;
  wanted = none-wanted p w m.reads.on task m.wants;
  solitary = λ key get solitary. absurd (m.reads.other key get solitary);
  meant = change-meant p w had task m;
  paid = task-paid b p w m.reads.on task m.reads.on.serving.path had (kind_of task) refl m.tasked.laws m.asks m.made (change-meant p w had task m) (λ quiet merge. absurd (no-merge (kind_of task) m.kind merge)) (change-spares b p w had task m);
  due = λ quiet solitary. inl (m.due solitary);
  exact = m.exact;
  merges = m.merges;
}

-- told to begin, it ends in no other way
module _ (b : UndisturbedLaws) (p : Parts) (w : ℕ) (had : Option (List ℕ)) (task : AnyTask) (m : MustChange p w had task) (q : Parts) (todo : Todo) (asks : MustStart q w todo) (moment : ℕ) (free left : FreeSlots) (h : HasHeard task Start moment free todo asks.serving.task left) where
  abbrev here : Scene
  here = scene q.config q.journal.past asks.asking.between.story w asks.asking.between.call_open.look.since asks.asking.between.opened

  seen-here : IsScene here
  seen-here = (b.scenes q.config q.access q.journal asks.asking.between.story w asks.asking.between.call_open.look.since asks.asking.between.opened asks.asking.between.living (begun-in asks.asking.between.living asks.asking.between.call_open)).scene

  -- it makes its swap only where it is told so, and has read nothing yet that might differ
  not-done : end_of asks.serving.task ≢ Some Done
  not-done e = cc (h.goes.done e)

  not-again : end_of asks.serving.task ≢ Some Restart
  not-again e = elim (h.goes.restart e) [
    | inl lost ↦ cc lost
    | inr differs ↦ subst (λ o. IsCause o Start (known p w m.reads.on)) m.asks (m.tasked.laws.sound.cause (known p w m.reads.on) Start (sym m.tasked.config) m.facts differs)
  ]

  -- it takes no slot, and was not told that no descriptor is left
  not-full : (spent : Spent) → end_of asks.serving.task ≢ Some (Full spent)
  not-full Nodes e = omega (arith, h.goes.full_nodes e, m.tasked.laws.few, m.wants)
  not-full Swaps e = cc (h.goes.full_swaps e)
  not-full Height e = omega (arith, (asks.asking.tasked.laws.height here seen-here asks.asking.facts e).0, h.wants, m.wants)

  only-crowded : (o : Outcome) → end_of asks.serving.task ≡ Some o → o ≡ NeedsRoom
  only-crowded o e = change-needs-room (kind_of task) o m.kind (subst (λ k. IsEndOf k o) h.kind (asks.asking.tasked.laws.ends_of o here (asks.asking.tasked.laws.sound.ends here o asks.asking.facts e).0))
      (λ done. not-done (e ∙ ap Some done)) (λ again. not-again (e ∙ ap Some again)) (λ spent full. not-full spent (e ∙ ap Some full))

  crowded-by : (o : Option Outcome) → end_of asks.serving.task ≡ o → IsSome o → end_of asks.serving.task ≡ Some NeedsRoom
  crowded-by None e some = absurd (cc some)
  crowded-by (Some o) e some = e ∙ ap Some (only-crowded o e)

  pub ends-crowded : todo ≡ Finish → end_of asks.serving.task ≡ Some NeedsRoom
  ends-crowded ends = crowded-by (end_of asks.serving.task) refl (asks.asking.tasked.laws.finish (asks.asking.asks ∙ ap Some ends))

-- what it has heard
pub has-heard : (x : OpenCall) (old : Option OpenCall) (q : Parts) (w : ℕ) (todo : Todo) (asks : MustStart q w todo) (moment : ℕ) (free left : FreeSlots) → old ≡ Some x → HasToldIn old Start moment free todo (get_or q.workers.items w None) left → HasHeard x.task Start moment free todo asks.serving.task left
has-heard x old q w todo asks moment free left is told =
    let t : HasTold x Start moment free todo asks.serving left = subst (λ z. HasToldIn z Start moment free todo (Some asks.serving) left) is (subst (λ z. HasToldIn old Start moment free todo z left) asks.is told) in
    t.heard

-- where it has ended so its leaf is to be read whole
pub must-read-crowded : RoundLaws → (p : Parts) (w : ℕ) (todo : Todo) (m : MustStartOf p w todo) → end_of m.must.serving.task ≡ Some NeedsRoom → IsNotSolitary p.journal.past w m.must.serving.call → MustReadCrowded p w
must-read-crowded b p w todo m ended other = record {
  reads = must-read-whole p w todo m NeedsRoom ended other;
  write = writes;
  spares = λ r counted. b.leaves r p.access w (errand_of m.must.serving) (used_in r p w) (bound_in r p w) here.past (ap is_some m.knows.quiet) writes (λ alone. m.knows.lacks here means alone) (m.knows.spares r counted);
  due = λ solitary. elim (m.must.asking.between.due m.knows.quiet solitary) [
    | inl due ↦ due
    | inr none ↦ absurd (room-no-look (kind_of m.must.serving.task) (m.must.asking.tasked.laws.ends_of NeedsRoom here means) (looks-only m.must.serving.call (kind_of m.must.serving.task) none.looks))
  ];
  again = λ solitary room. again-ended p w (must-read-whole p w todo m NeedsRoom ended other).on m.knows.quiet NeedsRoom ended (m.must.asking.tasked.laws.ends_of NeedsRoom here means) (λ e. e) (λ e. e) solitary room;
}
  where
    here : Scene
    here = scene p.config p.journal.past m.must.asking.between.story w m.must.asking.between.call_open.look.since m.must.asking.between.opened

    means : means_of m.must.serving.task NeedsRoom here
    means = (m.must.asking.tasked.laws.sound.ends here NeedsRoom m.must.asking.facts ended).0

    -- no look-up ends so
    writes : is_read m.must.serving.call ≡ false
    writes = swaps-write m.must.serving.call (kind_of m.must.serving.task) (m.must.asking.meant.look m.knows.quiet) (room-no-look (kind_of m.must.serving.task) (m.must.asking.tasked.laws.ends_of NeedsRoom here means))
