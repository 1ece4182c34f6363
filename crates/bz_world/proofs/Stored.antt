-- What a worker is told of its private store.
use Rattle.std.proofs.Common.{◌≡◌, ◌≢◌, ℕ, suc, ◌<◌, true, ◌∷◌, length, arith, refl, sym, ap, subst, ◌∙◌, Some, None}
use Rattle.std.specs.Prelude.{get_or}
use Rattle.bz_swap_acts.specs.declared.acted.Act.{Act}
use Rattle.bz_swap_machine.specs.declared.done.Done.{Done}
use Rattle.bz_mark.specs.Log.{with_mark}
use Rattle.bz_any_task.specs.Duties.{needs_of, facts_of}
use Rattle.bz_sight.specs.Acts.{IsStoring}
use Rattle.bz_sight.specs.Sight.{next_instant}
use Rattle.bz_sight.specs.Starts.{Sees}
use Rattle.bz_refinement.specs.Laws.{HasBegun, IsStore, goes_on, fills}
use Rattle.bz_refinement.specs.Living.{IsLiving}
use Rattle.bz_refinement.specs.Story.{Story, scene}
use Rattle.bz_swap.specs.SwapMemory.{Storing, doing_of}
use Rattle.bz_task.specs.OwnActs.{Stores}
use Rattle.bz_task.specs.Requests.{Hears, Tells}
use Rattle.bz_task.specs.Scene.{Scene, Took}
use Rattle.bz_task.specs.declared.todo.Seen.TheVariants as seen
use Rattle.bz_task.specs.declared.todo.Todo.TheVariants as todo
use Rattle.bz_world.specs.Inside.Acted.{IsActed, IsTold}
use Rattle.bz_world.specs.Inside.Alone.{untold}
use Rattle.bz_world.specs.Inside.Exact.{underway}
use Rattle.bz_world.specs.Inside.Kept.{IsAwake}
use Rattle.bz_world.specs.WorldView.{mark_of}
use Rattle.bz_world.specs.Inside.Serving.{IsServing, IsSlot, stage_in}
use Rattle.bz_world.specs.declared.parts.Parts.{Parts}
use Rattle.bz_world.specs.declared.serving.OpenCall.{OpenCall}
use Rattle.bz_world.specs.Inside.Laws.{StepLaws}
use Rattle.bz_sound.specs.Memory.Spent.{is_stored_into}
use Rattle.bz_mark.specs.Times.{since_on}
use Rattle.bz_refinement.proofs.Storing.{fills-stored}
use Rattle.bz_world.proofs.Alone.{hears-on}
use Rattle.bz_world.specs.Inside.Paid.{errand_of, no_extra, stock_of, IsPaidIn}
use Rattle.bz_world.proofs.Meant.{call-meant-on}
use Rattle.bz_world.proofs.Powered.{begun-in}
use Rattle.bz_world.proofs.Staying.{covered-stays}
use Rattle.bz_world.proofs.Quiet.{some-worker, serves, sees, own, goes, same-other, stays, answered, quiet-paid, none-pays, none-takes, own-duly, own-exactly}
use Rattle.bz_world.proofs.Answered.{no-finish}
use Rattle.bz_world.proofs.Solitary.{solitary-act}
use Rattle.bz_world.proofs.SolitaryActs.{reads-now}

module _ (b : StepLaws) (old new : Parts) (w : ℕ) (x : OpenCall) (made : Act) (answer : Done) (k : IsAwake old) (is-worker : get_or old.workers.items w None ≡ Some x) (a : IsActed old w made answer None new) (room : length old.journal.past < old.config.marks) where
  abbrev pub its : IsServing old.config old.access old.journal k.story old.owners.items (stock_of old) w x
  its = serves old k w x is-worker

  module _ (d u : ℕ) (asked : its.asked ≡ todo.Store d u) (stores : doing_of old.access w ≡ Storing d u) (within : d < length old.access.cached) where
    abbrev after : Story
    after = goes_on old.journal k.story new.access (fills old.config k.story w d)

    abbrev before : Scene
    before = scene old.config old.journal.past k.story w its.call_open.look.since its.opened

    abbrev later : Scene
    later = scene old.config (mark_of w made ∷ old.journal.past) after w its.call_open.look.since its.opened

    is-storing : IsStoring old.access new.access made answer None d u
    is-storing = b.storing old.config (k.story.at (length old.journal.past)) old.access new.access w made answer None d u k.living.seen a.step stores within

    is-store : IsStore old.config old.access new.access old.journal k.story w d u its.call_open.look.since its.opened
    is-store = record { stores = is-storing.stores; begun = begun-in k.living its.call_open; own = own b old new w x made answer k is-worker a d u stores }

    -- the journal shows the store
    shown : (v j : ℕ) → fills old.config k.story w d v j ≡ true → is_stored_into old.config j (since_on (mark_of w made ∷ old.journal.past)) ≡ true
    shown = subst (λ (z : Act). (v j : ℕ) → fills old.config k.story w d v j ≡ true → is_stored_into old.config j (since_on (mark_of w z ∷ old.journal.past)) ≡ true) (sym is-storing.act)
        (fills-stored old.config (since_on old.journal.past) k.story w d u (some-worker old k w x is-worker) ((sees b old new w x made answer k is-worker a w x its).scene.mine d (own b old new w x made answer k is-worker a d u stores).mine).0 k.living.stored)

    fills-more : (v j : ℕ) → k.story.filled v j ≡ true → fills old.config k.story w d v j ≡ true
    fills-more v j h = rw h refl

    living : IsLiving old.config new.access (with_mark old.journal (mark_of w made)) after
    living = b.lives old.config old.access new.access old.journal k.story (mark_of w made) (fills old.config k.story w d) (goes b old new w x made answer k is-worker a) shown

    others : (v : ℕ) → v ≢ w → IsSlot old.config new.access (with_mark old.journal (mark_of w made)) after old.owners.items (stock_of old) v (get_or old.workers.items v None)
    others v ne = stays b old new w x made answer k is-worker a after v living refl (same-other b old new w x made answer k is-worker a v ne)
        (λ since opened begun. b.stores.others old.config old.access new.access old.journal k.story (mark_of w made) w d u its.call_open.look.since its.opened v since opened (goes b old new w x made answer k is-worker a) is-store ne begun) (λ j. refl) (fills-more v) refl (none-pays b old new w x made answer k is-worker a after v ne) (none-takes b old new w x made answer k is-worker a after v ne)

    stored : Stores d u before later
    stored = b.stores.own old.config old.access new.access old.journal k.story (mark_of w made) w d u its.call_open.look.since its.opened (goes b old new w x made answer k is-worker a) is-store

    later-seen : Sees old.config (after.at (suc (length old.journal.past))) later
    later-seen = b.scenes old.config new.access (with_mark old.journal (mark_of w made)) after w its.call_open.look.since its.opened living (let h : HasBegun old.journal k.story its.call_open.look.since = begun-in k.living its.call_open in record { from = h.from; by_now = omega (arith, h.by_now) })

    took : facts_of x.task Took later
    took = its.tasked.laws.acts.stored before later d u (sym its.tasked.config) (subst (λ z. facts_of x.task z before) (ap (stage_in old.access) stores) its.facts) (sees b old new w x made answer k is-worker a w x its).scene later-seen.scene (its.asks ∙ ap Some asked) stored

    pub told-store : IsTold new w x seen.Stored
    told-store = subst (λ p. IsTold p w x seen.Stored) (sym a.rest) (record {
      between = answered b old new w x made answer k is-worker a after room (λ f. absurd (cc (is-storing.answer, f))) living k.free others;
      tasked = its.tasked;
      stage = Took;
      facts = took;
      covered = covered-stays (k.story.took w) (k.story.took w) (k.story.filled w) (fills old.config k.story w d w) (needs_of x.task) (λ j. refl) (fills-more w) its.covered;
      finished = no-finish old.access w x seen.Stored (λ s f. absurd (cc (stores, f))) its.finishing;
      hears = subst (λ z. Hears z seen.Stored) (sym (its.asks ∙ ap Some asked)) tt;
      tells = subst (λ z. Tells z Took seen.Stored later) (sym (its.asks ∙ ap Some asked)) tt;
      solitary = λ key get solitary. absurd (cc ((reads-now old k w x is-worker key get (solitary-act w w old.journal.past made solitary)).reads, stores));
      alone = hears-on old.config old.access new.access old.journal.past (mark_of w made) k.story after w its.call_open.look.since its.opened its.opened x.task (next_instant new.access (k.story.at (length old.journal.past))) refl its.call_open.look.by_now its.alone
          seen.Stored refl (ap (untold old.access) stores) (λ h e. absurd (cc e));
      meant = call-meant-on x before.past later.past its.tasked.laws stored.continues its.meant;
      paid = subst (λ u. IsPaidIn old.config new.access (mark_of w made ∷ old.journal.past) (stock_of old) w (errand_of x) x.task u no_extra later.past) (ap (untold old.access) stores)
          (quiet-paid b old new w x made answer k is-worker a after living refl x its (let h : HasBegun old.journal k.story its.call_open.look.since = begun-in k.living its.call_open in record { from = h.from; by_now = omega (arith, h.by_now) }) stored.continues);
      exact = own-exactly b old new w x made answer k is-worker a after refl 0 0 (ap (untold old.access) stores) (ap underway stores) x its;
      merges = own-duly b old new w x made answer k is-worker a after refl 0 0 (ap (untold old.access) stores) (ap underway stores) x its stored.continues;
    })
