-- What a delete knows once it has begun.
use Rattle.std.proofs.Common.{◌≡◌, ℕ, Bool, true, false, List, refl, subst}
use Rattle.std.specs.Prelude.{None}
use Rattle.bz_layout.specs.declared.config.Config.{Config}
use Rattle.bz_word.specs.Statuses.{status}
use Rattle.bz_task.specs.Requests.{Tells}
use Rattle.bz_task.specs.Scene.{Scene, Stage, Waiting, Took, IsScene}
use Rattle.bz_task.specs.declared.todo.Seen.{Seen}
use Rattle.bz_task.specs.declared.view.KeyView.{KeyView}
use Rattle.bz_record.specs.Replacing.{WasRecord}
use Rattle.bz_record.specs.declared.found_record.FoundRecord.{FoundRecord}
use Rattle.bz_mutate.specs.Viewed.{HasViewed, IsVisible, IsFound}
use Rattle.bz_mutate.specs.DeleteFacts.{CanRemove, IsRemovable, IsFirst, IsReady, delete_asks, delete_facts}
use Rattle.bz_mutate.specs.declared.delete_phase.DeletePhase.{DeletePhase}
use Rattle.bz_mutate.specs.declared.delete_phase.DeletePhase.TheVariants.{Fresh, Remove, Done, Restart, NeedsRoom, Full}
use Rattle.bz_mutate.proofs.Finding.{says, visible-found, was, place, size, found, started}

module _ (key : List ℕ) (v : KeyView) (s : Scene) (good : IsScene s) (h : HasViewed key v s) where
  can-remove : (f : FoundRecord) → IsFound v f → (status v.status).frozen ≡ false → CanRemove key v f s
  can-remove f c t = record {
    payload = (says key v s h).0;
    said = (says key v s h).1;
    was = was key v s good h f c;
    size = size key v s good h f c;
    thawed = t;
    going = h.going;
  }

  removable : (f : FoundRecord) → IsFound v f → IsRemovable s.past.config v f
  removable f c =
      let w : WasRecord key ((says key v s h).0) v.slot v.status f.place f.extent s.past = was key v s good h f c in record {
        slot = h.view.slot;
        place = place key v s good h f c;
        plain = h.view.plain;
        extent = w.extent;
        some = w.some;
        small = w.small;
        dead = w.dead;
      }

  -- where no record is found the leaf is frozen
  frozen : (t : Bool) → (status v.status).frozen ≡ t → ((status v.status).frozen ≡ false → v.found ≡ None) → (status v.status).frozen ≡ true
  frozen true e none = e
  frozen false e none = absurd (found key v s good h (none e))

pub in-phase : (key : List ℕ) (v : KeyView) (stage : Stage) (s : Scene) (phase other : DeletePhase) → phase ≡ other → delete_facts key v phase stage s → delete_facts key v other stage s
in-phase key v stage s phase other e f = subst (λ z. delete_facts key v z stage s) e f

pub tells-in : (c : Config) (v : KeyView) (stage : Stage) (seen : Seen) (s : Scene) (phase other : DeletePhase) → phase ≡ other → Tells (delete_asks c v phase) stage seen s → Tells (delete_asks c v other) stage seen s
tells-in c v stage seen s phase other e t = subst (λ z. Tells (delete_asks c v z) stage seen s) e t

pub visible-first : (key : List ℕ) (v : KeyView) (stage : Stage) (s : Scene) → delete_facts key v Fresh stage s → IsVisible v
visible-first key v Waiting s h = visible-found key v s h
visible-first key v Took s h = absurd (h)

-- the first phase is ready, and its facts hold
pub ready-first : (c : Config) (key : List ℕ) (v : KeyView) (stage : Stage) (s : Scene) (phase : DeletePhase) → s.past.config ≡ c → IsScene s → delete_facts key v Fresh stage s → ((f : FoundRecord) → phase ≡ Remove f → IsFound v f) → IsReady c v phase
ready-first c key v Took s phase same good h found = absurd (h)
ready-first c key v Waiting s (Remove f) same good h found = subst (λ z. IsRemovable z v f) same (removable key v s good h f (found f refl))
ready-first c key v Waiting s Fresh same good h found = tt
ready-first c key v Waiting s Done same good h found = tt
ready-first c key v Waiting s Restart same good h found = tt
ready-first c key v Waiting s NeedsRoom same good h found = tt
ready-first c key v Waiting s Full same good h found = tt

pub told-first : (key : List ℕ) (v : KeyView) (stage : Stage) (seen : Seen) (s : Scene) (phase : DeletePhase) → IsScene s → delete_facts key v Fresh stage s → Tells None stage seen s → IsFirst phase
    → ((f : FoundRecord) → phase ≡ Remove f → IsFound v f) → ((f : FoundRecord) → phase ≡ Remove f → (status v.status).frozen ≡ false) → (phase ≡ NeedsRoom → (status v.status).frozen ≡ false → v.found ≡ None) → delete_facts key v phase Waiting s
told-first key v Took seen s phase good h t first found thawed none = absurd (h)
told-first key v Waiting seen s (Remove f) good h t first found thawed none = (started Waiting seen s t, can-remove key v s good h f (found f refl) (thawed f refl))
told-first key v Waiting seen s NeedsRoom good h t first found thawed none = (started Waiting seen s t, frozen key v s good h ((status v.status).frozen) refl (none refl))
told-first key v Waiting seen s Fresh good h t first found thawed none = absurd (first)
told-first key v Waiting seen s Done good h t first found thawed none = absurd (first)
told-first key v Waiting seen s Restart good h t first found thawed none = absurd (first)
told-first key v Waiting seen s Full good h t first found thawed none = absurd (first)
