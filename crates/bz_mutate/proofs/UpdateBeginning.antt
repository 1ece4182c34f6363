-- What an update knows once it has begun.
use Rattle.std.proofs.Common.{◌≡◌, ◌<◌, ◌≤◌, ◌⊎◌, inl, inr, refl, sym, subst}
use Rattle.std.specs.Prelude.{None}
use Rattle.bz_layout.specs.declared.config.Config.{Config}
use Rattle.bz_word.specs.Statuses.{status}
use Rattle.bz_task.specs.Requests.{Tells}
use Rattle.bz_task.specs.Scene.{Scene, Stage, Waiting, Took, IsScene}
use Rattle.bz_task.specs.declared.todo.Seen.{Seen}
use Rattle.bz_task.specs.declared.view.KeyView.{KeyView}
use Rattle.bz_record.specs.Records.{size_of, HasRoom, LacksRoom}
use Rattle.bz_record.specs.Replacing.{WasRecord}
use Rattle.bz_record.specs.declared.found_record.FoundRecord.{FoundRecord}
use Rattle.bz_record.specs.declared.new_record.NewRecord.{NewRecord}
use Rattle.bz_mutate.specs.Viewed.{IsVisible, IsFound}
use Rattle.bz_mutate.specs.UpdateFacts.{HasViewedFor, IsPair, CanGrow, IsFirst, IsReady, update_facts}
use Rattle.bz_mutate.specs.declared.update_phase.UpdatePhase.{UpdatePhase}
use Rattle.bz_mutate.specs.declared.update_phase.UpdatePhase.TheVariants.{Fresh, Grow, Store, Flush, Replace, Done, Restart, NeedsRoom, Full}
use Rattle.bz_mutate.proofs.Finding.{says, visible-found, was, place, dead, found, started}

module _ (v : KeyView) (r : NewRecord) (s : Scene) (good : IsScene s) (h : HasViewedFor v r s) where
  -- the record is one of the new record's leaf
  there : (f : FoundRecord) → IsFound v f → WasRecord r.key ((says r.key v s h.viewed).0) r.slot r.status f.place f.extent s.past
  there f c =
      subst (λ z. WasRecord r.key ((says r.key v s h.viewed).0) z r.status f.place f.extent s.past) (sym h.slot)
      (subst (λ z. WasRecord r.key ((says r.key v s h.viewed).0) v.slot z f.place f.extent s.past) (sym h.status) (was r.key v s good h.viewed f c))

  pair : (f : FoundRecord) → IsFound v f → HasRoom r.status (size_of r) → IsPair v r f
  pair f c room =
      let w = there f c in record {
        old = (says r.key v s h.viewed).0;
        said = (says r.key v s h.viewed).1;
        fits = record {
          key = h.key;
          payload = h.payload;
          some = h.some;
          few = h.few;
          plain = w.leaf.leaf.plain;
          room = room;
          dead = subst (λ z. (status z).dead ≤ (status z).block) (sym h.status) (dead r.key v s good h.viewed);
        };
        place = place r.key v s good h.viewed f c;
        extent = w.extent;
        some = w.some;
        small = w.small;
      }

  pub can-grow : (f : FoundRecord) → IsFound v f → HasRoom r.status (size_of r) → CanGrow v r f s
  unfolding pair
  can-grow f c room = record { pair = pair f c room; was = there f c; going = h.viewed.going }

  lacks : LacksRoom r.status (size_of r) ⊎ (v.found ≡ None) → LacksRoom r.status (size_of r)
  lacks (inl l) = l
  lacks (inr others) = absurd (found r.key v s good h.viewed others)

pub visible-first : (v : KeyView) (r : NewRecord) (stage : Stage) (s : Scene) → update_facts v r Fresh stage s → IsVisible v
visible-first v r Waiting s h = visible-found r.key v s h.viewed
visible-first v r Took s h = absurd (h)

-- the first phase is ready, and its facts hold
pub ready-first : (c : Config) (v : KeyView) (r : NewRecord) (stage : Stage) (s : Scene) (phase : UpdatePhase) → s.past.config ≡ c → IsScene s → update_facts v r Fresh stage s → IsFirst phase
    → ((f : FoundRecord) → phase ≡ Grow f → IsFound v f) → ((f : FoundRecord) → phase ≡ Grow f → HasRoom r.status (size_of r)) → IsReady c v r phase
ready-first c v r Took s phase same good h first at room = absurd (h)
ready-first c v r Waiting s (Grow f) same good h first at room =
    let g : CanGrow v r f s = can-grow v r s good h f (at f refl) (room f refl) in
    record { pair = g.pair; slot = subst (λ z. r.slot < z.nodes) same g.was.leaf.leaf.slot }
ready-first c v r Waiting s NeedsRoom same good h first at room = tt
ready-first c v r Waiting s Fresh same good h first at room = absurd (first)
ready-first c v r Waiting s (Store f i) same good h first at room = absurd (first)
ready-first c v r Waiting s (Flush f n) same good h first at room = absurd (first)
ready-first c v r Waiting s (Replace f) same good h first at room = absurd (first)
ready-first c v r Waiting s Done same good h first at room = absurd (first)
ready-first c v r Waiting s Restart same good h first at room = absurd (first)
ready-first c v r Waiting s Full same good h first at room = absurd (first)

pub told-first : (v : KeyView) (r : NewRecord) (stage : Stage) (seen : Seen) (s : Scene) (phase : UpdatePhase) → IsScene s → update_facts v r Fresh stage s → Tells None stage seen s → IsFirst phase
    → ((f : FoundRecord) → phase ≡ Grow f → IsFound v f) → ((f : FoundRecord) → phase ≡ Grow f → HasRoom r.status (size_of r)) → (phase ≡ NeedsRoom → LacksRoom r.status (size_of r) ⊎ (v.found ≡ None)) → update_facts v r phase Waiting s
told-first v r Took seen s phase good h t first at room none = absurd (h)
told-first v r Waiting seen s (Grow f) good h t first at room none = (started Waiting seen s t, can-grow v r s good h f (at f refl) (room f refl))
told-first v r Waiting seen s NeedsRoom good h t first at room none = (started Waiting seen s t, lacks v r s good h (none refl))
told-first v r Waiting seen s Fresh good h t first at room none = absurd (first)
told-first v r Waiting seen s (Store f i) good h t first at room none = absurd (first)
told-first v r Waiting seen s (Flush f n) good h t first at room none = absurd (first)
told-first v r Waiting seen s (Replace f) good h t first at room none = absurd (first)
told-first v r Waiting seen s Done good h t first at room none = absurd (first)
told-first v r Waiting seen s Restart good h t first at room none = absurd (first)
told-first v r Waiting seen s Full good h t first at room none = absurd (first)
