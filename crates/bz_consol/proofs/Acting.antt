-- The plan of a consolidation is sound and good: its link may be turned to the copy, which stands in its slot then.
use Rattle.std.proofs.Common.{◌≡◌, ℕ, ◌+◌, ◌<◌, ◌^◌, length, false, arith, refl, sym, ap, subst, ◌∙◌}
use Rattle.std.specs.Prelude.{All}
use Rattle.bz_layout.specs.Slots.{FreeSlots}
use Rattle.bz_slotted.specs.Readers.{found_of}
use Rattle.bz_slotted.specs.ReadingLaws.{node_of}
use Rattle.bz_slotted.specs.Rules.{node_fault}
use Rattle.bz_word.proofs.Proved.{statuses}
use Rattle.bz_task.specs.Instant.{words, form_at}
use Rattle.bz_task.specs.Requests.{IsEntryToAsk}
use Rattle.bz_task.specs.Scene.{Scene, IsScene, here}
use Rattle.bz_task.specs.Swaps.{Takes}
use Rattle.bz_renew.specs.Renewals.{renewal, link_entry, guard_entry, IsTurnable}
use Rattle.bz_renew.proofs.Guards.{guard-readable, guard-differed, answered-as-read}
use Rattle.bz_renew.proofs.Proved.{links_may_be_turned}
use Rattle.bz_renew.proofs.Restamping.{restamped-plain}
use Rattle.bz_renew.proofs.TwoEntries.{all-two, sets-first}
use Rattle.bz_writer.specs.Laws.{IsSoundPlan, IsGoodPlan, IsWritten, LooksWell}
use Rattle.bz_writer.proofs.Written.{holds, fresh, was-unreached, stood}
use Rattle.bz_consol.specs.Copies.{IsCopy, IsRenewable}
use Rattle.bz_consol.specs.Facts.{Renewal, IsCopying, WasTurned, consol_plan}
use Rattle.bz_consol.proofs.Proved.{renewals_are_good}
use Rattle.bz_consol.proofs.Staying.{viewed-stays, copying-stays, turned-stays}

-- the entries of the swap
may-swap : (r : Renewal) (s : Scene) → IsScene s → IsCopying r.link r.image s.past → r.slot 0 < s.past.config.nodes → All (IsEntryToAsk s) (renewal r.link (r.slot 0))
may-swap r s good f slot =
    let t : IsTurnable r.link s = links_may_be_turned s r.link good f.viewed.guard f.viewed.thawed in
    let old : r.link.slot < s.past.config.nodes = f.viewed.leaf.slot in
    all-two (IsEntryToAsk s) (link_entry r.link (r.slot 0)) (guard_entry r.link)
    (record { target = t.link_target; expected = omega (arith, old, good.config.nodes_in_range.at_most); new = omega (arith, slot, good.config.nodes_in_range.at_most) })
    (record { target = t.guard_target; expected = t.plain; new = restamped-plain statuses r.link.status t.plain })

pub sound : (r : Renewal) → IsSoundPlan (consol_plan r)
sound r = record {
  some = omega arith;
  few = omega arith;
  planned = λ p q c v. viewed-stays p q c r.link r.image v;
  ready = λ p q c v. copying-stays p q c r.link r.image v;
  done = λ p q c v. turned-stays p q c r.link r.image v;
  none = λ p q c v. v;
  readable = λ s good v. guard-readable s r.link good v.guard;
  differed = λ s v p ne. guard-differed s r.link v p.guard ne;
  nameable = λ s good f slots. let t : IsTurnable r.link s = links_may_be_turned s r.link good f.viewed.guard f.viewed.thawed in (t.plain, t.apart);
  named = λ s good f slots. may-swap r s good f (slots.within 0 (omega arith));
}

-- once it is written, the slot holds the copy
module _ (r : Renewal) (s : Scene) (w : IsWritten (consol_plan r) s) where
  holds-copy : words s.past.config (here s) (r.slot 0) ≡ node_of r.image
  holds-copy = holds (consol_plan r) s w 0 (omega arith)

  is-copy : IsCopy r.link.slot (r.slot 0) w.ready.viewed.moment s
  is-copy = record {
    fresh = fresh (consol_plan r) s w 0 (omega arith);
    whole = (λ t. node_fault s.past.config.nodes (holds-copy t) (holds-copy t) 0 ((form_at s.past.config (s.past.at w.ready.viewed.moment)).low r.link.slot) ((form_at s.past.config (s.past.at w.ready.viewed.moment)).high r.link.slot)) ∙ w.ready.viewed.alike.whole;
    says = λ key. ap (λ n. found_of n key) holds-copy ∙ w.ready.viewed.alike.found key;
  }

  renewable : IsRenewable r.link (r.slot 0) w.ready.viewed.moment s
  renewable = record { guard = w.ready.viewed.guard; thawed = w.ready.viewed.thawed; leaf = w.ready.viewed.leaf; copy = is-copy }

-- once the swap took effect, the link leads to the slot of the copy, to which none had led before
turned : (r : Renewal) (s after : Scene) → IsScene s → IsWritten (consol_plan r) s → Takes false (renewal r.link (r.slot 0)) s after → WasTurned r.link r.image after.past
turned r s after good w takes =
    let t : IsTurnable r.link s = links_may_be_turned s r.link good w.ready.viewed.guard w.ready.viewed.thawed in
    record {
      slot = r.slot 0;
      before = s.past.now;
      since = omega (arith, good.begun, takes.continues.since);
      now = omega (arith, takes.continues.now);
      unreached = was-unreached (consol_plan r) s w 0 (omega arith) good (renewal r.link (r.slot 0)) after takes;
      led = subst (λ (m : ℕ). (after.past.at m).value r.link.link ≡ r.slot 0 + 1) takes.continues.now
          (takes.swaps.value r.link.link ∙ sets-first (link_entry r.link (r.slot 0)) (guard_entry r.link) (here s).value r.link.link refl (λ e. t.apart (sym e)));
      copied = stood (consol_plan r) s w 0 (omega arith) good (renewal r.link (r.slot 0)) after takes;
    }

pub good : (r : Renewal) → IsGoodPlan (consol_plan r)
good r = record {
  effect = λ s y scene w stand swaps. renewals_are_good _ s y r.link (r.slot 0) w.ready.viewed.moment scene (renewable r s w) stand swaps;
  took = λ s after scene w takes. turned r s after scene w takes;
}

-- where the guard is as the path names it, the copy may be written
pub looks-well : (o r : Renewal) → r.link ≡ o.link → r.image ≡ o.image → (old new : FreeSlots) → LooksWell (consol_plan o) (consol_plan r) old new
looks-well o r link image old new = record {
  ready = λ s good nodes v a taken. (
    subst (λ z. IsCopying z r.image s.past) (sym link) (subst (λ z. IsCopying o.link z s.past) (sym image) (record { viewed = v; looked = answered-as-read s o.link v.moment v.leaf.now a })),
    record { size = λ n h. ap length image ∙ v.size; plain = λ n h. subst (All (λ x. x < 2 ^ 61)) (sym image) v.plain },
  );
  none = λ s good v. tt;
}
