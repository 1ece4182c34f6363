-- What an update knows stays.
use Rattle.std.proofs.Common.{ℕ, ◌+◌, sym, subst, ◌∙◌}
use Rattle.bz_layout.specs.Slots.{FreeSlots}
use Rattle.bz_task.specs.OwnActs.{gained}
use Rattle.bz_task.specs.Scene.{Scene, Stage, Waiting, Took, IsLawful, HasFilled}
use Rattle.bz_task.specs.declared.view.KeyView.{KeyView}
use Rattle.bz_task.proofs.Proved.{key_views_stay, nothing_is_gained}
use Rattle.bz_record.specs.Records.{size_of}
use Rattle.bz_record.specs.declared.found_record.FoundRecord.{FoundRecord}
use Rattle.bz_record.specs.declared.new_record.NewRecord.{NewRecord}
use Rattle.bz_record.proofs.Proved.{records_are_written, records_were}
use Rattle.bz_mutate.specs.UpdateFacts.{HasViewedFor, CanGrow, HasGrown, HasReplaced, IsLineOf, update_learnt, update_facts}
use Rattle.bz_mutate.specs.declared.update_phase.UpdatePhase.{UpdatePhase}
use Rattle.bz_mutate.specs.declared.update_phase.UpdatePhase.TheVariants.{Fresh, Grow, Store, Flush, Replace, Done, Restart, NeedsRoom, Full}

module _ (v : KeyView) (r : NewRecord) (s after : Scene) (l : IsLawful s after) where
  viewed : HasViewedFor v r s → HasViewedFor v r after
  viewed h = record {
    viewed = record { view = key_views_stay r.key v s.past after.past h.viewed.view l.continues; present = h.viewed.present; going = l.effected ∙ h.viewed.going };
    slot = h.slot;
    status = h.status;
    key = h.key;
    payload = h.payload;
    some = h.some;
    few = h.few;
  }

  can-grow : (f : FoundRecord) → CanGrow v r f s → CanGrow v r f after
  can-grow f h = record { pair = h.pair; was = records_were.found r.key h.pair.old r.slot r.status f.place f.extent s.past after.past h.was l.continues; going = l.effected ∙ h.going }

  grown : (f : FoundRecord) (words lines : ℕ) → HasGrown v r f words lines s → HasGrown v r f words lines after
  grown f words lines h = record { pair = h.pair; grown = records_were.grown r h.pair.old f.place f.extent s.past after.past h.grown l.continues; writing = records_are_written.stays r words lines s after h.writing l; going = l.effected ∙ h.going }

  line : (n : ℕ) → IsLineOf s.past.config r n → IsLineOf after.past.config r n
  line n h = subst (λ c. IsLineOf c r n) (sym l.continues.config) h

  replaced : HasReplaced r s → HasReplaced r after
  replaced h = record { room = h.room; effected = l.effected ∙ h.effected }

  learnt : (phase : UpdatePhase) (stage : Stage) → update_learnt v r phase stage s → update_learnt v r phase stage after
  learnt Fresh Waiting k = viewed k
  learnt (Grow f) Waiting k = can-grow f k
  learnt (Grow f) Took k = grown f 0 0 k
  learnt (Store f i) Waiting k = (k.0, grown f i 0 k.1)
  learnt (Store f i) Took k = (k.0, grown f (i + 1) 0 k.1)
  learnt (Flush f n) Waiting k = (line n k.0, grown f (size_of r) n k.1)
  learnt (Flush f n) Took k = (line n k.0, grown f (size_of r) (n + 1) k.1)
  learnt (Replace f) Waiting k = record { pair = k.pair; grown = records_were.grown r k.pair.old f.place f.extent s.past after.past k.grown l.continues; written = records_are_written.written_stays r s after k.written l; going = l.effected ∙ k.going }
  learnt (Replace f) Took k = replaced k
  learnt Done Waiting k = replaced k
  learnt Restart Waiting k = k
  learnt Full Waiting k = k
  learnt NeedsRoom Waiting k = k
  learnt Fresh Took k = absurd (k)
  learnt Done Took k = absurd (k)
  learnt Restart Took k = absurd (k)
  learnt Full Took k = absurd (k)
  learnt NeedsRoom Took k = absurd (k)

  filled : HasFilled s → HasFilled after
  filled f k t = l.filled k ∙ f k (sym (l.took k) ∙ t)

  pub stable : (phase : UpdatePhase) (stage : Stage) → update_facts v r phase stage s → update_facts v r phase stage after
  stable Fresh stage k = learnt Fresh stage k
  stable (Grow f) stage k = (filled k.0, learnt (Grow f) stage k.1)
  stable (Store f i) stage k = (filled k.0, learnt (Store f i) stage k.1)
  stable (Flush f n) stage k = (filled k.0, learnt (Flush f n) stage k.1)
  stable (Replace f) stage k = (filled k.0, learnt (Replace f) stage k.1)
  stable Done stage k = (filled k.0, learnt Done stage k.1)
  stable Restart stage k = (filled k.0, learnt Restart stage k.1)
  stable NeedsRoom stage k = (filled k.0, learnt NeedsRoom stage k.1)
  stable Full stage k = (filled k.0, learnt Full stage k.1)

-- it stays where no slot is taken
module _ (v : KeyView) (r : NewRecord) (s : Scene) (free : FreeSlots) where
  grown-too : (f : FoundRecord) (words lines : ℕ) → HasGrown v r f words lines s → HasGrown v r f words lines (gained s free free)
  grown-too f words lines h = record { pair = h.pair; grown = h.grown; writing = records_are_written.no_slot r words lines s free h.writing; going = h.going }

  viewed-too : HasViewedFor v r s → HasViewedFor v r (gained s free free)
  viewed-too h = record {
    viewed = record { view = h.viewed.view; present = h.viewed.present; going = h.viewed.going };
    slot = h.slot;
    status = h.status;
    key = h.key;
    payload = h.payload;
    some = h.some;
    few = h.few;
  }

  pub no-slot : (phase : UpdatePhase) → update_facts v r phase Waiting s → update_facts v r phase Waiting (gained s free free)
  no-slot Fresh k = viewed-too k
  no-slot (Grow f) k = (nothing_is_gained s free k.0, record { pair = k.1.pair; was = k.1.was; going = k.1.going })
  no-slot (Store f i) k = (nothing_is_gained s free k.0, (k.1.0, grown-too f i 0 k.1.1))
  no-slot (Flush f n) k = (nothing_is_gained s free k.0, (k.1.0, grown-too f (size_of r) n k.1.1))
  no-slot (Replace f) k = (nothing_is_gained s free k.0, record { pair = k.1.pair; grown = k.1.grown; written = records_are_written.written_no_slot r s free k.1.written; going = k.1.going })
  no-slot Done k = (nothing_is_gained s free k.0, record { room = k.1.room; effected = k.1.effected })
  no-slot Restart k = (nothing_is_gained s free k.0, k.1)
  no-slot NeedsRoom k = (nothing_is_gained s free k.0, k.1)
  no-slot Full k = (nothing_is_gained s free k.0, k.1)
