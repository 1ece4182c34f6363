-- What an insert knows stays.
use Rattle.std.proofs.Common.{ℕ, ◌+◌, sym, subst, ◌∙◌}
use Rattle.std.specs.Prelude.{None}
use Rattle.bz_layout.specs.Slots.{FreeSlots}
use Rattle.bz_task.specs.OwnActs.{gained}
use Rattle.bz_task.specs.Scene.{Scene, Stage, Waiting, Took, IsLawful, HasFilled}
use Rattle.bz_task.proofs.Proved.{nothing_is_gained}
use Rattle.bz_record.specs.Records.{size_of}
use Rattle.bz_record.specs.declared.new_record.NewRecord.{NewRecord}
use Rattle.bz_record.proofs.Proved.{leaves_were, records_are_written}
use Rattle.bz_insert.specs.Facts.{HasViewed, HasReserved, HasPublished, IsLineOf, insert_learnt, insert_facts}
use Rattle.bz_insert.specs.declared.phase.InsertPhase.{InsertPhase}
use Rattle.bz_insert.specs.declared.phase.InsertPhase.TheVariants.{Fresh, Reserve, Store, Flush, Publish, Done, Restart, NeedsRoom, Full}

module _ (r : NewRecord) (s after : Scene) (l : IsLawful s after) where
  viewed : HasViewed r s → HasViewed r after
  viewed v = record {
    moment = v.moment;
    leaf = leaves_were.leaf r.key None r.slot r.status v.moment s.past after.past v.leaf l.continues;
    dead = v.dead;
    key = v.key;
    payload = v.payload;
    some = v.some;
    few = v.few;
    going = l.effected ∙ v.going;
  }

  reserved : (words lines : ℕ) → HasReserved r words lines s → HasReserved r words lines after
  reserved words lines h = record { fits = h.fits; reserved = leaves_were.reserved r s.past after.past h.reserved l.continues; writing = records_are_written.stays r words lines s after h.writing l; going = l.effected ∙ h.going }

  line : (n : ℕ) → IsLineOf s.past.config r n → IsLineOf after.past.config r n
  line n h = subst (λ c. IsLineOf c r n) (sym l.continues.config) h

  published : HasPublished r s → HasPublished r after
  published h = record { room = h.room; effected = l.effected ∙ h.effected }

  learnt : (phase : InsertPhase) (stage : Stage) → insert_learnt r phase stage s → insert_learnt r phase stage after
  learnt Fresh Waiting f = viewed f
  learnt Reserve Waiting f = record { viewed = viewed f.viewed; room = f.room }
  learnt Reserve Took f = reserved 0 0 f
  learnt (Store i) Waiting f = (f.0, reserved i 0 f.1)
  learnt (Store i) Took f = (f.0, reserved (i + 1) 0 f.1)
  learnt (Flush n) Waiting f = (line n f.0, reserved (size_of r) n f.1)
  learnt (Flush n) Took f = (line n f.0, reserved (size_of r) (n + 1) f.1)
  learnt Publish Waiting f = record { fits = f.fits; reserved = leaves_were.reserved r s.past after.past f.reserved l.continues; written = records_are_written.written_stays r s after f.written l; going = l.effected ∙ f.going }
  learnt Publish Took f = published f
  learnt Done Waiting f = published f
  learnt Restart Waiting f = f
  learnt Full Waiting f = f
  learnt NeedsRoom Waiting f = f
  learnt Fresh Took f = absurd (f)
  learnt Done Took f = absurd (f)
  learnt Restart Took f = absurd (f)
  learnt Full Took f = absurd (f)
  learnt NeedsRoom Took f = absurd (f)

  filled : HasFilled s → HasFilled after
  filled f k t = l.filled k ∙ f k (sym (l.took k) ∙ t)

  pub stable : (phase : InsertPhase) (stage : Stage) → insert_facts r phase stage s → insert_facts r phase stage after
  stable Fresh stage f = learnt Fresh stage f
  stable Reserve stage f = (filled f.0, learnt Reserve stage f.1)
  stable (Store i) stage f = (filled f.0, learnt (Store i) stage f.1)
  stable (Flush n) stage f = (filled f.0, learnt (Flush n) stage f.1)
  stable Publish stage f = (filled f.0, learnt Publish stage f.1)
  stable Done stage f = (filled f.0, learnt Done stage f.1)
  stable Restart stage f = (filled f.0, learnt Restart stage f.1)
  stable NeedsRoom stage f = (filled f.0, learnt NeedsRoom stage f.1)
  stable Full stage f = (filled f.0, learnt Full stage f.1)

-- it stays where no slot is taken
module _ (r : NewRecord) (s : Scene) (free : FreeSlots) where
  reserved-too : (words lines : ℕ) → HasReserved r words lines s → HasReserved r words lines (gained s free free)
  reserved-too words lines h = record { fits = h.fits; reserved = h.reserved; writing = records_are_written.no_slot r words lines s free h.writing; going = h.going }

  viewed-too : HasViewed r s → HasViewed r (gained s free free)
  viewed-too v = record { moment = v.moment; leaf = v.leaf; dead = v.dead; key = v.key; payload = v.payload; some = v.some; few = v.few; going = v.going }

  pub no-slot : (phase : InsertPhase) → insert_facts r phase Waiting s → insert_facts r phase Waiting (gained s free free)
  no-slot Fresh f = viewed-too f
  no-slot Reserve f = (nothing_is_gained s free f.0, record { viewed = viewed-too f.1.viewed; room = f.1.room })
  no-slot (Store i) f = (nothing_is_gained s free f.0, (f.1.0, reserved-too i 0 f.1.1))
  no-slot (Flush n) f = (nothing_is_gained s free f.0, (f.1.0, reserved-too (size_of r) n f.1.1))
  no-slot Publish f = (nothing_is_gained s free f.0, record { fits = f.1.fits; reserved = f.1.reserved; written = records_are_written.written_no_slot r s free f.1.written; going = f.1.going })
  no-slot Done f = (nothing_is_gained s free f.0, record { room = f.1.room; effected = f.1.effected })
  no-slot Restart f = (nothing_is_gained s free f.0, f.1)
  no-slot NeedsRoom f = (nothing_is_gained s free f.0, f.1)
  no-slot Full f = (nothing_is_gained s free f.0, f.1)
