-- What an insert knows once a swap, a store or a flush of its own is made.
use Rattle.std.proofs.Common.{◌≡◌, ℕ, ◌+◌, ◌||◌, Bool, true, false, List, refl, sym, ap, subst, ◌∙◌, Some}
use Rattle.std.specs.Prelude.{slice_index}
use Rattle.bz_layout.specs.declared.config.Config.{Config}
use Rattle.bz_word.specs.declared.entry.Entry.{Entry}
use Rattle.bz_task.specs.OwnActs.{Stores, Flushes}
use Rattle.bz_task.specs.Scene.{Scene, Waiting, Took, IsScene, HasFilled, here}
use Rattle.bz_task.specs.Swaps.{Stand, Takes}
use Rattle.bz_task.specs.declared.todo.Todo.TheVariants.{Store as Stores_at, Flush as Flushes_line, Swap as Swaps_for}
use Rattle.bz_record.specs.Laws.{HasReserved}
use Rattle.bz_record.specs.Records.{words_in, address_of}
use Rattle.bz_record.specs.Swaps.{entries_of, reservation}
use Rattle.bz_record.specs.Writing.{first_line}
use Rattle.bz_record.specs.declared.new_record.NewRecord.{NewRecord}
use Rattle.bz_record.proofs.Proved.{leaves_were, records_are_written, reservations_take_words}
use Rattle.bz_insert.specs.Facts.{insert_asks, insert_facts, insert_publishes, IsLineOf}
use Rattle.bz_insert.specs.declared.phase.InsertPhase.{InsertPhase}
use Rattle.bz_insert.specs.declared.phase.InsertPhase.TheVariants.{Fresh, Reserve, Store, Flush, Publish, Done, Restart, NeedsRoom, Full}
use Rattle.bz_insert.proofs.Acting.{fits}

same-entries : (a b : List Entry) → Some (Swaps_for a) ≡ Some (Swaps_for b) → a ≡ b
same-entries a b e = cc

-- slots that were taken and stored into
filled-after : (publishes : Bool) (entries : List Entry) (s after : Scene) → Takes publishes entries s after → HasFilled s → HasFilled after
filled-after publishes entries s after t f j h = t.filled j ∙ f j (sym (t.took j) ∙ h)

pub took : (c : Config) (r : NewRecord) (phase : InsertPhase) (s after : Scene) (entries : List Entry) → s.past.config ≡ c → insert_facts r phase Waiting s → IsScene s → IsScene after
    → insert_asks c r phase ≡ Some (Swaps_for entries) → Stand entries (here s) → Takes (insert_publishes phase) entries s after → insert_facts r phase Took after
took c r Fresh s after entries same f good later e stand t = absurd (cc)
took c r Reserve s after entries same f good later e stand t =
    let is : entries_of s.past.config (reservation r) ≡ entries = ap (λ z. entries_of z (reservation r)) same ∙ same-entries _ entries e in
    let taken : HasReserved r after = reservations_take_words s after r f.1.viewed.moment good later (fits r s f.1) f.1.viewed.leaf (subst (λ z. Stand z (here s)) (sym is) stand) (subst (λ z. Takes false z s after) (sym is) t) in
    (filled-after false entries s after t f.0, record { fits = fits r s f.1; reserved = taken.reserved; writing = taken.words; going = t.effected ∙ f.1.viewed.going })
took c r (Store i) s after entries same f good later e stand t = absurd (cc)
took c r (Flush n) s after entries same f good later e stand t = absurd (cc)
took c r Publish s after entries same f good later e stand t = (filled-after true entries s after t f.0, record { room = f.1.fits.room; effected = t.effected })
took c r Done s after entries same f good later e stand t = absurd (cc)
took c r Restart s after entries same f good later e stand t = absurd (cc)
took c r NeedsRoom s after entries same f good later e stand t = absurd (cc)
took c r Full s after entries same f good later e stand t = absurd (cc)

or-left : (a b : Bool) → a ≡ true → a || b ≡ true
or-left a b h = rw h refl

same-store : (a b v w : ℕ) → Some (Stores_at a v) ≡ Some (Stores_at b w) → (a ≡ b) × (v ≡ w)
same-store a b v w e = (cc, cc)

same-flush : (a b : ℕ) → Some (Flushes_line a) ≡ Some (Flushes_line b) → a ≡ b
same-flush a b e = cc

pub stored : (c : Config) (r : NewRecord) (phase : InsertPhase) (s after : Scene) (a v : ℕ) → s.past.config ≡ c → insert_facts r phase Waiting s → insert_asks c r phase ≡ Some (Stores_at a v) → Stores a v s after → insert_facts r phase Took after
stored c r Fresh s after a v same f e t = absurd (cc)
stored c r Reserve s after a v same f e t = absurd (cc)
stored c r (Store i) s after a v same f e t =
    let is = same-store (address_of c r i) a (slice_index (words_in r) i) v e in
    let at : a ≡ address_of s.past.config r i = sym is.0 ∙ ap (λ z. address_of z r i) (sym same) in
    let made : Stores (address_of s.past.config r i) (slice_index (words_in r) i) s after = subst (λ z. Stores z (slice_index (words_in r) i) s after) at (subst (λ z. Stores a z s after) (sym is.1) t) in (
      λ k h. t.filled k ∙ or-left (s.filled k) _ (f.0 k (sym (t.took k) ∙ h)),
      (f.1.0, record { fits = f.1.1.fits; reserved = leaves_were.reserved r s.past after.past f.1.1.reserved t.continues; writing = records_are_written.stores r i s after f.1.0 f.1.1.writing made; going = t.effected ∙ f.1.1.going }),
    )
stored c r (Flush n) s after a v same f e t = absurd (cc)
stored c r Publish s after a v same f e t = absurd (cc)
stored c r Done s after a v same f e t = absurd (cc)
stored c r Restart s after a v same f e t = absurd (cc)
stored c r NeedsRoom s after a v same f e t = absurd (cc)
stored c r Full s after a v same f e t = absurd (cc)

pub flushed : (c : Config) (r : NewRecord) (phase : InsertPhase) (s after : Scene) (line : ℕ) → s.past.config ≡ c → insert_facts r phase Waiting s → insert_asks c r phase ≡ Some (Flushes_line line) → Flushes line s after → insert_facts r phase Took after
flushed c r Fresh s after line same f e t = absurd (cc)
flushed c r Reserve s after line same f e t = absurd (cc)
flushed c r (Store i) s after line same f e t = absurd (cc)
flushed c r (Flush n) s after line same f e t =
    let is : line ≡ first_line s.past.config r + n = sym (same-flush (first_line c r + n) line e) ∙ ap (λ z. first_line z r + n) (sym same) in
    let made : Flushes (first_line s.past.config r + n) s after = subst (λ z. Flushes z s after) is t in (
      λ k h. t.filled k ∙ f.0 k (sym (t.took k) ∙ h),
      (subst (λ z. IsLineOf z r n) (sym t.continues.config) f.1.0, record { fits = f.1.1.fits; reserved = leaves_were.reserved r s.past after.past f.1.1.reserved t.continues; writing = records_are_written.flushes r n s after f.1.1.writing made; going = t.effected ∙ f.1.1.going }),
    )
flushed c r Publish s after line same f e t = absurd (cc)
flushed c r Done s after line same f e t = absurd (cc)
flushed c r Restart s after line same f e t = absurd (cc)
flushed c r NeedsRoom s after line same f e t = absurd (cc)
flushed c r Full s after line same f e t = absurd (cc)
