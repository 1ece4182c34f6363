-- What an insert asks for may be asked for, and what its swaps lead to.
use Rattle.std.proofs.Common.{◌≡◌, ◌+◌, true, false, List, sym, ap, subst, ◌∙◌, Some}
use Rattle.std.specs.Prelude.{slice_index}
use Rattle.bz_layout.specs.declared.config.Config.{Config}
use Rattle.bz_word.specs.declared.entry.Entry.{Entry}
use Rattle.bz_task.specs.Instant.{Instant}
use Rattle.bz_task.specs.Requests.{IsAskable}
use Rattle.bz_task.specs.Scene.{Scene, Waiting, IsScene, here}
use Rattle.bz_task.specs.Swaps.{Stand, SwapsTo, IsGoodSwap}
use Rattle.bz_task.specs.declared.todo.Todo.{Todo}
use Rattle.bz_task.specs.declared.todo.Todo.TheVariants.{Store as Stores_at, Flush as Flushes_line, Swap as Swaps_for}
use Rattle.bz_record.specs.Laws.{inserts}
use Rattle.bz_record.specs.Records.{words_in, address_of, Fits}
use Rattle.bz_record.specs.Swaps.{entries_of, reservation, publication}
use Rattle.bz_record.specs.Writing.{first_line}
use Rattle.bz_record.specs.declared.new_record.NewRecord.{NewRecord}
use Rattle.bz_record.proofs.Proved.{new_record_swaps_may_be_asked, publications_are_good, records_are_written, reservations_are_good}
use Rattle.bz_insert.specs.Facts.{CanReserve, insert_asks, insert_facts, insert_publishes}
use Rattle.bz_insert.specs.declared.phase.InsertPhase.{InsertPhase}
use Rattle.bz_insert.specs.declared.phase.InsertPhase.TheVariants.{Fresh, Reserve, Store, Flush, Publish, Done, Restart, NeedsRoom, Full}

-- the leaf has room for the record
pub fits : (r : NewRecord) (s : Scene) → CanReserve r s → Fits r
fits r s v = record { key = v.viewed.key; payload = v.viewed.payload; some = v.viewed.some; few = v.viewed.few; plain = v.viewed.leaf.leaf.plain; room = v.room; dead = v.viewed.dead }

some-same : (a b : Todo) → Some a ≡ Some b → a ≡ b
some-same a b e = cc

same-entries : (a b : List Entry) → Some (Swaps_for a) ≡ Some (Swaps_for b) → a ≡ b
same-entries a b e = cc

pub askable : (c : Config) (r : NewRecord) (phase : InsertPhase) (s : Scene) (todo : Todo) → s.past.config ≡ c → insert_facts r phase Waiting s → IsScene s → insert_asks c r phase ≡ Some todo → IsAskable s todo
askable c r Fresh s todo same f good e = absurd (cc)
askable c r Reserve s todo same f good e =
    subst (IsAskable s) (ap (λ z. Swaps_for (entries_of z (reservation r))) same ∙ some-same _ todo e) (new_record_swaps_may_be_asked.first s r f.1.viewed.moment good (fits r s f.1) f.1.viewed.leaf.leaf)
askable c r (Store i) s todo same f good e =
    subst (IsAskable s) (ap (λ z. Stores_at (address_of z r i) (slice_index (words_in r) i)) same ∙ some-same _ todo e) (records_are_written.may_store r i i 0 s f.1.1.fits f.1.0 f.1.1.writing)
askable c r (Flush n) s todo same f good e =
    subst (IsAskable s) (ap (λ z. Flushes_line (first_line z r + n)) same ∙ some-same _ todo e) (records_are_written.may_flush r n s good f.1.1.fits f.1.1.reserved.leaf.leaf.slot f.1.0)
askable c r Publish s todo same f good e =
    subst (IsAskable s) (ap (λ z. Swaps_for (entries_of z (publication r))) same ∙ some-same _ todo e) (new_record_swaps_may_be_asked.second s r good f.1.fits f.1.reserved)
askable c r Done s todo same f good e = subst (IsAskable s) (some-same _ todo e) tt
askable c r Restart s todo same f good e = subst (IsAskable s) (some-same _ todo e) tt
askable c r NeedsRoom s todo same f good e = subst (IsAskable s) (some-same _ todo e) tt
askable c r Full s todo same f good e = subst (IsAskable s) (some-same _ todo e) tt

pub effect : (c : Config) (r : NewRecord) (phase : InsertPhase) (s : Scene) (y : Instant) (entries : List Entry) → s.past.config ≡ c → insert_facts r phase Waiting s → IsScene s
    → insert_asks c r phase ≡ Some (Swaps_for entries) → Stand entries (here s) → SwapsTo s.past.config entries (here s) y → IsGoodSwap (insert_publishes phase) (inserts r) entries s y
effect c r Fresh s y entries same f good e stand swaps = absurd (cc)
effect c r Reserve s y entries same f good e stand swaps =
    let is : entries_of s.past.config (reservation r) ≡ entries = ap (λ z. entries_of z (reservation r)) same ∙ same-entries _ entries e in
    subst (λ z. IsGoodSwap false (inserts r) z s y) is (reservations_are_good s y r f.1.viewed.moment (inserts r) good (fits r s f.1) f.1.viewed.leaf.leaf (subst (λ z. Stand z (here s)) (sym is) stand) (subst (λ z. SwapsTo s.past.config z (here s) y) (sym is) swaps))
effect c r (Store i) s y entries same f good e stand swaps = absurd (cc)
effect c r (Flush n) s y entries same f good e stand swaps = absurd (cc)
effect c r Publish s y entries same f good e stand swaps =
    let is : entries_of s.past.config (publication r) ≡ entries = ap (λ z. entries_of z (publication r)) same ∙ same-entries _ entries e in
    subst (λ z. IsGoodSwap true (inserts r) z s y) is (publications_are_good s y r good f.1.fits f.1.reserved f.1.written (subst (λ z. Stand z (here s)) (sym is) stand) (subst (λ z. SwapsTo s.past.config z (here s) y) (sym is) swaps))
effect c r Done s y entries same f good e stand swaps = absurd (cc)
effect c r Restart s y entries same f good e stand swaps = absurd (cc)
effect c r NeedsRoom s y entries same f good e stand swaps = absurd (cc)
effect c r Full s y entries same f good e stand swaps = absurd (cc)
