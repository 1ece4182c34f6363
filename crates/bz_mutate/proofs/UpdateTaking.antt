-- What an update knows once a swap, a store or a flush of its own is made.
use Rattle.std.proofs.Common.{◌≡◌, ℕ, ◌+◌, ◌||◌, Bool, true, false, List, [], ◌∷◌, refl, sym, ap, subst, ◌∙◌, Some}
use Rattle.std.specs.Prelude.{slice_index}
use Rattle.bz_layout.specs.declared.config.Config.{Config}
use Rattle.bz_word.specs.declared.entry.Entry.{Entry}
use Rattle.bz_task.specs.OwnActs.{Stores, Flushes}
use Rattle.bz_task.specs.Scene.{Scene, Waiting, Took, IsScene, HasFilled, here}
use Rattle.bz_task.specs.Swaps.{Stand, Takes}
use Rattle.bz_task.specs.declared.todo.Todo.TheVariants.{Store as Stores_at, Flush as Flushes_line, Swap as Swaps_for}
use Rattle.bz_task.specs.declared.view.KeyView.{KeyView}
use Rattle.bz_record.specs.Records.{words_in, address_of}
use Rattle.bz_record.specs.Replacing.{growth}
use Rattle.bz_record.specs.ReplacingLaws.{IsGrown}
use Rattle.bz_record.specs.Writing.{first_line}
use Rattle.bz_record.specs.declared.new_record.NewRecord.{NewRecord}
use Rattle.bz_record.proofs.Proved.{growths_take_words, records_are_written, records_were}
use Rattle.bz_mutate.specs.UpdateFacts.{update_asks, update_facts, update_publishes, IsLineOf}
use Rattle.bz_mutate.specs.declared.update_phase.UpdatePhase.{UpdatePhase}
use Rattle.bz_mutate.specs.declared.update_phase.UpdatePhase.TheVariants.{Fresh, Grow, Store, Flush, Replace, Done, Restart, NeedsRoom, Full}

same-entries : (a b : List Entry) → Some (Swaps_for a) ≡ Some (Swaps_for b) → a ≡ b
same-entries a b e = cc

-- slots that were taken and stored into
filled-after : (publishes : Bool) (entries : List Entry) (s after : Scene) → Takes publishes entries s after → HasFilled s → HasFilled after
filled-after publishes entries s after t f j h = t.filled j ∙ f j (sym (t.took j) ∙ h)

pub took : (c : Config) (v : KeyView) (r : NewRecord) (phase : UpdatePhase) (s after : Scene) (entries : List Entry) → s.past.config ≡ c → update_facts v r phase Waiting s → IsScene s → IsScene after
    → update_asks c r phase ≡ Some (Swaps_for entries) → Stand entries (here s) → Takes (update_publishes phase) entries s after → update_facts v r phase Took after
took c v r Fresh s after entries same k good later e stand t = absurd (cc)
took c v r (Grow f) s after entries same k good later e stand t =
    let is : (growth s.past.config r ∷ []) ≡ entries = ap (λ z. growth z r ∷ []) same ∙ same-entries _ entries e in
    let taken : IsGrown r k.1.pair.old f.place f.extent after = growths_take_words s after r k.1.pair.old f.place f.extent good later k.1.pair.fits k.1.was (subst (λ z. Stand z (here s)) (sym is) stand) (subst (λ z. Takes false z s after) (sym is) t) in
    (filled-after false entries s after t k.0, record { pair = k.1.pair; grown = taken.grown; writing = taken.words; going = t.effected ∙ k.1.going })
took c v r (Store f i) s after entries same k good later e stand t = absurd (cc)
took c v r (Flush f n) s after entries same k good later e stand t = absurd (cc)
took c v r (Replace f) s after entries same k good later e stand t = (filled-after true entries s after t k.0, record { room = k.1.pair.fits.room; effected = t.effected })
took c v r Done s after entries same k good later e stand t = absurd (cc)
took c v r Restart s after entries same k good later e stand t = absurd (cc)
took c v r NeedsRoom s after entries same k good later e stand t = absurd (cc)
took c v r Full s after entries same k good later e stand t = absurd (cc)

or-left : (a b : Bool) → a ≡ true → a || b ≡ true
or-left a b h = rw h refl

same-store : (a b v w : ℕ) → Some (Stores_at a v) ≡ Some (Stores_at b w) → (a ≡ b) × (v ≡ w)
same-store a b v w e = (cc, cc)

same-flush : (a b : ℕ) → Some (Flushes_line a) ≡ Some (Flushes_line b) → a ≡ b
same-flush a b e = cc

pub stored : (c : Config) (v : KeyView) (r : NewRecord) (phase : UpdatePhase) (s after : Scene) (a w : ℕ) → s.past.config ≡ c → update_facts v r phase Waiting s → update_asks c r phase ≡ Some (Stores_at a w) → Stores a w s after → update_facts v r phase Took after
stored c v r Fresh s after a w same k e t = absurd (cc)
stored c v r (Grow f) s after a w same k e t = absurd (cc)
stored c v r (Store f i) s after a w same k e t =
    let is = same-store (address_of c r i) a (slice_index (words_in r) i) w e in
    let at : a ≡ address_of s.past.config r i = sym is.0 ∙ ap (λ z. address_of z r i) (sym same) in
    let made : Stores (address_of s.past.config r i) (slice_index (words_in r) i) s after = subst (λ z. Stores z (slice_index (words_in r) i) s after) at (subst (λ z. Stores a z s after) (sym is.1) t) in (
      λ j h. t.filled j ∙ or-left (s.filled j) _ (k.0 j (sym (t.took j) ∙ h)),
      (k.1.0, record { pair = k.1.1.pair; grown = records_were.grown r k.1.1.pair.old f.place f.extent s.past after.past k.1.1.grown t.continues; writing = records_are_written.stores r i s after k.1.0 k.1.1.writing made; going = t.effected ∙ k.1.1.going }),
    )
stored c v r (Flush f n) s after a w same k e t = absurd (cc)
stored c v r (Replace f) s after a w same k e t = absurd (cc)
stored c v r Done s after a w same k e t = absurd (cc)
stored c v r Restart s after a w same k e t = absurd (cc)
stored c v r NeedsRoom s after a w same k e t = absurd (cc)
stored c v r Full s after a w same k e t = absurd (cc)

pub flushed : (c : Config) (v : KeyView) (r : NewRecord) (phase : UpdatePhase) (s after : Scene) (line : ℕ) → s.past.config ≡ c → update_facts v r phase Waiting s → update_asks c r phase ≡ Some (Flushes_line line) → Flushes line s after → update_facts v r phase Took after
flushed c v r Fresh s after line same k e t = absurd (cc)
flushed c v r (Grow f) s after line same k e t = absurd (cc)
flushed c v r (Store f i) s after line same k e t = absurd (cc)
flushed c v r (Flush f n) s after line same k e t =
    let is : line ≡ first_line s.past.config r + n = sym (same-flush (first_line c r + n) line e) ∙ ap (λ z. first_line z r + n) (sym same) in
    let made : Flushes (first_line s.past.config r + n) s after = subst (λ z. Flushes z s after) is t in (
      λ j h. t.filled j ∙ k.0 j (sym (t.took j) ∙ h),
      (subst (λ z. IsLineOf z r n) (sym t.continues.config) k.1.0, record { pair = k.1.1.pair; grown = records_were.grown r k.1.1.pair.old f.place f.extent s.past after.past k.1.1.grown t.continues; writing = records_are_written.flushes r n s after k.1.1.writing made; going = t.effected ∙ k.1.1.going }),
    )
flushed c v r (Replace f) s after line same k e t = absurd (cc)
flushed c v r Done s after line same k e t = absurd (cc)
flushed c v r Restart s after line same k e t = absurd (cc)
flushed c v r NeedsRoom s after line same k e t = absurd (cc)
flushed c v r Full s after line same k e t = absurd (cc)
