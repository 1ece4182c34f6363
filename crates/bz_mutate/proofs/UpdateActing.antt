-- What an update asks for may be asked for, and what its swaps lead to.
use Rattle.std.proofs.Common.{◌≡◌, ◌+◌, true, false, List, [], ◌∷◌, sym, ap, subst, ◌∙◌, Some}
use Rattle.std.specs.Prelude.{slice_index}
use Rattle.bz_layout.specs.declared.config.Config.{Config}
use Rattle.bz_word.specs.declared.entry.Entry.{Entry}
use Rattle.bz_task.specs.Instant.{Instant}
use Rattle.bz_task.specs.Requests.{IsAskable}
use Rattle.bz_task.specs.Scene.{Scene, Waiting, IsScene, here}
use Rattle.bz_task.specs.Swaps.{Stand, SwapsTo, IsGoodSwap}
use Rattle.bz_task.specs.declared.todo.Todo.{Todo}
use Rattle.bz_task.specs.declared.todo.Todo.TheVariants.{Store as Stores_at, Flush as Flushes_line, Swap as Swaps_for}
use Rattle.bz_task.specs.declared.view.KeyView.{KeyView}
use Rattle.bz_record.specs.Records.{words_in, address_of}
use Rattle.bz_record.specs.Replacing.{growth, replacement}
use Rattle.bz_record.specs.Swaps.{entries_of}
use Rattle.bz_record.specs.Writing.{first_line}
use Rattle.bz_record.specs.declared.new_record.NewRecord.{NewRecord}
use Rattle.bz_record.proofs.Proved.{changes_may_be_asked, growths_are_good, records_are_written, replacements_are_good}
use Rattle.bz_mutate.specs.UpdateFacts.{update_asks, update_facts, update_publishes, revision}
use Rattle.bz_mutate.specs.declared.update_phase.UpdatePhase.{UpdatePhase}
use Rattle.bz_mutate.specs.declared.update_phase.UpdatePhase.TheVariants.{Fresh, Grow, Store, Flush, Replace, Done, Restart, NeedsRoom, Full}

some-same : (a b : Todo) → Some a ≡ Some b → a ≡ b
some-same a b e = cc

same-entries : (a b : List Entry) → Some (Swaps_for a) ≡ Some (Swaps_for b) → a ≡ b
same-entries a b e = cc

pub askable : (c : Config) (v : KeyView) (r : NewRecord) (phase : UpdatePhase) (s : Scene) (todo : Todo) → s.past.config ≡ c → update_facts v r phase Waiting s → IsScene s → update_asks c r phase ≡ Some todo → IsAskable s todo
askable c v r Fresh s todo same f good e = absurd (cc)
askable c v r (Grow old) s todo same f good e =
    subst (IsAskable s) (ap (λ z. Swaps_for (growth z r ∷ [])) same ∙ some-same _ todo e) (changes_may_be_asked.grows s r f.1.was.moment good f.1.pair.fits f.1.was.leaf.leaf)
askable c v r (Store old i) s todo same f good e =
    subst (IsAskable s) (ap (λ z. Stores_at (address_of z r i) (slice_index (words_in r) i)) same ∙ some-same _ todo e) (records_are_written.may_store r i i 0 s f.1.1.pair.fits f.1.0 f.1.1.writing)
askable c v r (Flush old n) s todo same f good e =
    subst (IsAskable s) (ap (λ z. Flushes_line (first_line z r + n)) same ∙ some-same _ todo e) (records_are_written.may_flush r n s good f.1.1.pair.fits f.1.1.grown.was.leaf.leaf.slot f.1.0)
askable c v r (Replace old) s todo same f good e =
    subst (IsAskable s) (ap (λ z. Swaps_for (entries_of z (replacement r old.place old.extent))) same ∙ some-same _ todo e) (changes_may_be_asked.replaces s r f.1.pair.old old.place old.extent good f.1.pair.fits f.1.grown)
askable c v r Done s todo same f good e = subst (IsAskable s) (some-same _ todo e) tt
askable c v r Restart s todo same f good e = subst (IsAskable s) (some-same _ todo e) tt
askable c v r NeedsRoom s todo same f good e = subst (IsAskable s) (some-same _ todo e) tt
askable c v r Full s todo same f good e = subst (IsAskable s) (some-same _ todo e) tt

pub effect : (c : Config) (v : KeyView) (r : NewRecord) (phase : UpdatePhase) (s : Scene) (y : Instant) (entries : List Entry) → s.past.config ≡ c → update_facts v r phase Waiting s → IsScene s
    → update_asks c r phase ≡ Some (Swaps_for entries) → Stand entries (here s) → SwapsTo s.past.config entries (here s) y → IsGoodSwap (update_publishes phase) (revision v r) entries s y
effect c v r Fresh s y entries same f good e stand swaps = absurd (cc)
effect c v r (Grow old) s y entries same f good e stand swaps =
    let is : (growth s.past.config r ∷ []) ≡ entries = ap (λ z. growth z r ∷ []) same ∙ same-entries _ entries e in
    subst (λ z. IsGoodSwap false (revision v r) z s y) is (growths_are_good s y r f.1.was.moment (revision v r) good f.1.pair.fits f.1.was.leaf.leaf (subst (λ z. Stand z (here s)) (sym is) stand) (subst (λ z. SwapsTo s.past.config z (here s) y) (sym is) swaps))
effect c v r (Store old i) s y entries same f good e stand swaps = absurd (cc)
effect c v r (Flush old n) s y entries same f good e stand swaps = absurd (cc)
effect c v r (Replace old) s y entries same f good e stand swaps =
    let is : entries_of s.past.config (replacement r old.place old.extent) ≡ entries = ap (λ z. entries_of z (replacement r old.place old.extent)) same ∙ same-entries _ entries e in
    subst (λ z. IsGoodSwap true (record { key = r.key; old = z; new = Some r.payload }) entries s y) (sym f.1.pair.said)
    (subst (λ z. IsGoodSwap true (record { key = r.key; old = Some f.1.pair.old; new = Some r.payload }) z s y) is
    (replacements_are_good s y r f.1.pair.old old.place old.extent good f.1.pair.fits f.1.grown f.1.written (subst (λ z. Stand z (here s)) (sym is) stand) (subst (λ z. SwapsTo s.past.config z (here s) y) (sym is) swaps)))
effect c v r Done s y entries same f good e stand swaps = absurd (cc)
effect c v r Restart s y entries same f good e stand swaps = absurd (cc)
effect c v r NeedsRoom s y entries same f good e stand swaps = absurd (cc)
effect c v r Full s y entries same f good e stand swaps = absurd (cc)
