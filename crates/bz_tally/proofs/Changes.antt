-- The swaps of inserts, updates, deletes and freezes name words of one leaf.
use Rattle.std.proofs.Common.{◌≡◌, ℕ, ◌+◌, ◌<◌, ◌≤◌, List, [], ◌∷◌, Some, arith, refl, sym, ap, subst, ◌∙◌, inl}
use Rattle.bz_layout.specs.declared.config.Config.{Config}
use Rattle.bz_layout.specs.declared.sizes.TheConstants.{NODE_WORDS, STATUS_AT, META_AT, SHARED_WORDS}
use Rattle.bz_freeze.specs.Facts.{entry_of, freeze_asks, freeze_facts}
use Rattle.bz_freeze.specs.declared.phase.FreezePhase.{FreezePhase}
use Rattle.bz_freeze.specs.declared.phase.FreezePhase.TheVariants.{Swap as Freezes}
use Rattle.bz_insert.specs.Facts.{insert_asks, insert_facts}
use Rattle.bz_insert.specs.declared.phase.InsertPhase.{InsertPhase}
use Rattle.bz_insert.specs.declared.phase.InsertPhase.TheVariants.{Reserve, Publish}
use Rattle.bz_any_task.specs.FromMerge.Merges.{WasLeafOnce}
use Rattle.bz_mutate.specs.DeleteFacts.{delete_asks, delete_facts}
use Rattle.bz_mutate.specs.UpdateFacts.{update_asks, update_facts}
use Rattle.bz_mutate.specs.declared.delete_phase.DeletePhase.{DeletePhase}
use Rattle.bz_mutate.specs.declared.delete_phase.DeletePhase.TheVariants.{Remove}
use Rattle.bz_mutate.specs.declared.update_phase.UpdatePhase.{UpdatePhase}
use Rattle.bz_mutate.specs.declared.update_phase.UpdatePhase.TheVariants.{Grow, Replace}
use Rattle.bz_record.specs.Leaves.{WasLeafThen}
use Rattle.bz_record.specs.Replacing.{growth, removal, replacement}
use Rattle.bz_record.specs.Swaps.{entries_of, publication, reservation}
use Rattle.bz_record.specs.declared.new_record.NewRecord.{NewRecord}
use Rattle.bz_record.specs.declared.record_swap.RecordSwap.{RecordSwap}
use Rattle.bz_slotted.specs.Page.{page}
use Rattle.bz_slotted.specs.Whole.{Whole}
use Rattle.bz_slotted.proofs.Proved.{leaf_rules_are_facts}
use Rattle.bz_word.specs.Statuses.{status}
use Rattle.bz_word.specs.declared.entry.Entry.{Entry}
use Rattle.bz_content.specs.Image.{node}
use Rattle.bz_task.specs.Good.{IsGood}
use Rattle.bz_task.specs.Instant.{Instant, durable}
use Rattle.bz_task.specs.Laws.{IsLeafInTree}
use Rattle.bz_task.specs.Scene.{Past, Scene, Waiting, IsScene, here}
use Rattle.bz_task.specs.Swaps.{SwapsTo}
use Rattle.bz_task.specs.declared.todo.Todo.TheVariants.{Swap as Swaps_for}
use Rattle.bz_task.specs.declared.view.KeyView.{KeyView}
use Rattle.bz_task.proofs.Proved.{leaves_are_in_trees}
use Rattle.bz_tally.proofs.LeafWords.{keeps, names-record, names-status}
use Rattle.bz_tally.specs.Counts.{KeepsTheLeaves}
use Rattle.bz_tally.specs.Laws.{ChangesKeepTheLeaves}

pub same-entries : (a b : List Entry) → Some (Swaps_for a) ≡ Some (Swaps_for b) → a ≡ b
same-entries a b e = cc

once : (k st moment : ℕ) (p : Past) → WasLeafThen k st moment p → WasLeafOnce k p
once k st moment p w = record { moment = moment; since = w.since; now = w.now; slot = w.slot; inside = w.inside; leaf = w.leaf }

-- a swap of a record that is one of a leaf
module _ (s : Scene) (y : Instant) (entries : List Entry) (good : IsScene s) (swaps : SwapsTo s.past.config entries (here s) y) where
  by-record : (w : RecordSwap) → WasLeafOnce w.slot s.past → META_AT + w.place < NODE_WORDS → entries_of s.past.config w ≡ entries → KeepsTheLeaves s y
  by-record w was within is =
      keeps (entries_of s.past.config w) s y w.slot good was (names-record s.past.config w within) (subst (λ z. SwapsTo s.past.config z (here s) y) (sym is) swaps)

  pub by-status : (e : Entry) (k : ℕ) → WasLeafOnce k s.past → (e ∷ [] ≡ entries) → e.target ≡ (entry_of s.past.config k 0).target → KeepsTheLeaves s y
  by-status e k was is at = keeps (e ∷ []) s y k good was (names-status s.past.config k e at) (subst (λ z. SwapsTo s.past.config z (here s) y) (sym is) swaps)

-- a leaf has no more records than it has words
count-fits : (s : Scene) (k st moment : ℕ) → IsScene s → WasLeafThen k st moment s.past → (status st).count ≤ SHARED_WORDS
count-fits s k st moment good w =
    let g : IsGood s.past.config (s.past.at moment) = good.history.good moment w.since w.now in
    let l : IsLeafInTree s.past.config (s.past.at moment) k = leaves_are_in_trees s.past.config (s.past.at moment) k g w.slot w.inside w.leaf in
    let whole : Whole (node s.past.config (s.past.at moment).image k) (page (durable s.past.config (s.past.at moment) k)) _ _ =
    (leaf_rules_are_facts s.past.config.nodes (node s.past.config (s.past.at moment).image k) (durable s.past.config (s.past.at moment) k) _ _).0 l.whole in
    let is : durable s.past.config (s.past.at moment) k STATUS_AT ≡ st = g.shown k STATUS_AT l.reached (inl (omega arith)) ∙ w.was in
    subst (λ z. (status z).count ≤ SHARED_WORDS) is (omega (arith, whole.filled.room))

insert-keeps : (c : Config) (r : NewRecord) (phase : InsertPhase) (s : Scene) (y : Instant) (entries : List Entry) → s.past.config ≡ c → insert_facts r phase Waiting s → IsScene s
    → insert_asks c r phase ≡ Some (Swaps_for entries) → SwapsTo s.past.config entries (here s) y → KeepsTheLeaves s y
insert-keeps c r Reserve s y entries same f good e swaps =
    by-record s y entries good swaps (reservation r) (once _ _ _ s.past f.1.viewed.leaf.leaf) (omega (arith, f.1.room.fits)) (ap (λ z. entries_of z (reservation r)) same ∙ same-entries _ entries e)
insert-keeps c r Publish s y entries same f good e swaps =
    by-record s y entries good swaps (publication r) (once _ _ _ s.past f.1.reserved.leaf.leaf) (omega (arith, f.1.fits.room.fits)) (ap (λ z. entries_of z (publication r)) same ∙ same-entries _ entries e)
insert-keeps c r phase s y entries same f good e swaps = absurd (cc)

update-keeps : (c : Config) (v : KeyView) (r : NewRecord) (phase : UpdatePhase) (s : Scene) (y : Instant) (entries : List Entry) → s.past.config ≡ c → update_facts v r phase Waiting s → IsScene s
    → update_asks c r phase ≡ Some (Swaps_for entries) → SwapsTo s.past.config entries (here s) y → KeepsTheLeaves s y
update-keeps c v r (Grow g) s y entries same f good e swaps =
    by-status s y entries good swaps (growth s.past.config r) r.slot (once _ _ _ s.past f.1.was.leaf.leaf) (ap (λ z. growth z r ∷ []) same ∙ same-entries _ entries e) refl
update-keeps c v r (Replace g) s y entries same f good e swaps =
    by-record s y entries good swaps (replacement r g.place g.extent) (once _ _ _ s.past f.1.grown.was.leaf.leaf) (omega (arith, f.1.pair.place)) (ap (λ z. entries_of z (replacement r g.place g.extent)) same ∙ same-entries _ entries e)
update-keeps c v r phase s y entries same f good e swaps = absurd (cc)

delete-keeps : (c : Config) (key : List ℕ) (v : KeyView) (phase : DeletePhase) (s : Scene) (y : Instant) (entries : List Entry) → s.past.config ≡ c → delete_facts key v phase Waiting s → IsScene s
    → delete_asks c v phase ≡ Some (Swaps_for entries) → SwapsTo s.past.config entries (here s) y → KeepsTheLeaves s y
delete-keeps c key v (Remove g) s y entries same f good e swaps =
    by-record s y entries good swaps (removal v.slot v.status g.place g.extent) (once _ _ _ s.past f.1.was.leaf.leaf)
    (omega (arith, f.1.was.counted, count-fits s v.slot v.status f.1.was.moment good f.1.was.leaf.leaf)) (ap (λ z. entries_of z (removal v.slot v.status g.place g.extent)) same ∙ same-entries _ entries e)
delete-keeps c key v phase s y entries same f good e swaps = absurd (cc)

freeze-keeps : (c : Config) (k st : ℕ) (phase : FreezePhase) (s : Scene) (y : Instant) (entries : List Entry) → s.past.config ≡ c → freeze_facts k st phase Waiting s → IsScene s
    → freeze_asks c k st phase ≡ Some (Swaps_for entries) → SwapsTo s.past.config entries (here s) y → KeepsTheLeaves s y
freeze-keeps c k st Freezes s y entries same f good e swaps =
    let w = f.1 in
    by-status s y entries good swaps (entry_of s.past.config k st) k (record { moment = w.moment; since = w.since; now = w.now; slot = w.slot; inside = w.inside; leaf = w.leaf })
    (ap (λ z. entry_of z k st ∷ []) same ∙ same-entries _ entries e) refl
freeze-keeps c k st phase s y entries same f good e swaps = absurd (cc)

pub changes-keep : ChangesKeepTheLeaves
changes-keep = record {
  insert = λ t entries s y w. insert-keeps t.config t.added t.phase s y entries w.config w.knows w.good w.asks w.leads;
  update = λ t entries s y w. update-keeps t.config t.view t.added t.phase s y entries w.config w.knows w.good w.asks w.leads;
  delete = λ t entries s y w. delete-keeps t.config t.key t.view t.phase s y entries w.config w.knows w.good w.asks w.leads;
  freeze = λ t entries s y w. freeze-keeps t.config t.slot t.status t.phase s y entries w.config w.knows w.good w.asks w.leads;
}
