-- A delete asks for the removal of the record that it found; and where little is left, it tells so.
use Rattle.std.proofs.Common.{◌≡◌, ℕ, ◌-◌, ◌^◌, ◌<◌, ◌≤◌, true, List, Some, arith, refl, ap, subst, sym, ◌∙◌}
use Rattle.std.specs.Prelude.{nat_lt}
use Rattle.std.proofs.lemmas.Bool.Decides.{nat_tests}
use Rattle.bz_layout.specs.declared.config.Config.{Config}
use Rattle.bz_layout.specs.declared.thresholds.TheConstants.{MERGE_BELOW}
use Rattle.bz_mutate.specs.DeleteFacts.{delete_asks, delete_facts, leaves_few_without}
use Rattle.bz_mutate.specs.declared.delete_phase.DeletePhase.{DeletePhase}
use Rattle.bz_mutate.specs.declared.delete_phase.DeletePhase.TheVariants.{Remove}
use Rattle.bz_node.specs.Reading.{extent_words}
use Rattle.bz_record.specs.Records.{words_for}
use Rattle.bz_record.specs.Replacing.{removal}
use Rattle.bz_record.specs.Swaps.{entries_of}
use Rattle.bz_any_task.specs.Duties.{leaves_few_of, view_of}
use Rattle.bz_any_task.specs.Kinds.{kind_of}
use Rattle.bz_any_task.specs.declared.running.AnyTask.TheVariants.{Deleting}
use Rattle.bz_word.specs.Statuses.{status}
use Rattle.bz_word.specs.declared.entry.Entry.{Entry}
use Rattle.bz_task.specs.Instant.{Instant}
use Rattle.bz_task.specs.Outcomes.{payload_of}
use Rattle.bz_task.specs.Scene.{Scene, Waiting, IsScene, here}
use Rattle.bz_task.specs.Swaps.{Stand, SwapsTo}
use Rattle.bz_task.specs.declared.todo.Todo.TheVariants.{Swap as Swaps_for}
use Rattle.bz_task.specs.declared.view.KeyView.{KeyView}
use Rattle.bz_tally.proofs.Changes.{same-entries}
use Rattle.bz_tally.proofs.Removals.{left, loses}
use Rattle.bz_tally.specs.Deletes.{DeletesTakeOneRecord, DeletesTellFew, LosesOneRecord, live_of_key}

-- a delete tells that few words are left where these are fewer than a leaf needs
few-without : (st : ℕ) (key payload : List ℕ) → st < 2 ^ 61 → (status st).block - (status st).dead - words_for key payload < MERGE_BELOW → leaves_few_without st key (Some payload) ≡ true
few-without st key payload plain few =
    let t : nat_lt st (2 ^ 61) ≡ true = grind (arith, nat_tests) in
    let u : nat_lt ((status st).block - (status st).dead - words_for key payload) MERGE_BELOW ≡ true = grind (arith, nat_tests) in rw (t, u) refl

delete-loses : (c : Config) (key : List ℕ) (v : KeyView) (phase : DeletePhase) (s : Scene) (y : Instant) (entries : List Entry) → s.past.config ≡ c → delete_facts key v phase Waiting s → IsScene s
    → delete_asks c v phase ≡ Some (Swaps_for entries) → Stand entries (here s) → SwapsTo s.past.config entries (here s) y → LosesOneRecord key s y
delete-loses c key v (Remove f) s y entries same facts good e stand swaps =
    let is : entries_of s.past.config (removal v.slot v.status f.place f.extent) ≡ entries = ap (λ z. entries_of z (removal v.slot v.status f.place f.extent)) same ∙ same-entries _ entries e in
    loses s y key facts.1.payload v.slot v.status f.place f.extent good facts.1.was facts.1.thawed (subst (λ z. Stand z (here s)) (sym is) stand) (subst (λ z. SwapsTo s.past.config z (here s) y) (sym is) swaps)
delete-loses c key v phase s y entries same facts good e stand swaps = absurd (cc)

pub deletes-take-one : DeletesTakeOneRecord
unfolding view_of kind_of
deletes-take-one (Deleting t) entries s y w e = delete-loses t.config t.key t.view t.phase s y entries w.config w.knows w.good w.asks w.stand w.leads
deletes-take-one t entries s y w e = absurd (cc)

few-told : (c : Config) (key : List ℕ) (v : KeyView) (phase : DeletePhase) (s : Scene) (y : Instant) (entries : List Entry) → s.past.config ≡ c → delete_facts key v phase Waiting s → IsScene s
    → delete_asks c v phase ≡ Some (Swaps_for entries) → Stand entries (here s) → SwapsTo s.past.config entries (here s) y → live_of_key s.past.config y key < MERGE_BELOW → leaves_few_without v.status key (payload_of v.found) ≡ true
few-told c key v (Remove f) s y entries same facts good e stand swaps few =
    let is : entries_of s.past.config (removal v.slot v.status f.place f.extent) ≡ entries = ap (λ z. entries_of z (removal v.slot v.status f.place f.extent)) same ∙ same-entries _ entries e in
    let least : (status v.status).block - (status v.status).dead - extent_words f.extent ≤ live_of_key s.past.config y key =
    left s y key facts.1.payload v.slot v.status f.place f.extent good facts.1.was facts.1.thawed (subst (λ z. Stand z (here s)) (sym is) stand) (subst (λ z. SwapsTo s.past.config z (here s) y) (sym is) swaps) in
    subst (λ z. leaves_few_without v.status key z ≡ true) (sym facts.1.said) (few-without v.status key facts.1.payload facts.1.was.leaf.leaf.plain (omega (arith, least, few, facts.1.size)))
few-told c key v phase s y entries same facts good e stand swaps few = absurd (cc)

pub deletes-tell-few : DeletesTellFew
unfolding view_of kind_of leaves_few_of
deletes-tell-few (Deleting t) entries s y w e few = few-told t.config t.key t.view t.phase s y entries w.config w.knows w.good w.asks w.stand w.leads few
deletes-tell-few t entries s y w e few = absurd (cc)
