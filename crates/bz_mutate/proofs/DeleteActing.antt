-- What a delete asks for may be asked for, and what its swap leads to.
use Rattle.std.proofs.Common.{◌≡◌, ℕ, true, List, sym, ap, subst, ◌∙◌}
use Rattle.std.specs.Prelude.{Some, None}
use Rattle.bz_layout.specs.declared.config.Config.{Config}
use Rattle.bz_word.specs.declared.entry.Entry.{Entry}
use Rattle.bz_task.specs.Instant.{Instant}
use Rattle.bz_task.specs.Requests.{IsAskable}
use Rattle.bz_task.specs.Scene.{Scene, Waiting, IsScene, here}
use Rattle.bz_task.specs.Swaps.{Stand, SwapsTo, IsGoodSwap}
use Rattle.bz_task.specs.declared.todo.Todo.{Todo}
use Rattle.bz_task.specs.declared.todo.Todo.TheVariants.{Swap as Swaps_for}
use Rattle.bz_task.specs.declared.view.KeyView.{KeyView}
use Rattle.bz_record.specs.Replacing.{removal}
use Rattle.bz_record.specs.Swaps.{entries_of}
use Rattle.bz_record.proofs.Proved.{changes_may_be_asked, removals_are_good}
use Rattle.bz_mutate.specs.DeleteFacts.{delete_asks, delete_facts, delete_publishes, deletion}
use Rattle.bz_mutate.specs.declared.delete_phase.DeletePhase.{DeletePhase}
use Rattle.bz_mutate.specs.declared.delete_phase.DeletePhase.TheVariants.{Fresh, Remove, Done, Restart, NeedsRoom, Full}

some-same : (a b : Todo) → Some a ≡ Some b → a ≡ b
some-same a b e = cc

same-entries : (a b : List Entry) → Some (Swaps_for a) ≡ Some (Swaps_for b) → a ≡ b
same-entries a b e = cc

pub askable : (c : Config) (key : List ℕ) (v : KeyView) (phase : DeletePhase) (s : Scene) (todo : Todo) → s.past.config ≡ c → delete_facts key v phase Waiting s → IsScene s → delete_asks c v phase ≡ Some todo → IsAskable s todo
askable c key v Fresh s todo same f good e = absurd (cc)
askable c key v (Remove r) s todo same f good e =
    subst (IsAskable s) (ap (λ z. Swaps_for (entries_of z (removal v.slot v.status r.place r.extent))) same ∙ some-same _ todo e) (changes_may_be_asked.removes s key f.1.payload v.slot v.status r.place r.extent good f.1.was)
askable c key v Done s todo same f good e = subst (IsAskable s) (some-same _ todo e) tt
askable c key v Restart s todo same f good e = subst (IsAskable s) (some-same _ todo e) tt
askable c key v NeedsRoom s todo same f good e = subst (IsAskable s) (some-same _ todo e) tt
askable c key v Full s todo same f good e = subst (IsAskable s) (some-same _ todo e) tt

pub effect : (c : Config) (key : List ℕ) (v : KeyView) (phase : DeletePhase) (s : Scene) (y : Instant) (entries : List Entry) → s.past.config ≡ c → delete_facts key v phase Waiting s → IsScene s
    → delete_asks c v phase ≡ Some (Swaps_for entries) → Stand entries (here s) → SwapsTo s.past.config entries (here s) y → IsGoodSwap (delete_publishes phase) (deletion key v) entries s y
effect c key v Fresh s y entries same f good e stand swaps = absurd (cc)
effect c key v (Remove r) s y entries same f good e stand swaps =
    let is : entries_of s.past.config (removal v.slot v.status r.place r.extent) ≡ entries = ap (λ z. entries_of z (removal v.slot v.status r.place r.extent)) same ∙ same-entries _ entries e in
    subst (λ z. IsGoodSwap true (record { key = key; old = z; new = None }) entries s y) (sym f.1.said)
    (subst (λ z. IsGoodSwap true (record { key = key; old = Some f.1.payload; new = None }) z s y) is
    (removals_are_good s y key f.1.payload v.slot v.status r.place r.extent good f.1.was f.1.thawed (subst (λ z. Stand z (here s)) (sym is) stand) (subst (λ z. SwapsTo s.past.config z (here s) y) (sym is) swaps)))
effect c key v Done s y entries same f good e stand swaps = absurd (cc)
effect c key v Restart s y entries same f good e stand swaps = absurd (cc)
effect c key v NeedsRoom s y entries same f good e stand swaps = absurd (cc)
effect c key v Full s y entries same f good e stand swaps = absurd (cc)
