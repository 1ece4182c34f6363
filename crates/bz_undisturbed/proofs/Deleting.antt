-- A delete goes on: the leaf has the status that was viewed, and the record its metadata word.
use Rattle.std.proofs.Common.{ℕ, List, refl, subst}
use Rattle.bz_task.specs.Scene.{Scene, Waiting, IsScene}
use Rattle.bz_task.specs.declared.view.KeyView.{KeyView}
use Rattle.bz_record.specs.Replacing.{removal}
use Rattle.bz_record.specs.Swaps.{entries_of}
use Rattle.bz_mutate.specs.DeleteFacts.{delete_asks, delete_facts}
use Rattle.bz_mutate.specs.declared.delete_phase.DeletePhase.{DeletePhase}
use Rattle.bz_mutate.specs.declared.delete_phase.DeletePhase.TheVariants.{Remove}
use Rattle.bz_undisturbed.specs.Undisturbed.{GoesOn}
use Rattle.bz_undisturbed.specs.Laws.{DeletesGoOn}
use Rattle.bz_undisturbed.specs.Quiet.{IsQuietSince}
use Rattle.bz_undisturbed.proofs.Going.{idles, swaps}
use Rattle.bz_undisturbed.proofs.Records.{swap-stands}
use Rattle.bz_undisturbed.proofs.Quiet.{undisturbed}

goes : (s : Scene) → IsScene s → IsQuietSince s.past.since s.past → (key : List ℕ) (v : KeyView) (phase : DeletePhase) → delete_facts key v phase Waiting s → GoesOn (delete_asks s.past.config v phase) (λ seen. ⊥) s
goes s good q key v (Remove f) h =
    let w = removal v.slot v.status f.place f.extent in
    swaps (entries_of s.past.config w) (λ seen. ⊥) s (swap-stands s good s.past.since q w key h.1.payload f.extent h.1.was h.1.was.leaf.leaf.since refl) (λ seen d. d)
goes s good q key v phase h = idles _ (λ seen. ⊥) s (λ entries e. absurd (cc)) (λ seen d. d)

pub deletes-go-on : DeletesGoOn
deletes-go-on t s same good f a = subst (λ z. GoesOn (delete_asks z t.view t.phase) (λ seen. ⊥) s) same (goes s good (undisturbed.whole s good a) t.key t.view t.phase f)
