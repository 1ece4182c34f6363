-- A merge goes on: guards and the neighbour's status are as they were read, and so is all that its swaps name; after its own freezes too.
use Rattle.std.proofs.Common.{◌≡◌, ◌+◌, [], ◌∷◌, arith, refl, sym, ap, subst, ◌∙◌, inl, inr}
use Rattle.std.specs.Prelude.{true, slice_index}
use Rattle.bz_layout.specs.Addresses.{node_address}
use Rattle.bz_layout.specs.declared.sizes.TheConstants.{STATUS_AT}
use Rattle.bz_swap.proofs.EntryLists.{All-inserted}
use Rattle.bz_word.specs.declared.entry.Entry.{Entry}
use Rattle.bz_renew.proofs.TwoEntries.{all-two}
use Rattle.bz_renew.specs.Freezings.{freezing_entry}
use Rattle.bz_renew.specs.Renewals.{link_entry, guard_entry, renewal}
use Rattle.bz_task.specs.Scene.{Scene, Waiting, IsScene, here}
use Rattle.bz_task.specs.Shown.{IsRead}
use Rattle.bz_task.specs.Swaps.{Stand}
use Rattle.bz_task.proofs.Proved.{fronts_stay}
use Rattle.bz_freeze.specs.Facts.{entry_of}
use Rattle.bz_below.specs.FromSplit.BelowSplits.{AreLinksDown, parent_freezing, below_swap}
use Rattle.bz_any_task.specs.FromMerge.Counts.{merge_made}
use Rattle.bz_any_task.specs.FromMerge.Duties.{merging_of}
use Rattle.bz_any_task.specs.FromMerge.Facts.{merge_asks, merge_facts, merge_differs}
use Rattle.bz_any_task.specs.FromMerge.Plans.{Merging, viewed_leaf, beside_leaf}
use Rattle.bz_any_task.specs.FromMerge.Siblings.{SeenLeaf}
use Rattle.bz_any_task.specs.FromMerge.MergePhase.{MergePhase}
use Rattle.bz_any_task.specs.FromMerge.MergePhase.TheVariants.{Again, Parent, Still, Freeze, FreezeBeside, Guard, Swap}
use Rattle.bz_undisturbed.specs.Undisturbed.{IsUndisturbed, GoesOn}
use Rattle.bz_undisturbed.specs.Changes.{MergesGoOn}
use Rattle.bz_undisturbed.specs.Quiet.{IsQuietSince}
use Rattle.bz_undisturbed.proofs.Freezing.{one-stands}
use Rattle.bz_undisturbed.proofs.Going.{idles, reads, swaps}
use Rattle.bz_undisturbed.proofs.Links.{guard-same}
use Rattle.bz_undisturbed.proofs.Named.{WasSeenOnce, both-seen, AsRead, leaf-as-seen}
use Rattle.bz_undisturbed.proofs.OwnFreezes.{beside-as-read, both-as-read}
use Rattle.bz_undisturbed.proofs.Standing.{status-stands}
use Rattle.bz_undisturbed.proofs.Quiet.{undisturbed}

-- before it has frozen anything
module _ (s : Scene) (good : IsScene s) (q : IsQuietSince s.past.since s.past) where
  freeze-stands : (l : SeenLeaf) → WasSeenOnce l s.past → Stand (entry_of s.past.config l.slot l.status ∷ []) (here s)
  freeze-stands l w = one-stands (entry_of s.past.config l.slot l.status) s (leaf-as-seen s good q l w)

  again-goes : (r : Merging) → merge_facts r Again Waiting s → GoesOn (merge_asks s.past.config r Again) (merge_differs r Again) s
  again-goes r f = reads r.lower.guard (merge_differs r Again) s (λ v a d. d (guard-same s good q r.lower v f.1.viewed.links.guard a))

  parent-goes : (r : Merging) → merge_facts r Parent Waiting s → GoesOn (merge_asks s.past.config r Parent) (merge_differs r Parent) s
  parent-goes r f = reads r.lower.guard (merge_differs r Parent) s (λ v a d. d (guard-same s good q r.lower v f.1.0.viewed.links.guard a))

  still-goes : (r : Merging) → merge_facts r Still Waiting s → GoesOn (merge_asks s.past.config r Still) (merge_differs r Still) s
  still-goes r f =
      let o = f.1.reading in
      reads (node_address s.past.config r.beside_slot + STATUS_AT) (merge_differs r Still) s
      (λ v a d. d (sym a.value ∙ status-stands s good s.past.since q r.beside_slot o.at (slice_index r.beside STATUS_AT) o.since o.now o.reached o.was))

  freeze-goes : (r : Merging) → merge_facts r Freeze Waiting s → GoesOn (merge_asks s.past.config r Freeze) (merge_differs r Freeze) s
  freeze-goes r f = swaps (entry_of s.past.config r.lower.slot r.status ∷ []) (merge_differs r Freeze) s (freeze-stands (viewed_leaf r) (both-seen r s.past f.1.0).0) (λ seen d. d)

-- what its swaps name
module _ (s : Scene) (good : IsScene s) (r : Merging) where
  swap-stands : AreLinksDown r.upper r.lower s.past → AsRead r (here s) → Stand (below_swap s.past.config r.upper r.lower (r.slot 0)) (here s)
  swap-stands d x =
      let P : Entry → Type 0 = λ (e : Entry). (here s).value e.target ≡ e.expected in
      let parent : (here s).value (node_address s.past.config r.upper.slot + STATUS_AT) ≡ r.lower.status =
      ap (here s).value (sym (d.under.guard ∙ ap (λ z. node_address s.past.config z + STATUS_AT) d.parent)) ∙ x.parent in
      All-inserted P (freezing_entry s.past.config (parent_freezing r.upper r.lower)) (renewal r.upper (r.slot 0)) parent
      (all-two P (link_entry r.upper (r.slot 0)) (guard_entry r.upper) x.link x.guard)

  beside-read : WasSeenOnce (beside_leaf r) s.past → IsRead s.past.config (here s) (node_address s.past.config r.beside_slot + STATUS_AT)
  beside-read seen =
      let o = seen.seen.stood in
      let then : (s.past.at seen.at).reached r.beside_slot ≡ true = (good.history.good seen.at o.since o.now).inside r.beside_slot o.inside (λ e. omega (arith, e, o.slot)) in
      let reached : (here s).reached r.beside_slot ≡ true =
      (fronts_stay s.past.config s.past.at s.past.since s.past.now seen.at s.past.now r.beside_slot good.history (record { since = o.since; order = o.now; until = omega arith }) then).reached in
      inr (inr (record { slot = r.beside_slot; place = STATUS_AT; address = refl; within = omega arith; reached = reached; shown = inl (omega arith) }))

  beside-goes : merge_facts r FreezeBeside Waiting s → IsUndisturbed (merge_made r FreezeBeside) s.past → GoesOn (merge_asks s.past.config r FreezeBeside) (merge_differs r FreezeBeside) s
  beside-goes f a =
      let seen : WasSeenOnce (beside_leaf r) s.past = (both-seen r s.past f.1.0).1 in
      swaps (entry_of s.past.config r.beside_slot (slice_index r.beside STATUS_AT) ∷ []) (merge_differs r FreezeBeside) s
      (one-stands (entry_of s.past.config r.beside_slot (slice_index r.beside STATUS_AT)) s (beside-as-read s good r f.1.1.1.1 a seen (beside-read seen))) (λ seen d. d)

  guard-goes : merge_facts r Guard Waiting s → IsUndisturbed (merge_made r Guard) s.past → GoesOn (merge_asks s.past.config r Guard) (merge_differs r Guard) s
  guard-goes f a = reads r.upper.guard (merge_differs r Guard) s (λ v h d. d (sym h.value ∙ (both-as-read s good r f.1.planned.paired.viewed.links f.1.froze a).guard))

  swap-goes : merge_facts r Swap Waiting s → IsUndisturbed (merge_made r Swap) s.past → GoesOn (merge_asks s.past.config r Swap) (merge_differs r Swap) s
  swap-goes f a =
      let d = f.1.frozen.planned.paired.viewed.links in
      swaps (below_swap s.past.config r.upper r.lower (r.slot 0)) (merge_differs r Swap) s (swap-stands d (both-as-read s good r d f.1.frozen.froze a)) (λ seen d. d)

merge-goes : (s : Scene) → IsScene s → (r : Merging) (phase : MergePhase) → merge_facts r phase Waiting s → IsUndisturbed (merge_made r phase) s.past → GoesOn (merge_asks s.past.config r phase) (merge_differs r phase) s
merge-goes s good r Again f a = again-goes s good (undisturbed.whole s good a) r f
merge-goes s good r Parent f a = parent-goes s good (undisturbed.whole s good a) r f
merge-goes s good r Still f a = still-goes s good (undisturbed.whole s good a) r f
merge-goes s good r Freeze f a = freeze-goes s good (undisturbed.whole s good a) r f
merge-goes s good r FreezeBeside f a = beside-goes s good r f a
merge-goes s good r Guard f a = guard-goes s good r f a
merge-goes s good r Swap f a = swap-goes s good r f a
merge-goes s good r phase f a = idles _ (merge_differs r phase) s (λ entries e. absurd (cc)) (λ seen d. d)

pub merges-go-on : MergesGoOn
merges-go-on t s same good f a = subst (λ z. GoesOn (merge_asks z (merging_of t) t.phase) (merge_differs (merging_of t) t.phase) s) same (merge-goes s good (merging_of t) t.phase f a)
