-- The merge of two inner nodes under the root goes on: the three statuses are as they were read, and no frozen node's, the root pointer leads
-- where it led, and so are the words of its swap.
use Rattle.std.proofs.Common.{◌≡◌, ◌≢◌, ◌⊎◌, ℕ, ◌+◌, ◌≤◌, Bool, true, false, Some, List, [], ◌∷◌, slice_index, arith, sym, ap, subst, ◌∙◌, inl, inr}
use Rattle.bz_any_task.specs.FromInner.InnerMerges.{WasOpen, merge_swap, open_freezing}
use Rattle.bz_any_task.specs.FromInner.JoinDuties.{joining_of}
use Rattle.bz_any_task.specs.FromInner.JoinFacts.{joining_asks, joining_facts, joining_differs}
use Rattle.bz_any_task.specs.FromInner.Joinings.{Joining, ArePlanned, IsPaired, IsReadingBeside, left_slot, left_words, right_slot, right_words, sep_of}
use Rattle.bz_any_task.specs.FromInner.JoinPhase.{JoinPhase}
use Rattle.bz_any_task.specs.FromInner.JoinPhase.TheVariants.{AboveAgain, OwnAgain, Status, BesideAgain, Writing}
use Rattle.bz_any_task.specs.FromInner.Neighbours.{StoodBeside, first_of, second_of}
use Rattle.bz_any_task.specs.FromInner.Relinks.{relink_with, root_entry}
use Rattle.bz_layout.specs.Addresses.{node_address}
use Rattle.bz_layout.specs.declared.sizes.TheConstants.{NODE_WORDS, STATUS_AT, ROOT_AT}
use Rattle.bz_renew.specs.Freezings.{freezing_entry}
use Rattle.bz_swap.proofs.EntryLists.{All-inserted}
use Rattle.bz_word.specs.Statuses.{status}
use Rattle.bz_word.specs.declared.entry.Entry.{Entry}
use Rattle.bz_writer.specs.declared.phase.WritePhase.TheVariants.{Guard, Swap}
use Rattle.bz_task.specs.Requests.{Answers}
use Rattle.bz_task.specs.Scene.{Scene, Waiting, IsScene, here}
use Rattle.bz_task.specs.Swaps.{Stand}
use Rattle.bz_undisturbed.specs.Undisturbed.{GoesOn}
use Rattle.bz_undisturbed.specs.Laws.{InnerMergesGoOn}
use Rattle.bz_undisturbed.specs.Quiet.{IsQuietSince}
use Rattle.bz_undisturbed.proofs.Freezing.{one-stands}
use Rattle.bz_undisturbed.proofs.Going.{idles, reads, swaps}
use Rattle.bz_undisturbed.proofs.Links.{guard-same}
use Rattle.bz_undisturbed.proofs.Quiet.{undisturbed}
use Rattle.bz_undisturbed.proofs.Standing.{status-stands}
use Rattle.bz_undisturbed.proofs.Thawed.{StoodOnce, both-stood, root-as-read, root-led, stood-reached, stood-thawed}

module _ (s : Scene) (good : IsScene s) (q : IsQuietSince s.past.since s.past) (r : Joining) where
  own-stood : IsPaired r s.past → StoodOnce r.middle.slot s.past
  own-stood p = (both-stood r.right r.middle.slot r.beside_slot p.at (sep_of r.above r.place) s.past p.stood).0

  beside-stood : IsPaired r s.past → StoodOnce r.beside_slot s.past
  beside-stood p = (both-stood r.right r.middle.slot r.beside_slot p.at (sep_of r.above r.place) s.past p.stood).1

  -- the node's own status, once more
  own-as-read : (p : IsPaired r s.past) (v : ℕ) → Answers s r.lower.guard v → (v ≢ r.lower.status) ⊎ ((status v).frozen ≡ true) → ⊥
  own-as-read p v a (inl d) = d (guard-same s good q r.lower v p.links.own.guard a)
  own-as-read p v a (inr d) =
      let is : r.lower.guard ≡ node_address s.past.config r.middle.slot + STATUS_AT = p.links.own.under.guard ∙ ap (λ k. node_address s.past.config k + STATUS_AT) p.links.own.parent in
      stood-thawed s good q r.middle.slot (own-stood p) v (ap (here s).value (sym is) ∙ a.value) d

  -- the neighbour's
  beside-reached : (right : Bool) (m i : ℕ) → StoodBeside (first_of right r.middle.slot r.beside_slot) (second_of right r.middle.slot r.beside_slot) m (sep_of r.above r.place) s.past → m ≤ i → i ≤ s.past.now → (s.past.at i).reached r.beside_slot ≡ true
  beside-reached true m i b from to = stood-reached s good q r.beside_slot (record { at = m; since = b.since; now = b.now; level = b.level; inner = b.inner; low = Some (sep_of r.above r.place); high = b.high; stood = b.right }) i from to
  beside-reached false m i b from to = stood-reached s good q r.beside_slot (record { at = m; since = b.since; now = b.now; level = b.level; inner = b.inner; low = b.low; high = Some (sep_of r.above r.place); stood = b.left }) i from to

  beside-as-read : (p : IsReadingBeside r NODE_WORDS s.past) (v : ℕ) → Answers s (node_address s.past.config r.beside_slot + STATUS_AT) v → v ≢ slice_index r.beside STATUS_AT → ⊥
  beside-as-read p v a d =
      let since : s.past.since ≤ p.at = omega (arith, p.has.paired.stood.since, p.later) in
      let reached : (s.past.at p.at).reached r.beside_slot ≡ true = beside-reached r.right p.has.paired.at p.at p.has.paired.stood p.later p.now in
      d (sym a.value ∙ status-stands s good s.past.since q r.beside_slot p.at (slice_index r.beside STATUS_AT) since p.now reached p.status)

  open-stands : (k m : ℕ) (read : List ℕ) → WasOpen k m read s.past → (here s).value (node_address s.past.config k + STATUS_AT) ≡ slice_index read STATUS_AT
  open-stands k m read w = status-stands s good s.past.since q k m (slice_index read STATUS_AT) w.since w.now w.node.reached (λ t. w.node.were t STATUS_AT)

  swap-stands : (to : ℕ) → ArePlanned r s.past → Stand (merge_swap s.past.config (left_slot r) (right_slot r) r.upper.slot (left_words r) (right_words r) r.above to) (here s)
  swap-stands to f =
      let P : Entry → Type 0 = λ (e : Entry). (here s).value e.target ≡ e.expected in
      All-inserted P (freezing_entry s.past.config (open_freezing (left_slot r) (left_words r))) (relink_with s.past.config r.upper.slot to (open_freezing (right_slot r) (right_words r) ∷ open_freezing r.upper.slot r.above ∷ []))
      (open-stands (left_slot r) f.left_at (left_words r) f.read.left)
      (All-inserted P (freezing_entry s.past.config (open_freezing (right_slot r) (right_words r))) (relink_with s.past.config r.upper.slot to (open_freezing r.upper.slot r.above ∷ []))
      (open-stands (right_slot r) f.right_at (right_words r) f.read.right)
      (All-inserted P (freezing_entry s.past.config (open_freezing r.upper.slot r.above)) (relink_with s.past.config r.upper.slot to [])
      (open-stands r.upper.slot f.above_at r.above f.read.parent)
      (one-stands (root_entry r.upper.slot to) s (root-led s good q r.upper f.under f.guard))))

  goes : (phase : JoinPhase) → joining_facts r phase Waiting s → GoesOn (joining_asks s.past.config r phase) (joining_differs r phase) s
  goes AboveAgain f = let l = f.1.links in reads r.middle.guard (joining_differs r AboveAgain) s (root-as-read s good q r.upper r.middle l.under l.guard l.parent)
  goes OwnAgain f = reads r.lower.guard (joining_differs r OwnAgain) s (own-as-read f.1.paired)
  goes Status f = reads (node_address s.past.config r.beside_slot + STATUS_AT) (joining_differs r Status) s (λ v a d. stood-thawed s good q r.beside_slot (beside-stood f.1.paired) v a.value d)
  goes BesideAgain f = reads (node_address s.past.config r.beside_slot + STATUS_AT) (joining_differs r BesideAgain) s (beside-as-read f.1)
  goes (Writing Guard) f = reads ROOT_AT (joining_differs r (Writing Guard)) s (λ v a d. d (sym a.value ∙ root-led s good q r.upper f.1.under f.1.guard))
  goes (Writing Swap) f =
      swaps (merge_swap s.past.config (left_slot r) (right_slot r) r.upper.slot (left_words r) (right_words r) r.above (r.slot 0)) (joining_differs r (Writing Swap)) s (swap-stands (r.slot 0) f.1.ready.planned) (λ seen d. d)
  goes phase f = idles _ (joining_differs r phase) s (λ entries e. absurd (cc)) (λ seen d. d)

pub inner-merges-go-on : InnerMergesGoOn
inner-merges-go-on t s same good f a = subst (λ z. GoesOn (joining_asks z (joining_of t) t.phase) (joining_differs (joining_of t) t.phase) s) same (goes s good (undisturbed.whole s good a) (joining_of t) t.phase f)
