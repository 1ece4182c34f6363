-- The parent where its status is found as it was: its words are those of one moment, and its status tells how many of them are taken.
use Rattle.std.proofs.Common.{◌≡◌, ℕ, ◌+◌, ◌<◌, ◌≤◌, List, length, map, slice_index, arith, sym, ap, subst, ◌∙◌, Option}
use Rattle.bz_key.specs.Packing.{packed}
use Rattle.bz_layout.specs.declared.sizes.TheConstants.{NODE_WORDS, STATUS_AT, SHARED_WORDS}
use Rattle.bz_node.specs.Layout.{needed}
use Rattle.bz_node.specs.Reading.{children_in}
use Rattle.bz_node.specs.Records.{child_entry}
use Rattle.bz_parted.specs.Laws.{IsReadNode, ReadNodesHaveChildren}
use Rattle.bz_task.specs.Instant.{Instant, words}
use Rattle.bz_task.specs.Scene.{Scene, IsScene, here}
use Rattle.bz_renew.proofs.Words.{node-at}
use Rattle.bz_word.specs.Statuses.{status}
use Rattle.bz_below.specs.Facts.{Below, HasPartedBelow, IsPlanned, LackedRoom, LeavesRoom, words_with}
use Rattle.bz_below.specs.Parents.{WereRead, IsParentOf, WasParent, ReadParentsWere}
use Rattle.bz_below.proofs.Acting.{guard-is}
use Rattle.bz_below.proofs.ReadWords.{listed, all-read}

-- the words that a separator would make of those that the parent's children take, by its status
pub taken : ReadNodesHaveChildren → (nodes slot : ℕ) (sep read : List ℕ) (level i : ℕ) (low high : Option (List ℕ)) (st : ℕ) → IsParentOf nodes slot sep read level i low high → slice_index read STATUS_AT ≡ st
    → needed (map child_entry (children_in read)) + 2 + length (packed sep) ≡ words_with st sep
taken law nodes slot sep read level i low high st a first =
    let n : IsReadNode nodes read low high = law nodes a.raw read level low high a.few a.inner a.size a.none in
    omega (arith, n.taken, ap (λ z. (status z).count) first, ap (λ z. (status z).block) first)

module _ (r : Below) (s : Scene) (good : IsScene s) (v : HasPartedBelow r.upper r.lower (r.image 1) (r.image 2) r.sep s.past) where
  since : s.past.since ≤ v.guarded
  since = omega (arith, v.links.guard.since, v.is_guarded)

  until : v.guarded ≤ s.past.now
  until = omega (arith, v.links.guard.order, v.links.guard.now, v.is_guarded)

  -- its status when the guard was read
  pub status-was : words s.past.config (s.past.at v.guarded) r.upper.slot STATUS_AT ≡ r.lower.status
  status-was =
      let was : Instant = s.past.at v.links.guard.guarded in
      subst (λ z. words s.past.config (s.past.at z) r.upper.slot STATUS_AT ≡ r.lower.status) v.is_guarded
      (node-at s.past.config was.value r.upper.slot STATUS_AT (omega arith) ∙ (ap was.value (sym (guard-is r.upper r.lower (r.image 1) (r.image 2) r.sep s good v)) ∙ v.links.guard.status))

  module _ (law : ReadParentsWere) (now : (here s).value r.lower.guard ≡ r.lower.status) where
    pub was-parent : (read : List ℕ) → WereRead r.upper.slot v.guarded r.lower.status NODE_WORDS read s.past → WasParent r.upper r.lower v.guarded v.child r.sep read s.past
    was-parent read were =
        let w : WasParent r.upper r.lower v.links.guard.guarded v.links.under.child.child r.sep read s.past = law s r.upper r.lower v.moment r.sep read good v.links v.leaf now
        (subst (λ z. WereRead r.upper.slot z r.lower.status NODE_WORDS read s.past) (sym v.is_guarded) were) v.separator v.above v.below in
        subst (λ z. WasParent r.upper r.lower z v.child r.sep read s.past) v.is_guarded (subst (λ z. WasParent r.upper r.lower v.links.guard.guarded z r.sep read s.past) v.is_child w)

    -- where its status leaves no room, it lacked the room, whatever its words were
    pub lacked-room : ReadNodesHaveChildren → SHARED_WORDS < words_with r.lower.status r.sep → LackedRoom r.upper r.lower r.sep s.past
    lacked-room have more =
        let read : List ℕ = listed (words s.past.config (s.past.at v.guarded) r.upper.slot) in
        let were : WereRead r.upper.slot v.guarded r.lower.status NODE_WORDS read s.past = all-read r.upper.slot v.guarded r.lower.status s.past until status-was in
        let w : WasParent r.upper r.lower v.guarded v.child r.sep read s.past = was-parent read were in
        record { moment = v.guarded; child = v.child; read = read; since = since; now = until; parent = w; room = omega (arith, more, taken have s.past.config.nodes r.lower.slot r.sep read w.level v.child w.low w.high r.lower.status w.parent were.first) }

-- the status of a parent that was read leaves the room that its words have
pub leaves-room : ReadNodesHaveChildren → (r : Below) (s : Scene) → IsScene s → IsPlanned r s.past → LeavesRoom r.lower.status r.sep
leaves-room have r s good f =
    let first : slice_index r.read STATUS_AT ≡ r.lower.status = sym (ap (λ (n : ℕ → ℕ). n STATUS_AT) f.parent.were) ∙ status-was r s good f.parted in
    omega (arith, f.room, taken have s.past.config.nodes r.lower.slot r.sep r.read f.parent.level f.parted.child f.parent.low f.parent.high r.lower.status f.parent.parent first)
