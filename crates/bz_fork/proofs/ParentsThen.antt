-- The parent where its status is found as it was: its words are those of one moment, and it stands one level above the node.
use Rattle.std.proofs.Common.{◌≡◌, ◌≢◌, ℕ, ◌+◌, ◌<◌, ◌≤◌, List, arith, sym, ap, subst, ◌∙◌}
use Rattle.bz_layout.specs.declared.sizes.TheConstants.{NODE_WORDS, STATUS_AT, SHARED_WORDS}
use Rattle.bz_node.specs.Records.{IsAbove, IsBelow}
use Rattle.bz_parted.specs.Laws.{ReadNodesHaveChildren}
use Rattle.bz_tree.specs.Form.{Form}
use Rattle.bz_task.specs.Good.{IsGood}
use Rattle.bz_task.specs.Instant.{Instant, words, form_at}
use Rattle.bz_task.specs.Laws.{SamePlace, RangesStay}
use Rattle.bz_task.specs.Scene.{Scene, IsScene, here}
use Rattle.bz_renew.proofs.Words.{node-at}
use Rattle.bz_renew.specs.Standing.{StillLeads, GuardedLinksStand}
use Rattle.bz_branch.specs.FromBelow.Facts.{LackedRoom, words_with}
use Rattle.bz_branch.specs.FromBelow.Parents.{WereRead, WasParent}
use Rattle.bz_branch.specs.Nodes.{WasInner, ParentsOfNodesWere}
use Rattle.bz_branch.specs.Parts.{AreHalvesOfNode}
use Rattle.bz_branch.proofs.FromBelow.ParentsThen.{taken}
use Rattle.bz_branch.proofs.FromBelow.ReadWords.{listed, all-read}
use Rattle.bz_branch.proofs.Standing.{guard-is}
use Rattle.bz_fork.specs.Facts.{Fork, HasLinks}
use Rattle.bz_fork.proofs.Acting.{above-of}

module _ (r : Fork) (s : Scene) (good : IsScene s) (v : HasLinks r.upper r.middle r.lower s.past) (read : List ℕ) (node : WasInner r.middle.slot v.counted read s.past) where
  pub counted-since : s.past.since ≤ v.counted
  counted-since = omega (arith, v.node.guard.since, v.is_counted)

  pub counted-until : v.counted ≤ s.past.now
  counted-until = omega (arith, v.node.guard.order, v.node.guard.now, v.is_counted)

  guarded-since : s.past.since ≤ v.guarded
  guarded-since = omega (arith, v.down.guard.since, v.is_guarded)

  guarded-until : v.guarded ≤ s.past.now
  guarded-until = omega (arith, v.down.guard.order, v.down.guard.now, v.is_guarded)

  -- its status when the guard was read
  status-was : words s.past.config (s.past.at v.guarded) r.upper.slot STATUS_AT ≡ r.middle.status
  status-was =
      let was : Instant = s.past.at v.down.guard.guarded in
      subst (λ z. words s.past.config (s.past.at z) r.upper.slot STATUS_AT ≡ r.middle.status) v.is_guarded
      (node-at s.past.config was.value r.upper.slot STATUS_AT (omega arith) ∙ (ap was.value (sym (guard-is s r.upper.slot r.middle good (above-of r.upper r.middle r.lower s v))) ∙ v.down.guard.status))

  module _ (law : ParentsOfNodesWere) (now : (here s).value r.middle.guard ≡ r.middle.status) where
    pub was-parent : (above left right sep : List ℕ) → WereRead r.upper.slot v.guarded r.middle.status NODE_WORDS above s.past → AreHalvesOfNode s.past.config.nodes read left right sep node.level node.low node.high → WasParent r.upper r.middle v.guarded v.child sep above s.past
    was-parent above left right sep were h =
        let w : WasParent r.upper r.middle v.down.guard.guarded v.down.under.child.child sep above s.past = law s r.upper r.middle v.counted sep above good v.down counted-since counted-until node.inside now
        (subst (λ z. WereRead r.upper.slot z r.middle.status NODE_WORDS above s.past) (sym v.is_guarded) were) h.separator
        (subst (λ z. IsAbove z sep) (sym node.low_is) h.above) (subst (λ z. IsBelow z sep) (sym node.high_is) h.below) in
        subst (λ z. WasParent r.upper r.middle z v.child sep above s.past) v.is_guarded (subst (λ z. WasParent r.upper r.middle v.down.guard.guarded z sep above s.past) v.is_child w)

    -- where its status leaves no room for the separator of the halves, it lacked the room, whatever its words were
    pub lacked-room : ReadNodesHaveChildren → (left right sep : List ℕ) → AreHalvesOfNode s.past.config.nodes read left right sep node.level node.low node.high → SHARED_WORDS < words_with r.middle.status sep → LackedRoom r.upper r.middle sep s.past
    lacked-room have left right sep h more =
        let above : List ℕ = listed (words s.past.config (s.past.at v.guarded) r.upper.slot) in
        let were : WereRead r.upper.slot v.guarded r.middle.status NODE_WORDS above s.past = all-read r.upper.slot v.guarded r.middle.status s.past guarded-until status-was in
        let w : WasParent r.upper r.middle v.guarded v.child sep above s.past = was-parent above left right sep were h in
        record { moment = v.guarded; child = v.child; read = above; since = guarded-since; now = guarded-until; parent = w; room = omega (arith, more, taken have s.past.config.nodes r.middle.slot sep above w.level v.child w.low w.high r.middle.status w.parent were.first) }

  -- it stands one level above the node
  module _ (stand : GuardedLinksStand) (ranges : RangesStay) (now : (here s).value r.middle.guard ≡ r.middle.status) where
    abbrev g : Form
    g = form_at s.past.config (here s)

    leads : StillLeads r.middle s v.down.guard.guarded r.upper.slot v.down.under.child.child
    leads = subst (λ z. StillLeads r.middle s v.down.guard.guarded z v.down.under.child.child) v.down.parent (stand s r.middle good v.down.guard v.down.thawed v.down.under now)

    pub two : r.upper.slot ≢ r.middle.slot
    two e = absurd (omega (arith, ap g.level e, leads.stands.level))

    counted-good : IsGood s.past.config (s.past.at v.counted)
    counted-good = good.history.good v.counted counted-since counted-until

    node-level : g.level r.middle.slot ≡ node.level
    node-level =
        let place : SamePlace s.past.config (s.past.at v.counted) (here s) r.middle.slot = ranges s.past.config s.past.at s.past.since s.past.now v.counted s.past.now r.middle.slot good.history
        (record { since = counted-since; order = counted-until; until = omega arith })
        (λ e. absurd (omega (arith, e, counted-good.slots r.middle.slot node.reached))) node.inside leads.stands.inside in
        place.level ∙ node.level_is

    pub levels : (child : ℕ) (sep above : List ℕ) (w : WasParent r.upper r.middle v.guarded child sep above s.past) → w.level ≡ node.level + 1
    levels child sep above w =
        let then : IsGood s.past.config (s.past.at v.guarded) = good.history.good v.guarded guarded-since guarded-until in
        let place : SamePlace s.past.config (s.past.at v.guarded) (here s) r.upper.slot = ranges s.past.config s.past.at s.past.since s.past.now v.guarded s.past.now r.upper.slot good.history
        (record { since = guarded-since; order = guarded-until; until = omega arith })
        (λ e. absurd (omega (arith, e, then.slots r.upper.slot w.reached))) w.inside leads.inside in
        omega (arith, place.level, w.level_is, leads.stands.level, node-level)
