-- The nodes to which a path has led stand at their levels now: the last one is a leaf, and each hangs from the one before.
use Rattle.std.proofs.Common.{◌≡◌, ℕ, zero, suc, ◌+◌, ◌-◌, ◌≤◌, false, List, Some, arith, sym, ap, subst, ◌∙◌, inl, inr}
use Rattle.std.specs.Prelude.{slice_get}
use Rattle.std.proofs.lemmas.Option.{slice_get_within, slice_get_cases}
use Rattle.bz_layout.specs.Addresses.{node_address}
use Rattle.bz_layout.specs.declared.config.Config.{Config}
use Rattle.bz_layout.specs.declared.sizes.TheConstants.{STATUS_AT, HEADER_AT}
use Rattle.bz_layout.specs.declared.thresholds.TheConstants.{INNER_LIMIT}
use Rattle.bz_word.specs.Headers.{header}
use Rattle.bz_word.specs.Statuses.{status}
use Rattle.bz_content.specs.Content.{image_of}
use Rattle.bz_content.specs.Image.{Image}
use Rattle.bz_stage.specs.FromLeaves.Neighbours.{leaf_page}
use Rattle.bz_task.specs.Good.{IsGood}
use Rattle.bz_task.specs.Instant.{words, page_at, form_at}
use Rattle.bz_task.specs.Outcomes.{IsPath, IsLink, EndsAtLeaf, IsUnderNode}
use Rattle.bz_task.specs.Scene.{Scene, IsScene, here}
use Rattle.bz_task.specs.declared.path.Link.{Link}
use Rattle.bz_task.specs.declared.path.Path.{Path}
use Rattle.bz_task.proofs.Proved.{headers_say_the_level}
use Rattle.bz_renew.proofs.Words.{node-at}
use Rattle.bz_renew.specs.Standing.{StillLeads}
use Rattle.bz_renew.proofs.Proved.{guarded_links_stand}
use Rattle.bz_stage.proofs.Leaves.{less, stage-split}
use Rattle.bz_stage.proofs.Runs.{run-reaches}
use Rattle.bz_stage.specs.Rooms.{words_taken, is_full}
use Rattle.bz_stage.specs.Stages.{page_on_path, root_level, full_above, stage}
use Rattle.bz_stage.specs.Swaps.{IsCrowdedBelow}
use Rattle.bz_undisturbed.specs.Quiet.{IsQuietSince}
use Rattle.bz_undisturbed.proofs.Proved.{undisturbed_times_are_quiet}
use Rattle.bz_rounds.specs.Crowded.{IsRisen}
use Rattle.bz_rounds.specs.Levels.{AscentsStandAtLevels, UndisturbedAscentsAreBelowTheStage}
use Rattle.bz_rounds.proofs.Staying.{not-top, below-height, word-stays, inside-now}
use Rattle.bz_rounds.proofs.Thawed.{guard-thawed, status-again}
use Rattle.bz_rounds.proofs.Rising.{ascents-are-crowded}

module _ (s : Scene) (good : IsScene s) (q : IsQuietSince s.past.since s.past) (key : List ℕ) (path : Path) (is : IsPath key path s.past) where
  abbrev c : Config
  c = s.past.config

  abbrev level : ℕ → ℕ
  level k = (form_at s.past.config (here s)).level k

  here-good : IsGood s.past.config (here s)
  here-good = good.history.good s.past.now good.begun (omega arith)

  -- the last node is a leaf
  at-foot : (i : ℕ) (link : Link) → i + 1 ≡ path.depth → slice_get path.links i ≡ Some link → level link.slot ≡ 0
  at-foot i link deep e =
      let on : IsLink key s.past link = is.links i link (omega (arith, deep)) e in
      let end : EndsAtLeaf s.past link = is.leaf i link deep e in
      let inside = inside-now s good q on.was on.since on.now link.slot on.slot on.inside in
      let flat : (page_at c (here s) link.slot).level ≡ 0 =
      subst (λ z. (header z).level ≡ 0) (sym (word-stays s good q end.was end.since end.now link.slot HEADER_AT end.reached (inl (omega arith)))) end.leaf in
      sym (headers_say_the_level c (here s) link.slot here-good (not-top c (here s) link.slot here-good on.slot inside) inside).level ∙ flat

  -- a node hangs from the one before
  module _ (above next : Link) (to : IsLink key s.past above) (on : IsLink key s.past next) (at : next.guard ≡ node_address s.past.config above.slot + STATUS_AT) (thawed : (status next.status).frozen ≡ false) where
    hangs : IsUnderNode s.past next on.guarded.guarded → level next.slot + 1 ≡ level above.slot
    hangs u =
        let guard : (here s).value next.guard ≡ next.status =
        ap (here s).value at ∙ (sym (node-at c (here s).value above.slot STATUS_AT (omega arith)) ∙ status-again s good q next on.guarded key above to at u) in
        let leads : StillLeads next s on.guarded.guarded u.parent u.child.child = guarded_links_stand s next good on.guarded thawed u guard in
        let same : u.parent ≡ above.slot = omega (arith, u.guard, at) in
        leads.stands.level ∙ ap (form_at c (here s)).level same

    one-up : level next.slot + 1 ≡ level above.slot
    one-up = elim on.guarded.under [ inl u ↦ absurd (omega (arith, u.guard, at)) | inr u ↦ hangs u ]

  -- so many links before the last one
  pub level-at : (last : Link) → slice_get path.links (path.depth - 1) ≡ Some last → (n i : ℕ) (link : Link) → i + n + 1 ≡ path.depth → slice_get path.links i ≡ Some link → (form_at s.past.config (here s)).level link.slot ≡ n
  level-at last end zero i link deep e = at-foot i link (omega (arith, deep)) e
  level-at last end (suc n) i link deep e = elim (slice_get_cases path.links (i + 1)).1 [
    | inr past ↦ absurd (omega (arith, slice_get_within path.links (path.depth - 1) last end, past.0, deep))
    | inl found ↦ (
        let next : Link = found.0 in
        let rest : level next.slot ≡ n = level-at last end n (i + 1) next (omega (arith, deep)) found.2 in
        let up : level next.slot + 1 ≡ level link.slot =
        one-up link next (is.links i link (omega (arith, deep)) e) (is.links (i + 1) next (omega (arith, deep)) found.2) (is.below i link next (omega (arith, deep)) e found.2)
        (guard-thawed s good q key path is (i + 1) next (omega (arith, deep)) found.2).is in
        omega (arith, rest, up))
  ]

pub ascents-stand : AscentsStandAtLevels
ascents-stand a last s good alone up end =
    level-at s good (undisturbed_times_are_quiet.whole s good alone) a.key a.path up.path last end (a.path.depth - 1 - a.place) a.place a.node (omega (arith, up.within)) up.node

-- a leaf that has to be split below so many full nodes
below-stage : (c : Config) (x : Image) (key : List ℕ) (level words : ℕ) → IsCrowdedBelow c x key level → level ≤ root_level c x → level + 1 ≤ stage c x key words
below-stage c x key level words z le =
    let many : stage c x key words ≡ 1 + full_above c x key = stage-split (leaf_page c x key) (full_above c x key) words z.frozen z.many in
    let full : level ≤ full_above c x key =
    run-reaches (λ n. is_full (page_on_path c x key n)) 1 (root_level c x) level (λ i some lt. less INNER_LIMIT (words_taken (page_on_path c x key i)) (z.full i (omega (arith, some)) (omega (arith, lt)))) le in
    omega (arith, many, full)

pub ascents-below : UndisturbedAscentsAreBelowTheStage
ascents-below a last view words s good alone up end w =
    let risen : IsRisen a s = ascents-are-crowded a view s good alone up w in
    let on : IsLink a.key s.past a.node = up.path.links a.place a.node up.within up.node in
    let now : IsGood s.past.config (here s) = good.history.good s.past.now good.begun (omega arith) in
    let low = below-height s.past.config (here s) a.node.slot now on.slot risen.stands.inside in
    let under = below-stage s.past.config (image_of (here s).image) a.key ((form_at s.past.config (here s)).level a.node.slot) words risen.crowded (omega (arith, low)) in
    omega (arith, under, ascents-stand a last s good alone up end)
