-- A leaf that is read at the end of a path: its status, the link to it and the link's guard are as they were, and the guard is that of no
-- frozen node.
use Rattle.std.proofs.Common.{◌≡◌, ℕ, ◌+◌, ◌-◌, ◌<◌, ◌≤◌, List, length, true, false, Some, arith, refl, sym, ap, subst, ◌∙◌, inl, inr}
use Rattle.std.specs.Prelude.{slice_get, slice_index}
use Rattle.std.proofs.lemmas.Bool.{cases_lt}
use Rattle.std.proofs.lemmas.Option.{slice_get_within, slice_get_cases}
use Rattle.bz_layout.specs.Addresses.{node_address}
use Rattle.bz_layout.specs.declared.sizes.TheConstants.{STATUS_AT, HEADER_AT, ROOT_STATUS_AT}
use Rattle.bz_word.specs.Headers.{header}
use Rattle.bz_word.specs.Statuses.{status}
use Rattle.bz_task.specs.Instant.{words, page_at}
use Rattle.bz_task.specs.Outcomes.{IsPath, IsLink, IsUnderRoot, IsUnderNode}
use Rattle.bz_task.specs.Requests.{Answers}
use Rattle.bz_task.specs.Scene.{Scene, IsScene, here}
use Rattle.bz_task.specs.Shown.{IsRead}
use Rattle.bz_task.specs.declared.path.Link.{Link}
use Rattle.bz_task.specs.declared.path.Path.{Path}
use Rattle.bz_leaf.specs.Facts.{IsLastLink, IsKnownLeaf, Reading}
use Rattle.bz_renew.proofs.Words.{node-at}
use Rattle.bz_undisturbed.specs.Quiet.{IsQuietSince}
use Rattle.bz_undisturbed.proofs.Inners.{inner-thawed, root-thawed}
use Rattle.bz_undisturbed.proofs.Standing.{good-at, reached-in, now-as, status-stands}
use Rattle.bz_undisturbed.proofs.Quiet.{read-values}

module _ (s : Scene) (good : IsScene s) (q : IsQuietSince s.past.since s.past) (key : List ℕ) (link : Link) where
  -- the status that was read first
  pub status-again : (ws : List ℕ) (place : ℕ) → Reading key link ws place s.past → (here s).value (node_address s.past.config link.slot + STATUS_AT) ≡ slice_index ws 0
  status-again ws place r =
      let k = r.known in
      let read : IsRead s.past.config (s.past.at k.moment) (node_address s.past.config link.slot + STATUS_AT) =
      inr (inr (record { slot = link.slot; place = STATUS_AT; address = refl; within = omega arith; reached = reached-in s good s.past.since q k.moment link.slot k.since k.now k.slot k.inside; shown = inl (omega arith) })) in
      now-as s good s.past.since q k.moment r.read_at (node_address s.past.config link.slot + STATUS_AT) k.since k.now read (omega (arith, k.since, r.order)) r.until
      ∙ (sym (node-at s.past.config (s.past.at r.read_at).value link.slot STATUS_AT (omega arith)) ∙ r.was)

  -- the link that led to the leaf
  pub link-again : IsKnownLeaf key link s.past → (here s).value link.link ≡ link.slot + 1
  link-again k =
      let read : IsRead s.past.config (s.past.at k.hung) link.link =
      elim k.under [
        | inl u ↦ inl u.pointer
        | inr u ↦ inr (inr (record { slot = u.parent; place = u.place; address = u.pointer; within = u.within; reached = u.reached; shown = inr (inr (inl u.child.inner)) }))
      ] in
      now-as s good s.past.since q k.hung k.moment link.link k.hung_since k.hung_now read k.since k.now ∙ k.led

module _ (s : Scene) (good : IsScene s) (q : IsQuietSince s.past.since s.past) (link : Link) (v : ℕ) (a : Answers s link.guard v) where
  -- the root's link
  under-root : IsUnderRoot link → (status v).frozen ≡ false
  under-root u =
      let is : (here s).value ROOT_STATUS_AT ≡ v = subst (λ z. (here s).value z ≡ v) u.guard a.value in
      subst (λ z. (status z).frozen ≡ false) is (root-thawed s.past.config (here s) (good-at s good s.past.since q s.past.now q.now (omega arith)))

  -- a link in a node that was in the tree: that was an inner node then, and not frozen
  under-node : (key : List ℕ) (above : Link) → IsLink key s.past above → link.guard ≡ node_address s.past.config above.slot + STATUS_AT → (g : ℕ) → s.past.since ≤ g → g ≤ s.past.now → IsUnderNode s.past link g → (status v).frozen ≡ false
  under-node key above l at g from to u =
      subst (λ z. (status z).frozen ≡ false) (sym now) (inner-thawed s.past.config (s.past.at l.was) above.slot (good-at s good s.past.since q l.was l.since l.now) l.slot l.inside inner)
    where
      same : u.parent ≡ above.slot
      same = omega (arith, u.guard, at)

      reached : (s.past.at g).reached above.slot ≡ true
      reached = subst (λ z. (s.past.at g).reached z ≡ true) same u.reached

      header-read : IsRead s.past.config (s.past.at g) (node_address s.past.config above.slot + HEADER_AT)
      header-read = inr (inr (record { slot = above.slot; place = HEADER_AT; address = refl; within = omega arith; reached = reached; shown = inl (omega arith) }))

      header-same : words s.past.config (s.past.at l.was) above.slot HEADER_AT ≡ words s.past.config (s.past.at g) above.slot HEADER_AT
      header-same =
          node-at s.past.config (s.past.at l.was).value above.slot HEADER_AT (omega arith)
          ∙ (read-values s s.past.since g (node_address s.past.config above.slot + HEADER_AT) good q (record { from = from; to = to }) header-read l.was g (record { from = l.since; to = l.now }) (record { from = from; to = to })
          ∙ sym (node-at s.past.config (s.past.at g).value above.slot HEADER_AT (omega arith)))

      was-inner : 0 < (page_at s.past.config (s.past.at g) above.slot).level
      was-inner = subst (λ z. 0 < (page_at s.past.config (s.past.at g) z).level) same u.child.inner

      inner : 0 < (page_at s.past.config (s.past.at l.was) above.slot).level
      inner = subst (λ z. 0 < (header z).level) (sym header-same) was-inner

      now : v ≡ words s.past.config (s.past.at l.was) above.slot STATUS_AT
      now =
          sym a.value
          ∙ (ap (here s).value at ∙ status-stands s good s.past.since q above.slot l.was (words s.past.config (s.past.at l.was) above.slot STATUS_AT) l.since l.now (reached-in s good s.past.since q l.was above.slot l.since l.now l.slot l.inside) refl)

  -- the guard of the last link of a path
  pub guard-thawed : (key : List ℕ) (path : Path) → IsPath key path s.past → IsLastLink path link → (status v).frozen ≡ false
  guard-thawed key path is last = elim (cases_lt 1 path.depth) [
    | inr one ↦ (
        let e : path.depth - 1 ≡ 0 = omega (arith, one) in
        under-root (is.first link (subst (λ z. slice_get path.links z ≡ Some link) e last)))
    | inl deep ↦ (
        let within : path.depth - 1 < length path.links = slice_get_within path.links (path.depth - 1) link last in
        elim (slice_get_cases path.links (path.depth - 2)).1 [
          | inr past ↦ absurd (omega (arith, within, past.0, deep))
          | inl found ↦ below deep found.0 found.2
        ])
  ]
    where
      below : 1 < path.depth → (above : Link) → slice_get path.links (path.depth - 2) ≡ Some above → (status v).frozen ≡ false
      below deep above e =
          let next : path.depth - 1 ≡ path.depth - 2 + 1 = omega (arith, deep) in
          let at : link.guard ≡ node_address s.past.config above.slot + STATUS_AT = is.below (path.depth - 2) above link (omega (arith, deep)) e (subst (λ z. slice_get path.links z ≡ Some link) next last) in
          let on : IsLink key s.past link = is.links (path.depth - 1) link (omega (arith, deep)) last in
          let to : IsLink key s.past above = is.links (path.depth - 2) above (omega (arith, deep)) e in
          elim on.guarded.under [
            | inl u ↦ under-root u
            | inr u ↦ under-node key above to at on.guarded.guarded on.guarded.since (omega (arith, on.guarded.order, on.guarded.now)) u
          ]
