-- What a merge names to its end: the upper link and its guard, and the parent's status. While nothing takes effect they are as it had read
-- them, and a freeze leaves them, since none is the status of a leaf.
use Rattle.std.proofs.Common.{◌≡◌, ◌≢◌, ℕ, ◌+◌, ◌<◌, Bool, true, false, arith, sym, ap, subst, ◌∙◌, inl, inr}
use Rattle.std.specs.Prelude.{List, Option}
use Rattle.bz_layout.specs.Addresses.{node_address}
use Rattle.bz_layout.specs.declared.sizes.TheConstants.{STATUS_AT, HEADER_AT}
use Rattle.bz_layout.proofs.Laws.{slots_apart}
use Rattle.bz_word.specs.Headers.{header}
use Rattle.bz_task.specs.Good.{IsGood}
use Rattle.bz_task.specs.Instant.{Instant, page_at}
use Rattle.bz_task.specs.Laws.{KeepsFront, HasHeader}
use Rattle.bz_task.specs.Outcomes.{IsUnderNode, IsGuarded}
use Rattle.bz_task.specs.Scene.{Past, Scene, IsScene, here}
use Rattle.bz_task.specs.Shown.{IsRead}
use Rattle.bz_task.specs.declared.path.Link.{Link}
use Rattle.bz_task.proofs.Proved.{fronts_stay, headers_say_the_level}
use Rattle.bz_below.specs.FromSplit.BelowSplits.{AreLinksDown}
use Rattle.bz_any_task.specs.FromMerge.OwnFreezes.{FrozeAfter}
use Rattle.bz_any_task.specs.FromMerge.Plans.{Merging, viewed_leaf, beside_leaf, first_of, second_of, IsPair, IsPlanned}
use Rattle.bz_any_task.specs.FromMerge.Siblings.{SeenLeaf, WasSeen}
use Rattle.bz_undisturbed.specs.Quiet.{IsQuietSince}
use Rattle.bz_undisturbed.proofs.Standing.{reached-in, status-stands, guard-stands, link-stands}

-- a leaf was seen at some moment, between some bounds
pub record WasSeenOnce (l : SeenLeaf) (p : Past) : Type 0 where
  pub at : ℕ
  pub low : Option (List ℕ)
  pub high : Option (List ℕ)
  pub seen : WasSeen l at low high p

own-seen : (right : Bool) (own other : SeenLeaf) (p : Past) → WasSeenOnce (first_of right own other) p → WasSeenOnce (second_of right own other) p → WasSeenOnce own p × WasSeenOnce other p
own-seen true own other p a b = (a, b)
own-seen false own other p a b = (b, a)

pub both-seen : (r : Merging) (p : Past) → IsPlanned r p → WasSeenOnce (viewed_leaf r) p × WasSeenOnce (beside_leaf r) p
both-seen r p f = own-seen r.right (viewed_leaf r) (beside_leaf r) p (record { at = f.first_at; low = _; high = _; seen = f.first }) (record { at = f.second_at; low = _; high = _; seen = f.second })

-- the two are different leaves
pub pair-apart : (read : List ℕ) (slot : ℕ) (right : Bool) (place beside : ℕ) → IsPair read slot right place beside → slot ≢ beside
pair-apart read slot true place beside f e = absurd (omega (arith, f.own.only (place + 1) f.counted (f.other ∙ sym e)))
pair-apart read slot false place beside f e = absurd (omega (arith, f.own.only place (omega (arith, f.counted)) (f.other ∙ sym e)))

-- the words that a merge names to its end are as it had read them: the upper link and its guard, and the parent's status
pub record AsRead (r : Merging) (x : Instant) : Type 0 where
  pub link : x.value r.upper.link ≡ r.upper.slot + 1
  pub guard : x.value r.upper.guard ≡ r.upper.status
  pub parent : x.value r.lower.guard ≡ r.lower.status

-- while nothing has taken effect
module _ (s : Scene) (good : IsScene s) (q : IsQuietSince s.past.since s.past) where
  pub leaf-as-seen : (l : SeenLeaf) → WasSeenOnce l s.past → (here s).value (node_address s.past.config l.slot + STATUS_AT) ≡ l.status
  leaf-as-seen l w =
      let o = w.seen.stood in
      status-stands s good s.past.since q l.slot w.at l.status o.since o.now (reached-in s good s.past.since q w.at l.slot o.since o.now o.slot o.inside) w.seen.status

  pub quiet-as-read : (r : Merging) → AreLinksDown r.upper r.lower s.past → AsRead r (here s)
  quiet-as-read r d = record {
    link = link-stands s good s.past.since q r.upper d.upper_guard d.upper_guard.since;
    guard = guard-stands s good s.past.since q r.upper d.upper_guard d.upper_guard.since;
    parent = guard-stands s good s.past.since q r.lower d.guard d.guard.since;
  }

-- what a link names is read now, whatever became of the node in which it stands
module _ (s : Scene) (good : IsScene s) (link : Link) (g : IsGuarded s.past link) where
  keeps : (u : IsUnderNode s.past link g.guarded) → KeepsFront s.past.config (s.past.at g.guarded) (here s) u.parent
  keeps u = fronts_stay s.past.config s.past.at s.past.since s.past.now g.guarded s.past.now u.parent good.history (record { since = g.since; order = omega (arith, g.order, g.now); until = omega arith }) u.reached

  pub inner-now : (u : IsUnderNode s.past link g.guarded) → 0 < (page_at s.past.config (here s) u.parent).level
  inner-now u = subst (λ z. 0 < (header z).level) (sym ((keeps u).front HEADER_AT (λ e. omega (arith, e)) (omega arith))) u.child.inner

  pub guard-now : IsRead s.past.config (here s) link.guard
  guard-now = elim g.under [
    | inl u ↦ inr (inl u.guard)
    | inr u ↦ inr (inr (record { slot = u.parent; place = STATUS_AT; address = u.guard; within = omega arith; reached = (keeps u).reached; shown = inl (omega arith) }))
  ]

  pub link-now : IsRead s.past.config (here s) link.link
  link-now = elim g.under [
    | inl u ↦ inl u.pointer
    | inr u ↦ inr (inr (record { slot = u.parent; place = u.place; address = u.pointer; within = u.within; reached = (keeps u).reached; shown = inr (inr (inl (inner-now u))) }))
  ]

  -- neither it nor its guard is a leaf's status
  module _ (k : ℕ) (flat : (page_at s.past.config (here s) k).level ≡ 0) where
    not-flat : (u : IsUnderNode s.past link g.guarded) → u.parent ≢ k
    not-flat u e = absurd (omega (arith, inner-now u, flat, ap (λ (z : ℕ). (page_at s.past.config (here s) z).level) e))

    pub link-apart : link.link ≢ node_address s.past.config k + STATUS_AT
    link-apart e = elim g.under [
      | inl u ↦ absurd (omega (arith, e, u.pointer))
      | inr u ↦ not-flat u (slots_apart s.past.config u.parent k u.place STATUS_AT u.within (omega arith) (sym u.pointer ∙ e)).0
    ]

    pub guard-apart : link.guard ≢ node_address s.past.config k + STATUS_AT
    guard-apart e = elim g.under [
      | inl u ↦ absurd (omega (arith, e, u.guard))
      | inr u ↦ not-flat u (slots_apart s.past.config u.parent k STATUS_AT STATUS_AT (omega arith) (omega arith) (sym u.guard ∙ e)).0
    ]

-- a freeze leaves what its merge names
module _ (s : Scene) (good : IsScene s) where
  flat-now : (l : SeenLeaf) → WasSeenOnce l s.past → (page_at s.past.config (here s) l.slot).level ≡ 0
  flat-now l w =
      let o = w.seen.stood in
      let then : IsGood s.past.config (s.past.at w.at) = good.history.good w.at o.since o.now in
      let there : HasHeader s.past.config (s.past.at w.at) l.slot = headers_say_the_level s.past.config (s.past.at w.at) l.slot then (λ e. omega (arith, e, o.slot)) o.inside in
      let keep : KeepsFront s.past.config (s.past.at w.at) (here s) l.slot =
      fronts_stay s.past.config s.past.at s.past.since s.past.now w.at s.past.now l.slot good.history (record { since = o.since; order = o.now; until = omega arith }) (then.inside l.slot o.inside (λ e. omega (arith, e, o.slot))) in
      ap (λ z. (header z).level) (keep.front HEADER_AT (λ e. omega (arith, e)) (omega arith)) ∙ (there.level ∙ o.leaf)

  pub left-as-read : (r : Merging) (l : SeenLeaf) (p : Past) → WasSeenOnce l s.past → FrozeAfter r l s p → AsRead r (here s) → AsRead r (p.at (s.past.now + 1))
  left-as-read r l p w f x =
      let d = f.planned.paired.viewed.links in
      let flat : (page_at s.past.config (here s) l.slot).level ≡ 0 = flat-now l w in
      record {
        link = f.others r.upper.link (link-apart s good r.upper d.upper_guard l.slot flat) ∙ x.link;
        guard = f.others r.upper.guard (guard-apart s good r.upper d.upper_guard l.slot flat) ∙ x.guard;
        parent = f.others r.lower.guard (guard-apart s good r.lower d.guard l.slot flat) ∙ x.parent;
      }
