-- A node of the tree stands at one level and between the same bounds at all moments of a call at which it is in the tree.
use Rattle.std.proofs.Common.{ap, ◌-◌, ◌≡◌, ◌≢◌, ℕ, ◌<◌, ◌≤◌, Bool, true, false, arith, refl, sym, subst, ◌∙◌}
use Rattle.std.specs.Prelude.{slice_get, nat_le, Some}
use Rattle.std.proofs.lemmas.Bool.Decides.{nat_tests}
use Rattle.bz_task.specs.Instant.{is_inside}
use Rattle.bz_task.specs.Laws.{SamePlace}
use Rattle.bz_task.specs.Outcomes.{IsPath}
use Rattle.bz_task.specs.Scene.{Scene, IsScene}
use Rattle.bz_task.specs.declared.path.Path.{Path}
use Rattle.bz_task.proofs.Proved.{ranges_stay}
use Rattle.bz_branch.specs.FromRenew.FrozenLeaves.{ShowsFrozenLeaf}
use Rattle.bz_branch.proofs.FromRenew.Proved.{views_show_frozen_leaves}
use Rattle.bz_ascent.specs.Full.{AreFullUpTo}
use Rattle.bz_ascent.specs.Laws.{AscentsBegin, AscentsEnd}

-- a moment of the call
pub record IsMoment (s : Scene) (m : ℕ) : Type 0 where
  pub since : s.past.since ≤ m
  pub now : m ≤ s.past.now

pub same-place : (s : Scene) → IsScene s → (k m j : ℕ) → k < s.past.config.nodes → IsMoment s m → IsMoment s j → is_inside s.past.config (s.past.at m) k ≡ true → is_inside s.past.config (s.past.at j) k ≡ true
    → SamePlace s.past.config (s.past.at m) (s.past.at j) k
same-place s good k m j within am aj im ij = go (nat_le m j) refl
  where
    ne : k ≢ s.past.config.nodes
    ne e = omega (arith, e, within)

    go : (b : Bool) → nat_le m j ≡ b → SamePlace s.past.config (s.past.at m) (s.past.at j) k
    go true e = ranges_stay s.past.config s.past.at s.past.since s.past.now m j k good.history (record { since = am.since; order = grind (arith, nat_tests); until = aj.now }) ne im ij
    go false e =
        let h : SamePlace s.past.config (s.past.at j) (s.past.at m) k = ranges_stay s.past.config s.past.at s.past.since s.past.now j m k good.history (record { since = aj.since; order = grind (arith, nat_tests); until = am.now }) ne ij im in
        record { level = sym h.level; low = sym h.low; high = sym h.high }

-- a frozen leaf stands at level 0, and there is no level below it
pub begins : AscentsBegin
begins a key path view s at good way viewed frozen leads = record {
  path = subst (λ k. IsPath k a.path s.past) (sym at.key_is) (subst (λ z. IsPath key z s.past) (sym at.path_is) way);
  within = omega (arith, at.last, ap (λ (z : Path). z.depth) at.path_is);
  node = ap (λ (z : Path). slice_get z.links a.place) at.path_is ∙ at.node;
  full = subst (λ k. AreFullUpTo k a.node.slot s.past) (sym at.key_is) (subst (λ z. AreFullUpTo key z s.past) (sym (leads a.node last).0) (record {
    level = 0;
    within = shown.leaf.slot;
    stood = record { moment = view.at; since = shown.leaf.since; now = shown.leaf.now; inside = shown.leaf.inside; at_level = shown.leaf.leaf };
    each = λ l some few. absurd (omega (arith, some, few));
  }));
}
  where
    shown : ShowsFrozenLeaf view s.past
    shown = views_show_frozen_leaves key view s good viewed frozen

    last : slice_get path.links (path.depth - 1) ≡ Some a.node
    last = let e : a.place ≡ path.depth - 1 = omega (arith, at.last) in subst (λ z. slice_get path.links z ≡ Some a.node) e at.node

-- where a node stood at the greatest level, the levels up to it are all that there may be
pub ends : AscentsEnd
ends a s m good is since now inside high l some few =
    let f : AreFullUpTo a.key a.node.slot s.past = is.full in
    let same : SamePlace s.past.config (s.past.at f.stood.moment) (s.past.at m) a.node.slot = same-place s good a.node.slot f.stood.moment m f.within (record { since = f.stood.since; now = f.stood.now }) (record { since = since; now = now }) f.stood.inside inside in
    f.each l some (omega (arith, few, high, same.level, f.stood.at_level))
