-- One node up: where the parent of a node lacked the room for a separator, its level was full too.
use Rattle.std.proofs.Common.{ap, ◌≡◌, ℕ, ◌+◌, ◌<◌, ◌≤◌, ◌==◌, Bool, true, false, List, arith, refl, sym, subst, ◌∙◌}
use Rattle.std.specs.Prelude.{slice_get}
use Rattle.std.proofs.lemmas.Bool.Decides.{nat_tests}
use Rattle.bz_tree.specs.Form.{Stands}
use Rattle.bz_tree.specs.Order.{is_within}
use Rattle.bz_content.specs.Content.{view_in}
use Rattle.bz_task.specs.Good.{IsGood}
use Rattle.bz_task.specs.Instant.{form_at}
use Rattle.bz_task.specs.Laws.{SamePlace}
use Rattle.bz_task.specs.Outcomes.{IsLink, IsPath}
use Rattle.bz_task.specs.Scene.{Scene, IsScene}
use Rattle.bz_task.specs.declared.path.Link.{Link}
use Rattle.bz_task.specs.declared.path.Path.{Path}
use Rattle.bz_branch.specs.FromBelow.Facts.{LackedRoom}
use Rattle.bz_ascent.specs.Ascents.{IsAscent, IsOneUp}
use Rattle.bz_ascent.specs.Full.{WasFull, WasLevelFull, AreFullUpTo}
use Rattle.bz_ascent.specs.Laws.{AscentsRise}
use Rattle.bz_ascent.specs.declared.ascent.Ascent.{Ascent}
use Rattle.bz_ascent.proofs.Parents.{has, stands, full}
use Rattle.bz_ascent.proofs.Places.{same-place}

module _ (a next : Ascent) (s : Scene) (sep : List ℕ) (one : IsOneUp a next) (good : IsScene s) (is : IsAscent a s.past) (l : LackedRoom next.node a.node sep s.past) where
  abbrev upper : Link
  upper = next.node

  abbrev lower : Link
  lower = a.node

  abbrev f : AreFullUpTo a.key lower.slot s.past
  f = is.full

  link : IsLink a.key s.past upper
  link = is.path.links next.place upper (omega (arith, one.before, is.within)) one.node

  g : IsGood s.past.config (s.past.at l.moment)
  g = good.history.good l.moment l.since l.now

  below : Stands (view_in s.past.config (s.past.at l.moment).image) (form_at s.past.config (s.past.at l.moment)) upper.slot l.child lower.slot
  below = stands s.past upper lower l.moment l.child sep l.read g l.parent

  -- it stood one level above the node
  level : (form_at s.past.config (s.past.at l.moment)).level upper.slot ≡ f.level + 1
  level =
      let same : SamePlace s.past.config (s.past.at f.stood.moment) (s.past.at l.moment) lower.slot = same-place s good lower.slot f.stood.moment l.moment f.within (record { since = f.stood.since; now = f.stood.now }) (record { since = l.since; now = l.now }) f.stood.inside below.inside in
      omega (arith, below.level, same.level, f.stood.at_level)

  -- and had the key in its range
  place : SamePlace s.past.config (s.past.at link.was) (s.past.at l.moment) upper.slot
  place = same-place s good upper.slot link.was l.moment link.slot (record { since = link.since; now = link.now }) (record { since = l.since; now = l.now }) link.inside l.parent.inside

  was-full : WasFull a.key upper.slot (f.level + 1) s.past
  was-full = record {
    moment = l.moment;
    since = l.since;
    now = l.now;
    within = link.slot;
    inside = l.parent.inside;
    at_level = level;
    range = subst (λ z. is_within a.key z ((form_at s.past.config (s.past.at l.moment)).high upper.slot) ≡ true) (sym place.low) (subst (λ z. is_within a.key ((form_at s.past.config (s.past.at link.was)).low upper.slot) z ≡ true) (sym place.high) link.range);
    words = l.read;
    size = l.parent.parent.size;
    has = λ i t. has s.past upper lower l.moment l.child sep l.read g l.parent t i;
    many = full s.past upper lower l.moment l.child sep l.read g l.parent l.room;
  }

  each : (k : ℕ) → 0 < k → k ≤ f.level + 1 → WasLevelFull a.key k s.past
  each k more few = go (k == f.level + 1) refl
    where
      go : (t : Bool) → (k == f.level + 1) ≡ t → WasLevelFull a.key k s.past
      go true e = subst (λ z. WasLevelFull a.key z s.past) (let same : f.level + 1 ≡ k = grind (arith, nat_tests) in same) (record { slot = upper.slot; full = was-full })
      go false e = f.each k more (let less : k ≤ f.level = grind (arith, nat_tests) in less)

  up-to : AreFullUpTo a.key upper.slot s.past
  up-to = record {
    level = f.level + 1;
    within = link.slot;
    stood = record { moment = l.moment; since = l.since; now = l.now; inside = l.parent.inside; at_level = level };
    each = each;
  }

pub rises : AscentsRise
rises a next s sep one good is l = record {
  path = subst (λ k. IsPath k next.path s.past) (sym one.key_is) (subst (λ z. IsPath a.key z s.past) (sym one.path_is) is.path);
  within = omega (arith, one.before, is.within, ap (λ (z : Path). z.depth) one.path_is);
  node = ap (λ (z : Path). slice_get z.links next.place) one.path_is ∙ one.node;
  full = subst (λ k. AreFullUpTo k next.node.slot s.past) (sym one.key_is) (up-to a next s sep one good is l);
}
