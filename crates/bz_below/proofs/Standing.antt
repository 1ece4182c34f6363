-- Where the link to the parent stands later, and that it leads to another node.
use Rattle.std.proofs.Common.{◌≡◌, ◌≢◌, ℕ, ◌+◌, ◌<◌, ◌≤◌, ◌==◌, true, false, arith, refl, sym, ap, subst, ◌∙◌, inl, inr}
use Rattle.std.specs.Prelude.{nat_lt}
use Rattle.std.proofs.lemmas.Bool.Decides.{nat_tests}
use Rattle.bz_layout.specs.Addresses.{node_address}
use Rattle.bz_layout.specs.declared.config.Config.{Config}
use Rattle.bz_layout.specs.declared.sizes.TheConstants.{STATUS_AT, HEADER_AT, META_AT}
use Rattle.bz_node.specs.Reading.{payload_at}
use Rattle.bz_tree.specs.Form.{Stands}
use Rattle.bz_slotted.specs.Page.{page, meta_of, extent_of}
use Rattle.bz_slotted.specs.Readers.{count_of, child_of}
use Rattle.bz_slotted.specs.Records.{pointer_at}
use Rattle.bz_word.specs.Headers.{header}
use Rattle.bz_word.specs.Statuses.{status}
use Rattle.bz_content.specs.Content.{view_in}
use Rattle.bz_task.specs.Good.{IsGood}
use Rattle.bz_task.specs.Instant.{Instant, words, durable, page_at, form_at, is_inside}
use Rattle.bz_task.specs.Laws.{AreMoments, FrontsStay, SeparatorsStay, NodesWereInside, WasInside}
use Rattle.bz_task.specs.Outcomes.{IsUnderNode, IsGuarded}
use Rattle.bz_task.specs.Requests.{IsPointerPlace}
use Rattle.bz_task.specs.Scene.{Scene, IsScene}
use Rattle.bz_task.specs.Shown.{SameSeparators}
use Rattle.bz_task.specs.declared.path.Link.{Link}
use Rattle.bz_renew.specs.Renewals.{IsTurnable, LinksMayBeTurned}
use Rattle.bz_renew.proofs.Words.{node-at}
use Rattle.bz_below.specs.Guards.{LinksStandOn, LinksLeaveTheirNodes}
use Rattle.bz_below.proofs.OpenNodes.{Laws as Basis, IsOpen, fits, below_top, inside}

-- the laws on which it rests
pub record Laws : Type 0 where
  pub basis : Basis
  pub fronts : FrontsStay
  pub separators : SeparatorsStay
  pub were : NodesWereInside
  pub turn : LinksMayBeTurned

-- the link stands in its node at every later moment
module _ (b : Laws) (s : Scene) (link : Link) (good : IsScene s) (g : IsGuarded s.past link) (k : ℕ) (later : g.guarded ≤ k) (now : k ≤ s.past.now) (u : IsUnderNode s.past link g.guarded) where
  moments : AreMoments s.past.since s.past.now g.guarded k
  moments = record { since = g.since; order = later; until = now }

  same : SameSeparators (words s.past.config (s.past.at g.guarded) u.parent) (words s.past.config (s.past.at k) u.parent)
  same = b.separators s.past.config s.past.at s.past.since s.past.now g.guarded k u.parent good.history moments u.reached u.child.inner

  place-later : IsPointerPlace (page_at s.past.config (s.past.at k) u.parent) u.place
  place-later = record {
    inner = omega (arith, u.child.inner, ap (λ z. (header z).level) (same.front HEADER_AT (λ e. absurd (omega (arith, e))) (omega arith)));
    child = u.child.child;
    counted = omega (arith, u.child.counted, same.count);
    place = u.child.place ∙ ap (λ z. payload_at (extent_of (meta_of z))) (sym (same.front (META_AT + u.child.child) (λ e. absurd (omega (arith, e))) (omega (arith, u.child.counted))));
  }

  reached-later : (s.past.at k).reached u.parent ≡ true
  reached-later = (b.fronts s.past.config s.past.at s.past.since s.past.now g.guarded k u.parent good.history moments u.reached).reached

  under-later : IsUnderNode s.past link k
  under-later = record { parent = u.parent; place = u.place; reached = reached-later; within = u.within; child = place-later; pointer = u.pointer; guard = u.guard }

pub stand-on : Laws → LinksStandOn
stand-on b s link good g = elim g.under [
  | inl u ↦ inl u
  | inr u ↦ inr (under-later b s link good g s.past.now (omega (arith, g.order, g.now)) (omega arith) u)
]

no : (a b : ℕ) → a ≢ b → (a == b) ≡ false
no a b ne = grind (arith, nat_tests)

count-is : (n : ℕ → ℕ) → count_of n ≡ (page n).count
unfolding count_of
count-is n = refl

child-is : (n : ℕ → ℕ) (i to : ℕ) → i < (page n).count → n (pointer_at (page n) i) ≡ to + 1 → child_of n i ≡ to
unfolding child_of
child-is n i to l e = let t : nat_lt i (page n).count ≡ true = grind (arith, nat_tests) in rw t (omega (arith, e))

-- the child to which a pointer of an inner node of the tree leads stands there
module _ (b : Basis) (c : Config) (x : Instant) (p : ℕ) (g : IsGood c x) (below : p ≢ c.nodes) (is : is_inside c x p ≡ true) (inner : 0 < (page_at c x p).level) where
  alike : durable c x p ≡ words c x p
  alike = λ t i. g.shown p i (g.inside p is below) (inr (inr (inl inner))) t

  high : 0 < (form_at c x).level p
  high = omega (arith, (b.headers c x p g below is).level, inner)

  child-stands : (j to : ℕ) → j < (page_at c x p).count → words c x p (pointer_at (page_at c x p) j) ≡ to + 1 → Stands (view_in c x.image) (form_at c x) p j to
  child-stands j to l e =
      let count : (view_in c x.image).count p ≡ (page_at c x p).count = rw (no p c.nodes below) (count-is (durable c x p) ∙ ap (λ n. (page n).count) alike) in
      let child : (view_in c x.image).child p j ≡ to = rw (no p c.nodes below) (ap (λ n. child_of n j) alike ∙ child-is (words c x p) j to l e) in
      subst (λ z. Stands (view_in c x.image) (form_at c x) p j z) child ((fits b c x g).down p j is high (omega (arith, l, count)))

-- when it was read, or before, the node was in the tree with the same link, and the link's slot stood one level below it
module _ (b : Laws) (s : Scene) (link : Link) (good : IsScene s) (g : IsGuarded s.past link) (thawed : (status link.status).frozen ≡ false) (u : IsUnderNode s.past link g.guarded) where
  then-good : IsGood s.past.config (s.past.at g.guarded)
  then-good = good.history.good g.guarded g.since (omega (arith, g.order, g.now))

  then-status : words s.past.config (s.past.at g.guarded) u.parent STATUS_AT ≡ link.status
  then-status = node-at s.past.config (s.past.at g.guarded).value u.parent STATUS_AT (omega arith) ∙ (ap (s.past.at g.guarded).value (sym u.guard) ∙ g.status)

  then-open : IsOpen s.past.config (s.past.at g.guarded) u.parent
  then-open = record { reached = u.reached; thawed = ap (λ z. (status z).frozen) then-status ∙ thawed; inner = u.child.inner }

  abbrev below : u.parent ≢ s.past.config.nodes
  below = below_top b.basis s.past.config (s.past.at g.guarded) u.parent then-good then-open

  abbrev was : WasInside s.past.config s.past.at g.guarded g.read u.parent
  was =
      b.were s.past.config s.past.at s.past.since s.past.now g.guarded g.read u.parent good.history (record { since = g.since; order = g.order; until = g.now }) below
      (inside b.basis s.past.config (s.past.at g.guarded) u.parent then-good then-open)

  -- the link is no status
  far : u.place ≢ STATUS_AT
  far e = let t : IsTurnable link s = b.turn s link good g thawed in t.apart (u.pointer ∙ (ap (λ i. node_address s.past.config u.parent + i) e ∙ sym u.guard))

  led : words s.past.config (s.past.at was.was) u.parent u.place ≡ link.slot + 1
  led =
      let inner : 0 < (page_at s.past.config (s.past.at was.was) u.parent).level = (place-later b s link good g was.was was.since (omega (arith, was.until, g.now)) u).inner in
      sym (was.same.words u.place far (inr (inr (inl inner))))
      ∙ (node-at s.past.config (s.past.at g.read).value u.parent u.place u.within ∙ (ap (s.past.at g.read).value (sym u.pointer) ∙ g.slot))

  leaves : u.parent ≢ link.slot
  leaves e =
      let place = place-later b s link good g was.was was.since (omega (arith, was.until, g.now)) u in
      let was-good : IsGood s.past.config (s.past.at was.was) = good.history.good was.was (omega (arith, g.since, was.since)) (omega (arith, was.until, g.now)) in
      let stands : Stands (view_in s.past.config (s.past.at was.was).image) (form_at s.past.config (s.past.at was.was)) u.parent place.child link.slot =
      child-stands b.basis s.past.config (s.past.at was.was) u.parent was-good below was.inside place.inner place.child link.slot place.counted
      (ap (words s.past.config (s.past.at was.was) u.parent) (sym place.place) ∙ led) in
      absurd (omega (arith, stands.level, ap (form_at s.past.config (s.past.at was.was)).level e))

pub leave-nodes : Laws → LinksLeaveTheirNodes
leave-nodes b s link good g thawed u = leaves b s link good g thawed u
