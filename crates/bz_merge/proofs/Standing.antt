-- The children of a parent whose status is as it was read stand in the tree as its words tell them.
use Rattle.std.proofs.Common.{◌≡◌, ◌≢◌, ℕ, ◌+◌, ◌<◌, ◌==◌, if◌then◌else◌, Bool, true, false, List, arith, sym, ap, subst, ◌∙◌, inl, inr, Option}
use Rattle.std.specs.Prelude.{Some}
use Rattle.std.proofs.lemmas.Bool.{true≢false}
use Rattle.std.proofs.lemmas.Bool.Decides.{nat_tests}
use Rattle.bz_layout.specs.Addresses.{node_address}
use Rattle.bz_layout.specs.declared.sizes.TheConstants.{STATUS_AT}
use Rattle.bz_tree.specs.Form.{Fits, Form, Stands}
use Rattle.bz_tree.specs.TreeLaws.{TreesHaveForms}
use Rattle.bz_tree.specs.View.{View}
use Rattle.bz_slotted.specs.Readers.{count_of, child_of, key_of}
use Rattle.bz_word.specs.Statuses.{status}
use Rattle.bz_content.specs.Content.{view_in, IsWellFormed}
use Rattle.bz_content.specs.Laws.{WellFormedImagesHaveNoFault}
use Rattle.bz_content.specs.Restructures.{children_of}
use Rattle.bz_task.specs.Good.{IsGood}
use Rattle.bz_task.specs.Instant.{words, durable, page_at, form_at, is_inside}
use Rattle.bz_task.specs.Laws.{SamePlace, RangesStay}
use Rattle.bz_task.specs.Scene.{Scene, IsScene, here}
use Rattle.bz_task.specs.declared.path.Link.{Link}
use Rattle.bz_renew.specs.Standing.{StillLeads, GuardedLinksStand}
use Rattle.bz_renew.proofs.Words.{node-at}
use Rattle.bz_split.specs.BelowSplits.{AreLinksDown}
use Rattle.bz_merge.specs.Merges.{low_in, high_in, WasLeafOnce}

-- the laws on which it rests
pub record Laws : Type 0 where
  pub formed : WellFormedImagesHaveNoFault
  pub forms : TreesHaveForms
  pub stand : GuardedLinksStand
  pub ranges : RangesStay

pub not-equal : (a b : ℕ) → a ≢ b → (a == b) ≡ false
not-equal a b ne = grind (arith, nat_tests)

-- where two choices by a test agree
choose-same : (t : Bool) (x z y w : Option (List ℕ)) → x ≡ z → y ≡ w → (if t then x else y) ≡ (if t then z else w)
choose-same true x z y w e f = e
choose-same false x z y w e f = f

module _ (b : Laws) (s : Scene) (upper lower : Link) (good : IsScene s) (links : AreLinksDown upper lower s.past) (leaf : WasLeafOnce lower.slot s.past) (now : (here s).value lower.guard ≡ lower.status) where
  abbrev p : ℕ
  p = upper.slot

  abbrev once : ℕ
  once = links.guard.guarded

  abbrev old : ℕ → ℕ
  old = words s.past.config (s.past.at once) p

  g : IsGood s.past.config (here s)
  g = good.history.good s.past.now good.begun (omega arith)

  pub guard-is : lower.guard ≡ node_address s.past.config p + STATUS_AT
  guard-is = links.under.guard ∙ ap (λ w. node_address s.past.config w + STATUS_AT) links.parent

  -- the link's slot is its child still
  pub leads : StillLeads lower s once p links.under.child.child
  leads = subst (λ w. StillLeads lower s once w links.under.child.child) links.parent (b.stand s lower good links.guard links.thawed links.under now)

  -- the parent stood where it stands
  then-good : IsGood s.past.config (s.past.at once)
  then-good = good.history.good once links.guard.since (omega (arith, links.guard.order, links.guard.now))

  pub then-reached : (s.past.at once).reached p ≡ true
  then-reached = subst (λ w. (s.past.at once).reached w ≡ true) links.parent links.under.reached

  pub then-inner : 0 < (page_at s.past.config (s.past.at once) p).level
  then-inner = subst (λ w. 0 < (page_at s.past.config (s.past.at once) w).level) links.parent links.under.child.inner

  pub then-status : old STATUS_AT ≡ lower.status
  then-status = node-at s.past.config (s.past.at once).value p STATUS_AT (omega arith) ∙ (ap (s.past.at once).value (sym guard-is) ∙ links.guard.status)

  then-thawed : (page_at s.past.config (s.past.at once) p).frozen ≡ false
  then-thawed = ap (λ w. (status w).frozen) then-status ∙ links.thawed

  pub then-inside : is_inside s.past.config (s.past.at once) p ≡ true
  then-inside = elim (then-good.placed p then-reached) [ inl t ↦ t | inr o ↦ absurd (true≢false (sym o ∙ then-thawed)) ]

  pub below : p ≢ s.past.config.nodes
  below e = absurd (omega (arith, e, g.slots p leads.reached))

  pub same-place : SamePlace s.past.config (s.past.at once) (here s) p
  same-place = b.ranges s.past.config s.past.at s.past.since s.past.now once s.past.now p good.history
      (record { since = links.guard.since; order = omega (arith, links.guard.order, links.guard.now); until = omega arith }) below then-inside leads.inside

  -- and its words are those that were read
  pub same-words : durable s.past.config (here s) p ≡ old
  same-words = (λ t k. g.shown p k leads.reached (inr (inr (inl leads.inner))) t) ∙ (λ t k. leads.same k (inr (inr (inl then-inner))) t)

  abbrev fm : Form
  fm = form_at s.past.config (here s)

  abbrev v : View
  v = view_in s.past.config (here s).image

  -- the level of the parent: a leaf is its child
  pub leaf-place : SamePlace s.past.config (s.past.at leaf.moment) (here s) lower.slot
  leaf-place = b.ranges s.past.config s.past.at s.past.since s.past.now leaf.moment s.past.now lower.slot good.history
      (record { since = leaf.since; order = leaf.now; until = omega arith }) (λ e. absurd (omega (arith, e, leaf.slot))) leaf.inside leads.stands.inside

  pub level-one : fm.level p ≡ 1
  level-one = omega (arith, leads.stands.level, leaf-place.level, leaf.leaf)

  pub fits : Fits v fm
  fits = let w : IsWellFormed s.past.config (here s).image = (b.formed s.past.config (here s).image).0 g.form in b.forms v w.tree.one w.tree.tall w.tree.none

  -- what the tree says of the parent's children is what was read
  pub view-count : v.count p ≡ count_of old
  view-count = let t : (p == s.past.config.nodes) ≡ false = not-equal p s.past.config.nodes below in rw t (ap count_of same-words)

  pub view-child : (j : ℕ) → v.child p j ≡ child_of old j
  view-child j = let t : (p == s.past.config.nodes) ≡ false = not-equal p s.past.config.nodes below in rw t (ap (λ n. child_of n j) same-words)

  view-key : (j : ℕ) → v.key p j ≡ key_of old j
  view-key j = let t : (p == s.past.config.nodes) ≡ false = not-equal p s.past.config.nodes below in rw t (ap (λ n. key_of n j) same-words)

  pub stands-at : (j c : ℕ) → j < count_of old → child_of old j ≡ c → Stands v fm p j c
  stands-at j c l e = subst (Stands v fm p j) (view-child j ∙ e) (fits.down p j leads.inside (omega (arith, level-one)) (subst (λ w. j < w) (sym view-count) l))

  pub slot-of : (k j : ℕ) → Stands v fm p j k → k < s.past.config.nodes
  slot-of k j t = g.slots k (g.inside k t.inside (λ e. absurd (top-high e)))
    where
      top-high : k ≡ s.past.config.nodes → ⊥
      top-high e = omega (arith, t.level, level-one, ap fm.level e, fits.height, fits.tall)

  pub flat : (k j : ℕ) → Stands v fm p j k → fm.level k ≡ 0
  flat k j t = omega (arith, t.level, level-one)

  -- the bounds of the children
  pub low-is : (k j : ℕ) → Stands v fm p j k → fm.low k ≡ low_in (children_of old) ((form_at s.past.config (s.past.at once)).low p) j
  low-is k j t = t.low ∙ choose-same (j == 0) (fm.low p) ((form_at s.past.config (s.past.at once)).low p) (Some (v.key p j)) (Some (key_of old j)) same-place.low (ap Some (view-key j))

  pub high-is : (k j : ℕ) → Stands v fm p j k → fm.high k ≡ high_in (children_of old) ((form_at s.past.config (s.past.at once)).high p) j
  high-is k j t =
      t.high
      ∙ (ap (λ w. if j + 1 == w then fm.high p else Some (v.key p (j + 1))) view-count
      ∙ choose-same (j + 1 == count_of old) (fm.high p) ((form_at s.past.config (s.past.at once)).high p) (Some (v.key p (j + 1))) (Some (key_of old (j + 1))) same-place.high (ap Some (view-key (j + 1))))
