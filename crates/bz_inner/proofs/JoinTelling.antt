-- What the root's own status tells that is found again: its words are those of one moment, the neighbour is chosen, and the two stand beside
-- each other.
use Rattle.std.proofs.Common.{◌≡◌, ℕ, ◌+◌, ◌<◌, ◌==◌, true, false, slice_index, arith, sym, ap, subst, ◌∙◌}
use Rattle.std.proofs.lemmas.Bool.Decides.{nat_tests}
use Rattle.bz_layout.specs.Addresses.{node_address}
use Rattle.bz_layout.specs.declared.config.Config.{Config}
use Rattle.bz_layout.specs.declared.sizes.TheConstants.{NODE_WORDS, STATUS_AT, HEADER_AT}
use Rattle.bz_tree.specs.Form.{Fits, Form, Stands, Hangs}
use Rattle.bz_tree.specs.View.{View}
use Rattle.bz_slotted.specs.Readers.{count_of, child_of}
use Rattle.bz_slotted.specs.ReadingLaws.{node_of}
use Rattle.bz_word.specs.Headers.{header}
use Rattle.bz_content.specs.Content.{view_in}
use Rattle.bz_task.specs.Good.{IsGood}
use Rattle.bz_task.specs.Instant.{words, page_at, form_at}
use Rattle.bz_task.specs.Scene.{Scene, IsScene, here}
use Rattle.bz_task.proofs.Proved.{fronts_stay, headers_say_the_level}
use Rattle.bz_renew.specs.Due.{IsStatusOf}
use Rattle.bz_renew.specs.Standing.{StillLeads}
use Rattle.bz_renew.proofs.Proved.{guarded_links_stand}
use Rattle.bz_inner.specs.InnerMerges.{WasOpen}
use Rattle.bz_inner.specs.Joinings.{Joining, left_slot, right_slot, sep_of, IsReadingAbove, IsReadingOwn}
use Rattle.bz_inner.specs.LowerFacts.{IsLinkIn}
use Rattle.bz_inner.specs.Neighbours.{IsNeighbour, IsParentOf, AreApart, StoodBeside}
use Rattle.bz_inner.specs.declared.neighbour.Neighbour.{Neighbour}
use Rattle.bz_inner.proofs.Meeting.{apart, beside, child-stands}
use Rattle.bz_inner.proofs.NodesRead.{guard-is, was-met, found-now, was-open}
use Rattle.bz_inner.proofs.Roots.{form-fits}
use Rattle.bz_inner.proofs.StillOpen.{StillOpen, still-open}

no : (a b : ℕ) → (a ≡ b → ⊥) → (a == b) ≡ false
no a b ne = grind (arith, nat_tests)

-- the task with the neighbour that was chosen
abbrev pub with_side : Joining → Neighbour → Joining
with_side r side = record r { right = side.right; place = side.place; beside_slot = side.slot }

module _ (r : Joining) (s : Scene) (good : IsScene s) (f : IsReadingAbove r NODE_WORDS s.past) (thawed : IsStatusOf false r.middle.status) (now : (here s).value r.middle.guard ≡ r.middle.status) where
  abbrev c : Config
  c = s.past.config

  abbrev p : ℕ
  p = r.upper.slot

  abbrev form : Form
  form = form_at c (here s)

  abbrev view : View
  view = view_in c (here s).image

  abbrev o : IsLinkIn r.upper.slot r.middle s.past
  o = f.links.parent

  g : IsGood c (here s)
  g = good.history.good s.past.now good.begun (omega arith)

  -- the root was read whole
  pub root-open : WasOpen p f.links.parent_at r.above s.past
  root-open = was-open s p f.links.parent_at r.middle.status r.above good (was-met s p f.links.parent_at r.middle o f.links.is_parent_at thawed) (found-now s p f.links.parent_at r.middle o f.links.is_parent_at thawed now) f.were

  stands-now : (here s).value (node_address c p + STATUS_AT) ≡ slice_index r.above STATUS_AT
  stands-now = ap (here s).value (sym (guard-is s p f.links.parent_at r.middle o f.links.is_parent_at thawed)) ∙ (now ∙ sym f.were.first)

  still : StillOpen p f.links.parent_at r.above s root-open
  still = still-open s p f.links.parent_at r.above good root-open stands-now

  fit : Fits view form
  fit = form-fits c (here s) g

  -- the node is one of its children
  leads : StillLeads r.middle s o.guard.guarded p o.under.child.child
  leads = subst (λ z. StillLeads r.middle s o.guard.guarded z o.under.child.child) o.parent (guarded_links_stand s r.middle good o.guard thawed.is o.under now)

  own-stands : Stands view form p o.under.child.child r.middle.slot
  own-stands = leads.stands

  not-top : r.middle.slot ≡ c.nodes → ⊥
  not-top e = omega (arith, own-stands.level, ap form.level e, fit.height, (fit.hangs p still.inside still.below).lower)

  hangs : Hangs view form r.middle.slot
  hangs = fit.hangs r.middle.slot own-stands.inside not-top

  abbrev place : ℕ
  place = form.index r.middle.slot

  counted : view.count p ≡ count_of (node_of r.above)
  counted = rw (no p c.nodes still.below) (ap count_of still.words)

  place-within : place < count_of (node_of r.above)
  place-within = omega (arith, hangs.within, ap view.count own-stands.up, counted)

  place-there : child_of (node_of r.above) place ≡ r.middle.slot
  place-there =
      let seen : view.child p place ≡ child_of (node_of r.above) place = rw (no p c.nodes still.below) (ap (λ n. child_of n place) still.words) in
      sym seen ∙ (ap (λ k. view.child k place) (sym own-stands.up) ∙ hangs.child)

  pub is-parent : IsParentOf r.above r.middle.slot
  is-parent = record {
    readable = root-open.node.node.node.readable;
    has = root-open.node.node.node.has;
    place = place;
    within = place-within;
    there = place-there;
  }

  -- the node is an inner one, so the root stands two levels above the leaves
  own-was : (s.past.at f.links.own.guard.guarded).reached r.middle.slot ≡ true
  own-was = subst (λ z. (s.past.at f.links.own.guard.guarded).reached z ≡ true) f.links.own.parent f.links.own.under.reached

  inner-was : 0 < (page_at c (s.past.at f.links.own.guard.guarded) r.middle.slot).level
  inner-was = subst (λ z. 0 < (page_at c (s.past.at f.links.own.guard.guarded) z).level) f.links.own.parent f.links.own.under.child.inner

  header-same : words c (here s) r.middle.slot HEADER_AT ≡ words c (s.past.at f.links.own.guard.guarded) r.middle.slot HEADER_AT
  header-same = (fronts_stay c s.past.at s.past.since s.past.now f.links.own.guard.guarded s.past.now r.middle.slot good.history
      (record { since = f.links.own.guard.since; order = omega (arith, f.links.own.guard.order, f.links.own.guard.now); until = omega arith }) own-was).front HEADER_AT (λ e. absurd (omega (arith, e))) (omega arith)

  inner-now : 0 < (page_at c (here s) r.middle.slot).level
  inner-now = subst (λ z. 0 < (header z).level) (sym header-same) inner-was

  own-tall : 0 < form.level r.middle.slot
  own-tall = omega (arith, inner-now, (headers_say_the_level c (here s) r.middle.slot g not-top own-stands.inside).level)

  module _ (side : Neighbour) (pair : IsNeighbour r.above r.middle.slot side.right side.place side.slot) where
    abbrev q : Joining
    q = with_side r side

    child-tall : 0 < form.level (child_of (node_of r.above) side.place)
    child-tall = omega (arith, (child-stands s p f.links.parent_at r.above good root-open stands-now side.place (omega (arith, pair.within))).level, own-stands.level, own-tall)

    two : AreApart (left_slot q) (right_slot q) p
    two = subst (λ z. AreApart z (right_slot q) p) pair.first (subst (λ z. AreApart (child_of (node_of r.above) side.place) z p) pair.second (apart s p f.links.parent_at r.above good root-open stands-now side.place pair.within))

    both : StoodBeside (left_slot q) (right_slot q) s.past.now (sep_of r.above side.place) s.past
    both = subst (λ z. StoodBeside z (right_slot q) s.past.now (sep_of r.above side.place) s.past) pair.first
        (subst (λ z. StoodBeside (child_of (node_of r.above) side.place) z s.past.now (sep_of r.above side.place) s.past) pair.second (beside s p f.links.parent_at r.above good root-open stands-now side.place pair.within child-tall))

    pub is-reading-own : IsReadingOwn q 1 s.past
    is-reading-own = record {
      paired = record {
        links = f.links;
        parent = root-open;
        pair = pair;
        apart = two;
        at = s.past.now;
        later = omega (arith, f.links.own.guard.order, f.links.own.guard.now, f.links.is_own_at);
        stood = both;
      };
      were = f.own;
    }
