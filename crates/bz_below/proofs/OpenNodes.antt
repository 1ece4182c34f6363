-- A reached inner node that is not frozen is one of the tree, and breaks no rule where it stands.
use Rattle.std.proofs.Common.{◌≡◌, ◌≢◌, ℕ, ◌<◌, ◌==◌, true, false, arith, sym, ◌∙◌, inl, inr}
use Rattle.std.specs.Prelude.{None}
use Rattle.std.proofs.lemmas.Bool.{true≢false}
use Rattle.std.proofs.lemmas.Bool.Decides.{nat_tests}
use Rattle.bz_layout.specs.declared.config.Config.{Config}
use Rattle.bz_tree.specs.Form.{Fits}
use Rattle.bz_tree.specs.TreeLaws.{TreesHaveForms}
use Rattle.bz_slotted.specs.Laws.{InnerRulesAreFacts}
use Rattle.bz_slotted.specs.Rules.{node_fault}
use Rattle.bz_content.specs.Content.{IsWellFormed, view_in}
use Rattle.bz_content.specs.Image.{node}
use Rattle.bz_content.specs.Laws.{WellFormedImagesHaveNoFault}
use Rattle.bz_task.specs.Good.{IsGood}
use Rattle.bz_task.specs.Instant.{Instant, words, durable, page_at, form_at, is_inside}
use Rattle.bz_task.specs.Laws.{NodesStay, HeadersSayTheLevel}

pub record Laws : Type 0 where
  pub formed : WellFormedImagesHaveNoFault
  pub forms : TreesHaveForms
  pub inner : InnerRulesAreFacts
  pub nodes : NodesStay
  pub headers : HeadersSayTheLevel

-- a good memory is a tree, which has a form
pub fits : Laws → (c : Config) (x : Instant) → IsGood c x → Fits (view_in c x.image) (form_at c x)
fits b c x g =
    let w : IsWellFormed c x.image = (b.formed c x.image).0 g.form in
    b.forms (view_in c x.image) w.tree.one w.tree.tall w.tree.none

other : (a b : ℕ) → a ≢ b → (a == b) ≡ false
other a b ne = grind (arith, nat_tests)

-- a reached inner node that is not frozen
pub record IsOpen (c : Config) (x : Instant) (p : ℕ) : Type 0 where
  pub reached : x.reached p ≡ true
  pub thawed : (page_at c x p).frozen ≡ false
  pub inner : 0 < (page_at c x p).level

module _ (b : Laws) (c : Config) (x : Instant) (p : ℕ) (g : IsGood c x) (o : IsOpen c x p) where
  pub below_top : p ≢ c.nodes
  below_top e = absurd (omega (arith, g.slots p o.reached, e))

  pub inside : is_inside c x p ≡ true
  inside = elim (g.placed p o.reached) [ inl t ↦ t | inr f ↦ absurd (true≢false (sym f ∙ o.thawed)) ]

  -- reads of it answer what the image has
  pub alike : durable c x p ≡ words c x p
  alike = λ t i. g.shown p i o.reached (inr (inr (inl o.inner))) t

  level : (form_at c x).level p ≡ (page_at c x p).level
  level = sym (b.headers c x p g below_top inside).level

  pub high_up : 0 < (form_at c x).level p
  high_up = omega (arith, level, o.inner)

  pub no-fault : node_fault c.nodes (node c x.image p) (durable c x p) ((form_at c x).level p) ((form_at c x).low p) ((form_at c x).high p) ≡ None
  no-fault = rw (other p c.nodes below_top) at ((fits b c x g).whole p inside below_top)
