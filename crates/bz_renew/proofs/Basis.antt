-- The laws on which the turn of a link rests, and the form of a tree.
use Rattle.bz_layout.specs.Addresses.{SlotsApart}
use Rattle.bz_layout.specs.declared.config.Config.{Config}
use Rattle.bz_tree.specs.Form.{Fits}
use Rattle.bz_tree.specs.TreeLaws.{TreesHaveForms}
use Rattle.bz_slotted.specs.Laws.{InnerRulesAreFacts}
use Rattle.bz_word.specs.Statements.{IsCodec}
use Rattle.bz_word.specs.Statuses.{status_word, status, IsStatus, IsStatusWord}
use Rattle.bz_word.specs.declared.status.Status.{Status}
use Rattle.bz_task.specs.FromContent.Content.{IsWellFormed, view_in}
use Rattle.bz_task.specs.FromContent.Laws.{WellFormedImagesHaveNoFault}
use Rattle.bz_task.specs.Good.{IsGood}
use Rattle.bz_task.specs.Instant.{Instant, form_at}
use Rattle.bz_task.specs.Laws.{NodesStay, FrontsStay, SeparatorsStay, HeadersSayTheLevel, SwapsShowInSlots, SameRecordsShowTheSame}

pub record Laws : Type 0 where
  pub formed : WellFormedImagesHaveNoFault
  pub forms : TreesHaveForms
  pub inner : InnerRulesAreFacts
  pub codec : IsCodec Status IsStatus IsStatusWord status_word status
  pub apart : SlotsApart
  pub nodes : NodesStay
  pub fronts : FrontsStay
  pub separators : SeparatorsStay
  pub headers : HeadersSayTheLevel
  pub slots : SwapsShowInSlots
  pub shown : SameRecordsShowTheSame

-- a good memory is a tree, which has a form
pub fits : Laws → (c : Config) (x : Instant) → IsGood c x → Fits (view_in c x.image) (form_at c x)
fits b c x g =
    let w : IsWellFormed c x.image = (b.formed c x.image).0 g.form in
    b.forms (view_in c x.image) w.tree.one w.tree.tall w.tree.none
