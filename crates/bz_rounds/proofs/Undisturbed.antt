-- What is common to these swaps: the tree as it is now, and the leaf of the key in it.
use Rattle.std.proofs.Common.{◌≡◌, ◌≢◌, ℕ, ◌≤◌, List, Some, arith, ap, ◌∙◌}
use Rattle.bz_tree.proofs.TreeForms.{fits}
use Rattle.bz_tree.specs.Form.{Fits, Holds}
use Rattle.bz_tree.specs.Walk.{IsTree}
use Rattle.bz_tree.proofs.Proved.{leaves_tile_the_keys}
use Rattle.bz_word.specs.declared.entry.Entry.{Entry}
use Rattle.bz_content.specs.Content.{view_in, leaf_in}
use Rattle.bz_content.proofs.Proved.{well_formed_images_have_no_fault}
use Rattle.bz_task.specs.Good.{IsGood}
use Rattle.bz_task.specs.Instant.{form_at}
use Rattle.bz_task.specs.Scene.{Scene, IsScene, here}
use Rattle.bz_task.specs.declared.todo.Todo.TheVariants.{Swap}
use Rattle.bz_undisturbed.specs.Undisturbed.{IsUndisturbed}
use Rattle.bz_undisturbed.specs.FromRunning.MadeFor.{WasLeafOf}
use Rattle.bz_undisturbed.proofs.Proved.{undisturbed_times_are_quiet, trees_stand}

pub same-entries : (a b : List Entry) → Some (Swap a) ≡ Some (Swap b) → a ≡ b
same-entries a b e = cc

pub at-most : (a b : ℕ) → a ≡ b → a ≤ b
at-most a b e = omega (arith, e)

module _ (s : Scene) (good : IsScene s) where
  pub good-now : IsGood s.past.config (here s)
  good-now = good.history.good s.past.now good.begun (omega arith)

  pub tree-now : IsTree (view_in s.past.config (here s).image)
  tree-now = ((well_formed_images_have_no_fault s.past.config (here s).image).0 good-now.form).tree

  pub fits-now : Fits (view_in s.past.config (here s).image) (form_at s.past.config (here s))
  fits-now = fits (view_in s.past.config (here s).image) tree-now

  module _ (key : List ℕ) (slot : ℕ) (alone : IsUndisturbed 0 s.past) (was : WasLeafOf key slot s.past) where
    pub leaf-now : leaf_in s.past.config (here s).image key ≡ slot
    leaf-now =
        (trees_stand s s.past.since was.moment s.past.now good (undisturbed_times_are_quiet.whole s good alone) (record { from = was.since; to = was.now }) (record { from = good.begun; to = omega arith })).leaf key ∙ was.leaf

    pub holds-now : Holds (form_at s.past.config (here s)) key slot
    holds-now = (leaves_tile_the_keys (view_in s.past.config (here s).image) tree-now key slot).1 leaf-now

    pub below-top : slot ≢ s.past.config.nodes
    below-top e = absurd (omega (arith, holds-now.leaf, fits-now.height, fits-now.tall, ap (form_at s.past.config (here s)).level e))
