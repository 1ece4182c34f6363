-- A delete that leaves a leaf which may be merged tells so: the leaf is small then, and stands below another node.
use Rattle.std.proofs.Common.{◌≡◌, ◌≢◌, ℕ, ◌<◌, List, arith, refl, ap, inl, inr}
use Rattle.std.proofs.lemmas.Bool.{cases_lt}
use Rattle.bz_layout.specs.declared.config.Config.{Config}
use Rattle.bz_tree.specs.Form.{Fits, Form, Hangs, Holds}
use Rattle.bz_tree.specs.View.{View}
use Rattle.bz_tree.specs.Walk.{IsTree, form}
use Rattle.bz_tree.proofs.TreeForms.{fits}
use Rattle.bz_tree.proofs.Proved.{leaves_tile_the_keys}
use Rattle.bz_content.specs.Content.{leaf_in, view_in}
use Rattle.bz_content.proofs.Proved.{well_formed_images_have_no_fault}
use Rattle.bz_stage.specs.FromLeaves.Neighbours.{parent_in, MayBeMerged}
use Rattle.bz_task.specs.Scene.{here}
use Rattle.bz_rounds.specs.FromAlone.Duties.{change_of}
use Rattle.bz_rounds.specs.FromTally.Deletes.{LosesOneRecord}
use Rattle.bz_rounds.proofs.FromTally.Proved.{deletes_take_one_record, deletes_tell_few}
use Rattle.bz_joined.specs.SmallLeaves.{DeletesTellOfMerges, MergeableLeavesStandBelow, UndisturbedRootLeavesAreTheTree, UndisturbedDeletesTellOfMerges}
use Rattle.bz_joined.proofs.DueMerges.{height-one}

pub deletes-tell : DeletesTellOfMerges
deletes-tell t entries s y w e m = deletes_tell_few t entries s y w e m.small

module _ (c : Config) (raw : ℕ → ℕ) (key : List ℕ) (tree : IsTree (view_in c raw)) (m : MayBeMerged c raw key) where
  abbrev v : View
  v = view_in c raw

  abbrev f : Form
  f = form (view_in c raw)

  fits-it : Fits (view_in c raw) (form (view_in c raw))
  fits-it = fits v tree

  holds : Holds (form (view_in c raw)) key (leaf_in c raw key)
  holds = (leaves_tile_the_keys v tree key (leaf_in c raw key)).1 refl

  leaf-below : leaf_in c raw key ≢ c.nodes
  leaf-below e = absurd (omega (arith, holds.leaf, fits-it.height, fits-it.tall, ap f.level e))

  hangs : Hangs (view_in c raw) (form (view_in c raw)) (leaf_in c raw key)
  hangs = fits-it.hangs (leaf_in c raw key) holds.inside leaf-below

  -- the node above it has two children, and the superblock has one
  not-top : parent_in c raw key ≢ c.nodes
  not-top e = elim m.next [
    | inl after ↦ absurd (omega (arith, after, m.within, ap v.count e, fits-it.top_one))
    | inr before ↦ absurd (omega (arith, before, hangs.within, ap v.count e, fits-it.top_one))
  ]

  pub stands-below : 1 < (view_in c raw).height
  stands-below = omega (arith, hangs.inner, (fits-it.hangs (parent_in c raw key) hangs.inside not-top).lower)

pub mergeable-below : MergeableLeavesStandBelow
mergeable-below c raw key tree m = stands-below c raw key tree m

pub roots-are-trees : UndisturbedRootLeavesAreTheTree
roots-are-trees key path link s good alone p last one = height-one key path link s good alone p last one

pub undisturbed-deletes-tell : UndisturbedDeletesTellOfMerges
undisturbed-deletes-tell t path link entries s y w e alone p last good m = record {
  deep = elim (cases_lt path.depth 2) [
    | inl low ↦
        let loses : LosesOneRecord (change_of t).key s y = deletes_take_one_record t entries s y w e in
        let one : (view_in s.past.config (here s).image).height ≡ 1 = roots-are-trees (change_of t).key path link s w.good alone p last (omega (arith, low, p.some)) in
        let more : 1 < (view_in s.past.config y.image).height = mergeable-below s.past.config y.image (change_of t).key ((well_formed_images_have_no_fault s.past.config y.image).0 good.form).tree m in
        absurd (omega (arith, loses.height, one, more))
    | inr high ↦ high
  ];
  few = deletes-tell t entries s y w e m;
}
