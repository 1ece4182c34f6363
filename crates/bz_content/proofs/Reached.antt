-- The root of a tree is reached, and a slot without fault has the level at which it stands.
use Rattle.std.proofs.Common.{◌≡◌, ◌≢◌, ℕ, zero, suc, ◌==◌, true, List, arith, refl, ap, subst, Option}
use Rattle.std.specs.Prelude.{None}
use Rattle.std.proofs.lemmas.Bool.Decides.{nat_tests}
use Rattle.bz_layout.specs.declared.config.Config.{Config}
use Rattle.bz_tree.specs.Form.{Fits, Stands}
use Rattle.bz_tree.specs.Walk.{IsTree}
use Rattle.bz_tree.proofs.Proved.{trees_have_forms}
use Rattle.bz_slotted.specs.Readers.{level_of}
use Rattle.bz_slotted.specs.Rules.{node_fault}
use Rattle.bz_slotted.proofs.Proved.{inner_rules_are_facts, leaf_rules_are_facts}
use Rattle.bz_content.specs.Image.{Image, node, root}
use Rattle.bz_content.specs.Swaps.{form_in}
use Rattle.bz_content.specs.View.{view_of}
use Rattle.bz_content.proofs.Honesty.{no}

pub is : (a : ℕ) → (a == a) ≡ true
is a = grind (arith, nat_tests)

pub fits : (c : Config) (x : Image) → IsTree (view_of c x) → Fits (view_of c x) (form_in c x)
fits c x t = trees_have_forms (view_of c x) t.one t.tall t.none

-- the root stands below the superblock
pub root-stands : (c : Config) (x : Image) → Fits (view_of c x) (form_in c x) → Stands (view_of c x) (form_in c x) c.nodes 0 (root x.words)
root-stands c x g =
    let st : Stands (view_of c x) (form_in c x) c.nodes 0 ((view_of c x).child c.nodes 0) =
    g.down c.nodes 0 g.top (omega (arith, g.height, g.tall)) (omega (arith, g.top_one)) in
    subst (λ k. Stands (view_of c x) (form_in c x) c.nodes 0 k) (rw (is c.nodes) refl) st

pub root-below : (c : Config) (x : Image) → Fits (view_of c x) (form_in c x) → root x.words ≢ c.nodes
root-below c x g e = absurd (omega (arith, (root-stands c x g).level, ap (form_in c x).level e))

pub level-is : (nodes l : ℕ) (r n : ℕ → ℕ) (lo hi : Option (List ℕ)) → node_fault nodes r n l lo hi ≡ None → level_of n ≡ l
unfolding level_of
level-is nodes zero r n lo hi e = ((leaf_rules_are_facts nodes r n lo hi).0 e).level.level
level-is nodes (suc l) r n lo hi e = ((inner_rules_are_facts nodes r n (suc l) lo hi (omega arith)).0 e).level.level

-- a reached node has the level at which it stands
pub level-at : (c : Config) (x : Image) (k : ℕ) → Fits (view_of c x) (form_in c x) → (form_in c x).inside k ≡ true → k ≢ c.nodes
    → level_of (node c x.words k) ≡ (form_in c x).level k
level-at c x k g i ne =
    let e : node_fault c.nodes (node c x.raw k) (node c x.words k) ((form_in c x).level k) ((form_in c x).low k) ((form_in c x).high k) ≡ None = rw (no k c.nodes ne) at (g.whole k i ne) in
    level-is c.nodes ((form_in c x).level k) (node c x.raw k) (node c x.words k) ((form_in c x).low k) ((form_in c x).high k) e
