-- A node of the tree that has a child at a place is the parent of that child.
use Rattle.std.proofs.Common.{◌≡◌, ◌≢◌, ℕ, ◌<◌, ◌==◌, ◌||◌, if◌then◌else◌, Bool, true, false, List, [], ◌∷◌, arith, refl, sym, ap, ◌∙◌}
use Rattle.bz_layout.specs.declared.config.Config.{Config}
use Rattle.bz_tree.specs.Form.{Fits, Form, Stands}
use Rattle.bz_tree.specs.View.{View}
use Rattle.bz_tree.specs.Walk.{Visit, comes_to, visit_to, form, walk}
use Rattle.bz_slotted.specs.Readers.{child_of, count_of}
use Rattle.bz_content.proofs.Honesty.{no}
use Rattle.bz_content.specs.Image.{Image, node, root}
use Rattle.bz_content.specs.View.{view_of}

-- the children of a slot that is not the superblock are those of its words
pub count-is : (c : Config) (x : Image) (u : ℕ) → u ≢ c.nodes → (view_of c x).count u ≡ count_of (node c x.words u)
count-is c x u ne = ap (λ t. if t then 1 else count_of (node c x.words u)) (no u c.nodes ne)

pub child-is : (c : Config) (x : Image) (u i : ℕ) → u ≢ c.nodes → (view_of c x).child u i ≡ child_of (node c x.words u) i
child-is c x u i ne = ap (λ t. if t then (if i == 0 then root x.words else 0) else child_of (node c x.words u) i) (no u c.nodes ne)

-- a slot that stands above the leaves is one of the tree
among : (us : List Visit) (k : ℕ) → 0 < (visit_to us k).level → comes_to us k ≡ true
among [] k high = absurd (omega arith)
among (u ∷ us) k high = go (u.slot == k) high (among us k)
  where
    go : (t : Bool) → 0 < (if t then u else visit_to us k).level → (0 < (visit_to us k).level → comes_to us k ≡ true) → t || comes_to us k ≡ true
    go true h ih = refl
    go false h ih = ih h

pub high-inside : (v : View) (k : ℕ) → 0 < (form v).level k → (form v).inside k ≡ true
high-inside v k high = among (walk v) k high

-- child i of an inner slot hangs from it
module _ (v : View) (f : Form) (g : Fits v f) (u i k : ℕ) (inside : f.inside u ≡ true) (high : 0 < f.level u) (within : i < v.count u) (child : v.child u i ≡ k) where
  stands : Stands v f u i (v.child u i)
  stands = g.down u i inside high within

  pub up-is : f.up k ≡ u
  up-is = ap f.up (sym child) ∙ stands.up

  pub index-is : f.index k ≡ i
  index-is = ap f.index (sym child) ∙ stands.index
