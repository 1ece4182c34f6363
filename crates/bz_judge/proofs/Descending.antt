-- The way down to the leaf of a key: each node that is come to is reached, and the leaf of the key is below it.
use Rattle.std.proofs.Common.{◌≡◌, ℕ, zero, suc, ◌-◌, ◌<◌, ◌==◌, if◌then◌else◌, Bool, true, false, List, length, arith, refl, sym, ap, subst, ◌∙◌, Option}
use Rattle.std.specs.Prelude.{Some, None, not, slice_index}
use Rattle.bz_layout.specs.declared.config.Config.{Config}
use Rattle.bz_layout.specs.declared.sizes.TheConstants.{NODE_WORDS}
use Rattle.bz_node.specs.Reading.{count_in}
use Rattle.bz_node.specs.declared.child.Child.{Child}
use Rattle.bz_tree.specs.Content.{leaf_end}
use Rattle.bz_tree.specs.Descent.{pick, choice, descend, leaf_of}
use Rattle.bz_tree.specs.Form.{Fits, Stands}
use Rattle.bz_tree.specs.Order.{is_before, is_at_least}
use Rattle.bz_tree.specs.View.{View, high_at}
use Rattle.bz_tree.specs.Walk.{Visit, kid, form, IsTree}
use Rattle.bz_tree.proofs.Descents.{pick-le, rises}
use Rattle.bz_tree.proofs.TreeForms.{fits}
use Rattle.bz_content.specs.Content.{view_in}
use Rattle.bz_content.specs.Image.{node}
use Rattle.bz_content.specs.Resolving.{resolve}
use Rattle.bz_content.proofs.Honesty.{no}
use Rattle.bz_content.proofs.Proved.{well_formed_images_have_no_fault}
use Rattle.bz_slotted.specs.ReadingLaws.{node_of, child_read, ReadsAsChildren}
use Rattle.bz_slotted.specs.Readers.{key_of}
use Rattle.bz_slotted.specs.Rules.{node_fault}
use Rattle.bz_judge.specs.Held.{IsImageOf}
use Rattle.bz_judge.specs.Inside.Leaves.{IsLeafVisit}
use Rattle.bz_judge.specs.Inside.Nodes.{IsNodeOf}
use Rattle.bz_judge.specs.Inside.Stacks.{Shows}
use Rattle.bz_judge.specs.Inside.Walking.{Starts, IsRoot}
use Rattle.bz_judge.proofs.Children.{count-read}
use Rattle.bz_judge.proofs.Gathered.{scanned}
use Rattle.bz_judge.proofs.Steps.{node-none, shows-node, children-below, reads-children}

-- the child of a key, from the last one down
pub pick-down : (v : View) (k : ℕ) (key : List ℕ) (i : ℕ) → 0 < i → is_before key (v.key k i) ≡ true → pick v k key i ≡ pick v k key (i - 1)
unfolding pick
pick-down v k key zero some before = absurd (omega arith)
pick-down v k key (suc n) some before = (λ t. if before t then pick v k key n else suc n) ∙ ap (pick v k key) (omega arith)

pub pick-here : (v : View) (k : ℕ) (key : List ℕ) (i : ℕ) → 0 < i → is_before key (v.key k i) ≡ false → pick v k key i ≡ i
unfolding pick
pick-here v k key zero some before = absurd (omega arith)
pick-here v k key (suc n) some before = λ t. if before t then pick v k key n else suc n

pub pick-first : (v : View) (k : ℕ) (key : List ℕ) (i : ℕ) → i ≡ 0 → pick v k key i ≡ 0
unfolding pick
pick-first v k key i none = ap (pick v k key) none

-- what the test of a child tells
low-read : (v : View) (words : List ℕ) (k j : ℕ) (child : Child) → Shows v k words → child ≡ child_read (node_of words) j → 0 < j → child.low ≡ Some (v.key k j)
low-read v words k j child shows is some =
    let first : (j == 0) ≡ false = no j 0 (omega arith) in
    let a : child.low ≡ (if j == 0 then None else Some (key_of (node_of words) j)) = ap (λ (x : Child). x.low) is in
    a ∙ rw first (ap Some (sym (shows.key j)))

not-true : (b : Bool) → not b ≡ true → b ≡ false
not-true true e = sym e
not-true false e = refl

not-false : (b : Bool) → not b ≡ false → b ≡ true
not-false true e = refl
not-false false e = sym e

pub not-before : (v : View) (words : List ℕ) (k j : ℕ) (key : List ℕ) (child : Child) (test : Bool) → Shows v k words → child ≡ child_read (node_of words) j → 0 < j → test ≡ is_at_least key child.low → test ≡ true → is_before key (v.key k j) ≡ false
not-before v words k j key child test shows is some e yes_ = not-true (is_before key (v.key k j)) (sym (ap (is_at_least key) (low-read v words k j child shows is some)) ∙ sym e ∙ yes_)

pub before : (v : View) (words : List ℕ) (k j : ℕ) (key : List ℕ) (child : Child) (test : Bool) → Shows v k words → child ≡ child_read (node_of words) j → 0 < j → test ≡ is_at_least key child.low → test ≡ false → is_before key (v.key k j) ≡ true
before v words k j key child test shows is some e no_ = not-false (is_before key (v.key k j)) (sym (ap (is_at_least key) (low-read v words k j child shows is some)) ∙ sym e ∙ no_)

-- the last child stands first on the way
pub pick-last : (v : View) (words : List ℕ) (k : ℕ) (key : List ℕ) (i : ℕ) → Shows v k words → ReadsAsChildren words → i ≡ count_in words - 1 → choice v k key ≡ pick v k key i
pick-last v words k key i shows r is = ap (pick v k key) (omega (arith, is, shows.count, count-read words r))

-- one level down
descend-down : (v : View) (key : List ℕ) (l k : ℕ) → 0 < l → descend v key l k ≡ descend v key (l - 1) (v.child k (choice v k key))
unfolding descend
descend-down v key zero k some = absurd (omega arith)
descend-down v key (suc n) k some = let e : n ≡ suc n - 1 = omega arith in ap (λ (m : ℕ). descend v key m (v.child k (choice v k key))) e

descend-none : (v : View) (key : List ℕ) (l k : ℕ) → l ≡ 0 → descend v key l k ≡ k
unfolding descend
descend-none v key l k none = ap (λ (m : ℕ). descend v key m k) none

-- a visit on the way to the leaf of a key
pub record Descends (v : View) (key : List ℕ) (u : Visit) : Type 0 where
  pub below : u.slot < v.top
  pub inside : (form v).inside u.slot ≡ true
  pub level : (form v).level u.slot ≡ u.level
  pub high : (form v).high u.slot ≡ u.high
  pub leaf : leaf_of v key ≡ descend v key u.level u.slot

-- the choice of the superblock, which has one child
choice-top : (v : View) (key : List ℕ) → v.count v.top ≡ 1 → choice v v.top key ≡ 0
choice-top v key one = omega (arith, one, pick-le v v.top key (v.count v.top - 1))

from-root : (v : View) (key : List ℕ) (u : Visit) → IsTree v → Starts v u → Descends v key u
from-root v key u tree starts = record {
  below = starts.below;
  inside = ap (form v).inside slot ∙ s.inside;
  level = omega (arith, ap (form v).level slot, s.level, f.height, starts.level);
  high = ap (form v).high slot ∙ s.high ∙ ap (λ (h : Option (List ℕ)). high_at v v.top h 0) f.top_high ∙ sym (ap (λ (x : Visit). x.high) starts.root);
  leaf = descend-down v key v.height v.top f.tall ∙ ap (λ (i : ℕ). descend v key (v.height - 1) (v.child v.top i)) (choice-top v key f.top_one)
      ∙ ap (λ (l : ℕ). descend v key l (v.child v.top 0)) height ∙ ap (descend v key u.level) (sym slot);
}
  where
    f : Fits v (form v)
    f = fits v tree

    s : Stands v (form v) v.top 0 (v.child v.top 0)
    s = f.down v.top 0 f.top (omega (arith, f.height, f.tall)) (omega (arith, f.top_one))

    slot : u.slot ≡ v.child v.top 0
    slot = ap (λ (x : Visit). x.slot) starts.root

    height : v.height - 1 ≡ u.level
    height = omega (arith, starts.level)

-- an inner node has children
some-children : (v : View) (key : List ℕ) (u : Visit) → IsTree v → Descends v key u → 0 < u.level → 0 < v.count u.slot
some-children v key u tree d inner = (rises v (form v) u.slot tree.honest (fits v tree) d.inside (omega (arith, d.level))).some

choice-within : (v : View) (key : List ℕ) (k : ℕ) → 0 < v.count k → choice v k key < v.count k
choice-within v key k some = omega (arith, pick-le v k key (v.count k - 1))

to-child : (v : View) (key : List ℕ) (u w : Visit) → IsTree v → Descends v key u → 0 < u.level → v.child u.slot (choice v u.slot key) < v.top → w ≡ kid v u (u.level - 1) (choice v u.slot key) → Descends v key w
to-child v key u w tree d inner below is = subst (λ (x : Visit). Descends v key x) (sym is) (record {
  below = below;
  inside = s.inside;
  level = omega (arith, s.level, d.level);
  high = s.high ∙ ap (λ (h : Option (List ℕ)). high_at v u.slot h (choice v u.slot key)) d.high;
  leaf = d.leaf ∙ descend-down v key u.level u.slot inner;
})
  where
    s : Stands v (form v) u.slot (choice v u.slot key) (v.child u.slot (choice v u.slot key))
    s = (fits v tree).down u.slot (choice v u.slot key) d.inside (omega (arith, d.level)) (choice-within v key u.slot (some-children v key u tree d inner))

at-leaf : (v : View) (key : List ℕ) (u : Visit) → Descends v key u → u.level ≡ 0 → u.high ≡ leaf_end v key
at-leaf v key u d leaf = sym d.high ∙ ap (form v).high (sym (descend-none v key u.level u.slot leaf) ∙ sym d.leaf)

-- the same over an image
abbrev pub IsDescending : Config → List ℕ → List ℕ → Visit → Type 0
IsDescending c image key u = Descends (view_in c (slice_index image)) key u

tree-of : (c : Config) (image : List ℕ) → IsImageOf c image → IsTree (view_in c (slice_index image))
tree-of c image h = ((well_formed_images_have_no_fault c (slice_index image)).0 h.none).tree

pub descent-begun : (c : Config) (image key : List ℕ) (u : Visit) → IsImageOf c image → IsRoot c image u → IsDescending c image key u
descent-begun c image key u h starts = from-root (view_in c (slice_index image)) key u (tree-of c image h) starts

-- where a reached node stands
stands : View → ℕ → Visit
stands v k = record { slot = k; level = (form v).level k; low = (form v).low k; high = (form v).high k; up = 0; index = 0 }

node-whole : (c : Config) (image key : List ℕ) (u : Visit) → IsImageOf c image → IsDescending c image key u
    → (view_in c (slice_index image)).fault u.slot ((form (view_in c (slice_index image))).level u.slot) ((form (view_in c (slice_index image))).low u.slot) ((form (view_in c (slice_index image))).high u.slot) ≡ None
node-whole c image key u h d = (fits (view_in c (slice_index image)) (tree-of c image h)).whole u.slot d.inside (λ e. absurd (omega (arith, d.below, e)))

pub reads-way : (c : Config) (image key : List ℕ) (u : Visit) (words : List ℕ) → IsImageOf c image → IsDescending c image key u → 0 < u.level → IsNodeOf c image u.slot words → length words ≡ NODE_WORDS → ReadsAsChildren words
unfolding stands
reads-way c image key u words h d inner is size =
    reads-children c image (stands (view_in c (slice_index image)) u.slot) words (scanned c image h) d.below is size (node-whole c image key u h d) (omega (arith, d.level))

pub way-has-children : (c : Config) (image key : List ℕ) (u : Visit) (words : List ℕ) → IsImageOf c image → IsDescending c image key u → 0 < u.level → IsNodeOf c image u.slot words → ReadsAsChildren words → 0 < count_in words
way-has-children c image key u words h d inner is r =
    let shows : Shows (view_in c (slice_index image)) u.slot words = shows-node c image u.slot words d.below is in
    omega (arith, some-children (view_in c (slice_index image)) key u (tree-of c image h) d inner, shows.count, count-read words r)

pub descent-on : (c : Config) (image key : List ℕ) (u w : Visit) (words : List ℕ) → IsImageOf c image → IsDescending c image key u → 0 < u.level → IsNodeOf c image u.slot words
    → ((v : View) → Shows v u.slot words → w ≡ kid v u (u.level - 1) (choice v u.slot key)) → IsDescending c image key w
unfolding stands
descent-on c image key u w words h d inner is chosen =
    let tree : IsTree (view_in c (slice_index image)) = tree-of c image h in
    let within : choice (view_in c (slice_index image)) u.slot key < (view_in c (slice_index image)).count u.slot =
    choice-within (view_in c (slice_index image)) key u.slot (some-children (view_in c (slice_index image)) key u tree d inner) in
    to-child (view_in c (slice_index image)) key u w tree d inner
    (children-below c (slice_index image) (stands (view_in c (slice_index image)) u.slot) d.below (node-whole c image key u h d) (omega (arith, d.level)) (choice (view_in c (slice_index image)) u.slot key) within)
    (chosen (view_in c (slice_index image)) (shows-node c image u.slot words d.below is))

pub descent-smaller : (c : Config) (image key : List ℕ) (u w : Visit) (words : List ℕ) → IsDescending c image key u → 0 < u.level → IsNodeOf c image u.slot words
    → ((v : View) → Shows v u.slot words → w ≡ kid v u (u.level - 1) (choice v u.slot key)) → w.level < u.level
descent-smaller c image key u w words d inner is chosen =
    let e : w.level ≡ u.level - 1 = ap (λ (x : Visit). x.level) (chosen (view_in c (slice_index image)) (shows-node c image u.slot words d.below is)) in
    omega arith

-- and at its end
leaf-none : (c : Config) (image key : List ℕ) (u : Visit) → IsImageOf c image → IsDescending c image key u → u.level ≡ 0
    → node_fault c.nodes (node c (slice_index image) u.slot) (node c (resolve (slice_index image)) u.slot) 0 ((form (view_in c (slice_index image))).low u.slot) u.high ≡ None
unfolding stands
leaf-none c image key u h d leaf =
    let level : (form (view_in c (slice_index image))).level u.slot ≡ 0 = d.level ∙ leaf in
    let none : node_fault c.nodes (node c (slice_index image) u.slot) (node c (resolve (slice_index image)) u.slot) ((form (view_in c (slice_index image))).level u.slot) ((form (view_in c (slice_index image))).low u.slot)
    ((form (view_in c (slice_index image))).high u.slot) ≡ None = node-none c (slice_index image) (stands (view_in c (slice_index image)) u.slot) d.below (node-whole c image key u h d) in
    subst (λ (high : Option (List ℕ)). node_fault c.nodes (node c (slice_index image) u.slot) (node c (resolve (slice_index image)) u.slot) 0 ((form (view_in c (slice_index image))).low u.slot) high ≡ None) d.high
    (subst (λ (l : ℕ). node_fault c.nodes (node c (slice_index image) u.slot) (node c (resolve (slice_index image)) u.slot) l ((form (view_in c (slice_index image))).low u.slot) ((form (view_in c (slice_index image))).high u.slot) ≡ None) level none)

pub descent-ends : (c : Config) (image key : List ℕ) (u : Visit) → IsImageOf c image → IsDescending c image key u → u.level ≡ 0 → IsLeafVisit c image key u
descent-ends c image key u h d leaf = record {
  below = d.below;
  leaf = sym (descend-none (view_in c (slice_index image)) key u.level u.slot leaf) ∙ sym d.leaf;
  high = at-leaf (view_in c (slice_index image)) key u d leaf;
  low = (form (view_in c (slice_index image))).low u.slot;
  none = leaf-none c image key u h d leaf;
}
