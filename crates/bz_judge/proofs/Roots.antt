-- The superblock's two words of the root, and the visit to the root after them.
use Rattle.std.proofs.Common.{◌≡◌, ℕ, suc, ◌+◌, ◌-◌, ◌^◌, ◌<◌, ◌≤◌, true, false, List, [], ◌∷◌, ◌++◌, arith, refl, sym, ap, ◌∙◌, append-nil}
use Rattle.std.specs.Prelude.{Some, None, nat_lt, nat_le, slice_index}
use Rattle.std.proofs.lemmas.Bool.Decides.{nat_tests}
use Rattle.bz_layout.specs.declared.config.Config.{Config}
use Rattle.bz_layout.specs.declared.sizes.TheConstants.{ROOT_AT, ROOT_STATUS_AT}
use Rattle.bz_tree.specs.Stack.{pending}
use Rattle.bz_tree.specs.View.{View}
use Rattle.bz_tree.specs.Walk.{Visit, kid, kids, start, visits, walk, first_fault, fault_of}
use Rattle.bz_tree.specs.declared.rule.ShapeRule.TheVariants.{Root}
use Rattle.bz_tree.proofs.Stacks.{pending-inner}
use Rattle.bz_content.specs.Content.{view_in}
use Rattle.bz_content.specs.Image.{node, root}
use Rattle.bz_content.specs.Resolving.{resolve}
use Rattle.bz_content.specs.View.{root_fault}
use Rattle.bz_content.proofs.Reached.{is as same}
use Rattle.bz_slotted.specs.Readers.{level_of}
use Rattle.bz_judge.specs.Inside.Walking.{IsRoot}

-- the walk begins with the superblock and the root
walk-begins : (v : View) (u : Visit) (h : ℕ) → v.count v.top ≡ 1 → h + 1 ≡ v.height → u ≡ kid v (start v) h 0 → walk v ≡ start v ∷ pending v (u ∷ [])
unfolding pending kids
walk-begins v u h one height is =
    let e : v.height ≡ suc h = omega arith in
    sym (append-nil (visits v v.height (start v)))
    ∙ (pending-inner v h (start v) [] e ∙ (λ t. start v ∷ pending v (kids v (start v) h 0 (one t) ++ [])) ∙ sym (λ t. start v ∷ pending v (is t ∷ [])))

-- a test of the root that fails is the first fault
pub root-fails : (c : Config) (raw : ℕ → ℕ) → root_fault c.nodes (resolve raw ROOT_AT) (resolve raw ROOT_STATUS_AT) ≡ Some Root → fault_of (view_in c raw) ≡ Some (record { rule = Root; place = 0 })
unfolding first_fault visits
root-fails c raw f =
    let e : (view_in c raw).height ≡ suc (level_of (node c (resolve raw) (root (resolve raw)))) = omega arith in
    (λ t. first_fault (view_in c raw) [] (visits (view_in c raw) (e t) (start (view_in c raw)))) ∙ rw (same c.nodes, f) refl

pub pointer-none : (c : Config) (raw : ℕ → ℕ) → resolve raw ROOT_AT ≡ 0 → root_fault c.nodes (resolve raw ROOT_AT) (resolve raw ROOT_STATUS_AT) ≡ Some Root
unfolding root_fault
pointer-none c raw e = rw e refl

pub pointer-far : (nodes pointer status : ℕ) → nodes < pointer → root_fault nodes pointer status ≡ Some Root
unfolding root_fault
pointer-far nodes pointer status far =
    let some : nat_lt 0 pointer ≡ true = grind (arith, nat_tests) in
    let past : nat_le pointer nodes ≡ false = grind (arith, nat_tests) in rw (some, past) refl

pub status-set : (nodes pointer status : ℕ) → 0 < pointer → pointer ≤ nodes → 2 ^ 32 ≤ status → root_fault nodes pointer status ≡ Some Root
unfolding root_fault
status-set nodes pointer status some within big =
    let a : nat_lt 0 pointer ≡ true = grind (arith, nat_tests) in
    let b : nat_le pointer nodes ≡ true = grind (arith, nat_tests) in
    let d : nat_lt status (2 ^ 32) ≡ false = grind (arith, nat_tests) in rw (a, b, d) refl

root-whole : (nodes pointer status : ℕ) → 0 < pointer → pointer ≤ nodes → status < 2 ^ 32 → root_fault nodes pointer status ≡ None
unfolding root_fault
root-whole nodes pointer status some within small =
    let a : nat_lt 0 pointer ≡ true = grind (arith, nat_tests) in
    let b : nat_le pointer nodes ≡ true = grind (arith, nat_tests) in
    let d : nat_lt status (2 ^ 32) ≡ true = grind (arith, nat_tests) in rw (a, b, d) refl

-- the root of an image whose root breaks no rule
pub root-starts : (c : Config) (image : List ℕ) (u : Visit) (slot level : ℕ) → 0 < resolve (slice_index image) ROOT_AT → resolve (slice_index image) ROOT_AT ≤ c.nodes → resolve (slice_index image) ROOT_STATUS_AT < 2 ^ 32 →
    slot ≡ resolve (slice_index image) ROOT_AT - 1 → level ≡ level_of (node c (resolve (slice_index image)) slot) → u ≡ record { slot = slot; level = level; low = None; high = None; up = c.nodes; index = 0 } → IsRoot c image u
root-starts c image u slot level some within small is reads e = record {
  fault = rw (same c.nodes) (root-whole c.nodes (resolve (slice_index image) ROOT_AT) (resolve (slice_index image) ROOT_STATUS_AT) some within small);
  walk = walk-begins v u level (rw (same c.nodes) refl) height (e ∙ kid-is);
  below = omega (arith, ap (λ (x : Visit). x.slot) e, is);
  level = ap (λ (x : Visit). x.level + 1) e ∙ height;
  root = e ∙ kid-is ∙ ap (λ l. kid v (start v) l 0) (sym (ap (λ (x : Visit). x.level) e));
}
  where
    v : View
    v = view_in c (slice_index image)

    height : level + 1 ≡ v.height
    height = ap (λ n. n + 1) (reads ∙ ap (λ k. level_of (node c (resolve (slice_index image)) k)) is)

    kid-is : record { slot = slot; level = level; low = None; high = None; up = c.nodes; index = 0 } ≡ kid v (start v) level 0
    kid-is = rw (same c.nodes) (ap (λ k. record { slot = k; level = level; low = None; high = None; up = c.nodes; index = 0 }) is)
