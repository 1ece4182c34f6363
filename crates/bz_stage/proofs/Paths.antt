-- The nodes on the way down to a key: each is the one of its level in whose range the key is.
use Rattle.std.proofs.Common.{◌≡◌, ◌≢◌, ℕ, zero, suc, ◌+◌, ◌-◌, ◌<◌, ◌≤◌, true, List, arith, refl, sym, ap, subst, ◌∙◌}
use Rattle.bz_tree.proofs.Descents.{chosen-high, chosen-low, pick-le, rises, unique}
use Rattle.bz_tree.proofs.TreeForms.{fits}
use Rattle.bz_tree.specs.Descent.{choice, descend, leaf_of}
use Rattle.bz_tree.specs.Form.{Fits, Form, IsHonest, Rises, Stands}
use Rattle.bz_tree.specs.Order.{is_at_least, is_below}
use Rattle.bz_tree.specs.Outcomes.{Moved}
use Rattle.bz_tree.specs.View.{View}
use Rattle.bz_tree.specs.Walk.{form}
use Rattle.bz_stage.specs.Laws.{PathsAreOfKeys}
use Rattle.bz_stage.specs.Paths.{on_path, StandsOver}

-- d levels down from a slot in whose range the key is
down : (v : View) (f : Form) (key : List ℕ) (d k m : ℕ) → IsHonest v → Fits v f → f.inside k ≡ true → f.level k ≡ m + d → is_at_least key (f.low k) ≡ true → is_below key (f.high k) ≡ true
    → StandsOver f key m (descend v key d k)
unfolding descend
down v f key zero k m ho g i l a b = record { inside = i; at_level = omega (arith, l); low = a; high = b }
down v f key (suc n) k m ho g i l a b =
    let inner : 0 < f.level k = omega (arith, l) in
    let r : Rises v k (f.low k) (f.high k) = rises v f k ho g i inner in
    let some : 0 < v.count k = r.some in
    let s : Stands v f k (choice v k key) (v.child k (choice v k key)) = g.down k (choice v k key) i inner (omega (arith, pick-le v k key (v.count k - 1))) in
    down v f key n (v.child k (choice v k key)) m ho g s.inside (omega (arith, s.level, l)) (rw s.low (chosen-low v k key (f.low k) a)) (rw s.high (chosen-high v k key (f.high k) some b))

pub path-found : (v : View) (f : Form) (key : List ℕ) (level : ℕ) → IsHonest v → Fits v f → level ≤ v.height → StandsOver f key level (on_path v key level)
path-found v f key level ho g le = down v f key (v.height - level) v.top level ho g g.top (omega (arith, g.height, le)) (rw g.top_low refl) (rw g.top_high refl)

pub path-unique : (v : View) (f : Form) (key : List ℕ) (level k : ℕ) → IsHonest v → Fits v f → level ≤ v.height → StandsOver f key level k → on_path v key level ≡ k
path-unique v f key level k ho g le s =
    let p : StandsOver f key level (on_path v key level) = path-found v f key level ho g le in
    unique v f key (v.height - level) (on_path v key level) k ho g p.inside s.inside (omega (arith, p.at_level, le)) (omega (arith, s.at_level, le)) p.low p.high s.low s.high

pub paths-are-of-keys : PathsAreOfKeys
paths-are-of-keys v key level k t le =
    (λ s. path-unique v (form v) key level k t.honest (fits v t) le s, λ e. subst (λ z. StandsOver (form v) key level z) e (path-found v (form v) key level t.honest (fits v t) le))

less-none : (n : ℕ) → n ≡ n - 0
less-none n = omega arith

-- the leaf is at the foot
pub leaf-on-path : (v : View) (key : List ℕ) → leaf_of v key ≡ on_path v key 0
leaf-on-path v key = ap (λ d. descend v key d v.top) (less-none v.height)

none-left : (a b : ℕ) → b ≤ a → b - a ≡ 0
none-left a b h = omega arith

-- above the root is the superblock alone
pub above-root : (v : View) (key : List ℕ) (level : ℕ) → v.height ≤ level → on_path v key level ≡ v.top
unfolding descend
above-root v key level h = ap (λ d. descend v key d v.top) (none-left level v.height h)

-- only the superblock is as high as the tree
pub below-top : (v : View) (f : Form) (key : List ℕ) (level k : ℕ) → Fits v f → level < v.height → StandsOver f key level k → k ≢ v.top
below-top v f key level k g lt s e = absurd (omega (arith, lt, s.at_level, g.height, ap f.level e))

-- a slot that stays stands where it stood
pub stays-over : (f h : Form) (key : List ℕ) (level k : ℕ) → Moved f h k → StandsOver f key level k → StandsOver h key level k
stays-over f h key level k m s = record { inside = m.inside; at_level = m.level ∙ s.at_level; low = rw m.low s.low; high = rw m.high s.high }

pub stood-over : (f h : Form) (key : List ℕ) (level k : ℕ) → Moved f h k → f.inside k ≡ true → StandsOver h key level k → StandsOver f key level k
stood-over f h key level k m i s = record { inside = i; at_level = sym m.level ∙ s.at_level; low = rw (← m.low) s.low; high = rw (← m.high) s.high }

-- the root is on the way to every key
pub root-on-path : (v : View) (f : Form) (key : List ℕ) (level : ℕ) → IsHonest v → Fits v f → level + 1 ≡ v.height → on_path v key level ≡ v.child v.top 0
root-on-path v f key level ho g e =
    let s : Stands v f v.top 0 (v.child v.top 0) = g.down v.top 0 g.top (omega (arith, g.height, g.tall)) (omega (arith, g.top_one)) in
    path-unique v f key level (v.child v.top 0) ho g (omega (arith, e))
    (record { inside = s.inside; at_level = omega (arith, s.level, g.height, e); low = rw (s.low, g.top_low) refl; high = rw (s.high, g.top_one, g.top_high) refl })
