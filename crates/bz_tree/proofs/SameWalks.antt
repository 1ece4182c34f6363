-- Where every reached inner slot is the same, the walk is the same.
use Rattle.std.proofs.Common.{◌≡◌, ℕ, zero, suc, ◌+◌, ◌<◌, ◌≤◌, ◌==◌, if◌then◌else◌, true, List, ◌∷◌, ◌++◌, arith, refl, ap, ◌∙◌, Option}
use Rattle.std.specs.Prelude.{Some}
use Rattle.bz_tree.specs.View.{View, low_at, high_at}
use Rattle.bz_tree.specs.Form.{Form, Fits}
use Rattle.bz_tree.specs.Walk.{Visit, kid, kids, over, visits, start, walk}
use Rattle.bz_tree.specs.Slots.{SameSlot, SameTop}
use Rattle.bz_tree.proofs.WalkBack.{Right, right-kid}

low-same : (v w : View) (k i : ℕ) (lo : Option (List ℕ)) → SameSlot v w k → low_at w k lo i ≡ low_at v k lo i
low-same v w k i lo s = ap (λ key. if i == 0 then lo else Some key) (s.key i)

high-same : (v w : View) (k i : ℕ) (hi : Option (List ℕ)) → SameSlot v w k → high_at w k hi i ≡ high_at v k hi i
high-same v w k i hi s = λ t. if i + 1 == s.count t then hi else Some (s.key (i + 1) t)

kid-same : (v w : View) (u : Visit) (l i : ℕ) → SameSlot v w u.slot → kid w u l i ≡ kid v u l i
kid-same v w u l i s = λ t. record {
  slot = s.child i t;
  level = l;
  low = low-same v w u.slot i u.low s t;
  high = high-same v w u.slot i u.high s t;
  up = u.slot;
  index = i;
}

over-same : (v w : View) (u : Visit) (l i n : ℕ) → SameSlot v w u.slot
    → ((j : ℕ) → i ≤ j → j < i + n → visits w l (kid v u l j) ≡ visits v l (kid v u l j))
    → over (visits w l) (kids w u l i n) ≡ over (visits v l) (kids v u l i n)
unfolding over kids
over-same v w u l i zero s each = refl
over-same v w u l i (suc n) s each =
    let first : visits w l (kid w u l i) ≡ visits v l (kid v u l i) = ap (visits w l) (kid-same v w u l i s) ∙ each i (omega arith) (omega arith) in
    let rest : over (visits w l) (kids w u l (i + 1) n) ≡ over (visits v l) (kids v u l (i + 1) n) = over-same v w u l (i + 1) n s (λ j a b. each j (omega arith) (omega arith)) in
    λ t. first t ++ rest t

visits-same : (v w : View) (f : Form) (l : ℕ) (u : Visit) → Fits v f → ((j : ℕ) → f.inside j ≡ true → 0 < f.level j → SameSlot v w j)
    → Right f u → u.level ≡ l → visits w l u ≡ visits v l u
unfolding visits
visits-same v w f zero u g same r e = refl
visits-same v w f (suc l) u g same r e =
    let s : SameSlot v w u.slot = same u.slot r.inside (omega (arith, r.level)) in
    let below : over (visits w l) (kids w u l 0 (v.count u.slot)) ≡ over (visits v l) (kids v u l 0 (v.count u.slot)) =
    over-same v w u l 0 (v.count u.slot) s (λ j a b. visits-same v w f l (kid v u l j) g same (right-kid v f l j u g r e (omega (arith, b))).0 refl) in
    ap (λ n. u ∷ over (visits w l) (kids w u l 0 n)) s.count ∙ ap (λ x. u ∷ x) below

pub walk-same : (v w : View) (f : Form) → Fits v f → SameTop v w → ((j : ℕ) → f.inside j ≡ true → 0 < f.level j → SameSlot v w j) → walk w ≡ walk v
walk-same v w f g top same =
    (λ t. visits w (top.height t) (record { slot = top.top t; level = top.height t; low = (start v).low; high = (start v).high; up = top.top t; index = 0 }))
    ∙ visits-same v w f v.height (start v) g same (record { inside = g.top; level = g.height; low = g.top_low; high = g.top_high }) refl
