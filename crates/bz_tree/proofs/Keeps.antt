-- Slots that a swap leaves in their place, and the one that a link is turned to.
use Rattle.std.proofs.Common.{◌≡◌, ◌≢◌, ℕ, ◌+◌, ◌<◌, ◌≤◌, List, arith, refl, sym, Option}
use Rattle.std.proofs.lemmas.Bool.Decides.{nat_tests}
use Rattle.bz_tree.proofs.Places.{Placed}
use Rattle.bz_tree.specs.Outcomes.{Moved, Stays}
use Rattle.bz_tree.specs.Form.{Form, Hangs, Stands}
use Rattle.bz_tree.specs.Slots.{Relinked, SameSlot, SameTop}
use Rattle.bz_tree.specs.View.{View, high_at, low_at}

-- a slot whose words stay, with a child that stays
pub stands-kept : (v w : View) (f h : Form) (k i : ℕ) → SameSlot v w k → Moved f h k → Stays f h (v.child k i) → Stands v f k i (v.child k i) → Stands w h k i (w.child k i)
stands-kept v w f h k i s m c st = rw (s.child i) (record {
  inside = c.moved.inside;
  level = rw (c.moved.level, m.level) st.level;
  low = rw (c.moved.low, m.low, s.key i) st.low;
  high = rw (c.moved.high, m.high, s.count, s.key (i + 1)) st.high;
  up = rw c.up st.up;
  index = rw c.index st.index;
})

pub hangs-kept : (v w : View) (f h : Form) (j : ℕ) → v.height ≤ w.height → SameSlot v w (f.up j) → Moved f h (f.up j) → Stays f h j → Hangs v f j → Hangs w h j
hangs-kept v w f h j a s m c g = record {
  inside = rw c.up m.inside;
  inner = rw (c.up, m.level) g.inner;
  within = rw (c.up, c.index, s.count) g.within;
  child = rw (c.up, c.index, s.child) g.child;
  lower = omega (arith, c.moved.level, g.lower);
}

-- the child that was put at place i of slot p
pub stands-new : (v w : View) (f h : Form) (p i c level : ℕ) → Relinked v w f p i c → Moved f h p → f.level p ≡ level + 1 → Placed h c level (low_at v p (f.low p) i) (high_at v p (f.high p) i) p i → Stands w h p i c
stands-new v w f h p i c level r m l s = record {
  inside = s.inside;
  level = rw (s.level, m.level) (sym l);
  low = rw (s.low, m.low, r.key i) refl;
  high = rw (s.high, m.high, r.count, r.key (i + 1)) refl;
  up = s.up;
  index = s.index;
}

-- and the others
pub stands-beside : (v w : View) (f h : Form) (p i c j : ℕ) → Relinked v w f p i c → Moved f h p → j ≢ i → Stays f h (v.child p j) → Stands v f p j (v.child p j) → Stands w h p j (w.child p j)
stands-beside v w f h p i c j r m ne s st =
    let e : w.child p j ≡ v.child p j = grind (arith, nat_tests, r.child j) in
    rw e (record {
      inside = s.moved.inside;
      level = rw (s.moved.level, m.level) st.level;
      low = rw (s.moved.low, m.low, r.key j) st.low;
      high = rw (s.moved.high, m.high, r.count, r.key (j + 1)) st.high;
      up = rw s.up st.up;
      index = rw s.index st.index;
    })

pub hangs-beside : (v w : View) (f h : Form) (i c j : ℕ) → v.height ≤ w.height → Relinked v w f (f.up j) i c → f.index j ≢ i → Moved f h (f.up j) → Stays f h j → Hangs v f j → Hangs w h j
hangs-beside v w f h i c j a r ne m s g =
    let e : w.child (f.up j) (f.index j) ≡ v.child (f.up j) (f.index j) = grind (arith, nat_tests, r.child (f.index j)) in
    record {
      inside = rw s.up m.inside;
      inner = rw (s.up, m.level) g.inner;
      within = rw (s.up, s.index, r.count) g.within;
      child = rw (s.up, s.index, e) g.child;
      lower = omega (arith, s.moved.level, g.lower);
    }

pub hangs-new : (v w : View) (f h : Form) (p i c level : ℕ) (lo hi : Option (List ℕ)) → SameTop v w → Relinked v w f p i c → Moved f h p → 0 < f.level p → i < v.count p → Placed h c level lo hi p i → level < v.height → Hangs w h c
hangs-new v w f h p i c level lo hi a r m inner lt s lower = record {
  inside = rw s.up m.inside;
  inner = rw (s.up, m.level) inner;
  within = rw (s.up, s.index, r.count) lt;
  child = rw (s.up, s.index, r.child i) (grind (arith, nat_tests));
  lower = rw (a.height, s.level) lower;
}
