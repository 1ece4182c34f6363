-- After a swap on one leaf the form fits as before, and the content changes at that leaf alone.
use Rattle.std.proofs.Common.{◌≡◌, ◌≢◌, ℕ, ◌+◌, ◌==◌, if◌then◌else◌, List, arith, sym, ap, subst, ◌∙◌, inl, inr}
use Rattle.std.specs.Prelude.{None}
use Rattle.std.proofs.lemmas.Bool.Decides.{nat_tests}
use Rattle.std.proofs.lemmas.Bool.{cases_eq}
use Rattle.bz_tree.proofs.Descents.{leaf-found, leaf-unique}
use Rattle.bz_tree.specs.Descent.{content, leaf_of}
use Rattle.bz_tree.specs.Form.{Fits, Form, Hangs, Holds, IsHonest, Stands}
use Rattle.bz_tree.specs.LeafSwap.{LeafSwap}
use Rattle.bz_tree.specs.Slots.{SameSlot, SameTop}
use Rattle.bz_tree.specs.View.{View}

-- a slot whose words stay keeps its children where they stand
pub stands-same : (v w : View) (f : Form) (k i : ℕ) → SameSlot v w k → Stands v f k i (v.child k i) → Stands w f k i (w.child k i)
stands-same v w f k i s h = rw (s.child i) (record { inside = h.inside; level = h.level; low = rw (s.key i) h.low; high = rw (s.count, s.key (i + 1)) h.high; up = h.up; index = h.index })

pub hangs-same : (v w : View) (f : Form) (k : ℕ) → SameTop v w → SameSlot v w (f.up k) → Hangs v f k → Hangs w f k
hangs-same v w f k a s h = record { inside = h.inside; inner = h.inner; within = rw s.count h.within; child = s.child (f.index k) ∙ h.child; lower = rw a.height h.lower }

pub fits-leaf : (v w : View) (f : Form) (k : ℕ) → Fits v f → LeafSwap v w f k → Fits w f
fits-leaf v w f k g c = record {
  top = rw c.same_top.top g.top;
  top_up = rw c.same_top.top g.top_up;
  top_low = rw c.same_top.top g.top_low;
  top_high = rw c.same_top.top g.top_high;
  top_one = rw c.same_top.top ((c.others v.top g.top not_top).count ∙ g.top_one);
  height = rw (c.same_top.top, c.same_top.height) g.height;
  tall = rw c.same_top.height g.tall;
  super = rw (c.same_top.top, c.same_top.height) ((c.others v.top g.top not_top).fault v.height None None g.super);
  whole = λ j i ne. elim (cases_eq j k) [ inl e ↦ subst (λ x. w.fault x (f.level x) (f.low x) (f.high x) ≡ None) (sym e) (rw c.leaf c.whole) | inr other ↦ (c.others j i other).fault _ _ _ (g.whole j i (λ e. ne (e ∙ sym c.same_top.top))) ];
  down = λ j i ins l lt. let s : SameSlot v w j = c.others j ins (λ e. absurd (omega (arith, c.leaf, ap f.level e))) in
      stands-same v w f j i s (g.down j i ins l (rw s.count at lt));
  hangs = λ j ins ne. let h : Hangs v f j = g.hangs j ins (λ e. ne (e ∙ sym c.same_top.top)) in
      hangs-same v w f j c.same_top (c.others (f.up j) h.inside (λ e. absurd (omega (arith, h.inner, c.leaf, ap f.level e)))) h;
}
  where
    not_top : v.top ≢ k
    not_top e = absurd (omega (arith, g.tall, g.height, c.leaf, ap f.level e))

-- what a swap on one leaf makes of the content
pub content-leaf : (v w : View) (f : Form) (k : ℕ) (key : List ℕ) → IsHonest v → IsHonest w → Fits v f → LeafSwap v w f k
    → content w key ≡ if leaf_of v key == k then w.found k key else content v key
content-leaf v w f k key hv hw g c =
    let h : Holds f key (leaf_of v key) = leaf-found v f key hv g in
    let same : leaf_of w key ≡ leaf_of v key = leaf-unique w f key (leaf_of v key) hw (fits-leaf v w f k g c) (record { inside = h.inside; leaf = h.leaf; low = h.low; high = h.high }) in
    rw (content, same) (elim (cases_eq (leaf_of v key) k) [ inl e ↦ grind (arith, nat_tests, ap (λ (x : ℕ). w.found x key) e) | inr ne ↦ grind (arith, nat_tests, (c.others (leaf_of v key) h.inside ne).found key) ])
