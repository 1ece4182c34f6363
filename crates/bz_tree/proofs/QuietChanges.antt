-- Where every reached slot says what it said, the tree is the same.
use Rattle.std.proofs.Common.{◌≡◌, ℕ, List, arith, sym, ap, ◌∙◌, inl, inr}
use Rattle.std.specs.Prelude.{None}
use Rattle.std.proofs.lemmas.Bool.{cases_eq}
use Rattle.bz_tree.proofs.Descents.{leaf-found, leaf-unique}
use Rattle.bz_tree.proofs.Frames.{tree}
use Rattle.bz_tree.proofs.LeafSwaps.{stands-same, hangs-same}
use Rattle.bz_tree.proofs.SameWalks.{walk-same}
use Rattle.bz_tree.proofs.TreeForms.{fits}
use Rattle.bz_tree.specs.Descent.{content, leaf_of}
use Rattle.bz_tree.specs.Form.{Fits, Form, Hangs, Holds}
use Rattle.bz_tree.specs.Outcomes.{SameTree}
use Rattle.bz_tree.specs.QuietSlots.{QuietSlots}
use Rattle.bz_tree.specs.Slots.{SameSlot}
use Rattle.bz_tree.specs.SwapLaws.{QuietSlotsKeepTheTree}
use Rattle.bz_tree.specs.View.{View}
use Rattle.bz_tree.specs.Walk.{form}

fits-quiet : (v w : View) (f : Form) → Fits v f → QuietSlots v w f → Fits w f
fits-quiet v w f g c = record {
  top = rw c.same_top.top g.top;
  top_up = rw c.same_top.top g.top_up;
  top_low = rw c.same_top.top g.top_low;
  top_high = rw c.same_top.top g.top_high;
  top_one = rw c.same_top.top (top.count ∙ g.top_one);
  height = rw (c.same_top.top, c.same_top.height) g.height;
  tall = rw c.same_top.height g.tall;
  super = rw (c.same_top.top, c.same_top.height) (top.fault v.height None None g.super);
  whole = λ j i ne. elim (cases_eq (f.level j) 0) [
    | inl e ↦ rw e (c.leaves j i e).whole
    | inr l ↦ (c.inner j i (omega (arith, l))).fault _ _ _ (g.whole j i (λ e. ne (e ∙ sym c.same_top.top)))
  ];
  down = λ j i ins l lt. let s : SameSlot v w j = c.inner j ins l in stands-same v w f j i s (g.down j i ins l (rw s.count at lt));
  hangs = λ j ins ne. let h : Hangs v f j = g.hangs j ins (λ e. ne (e ∙ sym c.same_top.top)) in hangs-same v w f j c.same_top (c.inner (f.up j) h.inside h.inner) h;
}
  where
    top : SameSlot v w v.top
    top = c.inner v.top g.top (omega (arith, g.height, g.tall))

pub quiet-slots : QuietSlotsKeepTheTree
quiet-slots v w t hw c = (same, record { tree = same.tree; content = content_same })
  where
    g : Fits v (form v)
    g = fits v t

    after : Fits w (form v)
    after = fits-quiet v w (form v) g c

    same : SameTree v w
    same = record {
      tree = tree w (form v) hw after;
      walk = walk-same v w (form v) g c.same_top c.inner;
      leaf = λ key. leaf-unique w (form v) key (leaf_of v key) hw after (leaf-found v (form v) key t.honest g);
    }

    content_same : (key : List ℕ) → content w key ≡ content v key
    content_same key =
        let at : Holds (form v) key (leaf_of v key) = leaf-found v (form v) key t.honest g in
        ap (λ k. w.found k key) (same.leaf key) ∙ (c.leaves (leaf_of v key) at.inside at.leaf).found key
