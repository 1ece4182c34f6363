-- A consolidation is a graft, and keeps the content.
use Rattle.std.proofs.Common.{◌≡◌, ◌≢◌, ℕ, ◌≤◌, ◌==◌, ◌⊎◌, true, false, List, arith, sym, ap, ◌∙◌, inl, inr, subst}
use Rattle.std.specs.Prelude.{None}
use Rattle.std.proofs.lemmas.Bool.Decides.{nat_tests}
use Rattle.std.proofs.lemmas.Bool.{cases_eq, true≢false}
use Rattle.bz_tree.proofs.Contents.{content-graft}
use Rattle.bz_tree.proofs.Descents.{Home, home}
use Rattle.bz_tree.proofs.Grafts.{Fresh, Graft}
use Rattle.bz_tree.proofs.Keeps.{hangs-new, stands-new}
use Rattle.bz_tree.proofs.Places.{Placed, placed, placed-same, without}
use Rattle.bz_tree.specs.Outcomes.{Stays}
use Rattle.bz_tree.specs.Consolidation.{Consolidation}
use Rattle.bz_tree.specs.Descent.{content}
use Rattle.bz_tree.specs.Form.{Fits, Form, Holds, IsHonest}
use Rattle.bz_tree.specs.View.{View}

pub record Renewed (f h : Form) (old new : ℕ) : Type 0 where
  pub placed : Placed h new (f.level old) (f.low old) (f.high old) (f.up old) (f.index old)
  pub kept : (j : ℕ) → f.inside j ≡ true → j ≢ old → Stays f h j
  pub only : (j : ℕ) → h.inside j ≡ true → (j ≡ new) ⊎ ((f.inside j ≡ true) × (j ≢ old))

abbrev pub renewed : Form → ℕ → ℕ → Form
renewed f old new = placed (without f old) new (f.level old) (f.low old) (f.high old) (f.up old) (f.index old)

pub renewed-form : (f : Form) (old new : ℕ) → f.inside new ≡ false → Renewed f (renewed f old new) old new
renewed-form f old new fresh = record {
  placed = placed-same (without f old) new (f.level old) (f.up old) (f.index old) (f.low old) (f.high old);
  kept = λ j ins ne. let n : j ≢ new = λ e. true≢false (sym ins ∙ ap f.inside e ∙ fresh) in record {
    moved = record { inside = grind (arith, nat_tests); level = grind (arith, nat_tests); low = grind (arith, nat_tests); high = grind (arith, nat_tests) };
    up = grind (arith, nat_tests);
    index = grind (arith, nat_tests);
  };
  only = λ j ins. elim (cases_eq j new) [ inl e ↦ inl e | inr ne ↦ inr (elim (cases_eq j old) [ inl e ↦ absurd (grind (arith, nat_tests)) | inr ne2 ↦ (grind (arith, nat_tests), ne2) ]) ];
}

-- a leaf made anew (or an inner slot with one leaf for another): the same as a graft
pub graft-renew : (v w : View) (f h : Form) (old new : ℕ) → Fits v f → Consolidation v w f old new → Renewed f h old new → Graft v w f h (λ j. j == old) (f.up old) (f.index old) new
graft-renew v w f h old new g c r = record {
  same_top = c.same_top.top;
  taller = tall;
  height = λ ne. c.same_top.height;
  inside = o.hangs.inside;
  inner = o.hangs.inner;
  within = o.hangs.within;
  stays_there = grind (arith, nat_tests, up_other);
  link = c.link;
  placed = stands-new v w f h (f.up old) (f.index old) new (f.level old) c.link up_stays.moved (sym o.stands.level)
      (record { inside = r.placed.inside; level = r.placed.level; low = r.placed.low ∙ o.stands.low; high = r.placed.high ∙ o.stands.high; up = r.placed.up; index = r.placed.index });
  cut = rw o.hangs.child (grind (arith, nat_tests));
  whole_cut = λ j ins gn ne. absurd (ne (grind (arith, nat_tests, o.hangs.child)));
  others = λ j ins gn far. c.others j ins (λ e. grind (arith, nat_tests)) far;
  top_stays = grind (arith, nat_tests, not_old);
  super = super;
  top = record { inside = top_kept.moved.inside; level = top_kept.moved.level ∙ g.height ∙ sym c.same_top.height; low = top_kept.moved.low ∙ g.top_low; high = top_kept.moved.high ∙ g.top_high; up = top_kept.up ∙ g.top_up; index = top_kept.index };
  moved = λ j ins gn nt. (r.kept j ins (λ e. grind (arith, nat_tests))).moved;
  stays = λ j ins gn gu nt. r.kept j ins (λ e. grind (arith, nat_tests));
  only = λ j ins. elim (r.only j ins) [ inl e ↦ inl (subst (λ x. Fresh w h x) (sym e) fresh) | inr k ↦ inr (k.0, grind (arith, nat_tests, k.1)) ];
  orphans = λ j ins gn gu nt. absurd (let e : f.up j ≡ old = grind (arith, nat_tests) in omega (arith, (home v f j g ins nt).hangs.inner, c.leaf, ap f.level e));
}
  where
    not_old : v.top ≢ old
    not_old e = absurd (omega (arith, g.tall, g.height, c.leaf, ap f.level e))

    o : Home v f old
    o = home v f old g c.inside (λ e. not_old (sym e))

    up_other : f.up old ≢ old
    up_other e = absurd (omega (arith, o.hangs.inner, c.leaf, ap f.level e))

    up_stays : Stays f h (f.up old)
    up_stays = r.kept (f.up old) o.hangs.inside up_other

    top_kept : Stays f h v.top
    top_kept = r.kept v.top g.top not_old

    tall : v.height ≤ w.height
    tall = omega (arith, c.same_top.height)

    super : w.fault v.top w.height None None ≡ None
    super = rw c.same_top.height (elim (cases_eq (f.up old) v.top) [
      | inl e ↦ let x : w.fault v.top (f.level v.top) (f.low v.top) (f.high v.top) ≡ None = subst (λ k. w.fault k (f.level k) (f.low k) (f.high k) ≡ None) e c.link.whole in rw (g.height, g.top_low, g.top_high) at x
      | inr n ↦ (c.others v.top g.top not_old (λ e. n (sym e))).fault v.height None None g.super
    ])

    fresh : Fresh w h new
    fresh = record {
      not_top = λ e. true≢false (sym g.top ∙ ap f.inside (sym (e ∙ c.same_top.top)) ∙ c.fresh);
      whole = rw (r.placed.level, r.placed.low, r.placed.high, c.leaf) c.whole;
      hangs = hangs-new v w f h (f.up old) (f.index old) new (f.level old) (f.low old) (f.high old) c.same_top c.link up_stays.moved o.hangs.inner o.hangs.within r.placed o.hangs.lower;
      down = λ i l0 lt. absurd (omega (arith, l0, r.placed.level, c.leaf));
    }

pub content-renew : (v w : View) (f h : Form) (old new : ℕ) (key : List ℕ) → IsHonest v → IsHonest w → Fits v f → Consolidation v w f old new → Renewed f h old new
    → w.found new key ≡ v.found old key → content w key ≡ content v key
content-renew v w f h old new key hv hw g c r same =
    content-graft v w f h (λ j. j == old) (f.up old) (f.index old) new key hv hw g (graft-renew v w f h old new g c r)
    (λ k at gone. let e : k ≡ old = grind (arith, nat_tests) in let there : Holds f key old = subst (λ x. Holds f key x) e at in
    (new, record { there = record { inside = r.placed.inside; leaf = r.placed.level ∙ c.leaf; low = rw r.placed.low there.low; high = rw r.placed.high there.high }; same = same ∙ ap (λ x. v.found x key) (sym e) }))
