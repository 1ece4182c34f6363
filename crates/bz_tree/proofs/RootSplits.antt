-- A split of the root is a graft, and keeps the content.
use Rattle.std.proofs.Common.{◌≡◌, ◌≢◌, ℕ, ◌+◌, ◌<◌, ◌==◌, if◌then◌else◌, Bool, true, false, List, arith, refl, sym, ap, subst, ◌∙◌, inl, inr}
use Rattle.std.specs.Prelude.{Some, None}
use Rattle.std.proofs.lemmas.Bool.Decides.{nat_tests}
use Rattle.std.proofs.lemmas.Bool.{cases_eq, true≢false}
use Rattle.bz_tree.proofs.AfterSplits.{RootForm}
use Rattle.bz_tree.proofs.Contents.{Says, content-graft}
use Rattle.bz_tree.proofs.Descents.{Home, home}
use Rattle.bz_tree.proofs.Grafts.{Fresh, Graft}
use Rattle.bz_tree.proofs.Halves.{halves-hang, left-down, right-down}
use Rattle.bz_tree.specs.Descent.{content}
use Rattle.bz_tree.specs.Form.{Fits, Form, Holds, IsHonest, Stands}
use Rattle.bz_tree.specs.Order.{is_before}
use Rattle.bz_tree.specs.RootSplit.{RootSplit}
use Rattle.bz_tree.specs.View.{View}

pub graft-root : (v w : View) (f h : Form) (a q l r m : ℕ) (sep : List ℕ) → Fits v f → RootSplit v w f a q l r m sep → RootForm v w f h a q l r m sep → Graft v w f h (λ j. j == a) v.top 0 q
graft-root v w f h a q l r m sep g s t = record {
  same_top = s.top;
  taller = omega (arith, s.height);
  height = λ ne. absurd (ne refl);
  inside = g.top;
  inner = omega (arith, g.tall, g.height);
  within = omega (arith, g.top_one);
  stays_there = grind (arith, nat_tests, s.not_top);
  link = s.link;
  placed = record { inside = t.q_at.inside; level = rw (t.q_at.level, t.top_at.level) (sym s.height); low = t.q_at.low ∙ rw t.top_at.low refl; high = t.q_at.high ∙ sym (high_none (0 + 1 == w.count v.top)); up = t.q_at.up; index = t.q_at.index };
  cut = grind (arith, nat_tests, root_is);
  whole_cut = λ j ins gn ne. absurd (ne (grind (arith, nat_tests, root_is)));
  others = λ j ins gn far. s.others j ins (λ e. grind (arith, nat_tests)) far;
  top_stays = grind (arith, nat_tests, s.not_top);
  super = s.super;
  top = t.top_at;
  moved = λ j ins gn nt. let na : j ≢ a = (λ e. grind (arith, nat_tests)) in elim (cases_eq (f.up j) a) [ inl e ↦ t.halves.moved j ins nt e | inr ne ↦ (t.kept j ins na nt ne).moved ];
  stays = λ j ins gn gu nt. t.kept j ins (λ e. grind (arith, nat_tests)) nt (λ e. grind (arith, nat_tests));
  only = λ j ins. elim (t.only j ins) [
    | inl e ↦ inl (subst (λ x. Fresh w h x) (sym e) fresh_q)
    | inr o ↦ elim o [
      | inl e ↦ inl (subst (λ x. Fresh w h x) (sym e) fresh_l)
      | inr o2 ↦ elim o2 [ inl e ↦ inl (subst (λ x. Fresh w h x) (sym e) fresh_r) | inr k ↦ inr (k.0, grind (arith, nat_tests, k.1)) ]
    ]
  ];
  orphans = λ j ins gn gu nt. let e : f.up j ≡ a = grind (arith, nat_tests) in
      halves-hang v w f h a l r m j q 0 q 1 sep None (Some sep) (Some sep) None g (omega (arith, s.height)) s.inside (s.halves (subst (λ k. 0 < f.level k) e (home v f j g ins nt).hangs.inner)) t.halves t.l_at t.r_at ins nt e;
}
  where
    oa : Home v f a
    oa = home v f a g s.inside s.not_top

    first : f.index a ≡ 0
    first = omega (arith, oa.hangs.within, ap v.count s.root, g.top_one)

    root_is : v.child v.top 0 ≡ a
    root_is = (λ t. v.child (sym s.root t) (sym first t)) ∙ oa.hangs.child

    height_a : f.level a + 1 ≡ v.height
    height_a = oa.stands.level ∙ ap f.level s.root ∙ g.height

    low_a : f.low a ≡ None
    low_a = oa.stands.low ∙ rw (first, s.root) g.top_low

    one : (f.index a + 1 == v.count (f.up a)) ≡ true
    one = rw (first, s.root, g.top_one) refl

    high_a : f.high a ≡ None
    high_a = oa.stands.high ∙ rw one (ap f.high s.root ∙ g.top_high)

    high_none : (b : Bool) → (if 0 + 1 == w.count v.top then h.high v.top else Some (w.key v.top (0 + 1))) ≡ None
    high_none b = let e : (0 + 1 == w.count v.top) ≡ true = rw (s.link.count, g.top_one) refl in rw e t.top_at.high

    not_inside : (k : ℕ) → f.inside k ≡ false → k ≢ w.top
    not_inside k i e = true≢false (sym g.top ∙ ap f.inside (sym (e ∙ s.top)) ∙ i)

    q_not_l : (0 == w.count q) ≡ false
    q_not_l = rw s.two.count refl

    fresh_q : Fresh w h q
    fresh_q = record {
      not_top = not_inside q s.fresh_q;
      whole = rw (t.q_at.level, t.q_at.low, t.q_at.high) s.whole_q;
      hangs = record { inside = rw t.q_at.up t.top_at.inside; inner = rw (t.q_at.up, t.top_at.level, s.height) (omega arith); within = rw (t.q_at.up, t.q_at.index, s.link.count, g.top_one) (omega arith); child = rw (t.q_at.up, t.q_at.index, s.link.child 0) refl; lower = rw (t.q_at.level, s.height) (omega arith) };
      down = λ i l0 lt. elim (cases_eq i 0) [ inl e ↦ rw e (rw s.two.child_l at_l) | inr ne ↦ let e : i ≡ 1 = omega (arith, lt, s.two.count) in rw e (rw s.two.child_r at_r) ];
    }
      where
        at_l : Stands w h q 0 l
        at_l = record { inside = t.l_at.inside; level = rw (t.l_at.level, t.q_at.level) height_a; low = t.l_at.low ∙ sym t.q_at.low; high = rw (t.l_at.high, s.two.count, s.two.parted) refl; up = t.l_at.up; index = t.l_at.index }

        at_r : Stands w h q 1 r
        at_r = record { inside = t.r_at.inside; level = rw (t.r_at.level, t.q_at.level) height_a; low = rw (t.r_at.low, s.two.parted) refl; high = t.r_at.high ∙ sym (rw s.two.count t.q_at.high); up = t.r_at.up; index = t.r_at.index }

    fresh_l : Fresh w h l
    fresh_l = record {
      not_top = not_inside l s.fresh_l;
      whole = rw (t.l_at.level, t.l_at.low, t.l_at.high) s.whole_l;
      hangs = record { inside = rw t.l_at.up t.q_at.inside; inner = rw (t.l_at.up, t.q_at.level) (omega (arith, height_a)); within = rw (t.l_at.up, t.l_at.index, s.two.count) (omega arith); child = rw (t.l_at.up, t.l_at.index) s.two.child_l; lower = omega (arith, t.l_at.level, s.height, height_a) };
      down = λ i l0 lt. let inner : 0 < f.level a = rw t.l_at.level at l0 in left-down v w f h a l r m i q 0 sep g s.inside inner (s.halves inner) t.halves (record { inside = t.l_at.inside; level = t.l_at.level; low = t.l_at.low ∙ sym low_a; high = t.l_at.high; up = t.l_at.up; index = t.l_at.index }) lt;
    }

    fresh_r : Fresh w h r
    fresh_r = record {
      not_top = not_inside r s.fresh_r;
      whole = rw (t.r_at.level, t.r_at.low, t.r_at.high) s.whole_r;
      hangs = record { inside = rw t.r_at.up t.q_at.inside; inner = rw (t.r_at.up, t.q_at.level) (omega (arith, height_a)); within = rw (t.r_at.up, t.r_at.index, s.two.count) (omega arith); child = rw (t.r_at.up, t.r_at.index) s.two.child_r; lower = omega (arith, t.r_at.level, s.height, height_a) };
      down = λ i l0 lt. let inner : 0 < f.level a = rw t.r_at.level at l0 in right-down v w f h a l r m i q 1 sep g s.inside inner (s.halves inner) t.halves (record { inside = t.r_at.inside; level = t.r_at.level; low = t.r_at.low; high = t.r_at.high ∙ sym high_a; up = t.r_at.up; index = t.r_at.index }) lt;
    }

pub content-root : (v w : View) (f h : Form) (a q l r m : ℕ) (sep key : List ℕ) → IsHonest v → IsHonest w → Fits v f → RootSplit v w f a q l r m sep → RootForm v w f h a q l r m sep
    → (f.level a ≡ 0 → is_before key sep ≡ true → w.found l key ≡ v.found a key) → (f.level a ≡ 0 → is_before key sep ≡ false → w.found r key ≡ v.found a key) → content w key ≡ content v key
content-root v w f h a q l r m sep key hv hw g s t left right =
    content-graft v w f h (λ j. j == a) v.top 0 q key hv hw g (graft-root v w f h a q l r m sep g s t) carries
  where
    carries : (k : ℕ) → Holds f key k → (k == a) ≡ true → (n : ℕ) × Says v w h key k n
    carries k at gone = let e : k ≡ a = grind (arith, nat_tests) in go (is_before key sep) refl (subst (λ x. Holds f key x) e at) e
      where
        go : (b : Bool) → is_before key sep ≡ b → Holds f key a → k ≡ a → (n : ℕ) × Says v w h key k n
        go true q fa e = (l, record { there = record { inside = t.l_at.inside; leaf = t.l_at.level ∙ fa.leaf; low = rw t.l_at.low refl; high = rw t.l_at.high q }; same = left fa.leaf q ∙ ap (λ x. v.found x key) (sym e) })
        go false q fa e = (r, record { there = record { inside = t.r_at.inside; leaf = t.r_at.level ∙ fa.leaf; low = rw (t.r_at.low, q) refl; high = rw t.r_at.high refl }; same = right fa.leaf q ∙ ap (λ x. v.found x key) (sym e) })
