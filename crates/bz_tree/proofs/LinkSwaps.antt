-- After a swap of one link, which takes slots away and puts fresh ones there, the new form fits.
use Rattle.std.proofs.Common.{◌≡◌, ◌≢◌, ℕ, ◌<◌, ◌≤◌, Bool, true, false, arith, refl, sym, ap, subst, ◌∙◌, inl, inr}
use Rattle.std.specs.Prelude.{None}
use Rattle.std.proofs.lemmas.Bool.Decides.{nat_tests}
use Rattle.std.proofs.lemmas.Bool.{cases_eq, true≢false}
use Rattle.bz_tree.proofs.Descents.{Home, home}
use Rattle.bz_tree.proofs.Grafts.{Graft}
use Rattle.bz_tree.proofs.Keeps.{hangs-beside, hangs-kept, stands-beside, stands-kept}
use Rattle.bz_tree.specs.Outcomes.{Moved, Stays}
use Rattle.bz_tree.specs.Form.{Fits, Form, Hangs, Stands}
use Rattle.bz_tree.specs.Slots.{Relinked, SameSlot}
use Rattle.bz_tree.specs.View.{View}

pub fits-graft : (v w : View) (f h : Form) (gone : ℕ → Bool) (g x c : ℕ) → Fits v f → Graft v w f h gone g x c → Fits w h
fits-graft v w f h gone g x c fit r = record {
  top = rw r.same_top r.top.inside;
  top_up = rw (r.same_top, r.top.up) refl;
  top_low = rw (r.same_top, r.top.low) refl;
  top_high = rw (r.same_top, r.top.high) refl;
  top_one = rw r.same_top (elim (cases_eq v.top g) [ inl e ↦ subst (λ x. w.count x ≡ 1) (sym e) (r.link.count ∙ subst (λ x. v.count x ≡ 1) e fit.top_one) | inr ne ↦ (r.others v.top fit.top r.top_stays ne).count ∙ fit.top_one ]);
  height = rw (r.same_top, r.top.level) refl;
  tall = omega (arith, r.taller, fit.tall);
  super = rw r.same_top r.super;
  whole = λ j i ne. elim (r.only j i) [
    | inl e ↦ e.whole
    | inr (ins, here) ↦ let nt : j ≢ v.top = λ q. ne (q ∙ sym r.same_top) in
        let s : Moved f h j = r.moved j ins here nt in rw (s.level, s.low, s.high)
        (elim (cases_eq j g) [
          | inl e ↦ subst (λ x. w.fault x (f.level x) (f.low x) (f.high x) ≡ None) (sym e) r.link.whole
          | inr far ↦ (r.others j ins here far).fault _ _ _ (fit.whole j ins nt)
        ])
  ];
  down = λ j i ins l lt. elim (r.only j ins) [ inl e ↦ e.down i l lt | inr (was, here) ↦ kept_down j i was here l lt ];
  hangs = λ j ins ne. elim (r.only j ins) [ inl e ↦ e.hangs | inr (was, here) ↦ kept_hangs j was here (λ e. ne (e ∙ sym r.same_top)) ];
}
  where
    moved_all : (j : ℕ) → f.inside j ≡ true → gone j ≡ false → g ≢ v.top → Moved f h j
    moved_all j ins here ng = elim (cases_eq j v.top) [
      | inl e ↦ rw e (record { inside = r.top.inside; level = r.top.level ∙ r.height ng ∙ sym fit.height; low = r.top.low ∙ sym fit.top_low; high = r.top.high ∙ sym fit.top_high })
      | inr nt ↦ r.moved j ins here nt
    ]

    -- a child of a slot that is kept, but the link, stays
    child_stays : (j i : ℕ) → f.inside j ≡ true → gone j ≡ false → Stands v f j i (v.child j i) → v.child j i ≢ v.child g x → Stays f h (v.child j i)
    child_stays j i ins here st ne =
        let ct : v.child j i ≢ v.top = λ e. absurd (omega (arith, st.level, ap f.level e, fit.height, lower j ins)) in
        r.stays (v.child j i) st.inside (not_gone (gone (v.child j i)) (λ p. r.whole_cut (v.child j i) st.inside p ne) (rw st.up here)) (rw st.up here) ct
      where
        lower : (k : ℕ) → f.inside k ≡ true → f.level k ≤ v.height
        lower k i = elim (cases_eq k v.top) [ inl e ↦ omega (arith, ap f.level e, fit.height) | inr n ↦ omega (arith, (fit.hangs k i n).lower) ]

        not_gone : (b : Bool) → (b ≡ true → gone (f.up (v.child j i)) ≡ true) → gone (f.up (v.child j i)) ≡ false → b ≡ false
        not_gone true p q = absurd (grind (arith, p refl))
        not_gone false p q = refl

    other_child : (j i : ℕ) → f.inside j ≡ true → j ≢ g → Stands v f j i (v.child j i) → v.child j i ≢ v.child g x
    other_child j i ins far st e = far (sym st.up ∙ ap f.up e ∙ (fit.down g x r.inside r.inner r.within).up)

    moved_other : (j : ℕ) → f.inside j ≡ true → gone j ≡ false → j ≢ g → Moved f h j
    moved_other j ins here far = elim (cases_eq j v.top) [ inl e ↦ moved_all j ins here (λ q. far (e ∙ sym q)) | inr nt ↦ r.moved j ins here nt ]

    link_down : (i : ℕ) → i < w.count g → Stands w h g i (w.child g i)
    link_down i lt = elim (cases_eq i x) [
      | inl e ↦ subst (λ y. Stands w h g y (w.child g y)) (sym e) (let t : w.child g x ≡ c = grind (arith, nat_tests, r.link.child x) in rw t r.placed)
      | inr ne ↦
          let was : i < v.count g = rw r.link.count at lt in
          let st : Stands v f g i (v.child g i) = fit.down g i r.inside r.inner was in
          let ng : g ≢ v.top = λ e. ne (omega (arith, was, r.within, ap v.count e, fit.top_one)) in
          stands-beside v w f h g x c i r.link (moved_all g r.inside r.stays_there ng) ne
          (child_stays g i r.inside r.stays_there st (λ e. ne (sym st.index ∙ ap f.index e ∙ (fit.down g x r.inside r.inner r.within).index))) st
    ]

    kept_down : (j i : ℕ) → f.inside j ≡ true → gone j ≡ false → 0 < h.level j → i < w.count j → Stands w h j i (w.child j i)
    kept_down j i ins here l lt = elim (cases_eq j g) [
      | inl e ↦ subst (λ x. Stands w h x i (w.child x i)) (sym e) (link_down i (subst (λ x. i < w.count x) e lt))
      | inr far ↦ let m : Moved f h j = moved_other j ins here far in
          let s : SameSlot v w j = r.others j ins here far in
          let st : Stands v f j i (v.child j i) = fit.down j i ins (rw m.level at l) (rw s.count at lt) in
          stands-kept v w f h j i s m (child_stays j i ins here st (other_child j i ins far st)) st
    ]

    kept_hangs : (j : ℕ) → f.inside j ≡ true → gone j ≡ false → j ≢ v.top → Hangs w h j
    kept_hangs j ins here ne = go (gone (f.up j)) refl
      where
        o : Home v f j
        o = home v f j fit ins ne

        go : (b : Bool) → gone (f.up j) ≡ b → Hangs w h j
        go true e = r.orphans j ins here e ne
        go false e = elim (cases_eq (f.up j) g) [
          | inl q ↦ let ni : f.index j ≢ x = λ p. absurd (true≢false (sym r.cut ∙ ap gone ((λ t. v.child (sym q t) (sym p t)) ∙ o.hangs.child) ∙ here)) in
              let ng : g ≢ v.top = λ p. ni (omega (arith, o.hangs.within, r.within, ap v.count q, ap v.count p, fit.top_one)) in
              hangs-beside v w f h x c j r.taller (subst (λ y. Relinked v w f y x c) (sym q) r.link) ni (subst (λ y. Moved f h y) (sym q) (moved_all g r.inside r.stays_there ng)) (r.stays j ins here e ne) o.hangs
          | inr far ↦ hangs-kept v w f h j r.taller (r.others (f.up j) o.hangs.inside e far) (moved_other (f.up j) o.hangs.inside e far) (r.stays j ins here e ne) o.hangs
        ]
