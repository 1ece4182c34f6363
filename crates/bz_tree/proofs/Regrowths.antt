-- Which slots are reached after a graft, and where those that stay stand.
use Rattle.std.proofs.Common.{◌≡◌, ◌≢◌, ℕ, ◌||◌, ◌&&◌, ◌⊎◌, Bool, true, false, List, arith, refl, ap, ◌∙◌, inl, inr}
use Rattle.std.specs.Prelude.{not}
use Rattle.std.proofs.lemmas.Bool.{cases_eq}
use Rattle.bz_tree.specs.View.{View}
use Rattle.bz_tree.specs.Form.{Form, Fits, IsHonest}
use Rattle.bz_tree.specs.Descent.{content}
use Rattle.bz_tree.specs.Walk.{is_among, form}
use Rattle.bz_tree.specs.Outcomes.{Moved, Agree, Exchanges, Regrows}
use Rattle.bz_tree.proofs.Frames.{tree}
use Rattle.bz_tree.proofs.Grafts.{Graft}
use Rattle.bz_tree.proofs.SameForms.{form-same, same-test}

-- a graft told by the lists of its slots
pub record Lists (v : View) (f h : Form) (cut : ℕ → Bool) (gone new : List ℕ) : Type 0 where
  pub cut_only : (j : ℕ) → is_among gone j ≡ false → cut j ≡ false
  pub placed : (j : ℕ) → is_among new j ≡ true → h.inside j ≡ true
  pub only : (j : ℕ) → h.inside j ≡ true → (is_among new j ≡ true) ⊎ ((f.inside j ≡ true) × (is_among gone j ≡ false))

either : (a b : Bool) → a ≡ true → a || b ≡ true
either true b e = refl
either false b e = absurd (grind (arith, e))

both : (a b c : Bool) → b ≡ true → c ≡ false → a || (b && not c) ≡ true
both true b c e g = refl
both false true false e g = refl
both false true true e g = absurd (grind (arith, g))
both false false c e g = absurd (grind (arith, e))

one-of : (a b c : Bool) → a || (b && not c) ≡ true → (a ≡ true) ⊎ ((b ≡ true) × (c ≡ false))
one-of true b c e = inl refl
one-of false true false e = inr (refl, refl)
one-of false true true e = absurd (grind (arith, e))
one-of false false c e = absurd (grind (arith, e))

pub exchanged : (v w : View) (h : Form) (cut : ℕ → Bool) (gone new : List ℕ) (g x c : ℕ) → Fits w h → Graft v w (form v) h cut g x c → Lists v (form v) h cut gone new
    → Exchanges v w gone new
exchanged v w h cut gone new g x c fit r l = record {
  reached = λ j. (agree.inside j) ∙ same-test (h.inside j) (is_among new j || ((form v).inside j && not (is_among gone j))) (to j) (from j);
  stays = stays;
}
  where
    agree : Agree w h (form w)
    agree = form-same w h fit

    kept : (j : ℕ) → (form v).inside j ≡ true → is_among gone j ≡ false → h.inside j ≡ true
    kept j i far = elim (cases_eq j v.top) [ inl e ↦ ap h.inside e ∙ r.top.inside | inr n ↦ (r.moved j i (l.cut_only j far) n).inside ]

    to : (j : ℕ) → h.inside j ≡ true → is_among new j || ((form v).inside j && not (is_among gone j)) ≡ true
    to j i = elim (l.only j i) [ inl e ↦ either (is_among new j) _ e | inr (was, far) ↦ both (is_among new j) ((form v).inside j) (is_among gone j) was far ]

    from : (j : ℕ) → is_among new j || ((form v).inside j && not (is_among gone j)) ≡ true → h.inside j ≡ true
    from j e = elim (one-of (is_among new j) ((form v).inside j) (is_among gone j) e) [ inl n ↦ l.placed j n | inr (was, far) ↦ kept j was far ]

    stays : (j : ℕ) → (form v).inside j ≡ true → is_among gone j ≡ false → j ≢ v.top → Moved (form v) (form w) j
    stays j i far n =
        let m : Moved (form v) h j = r.moved j i (l.cut_only j far) n in
        let a : Moved h (form w) j = agree.moved j m.inside in
        record { inside = a.inside; level = a.level ∙ m.level; low = a.low ∙ m.low; high = a.high ∙ m.high }

-- a graft whose fresh leaves say what the old ones said
pub regrown : (v w : View) (h : Form) (cut : ℕ → Bool) (gone new : List ℕ) (g x c : ℕ) → IsHonest w → Fits w h → Graft v w (form v) h cut g x c → Lists v (form v) h cut gone new
    → ((key : List ℕ) → content w key ≡ content v key) → Regrows v w gone new
regrown v w h cut gone new g x c hw fit r l same =
    record { content = record { tree = tree w h hw fit; content = same }; slots = exchanged v w h cut gone new g x c fit r l }
