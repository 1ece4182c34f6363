-- The nodes on the way to a key after a swap that exchanges slots: those that stay are on it as before, and in the place of one that
-- goes is a new one.
use Rattle.std.proofs.Common.{◌≡◌, ◌≢◌, ℕ, ◌<◌, ◌≤◌, ◌||◌, ◌&&◌, ◌⊎◌, Bool, true, false, List, arith, refl, sym, ap, ◌∙◌, inl, inr}
use Rattle.std.specs.Prelude.{not}
use Rattle.std.proofs.lemmas.Bool.{true≢false}
use Rattle.bz_tree.proofs.TreeForms.{fits}
use Rattle.bz_tree.specs.Form.{Fits}
use Rattle.bz_tree.specs.Outcomes.{Exchanges, Moved}
use Rattle.bz_tree.specs.View.{View}
use Rattle.bz_tree.specs.Walk.{form, is_among, IsTree}
use Rattle.bz_stage.proofs.Paths.{path-found, path-unique, below-top, stays-over, stood-over}
use Rattle.bz_stage.specs.Paths.{on_path, StandsOver}

one-of : (a b c : Bool) → a || (b && not c) ≡ true → (a ≡ true) ⊎ ((b ≡ true) × (c ≡ false))
one-of true b c e = inl refl
one-of false true false e = inr (refl, refl)
one-of false true true e = absurd (grind (arith, e))
one-of false false c e = absurd (grind (arith, e))

module _ (v w : View) (gone new : List ℕ) (t : IsTree v) (u : IsTree w) (top : w.top ≡ v.top) (ex : Exchanges v w gone new) (key : List ℕ) (level : ℕ) where
  pub path-stays : level < v.height → level ≤ w.height → is_among gone (on_path v key level) ≡ false → on_path w key level ≡ on_path v key level
  path-stays lt le far =
      let g : Fits v (form v) = fits v t in
      let s : StandsOver (form v) key level (on_path v key level) = path-found v (form v) key level t.honest g (omega (arith, lt)) in
      let m : Moved (form v) (form w) (on_path v key level) = ex.stays (on_path v key level) s.inside far (below-top v (form v) key level (on_path v key level) g lt s) in
      path-unique w (form w) key level (on_path v key level) u.honest (fits w u) le (stays-over (form v) (form w) key level (on_path v key level) m s)

  pub path-changes : level ≤ v.height → level < w.height → is_among gone (on_path v key level) ≡ true → is_among new (on_path w key level) ≡ true
  path-changes le lt cut = elim (one-of (is_among new k) ((form v).inside k) (is_among gone k) (sym (ex.reached k) ∙ s.inside)) [ inl e ↦ e | inr (was, far) ↦ absurd (stayed was far) ]
    where
      k : ℕ
      k = on_path w key level

      h : Fits w (form w)
      h = fits w u

      s : StandsOver (form w) key level k
      s = path-found w (form w) key level u.honest h (omega (arith, lt))

      k_below : k ≢ v.top
      k_below e = below-top w (form w) key level k h lt s (e ∙ sym top)

      stayed : (form v).inside k ≡ true → is_among gone k ≡ false → ⊥
      stayed was far =
          let m : Moved (form v) (form w) k = ex.stays k was far k_below in
          let same : on_path v key level ≡ k = path-unique v (form v) key level k t.honest (fits v t) le (stood-over (form v) (form w) key level k m was s) in
          true≢false (sym cut ∙ ap (is_among gone) same ∙ far)
