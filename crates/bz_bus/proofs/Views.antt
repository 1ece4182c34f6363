-- What holds of each view, or of some, once one view is set or one more is there.
use Rattle.std.proofs.Common.{◌≡◌, ◌≢◌, ℕ, zero, suc, ◌<◌, ◌⊎◌, ⊎_elim, inl, inr, List, [], ◌∷◌, ◌++◌, length, set, sym, ap, ◌∙◌, refl, subst, arith}
use mathlib.Core.Logic.{dite}
use mathlib.Core.Option.{some-injective, some-ne-none}
use native.Mathlib.Decide.{ℕ_discrete}
use lib.ListN.{get_elem?}
use Rattle.atomic_table.proofs.Lists.{at_set, set_here, set_else, at_longer, at_last}
use Rattle.bz_bus.specs.declared.rule.View.{View}
use Rattle.bz_bus.specs.declared.rule.Stage.TheVariants.{Spent}
use Rattle.bz_bus.specs.Inside.Views.{At, Each, Has, IsLive}
use Rattle.bz_bus.specs.Inside.Rule.{Apart}

module _ {V : Type 0} where
  pub within : (vs : List V) (id : ℕ) (v : V) → At vs id v → id < length vs
  within [] id v e = absurd (some-ne-none v (sym e))
  within (x ∷ xs) zero v e = omega arith
  within (x ∷ xs) (suc id) v e = let h = within xs id v e in omega arith

  pub same_view : (vs : List V) (i j : ℕ) (v w : V) → At vs i v → At vs j w → i ≡ j → v ≡ w
  same_view vs i j v w a b e = some-injective v w (sym a ∙ (ap (get_elem? vs) e ∙ b))

  pub snoc_at : (vs : List V) (w v : V) (k : ℕ) → At (vs ++ w ∷ []) k v → (At vs k v) ⊎ ((k ≡ length vs) × (w ≡ v))
  snoc_at [] w v zero e = inr (refl, some-injective w v e)
  snoc_at [] w v (suc k) e = absurd (some-ne-none v (sym e))
  snoc_at (x ∷ xs) w v zero e = inl e
  snoc_at (x ∷ xs) w v (suc k) e = ⊎_elim inl (λ t. inr (ap suc t.0, t.1)) (snoc_at xs w v k e)

  pub each_set : (vs : List V) (id : ℕ) (w : V) (P P' : V → Type 0) → Each vs P → P' w → ((j : ℕ) (v : V) → j ≢ id → At vs j v → P v → P' v) → Each (set vs id w) P'
  each_set vs id w P P' all here others j v e = ⊎_elim (λ own. subst P' own.1 here) (λ other. others j v other.0 other.1 (all j v other.1)) (at_set vs id j w v e)

  pub each_snoc : (vs : List V) (w : V) (P : V → Type 0) → Each vs P → P w → Each (vs ++ w ∷ []) P
  each_snoc vs w P all last j v e = ⊎_elim (λ old. all j v old) (λ new. subst P new.1 last) (snoc_at vs w v j e)

  pub has_set : (vs : List V) (id : ℕ) (me w : V) (Q Q' : V → Type 0) → At vs id me → Has vs Q → (Q me → Q' w) → ((j : ℕ) (v : V) → At vs j v → j ≢ id → Q v → Q' v) → Has (set vs id w) Q'
  has_set vs id me w Q Q' at h here others = dite (ℕ_discrete h.0 id)
      (λ same. (id, w, set_here vs id w (within vs id me at), here (subst Q (same_view vs h.0 id h.1 me h.2 at same) h.3)))
      (λ other. (h.0, h.1, set_else vs id h.0 w other ∙ h.2, others h.0 h.1 h.2 other h.3))

  pub has_here : (vs : List V) (id : ℕ) (me w : V) (Q : V → Type 0) → At vs id me → Q w → Has (set vs id w) Q
  has_here vs id me w Q at q = (id, w, set_here vs id w (within vs id me at), q)

  pub has_longer : (vs : List V) (w : V) (Q : V → Type 0) → Has vs Q → Has (vs ++ w ∷ []) Q
  has_longer vs w Q h = (h.0, h.1, at_longer vs (w ∷ []) h.0 h.1 h.2, h.3)

  pub has_last : (vs : List V) (w : V) (Q : V → Type 0) → Q w → Has (vs ++ w ∷ []) Q
  has_last vs w Q q = (length vs, w, at_last vs w (length vs) refl, q)

module _ {E F : Type 0} where
  pub apart_set : (vs : List (View E F)) (id : ℕ) (me w : View E F) → Apart vs → At vs id me → IsLive me → w.number ≡ me.number → Apart (set vs id w)
  apart_set vs id me w apart at live same i j v u ei ej lv lu e = ⊎_elim
      (λ a. ⊎_elim (λ b. a.0 ∙ sym b.0)
      (λ b. a.0 ∙ apart id j me u at b.1 live lu (sym same ∙ (ap (λ (z : View E F). z.number) a.1 ∙ e)))
      (at_set vs id j w u ej))
      (λ a. ⊎_elim (λ b. apart i id v me a.1 at lv live (e ∙ (ap (λ (z : View E F). z.number) (sym b.1) ∙ same)) ∙ sym b.0)
      (λ b. apart i j v u a.1 b.1 lv lu e)
      (at_set vs id j w u ej))
      (at_set vs id i w v ei)

  -- a view that is spent has no number
  pub apart_spent : (vs : List (View E F)) (id : ℕ) (w : View E F) → Apart vs → w.stage ≡ Spent → Apart (set vs id w)
  apart_spent vs id w apart gone i j v u ei ej lv lu e = ⊎_elim
      (λ a. absurd (lv (ap (λ (z : View E F). z.stage) (sym a.1) ∙ gone)))
      (λ a. ⊎_elim (λ b. absurd (lu (ap (λ (z : View E F). z.stage) (sym b.1) ∙ gone))) (λ b. apart i j v u a.1 b.1 lv lu e) (at_set vs id j w u ej))
      (at_set vs id i w v ei)

  pub apart_snoc : (vs : List (View E F)) (w : View E F) → Apart vs → ((j : ℕ) (v : View E F) → At vs j v → IsLive v → v.number ≢ w.number) → Apart (vs ++ w ∷ [])
  apart_snoc vs w apart new i j v u ei ej lv lu e = ⊎_elim
      (λ a. ⊎_elim (λ b. apart i j v u a b lv lu e) (λ b. absurd (new i v a lv (e ∙ ap (λ (z : View E F). z.number) (sym b.1)))) (snoc_at vs w u j ej))
      (λ a. ⊎_elim (λ b. absurd (new j u b lu (sym e ∙ ap (λ (z : View E F). z.number) (sym a.1)))) (λ b. a.0 ∙ sym b.0) (snoc_at vs w u j ej))
      (snoc_at vs w v i ei)

module _ {V : Type 0} where
  pub each_one : (w : V) (P : V → Type 0) → P w → Each (w ∷ []) P
  each_one w P p zero v e = subst P (some-injective w v e) p
  each_one w P p (suc j) v e = absurd (some-ne-none v (sym e))

  -- two views are set
  pub each_two : (vs : List V) (id o : ℕ) (a b : V) (P P' : V → Type 0) → Each vs P → P' a → P' b → ((j : ℕ) (v : V) → j ≢ id → j ≢ o → At vs j v → P v → P' v) → Each (set (set vs id a) o b) P'
  each_two vs id o a b P P' all one two others j v e = ⊎_elim (λ own. subst P' own.1 two)
      (λ rest. ⊎_elim (λ own. subst P' own.1 one) (λ other. others j v other.0 rest.0 other.1 (all j v other.1)) (at_set vs id j a v rest.1))
      (at_set (set vs id a) o j b v e)

  -- what holds of some view holds of one of the others still, or of the first that is set
  pub has_two : (vs : List V) (id o : ℕ) (me you a b : V) (Q Q' : V → Type 0) → At vs id me → At vs o you → o ≢ id → Has vs Q → (Q me → Q' a) → (Q you → Q' a) → ((j : ℕ) (v : V) → At vs j v → j ≢ id → j ≢ o → Q v → Q' v) → Has (set (set vs id a) o b) Q'
  has_two vs id o me you a b Q Q' at ot apart h one two others = dite (ℕ_discrete h.0 o)
      (λ same. first (two (subst Q (same_view vs h.0 o h.1 you h.2 ot same) h.3)))
      (λ far. dite (ℕ_discrete h.0 id)
      (λ same. first (one (subst Q (same_view vs h.0 id h.1 me h.2 at same) h.3)))
      (λ other. (h.0, h.1, set_else (set vs id a) o h.0 b far ∙ (set_else vs id h.0 a other ∙ h.2), others h.0 h.1 h.2 other far h.3)))
    where
      first : Q' a → Has (set (set vs id a) o b) Q'
      first q = (id, a, set_else (set vs id a) o id b (λ e. apart (sym e)) ∙ set_here vs id a (within vs id me at), q)
