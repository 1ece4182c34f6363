-- Where a dirty value is cleaned, less is left by the worker that was to clean it, and no more by any.
use Rattle.std.proofs.Common.{◌≡◌, ◌==◌, ◌&&◌, not, ℕ, ◌+◌, ◌<◌, ◌≤◌, Bool, true, false, arith, refl}
use Rattle.bz_swap_machine.specs.declared.place.HelpStep.{HelpStep}
use Rattle.bz_swap_machine.specs.declared.place.HelpStep.TheVariants.{LookUnderTag, InstallPointer, RemoveTag, AskFinal, FenceFinal, ClearFinal}
use Rattle.bz_swap_machine.specs.declared.place.Place.{Place}
use Rattle.bz_swap_machine.specs.declared.place.Place.TheVariants.{Help}
use Rattle.bz_swap_machine.specs.declared.status.Verdict.{Verdict}
use Rattle.bz_swap_machine.specs.Allowed.{counted}
use Rattle.bz_swap_machine.specs.Budget.{for_dirty, is_over_at, cleans_at, left_by_help, left_by_place, left_by, left_by_others}
use Rattle.bz_swap_machine.specs.DirtyHomes.{CleansFinal, IsAtFinal}
use Rattle.bz_swap_machine.specs.HelpActs.{final_value}
use Rattle.bz_swap_machine.specs.Standing.{Scene, target_at}
use Rattle.bz_swap_machine.specs.Steps.{Local}
use Rattle.bz_swap_machine.proofs.Sums.{others-drop}

-- fewer dirty values stand
abbrev pub Fewer : (ℕ → ℕ → Bool) → (ℕ → ℕ → Bool) → Type 0
Fewer d c = (a u : ℕ) → d a u ≡ true → c a u ≡ true

abbrev pub with_dirty : Scene → (ℕ → ℕ → Bool) → Scene
with_dirty x d = record x { dirty = d }

implied-le : (a b c : Bool) (k : ℕ) → (a ≡ true → b ≡ true) → counted (a && c) k ≤ counted (b && c) k
implied-le true true c k f = omega arith
implied-le true false c k f = absurd (bad (f refl))
  where
    bad : false ≡ true → ⊥
    bad is = absurd cc
implied-le false true true k f = omega arith
implied-le false true false k f = omega arith
implied-le false false c k f = omega arith

help-le : (x : Scene) (d : ℕ → ℕ → Bool) (over : Bool) (l : Local) (place : Place) (v : ℕ) (k : Local) (step : HelpStep) → Fewer d x.dirty → left_by_help (with_dirty x d) over l place v k step ≤ left_by_help x over l place v k step
help-le x d over l place v k (AskFinal i c) fewer =
    implied-le _ _ (not (cleans_at x l.current place (target_at x k.current i) (final_value (x.entries k.current) i c))) for_dirty (fewer (target_at x k.current i) (final_value (x.entries k.current) i c))
help-le x d over l place v k (FenceFinal i c) fewer =
    implied-le _ _ (not (cleans_at x l.current place (target_at x k.current i) (final_value (x.entries k.current) i c))) for_dirty (fewer (target_at x k.current i) (final_value (x.entries k.current) i c))
help-le x d over l place v k (ClearFinal i c) fewer =
    implied-le _ _ (not (cleans_at x l.current place (target_at x k.current i) (final_value (x.entries k.current) i c))) for_dirty (fewer (target_at x k.current i) (final_value (x.entries k.current) i c))
help-le x d over l place v k (LookUnderTag i u q) fewer = omega arith
help-le x d over l place v k (InstallPointer i u q) fewer = omega arith
help-le x d over l place v k (RemoveTag i u q) fewer = omega arith
help-le x d over l place v k step fewer = omega arith

place-le : (x : Scene) (d : ℕ → ℕ → Bool) (over : Bool) (l : Local) (place : Place) (v : ℕ) (k : Local) (other : Place) → Fewer d x.dirty → left_by_place (with_dirty x d) over l place v k other ≤ left_by_place x over l place v k other
place-le x d over l place v k (Help step) fewer = help-le x d over l place v k step fewer
place-le x d over l place v k other fewer = omega arith

-- no more is left by any
pub dirty-le : (x : Scene) (d : ℕ → ℕ → Bool) (over : Bool) (l : Local) (place : Place) (v : ℕ) (k : Local) → Fewer d x.dirty → left_by (with_dirty x d) over l place v k ≤ left_by x over l place v k
dirty-le x d over l place v k fewer = omega (arith, place-le x d over l place v k k.place fewer)

gone-drops : (a b c : Bool) → a ≡ false → b ≡ true → c ≡ false → counted (a && not c) for_dirty + for_dirty ≤ counted (b && not c) for_dirty
gone-drops false true false f g h = omega arith
gone-drops false true true f g h = absurd cc
gone-drops false false c f g h = absurd cc
gone-drops true b c f g h = absurd cc

help-drops : (x : Scene) (d : ℕ → ℕ → Bool) (over : Bool) (l : Local) (place : Place) (v : ℕ) (k : Local) (step : HelpStep) (i : ℕ) (c : Verdict) → CleansFinal step i c
    → d (target_at x k.current i) (final_value (x.entries k.current) i c) ≡ false → x.dirty (target_at x k.current i) (final_value (x.entries k.current) i c) ≡ true
    → cleans_at x l.current place (target_at x k.current i) (final_value (x.entries k.current) i c) ≡ false → left_by_help (with_dirty x d) over l place v k step + for_dirty ≤ left_by_help x over l place v k step
help-drops x d over l place v k (AskFinal j b) i c at gone stood none = gone-drops _ _ _ (rw (at.0, at.1) gone) (rw (at.0, at.1) stood) (rw (at.0, at.1) none)
help-drops x d over l place v k (FenceFinal j b) i c at gone stood none = gone-drops _ _ _ (rw (at.0, at.1) gone) (rw (at.0, at.1) stood) (rw (at.0, at.1) none)
help-drops x d over l place v k (ClearFinal j b) i c at gone stood none = gone-drops _ _ _ (rw (at.0, at.1) gone) (rw (at.0, at.1) stood) (rw (at.0, at.1) none)
help-drops x d over l place v k step i c at gone stood none = absurd at

place-drops : (x : Scene) (d : ℕ → ℕ → Bool) (over : Bool) (l : Local) (place : Place) (v : ℕ) (k : Local) (other : Place) (i : ℕ) (c : Verdict) → IsAtFinal other i c
    → d (target_at x k.current i) (final_value (x.entries k.current) i c) ≡ false → x.dirty (target_at x k.current i) (final_value (x.entries k.current) i c) ≡ true
    → cleans_at x l.current place (target_at x k.current i) (final_value (x.entries k.current) i c) ≡ false → left_by_place (with_dirty x d) over l place v k other + for_dirty ≤ left_by_place x over l place v k other
place-drops x d over l place v k (Help step) i c at gone stood none = help-drops x d over l place v k step i c at gone stood none
place-drops x d over l place v k other i c at gone stood none = absurd at

-- worker h was to clean the value, and it is clean
pub dirty-drops : (x : Scene) (d : ℕ → ℕ → Bool) (w n : ℕ) (l : Local) (place : Place) (h i : ℕ) (c : Verdict) → Fewer d x.dirty → (h == w) ≡ false → h < n → IsAtFinal (x.local h).place i c
    → d (target_at x (x.local h).current i) (final_value (x.entries (x.local h).current) i c) ≡ false → x.dirty (target_at x (x.local h).current i) (final_value (x.entries (x.local h).current) i c) ≡ true
    → cleans_at x l.current place (target_at x (x.local h).current i) (final_value (x.entries (x.local h).current) i c) ≡ false
    → left_by_others (with_dirty x d) w n l place + for_dirty ≤ left_by_others x w n l place
dirty-drops x d w n l place h i c fewer other below at gone stood none =
    others-drop w h (λ v. left_by (with_dirty x d) (is_over_at x l place) l place v (x.local v)) (λ v. left_by x (is_over_at x l place) l place v (x.local v)) for_dirty n (λ v. dirty-le x d (is_over_at x l place) l place v (x.local v) fewer) other below
    (omega (arith, place-drops x d (is_over_at x l place) l place h (x.local h) (x.local h).place i c at gone stood none))
