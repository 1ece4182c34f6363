-- What may come after a task, of each sort of call.
use Rattle.std.proofs.Common.{◌≡◌, ℕ, ◌≤◌, if◌then◌else◌, Bool, true, false, ap, refl, ◌∙◌}
use Rattle.bz_costs.specs.FromRunning.Kinds.{Kind}
use Rattle.bz_solo.specs.Errands.{Errand, is_read}
use Rattle.bz_solo.specs.Prices.{Prices, coming_to_read, coming_to_write, coming_after, coming}
use Rattle.bz_costs.specs.Resources.{Resource}

-- what holds of both ways holds of each
pub either : (b : Bool) (x y z : ℕ) → x ≤ z → y ≤ z → (if b then x else y) ≤ z
either true x y z l r = l
either false x y z l r = r

-- whichever it is
pub two-ways : (b : Bool) (P : Type 0) → (b ≡ true → P) → (b ≡ false → P) → P
two-ways true _ on off = on refl
two-ways false _ on off = off refl

pub comes-within : (r : Resource) (q : Prices) (e : Errand) (k : Kind) (z : ℕ) → coming_after r e.rest k ≤ z → coming_to_read r k ≤ z → coming_to_write r q e k ≤ z → coming r q e k ≤ z
comes-within r q e k z late read write = either e.effected _ _ z late (either (is_read e.call) _ _ z read write)

pub comes-after : (r : Resource) (q : Prices) (e : Errand) (k : Kind) → e.effected ≡ true → coming r q e k ≡ coming_after r e.rest k
comes-after r q e k done = ap (λ (b : Bool). if b then coming_after r e.rest k else if is_read e.call then coming_to_read r k else coming_to_write r q e k) done

pub comes-before : (r : Resource) (q : Prices) (e : Errand) (k : Kind) → e.effected ≡ false → coming r q e k ≡ (if is_read e.call then coming_to_read r k else coming_to_write r q e k)
comes-before r q e k quiet = ap (λ (b : Bool). if b then coming_after r e.rest k else if is_read e.call then coming_to_read r k else coming_to_write r q e k) quiet

pub comes-to-write : (r : Resource) (q : Prices) (e : Errand) (k : Kind) → e.effected ≡ false → is_read e.call ≡ false → coming r q e k ≡ coming_to_write r q e k
comes-to-write r q e k quiet write = comes-before r q e k quiet ∙ ap (λ (b : Bool). if b then coming_to_read r k else coming_to_write r q e k) write

pub comes-to-read : (r : Resource) (q : Prices) (e : Errand) (k : Kind) → e.effected ≡ false → is_read e.call ≡ true → coming r q e k ≡ coming_to_read r k
comes-to-read r q e k quiet read = comes-before r q e k quiet ∙ ap (λ (b : Bool). if b then coming_to_read r k else coming_to_write r q e k) read
