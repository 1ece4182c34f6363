-- What callers see of a queue without open calls.
use Rattle.std.proofs.Common.{◌≡◌, ◌+◌, ℕ, zero, suc, List, ◌∷◌, length, map, get_or, refl, ap, ◌∙◌, Option, None}
use Rattle.std.specs.Prelude.{replicate}
use Rattle.bz_queue.specs.Inside.Left.{each_from, left_of, lefts_of, marks_left}
use Rattle.bz_queue.specs.declared.parts.Parts.{Parts}
use Rattle.bz_queue.specs.declared.serving.OpenCall.{OpenCall}

pub map-replicate : {A : Type 0} {B : Type 0} (f : A → B) (n : ℕ) (x : A) → map f (replicate n x) ≡ replicate n (f x)
map-replicate f zero x = refl
map-replicate f (suc n) x = ap (λ xs. f x ∷ xs) (map-replicate f n x)

each-none : (f : ℕ → ℕ) (a k : ℕ) → ((w : ℕ) → f w ≡ 0) → each_from f a k ≡ replicate k 0
each-none f a zero none = refl
each-none f a (suc k) none = ap (λ (first : ℕ). first ∷ each_from f (a + 1) k) (none a) ∙ ap (λ (all : List ℕ). 0 ∷ all) (each-none f (a + 1) k none)

-- nothing is left to anybody
pub lefts-none : (p : Parts) → ((w : ℕ) → get_or p.workers.items w None ≡ None) → lefts_of p ≡ replicate (length p.access.workers) 0
lefts-none p none = each-none (marks_left p) 0 (length p.access.workers) (λ w. ap (λ (slot : Option OpenCall). left_of p.access w slot) (none w))
