-- Cached words that are made the durable ones again.
use Rattle.std.specs.Prelude.{◌≡◌, ◌⊎◌, ◌<◌, ℕ, List, [], ◌∷◌, ◌++◌, length, slice_index, slice_set}
use Rattle.std.specs.List.{AllByRecursion}
use Rattle.std.proofs.Common.{arith, refl, ◌∙◌, inl, inr}
use Rattle.std.proofs.lemmas.List.{get_or-set_same, get_or-set_other, length-set}
use Rattle.std.proofs.lemmas.Bool.{cases_eq}
use Rattle.bz_check.specs.Restored.{IsAt, restored}

pub length-restored : (all cached durable : List ℕ) → length (restored all cached durable) ≡ length cached
length-restored [] cached durable = refl
length-restored (a ∷ all) cached durable = length-restored all (slice_set cached a (slice_index durable a)) durable ∙ length-set cached a (slice_index durable a)

-- a word that is one of these, or is the durable one already, is the durable one
pub restored-word : (all cached durable : List ℕ) (b : ℕ) → b < length cached → IsAt b all ⊎ (slice_index cached b ≡ slice_index durable b) → slice_index (restored all cached durable) b ≡ slice_index durable b
restored-word [] cached durable b lt (inl h) = absurd h
restored-word [] cached durable b lt (inr same) = same
restored-word (a ∷ all) cached durable b lt h =
    let long = length-set cached a (slice_index durable a) in
    restored-word all (slice_set cached a (slice_index durable a)) durable b (omega (arith, long)) (elim (cases_eq b a) [
      | inl e ↦ inr (rw (e, get_or-set_same cached a (slice_index durable a) 0 (omega arith)) refl)
      | inr ne ↦ elim h [
        | inl at ↦ elim at [ inl e ↦ absurd (ne e) | inr later ↦ inl later ]
        | inr same ↦ inr (get_or-set_other cached a b (slice_index durable a) 0 ne ∙ same)
      ]
    ])

-- one more address
pub at_more : (b a : ℕ) (all : List ℕ) → IsAt b all → IsAt b (all ++ a ∷ [])
at_more b a [] h = absurd h
at_more b a (x ∷ all) (inl e) = inl e
at_more b a (x ∷ all) (inr h) = inr (at_more b a all h)

pub at_end : (b a : ℕ) (all : List ℕ) → b ≡ a → IsAt b (all ++ a ∷ [])
at_end b a [] e = inl e
at_end b a (x ∷ all) e = inr (at_end b a all e)

pub below_more : (size a : ℕ) (all : List ℕ) → a < size → AllByRecursion (λ (b : ℕ). b < size) all → AllByRecursion (λ (b : ℕ). b < size) (all ++ a ∷ [])
below_more size a [] lt h = (lt, tt)
below_more size a (x ∷ all) lt h = (h.0, below_more size a all lt h.1)
