-- Entries that a worker has learnt serve it like the swap's own.
use Rattle.std.proofs.Common.{◌≡◌, ℕ, ◌+◌, ◌*◌, ◌/◌, ◌%◌, ◌-◌, ◌<◌, arith, refl, ◌∙◌}
use Rattle.std.proofs.lemmas.Grind.{common_steps}
use Rattle.bz_swap_machine.specs.Machine.{Entries, spelled}
use Rattle.bz_swap_machine.specs.Machine.{entries_in}
use Rattle.bz_swap_machine.specs.Knows.{Spell}

-- two lists of entries agree in what they say of entries below the second's count
pub record Agree (x y : Entries) : Type 0 where
  pub count : x.count ≡ y.count
  pub target : (i : ℕ) → i < y.count → x.target i ≡ y.target i
  pub expected : (i : ℕ) → i < y.count → x.expected i ≡ y.expected i
  pub value : (i : ℕ) → i < y.count → x.value i ≡ y.value i

third : (i : ℕ) → ((1 + 3 * i) % 3 ≡ 1) × ((2 + 3 * i) % 3 ≡ 2) × ((3 + 3 * i) % 3 ≡ 0) × ((1 + 3 * i - 1) / 3 ≡ i) × ((2 + 3 * i - 1) / 3 ≡ i) × ((3 + 3 * i - 1) / 3 ≡ i)
third i = (omega arith, omega arith, omega arith, omega arith, omega arith, omega arith)

pub spelled-parts : (x : Entries) (i : ℕ) → (spelled x 0 ≡ x.count) × (spelled x (1 + 3 * i) ≡ x.target i) × (spelled x (2 + 3 * i) ≡ x.expected i) × (spelled x (3 + 3 * i) ≡ x.value i)
spelled-parts x i = (refl, grind (arith, common_steps, third i), grind (arith, common_steps, third i), grind (arith, common_steps, third i))

pub agree-spell : (x : Entries) (words : ℕ → ℕ) → Spell x words → Agree (entries_in words) x
agree-spell x words s = record {
  count = s 0 (omega arith);
  target = λ i lt. s (1 + 3 * i) (omega arith) ∙ (spelled-parts x i).1;
  expected = λ i lt. s (2 + 3 * i) (omega arith) ∙ (spelled-parts x i).2;
  value = λ i lt. s (3 + 3 * i) (omega arith) ∙ (spelled-parts x i).3;
}
