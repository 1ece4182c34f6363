-- Entries that words spell are listed alike.
use Rattle.std.specs.Prelude.{◌≡◌, ℕ, zero, suc, ◌+◌, ◌<◌, ◌≤◌, ◌∷◌}
use Rattle.std.proofs.Common.{arith, refl}
use Rattle.bz_swap_machine.specs.Agrees.{Agree, agree-spell}
use Rattle.bz_swap_machine.specs.Machine.{Entries, entries_in}
use Rattle.bz_swap_machine.specs.Knows.{Spell}
use Rattle.bz_swap.specs.Inside.Parts.{listed, entry_list}

-- lists whose members are the same
pub listed-same : {A : Type 0} (f g : ℕ → A) (i n : ℕ) → ((j : ℕ) → i ≤ j → j < i + n → f j ≡ g j) → listed f i n ≡ listed g i n
listed-same f g i zero h = refl
listed-same f g i (suc n) h =
    let first : f i ≡ g i = h i (omega arith) (omega arith) in
    let rest : listed f (i + 1) n ≡ listed g (i + 1) n = listed-same f g (i + 1) n (λ j from below. h j (omega (arith, from)) (omega (arith, below))) in
    λ k. first k ∷ rest k

-- entries that agree are listed alike
pub entry_list-agree : (x y : Entries) → Agree x y → entry_list x ≡ entry_list y
entry_list-agree x y a =
    rw a.count (listed-same _ _ 0 y.count (λ j from below k. record {
      target = a.target j (omega (arith, below)) k;
      expected = a.expected j (omega (arith, below)) k;
      new = a.value j (omega (arith, below)) k;
    }))

-- so the entries that the words spell are listed as the entries are
pub entry_list-spelled : (x : Entries) (words : ℕ → ℕ) → Spell x words → entry_list (entries_in words) ≡ entry_list x
entry_list-spelled x words h = entry_list-agree (entries_in words) x (agree-spell x words h)
