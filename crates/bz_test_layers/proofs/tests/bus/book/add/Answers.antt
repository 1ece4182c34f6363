use Rattle.std.proofs.Common.{◌≡◌, ℕ, zero, suc, ◌<◌, ◌⊎◌, ⊎_elim, inl, ◌∷◌, [], get_or, arith}
use Rattle.bz_bus.specs.declared.TheConstants.{PASSES}
use Rattle.bz_test_layers.specs.declared.tests.bus.book.Told.{Told}
use Rattle.bz_test_layers.proofs.tests.bus.book.add.Goals as goal

only_told : (n : ℕ) (x : Told) → x.by ≡ n → (k : ℕ) (d : Told) → k < 1 → ((get_or (x ∷ []) k d).by ≡ n) ⊎ ((get_or (x ∷ []) k d).by ≡ PASSES)
only_told n x e zero d h = inl e
only_told n x e (suc k) d h = absurd (omega arith)

pub turn-requires-clause-leaves : goal.turn-requires-clause-leaves
turn-requires-clause-leaves g c = λ found left after may does. ⊎_elim
    (λ e. record { added = record { by = c.number-by.result; page = c.args.page } ∷ []; is = e; owned = only_told _ _ c.number-by.ensures.number })
    (λ e. record { added = []; is = e; owned = λ k d h. absurd (omega arith) })
    does.1
