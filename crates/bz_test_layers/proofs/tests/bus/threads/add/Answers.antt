use Rattle.std.proofs.Common.{◌≡◌, ℕ, zero, suc, ◌<◌, ◌⊎◌, ⊎_elim, inl, ◌∷◌, [], get_or, arith}
use Rattle.bz_bus.specs.declared.TheConstants.{PASSES}
use Rattle.bz_test_layers.specs.declared.tests.bus.log.Note.{Note}
use Rattle.bz_test_layers.proofs.tests.bus.threads.add.Goals as goal

only_note : (n : ℕ) (x : Note) → x.by ≡ n → (k : ℕ) (d : Note) → k < 1 → ((get_or (x ∷ []) k d).by ≡ n) ⊎ ((get_or (x ∷ []) k d).by ≡ PASSES)
only_note n x e zero d h = inl e
only_note n x e (suc k) d h = absurd (omega arith)

pub turn-requires-clause-leaves : goal.turn-requires-clause-leaves
turn-requires-clause-leaves g c = λ found left after may does. ⊎_elim
    (λ e. record { added = record { by = c.number-by.result; count = c.args.count } ∷ []; is = e; owned = only_note _ _ c.number-by.ensures.number })
    (λ e. record { added = []; is = e; owned = λ k d h. absurd (omega arith) })
    does.1
