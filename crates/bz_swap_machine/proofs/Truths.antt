-- A test is not both true and false.
use Rattle.std.proofs.Common.{◌≡◌, Bool, true, false, sym, ◌∙◌}

pub differ : {A : Type 0} (b : Bool) → b ≡ true → b ≡ false → A
differ b f g = absurd (bad (sym f ∙ g))
  where
    bad : true ≡ false → ⊥
    bad is = absurd cc
