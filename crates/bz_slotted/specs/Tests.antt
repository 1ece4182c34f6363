-- Lists of tests, each with the rule that it stands for: the first that fails answers.
use Rattle.std.specs.Prelude.{ℕ, zero, suc, ◌&&◌, if◌then◌else◌, Bool, true, false, List, [], ◌∷◌, Option, Some, None}
use Rattle.bz_tree.specs.declared.rule.ShapeRule.{ShapeRule}

pub record Test : Type 0 where
  pub rule : ShapeRule
  pub passes : Bool

-- the rule of the first test that fails
unfoldable pub first_of : List Test → Option ShapeRule
first_of [] = None
first_of (t ∷ ts) = if t.passes then first_of ts else Some t.rule

-- each number below n passes
unfoldable pub every : ℕ → (ℕ → Bool) → Bool
every zero p = true
every (suc n) p = p n && every n p

-- each two numbers i < j below n pass
abbrev pub every_two : ℕ → (ℕ → ℕ → Bool) → Bool
every_two n p = every n (λ j. every j (λ i. p i j))

-- the second passes where the first does
abbrev pub implies : Bool → Bool → Bool
implies true b = b
implies false b = true
