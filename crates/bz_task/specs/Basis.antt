-- What a task was made of.
use Rattle.std.specs.Prelude.{ℕ, List, []}

-- the slot of the node that it freezes or makes anew, and the words of the new nodes that do not depend on what it reads itself
pub record Basis : Type 0 where
  pub slot : ℕ
  pub nodes : List (List ℕ)

-- of a task that looks up or makes a change nothing is said
abbrev pub no_basis : Basis
no_basis = record { slot = 0; nodes = [] }
