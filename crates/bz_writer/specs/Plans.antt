-- What a task writes and swaps, and what of the past this rests on.
use Rattle.std.specs.Prelude.{◌≡◌, ℕ, List}
use Rattle.bz_layout.specs.declared.config.Config.{Config}
use Rattle.bz_word.specs.declared.entry.Entry.{Entry}
use Rattle.bz_task.specs.Basis.{Basis}
use Rattle.bz_task.specs.Scene.{Past}
use Rattle.bz_renew.specs.Nodes.{Nodes}

pub record Plan : Type 1 where
  -- the fresh nodes: how many they are, the slot of each once it is taken, and its words
  pub nodes : Nodes
  -- the address that is loaded once more before slots are taken, and what it held when it was read
  pub guard : ℕ
  pub status : ℕ
  -- what the swap names
  pub entries : Config → List Entry
  -- its words are there, and different ones
  pub nameable : Config → Type 0
  -- what the task was made of
  pub basis : Basis
  -- what is known before the guard is loaded once more, while the nodes are written, once the swap took effect, and where too few
  -- slots were left
  pub planned : Past → Type 0
  pub ready : Past → Type 0
  pub done : Past → Type 0
  pub none : Past → Type 0

-- the same plan, but for slots and words of its nodes
pub record IsSamePlan (P Q : Plan) : Type 0 where
  pub count : Q.nodes.count ≡ P.nodes.count
  pub basis : Q.basis ≡ P.basis
  pub done : (p : Past) → Q.done p → P.done p
  pub none : (p : Past) → Q.none p → P.none p
