-- What contracts see of a list of items.
use Rattle.std.specs.Prelude.{ℕ, List}
use Rattle.bz_script.specs.declared.item.Item.{Item}

-- the items, and how many more there is room for
pub record Items : Type 0 where
  pub items : List Item
  pub room : ℕ
