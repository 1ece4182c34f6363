-- What an image says, slot by slot: the superblock as the slot after the last one, with the root as its child,
-- and each node by its words.
use Rattle.std.specs.Prelude.{ℕ, ◌+◌, ◌^◌, ◌==◌, ◌&&◌, nat_lt, nat_le, if◌then◌else◌, [], Option, Some, None}
use Rattle.bz_layout.specs.declared.config.Config.{Config}
use Rattle.bz_layout.specs.declared.sizes.TheConstants.{ROOT_AT, ROOT_STATUS_AT}
use Rattle.bz_tree.specs.View.{View}
use Rattle.bz_tree.specs.declared.rule.ShapeRule.{ShapeRule}
use Rattle.bz_tree.specs.declared.rule.ShapeRule.TheVariants.{Root}
use Rattle.bz_slotted.specs.Readers.{level_of, count_of, child_of, key_of, found_of}
use Rattle.bz_slotted.specs.Rules.{node_fault}
use Rattle.bz_content.specs.Image.{Image, node, root}

-- Root: the root pointer is 1 to the number of slots, and of the root status nothing but the stamp is set
unfoldable pub root_fault : ℕ → ℕ → ℕ → Option ShapeRule
root_fault nodes pointer status = if nat_lt 0 pointer && (nat_le pointer nodes && nat_lt status (2 ^ 32)) then None else Some Root

-- what an image says
abbrev pub view_of : Config → Image → View
view_of c x = record {
  top = c.nodes;
  height = level_of (node c x.words (root x.words)) + 1;
  count = λ k. if k == c.nodes then 1 else count_of (node c x.words k);
  child = λ k i. if k == c.nodes then (if i == 0 then root x.words else 0) else child_of (node c x.words k) i;
  key = λ k i. if k == c.nodes then [] else key_of (node c x.words k) i;
  found = λ k key. if k == c.nodes then None else found_of (node c x.words k) key;
  fault = λ k l low high.
      if k == c.nodes then root_fault c.nodes (x.words ROOT_AT) (x.words ROOT_STATUS_AT)
      else node_fault c.nodes (node c x.raw k) (node c x.words k) l low high;
}
