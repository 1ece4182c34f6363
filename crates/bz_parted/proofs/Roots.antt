-- A new root over two nodes breaks no rule.
use Rattle.std.proofs.Common.{ℕ, zero, suc, ◌<◌, arith}
use Rattle.std.specs.Prelude.{All, None, slice_index_or}
use Rattle.bz_node.specs.Records.{IsChild}
use Rattle.bz_node.specs.declared.child.Child.{Child}
use Rattle.bz_slotted.specs.ReadingLaws.{node_of, IsInnerOf}
use Rattle.bz_slotted.proofs.Proved.{made_inners_are_whole}
use Rattle.bz_halves.specs.Roots.{root_children}
use Rattle.bz_halves.proofs.Roots.{child-list, root-room}
use Rattle.bz_parted.specs.Laws.{RootsStandAtLevels}
use Rattle.bz_parted.specs.Roots.{tall_root_words}

pub roots-stand : RootsStandAtLevels
roots-stand nodes left right level sep few l r key inner levels =
    let m : IsInnerOf nodes (node_of (tall_root_words left right sep level)) (root_children left right sep) level None None =
    made_inners_are_whole nodes (root_children left right sep) level None None children tt tt (child-list left right sep) slots inner levels (omega (arith, root-room left right sep key.fits)) in
    let no : Child = record { low = None; slot = 0 } in
    record {
      none = m.none;
      room = root-room left right sep key.fits;
      two = record { count = m.count; child_l = m.child 0 no (omega arith); child_r = m.child 1 no (omega arith); parted = m.key 1 no (omega arith) };
    }
  where
    children : All IsChild (root_children left right sep)
    children zero d h = record { low = tt; slot = omega (arith, l, few) }
    children (suc zero) d h = record { low = key; slot = omega (arith, r, few) }
    children (suc (suc i)) d h = absurd (omega arith)

    slots : (i : ℕ) (d : Child) → i < 2 → (slice_index_or (root_children left right sep) i d).slot < nodes
    slots zero d h = l
    slots (suc zero) d h = r
    slots (suc (suc i)) d h = absurd (omega arith)
