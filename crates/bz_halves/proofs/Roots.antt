-- A new root over two leaves breaks no rule.
use Rattle.std.proofs.Common.{◌≡◌, ℕ, zero, suc, ◌+◌, ◌<◌, ◌≤◌, List, [], ◌∷◌, ◌++◌, length, map, arith, refl}
use Rattle.std.specs.Prelude.{All, Some, None, IsSome, slice_index_or}
use Rattle.std.proofs.lemmas.List.{length-append}
use Rattle.bz_key.specs.Packing.{packed}
use Rattle.bz_key.proofs.PackingLaws.{length-packed}
use Rattle.bz_key.specs.declared.limits.TheConstants.{KEY_BYTES}
use Rattle.bz_layout.specs.declared.thresholds.TheConstants.{INNER_LIMIT}
use Rattle.bz_node.specs.Layout.{block, needed}
use Rattle.bz_node.specs.Records.{child_entry, IsChild, IsChildList}
use Rattle.bz_node.specs.declared.child.Child.{Child}
use Rattle.bz_slotted.specs.ReadingLaws.{node_of, IsInnerOf}
use Rattle.bz_slotted.proofs.Proved.{made_inners_are_whole}
use Rattle.bz_halves.specs.Laws.{RootsStandOverTwo}
use Rattle.bz_halves.specs.Roots.{root_children, root_words}

pub child-list : (left right : ℕ) (sep : List ℕ) → IsChildList (root_children left right sep) None None
child-list left right sep = record {
  some = omega arith;
  first = first;
  others = others;
  rising = λ i j less inside. absurd (omega (arith, less, inside));
  above = λ i d l. tt;
  below = λ i d l. tt;
}
  where
    first : (i : ℕ) (d : Child) → i < 2 → i < 1 → (slice_index_or (root_children left right sep) i d).low ≡ None
    first zero d l f = refl
    first (suc i) d l f = absurd (omega arith)

    others : (i : ℕ) (d : Child) → i < 2 → 1 ≤ i → IsSome (slice_index_or (root_children left right sep) i d).low
    others zero d l f = absurd (omega arith)
    others (suc zero) d l f = refl
    others (suc (suc i)) d l f = absurd (omega arith)

pub root-room : (left right : ℕ) (sep : List ℕ) → length sep ≤ KEY_BYTES → needed (map child_entry (root_children left right sep)) ≤ INNER_LIMIT
unfolding block
root-room left right sep fits =
    omega (
      arith,
      fits,
      length-packed sep,
      length-packed [],
      length-append (packed []) ((left + 1) ∷ []),
      length-append (packed sep) ((right + 1) ∷ []),
      length-append ([] ++ (child_entry (record { low = Some sep; slot = right })).words) (child_entry (record { low = None; slot = left })).words,
    )

pub roots-stand : RootsStandOverTwo
roots-stand nodes left right sep few l r key =
    let m : IsInnerOf nodes (node_of (root_words left right sep)) (root_children left right sep) 1 None None =
    made_inners_are_whole nodes (root_children left right sep) 1 None None children tt tt (child-list left right sep) slots (omega arith) (omega arith) (omega (arith, root-room left right sep key.fits)) in
    let no : Child = record { low = None; slot = 0 } in
    record {
      none = m.none;
      room = root-room left right sep key.fits;
      two = record { count = m.count; child_l = m.child 0 no (omega arith); child_r = m.child 1 no (omega arith); parted = m.key 1 no (omega arith) };
    }
  where
    children : All IsChild (root_children left right sep)
    children zero d h = record { low = tt; slot = omega (arith, l, few) }
    children (suc zero) d h = record { low = key; slot = omega (arith, r, few) }
    children (suc (suc i)) d h = absurd (omega arith)

    slots : (i : ℕ) (d : Child) → i < 2 → (slice_index_or (root_children left right sep) i d).slot < nodes
    slots zero d h = l
    slots (suc zero) d h = r
    slots (suc (suc i)) d h = absurd (omega arith)
