-- The key between two children of an inner node that was read is a key, and stands at the second one.
use Rattle.std.proofs.Common.{◌≡◌, ℕ, ◌+◌, ◌<◌, List, length, arith, sym, ap, subst, ◌∙◌, Option, Some}
use Rattle.std.specs.Prelude.{None, IsSome}
use Rattle.bz_key.specs.Bytes.{IsKey}
use Rattle.bz_node.specs.Layout.{bound_of}
use Rattle.bz_node.specs.Reading.{child_in, children_in, count_in}
use Rattle.bz_node.specs.Records.{IsBound}
use Rattle.bz_node.specs.declared.child.Child.{Child}
use Rattle.bz_slotted.specs.Readers.{count_of, key_of}
use Rattle.bz_slotted.specs.ReadingLaws.{node_of}
use Rattle.bz_halves.specs.Parents.{child_at}
use Rattle.bz_halves.proofs.PartedChildren.{children-count, child-read}
use Rattle.bz_parted.specs.Laws.{IsReadNode}
use Rattle.bz_inner.specs.JoinFacts.{HasSeparator}

some-bound : (low : Option (List ℕ)) (sep : List ℕ) → IsSome low → sep ≡ bound_of low → low ≡ Some sep
some-bound None sep h e = absurd (cc)
some-bound (Some key) sep h e = ap Some (sym e)

bound-key : (low : Option (List ℕ)) (sep : List ℕ) → low ≡ Some sep → IsBound low → IsKey sep
bound-key low sep e h = subst IsBound e h

module _ (nodes : ℕ) (read : List ℕ) (low high : Option (List ℕ)) (n : IsReadNode nodes read low high) (i : ℕ) (within : i + 1 < count_of (node_of read)) where
  inside : i + 1 < length (children_in read)
  inside = omega (arith, within, n.has.count)

  pub separator-stands : (child_at (children_in read) (i + 1)).low ≡ Some (key_of (node_of read) (i + 1))
  separator-stands = some-bound (child_at (children_in read) (i + 1)).low (key_of (node_of read) (i + 1)) (n.list.others (i + 1) (record { low = None; slot = 0 }) inside (omega arith)) (n.has.key (i + 1) inside)

  pub separator-is-key : IsKey (key_of (node_of read) (i + 1))
  separator-is-key = bound-key (child_at (children_in read) (i + 1)).low (key_of (node_of read) (i + 1)) separator-stands (n.each (i + 1) (record { low = None; slot = 0 }) inside).low

  pub has-separator : HasSeparator read i
  has-separator = record { readable = n.readable; has = n.has; within = inside; key = separator-stands }

-- as it is read
module _ (above : List ℕ) (place : ℕ) (h : HasSeparator above place) where
  pub separator-within : place + 1 < count_in above
  separator-within = omega (arith, h.within, children-count above)

  pub separator-read : (c : Child) → c ≡ child_in above (place + 1) → c.low ≡ Some (key_of (node_of above) (place + 1))
  separator-read c is = ap (λ (z : Child). z.low) (is ∙ sym (child-read above (place + 1) separator-within)) ∙ h.key
