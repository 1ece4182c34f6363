-- The records of a leaf and of an inner node fit the fields of their metadata words.
use Rattle.std.specs.Prelude.{◌≡◌, ℕ, ◌+◌, ◌≤◌, List, ◌∷◌, [], length}
use Rattle.std.proofs.Common.{arith}
use Rattle.std.proofs.lemmas.List.{length-append, nil_from_length}
use Rattle.bz_key.specs.Bytes.{IsKey, IsPayload}
use Rattle.bz_key.specs.Packing.{packed}
use Rattle.bz_key.proofs.PackingLaws.{length-packed}
use Rattle.bz_key.specs.declared.limits.TheConstants.{KEY_BYTES}
use Rattle.bz_node.specs.Layout.{IsEntry, bound_of}
use Rattle.bz_node.specs.Records.{pair_entry, child_entry}
use Rattle.bz_node.specs.declared.child.Child.{Child}

pub length-packed_nil : length (packed []) ≡ 0
length-packed_nil = length-packed []

pub packed_nil : packed [] ≡ []
packed_nil = nil_from_length (packed []) length-packed_nil

pub IsEntry-pair : (r : List ℕ × List ℕ) → IsKey r.0 → IsPayload r.1 → IsEntry (pair_entry r)
IsEntry-pair r key payload =
    let k = length-packed r.0 in
    let p = length-packed r.1 in
    let n = length-append (packed r.0) (packed r.1) in
    record { key = omega arith; total = omega (arith, key.fits, payload.fits); some = omega (arith, key.some); fits = omega (arith, key.fits, payload.fits); counted = omega arith }

pub IsEntry-child : (c : Child) → length (bound_of c.low) ≤ KEY_BYTES → IsEntry (child_entry c)
IsEntry-child c fits =
    let k = length-packed (bound_of c.low) in
    let n = length-append (packed (bound_of c.low)) ((c.slot + 1) ∷ []) in
    record { key = omega arith; total = omega arith; some = omega arith; fits = omega arith; counted = omega arith }
