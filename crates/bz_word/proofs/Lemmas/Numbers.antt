-- A number in a field, and a word from its parts, at any place and width.
use Rattle.std.proofs.Common.{◌≡◌, ℕ, ◌+◌, ◌*◌, ◌/◌, ◌%◌, ◌^◌, arith}
use Rattle.std.proofs.lemmas.Nat.{div-mul-add, mod-mul-add}
use Rattle.std.proofs.Math.Nat.{mod-add-div}
use Rattle.bz_word.specs.Statements.{FieldsHoldNumbers, FieldsPartWords}

-- a number is its quotient and its remainder
joined : (x d : ℕ) → x / d * d + x % d ≡ x
joined x d = omega (arith, mod-add-div x d)

pub field-at : FieldsHoldNumbers
field-at place width above number below fits low =
    rw (div-mul-add (above * 2 ^ width + number) (2 ^ place) below low) (mod-mul-add above (2 ^ width) number fits)

pub at-field : FieldsPartWords
at-field place width x = rw (joined (x / 2 ^ place) (2 ^ width)) (joined x (2 ^ place))
