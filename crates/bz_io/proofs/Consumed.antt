-- A source that has given twice.
use Rattle.std.proofs.Common.{◌≤◌, ℕ, ◌+◌, List, ◌++◌, take, length, append_assoc, arith, refl}
use Rattle.std.specs.Prelude.{Option, Some, None}
use Rattle.std.proofs.lemmas.Grind.{common_steps}
use Rattle.std.specs.Io.KnownBytes.{Consumes}
use Rattle.bz_io.specs.Transfers.{GaveAtMost}

pub consumes_twice : (a b c : Option (List ℕ)) (xs ys : List ℕ) → Consumes a b xs → Consumes b c ys → Consumes a c (xs ++ ys)
consumes_twice None b c xs ys h k = tt
consumes_twice (Some as0) None c xs ys h k = absurd h
consumes_twice (Some as0) (Some bs) None xs ys h k = absurd k
consumes_twice (Some as0) (Some bs) (Some cs) xs ys h k = rw (h, k, append_assoc) refl

-- a piece more, where the piece was no longer than what was still allowed
pub gave_piece : (a b c : Option (List ℕ)) (xs piece : List ℕ) (count most : ℕ)
    → count ≤ length piece → length xs + length piece ≤ most
    → Consumes a b xs → Consumes b c (take count piece) → GaveAtMost a c most
gave_piece a b c xs piece count most short fits h k = record {
  bytes = xs ++ take count piece;
  given = consumes_twice a b c xs (take count piece) h k;
  within = grind (arith, common_steps);
}
