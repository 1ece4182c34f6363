-- Bytes that are put at the front of an empty array are kept there as the type wants.
use Rattle.std.specs.Prelude.{◌≤◌, ℕ, List, ◌++◌, length, drop, replicate}
use Rattle.std.proofs.Common.{arith, rules, ◌∙◌, refl, Fits, w8, get_or}
use Rattle.std.proofs.lemmas.Grind.{common_steps}
use Rattle.std.proofs.lemmas.List.{drop-replicate, length-replicate, take_at, get_or_default}
use Rattle.std.proofs.Math.Seq.{drop-append_seam}
use Rattle.bz_key.specs.Bytes.{AreBytes}
use Rattle.bz_key.specs.Padded.{IsPadded}
use Rattle.bz_key.specs.declared.limits.TheConstants.{LONGEST}

pub padded_front : (bytes : List ℕ) → length bytes ≤ LONGEST → AreBytes bytes → IsPadded (bytes ++ drop (length bytes) (replicate LONGEST 0)) (length bytes)
padded_front bytes h each = record {
  places = grind (arith, common_steps, length-replicate);
  fits = h;
  zeros = drop-append_seam bytes (drop (length bytes) (replicate LONGEST 0)) ∙ drop-replicate (length bytes) LONGEST 0;
  each = rw (take_at bytes (drop (length bytes) (replicate LONGEST 0)) (length bytes) refl) each;
}

-- what the type of a slice of bytes says of its elements
pub each_fits : (bytes : List ℕ) → ((i : ℕ) → Fits w8 (get_or bytes i 0)) → AreBytes bytes
each_fits bytes fits k d within = rw (get_or_default bytes k d 0 within) (search (rules, fits k))
