-- The high fence of a node that breaks no rule is read as its high bound.
use Rattle.std.proofs.Common.{◌≡◌, ◌≢◌, ℕ, zero, suc, ◌^◌, ◌<◌, List, length, arith, refl, sym, ap, ◌∙◌, Option}
use Rattle.std.specs.Prelude.{Some, None, IsSome}
use Rattle.std.proofs.lemmas.Bool.Decides.{nat_tests}
use Rattle.bz_key.specs.Packing.{packed_len, unpacked, unpacked_key}
use Rattle.bz_key.proofs.UnpackingLaws.{unpacked_key-sound}
use Rattle.bz_layout.specs.declared.sizes.TheConstants.{NODE_WORDS, HEADER_AT, HIGH_FENCE_AT}
use Rattle.bz_node.specs.Reading.{high_len, high_part, high_in}
use Rattle.bz_slotted.specs.Page.{words_at, page}
use Rattle.bz_slotted.specs.ReadingLaws.{node_of, EndsAt, HighFencesAreRead}
use Rattle.bz_slotted.specs.Whole.{IsFence, IsAtLevel, HasFences}
use Rattle.bz_slotted.proofs.Faults.{whole-none, inner-whole-none}
use Rattle.bz_slotted.proofs.Lists.{part-at}
use Rattle.bz_slotted.proofs.Readings.{unpacked_key-some}

absent : (words : List ℕ) → high_len words ≡ 0 → high_in words ≡ None
absent words none = grind (arith, nat_tests)

present : (words : List ℕ) → high_len words ≢ 0 → high_in words ≡ Some (unpacked (high_len words) (high_part words))
present words some = grind (arith, nat_tests)

is-some : {A : Type 0} (o : Option A) (x : A) → o ≡ Some x → IsSome o
is-some o x e = rw e refl

fence-ends : (words : List ℕ) (hi : Option (List ℕ)) → length words ≡ NODE_WORDS → node_of words HEADER_AT < 2 ^ 32 → IsFence (node_of words) HIGH_FENCE_AT (high_len words) hi → EndsAt words hi
fence-ends words None size header f = record {
  readable = record { header = header; key = λ some. absurd (some f.0) };
  high = absent words f.0;
}
fence-ends words (Some key) size header f =
    let u = unpacked_key-sound (high_len words) (words_at (node_of words) HIGH_FENCE_AT (packed_len (high_len words))) key f in
    let some : high_len words ≢ 0 = omega (arith, u.0.some, u.1) in
    let is : unpacked_key (high_len words) (high_part words) ≡ Some key =
    ap (unpacked_key (high_len words)) (sym (part-at words HIGH_FENCE_AT (packed_len (high_len words)) (omega (arith, size, u.0.fits, u.1)))) ∙ f in
    let read : IsSome (unpacked_key (high_len words) (high_part words)) = is-some (unpacked_key (high_len words) (high_part words)) key is in
    record {
      readable = record { header = header; key = λ _. read };
      high = present words some ∙ (sym (unpacked_key-some (high_len words) (high_part words) read) ∙ is);
    }

ends : (words : List ℕ) (l : ℕ) (lo hi : Option (List ℕ)) → length words ≡ NODE_WORDS → IsAtLevel (page (node_of words)) l → HasFences (page (node_of words)) lo hi → EndsAt words hi
ends words l lo hi size level fences = fence-ends words hi size level.header fences.high

pub high-fences : HighFencesAreRead
high-fences nodes raw words zero lo hi size none =
    let w = whole-none nodes raw (node_of words) lo hi none in
    ends words 0 lo hi size w.level w.fences
high-fences nodes raw words (suc l) lo hi size none =
    let w = inner-whole-none nodes raw (node_of words) (suc l) lo hi (omega arith) none in
    ends words (suc l) lo hi size w.level w.fences
