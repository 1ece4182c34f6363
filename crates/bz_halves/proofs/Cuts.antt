-- How many words the two parts take, of records that are cut.
use Rattle.std.proofs.Common.{◌≡◌, ℕ, ◌+◌, ◌-◌, ◌*◌, ◌<◌, ◌≤◌, ◌++◌, List, [], length, map, take, drop, get_or, arith, sym, ap, subst, inl, inr, Option}
use Rattle.std.proofs.lemmas.Bool.{cases_lt}
use Rattle.std.proofs.lemmas.List.{map-append, take-append-drop, take_all, get_or_default}
use Rattle.bz_layout.specs.Rooms.{AreHalves}
use Rattle.bz_layout.specs.declared.thresholds.TheConstants.{SPLIT_ABOVE, LEAF_RECORD_WORDS}
use Rattle.bz_layout.proofs.Laws.{leaf_splits_in_halves}
use Rattle.bz_node.specs.Layout.{needed}
use Rattle.bz_node.specs.Records.{pair_entry, IsPair}
use Rattle.bz_node.proofs.Entries.{IsEntry-pair}
use Rattle.bz_node.proofs.Parts.{needed-append, needed_more, needed_nil}
use Rattle.bz_halves.specs.Halves.{record_words, IsCut}
use Rattle.bz_halves.specs.Laws.{IsSplitLeaf}

-- a record takes its metadata word and the words of its key and payload
abbrev pub size_of : List ℕ × List ℕ → ℕ
size_of r = 1 + length (pair_entry r).words

pub size-small : (r : List ℕ × List ℕ) → IsPair r → size_of r ≤ LEAF_RECORD_WORDS
size-small r p = omega (arith, (IsEntry-pair r p.key p.payload).fits)

pub words-parts : (rs : List (List ℕ × List ℕ)) (m : ℕ) → record_words (take m rs) + record_words (drop m rs) ≡ record_words rs
words-parts rs m =
    let parts : needed (map pair_entry (take m rs ++ drop m rs)) ≡ record_words (take m rs) + record_words (drop m rs) =
    rw (map-append pair_entry (take m rs) (drop m rs)) (needed-append (map pair_entry (take m rs)) (map pair_entry (drop m rs))) in
    sym (rw (take-append-drop m rs) at parts)

-- one record more
pub words-more : (rs : List (List ℕ × List ℕ)) (i : ℕ) (r : List ℕ × List ℕ) → i < length rs → r ≡ get_or rs i r → record_words (take (i + 1) rs) ≡ record_words (take i rs) + size_of r
words-more rs i r within is = omega (arith, needed_more pair_entry rs i r within is)

pub words-none : (rs : List (List ℕ × List ℕ)) → record_words (take 0 rs) ≡ 0
words-none rs = needed_nil

module _ (rs : List (List ℕ × List ℕ)) (low high : Option (List ℕ)) (cut : ℕ) (s : IsSplitLeaf rs low high) (c : IsCut rs cut) where
  pub some : 0 < cut
  some = elim (cases_lt 0 cut) [
    | inl l ↦ l
    | inr none ↦ (
        let zero : cut ≡ 0 = omega (arith, none) in
        let few : record_words rs ≤ 2 * record_words (take 0 rs) = subst (λ z. record_words rs ≤ 2 * record_words (take z rs)) zero c.enough in
        absurd (omega (arith, few, words-none rs, s.many)))
  ]

  -- the last record of the left half
  last-in : cut - 1 < length rs
  last-in = elim (cases_lt (cut - 1) (length rs)) [
    | inl l ↦ l
    | inr past ↦ absurd (omega (arith, c.fewest (cut - 1) (omega (arith, some)), ap record_words (take_all (cut - 1) rs past)))
  ]

  abbrev last : List ℕ × List ℕ
  last = get_or rs (cut - 1) ([], [])

  left-is : record_words (take cut rs) ≡ record_words (take (cut - 1) rs) + size_of last
  left-is =
      let e : cut - 1 + 1 ≡ cut = omega (arith, some) in
      rw e at (words-more rs (cut - 1) last last-in (same last-in))
    where
      same : cut - 1 < length rs → get_or rs (cut - 1) ([], []) ≡ get_or rs (cut - 1) (get_or rs (cut - 1) ([], []))
      same l = get_or_default rs (cut - 1) ([], []) (get_or rs (cut - 1) ([], [])) l

  parts : AreHalves (record_words rs) (record_words (take (cut - 1) rs) + size_of last) SPLIT_ABOVE
  parts = leaf_splits_in_halves (record_words rs) (record_words (take (cut - 1) rs)) (size_of last) s.many s.room
      (record { too_few = c.fewest (cut - 1) (omega (arith, some)); enough = omega (arith, c.enough, left-is) }) (size-small last (s.pairs (cut - 1) ([], []) last-in))

  pub left-room : record_words (take cut rs) ≤ SPLIT_ABOVE
  left-room = omega (arith, parts.left_small, left-is)

  pub right-room : record_words (drop cut rs) ≤ SPLIT_ABOVE
  right-room = omega (arith, parts.right_small, left-is, words-parts rs cut)

  pub more : cut < length rs
  more = elim (cases_lt cut (length rs)) [
    | inl l ↦ l
    | inr past ↦ absurd (omega (arith, parts.right_some, left-is, ap record_words (take_all cut rs past)))
  ]
