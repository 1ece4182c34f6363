-- How many words the two parts take, of children that are cut.
use Rattle.std.proofs.Common.{◌≡◌, ℕ, suc, ◌+◌, ◌-◌, ◌*◌, ◌<◌, ◌≤◌, ◌++◌, List, [], ◌∷◌, length, map, take, drop, get_or, drop-cons, arith, sym, ap, subst, ◌∙◌, inl, inr, Option}
use Rattle.std.specs.Prelude.{Some, None}
use Rattle.std.proofs.lemmas.Bool.{cases_lt}
use Rattle.std.proofs.lemmas.List.{map-append, take-append-drop, take_all, get_or_default, length-append}
use Rattle.bz_key.specs.Packing.{packed}
use Rattle.bz_key.proofs.PackingLaws.{length-packed}
use Rattle.bz_key.specs.declared.limits.TheConstants.{KEY_BYTES}
use Rattle.bz_layout.specs.Rooms.{AreHalves}
use Rattle.bz_layout.specs.declared.thresholds.TheConstants.{INNER_LIMIT, INNER_RECORD_WORDS}
use Rattle.bz_layout.proofs.Laws.{inner_splits_in_halves}
use Rattle.bz_node.specs.Layout.{block, bound_of, needed}
use Rattle.bz_node.specs.Records.{child_entry, IsBound, IsChild}
use Rattle.bz_node.specs.declared.child.Child.{Child}
use Rattle.bz_node.proofs.Parts.{needed-append, needed_more, needed_nil}
use Rattle.bz_halves.specs.Parents.{child_at}
use Rattle.bz_parted.specs.Parting.{child_words, IsParting, separator_of, right_half}
use Rattle.bz_parted.specs.Laws.{IsSplitInner}

-- a child takes its metadata word, the words of its lower bound, and its pointer
abbrev pub size_of : Child → ℕ
size_of c = 1 + length (child_entry c).words

pub size-is : (c : Child) → size_of c ≡ 2 + length (packed (bound_of c.low))
size-is c = omega (arith, length-append (packed (bound_of c.low)) ((c.slot + 1) ∷ []))

bound-short : (low : Option (List ℕ)) → IsBound low → length (bound_of low) ≤ KEY_BYTES
bound-short None b = omega arith
bound-short (Some key) b = b.fits

pub size-small : (c : Child) → IsChild c → size_of c ≤ INNER_RECORD_WORDS
size-small c h = omega (arith, size-is c, length-packed (bound_of c.low), bound-short c.low h.low)

pub words-parts : (cs : List Child) (m : ℕ) → child_words (take m cs) + child_words (drop m cs) ≡ child_words cs
words-parts cs m =
    let parts : needed (map child_entry (take m cs ++ drop m cs)) ≡ child_words (take m cs) + child_words (drop m cs) =
    rw (map-append child_entry (take m cs) (drop m cs)) (needed-append (map child_entry (take m cs)) (map child_entry (drop m cs))) in
    sym (rw (take-append-drop m cs) at parts)

-- one child more
pub words-more : (cs : List Child) (i : ℕ) (c : Child) → i < length cs → c ≡ get_or cs i c → child_words (take (i + 1) cs) ≡ child_words (take i cs) + size_of c
words-more cs i c within is = omega (arith, needed_more child_entry cs i c within is)

pub words-none : (cs : List Child) → child_words (take 0 cs) ≡ 0
words-none cs = needed_nil

-- with one child before them
pub words-first : (c : Child) (cs : List Child) → child_words (c ∷ cs) ≡ child_words cs + size_of c
unfolding block
words-first c cs = omega (arith, length-append (block (map child_entry cs)) (child_entry c).words)

abbrev none : Child
none = record { low = None; slot = 0 }

-- the right half is what is behind the cut, less a key
pub right-words : (cs : List Child) (cut : ℕ) → cut < length cs → child_words (right_half cs cut) + length (packed (separator_of cs cut)) ≡ child_words (drop cut cs)
right-words cs cut l =
    let c : Child = child_at cs cut in
    let next : cut + 1 ≡ suc cut = omega arith in
    let is : drop cut cs ≡ c ∷ drop (cut + 1) cs = drop-cons cs cut none l ∙ ap (λ z. c ∷ drop z cs) (sym next) in
    let first : Child = record { low = None; slot = c.slot } in
    omega (arith, ap child_words is, words-first c (drop (cut + 1) cs), words-first first (drop (cut + 1) cs), size-is c, size-is first, length-packed [])

module _ (cs : List Child) (low high : Option (List ℕ)) (cut : ℕ) (s : IsSplitInner cs low high) (c : IsParting cs cut) where
  pub some : 0 < cut
  some = elim (cases_lt 0 cut) [
    | inl l ↦ l
    | inr none_left ↦ (
        let zero : cut ≡ 0 = omega (arith, none_left) in
        let few : child_words cs ≤ 2 * child_words (take 0 cs) = subst (λ z. child_words cs ≤ 2 * child_words (take z cs)) zero c.enough in
        absurd (omega (arith, few, words-none cs, s.many)))
  ]

  -- the last child of the left half
  last-in : cut - 1 < length cs
  last-in = elim (cases_lt (cut - 1) (length cs)) [
    | inl l ↦ l
    | inr past ↦ absurd (omega (arith, c.fewest (cut - 1) (omega (arith, some)), ap child_words (take_all (cut - 1) cs past)))
  ]

  abbrev last : Child
  last = child_at cs (cut - 1)

  left-is : child_words (take cut cs) ≡ child_words (take (cut - 1) cs) + size_of last
  left-is =
      let e : cut - 1 + 1 ≡ cut = omega (arith, some) in
      rw e at (words-more cs (cut - 1) last last-in (same last-in))
    where
      same : cut - 1 < length cs → get_or cs (cut - 1) none ≡ get_or cs (cut - 1) (get_or cs (cut - 1) none)
      same l = get_or_default cs (cut - 1) none (get_or cs (cut - 1) none) l

  parts : AreHalves (child_words cs) (child_words (take (cut - 1) cs) + size_of last) INNER_LIMIT
  parts = inner_splits_in_halves (child_words cs) (child_words (take (cut - 1) cs)) (size_of last) s.many s.room
      (record { too_few = c.fewest (cut - 1) (omega (arith, some)); enough = omega (arith, c.enough, left-is) }) (size-small last (s.each (cut - 1) none last-in))

  pub left-room : child_words (take cut cs) ≤ INNER_LIMIT
  left-room = omega (arith, parts.left_small, left-is)

  pub more : cut < length cs
  more = elim (cases_lt cut (length cs)) [
    | inl l ↦ l
    | inr past ↦ absurd (omega (arith, parts.right_some, left-is, ap child_words (take_all cut cs past)))
  ]

  pub right-room : child_words (right_half cs cut) ≤ INNER_LIMIT
  right-room = omega (arith, parts.right_small, left-is, words-parts cs cut, right-words cs cut more)
