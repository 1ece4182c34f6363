-- The children that are read of an inner node that breaks no rule make a node; so one of them may be parted.
use Rattle.std.proofs.Common.{◌≡◌, ℕ, ◌+◌, ◌<◌, ◌≤◌, ◌==◌, if◌then◌else◌, true, false, List, [], length, get_or, arith, refl, sym, ap, subst, ◌∙◌, inl, inr, Option}
use Rattle.std.specs.Prelude.{All, Some, None, IsSome}
use Rattle.std.proofs.lemmas.Bool.{cases_eq}
use Rattle.std.proofs.lemmas.Bool.Decides.{nat_tests}
use Rattle.std.proofs.lemmas.List.{get_or_default}
use Rattle.bz_key.specs.Bytes.{IsKey}
use Rattle.bz_key.specs.Packing.{packed_len, unpacked, unpacked_key}
use Rattle.bz_key.proofs.UnpackingLaws.{unpacked_key-sound}
use Rattle.bz_layout.specs.declared.limits.TheConstants.{MAX_NODES}
use Rattle.bz_layout.specs.declared.sizes.TheConstants.{LOW_FENCE_AT, HIGH_FENCE_AT}
use Rattle.bz_node.specs.Layout.{bound_of}
use Rattle.bz_node.specs.Reading.{children_in}
use Rattle.bz_node.specs.Records.{IsChild, IsBound, IsChildList, IsAbove, IsBelow, IsBefore, AreRising, separators_of}
use Rattle.bz_node.specs.declared.child.Child.{Child}
use Rattle.bz_slotted.specs.FromShape.Order.{is_above, is_below}
use Rattle.bz_slotted.specs.Laws.{RisesBetween}
use Rattle.bz_slotted.specs.Page.{words_at, extent_of, page}
use Rattle.bz_slotted.specs.Readers.{count_of, key_of}
use Rattle.bz_slotted.specs.ReadingLaws.{node_of, child_read, ReadsAsChildren}
use Rattle.bz_slotted.specs.Records.{key_words}
use Rattle.bz_slotted.specs.Whole.{IsFence, WholeInner}
use Rattle.bz_slotted.proofs.Honest.{lt-t}
use Rattle.bz_slotted.proofs.MadeLeaves.{test-before}
use Rattle.bz_slotted.proofs.Readings.{unpacked_key-some}
use Rattle.bz_slotted.proofs.Proved.{inner_keys_rise, inner_rules_are_facts, whole_inners_are_readable}
use Rattle.bz_halves.specs.Parents.{HasChildren, ReadChildrenMayBeParted}
use Rattle.bz_halves.proofs.Parents.{separator-is, separator-count}

key-packs : (len : ℕ) (words : List ℕ) → IsSome (unpacked_key len words) → IsKey (unpacked len words)
key-packs len words s = (unpacked_key-sound len words (unpacked len words) (unpacked_key-some len words s)).0

pub no-bytes : (len : ℕ) (words : List ℕ) → len ≡ 0 → unpacked len words ≡ []
unfolding unpacked
no-bytes len words e = subst (λ z. unpacked z words ≡ []) (sym e) refl

-- a fence is a key, or none
fence-bound : (n : ℕ → ℕ) (at len : ℕ) (bound : Option (List ℕ)) → IsFence n at len bound → IsBound bound
fence-bound n at len None f = tt
fence-bound n at len (Some key) f = (unpacked_key-sound len (words_at n at (packed_len len)) key f).0

above-said : (low : Option (List ℕ)) (key : List ℕ) → is_above key low ≡ true → IsAbove low key
above-said None key e = tt
above-said (Some low) key e = test-before low key e

below-said : (high : Option (List ℕ)) (key : List ℕ) → is_below key high ≡ true → IsBelow high key
below-said None key e = tt
below-said (Some high) key e = test-before key high e

zero-test : (j : ℕ) → j < 1 → (j == 0) ≡ true
zero-test j l = grind (arith, nat_tests)

some-test : (j : ℕ) → 0 < j → (j == 0) ≡ false
some-test j l = grind (arith, nat_tests)

abbrev none : Child
none = record { low = None; slot = 0 }

module _ (nodes : ℕ) (raw : ℕ → ℕ) (words : List ℕ) (level : ℕ) (low high : Option (List ℕ)) (few : nodes ≤ MAX_NODES) (reads : ReadsAsChildren words) (w : WholeInner nodes raw (page (node_of words)) level low high) (rise : RisesBetween nodes (node_of words) low high) where
  abbrev n : ℕ → ℕ
  n = node_of words

  abbrev cs : List Child
  cs = children_in words

  counted : count_of n ≡ (page n).count
  unfolding count_of
  counted = refl

  pub child-is : (j : ℕ) (d : Child) → j < length cs → get_or cs j d ≡ child_read n j
  child-is j d l = reads.children j d (omega (arith, l, reads.count))

  -- the keys of the records: the first has none
  first-key : key_of n 0 ≡ []
  unfolding key_of
  first-key = rw (lt-t 0 (page n).count w.settled.some) (no-bytes (extent_of ((page n).meta 0)).key (key_words n (extent_of ((page n).meta 0))) ((w.lengths 0 w.settled.some).first refl))

  is-key : (j : ℕ) → 0 < j → j < (page n).count → IsKey (key_of n j)
  unfolding key_of
  is-key j some l = rw (lt-t j (page n).count l) (key-packs (extent_of ((page n).meta j)).key (key_words n (extent_of ((page n).meta j))) (w.key j some l).packs)

  -- the lower bound of a child
  abbrev low_read : ℕ → Option (List ℕ)
  low_read j = if j == 0 then None else Some (key_of n j)

  no-low : (j : ℕ) → j < 1 → low_read j ≡ None
  no-low j l = rw (zero-test j l) refl

  some-low : (j : ℕ) → 0 < j → low_read j ≡ Some (key_of n j)
  some-low j l = rw (some-test j l) refl

  pub bound-read : (j : ℕ) → bound_of (low_read j) ≡ key_of n j
  bound-read j = elim (cases_eq j 0) [
    | inl e ↦ ap bound_of (no-low j (omega (arith, e))) ∙ (sym first-key ∙ ap (key_of n) (sym e))
    | inr ne ↦ ap bound_of (some-low j (omega (arith, ne)))
  ]

  bound-there : (j : ℕ) → j < (page n).count → IsBound (low_read j)
  bound-there j l = elim (cases_eq j 0) [
    | inl e ↦ subst IsBound (sym (no-low j (omega (arith, e)))) tt
    | inr ne ↦ subst IsBound (sym (some-low j (omega (arith, ne)))) (is-key j (omega (arith, ne)) l)
  ]

  pub each : All IsChild cs
  each j d l =
      let inside : j < count_of n = omega (arith, l, reads.count) in
      subst IsChild (sym (child-is j d l)) (record { low = bound-there j (omega (arith, inside, counted)); slot = omega (arith, rise.slots j inside, few) })

  separator-read : (i : ℕ) → i + 1 < length cs → get_or (separators_of cs) i [] ≡ key_of n (i + 1)
  separator-read i l = separator-is cs i l ∙ (ap (λ (c : Child). bound_of c.low) (child-is (i + 1) none l) ∙ bound-read (i + 1))

  some : 0 < length cs
  some = omega (arith, reads.count, rise.some)

  separators : (i : ℕ) → i < length (separators_of cs) → i + 1 < length cs
  separators i l = omega (arith, l, separator-count cs some)

  read-at : (i : ℕ) (d : List ℕ) → i < length (separators_of cs) → key_of n (i + 1) ≡ get_or (separators_of cs) i d
  read-at i d l = sym (get_or_default (separators_of cs) i d [] l ∙ separator-read i (separators i l))

  rising : AreRising (separators_of cs)
  rising i j less l =
      let inside : j + 1 < length cs = separators j l in
      subst (λ z. IsBefore z (get_or (separators_of cs) j [])) (read-at i [] (omega (arith, less, l)))
      (subst (IsBefore (key_of n (i + 1))) (read-at j [] l) (test-before (key_of n (i + 1)) (key_of n (j + 1)) (rise.rise (i + 1) (j + 1) (omega arith) (omega (arith, less)) (omega (arith, inside, reads.count)))))

  pub list : IsChildList cs low high
  list = record {
    some = some;
    first = λ j d l f. ap (λ (c : Child). c.low) (child-is j d l) ∙ no-low j f;
    others = λ j d l f. subst IsSome (sym (ap (λ (c : Child). c.low) (child-is j d l) ∙ some-low j f)) refl;
    rising = rising;
    above = λ i d l. subst (IsAbove low) (read-at i d l) (above-said low (key_of n (i + 1)) (rise.first (i + 1) (omega arith) (omega (arith, separators i l, reads.count))));
    below = λ i d l. subst (IsBelow high) (read-at i d l) (below-said high (key_of n (i + 1)) (rise.last (i + 1) (omega arith) (omega (arith, separators i l, reads.count))));
  }

  pub has : HasChildren n cs
  has = record {
    count = sym reads.count;
    child = λ j l. sym (ap (λ (c : Child). c.slot) (child-is j none l));
    key = λ j l. sym (ap (λ (c : Child). bound_of c.low) (child-is j none l) ∙ bound-read j);
  }

  pub slots : (j : ℕ) (d : Child) → j < length cs → (get_or cs j d).slot < nodes
  slots j d l = subst (λ (c : Child). c.slot < nodes) (sym (child-is j d l)) (rise.slots j (omega (arith, l, reads.count)))

  pub low-bound : IsBound low
  low-bound = fence-bound n LOW_FENCE_AT (page n).low low w.fences.low

  pub high-bound : IsBound high
  high-bound = fence-bound n HIGH_FENCE_AT (page n).high high w.fences.high

pub may-part : ReadChildrenMayBeParted
may-part nodes raw words level low high i separator few inner size none within key above below =
    let reads : ReadsAsChildren words = whole_inners_are_readable nodes raw words level low high few inner size none in
    let w : WholeInner nodes raw (page (node_of words)) level low high = (inner_rules_are_facts nodes raw (node_of words) level low high inner).0 none in
    let rise : RisesBetween nodes (node_of words) low high = inner_keys_rise nodes raw (node_of words) level low high inner none in
    record {
      readable = reads.readable;
      may = record {
        each = each nodes raw words level low high few reads w rise;
        low_bound = low-bound nodes raw words level low high few reads w rise;
        high_bound = high-bound nodes raw words level low high few reads w rise;
        list = list nodes raw words level low high few reads w rise;
        within = within;
        key = key;
        above = above;
        below = below;
      };
      has = has nodes raw words level low high few reads w rise;
      slots = slots nodes raw words level low high few reads w rise;
    }
