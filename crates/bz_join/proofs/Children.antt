-- The children of a node of which two neighbours are made one, as they are read from its words: each is a child that was read, but
-- for the slot of the one.
use Rattle.std.proofs.Common.{◌≡◌, ℕ, suc, ◌+◌, ◌<◌, ◌≤◌, ◌==◌, if◌then◌else◌, true, false, List, [], ◌∷◌, length, map, get_or, slice_set, arith, refl, sym, ap, subst, ◌∙◌, inl, inr, Option}
use Rattle.std.specs.Prelude.{All, Some, None, IsSome}
use Rattle.std.proofs.lemmas.Bool.{cases_lt, cases_eq}
use Rattle.std.proofs.lemmas.Bool.Decides.{nat_tests}
use Rattle.std.proofs.lemmas.List.{get_or-set_same, get_or-set_other, get_or-map, get_or_default, length-map, length-set}
use Rattle.std.proofs.lemmas.List.Edits.{get_or-remove_below, get_or-remove_above, length-remove}
use Rattle.bz_key.specs.Bytes.{IsKey}
use Rattle.bz_key.specs.Packing.{packed_len, unpacked, unpacked_key}
use Rattle.bz_key.proofs.UnpackingLaws.{unpacked_key-sound}
use Rattle.bz_layout.specs.declared.limits.TheConstants.{MAX_NODES}
use Rattle.bz_layout.specs.declared.sizes.TheConstants.{LOW_FENCE_AT, HIGH_FENCE_AT}
use Rattle.bz_node.specs.Layout.{bound_of}
use Rattle.bz_node.specs.Reading.{children_in}
use Rattle.bz_node.specs.Records.{IsChild, IsBound, IsChildList, IsAbove, IsBelow, IsBefore, AreRising, separators_of}
use Rattle.bz_node.specs.declared.child.Child.{Child}
use Rattle.bz_node.proofs.Unpacked.{unpacked_key-some}
use Rattle.bz_tree.specs.Order.{is_above, is_below}
use Rattle.bz_slotted.specs.Laws.{RisesBetween}
use Rattle.bz_slotted.specs.Page.{words_at, extent_of, page}
use Rattle.bz_slotted.specs.Readers.{count_of, child_of, key_of}
use Rattle.bz_slotted.specs.ReadingLaws.{node_of, child_read, ReadsAsChildren}
use Rattle.bz_slotted.specs.Records.{key_words}
use Rattle.bz_slotted.specs.Whole.{IsFence, WholeInner}
use Rattle.bz_slotted.proofs.Honest.{lt-t}
use Rattle.bz_slotted.proofs.MadeLeaves.{test-before}
use Rattle.bz_halves.specs.Parents.{child_at, HasChildren}
use Rattle.bz_join.specs.Parents.{joined}

key-packs : (len : ℕ) (words : List ℕ) → IsSome (unpacked_key len words) → IsKey (unpacked len words)
key-packs len words s = (unpacked_key-sound len words (unpacked len words) (unpacked_key-some len words s)).0

no-bytes : (len : ℕ) (words : List ℕ) → len ≡ 0 → unpacked len words ≡ []
unfolding unpacked
no-bytes len words e = subst (λ z. unpacked z words ≡ []) (sym e) refl

-- a fence is a key, or none
fence-bound : (n : ℕ → ℕ) (at len : ℕ) (bound : Option (List ℕ)) → IsFence n at len bound → IsBound bound
fence-bound n at len None f = tt
fence-bound n at len (Some key) f = (unpacked_key-sound len (words_at n at (packed_len len)) key f).0

above-said : (low : Option (List ℕ)) (key : List ℕ) → is_above key low ≡ true → IsAbove low key
above-said None key e = tt
above-said (Some low) key e = test-before low key e

below-said : (high : Option (List ℕ)) (key : List ℕ) → is_below key high ≡ true → IsBelow high key
below-said None key e = tt
below-said (Some high) key e = test-before key high e

zero-test : (j : ℕ) → j < 1 → (j == 0) ≡ true
zero-test j l = grind (arith, nat_tests)

some-test : (j : ℕ) → 0 < j → (j == 0) ≡ false
some-test j l = grind (arith, nat_tests)

abbrev pub none : Child
none = record { low = None; slot = 0 }

-- separator k is the lower bound of child k + 1
separator-is : (cs : List Child) (k : ℕ) → k + 1 < length cs → get_or (separators_of cs) k [] ≡ bound_of (child_at cs (k + 1)).low
separator-is [] k l = absurd (omega (arith, l))
separator-is (c ∷ rest) k l =
    let e : k + 1 ≡ suc k = omega arith in
    subst (λ z. get_or (map (λ (x : Child). bound_of x.low) rest) k [] ≡ bound_of (child_at (c ∷ rest) z).low) (sym e) (get_or-map (λ (x : Child). bound_of x.low) rest k (record { low = None; slot = 0 }) [] (omega (arith, l)))

separator-count : (cs : List Child) → 0 < length cs → length (separators_of cs) + 1 ≡ length cs
separator-count [] some = absurd (omega (arith, some))
separator-count (c ∷ rest) some = omega (arith, length-map rest (λ (x : Child). bound_of x.low))

-- the joined children, one by one
module _ (cs : List Child) (i slot : ℕ) (within : i + 1 < length cs) where
  abbrev one : Child
  one = record { low = (child_at cs i).low; slot = slot }

  abbrev set : List Child
  set = slice_set cs i one

  long : length set ≡ length cs
  long = length-set cs i one

  pub count : length (joined cs i slot) + 1 ≡ length cs
  count = omega (arith, length-remove set (i + 1) (omega (arith, long, within)), long, within)

  at-low : (j : ℕ) (d : Child) → j < i + 1 → get_or (joined cs i slot) j d ≡ get_or set j d
  at-low j d l = get_or-remove_below set (i + 1) d j l (omega (arith, long, within))

  pub at-before : (j : ℕ) (d : Child) → j < i → get_or (joined cs i slot) j d ≡ get_or cs j d
  at-before j d l = at-low j d (omega (arith, l)) ∙ get_or-set_other cs i j one d (λ e. absurd (omega (arith, l, e)))

  pub at-one : (d : Child) → get_or (joined cs i slot) i d ≡ one
  at-one d = at-low i d (omega arith) ∙ get_or-set_same cs i one d (omega (arith, within))

  pub at-after : (j : ℕ) (d : Child) → i < j → get_or (joined cs i slot) j d ≡ get_or cs (j + 1) d
  at-after j d l = get_or-remove_above set (i + 1) d j (omega (arith, l)) (omega (arith, long, within)) ∙ get_or-set_other cs i (j + 1) one d (λ e. absurd (omega (arith, l, e)))

-- the children of an inner node that breaks no rule
module _ (nodes : ℕ) (raw : ℕ → ℕ) (words : List ℕ) (level : ℕ) (low high : Option (List ℕ)) (few : nodes ≤ MAX_NODES) (reads : ReadsAsChildren words) (w : WholeInner nodes raw (page (node_of words)) level low high) (rise : RisesBetween nodes (node_of words) low high) where
  abbrev n : ℕ → ℕ
  n = node_of words

  abbrev cs : List Child
  cs = children_in words

  counted : count_of n ≡ (page n).count
  unfolding count_of
  counted = refl

  pub child-is : (j : ℕ) (d : Child) → j < length cs → get_or cs j d ≡ child_read n j
  child-is j d l = reads.children j d (omega (arith, l, reads.count))

  -- the keys of the records: the first has none
  first-key : key_of n 0 ≡ []
  unfolding key_of
  first-key = rw (lt-t 0 (page n).count w.settled.some) (no-bytes (extent_of ((page n).meta 0)).key (key_words n (extent_of ((page n).meta 0))) ((w.lengths 0 w.settled.some).first refl))

  is-key : (j : ℕ) → 0 < j → j < (page n).count → IsKey (key_of n j)
  unfolding key_of
  is-key j some l = rw (lt-t j (page n).count l) (key-packs (extent_of ((page n).meta j)).key (key_words n (extent_of ((page n).meta j))) (w.key j some l).packs)

  -- the lower bound of a child
  abbrev low_read : ℕ → Option (List ℕ)
  low_read j = if j == 0 then None else Some (key_of n j)

  pub no-low : (j : ℕ) → j < 1 → low_read j ≡ None
  no-low j l = rw (zero-test j l) refl

  pub some-low : (j : ℕ) → 0 < j → low_read j ≡ Some (key_of n j)
  some-low j l = rw (some-test j l) refl

  pub bound-read : (j : ℕ) → bound_of (low_read j) ≡ key_of n j
  bound-read j = elim (cases_eq j 0) [
    | inl e ↦ ap bound_of (no-low j (omega (arith, e))) ∙ (sym first-key ∙ ap (key_of n) (sym e))
    | inr ne ↦ ap bound_of (some-low j (omega (arith, ne)))
  ]

  pub bound-there : (j : ℕ) → j < (page n).count → IsBound (low_read j)
  bound-there j l = elim (cases_eq j 0) [
    | inl e ↦ subst IsBound (sym (no-low j (omega (arith, e)))) tt
    | inr ne ↦ subst IsBound (sym (some-low j (omega (arith, ne)))) (is-key j (omega (arith, ne)) l)
  ]

  pub has : HasChildren n cs
  has = record {
    count = sym reads.count;
    child = λ j l. sym (ap (λ (c : Child). c.slot) (child-is j none l));
    key = λ j l. sym (ap (λ (c : Child). bound_of c.low) (child-is j none l) ∙ bound-read j);
  }

  pub low-bound : IsBound low
  low-bound = fence-bound n LOW_FENCE_AT (page n).low low w.fences.low

  pub high-bound : IsBound high
  high-bound = fence-bound n HIGH_FENCE_AT (page n).high high w.fences.high

  -- with two of them made one
  module _ (i slot : ℕ) (within : i + 1 < count_of n) where
    two : i + 1 < length cs
    two = omega (arith, within, reads.count)

    abbrev js : List Child
    js = joined cs i slot

    fewer : length js + 1 ≡ count_of n
    fewer = omega (arith, count cs i slot two, reads.count)

    -- up to the one each is the child that stood there, and after it the next one
    low-before : (j : ℕ) (d : Child) → j ≤ i → (get_or js j d).low ≡ low_read j
    low-before j d l = elim (cases_lt j i) [
      | inl less ↦ ap (λ (c : Child). c.low) (at-before cs i slot two j d less ∙ child-is j d (omega (arith, l, two)))
      | inr past ↦ (
          let e : i ≡ j = omega (arith, l, past) in
          subst (λ z. (get_or js z d).low ≡ low_read z) e (ap (λ (c : Child). c.low) (at-one cs i slot two d) ∙ ap (λ (c : Child). c.low) (child-is i none (omega (arith, two)))))
    ]

    low-after : (j : ℕ) (d : Child) → i < j → j < length js → (get_or js j d).low ≡ low_read (j + 1)
    low-after j d l m = ap (λ (c : Child). c.low) (at-after cs i slot two j d l ∙ child-is (j + 1) d (omega (arith, m, fewer, reads.count)))

    slot-before : (j : ℕ) (d : Child) → j < i → (get_or js j d).slot ≡ child_of n j
    slot-before j d l = ap (λ (c : Child). c.slot) (at-before cs i slot two j d l ∙ child-is j d (omega (arith, l, two)))

    slot-one : (d : Child) → (get_or js i d).slot ≡ slot
    slot-one d = ap (λ (c : Child). c.slot) (at-one cs i slot two d)

    slot-after : (j : ℕ) (d : Child) → i < j → j < length js → (get_or js j d).slot ≡ child_of n (j + 1)
    slot-after j d l m = ap (λ (c : Child). c.slot) (at-after cs i slot two j d l ∙ child-is (j + 1) d (omega (arith, m, fewer, reads.count)))

    -- the lower bound of each is the key of a record
    pub bound-before : (j : ℕ) → j ≤ i → bound_of (get_or js j none).low ≡ key_of n j
    bound-before j l = ap bound_of (low-before j none l) ∙ bound-read j

    pub bound-after : (j : ℕ) → i < j → j < length js → bound_of (get_or js j none).low ≡ key_of n (j + 1)
    bound-after j l m = ap bound_of (low-after j none l m) ∙ bound-read (j + 1)

    -- which record that is
    record IsKeyOf (j r : ℕ) : Type 0 where
      from : j ≤ r
      to : r ≤ j + 1
      late : i < j → r ≡ j + 1
      early : j ≤ i → r ≡ j
      is : bound_of (get_or js j none).low ≡ key_of n r

    which : (j : ℕ) → j < length js → (r : ℕ) × IsKeyOf j r
    which j l = elim (cases_lt i j) [
      | inl after ↦ (j + 1, record { from = omega arith; to = omega arith; late = λ h. refl; early = λ h. absurd (omega (arith, h, after)); is = bound-after j after l })
      | inr before ↦ (j, record { from = omega arith; to = omega arith; late = λ h. absurd (omega (arith, h, before)); early = λ h. refl; is = bound-before j before })
    ]

    some : 0 < length js
    some = omega (arith, fewer, within)

    first : (j : ℕ) (d : Child) → j < length js → j < 1 → (get_or js j d).low ≡ None
    first j d l f = low-before j d (omega (arith, f)) ∙ no-low j f

    others : (j : ℕ) (d : Child) → j < length js → 1 ≤ j → IsSome (get_or js j d).low
    others j d l f = elim (cases_lt i j) [
      | inl after ↦ subst IsSome (sym (low-after j d after l ∙ some-low (j + 1) (omega arith))) refl
      | inr before ↦ subst IsSome (sym (low-before j d before ∙ some-low j (omega (arith, f)))) refl
    ]

    inside : (k : ℕ) → k < length (separators_of js) → k + 1 < length js
    inside k l = omega (arith, l, separator-count js some)

    sep-at : (k : ℕ) (d : List ℕ) → k < length (separators_of js) → (r : ℕ) → IsKeyOf (k + 1) r → key_of n r ≡ get_or (separators_of js) k d
    sep-at k d l r e = sym (get_or_default (separators_of js) k d [] l ∙ (separator-is js k (inside k l) ∙ e.is))

    rising : AreRising (separators_of js)
    rising a b less l =
        let p : (r : ℕ) × IsKeyOf (a + 1) r = which (a + 1) (omega (arith, less, inside b l)) in
        let q : (r : ℕ) × IsKeyOf (b + 1) r = which (b + 1) (inside b l) in
        subst (λ z. IsBefore z (get_or (separators_of js) b [])) (sep-at a [] (omega (arith, less, l)) p.0 p.1)
        (subst (IsBefore (key_of n p.0)) (sep-at b [] l q.0 q.1) (test-before (key_of n p.0) (key_of n q.0) (rise.rise p.0 q.0 (omega (arith, p.1.from)) (apart p.0 q.0 p.1 q.1) (omega (arith, q.1.to, inside b l, fewer)))))
      where
        apart : (r t : ℕ) → IsKeyOf (a + 1) r → IsKeyOf (b + 1) t → r < t
        apart r t e f = elim (cases_lt i (b + 1)) [
          | inl late ↦ omega (arith, f.late late, e.to, less)
          | inr early ↦ omega (arith, f.early early, e.early (omega (arith, early, less)), less)
        ]

    pub list : IsChildList js low high
    list = record {
      some = some;
      first = first;
      others = others;
      rising = rising;
      above = λ k d l. (let p : (r : ℕ) × IsKeyOf (k + 1) r = which (k + 1) (inside k l) in
          subst (IsAbove low) (sep-at k d l p.0 p.1) (above-said low (key_of n p.0) (rise.first p.0 (omega (arith, p.1.from)) (omega (arith, p.1.to, inside k l, fewer)))));
      below = λ k d l. (let p : (r : ℕ) × IsKeyOf (k + 1) r = which (k + 1) (inside k l) in
          subst (IsBelow high) (sep-at k d l p.0 p.1) (below-said high (key_of n p.0) (rise.last p.0 (omega (arith, p.1.from)) (omega (arith, p.1.to, inside k l, fewer)))));
    }

    pub slots : slot < nodes → (j : ℕ) (d : Child) → j < length js → (get_or js j d).slot < nodes
    slots new j d l = elim (cases_lt j i) [
      | inl before ↦ subst (λ z. z < nodes) (sym (slot-before j d before)) (rise.slots j (omega (arith, before, within)))
      | inr past ↦ elim (cases_lt i j) [
        | inl after ↦ subst (λ z. z < nodes) (sym (slot-after j d after l)) (rise.slots (j + 1) (omega (arith, l, fewer)))
        | inr at ↦ (let e : i ≡ j = omega (arith, past, at) in subst (λ z. (get_or js z d).slot < nodes) e (subst (λ z. z < nodes) (sym (slot-one d)) new))
      ]
    ]

    pub lows : (j : ℕ) (d : Child) → j < length js → IsBound (get_or js j d).low
    lows j d l = elim (cases_lt i j) [
      | inl after ↦ subst IsBound (sym (low-after j d after l)) (bound-there (j + 1) (omega (arith, l, fewer, counted)))
      | inr before ↦ subst IsBound (sym (low-before j d before)) (bound-there j (omega (arith, before, within, counted)))
    ]

    pub each : slot < nodes → All IsChild js
    each new j d l = record { low = lows j d l; slot = omega (arith, slots new j d l, few) }
