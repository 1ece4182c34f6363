-- The children of a parent of which one is parted in two make a node.
use Rattle.std.proofs.Common.{◌≡◌, ℕ, zero, suc, ◌+◌, ◌-◌, ◌<◌, ◌≤◌, ◌==◌, if◌then◌else◌, true, false, List, [], ◌∷◌, length, map, take, drop, get_or, slice_set, arith, refl, sym, ap, subst, ◌∙◌, inl, inr, Option}
use Rattle.std.specs.Prelude.{All, Some, None, IsSome}
use Rattle.std.specs.List.{insert}
use Rattle.std.proofs.lemmas.Bool.{cases_lt}
use Rattle.std.proofs.lemmas.Bool.Decides.{nat_tests}
use Rattle.std.proofs.lemmas.List.{length-append, length-set, map-append, get_or-set_same, get_or-set_other, get_or_default, get_or-map, take-map, drop-map, length-map}
use Rattle.std.proofs.lemmas.List.Edits.{get_or-insert_below, get_or-insert_at, get_or-insert_above, length-insert}
use Rattle.bz_key.specs.Packing.{packed}
use Rattle.bz_node.specs.Layout.{block, bound_of, needed}
use Rattle.bz_node.specs.Records.{child_entry, IsChildList, IsAbove, IsBelow, IsBefore, AreRising, separators_of}
use Rattle.bz_node.specs.declared.child.Child.{Child}
use Rattle.bz_node.proofs.Orders.{AreRising-insert, IsBefore-trans}
use Rattle.bz_halves.specs.Parents.{child_at, parted, MayPart, ChildrenMayBeParted}

-- what records need where one is put in, or set to one of as many words
needed-insert : (cs : List Child) (i : ℕ) (c : Child) → needed (map child_entry (insert cs i c)) ≡ needed (map child_entry cs) + 1 + length (child_entry c).words
unfolding block
needed-insert [] zero c = omega arith
needed-insert [] (suc i) c = omega arith
needed-insert (d ∷ cs) zero c = omega (arith, length-append (block (map child_entry (d ∷ cs))) (child_entry c).words)
needed-insert (d ∷ cs) (suc i) c = omega (arith, needed-insert cs i c, length-append (block (map child_entry (insert cs i c))) (child_entry d).words, length-append (block (map child_entry cs)) (child_entry d).words)

needed-set : (cs : List Child) (i : ℕ) (c : Child) → i < length cs → length (child_entry c).words ≡ length (child_entry (child_at cs i)).words → needed (map child_entry (slice_set cs i c)) ≡ needed (map child_entry cs)
unfolding block
needed-set [] i c l e = absurd (omega (arith, l))
needed-set (d ∷ cs) zero c l e = omega (arith, e, length-append (block (map child_entry cs)) (child_entry c).words, length-append (block (map child_entry cs)) (child_entry d).words)
needed-set (d ∷ cs) (suc i) c l e = omega (arith, needed-set cs i c (omega (arith, l)) e, length-append (block (map child_entry (slice_set cs i c))) (child_entry d).words, length-append (block (map child_entry cs)) (child_entry d).words)

-- the lower bound of a child, as bytes
abbrev bound : Child → List ℕ
bound c = bound_of c.low

map-insert : (xs : List Child) (i : ℕ) (c : Child) → map bound (insert xs i c) ≡ insert (map bound xs) i (bound c)
map-insert xs i c = rw (map-append bound (take i xs) (c ∷ drop i xs), take-map bound i xs, drop-map bound i xs) refl

map-set-same : (xs : List Child) (i : ℕ) (c : Child) → bound c ≡ bound (child_at xs i) → map bound (slice_set xs i c) ≡ map bound xs
map-set-same [] i c e = refl
map-set-same (x ∷ xs) zero c e = ap (λ z. z ∷ map bound xs) e
map-set-same (x ∷ xs) (suc i) c e = ap (λ z. bound x ∷ z) (map-set-same xs i c e)

-- the separator of the two halves comes directly after that of child i
separators-insert : (cs : List Child) (i left right : ℕ) (sep : List ℕ) → 0 < length cs → separators_of (parted cs i left right sep) ≡ insert (separators_of cs) i sep
separators-insert [] i left right sep some = absurd (omega (arith, some))
separators-insert (c ∷ rest) i left right sep some =
    let e : i + 1 ≡ suc i = omega arith in
    subst (λ z. map bound (drop 1 (insert (slice_set (c ∷ rest) i (record { low = (child_at (c ∷ rest) i).low; slot = left })) z (record { low = Some sep; slot = right }))) ≡ insert (map bound rest) i sep) (sym e) (go i)
  where
    go : (i : ℕ) → map bound (drop 1 (insert (slice_set (c ∷ rest) i (record { low = (child_at (c ∷ rest) i).low; slot = left })) (suc i) (record { low = Some sep; slot = right }))) ≡ insert (map bound rest) i sep
    go zero = map-insert rest 0 (record { low = Some sep; slot = right })
    go (suc i) =
        map-insert (slice_set rest i (record { low = (child_at rest i).low; slot = left })) (suc i) (record { low = Some sep; slot = right })
        ∙ ap (λ z. insert z (suc i) sep) (map-set-same rest i (record { low = (child_at rest i).low; slot = left }) refl)

-- separator k is the lower bound of child k + 1
pub separator-is : (cs : List Child) (k : ℕ) → k + 1 < length cs → get_or (separators_of cs) k [] ≡ bound (child_at cs (k + 1))
separator-is [] k l = absurd (omega (arith, l))
separator-is (c ∷ rest) k l =
    let e : k + 1 ≡ suc k = omega arith in
    subst (λ z. get_or (map bound rest) k [] ≡ bound (child_at (c ∷ rest) z)) (sym e) (get_or-map bound rest k (record { low = None; slot = 0 }) [] (omega (arith, l)))

pub separator-count : (cs : List Child) → 0 < length cs → length (separators_of cs) + 1 ≡ length cs
separator-count [] some = absurd (omega (arith, some))
separator-count (c ∷ rest) some = omega (arith, length-map rest bound)

pub All-insert : {X : Type 0} (P : X → Type 0) (keys : List X) (i : ℕ) (key : X) → i ≤ length keys → All P keys → P key → All P (insert keys i key)
All-insert P keys i key within all new k d l =
    let long = length-insert keys i key within in
    elim (cases_lt k i) [
      | inl low ↦ subst P (sym (get_or-insert_below keys i key d k low within)) (all k d (omega (arith, low, within)))
      | inr high ↦ elim (cases_lt i k) [
        | inl above ↦ (
            let e : k - 1 + 1 ≡ k = omega (arith, above) in
            subst (λ z. P (get_or (insert keys i key) z d)) e (subst P (sym (get_or-insert_above keys i key d (k - 1) (omega (arith, above)) within)) (all (k - 1) d (omega (arith, l, long, above)))))
        | inr at ↦ (let e : i ≡ k = omega (arith, high, at) in subst (λ z. P (get_or (insert keys i key) z d)) e (subst P (sym (get_or-insert_at keys i key d within)) new))
      ]
    ]

above-trans : (low : Option (List ℕ)) (a b : List ℕ) → IsAbove low a → IsBefore a b → IsAbove low b
above-trans None a b h l = tt
above-trans (Some key) a b h l = IsBefore-trans key a b h l

below-trans : (high : Option (List ℕ)) (a b : List ℕ) → IsBefore a b → IsBelow high b → IsBelow high a
below-trans None a b l h = tt
below-trans (Some key) a b l h = IsBefore-trans a b key l h

-- a bound that is there
above-there : (low : Option (List ℕ)) (key : List ℕ) → IsSome low → IsAbove low key → IsBefore (bound_of low) key
above-there None key s h = absurd (cc)
above-there (Some low) key s h = h

below-there : (high : Option (List ℕ)) (key : List ℕ) → IsSome high → IsBelow high key → IsBefore key (bound_of high)
below-there None key s h = absurd (cc)
below-there (Some high) key s h = h

-- the parted children, one by one
module _ (cs : List Child) (i left right : ℕ) (sep : List ℕ) (within : i < length cs) where
  abbrev half : Child
  half = record { low = (child_at cs i).low; slot = left }

  abbrev other : Child
  other = record { low = Some sep; slot = right }

  abbrev halved : List Child
  halved = slice_set cs i half

  long : length halved ≡ length cs
  long = length-set cs i half

  fits : i + 1 ≤ length halved
  fits = omega (arith, long, within)

  pub count : length (parted cs i left right sep) ≡ length cs + 1
  count = omega (arith, length-insert halved (i + 1) other fits, long)

  -- the children before the separator, at it, and after it
  pub at-low : (j : ℕ) (d : Child) → j < i + 1 → get_or (parted cs i left right sep) j d ≡ get_or halved j d
  at-low j d l = get_or-insert_below halved (i + 1) other d j l fits

  pub at-sep : (d : Child) → get_or (parted cs i left right sep) (i + 1) d ≡ other
  at-sep d = get_or-insert_at halved (i + 1) other d fits

  pub at-high : (j : ℕ) (d : Child) → i < j → get_or (parted cs i left right sep) (j + 1) d ≡ get_or cs j d
  at-high j d l = get_or-insert_above halved (i + 1) other d j (omega (arith, l)) fits ∙ get_or-set_other cs i j half d (λ e. absurd (omega (arith, l, e)))

  pub at-half : (d : Child) → get_or (parted cs i left right sep) i d ≡ half
  at-half d = at-low i d (omega arith) ∙ get_or-set_same cs i half d within

  pub at-before : (j : ℕ) (d : Child) → j < i → get_or (parted cs i left right sep) j d ≡ get_or cs j d
  at-before j d l = at-low j d (omega (arith, l)) ∙ get_or-set_other cs i j half d (λ e. absurd (omega (arith, l, e)))

  -- up to the separator the lower bounds are what they were
  pub low-same : (j : ℕ) (d : Child) → j < i + 1 → (get_or (parted cs i left right sep) j d).low ≡ (get_or cs j d).low
  low-same j d l = elim (cases_lt j i) [
    | inl before ↦ ap (λ (z : Child). z.low) (at-before j d before)
    | inr past ↦ (
        let e : i ≡ j = omega (arith, l, past) in
        subst (λ z. (get_or (parted cs i left right sep) z d).low ≡ (get_or cs z d).low) e
        (ap (λ (z : Child). z.low) (at-half d) ∙ ap (λ (z : Child). z.low) (get_or_default cs i (record { low = None; slot = 0 }) d within)))
  ]

module _ (cs : List Child) (low high : Option (List ℕ)) (i left right : ℕ) (sep : List ℕ) (m : MayPart cs low high i sep) where
  first : (j : ℕ) (d : Child) → j < length (parted cs i left right sep) → j < 1 → (get_or (parted cs i left right sep) j d).low ≡ None
  first j d l f = low-same cs i left right sep m.within j d (omega (arith, f)) ∙ m.list.first j d (omega (arith, f, m.list.some)) f

  others : (j : ℕ) (d : Child) → j < length (parted cs i left right sep) → 1 ≤ j → IsSome (get_or (parted cs i left right sep) j d).low
  others j d l f = elim (cases_lt j (i + 1)) [
    | inl low ↦ subst IsSome (sym (low-same cs i left right sep m.within j d low)) (m.list.others j d (omega (arith, low, m.within)) f)
    | inr past ↦ elim (cases_lt (i + 1) j) [
      | inl high ↦ (
          let e : j - 1 + 1 ≡ j = omega (arith, high) in
          subst (λ z. IsSome (get_or (parted cs i left right sep) z d).low) e (subst (λ (z : Child). IsSome z.low) (sym (at-high cs i left right sep m.within (j - 1) d (omega (arith, high)))) (m.list.others (j - 1) d (omega (arith, l, count cs i left right sep m.within, high)) (omega (arith, high)))))
      | inr at ↦ (let e : i + 1 ≡ j = omega (arith, past, at) in subst (λ z. IsSome (get_or (parted cs i left right sep) z d).low) e (subst (λ (z : Child). IsSome z.low) (sym (at-sep cs i left right sep m.within d)) refl))
    ]
  ]

  -- where child i has a lower bound it is before the separator, and so are all before it
  after-low : 0 < i → IsBefore (bound (child_at cs i)) sep
  after-low some = above-there (child_at cs i).low sep (m.list.others i (record { low = None; slot = 0 }) m.within (omega (arith, some)))
      (subst (λ b. IsAbove (if b then low else (child_at cs i).low) sep) (let t : (i == 0) ≡ false = grind (arith, nat_tests) in t) m.above)

  before-high : i + 1 < length cs → IsBefore sep (bound (child_at cs (i + 1)))
  before-high more = below-there (child_at cs (i + 1)).low sep (m.list.others (i + 1) (record { low = None; slot = 0 }) more (omega arith))
      (subst (λ b. IsBelow (if b then high else (child_at cs (i + 1)).low) sep) (let t : (i + 1 == length cs) ≡ false = grind (arith, nat_tests) in t) m.below)

  counted : length (separators_of cs) + 1 ≡ length cs
  counted = separator-count cs m.list.some

  place : i ≤ length (separators_of cs)
  place = omega (arith, counted, m.within)

  -- the separator before child i, and the one after it
  low-sep : 0 < i → get_or (separators_of cs) (i - 1) [] ≡ bound (child_at cs i)
  low-sep some =
      let e : i - 1 + 1 ≡ i = omega (arith, some) in
      subst (λ z. get_or (separators_of cs) (i - 1) [] ≡ bound (child_at cs z)) e (separator-is cs (i - 1) (omega (arith, some, m.within)))

  before : (k : ℕ) → k < i → IsBefore (get_or (separators_of cs) k []) sep
  before k l =
      let last : IsBefore (get_or (separators_of cs) (i - 1) []) sep = subst (λ z. IsBefore z sep) (sym (low-sep (omega (arith, l)))) (after-low (omega (arith, l))) in
      elim (cases_lt k (i - 1)) [
        | inl less ↦ IsBefore-trans (get_or (separators_of cs) k []) (get_or (separators_of cs) (i - 1) []) sep (m.list.rising k (i - 1) less (omega (arith, l, place))) last
        | inr past ↦ (let e : i - 1 ≡ k = omega (arith, l, past) in subst (λ z. IsBefore (get_or (separators_of cs) z []) sep) e last)
      ]

  after : (k : ℕ) → i ≤ k → k < length (separators_of cs) → IsBefore sep (get_or (separators_of cs) k [])
  after k from l =
      let next : IsBefore sep (get_or (separators_of cs) i []) = subst (IsBefore sep) (sym (separator-is cs i (omega (arith, from, l, counted)))) (before-high (omega (arith, from, l, counted))) in
      elim (cases_lt i k) [
        | inl less ↦ IsBefore-trans sep (get_or (separators_of cs) i []) (get_or (separators_of cs) k []) next (m.list.rising i k less l)
        | inr past ↦ (let e : i ≡ k = omega (arith, from, past) in subst (λ z. IsBefore sep (get_or (separators_of cs) z [])) e next)
      ]

  above : IsAbove low sep
  above = elim (cases_lt 0 i) [
    | inl some ↦ above-trans low (get_or (separators_of cs) (i - 1) []) sep (m.list.above (i - 1) [] (omega (arith, some, place))) (before (i - 1) (omega (arith, some)))
    | inr none ↦ subst (λ b. IsAbove (if b then low else (child_at cs i).low) sep) (let t : (i == 0) ≡ true = grind (arith, nat_tests) in t) m.above
  ]

  below : IsBelow high sep
  below = elim (cases_lt (i + 1) (length cs)) [
    | inl more ↦ below-trans high sep (get_or (separators_of cs) i []) (after i (omega arith) (omega (arith, more, counted))) (m.list.below i [] (omega (arith, more, counted)))
    | inr last ↦ (
        let within : i < length cs = m.within in
        subst (λ b. IsBelow (if b then high else (child_at cs (i + 1)).low) sep) (let t : (i + 1 == length cs) ≡ true = grind (arith, nat_tests) in t) m.below)
  ]

  pub list : IsChildList (parted cs i left right sep) low high
  list = record {
    some = omega (arith, count cs i left right sep m.within);
    first = first;
    others = others;
    rising = subst AreRising (sym (separators-insert cs i left right sep m.list.some)) (AreRising-insert (separators_of cs) i sep m.list.rising place before after);
    above = subst (All (IsAbove low)) (sym (separators-insert cs i left right sep m.list.some)) (All-insert (IsAbove low) (separators_of cs) i sep place m.list.above above);
    below = subst (All (IsBelow high)) (sym (separators-insert cs i left right sep m.list.some)) (All-insert (IsBelow high) (separators_of cs) i sep place m.list.below below);
  }

  pub words : needed (map child_entry (parted cs i left right sep)) ≡ needed (map child_entry cs) + 2 + length (packed sep)
  words = omega (
    arith,
    needed-insert (halved cs i left right sep m.within) (i + 1) (other cs i left right sep m.within),
    needed-set cs i (half cs i left right sep m.within) m.within (
        let a = length-append (packed (bound (child_at cs i))) ((left + 1) ∷ []) in
        let b = length-append (packed (bound (child_at cs i))) (((child_at cs i).slot + 1) ∷ []) in
        omega (arith, a, b)
        ),
    length-append (packed sep) ((right + 1) ∷ []),
  )

pub may-be-parted : ChildrenMayBeParted
may-be-parted cs low high i left right sep m = record { list = list cs low high i left right sep m; count = count cs i left right sep m.within; words = words cs low high i left right sep m }
