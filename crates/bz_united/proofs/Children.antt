-- The children of two neighbouring inner nodes, one after the other, make a node.
use Rattle.std.proofs.Common.{◌≡◌, ℕ, zero, suc, ◌+◌, ◌-◌, ◌<◌, ◌++◌, List, [], ◌∷◌, length, map, drop, get_or, arith, refl, sym, ap, subst, ◌∙◌, inl, inr, Option}
use Rattle.std.specs.Prelude.{All, Some, None, IsSome}
use Rattle.std.proofs.lemmas.Bool.{cases_lt}
use Rattle.std.proofs.lemmas.List.{map-append, length-append, length-drop, get_or-drop, get_or_append_left, get_or-append_right}
use Rattle.std.proofs.lemmas.List.Elements.{All-append, All-cons, All-drop}
use Rattle.bz_key.specs.Packing.{packed}
use Rattle.bz_key.proofs.PackingLaws.{length-packed}
use Rattle.bz_node.specs.Layout.{block, bound_of, needed}
use Rattle.bz_node.specs.Records.{child_entry, separators_of, IsChild, IsChildList, IsBefore, IsAbove, IsBelow, AreRising}
use Rattle.bz_node.specs.declared.child.Child.{Child}
use Rattle.bz_node.proofs.Orders.{IsBefore-trans}
use Rattle.bz_node.proofs.Parts.{needed-append}
use Rattle.bz_halves.specs.Parents.{child_at}
use Rattle.bz_parted.specs.Parting.{child_words}
use Rattle.bz_united.specs.Laws.{AreNeighbours, AreUnited, ChildrenUnite}
use Rattle.bz_united.specs.Uniting.{bounded, united}

abbrev pub none : Child
none = record { low = None; slot = 0 }

abbrev bound : Child → List ℕ
bound c = bound_of c.low

-- keys that rise, with one before them
rising-first : (x : List ℕ) (ys : List (List ℕ)) → AreRising ys → All (IsBefore x) ys → AreRising (x ∷ ys)
rising-first x ys rising all zero zero less l = absurd (omega arith)
rising-first x ys rising all zero (suc j) less l = all j [] (omega arith)
rising-first x ys rising all (suc i) zero less l = absurd (omega arith)
rising-first x ys rising all (suc i) (suc j) less l = rising i j (omega arith) (omega arith)

-- keys that rise, and others that rise from where these end
rising-append : (xs ys : List (List ℕ)) → AreRising xs → AreRising ys → ((i j : ℕ) → i < length xs → j < length ys → IsBefore (get_or xs i []) (get_or ys j [])) → AreRising (xs ++ ys)
rising-append xs ys left right between i j less inside =
    let long : length (xs ++ ys) ≡ length xs + length ys = length-append xs ys in
    elim (cases_lt j (length xs)) [
      | inl l ↦ rw (get_or_append_left xs ys [] i (omega (arith, less, l)), get_or_append_left xs ys [] j l) (left i j less l)
      | inr h ↦ elim (cases_lt i (length xs)) [
        | inl l ↦ rw (get_or_append_left xs ys [] i l, get_or-append_right xs ys (length xs) j [] refl h) (between i (j - length xs) l (omega (arith, inside, long, h)))
        | inr m ↦ rw (get_or-append_right xs ys (length xs) i [] refl m, get_or-append_right xs ys (length xs) j [] refl h) (right (i - length xs) (j - length xs) (omega (arith, less, m)) (omega (arith, inside, long, h)))
      ]
    ]

-- a key after another that is above a bound is above it, and one before another that is below a bound is below it
above-after : (low : Option (List ℕ)) (sep key : List ℕ) → IsAbove low sep → IsBefore sep key → IsAbove low key
above-after None sep key a l = tt
above-after (Some low) sep key a l = IsBefore-trans low sep key a l

below-before : (high : Option (List ℕ)) (sep key : List ℕ) → IsBelow high sep → IsBefore key sep → IsBelow high key
below-before None sep key b l = tt
below-before (Some high) sep key b l = IsBefore-trans key sep high l b

-- the separators of children that come after others
separators-append : (left more : List Child) → 0 < length left → separators_of (left ++ more) ≡ separators_of left ++ map bound more
separators-append [] more some = absurd (omega (arith, some))
separators-append (c ∷ rest) more some = map-append bound rest more

-- a child takes its metadata word, the words of its lower bound, and its pointer
size-is : (c : Child) → 1 + length (child_entry c).words ≡ 2 + length (packed (bound_of c.low))
size-is c = omega (arith, length-append (packed (bound_of c.low)) ((c.slot + 1) ∷ []))

words-first : (c : Child) (cs : List Child) → child_words (c ∷ cs) ≡ child_words cs + 1 + length (child_entry c).words
unfolding block
words-first c cs = omega (arith, length-append (block (map child_entry cs)) (child_entry c).words)

-- with a lower bound the first child takes its words besides
words-bounded : (right : List Child) (sep : List ℕ) → 0 < length right → (child_at right 0).low ≡ None → child_words (bounded right sep) ≡ child_words right + length (packed sep)
words-bounded [] sep some first = absurd (omega (arith, some))
words-bounded (c ∷ rest) sep some first =
    let one : Child = record { low = Some sep; slot = c.slot } in
    omega (arith, words-first one rest, words-first c rest, size-is one, size-is c, ap (λ z. length (packed (bound_of z))) first, length-packed [])

pub long-bounded : (right : List Child) (sep : List ℕ) → 0 < length right → length (bounded right sep) ≡ length right
long-bounded right sep some = omega (arith, some, length-drop 1 right)

-- each child stands in the slot that it had, and each but the first has its lower bound
pub later-bounded : (right : List Child) (sep : List ℕ) (j : ℕ) (d : Child) → get_or (bounded right sep) (suc j) d ≡ get_or right (suc j) d
later-bounded right sep j d = let next : 1 + j ≡ suc j = omega arith in get_or-drop 1 right j d ∙ ap (λ z. get_or right z d) next

pub slot-bounded : (right : List Child) (sep : List ℕ) (j : ℕ) → (get_or (bounded right sep) j none).slot ≡ (get_or right j none).slot
slot-bounded right sep zero = refl
slot-bounded right sep (suc j) = ap (λ (c : Child). c.slot) (later-bounded right sep j none)

module _ (left right : List Child) (low high : Option (List ℕ)) (sep : List ℕ) (n : AreNeighbours left right low high sep) where
  abbrev xs : List (List ℕ)
  xs = separators_of left

  abbrev ys : List (List ℕ)
  ys = separators_of right

  separators : separators_of (united left right sep) ≡ xs ++ (sep ∷ ys)
  separators = separators-append left (bounded right sep) n.left_list.some

  between : (i j : ℕ) → i < length xs → j < length (sep ∷ ys) → IsBefore (get_or xs i []) (get_or (sep ∷ ys) j [])
  between i zero l m = n.left_list.below i [] l
  between i (suc j) l m = IsBefore-trans (get_or xs i []) sep (get_or ys j []) (n.left_list.below i [] l) (n.right_list.above j [] (omega arith))

  rising : AreRising (xs ++ (sep ∷ ys))
  rising = rising-append xs (sep ∷ ys) n.left_list.rising (rising-first sep ys n.right_list.rising n.right_list.above) between

  above : All (IsAbove low) (xs ++ (sep ∷ ys))
  above = All-append (IsAbove low) xs (sep ∷ ys) n.left_list.above (All-cons (IsAbove low) sep ys n.above (λ i d l. above-after low sep _ n.above (n.right_list.above i d l)))

  below : All (IsBelow high) (xs ++ (sep ∷ ys))
  below = All-append (IsBelow high) xs (sep ∷ ys) (λ i d l. below-before high sep _ n.below (n.left_list.below i d l)) (All-cons (IsBelow high) sep ys n.below n.right_list.below)

  right-bound : (j : ℕ) (d : Child) → j < length (bounded right sep) → IsSome (get_or (bounded right sep) j d).low
  right-bound zero d l = refl
  right-bound (suc j) d l = subst (λ (z : Child). IsSome z.low) (sym (later-bounded right sep j d)) (n.right_list.others (suc j) d (omega (arith, l, long-bounded right sep n.right_list.some)) (omega arith))

  list : IsChildList (united left right sep) low high
  list = record {
    some = omega (arith, length-append left (bounded right sep), n.left_list.some);
    first = λ i d l f.
        let inside : i < length left = omega (arith, f, n.left_list.some) in
        ap (λ (z : Child). z.low) (get_or_append_left left (bounded right sep) d i inside) ∙ n.left_list.first i d inside f;
    others = λ i d l f. elim (cases_lt i (length left)) [
      | inl inside ↦ subst (λ (z : Child). IsSome z.low) (sym (get_or_append_left left (bounded right sep) d i inside)) (n.left_list.others i d inside f)
      | inr past ↦ subst (λ (z : Child). IsSome z.low) (sym (get_or-append_right left (bounded right sep) (length left) i d refl past)) (right-bound (i - length left) d (omega (arith, l, past, length-append left (bounded right sep))))
    ];
    rising = subst AreRising (sym separators) rising;
    above = subst (All (IsAbove low)) (sym separators) above;
    below = subst (All (IsBelow high)) (sym separators) below;
  }

  -- what holds of each child of both, whatever its lower bound, holds of all
  pub all-united : (P : Child → Type 0) → All P left → P (record { low = Some sep; slot = (child_at right 0).slot }) → All P right → All P (united left right sep)
  all-united P l one r = All-append P left (bounded right sep) l (All-cons P _ (drop 1 right) one (All-drop P 1 right r))

  first-none : (child_at right 0).low ≡ None
  first-none = n.right_list.first 0 none n.right_list.some (omega arith)

  pub are-united : AreUnited left right low high sep
  are-united = record {
    each = all-united IsChild n.left_each (record { low = n.key; slot = (n.right_each 0 none n.right_list.some).slot }) n.right_each;
    list = list;
    words = ap needed (map-append child_entry left (bounded right sep)) ∙ (needed-append (map child_entry left) (map child_entry (bounded right sep)) ∙ omega (arith, words-bounded right sep n.right_list.some first-none));
  }

pub unite : ChildrenUnite
unite = are-united
