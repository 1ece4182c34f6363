-- The children of an inner node that is split part in two halves, which make nodes.
use Rattle.std.proofs.Common.{◌≡◌, ℕ, zero, suc, ◌+◌, ◌-◌, ◌<◌, ◌≤◌, List, [], length, take, drop, get_or, arith, refl, sym, ap, subst, ◌∙◌, Option}
use Rattle.std.specs.Prelude.{All, Some, None, IsSome}
use Rattle.std.proofs.lemmas.List.{length-take, length-drop, get_or-take, get_or-drop, get_or_default, get_or-map, length-map}
use Rattle.std.proofs.lemmas.List.Elements.{All-take, All-drop}
use Rattle.bz_key.specs.Bytes.{IsKey}
use Rattle.bz_node.specs.Layout.{bound_of}
use Rattle.bz_node.specs.Records.{IsBound, IsChild, IsChildList, IsAbove, IsBelow, IsBefore, AreRising, separators_of}
use Rattle.bz_node.specs.declared.child.Child.{Child}
use Rattle.bz_halves.specs.Parents.{child_at}
use Rattle.bz_parted.specs.Parting.{IsParting, separator_of, right_half}
use Rattle.bz_parted.specs.Laws.{IsSplitInner, AreInnerHalves, ChildrenPartInHalves}
use Rattle.bz_parted.proofs.Cuts.{some, more, left-room, right-room, words-parts, right-words}

abbrev none : Child
none = record { low = None; slot = 0 }

abbrev bound : Child → List ℕ
bound c = bound_of c.low

-- separator k is the lower bound of child k + 1
pub separator-is : (cs : List Child) (k : ℕ) → k + 1 < length cs → get_or (separators_of cs) k [] ≡ bound (child_at cs (k + 1))
separator-is cs k l =
    let next : 1 + k ≡ k + 1 = omega arith in
    let inside : k < length (drop 1 cs) = omega (arith, l, length-drop 1 cs) in
    get_or-map bound (drop 1 cs) k none [] inside ∙ (ap bound (get_or-drop 1 cs k none) ∙ ap (λ z. bound (child_at cs z)) next)

pub separator-count : (cs : List Child) → 0 < length cs → length (separators_of cs) + 1 ≡ length cs
separator-count cs l = omega (arith, l, length-map (drop 1 cs) bound, length-drop 1 cs)

bound-key : (low : Option (List ℕ)) → IsSome low → IsBound low → IsKey (bound_of low)
bound-key None s b = absurd (cc)
bound-key (Some key) s b = b

some-bound : (low : Option (List ℕ)) → IsSome low → low ≡ Some (bound_of low)
some-bound None s = absurd (cc)
some-bound (Some key) s = refl

-- the children of the halves
pub left-child : (cs : List Child) (cut i : ℕ) (d : Child) → i < cut → get_or (take cut cs) i d ≡ get_or cs i d
left-child cs cut i d l = get_or-take cut cs i d l

pub right-later : (cs : List Child) (cut i : ℕ) (d : Child) → get_or (right_half cs cut) (i + 1) d ≡ get_or cs (cut + (i + 1)) d
right-later cs cut i d =
    let next : i + 1 ≡ suc i = omega arith in
    let on : cut + 1 + i ≡ cut + (i + 1) = omega arith in
    ap (λ z. get_or (right_half cs cut) z d) next ∙ (get_or-drop (cut + 1) cs i d ∙ ap (λ z. get_or cs z d) on)

pub right-count : (cs : List Child) (cut : ℕ) → cut < length cs → length (right_half cs cut) + cut ≡ length cs
right-count cs cut l = omega (arith, l, length-drop (cut + 1) cs)

pub left-count : (cs : List Child) (cut : ℕ) → cut < length cs → length (take cut cs) ≡ cut
left-count cs cut l = omega (arith, l, length-take cut cs)

-- and their separators
left-separator : (cs : List Child) (cut i : ℕ) → cut < length cs → i + 1 < cut → get_or (separators_of (take cut cs)) i [] ≡ get_or (separators_of cs) i []
left-separator cs cut i l h =
    separator-is (take cut cs) i (omega (arith, h, left-count cs cut l))
    ∙ (ap bound (left-child cs cut (i + 1) none h) ∙ sym (separator-is cs i (omega (arith, h, l))))

right-separator : (cs : List Child) (cut i : ℕ) → cut < length cs → i + 1 < length (right_half cs cut) → get_or (separators_of (right_half cs cut)) i [] ≡ get_or (separators_of cs) (cut + i) []
right-separator cs cut i l h =
    let on : cut + (i + 1) ≡ cut + i + 1 = omega arith in
    separator-is (right_half cs cut) i h
    ∙ (ap bound (right-later cs cut i none) ∙ (ap (λ z. bound (child_at cs z)) on ∙ sym (separator-is cs (cut + i) (omega (arith, h, right-count cs cut l)))))

module _ (cs : List Child) (low high : Option (List ℕ)) (cut : ℕ) (s : IsSplitInner cs low high) (c : IsParting cs cut) where
  abbrev sep : List ℕ
  sep = separator_of cs cut

  abbrev seps : List (List ℕ)
  seps = separators_of cs

  begun : 0 < cut
  begun = some cs low high cut s c

  within : cut < length cs
  within = more cs low high cut s c

  counted : length seps + 1 ≡ length cs
  counted = separator-count cs s.list.some

  there : IsSome (child_at cs cut).low
  there = s.list.others cut none within (omega (arith, begun))

  sep-key : IsKey sep
  sep-key = bound-key (child_at cs cut).low there (s.each cut none within).low

  -- the separator is one of the old ones
  sep-is : get_or seps (cut - 1) [] ≡ sep
  sep-is =
      let e : cut - 1 + 1 ≡ cut = omega (arith, begun) in
      separator-is cs (cut - 1) (omega (arith, within, begun)) ∙ ap (λ z. bound (child_at cs z)) e

  -- those before it are before it, and the others after it
  before : (i : ℕ) → i + 1 < cut → IsBefore (get_or seps i []) sep
  before i l = subst (IsBefore (get_or seps i [])) sep-is (s.list.rising i (cut - 1) (omega (arith, l)) (omega (arith, within, counted)))

  after : (i : ℕ) → cut + i + 1 < length cs → IsBefore sep (get_or seps (cut + i) [])
  after i l = subst (λ z. IsBefore z (get_or seps (cut + i) [])) sep-is (s.list.rising (cut - 1) (cut + i) (omega (arith, begun)) (omega (arith, l, counted)))

  long-left : length (take cut cs) ≡ cut
  long-left = left-count cs cut within

  long-right : length (right_half cs cut) + cut ≡ length cs
  long-right = right-count cs cut within

  -- what holds of the separators of a half, by those of the whole
  left-in : (i : ℕ) → i < length (separators_of (take cut cs)) → i + 1 < cut
  left-in i l = omega (arith, l, long-left, separator-count (take cut cs) (omega (arith, long-left, begun)))

  right-in : (i : ℕ) → i < length (separators_of (right_half cs cut)) → i + 1 < length (right_half cs cut)
  right-in i l = omega (arith, l, separator-count (right_half cs cut) (omega (arith, long-right, within)))

  left-at : (i : ℕ) (d : List ℕ) → i < length (separators_of (take cut cs)) → get_or seps i [] ≡ get_or (separators_of (take cut cs)) i d
  left-at i d l = sym (get_or_default (separators_of (take cut cs)) i d [] l ∙ left-separator cs cut i within (left-in i l))

  right-at : (i : ℕ) (d : List ℕ) → i < length (separators_of (right_half cs cut)) → get_or seps (cut + i) [] ≡ get_or (separators_of (right_half cs cut)) i d
  right-at i d l = sym (get_or_default (separators_of (right_half cs cut)) i d [] l ∙ right-separator cs cut i within (right-in i l))

  left-rising : AreRising (separators_of (take cut cs))
  left-rising i j less l =
      let h : j + 1 < cut = left-in j l in
      subst (λ z. IsBefore z (get_or (separators_of (take cut cs)) j [])) (left-at i [] (omega (arith, less, l)))
      (subst (IsBefore (get_or seps i [])) (left-at j [] l) (s.list.rising i j less (omega (arith, h, within, counted))))

  right-rising : AreRising (separators_of (right_half cs cut))
  right-rising i j less l =
      let h : j + 1 < length (right_half cs cut) = right-in j l in
      subst (λ z. IsBefore z (get_or (separators_of (right_half cs cut)) j [])) (right-at i [] (omega (arith, less, l)))
      (subst (IsBefore (get_or seps (cut + i) [])) (right-at j [] l) (s.list.rising (cut + i) (cut + j) (omega (arith, less)) (omega (arith, h, long-right, counted))))

  pub left-list : IsChildList (take cut cs) low (Some sep)
  left-list = record {
    some = omega (arith, long-left, begun);
    first = λ i d l f. ap (λ (z : Child). z.low) (left-child cs cut i d (omega (arith, l, long-left))) ∙ s.list.first i d (omega (arith, l, long-left, within)) f;
    others = λ i d l f. subst (λ (z : Child). IsSome z.low) (sym (left-child cs cut i d (omega (arith, l, long-left)))) (s.list.others i d (omega (arith, l, long-left, within)) f);
    rising = left-rising;
    above = λ i d l. subst (IsAbove low) (left-at i d l) (s.list.above i [] (omega (arith, left-in i l, within, counted)));
    below = λ i d l. subst (λ z. IsBefore z sep) (left-at i d l) (before i (left-in i l));
  }

  right-first : (i : ℕ) (d : Child) → i < 1 → (get_or (right_half cs cut) i d).low ≡ None
  right-first zero d f = refl
  right-first (suc i) d f = absurd (omega arith)

  right-others : (i : ℕ) (d : Child) → i < length (right_half cs cut) → 1 ≤ i → IsSome (get_or (right_half cs cut) i d).low
  right-others i d l f =
      let e : i - 1 + 1 ≡ i = omega (arith, f) in
      subst (λ z. IsSome (get_or (right_half cs cut) z d).low) e
      (subst (λ (z : Child). IsSome z.low) (sym (right-later cs cut (i - 1) d)) (s.list.others (cut + (i - 1 + 1)) d (omega (arith, l, e, long-right)) (omega (arith, begun))))

  pub right-list : IsChildList (right_half cs cut) (Some sep) high
  right-list = record {
    some = omega (arith, long-right, within);
    first = λ i d l f. right-first i d f;
    others = right-others;
    rising = right-rising;
    above = λ i d l. subst (IsBefore sep) (right-at i d l) (after i (omega (arith, right-in i l, long-right)));
    below = λ i d l. subst (IsBelow high) (right-at i d l) (s.list.below (cut + i) [] (omega (arith, right-in i l, long-right, counted)));
  }

  -- what holds of each child, but for its lower bound, holds of those of the right half
  pub right-all : (P : Child → Type 0) → All P cs → P (record { low = None; slot = (child_at cs cut).slot }) → All P (right_half cs cut)
  right-all P all first zero d l = first
  right-all P all first (suc i) d l = All-drop P (cut + 1) cs all i d (omega (arith, l))

  right-each : All IsChild (right_half cs cut)
  right-each = right-all IsChild s.each (record { low = tt; slot = (s.each cut none within).slot })

  halves : AreInnerHalves cs low high cut
  halves = record {
    some = begun;
    more = within;
    separator = sep-key;
    goes_up = some-bound (child_at cs cut).low there;
    above = subst (IsAbove low) sep-is (s.list.above (cut - 1) [] (omega (arith, begun, within, counted)));
    below = subst (IsBelow high) sep-is (s.list.below (cut - 1) [] (omega (arith, begun, within, counted)));
    left_each = All-take IsChild cut cs s.each;
    right_each = right-each;
    left = left-list;
    right = right-list;
    words = omega (arith, words-parts cs cut, right-words cs cut within);
    left_room = left-room cs low high cut s c;
    right_room = right-room cs low high cut s c;
  }

pub part-in-halves : ChildrenPartInHalves
part-in-halves cs low high cut s c = halves cs low high cut s c
