-- The children of an inner node, put on a stack from the last one to the first.
use Rattle.std.proofs.Common.{◌≡◌, ℕ, suc, ◌+◌, ◌-◌, ◌<◌, ◌==◌, if◌then◌else◌, Bool, true, false, List, [], ◌∷◌, ◌++◌, length, map, arith, refl, sym, ap, ◌∙◌, Option}
use Rattle.std.specs.Prelude.{Some, None}
use Rattle.std.proofs.lemmas.List.{reverse-append}
use Rattle.std.proofs.lemmas.List.FromFn.{length-map-range_with_len, get_or-map-range_with_len}
use Rattle.bz_node.specs.Reading.{count_in, child_in}
use Rattle.bz_node.specs.declared.child.Child.{Child}
use Rattle.bz_tree.specs.View.{View, low_at, high_at}
use Rattle.bz_tree.specs.Walk.{Visit, kid, kids}
use Rattle.bz_slotted.specs.ReadingLaws.{node_of, child_read, ReadsAsChildren}
use Rattle.bz_slotted.specs.Readers.{count_of, key_of}
use Rattle.bz_content.proofs.Honesty.{no}
use Rattle.bz_content.proofs.Reached.{is as same}
use Rattle.bz_judge.specs.Inside.Stacks.{visit_of, stack_of, Shows}
use Rattle.bz_judge.specs.declared.visit.Visit.{Visit as Coming}

pub stack-push : (items : List Coming) (x : Coming) → stack_of (items ++ x ∷ []) ≡ visit_of x ∷ stack_of items
unfolding stack_of
stack-push items x = ap (map visit_of) (reverse-append items (x ∷ []))

pub stack-one : (items : List Coming) (x : Coming) → items ≡ x ∷ [] → stack_of items ≡ visit_of x ∷ []
unfolding stack_of
stack-one items x e = ap stack_of e

pub stack-none : (items : List Coming) → length items ≡ 0 → stack_of items ≡ []
unfolding stack_of
stack-none [] none = refl
stack-none (x ∷ items) none = absurd (omega arith)

pub stack-pop : (items rest : List Coming) (x : Coming) → items ≡ rest ++ x ∷ [] → stack_of items ≡ visit_of x ∷ stack_of rest
stack-pop items rest x e = ap stack_of e ∙ stack-push rest x

-- child j comes before those from i on
pub kids-more : (v : View) (u w : Visit) (l i j n m : ℕ) (stack before : List Visit) → j + 1 ≡ i → m ≡ suc n → w ≡ kid v u l j → stack ≡ kids v u l i n ++ before → w ∷ stack ≡ kids v u l j m ++ before
unfolding kids
kids-more v u w l i j n m stack before next more is rest =
    (λ t. is t ∷ rest t) ∙ sym (ap (λ k. kids v u l j k ++ before) more ∙ ap (λ a. kid v u l j ∷ (kids v u l a n ++ before)) next)

pub kids-none : (v : View) (u : Visit) (l i n : ℕ) (before : List Visit) → n ≡ 0 → before ≡ kids v u l i n ++ before
unfolding kids
kids-none v u l i n before none = sym (ap (λ k. kids v u l i k ++ before) none)

pub count-read : (words : List ℕ) → ReadsAsChildren words → count_in words ≡ count_of (node_of words)
count-read words r = sym (length-map-range_with_len (child_in words) 0 (count_in words)) ∙ r.count

pub child-is : (words : List ℕ) (j : ℕ) → ReadsAsChildren words → j < count_in words → child_in words j ≡ child_read (node_of words) j
child-is words j r less =
    let d : Child = child_in words j in
    sym (get_or-map-range_with_len (child_in words) 0 (count_in words) j j d less (omega arith)) ∙ r.children j d (omega (arith, count-read words r))

-- the visit to a child is the one that the walk makes
pub next-kid : (v : View) (words : List ℕ) (visit : Coming) (j : ℕ) (child : Child) (high : Option (List ℕ)) (w : Visit) → Shows v visit.slot words → child ≡ child_read (node_of words) j →
    high ≡ high_at v visit.slot visit.place.high j → w ≡ record { slot = child.slot; level = visit.place.level - 1; low = (if j == 0 then visit.place.low else child.low); high = high; up = visit.slot; index = j } →
    w ≡ kid v (visit_of visit) (visit.place.level - 1) j
next-kid v words visit j child high w shows is top e =
    e ∙ (λ t. record { slot = slot t; level = visit.place.level - 1; low = low t; high = top t; up = visit.slot; index = j })
  where
    slot : child.slot ≡ v.child visit.slot j
    slot = ap (λ (x : Child). x.slot) is ∙ sym (shows.child j)

    go : (b : Bool) → (if b then visit.place.low else (if b then None else Some (key_of (node_of words) j))) ≡ (if b then visit.place.low else Some (v.key visit.slot j))
    go true = refl
    go false = ap Some (sym (shows.key j))

    low : (if j == 0 then visit.place.low else child.low) ≡ low_at v visit.slot visit.place.low j
    low = ap (λ (x : Child). if j == 0 then visit.place.low else x.low) is ∙ go (j == 0)

-- and the low bound of the child is the high bound of the one before
pub next-high : (v : View) (words : List ℕ) (k j : ℕ) (child : Child) (high : Option (List ℕ)) → Shows v k words → ReadsAsChildren words → child ≡ child_read (node_of words) j → 0 < j → j < count_in words →
    child.low ≡ high_at v k high (j - 1)
next-high v words k j child high shows r is some less =
    let first : (j == 0) ≡ false = no j 0 (omega arith) in
    let n : j - 1 + 1 ≡ j = omega arith in
    let last : (j == v.count k) ≡ false = no j (v.count k) (omega (arith, shows.count, count-read words r)) in
    let a : child.low ≡ (if j == 0 then None else Some (key_of (node_of words) j)) = ap (λ (x : Child). x.low) is in
    let b : (if j == 0 then None else Some (key_of (node_of words) j)) ≡ Some (v.key k j) = rw first (ap Some (sym (shows.key j))) in
    let d : high_at v k high (j - 1) ≡ Some (v.key k j) = rw (n, last) refl in
    a ∙ (b ∙ sym d)

pub last-high : (v : View) (words : List ℕ) (k i : ℕ) (high : Option (List ℕ)) → Shows v k words → ReadsAsChildren words → i ≡ count_in words → 0 < i → high ≡ high_at v k high (i - 1)
last-high v words k i high shows r is some =
    let n : i - 1 + 1 ≡ v.count k = omega (arith, shows.count, count-read words r) in
    rw (n, same (v.count k)) refl
