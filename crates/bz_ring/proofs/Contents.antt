-- The content of a ring and the list that its cells hold, place by place: each tells the other.
use Rattle.std.proofs.Common.{◌≡◌, ◌<◌, ◌≤◌, ℕ, zero, suc, ◌+◌, ◌-◌, Bool, true, false, List, [], ◌∷◌, length, get_or, ◌==◌, ◌&&◌, nat_le, refl, sym, ap, ◌∙◌, arith, Option, Some, None, eqb-true, eq-eqb}
use Rattle.std.specs.Prelude.{if◌then◌else◌}
use Rattle.std.proofs.lemmas.Bool.{and_parts, and_from, leb-true, le-leb}
use Rattle.bz_ring.specs.declared.ring.Ring.{Ring}
use Rattle.bz_ring.specs.declared.ring.TheConstants.{HEAD_AT, TAIL_AT}
use Rattle.bz_ring.specs.Content.{cell_of, item_before, items_from, are_empty, content_of}
use Rattle.bz_ring.specs.ContentLaws.{HoldsItems, ContentIsThese}

-- the value of the cell of a counter, which may be spelled in two ways
pub value-same : (r : Ring) (value : ℕ → ℕ) (j k : ℕ) → j ≡ k → value (cell_of r j) ≡ value (cell_of r k)
value-same r value j k same = ap (λ (counter : ℕ). value (cell_of r counter)) same

-- so many cells from a counter's value on have these items
record ArePlaced (r : Ring) (value : ℕ → ℕ) (counter n : ℕ) (items : List ℕ) : Type 0 where
  size : length items ≡ n
  each : (i : ℕ) → i < n → value (cell_of r (counter + i)) ≡ get_or items i 0 + 1

-- the first item, and the rest
record IsBefore (x : ℕ) (rest : Option (List ℕ)) (items : List ℕ) : Type 0 where
  item : ℕ
  after : List ℕ
  word : x ≡ item + 1
  others : rest ≡ Some after
  all : items ≡ item ∷ after

item_parts : (x : ℕ) (rest : Option (List ℕ)) (items : List ℕ) → item_before x rest ≡ Some items → IsBefore x rest items
item_parts zero rest items is = absurd (cc)
item_parts (suc x) None items is = absurd (cc)
item_parts (suc x) (Some after) items is = record { item = x; after = after; word = omega arith; others = refl; all = cc }

placed-next : (r : Ring) (value : ℕ → ℕ) (counter n item : ℕ) (after : List ℕ) → value (cell_of r counter) ≡ item + 1 → ArePlaced r value (counter + 1) n after
    → (i : ℕ) → i < suc n → value (cell_of r (counter + i)) ≡ get_or (item ∷ after) i 0 + 1
placed-next r value counter n item after word placed zero within = value-same r value (counter + 0) counter (omega arith) ∙ word
placed-next r value counter n item after word placed (suc i) within = value-same r value (counter + suc i) (counter + 1 + i) (omega arith) ∙ placed.each i (omega arith)

items-placed : (r : Ring) (value : ℕ → ℕ) (n counter : ℕ) (items : List ℕ) → items_from r value counter n ≡ Some items → ArePlaced r value counter n items
items-placed r value zero counter items is =
    let none : [] ≡ items = cc in
    record { size = sym (ap length none); each = λ i within. absurd (omega arith) }
items-placed r value (suc n) counter items is =
    let b = item_parts (value (cell_of r counter)) (items_from r value (counter + 1) n) items is in
    let rest = items-placed r value n (counter + 1) b.after b.others in
    record {
      size = ap length b.all ∙ (let size : length (b.item ∷ b.after) ≡ suc n = omega (arith, rest.size) in size);
      each = λ i within. placed-next r value counter n b.item b.after b.word rest i within ∙ ap (λ (all : List ℕ). get_or all i 0 + 1) (sym b.all);
    }

placed-items : (r : Ring) (value : ℕ → ℕ) (n counter : ℕ) (items : List ℕ) → ArePlaced r value counter n items → items_from r value counter n ≡ Some items
placed-items r value zero counter [] placed = refl
placed-items r value zero counter (item ∷ items) placed = absurd (omega (arith, placed.size))
placed-items r value (suc n) counter [] placed = absurd (omega (arith, placed.size))
placed-items r value (suc n) counter (item ∷ items) placed =
    let word : value (cell_of r counter) ≡ suc item = value-same r value counter (counter + 0) (omega arith) ∙ (placed.each 0 (omega arith) ∙ omega arith) in
    let rest : ArePlaced r value (counter + 1) n items = record {
      size = omega (arith, placed.size);
      each = λ i within. value-same r value (counter + 1 + i) (counter + suc i) (omega arith) ∙ placed.each (suc i) (omega arith);
    } in
    ap (λ (x : ℕ). item_before x (items_from r value (counter + 1) n)) word ∙ ap (λ (after : Option (List ℕ)). item_before (suc item) after) (placed-items r value n (counter + 1) items rest)

empty-each : (r : Ring) (value : ℕ → ℕ) (n counter : ℕ) → are_empty r value counter n ≡ true → (i : ℕ) → i < n → value (cell_of r (counter + i)) ≡ 0
empty-each r value zero counter is i within = absurd (omega arith)
empty-each r value (suc n) counter is zero within =
    value-same r value (counter + 0) counter (omega arith) ∙ eqb-true (value (cell_of r counter)) 0 (and_parts (value (cell_of r counter) == 0) (are_empty r value (counter + 1) n) is).0
empty-each r value (suc n) counter is (suc i) within =
    value-same r value (counter + suc i) (counter + 1 + i) (omega arith)
    ∙ empty-each r value n (counter + 1) (and_parts (value (cell_of r counter) == 0) (are_empty r value (counter + 1) n) is).1 i (omega arith)

each-empty : (r : Ring) (value : ℕ → ℕ) (n counter : ℕ) → ((i : ℕ) → i < n → value (cell_of r (counter + i)) ≡ 0) → are_empty r value counter n ≡ true
each-empty r value zero counter each = refl
each-empty r value (suc n) counter each =
    and_from (value (cell_of r counter) == 0) (are_empty r value (counter + 1) n)
    (eq-eqb (value (cell_of r counter)) 0 (value-same r value counter (counter + 0) (omega arith) ∙ each 0 (omega arith)))
    (each-empty r value n (counter + 1) (λ i within. value-same r value (counter + 1 + i) (counter + suc i) (omega arith) ∙ each (suc i) (omega arith)))

-- what a choice gave, where it may give nothing
chosen : (test : Bool) (found : Option (List ℕ)) (items : List ℕ) → (if test then found else None) ≡ Some items → (test ≡ true) × (found ≡ Some items)
chosen true found items is = (refl, is)
chosen false found items is = absurd (cc)

choose : (test : Bool) (found : Option (List ℕ)) (items : List ℕ) → test ≡ true → found ≡ Some items → (if test then found else None) ≡ Some items
choose true found items stands is = is
choose false found items stands is = absurd (cc)

pub content-holds : (r : Ring) (value : ℕ → ℕ) (items : List ℕ) → content_of r value ≡ Some items → HoldsItems r value items
content-holds r value items is =
    let head = value HEAD_AT in
    let tail = value TAIL_AT in
    let empty = are_empty r value tail (head + r.capacity - tail) in
    let found = chosen (nat_le head tail && (nat_le tail (head + r.capacity) && empty)) (items_from r value head (tail - head)) items is in
    let rises = and_parts (nat_le head tail) (nat_le tail (head + r.capacity) && empty) found.0 in
    let ends = and_parts (nat_le tail (head + r.capacity)) empty rises.1 in
    let low : head ≤ tail = leb-true head tail rises.0 in
    let high : tail ≤ head + r.capacity = leb-true tail (head + r.capacity) ends.0 in
    let placed = items-placed r value (tail - head) head items found.1 in
    let size : length items ≡ tail - head = placed.size in
    record {
      counted = omega arith;
      fits = omega arith;
      inside = λ i within. placed.each i (omega arith);
      outside = λ i from within. value-same r value (head + i) (tail + (i - length items)) (omega arith) ∙ empty-each r value (head + r.capacity - tail) tail ends.1 (i - length items) (omega arith);
    }

pub holds-content : (r : Ring) (value : ℕ → ℕ) (items : List ℕ) → HoldsItems r value items → content_of r value ≡ Some items
holds-content r value items h =
    let head = value HEAD_AT in
    let tail = value TAIL_AT in
    let counted : tail ≡ head + length items = h.counted in
    let fits : length items ≤ r.capacity = h.fits in
    let empty = are_empty r value tail (head + r.capacity - tail) in
    let none : empty ≡ true = each-empty r value (head + r.capacity - tail) tail
    (λ i within. value-same r value (tail + i) (head + (length items + i)) (omega arith) ∙ h.outside (length items + i) (omega arith) (omega arith)) in
    let placed : ArePlaced r value head (tail - head) items = record { size = omega arith; each = λ i within. h.inside i (omega arith) } in
    choose (nat_le head tail && (nat_le tail (head + r.capacity) && empty)) (items_from r value head (tail - head)) items
    (and_from (nat_le head tail) (nat_le tail (head + r.capacity) && empty) (le-leb head tail (omega arith))
    (and_from (nat_le tail (head + r.capacity)) empty (le-leb tail (head + r.capacity) (omega arith)) none))
    (placed-items r value (tail - head) head items placed)

pub content_is_these : ContentIsThese
content_is_these r value items = (content-holds r value items, holds-content r value items)
