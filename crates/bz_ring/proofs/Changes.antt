-- What a put and a take make of the list that a ring holds, and what single cells tell of it.
use Rattle.std.proofs.Common.{◌≡◌, ◌≢◌, ◌<◌, ◌≤◌, ◌⊎◌, inl, inr, ℕ, suc, ◌+◌, List, [], ◌∷◌, ◌++◌, length, get_or, refl, sym, ap, ◌∙◌, arith, length-append}
use Rattle.std.proofs.lemmas.Bool.{cases_lt}
use Rattle.std.proofs.lemmas.Grind.{common_steps}
use Rattle.bz_ring.specs.declared.ring.Ring.{Ring}
use Rattle.bz_ring.specs.declared.ring.TheConstants.{HEAD_AT, TAIL_AT}
use Rattle.bz_ring.specs.Content.{cell_of}
use Rattle.bz_ring.specs.ContentLaws.{HoldsItems, Puts, Takes, PutsAppend, TakesDrop, CellsTellTheList, OtherWordsDoNotMatter}
use Rattle.bz_ring.proofs.Cells.{round_later, same_counter, past_counters}
use Rattle.bz_ring.proofs.Contents.{value-same}

item-before : (items : List ℕ) (item i : ℕ) → i < length items → get_or (items ++ item ∷ []) i 0 ≡ get_or items i 0
item-before items item i within = grind (arith, common_steps)

item-last : (items : List ℕ) (item : ℕ) → get_or (items ++ item ∷ []) (length items) 0 ≡ item
item-last items item = grind (arith, common_steps)

-- a put leaves the cells of the other counters of the round as they are
put-others : (r : Ring) (item : ℕ) (old new : ℕ → ℕ) (items : List ℕ) → length items < r.capacity → HoldsItems r old items → Puts r item old new
    → (i : ℕ) → i < r.capacity → i ≢ length items → new (cell_of r (new HEAD_AT + i)) ≡ old (cell_of r (old HEAD_AT + i))
put-others r item old new items room h p i within other =
    let head : new HEAD_AT ≡ old HEAD_AT = p.others HEAD_AT (λ same. absurd (omega arith)) (λ same. absurd (omega (arith, past_counters r (old TAIL_AT)))) in
    value-same r new (new HEAD_AT + i) (old HEAD_AT + i) (omega arith)
    ∙ p.others (cell_of r (old HEAD_AT + i)) (λ same. absurd (omega (arith, past_counters r (old HEAD_AT + i))))
    (λ same. other (same_counter r (old HEAD_AT) i (length items) within room (same ∙ ap (cell_of r) h.counted)))

pub puts_append : PutsAppend
puts_append r item old new items room h p =
    let head : new HEAD_AT ≡ old HEAD_AT = p.others HEAD_AT (λ same. absurd (omega arith)) (λ same. absurd (omega (arith, past_counters r (old TAIL_AT)))) in
    let more : length (items ++ item ∷ []) ≡ length items + 1 = length-append items (item ∷ []) in
    let counted : old TAIL_AT ≡ old HEAD_AT + length items = h.counted in
    record {
      counted = p.tail ∙ omega arith;
      fits = omega arith;
      inside = λ i within. elim (cases_lt i (length items)) [
        | inl before ↦ put-others r item old new items room h p i (omega arith) (λ same. absurd (omega arith)) ∙ h.inside i before ∙ ap (λ (x : ℕ). x + 1) (sym (item-before items item i before))
        | inr from ↦
            let last : i ≡ length items = omega arith in
            value-same r new (new HEAD_AT + i) (old TAIL_AT) (omega arith) ∙ p.cell ∙ ap (λ (x : ℕ). x + 1) (sym (ap (λ (k : ℕ). get_or (items ++ item ∷ []) k 0) last ∙ item-last items item))
      ];
      outside = λ i from within. put-others r item old new items room h p i within (λ same. absurd (omega arith)) ∙ h.outside i (omega arith) within;
    }

-- a take leaves the cells of the later counters of the round as they are
take-others : (r : Ring) (old new : ℕ → ℕ) → Takes r old new → (i : ℕ) → i + 1 < r.capacity → new (cell_of r (new HEAD_AT + i)) ≡ old (cell_of r (old HEAD_AT + (i + 1)))
take-others r old new t i within =
    let head : new HEAD_AT ≡ old HEAD_AT + 1 = t.head in
    value-same r new (new HEAD_AT + i) (old HEAD_AT + (i + 1)) (omega arith)
    ∙ t.others (cell_of r (old HEAD_AT + (i + 1))) (λ same. absurd (omega (arith, past_counters r (old HEAD_AT + (i + 1)))))
    (λ same. absurd (omega (arith, same_counter r (old HEAD_AT) (i + 1) 0 within (omega arith) (same ∙ ap (cell_of r) (let zero_more : old HEAD_AT ≡ old HEAD_AT + 0 = omega arith in zero_more)))))

pub takes_drop : TakesDrop
takes_drop r item old new items h t =
    let head : new HEAD_AT ≡ old HEAD_AT + 1 = t.head in
    let tail : new TAIL_AT ≡ old TAIL_AT = t.others TAIL_AT (λ same. absurd (omega arith)) (λ same. absurd (omega (arith, past_counters r (old HEAD_AT)))) in
    let counted : old TAIL_AT ≡ old HEAD_AT + suc (length items) = h.counted in
    let fits : suc (length items) ≤ r.capacity = h.fits in
    record {
      counted = omega arith;
      fits = omega arith;
      inside = λ i within. take-others r old new t i (omega arith) ∙ h.inside (i + 1) (omega arith) ∙ (let next : get_or (item ∷ items) (i + 1) 0 ≡ get_or items i 0 = grind (arith, common_steps) in ap (λ (x : ℕ). x + 1) next);
      outside = λ i from within. elim (cases_lt (i + 1) r.capacity) [
        | inl before ↦ take-others r old new t i before ∙ h.outside (i + 1) (omega arith) before
        | inr last ↦ value-same r new (new HEAD_AT + i) (old HEAD_AT + r.capacity) (omega arith) ∙ ap new (round_later r (old HEAD_AT)) ∙ t.cell
      ];
    }

-- the cell of the tail is that of the head where the list is full, and else an empty one
tail-cell : (r : Ring) (value : ℕ → ℕ) (items : List ℕ) → 0 < r.capacity → HoldsItems r value items
    → ((length items ≡ r.capacity) × (0 < value (cell_of r (value TAIL_AT)))) ⊎ ((length items < r.capacity) × (value (cell_of r (value TAIL_AT)) ≡ 0))
tail-cell r value items some h =
    let counted : value TAIL_AT ≡ value HEAD_AT + length items = h.counted in
    let fits : length items ≤ r.capacity = h.fits in
    elim (cases_lt (length items) r.capacity) [
      | inl room ↦ inr (room, value-same r value (value TAIL_AT) (value HEAD_AT + length items) counted ∙ h.outside (length items) (omega arith) room)
      | inr full ↦
          let size : length items ≡ r.capacity = omega arith in
          let same : value (cell_of r (value TAIL_AT)) ≡ value (cell_of r (value HEAD_AT + 0)) =
          value-same r value (value TAIL_AT) (value HEAD_AT + r.capacity) (omega arith) ∙ ap value (round_later r (value HEAD_AT)) ∙ value-same r value (value HEAD_AT) (value HEAD_AT + 0) (omega arith) in
          inl (size, omega (arith, same, h.inside 0 (omega arith)))
    ]

-- the first item of a list stands in the cell of the head
record HasFirst (r : Ring) (value : ℕ → ℕ) (items : List ℕ) : Type 0 where
  item : ℕ
  rest : List ℕ
  all : items ≡ item ∷ rest
  word : value (cell_of r (value HEAD_AT)) ≡ item + 1

head-cell : (r : Ring) (value : ℕ → ℕ) (items : List ℕ) → 0 < r.capacity → HoldsItems r value items → ((items ≡ []) × (value (cell_of r (value HEAD_AT)) ≡ 0)) ⊎ HasFirst r value items
head-cell r value [] some h = inl (refl, value-same r value (value HEAD_AT) (value HEAD_AT + 0) (omega arith) ∙ h.outside 0 (omega arith) some)
head-cell r value (item ∷ rest) some h =
    inr (record { item = item; rest = rest; all = refl; word = value-same r value (value HEAD_AT) (value HEAD_AT + 0) (omega arith) ∙ h.inside 0 (omega arith) })

pub cells_tell_the_list : CellsTellTheList
cells_tell_the_list r value items some h = record {
  room = λ none. elim (tail-cell r value items some h) [ inl full ↦ absurd (omega (arith, full.1)) | inr room ↦ room.0 ];
  full = λ taken. elim (tail-cell r value items some h) [ inl full ↦ full.0 | inr room ↦ absurd (taken room.1) ];
  empty = λ none. elim (head-cell r value items some h) [ inl empty ↦ empty.0 | inr first ↦ absurd (omega (arith, first.word)) ];
  first = λ item word. elim (head-cell r value items some h) [
    | inl empty ↦ absurd (omega (arith, empty.1))
    | inr first ↦ (first.rest, (let same : first.item ≡ item = omega (arith, first.word) in first.all ∙ ap (λ (x : ℕ). x ∷ first.rest) same))
  ];
}

pub other_words_do_not_matter : OtherWordsDoNotMatter
other_words_do_not_matter r old new items head tail cells h = record {
  counted = tail ∙ h.counted ∙ ap (λ (k : ℕ). k + length items) (sym head);
  fits = h.fits;
  inside = λ i within. value-same r new (new HEAD_AT + i) (old HEAD_AT + i) (omega arith) ∙ cells (old HEAD_AT + i) ∙ h.inside i within;
  outside = λ i from within. value-same r new (new HEAD_AT + i) (old HEAD_AT + i) (omega arith) ∙ cells (old HEAD_AT + i) ∙ h.outside i from within;
}
