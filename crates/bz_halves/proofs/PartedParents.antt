-- The node that is made of parted children breaks no rule, and is wider by one child.
use Rattle.std.proofs.Common.{◌≡◌, ℕ, ◌+◌, ◌<◌, ◌≤◌, false, List, [], length, get_or, slice_set, arith, refl, sym, ap, subst, ◌∙◌, inl, inr, Option}
use Rattle.std.specs.Prelude.{All, Some, None, nat_lt}
use Rattle.std.proofs.lemmas.Bool.{cases_lt}
use Rattle.std.proofs.lemmas.Bool.Decides.{nat_tests}
use Rattle.std.proofs.lemmas.List.{get_or-set_same, get_or-set_other, length-set}
use Rattle.bz_layout.specs.declared.limits.TheConstants.{MAX_NODES}
use Rattle.bz_node.specs.Layout.{bound_of}
use Rattle.bz_node.specs.Records.{IsChild}
use Rattle.bz_node.specs.declared.child.Child.{Child}
use Rattle.bz_slotted.specs.FromShape.Slots.{Wider}
use Rattle.bz_slotted.specs.Page.{page}
use Rattle.bz_slotted.specs.Readers.{count_of, child_of, key_of}
use Rattle.bz_slotted.specs.ReadingLaws.{node_of, IsInnerOf}
use Rattle.bz_slotted.proofs.Proved.{made_inners_are_whole}
use Rattle.bz_halves.specs.Parents.{child_at, parted, parted_words, MayPart, HasChildren, children_told, HasRoomToPart, ParentsOfHalvesAreWhole}
use Rattle.bz_halves.proofs.Parents.{All-insert, list, count, words, at-sep, at-high, at-half, at-before, low-same}

-- past the last child readers read nothing
child-past : (n : ℕ → ℕ) (j : ℕ) → count_of n ≤ j → child_of n j ≡ 0
unfolding child_of count_of
child-past n j past = (let t : nat_lt j (page n).count ≡ false = grind (arith, nat_tests) in rw t refl)

key-past : (n : ℕ → ℕ) (j : ℕ) → count_of n ≤ j → key_of n j ≡ []
unfolding key_of count_of
key-past n j past = (let t : nat_lt j (page n).count ≡ false = grind (arith, nat_tests) in rw t refl)

All-set : {X : Type 0} (P : X → Type 0) (xs : List X) (i : ℕ) (x : X) → i < length xs → All P xs → P x → All P (slice_set xs i x)
All-set P xs i x within all new k d l = elim (cases_lt k i) [
  | inl low ↦ subst P (sym (get_or-set_other xs i k x d (λ e. absurd (omega (arith, low, e))))) (all k d (omega (arith, low, within)))
  | inr high ↦ elim (cases_lt i k) [
    | inl above ↦ subst P (sym (get_or-set_other xs i k x d (λ e. absurd (omega (arith, above, e))))) (all k d (omega (arith, l, length-set xs i x)))
    | inr at ↦ (let e : i ≡ k = omega (arith, high, at) in subst (λ z. P (get_or (slice_set xs i x) z d)) e (subst P (sym (get_or-set_same xs i x d within)) new))
  ]
]

-- each of the parted children is one
pub parted-each : (cs : List Child) (low high : Option (List ℕ)) (i left right : ℕ) (sep : List ℕ) → MayPart cs low high i sep → left < MAX_NODES → right < MAX_NODES → All IsChild (parted cs i left right sep)
parted-each cs low high i left right sep m l r =
    let half : Child = record { low = (child_at cs i).low; slot = left } in
    let other : Child = record { low = Some sep; slot = right } in
    All-insert IsChild (slice_set cs i half) (i + 1) other (omega (arith, length-set cs i half, m.within))
    (All-set IsChild cs i half m.within m.each (record { low = (m.each i (record { low = None; slot = 0 }) m.within).low; slot = omega (arith, l) }))
    (record { low = m.key; slot = omega (arith, r) })

module _ (nodes : ℕ) (old : ℕ → ℕ) (cs : List Child) (low high : Option (List ℕ)) (level i left right : ℕ) (sep : List ℕ) (m : MayPart cs low high i sep) (room : HasRoomToPart nodes cs level left right sep) (tells : HasChildren old cs) where
  abbrev none : Child
  none = record { low = None; slot = 0 }

  all-of : (P : Child → Type 0) → All P cs → P (record { low = (child_at cs i).low; slot = left }) → P (record { low = Some sep; slot = right }) → All P (parted cs i left right sep)
  all-of P all half other = All-insert P (slice_set cs i (record { low = (child_at cs i).low; slot = left })) (i + 1) (record { low = Some sep; slot = right }) (omega (arith, length-set cs i (record { low = (child_at cs i).low; slot = left }), m.within))
      (All-set P cs i (record { low = (child_at cs i).low; slot = left }) m.within all half) other

  inner : IsInnerOf nodes (node_of (parted_words cs i left right sep low high level)) (parted cs i left right sep) level low high
  inner = made_inners_are_whole nodes (parted cs i left right sep) level low high
      (all-of IsChild m.each (record { low = (m.each i none m.within).low; slot = omega (arith, room.left_slot, room.few) }) (record { low = m.key; slot = omega (arith, room.right_slot, room.few) }))
      m.low_bound m.high_bound (list cs low high i left right sep m)
      (all-of (λ (c : Child). c.slot < nodes) room.slots room.left_slot room.right_slot)
      room.inner room.few_levels (omega (arith, room.room, words cs low high i left right sep m))

  abbrev new : ℕ → ℕ
  new = node_of (parted_words cs i left right sep low high level)

  long : length (parted cs i left right sep) ≡ length cs + 1
  long = count cs i left right sep m.within

  child-is : (j : ℕ) → j < length cs + 1 → child_of new j ≡ (get_or (parted cs i left right sep) j none).slot
  child-is j l = inner.child j none (omega (arith, l, long))

  key-is : (j : ℕ) → j < length cs + 1 → key_of new j ≡ bound_of (get_or (parted cs i left right sep) j none).low
  key-is j l = inner.key j none (omega (arith, l, long))

  child-after : (j : ℕ) → i < j → child_of new (j + 1) ≡ child_of old j
  child-after j l = elim (cases_lt j (length cs)) [
    | inl within ↦ child-is (j + 1) (omega (arith, within)) ∙ (ap (λ (z : Child). z.slot) (at-high cs i left right sep m.within j none l) ∙ sym (tells.child j within))
    | inr past ↦ child-past new (j + 1) (omega (arith, past, inner.count, long)) ∙ sym (child-past old j (omega (arith, past, tells.count)))
  ]

  key-after : (j : ℕ) → i < j → key_of new (j + 1) ≡ key_of old j
  key-after j l = elim (cases_lt j (length cs)) [
    | inl within ↦ key-is (j + 1) (omega (arith, within)) ∙ (ap (λ (z : Child). bound_of z.low) (at-high cs i left right sep m.within j none l) ∙ sym (tells.key j within))
    | inr past ↦ key-past new (j + 1) (omega (arith, past, inner.count, long)) ∙ sym (key-past old j (omega (arith, past, tells.count)))
  ]

  wider : Wider (children_told old) (children_told new) i left right sep
  wider = record {
    count = omega (arith, inner.count, long, tells.count);
    child_before = λ j l. child-is j (omega (arith, l, m.within)) ∙ (ap (λ (z : Child). z.slot) (at-before cs i left right sep m.within j none l) ∙ sym (tells.child j (omega (arith, l, m.within))));
    child_l = child-is i (omega (arith, m.within)) ∙ ap (λ (z : Child). z.slot) (at-half cs i left right sep m.within none);
    child_r = child-is (i + 1) (omega (arith, m.within)) ∙ ap (λ (z : Child). z.slot) (at-sep cs i left right sep m.within none);
    child_after = child-after;
    key_before = λ j l. key-is j (omega (arith, l, m.within)) ∙ (ap bound_of (low-same cs i left right sep m.within j none (omega (arith, l))) ∙ sym (tells.key j (omega (arith, l, m.within))));
    parted = key-is (i + 1) (omega (arith, m.within)) ∙ ap (λ (z : Child). bound_of z.low) (at-sep cs i left right sep m.within none);
    key_after = key-after;
  }

pub parents-whole : ParentsOfHalvesAreWhole
parents-whole nodes old cs low high level i left right sep m room tells = record { inner = inner nodes old cs low high level i left right sep m room tells; wider = wider nodes old cs low high level i left right sep m room tells }
