-- The node that is made of children of which two were made one breaks no rule, and has one child fewer.
use Rattle.std.proofs.Common.{◌≡◌, ℕ, ◌+◌, ◌<◌, ◌≤◌, false, List, [], ◌∷◌, length, map, get_or, slice_set, arith, refl, sym, ap, subst, ◌∙◌, inl, inr, Option}
use Rattle.std.specs.Prelude.{nat_lt}
use Rattle.std.specs.List.{range_with_len}
use Rattle.std.proofs.lemmas.Bool.{cases_lt}
use Rattle.std.proofs.lemmas.Bool.Decides.{nat_tests}
use Rattle.std.proofs.lemmas.List.{ext_get_or, length-append}
use Rattle.std.proofs.lemmas.List.FromFn.{length-map-range_with_len, get_or-map-range_with_len}
use Rattle.bz_key.specs.Packing.{packed}
use Rattle.bz_layout.specs.declared.sizes.TheConstants.{SHARED_WORDS}
use Rattle.bz_node.specs.Layout.{bound_of, needed}
use Rattle.bz_node.specs.Reading.{children_in}
use Rattle.bz_node.specs.Records.{child_entry}
use Rattle.bz_node.specs.declared.child.Child.{Child}
use Rattle.bz_tree.specs.Slots.{Wider}
use Rattle.bz_slotted.specs.Laws.{RisesBetween}
use Rattle.bz_slotted.specs.Page.{page}
use Rattle.bz_slotted.specs.Readers.{count_of, child_of, key_of}
use Rattle.bz_slotted.specs.ReadingLaws.{node_of, child_read, IsInnerOf, ReadsAsChildren}
use Rattle.bz_slotted.specs.Whole.{WholeInner}
use Rattle.bz_slotted.proofs.Proved.{inner_keys_rise, inner_rules_are_facts, made_inners_are_whole, whole_inners_are_readable}
use Rattle.bz_halves.specs.Parents.{child_at, children_told}
use Rattle.bz_join.specs.Parents.{joined, joined_parent, HasTwo, IsJoinedParent, ChildrenJoin}
use Rattle.bz_join.proofs.Children.{none, count, at-before, at-one, at-after, child-is, has, low-bound, high-bound, list, slots, each, bound-before, bound-after}
use Rattle.bz_join.proofs.Weights.{needed-remove, needed-set, all-needed}

-- past the last child readers read nothing
child-past : (n : ℕ → ℕ) (j : ℕ) → count_of n ≤ j → child_of n j ≡ 0
unfolding child_of count_of
child-past n j past = (let t : nat_lt j (page n).count ≡ false = grind (arith, nat_tests) in rw t refl)

key-past : (n : ℕ → ℕ) (j : ℕ) → count_of n ≤ j → key_of n j ≡ []
unfolding key_of count_of
key-past n j past = (let t : nat_lt j (page n).count ≡ false = grind (arith, nat_tests) in rw t refl)

count-is : (n : ℕ → ℕ) → count_of n ≡ (page n).count
unfolding count_of
count-is n = refl

module _ (nodes : ℕ) (raw : ℕ → ℕ) (words : List ℕ) (level : ℕ) (low high : Option (List ℕ)) (i slot : ℕ) (t : HasTwo nodes raw words level low high i) (new_slot : slot < nodes) (reads : ReadsAsChildren words)
    (w : WholeInner nodes raw (page (node_of words)) level low high) (rise : RisesBetween nodes (node_of words) low high) where
  abbrev cs : List Child
  cs = children_in words

  abbrev js : List Child
  js = joined cs i slot

  abbrev old : ℕ → ℕ
  old = node_of words

  abbrev new : ℕ → ℕ
  new = node_of (joined_parent cs i slot low high level)

  two : i + 1 < length cs
  two = omega (arith, t.within, reads.count)

  fewer : length js + 1 ≡ count_of old
  fewer = omega (arith, count cs i slot two, reads.count)

  -- the children are those that were read, in their order
  in-order : cs ≡ map (child_read old) (range_with_len 0 (page old).count)
  in-order = ext_get_or none cs (map (child_read old) (range_with_len 0 (page old).count)) (omega (arith, reads.count, count-is old, length-map-range_with_len (child_read old) 0 (page old).count))
      (λ j l. child-is nodes raw words level low high t.few reads w rise j none l ∙ sym (get_or-map-range_with_len (child_read old) 0 (page old).count j j none (omega (arith, l, reads.count, count-is old)) (omega arith)))

  room : needed (map child_entry js) ≤ SHARED_WORDS
  room =
      let one : Child = record { low = (child_at cs i).low; slot = slot } in
      let all : needed (map child_entry cs) ≤ SHARED_WORDS = subst (λ z. needed (map child_entry z) ≤ SHARED_WORDS) (sym in-order) (all-needed nodes raw words level low high w) in
      omega (
        arith,
        all,
        needed-remove (slice_set cs i one) (i + 1),
        needed-set cs i one (omega (arith, two)) (omega (arith, length-append (packed (bound_of (child_at cs i).low)) ((slot + 1) ∷ []), length-append (packed (bound_of (child_at cs i).low)) (((child_at cs i).slot + 1) ∷ []))),
      )

  inner : IsInnerOf nodes new js level low high
  inner = made_inners_are_whole nodes js level low high (each nodes raw words level low high t.few reads w rise i slot t.within new_slot) (low-bound nodes raw words level low high t.few reads w rise) (high-bound nodes raw words level low high t.few reads w rise)
      (list nodes raw words level low high t.few reads w rise i slot t.within) (slots nodes raw words level low high t.few reads w rise i slot t.within new_slot) t.inner w.level.lowest room

  child-now : (j : ℕ) → j < length js → child_of new j ≡ (get_or js j none).slot
  child-now j l = inner.child j none l

  key-now : (j : ℕ) → j < length js → key_of new j ≡ bound_of (get_or js j none).low
  key-now j l = inner.key j none l

  was : (j : ℕ) → j < length cs → child_of old j ≡ (get_or cs j none).slot
  was j l = sym (ap (λ (c : Child). c.slot) (child-is nodes raw words level low high t.few reads w rise j none l))

  child-before : (j : ℕ) → j < i → child_of old j ≡ child_of new j
  child-before j l = was j (omega (arith, l, two)) ∙ (ap (λ (c : Child). c.slot) (sym (at-before cs i slot two j none l)) ∙ sym (child-now j (omega (arith, l, fewer, t.within))))

  child-after : (j : ℕ) → i < j → child_of old (j + 1) ≡ child_of new j
  child-after j l = elim (cases_lt j (length js)) [
    | inl within ↦ was (j + 1) (omega (arith, within, fewer, reads.count)) ∙ (ap (λ (c : Child). c.slot) (sym (at-after cs i slot two j none l)) ∙ sym (child-now j within))
    | inr past ↦ child-past old (j + 1) (omega (arith, past, fewer)) ∙ sym (child-past new j (omega (arith, past, inner.count)))
  ]

  key-before : (j : ℕ) → j ≤ i → key_of old j ≡ key_of new j
  key-before j l = sym (key-now j (omega (arith, l, fewer, t.within)) ∙ bound-before nodes raw words level low high t.few reads w rise i slot t.within j l)

  key-after : (j : ℕ) → i < j → key_of old (j + 1) ≡ key_of new j
  key-after j l = elim (cases_lt j (length js)) [
    | inl within ↦ sym (key-now j within ∙ bound-after nodes raw words level low high t.few reads w rise i slot t.within j l within)
    | inr past ↦ key-past old (j + 1) (omega (arith, past, fewer)) ∙ sym (key-past new j (omega (arith, past, inner.count)))
  ]

  narrower : Wider (children_told new) (children_told old) i (child_of old i) (child_of old (i + 1)) (key_of old (i + 1))
  narrower = record {
    count = omega (arith, inner.count, fewer);
    child_before = child-before;
    child_l = refl;
    child_r = refl;
    child_after = child-after;
    key_before = key-before;
    parted = refl;
    key_after = key-after;
  }

  pub is-joined : IsJoinedParent nodes words level low high i slot
  is-joined = record {
    readable = reads.readable;
    has = has nodes raw words level low high t.few reads w rise;
    low_bound = low-bound nodes raw words level low high t.few reads w rise;
    high_bound = high-bound nodes raw words level low high t.few reads w rise;
    levels = w.level.lowest;
    each = each nodes raw words level low high t.few reads w rise i slot t.within new_slot;
    list = list nodes raw words level low high t.few reads w rise i slot t.within;
    room = room;
    inner = inner;
    child = child-now i (omega (arith, fewer, t.within)) ∙ ap (λ (c : Child). c.slot) (at-one cs i slot two none);
    narrower = narrower;
  }

pub children-join : ChildrenJoin
children-join nodes raw words level low high i slot t new_slot =
    is-joined nodes raw words level low high i slot t new_slot (whole_inners_are_readable nodes raw words level low high t.few t.inner t.size t.none) ((inner_rules_are_facts nodes raw (node_of words) level low high t.inner).0 t.none) (inner_keys_rise nodes raw (node_of words) level low high t.inner t.none)
