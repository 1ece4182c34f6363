-- The children that are read of an inner node that breaks no rule make a node, and take the words that its status says.
use Rattle.std.proofs.Common.{◌≡◌, ℕ, zero, suc, ◌+◌, ◌<◌, ◌≤◌, List, length, take, get_or, arith, refl, sym, ap, ◌∙◌, inl, inr, Option}
use Rattle.std.specs.Prelude.{None, IsSome}
use Rattle.std.proofs.lemmas.Bool.{cases_eq}
use Rattle.std.proofs.lemmas.List.{get_or_default, take_all}
use Rattle.bz_key.specs.Packing.{packed, packed_len, unpacked, unpacked_key}
use Rattle.bz_key.proofs.PackingLaws.{length-packed}
use Rattle.bz_key.proofs.UnpackingLaws.{unpacked_key-sound}
use Rattle.bz_layout.specs.declared.limits.TheConstants.{MAX_NODES}
use Rattle.bz_node.specs.Layout.{bound_of}
use Rattle.bz_node.specs.Reading.{children_in}
use Rattle.bz_node.specs.declared.child.Child.{Child}
use Rattle.bz_slotted.specs.Laws.{RisesBetween}
use Rattle.bz_slotted.specs.Page.{extent_of, page}
use Rattle.bz_slotted.specs.Readers.{count_of, key_of}
use Rattle.bz_slotted.specs.ReadingLaws.{node_of, child_read, ReadsAsChildren}
use Rattle.bz_slotted.specs.Records.{key_words, shown, live_block}
use Rattle.bz_slotted.specs.Whole.{WholeInner}
use Rattle.bz_slotted.proofs.Honest.{lt-t}
use Rattle.bz_slotted.proofs.Readings.{unpacked_key-some}
use Rattle.bz_slotted.proofs.Proved.{inner_keys_rise, inner_rules_are_facts, whole_inners_are_readable}
use Rattle.bz_halves.proofs.ReadParents.{no-bytes, child-is, bound-read, each, list, has, slots, low-bound, high-bound}
use Rattle.bz_parted.specs.Laws.{ReadNodesHaveChildren}
use Rattle.bz_parted.specs.Parting.{child_words}
use Rattle.bz_parted.proofs.Cuts.{size_of, size-is, words-more, words-none}

key-long : (len : ℕ) (words : List ℕ) → IsSome (unpacked_key len words) → length (unpacked len words) ≡ len
key-long len words s = (unpacked_key-sound len words (unpacked len words) (unpacked_key-some len words s)).1

abbrev none : Child
none = record { low = None; slot = 0 }

module _ (nodes : ℕ) (raw : ℕ → ℕ) (words : List ℕ) (level : ℕ) (low high : Option (List ℕ)) (few : nodes ≤ MAX_NODES) (reads : ReadsAsChildren words) (w : WholeInner nodes raw (page (node_of words)) level low high) (rise : RisesBetween nodes (node_of words) low high) where
  abbrev n : ℕ → ℕ
  n = node_of words

  abbrev cs : List Child
  cs = children_in words

  counted : count_of n ≡ (page n).count
  unfolding count_of
  counted = refl

  -- a child takes the words of its record, and a metadata word
  key-length : (j : ℕ) → j < (page n).count → length (key_of n j) ≡ (extent_of ((page n).meta j)).key
  unfolding key_of
  key-length j l = elim (cases_eq j 0) [
    | inl e ↦ (
        let z : (extent_of ((page n).meta j)).key ≡ 0 = (w.lengths j l).first e in
        rw (lt-t j (page n).count l) (ap length (no-bytes (extent_of ((page n).meta j)).key (key_words n (extent_of ((page n).meta j))) z) ∙ sym z))
    | inr ne ↦ rw (lt-t j (page n).count l) (key-long (extent_of ((page n).meta j)).key (key_words n (extent_of ((page n).meta j))) (w.key j (omega (arith, ne)) l).packs)
  ]

  child-size : (j : ℕ) → j < (page n).count → size_of (get_or cs j none) ≡ 1 + shown ((page n).meta j)
  child-size j l =
      let inside : j < length cs = omega (arith, l, counted, reads.count) in
      let is : get_or cs j none ≡ child_read n j = child-is nodes raw words level low high few reads w rise j none inside in
      let key : length (bound_of (get_or cs j none).low) ≡ (extent_of ((page n).meta j)).key = ap (λ (c : Child). length (bound_of c.low)) is ∙ (ap length (bound-read nodes raw words level low high few reads w rise j) ∙ key-length j l) in
      let words : length (packed (bound_of (get_or cs j none).low)) ≡ packed_len (extent_of ((page n).meta j)).key = length-packed (bound_of (get_or cs j none).low) ∙ ap packed_len key in
      rw (w.shows j l) (omega (arith, size-is (get_or cs j none), words, (w.lengths j l).pointer))

  first-words : (m : ℕ) → m ≤ (page n).count → child_words (take m cs) ≡ m + live_block (page n).meta m
  unfolding live_block
  first-words zero l = words-none cs
  first-words (suc m) l =
      let inside : m < length cs = omega (arith, l, counted, reads.count) in
      let e : m + 1 ≡ suc m = omega arith in
      let more : child_words (take (m + 1) cs) ≡ child_words (take m cs) + size_of (get_or cs m none) = words-more cs m (get_or cs m none) inside (get_or_default cs m none (get_or cs m none) inside) in
      omega (arith, ap (λ z. child_words (take z cs)) (sym e), more, first-words m (omega (arith, l)), child-size m (omega (arith, l)))

  pub all-words : child_words cs ≡ (page n).count + (page n).block
  all-words =
      let all : take (page n).count cs ≡ cs = take_all (page n).count cs (omega (arith, reads.count, counted)) in
      omega (arith, ap child_words (sym all), first-words (page n).count (omega arith), w.filled.dead, w.settled.none_dead)

pub read-nodes : ReadNodesHaveChildren
read-nodes nodes raw words level low high few inner size none =
    let reads : ReadsAsChildren words = whole_inners_are_readable nodes raw words level low high few inner size none in
    let w : WholeInner nodes raw (page (node_of words)) level low high = (inner_rules_are_facts nodes raw (node_of words) level low high inner).0 none in
    let rise : RisesBetween nodes (node_of words) low high = inner_keys_rise nodes raw (node_of words) level low high inner none in
    record {
      readable = reads.readable;
      each = each nodes raw words level low high few reads w rise;
      low_bound = low-bound nodes raw words level low high few reads w rise;
      high_bound = high-bound nodes raw words level low high few reads w rise;
      list = list nodes raw words level low high few reads w rise;
      has = has nodes raw words level low high few reads w rise;
      slots = slots nodes raw words level low high few reads w rise;
      taken = all-words nodes raw words level low high few reads w rise;
      room = omega (arith, all-words nodes raw words level low high few reads w rise, w.filled.room);
    }
