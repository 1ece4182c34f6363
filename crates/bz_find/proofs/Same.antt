-- Leaves that are the same to readers have the same records, and a search meets as many in the one as in the other.
use Rattle.std.proofs.Common.{◌≡◌, ℕ, zero, suc, ◌+◌, ◌-◌, ◌<◌, ◌≤◌, Bool, true, false, List, Option, arith, refl, sym, ap, subst, ◌∙◌, inl, inr}
use Rattle.std.specs.Prelude.{Some, None, not, nat_lt, if◌then◌else◌}
use Rattle.std.proofs.lemmas.Bool.{cases_lt}
use Rattle.std.proofs.lemmas.Bool.Decides.{nat_tests}
use Rattle.bz_layout.specs.declared.sizes.TheConstants.{STATUS_AT, HEADER_AT, META_AT}
use Rattle.bz_slotted.specs.Page.{visible, extent_of, meta_of, page}
use Rattle.bz_slotted.specs.Records.{key_in, key_at}
use Rattle.bz_slotted.specs.Tests.{every}
use Rattle.bz_slotted.proofs.Words.{Agree, key-same, payload-same}
use Rattle.bz_word.specs.Headers.{header}
use Rattle.bz_word.specs.Statuses.{status}
use Rattle.bz_search.specs.Probes.{middle, probe_in, lower_of, upper_of, down_of}
use Rattle.bz_search.specs.Searches.{met_from, dead_met as sorted_met}
use Rattle.bz_search.specs.declared.probe.Probe.{Probe}
use Rattle.bz_search.proofs.Halving.{probe-some, probe-none}
use Rattle.bz_task.specs.Outcomes.{IsRecordOf}
use Rattle.bz_task.specs.Shown.{SameWords}
use Rattle.bz_task.specs.declared.view.Found.{Found}
use Rattle.bz_find.specs.Knowing.{has_key, in_tail, dead_met}

-- the probe is one of the sorted records
record IsPart (sorted : ℕ) (r : Probe) : Type 0 where
  from : r.low ≤ r.index
  to : r.index ≤ middle r.low r.high
  some : r.low < r.high
  high : r.high ≤ sorted

abbrev IsPartOrNone : ℕ → Option Probe → Type 0
IsPartOrNone sorted None = Unit {0}
IsPartOrNone sorted (Some r) = IsPart sorted r

part-of : (sorted low high : ℕ) → high ≤ sorted → IsPartOrNone sorted (probe_in low high)
part-of sorted low high h = elim (cases_lt low high) [
  | inl l ↦ rw (probe-some low high l) (record { from = omega (arith, l); to = omega arith; some = l; high = h })
  | inr l ↦ rw (probe-none low high l) tt
]

part-down : (sorted : ℕ) (r : Probe) → IsPart sorted r → IsPartOrNone sorted (down_of r)
part-down sorted r h = elim (cases_lt r.low r.index) [
  | inl l ↦ (let t : nat_lt r.low r.index ≡ true = grind (arith, nat_tests) in rw t (record { from = omega (arith, l); to = omega (arith, h.to); some = h.some; high = h.high }))
  | inr l ↦ (let t : nat_lt r.low r.index ≡ false = grind (arith, nat_tests) in rw t (part-of sorted (middle r.low r.high + 1) r.high h.high))
]

every-same : (k : ℕ) (p q : ℕ → Bool) → ((i : ℕ) → i < k → p i ≡ q i) → every k p ≡ every k q
unfolding every
every-same zero p q h = refl
every-same (suc k) p q h = rw (h k (omega arith), every-same k p q (λ i l. h i (omega (arith, l)))) refl

module _ (n m : ℕ → ℕ) (s : SameWords n m) where
  pub count-same : (page m).count ≡ (page n).count
  count-same = ap (λ z. (status z).count) (s STATUS_AT (inl (omega arith)))

  pub sorted-same : (page m).sorted ≡ (page n).sorted
  sorted-same = ap (λ z. (header z).sorted) (s HEADER_AT (inl (omega arith)))

  module _ (j : ℕ) (c : j < (page n).count) where
    word-same : m (META_AT + j) ≡ n (META_AT + j)
    word-same = s (META_AT + j) (inl (omega (arith, c)))

    pub meta-same : (page m).meta j ≡ (page n).meta j
    meta-same = ap meta_of word-same

    agree : visible ((page n).meta j) ≡ true → Agree m n (extent_of ((page n).meta j))
    agree v k from to = s k (inr (inr (inr (j, record { counted = c; visible = v; from = from; to = to }))))

    key-kept : visible ((page n).meta j) ≡ true → key_in m (extent_of ((page n).meta j)) ≡ key_at (page n) j
    key-kept v = key-same m n (extent_of ((page n).meta j)) (agree v)

    has-same : (key : List ℕ) → has_key (page m) key j ≡ has_key (page n) key j
    has-same key = go (visible ((page n).meta j)) refl
      where
        go : (b : Bool) → visible ((page n).meta j) ≡ b → has_key (page m) key j ≡ has_key (page n) key j
        go true v = rw (meta-same, key-kept v) refl
        go false v = rw (meta-same, v) refl

  -- a record of the one is the same of the other
  pub record-same : (key : List ℕ) (found : Found) → IsRecordOf key m found → IsRecordOf key n found
  record-same key found r = record { counted = c; word = w; visible = r.visible; same = sym (key-same m n (extent_of (meta_of found.meta)) a) ∙ r.same; payload = sym (payload-same m n (extent_of (meta_of found.meta)) a) ∙ r.payload }
    where
      c : found.index < (page n).count
      c = omega (arith, r.counted, count-same)

      w : n (META_AT + found.index) ≡ found.meta
      w = sym (word-same found.index c) ∙ r.word

      a : Agree m n (extent_of (meta_of found.meta))
      a = subst (λ z. Agree m n (extent_of (meta_of z))) w (agree found.index c (ap (λ z. visible (meta_of z)) w ∙ r.visible))

  module _ (key : List ℕ) (few : (page n).sorted ≤ (page n).count) where
    tail-same : in_tail (page m) key ≡ in_tail (page n) key
    tail-same = rw (count-same, sorted-same) (ap not (every-same ((page n).count - (page n).sorted) (λ i. not (has_key (page m) key ((page n).sorted + i))) (λ i. not (has_key (page n) key ((page n).sorted + i))) (λ i l. ap not (has-same ((page n).sorted + i) (omega (arith, l)) key))))

    met-same : (more : ℕ) (o : Option Probe) → IsPartOrNone (page n).sorted o → met_from (page m) key more o ≡ met_from (page n) key more o
    unfolding met_from
    met-same zero o h = refl
    met-same (suc more) None h = refl
    met-same (suc more) (Some r) h =
        step (visible ((page n).meta r.index)) refl
        (met-same more (lower_of r) (part-of (page n).sorted r.low r.index (omega (arith, h.to, h.some, h.high))))
        (met-same more (upper_of r) (part-of (page n).sorted (middle r.low r.high + 1) r.high h.high))
        (met-same more (down_of r) (part-down (page n).sorted r h))
      where
        c : r.index < (page n).count
        c = omega (arith, h.to, h.some, h.high, few)

        step : (b : Bool) → visible ((page n).meta r.index) ≡ b
            → met_from (page m) key more (lower_of r) ≡ met_from (page n) key more (lower_of r)
            → met_from (page m) key more (upper_of r) ≡ met_from (page n) key more (upper_of r)
            → met_from (page m) key more (down_of r) ≡ met_from (page n) key more (down_of r)
            → met_from (page m) key (suc more) (Some r) ≡ met_from (page n) key (suc more) (Some r)
        step true v x y z = rw (meta-same r.index c, v, key-kept r.index c v, x, y) refl
        step false v x y z = rw (meta-same r.index c, v, z) refl

    sorted-met-same : sorted_met m key ≡ sorted_met n key
    sorted-met-same = ap (λ z. met_from (page m) key z (probe_in 0 z)) sorted-same ∙ met-same (page n).sorted (probe_in 0 (page n).sorted) (part-of (page n).sorted 0 (page n).sorted (omega arith))

    pub dead-same : dead_met m key ≡ dead_met n key
    unfolding dead_met
    dead-same = ap (λ z. if z then 0 else sorted_met m key) tail-same ∙ ap (λ z. if in_tail (page n) key then 0 else z) sorted-met-same
