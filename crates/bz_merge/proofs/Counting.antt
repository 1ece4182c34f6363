-- How many swaps a merge asks for after an answer, and how many took effect.
use Rattle.std.proofs.Common.{◌≡◌, ℕ, ◌+◌, ◌≤◌, if◌then◌else◌, true, false, arith, refl, sym, ap, subst, ◌∙◌, inl, inr}
use Rattle.std.specs.Prelude.{nat_lt, None, slice_index}
use Rattle.bz_layout.specs.Slots.{FreeSlots}
use Rattle.bz_layout.specs.declared.config.Config.{Config}
use Rattle.bz_layout.specs.declared.sizes.TheConstants.{NODE_WORDS, STATUS_AT}
use Rattle.bz_word.specs.Statuses.{status}
use Rattle.bz_task.specs.Requests.{Hears, swaps_in, effects_in}
use Rattle.bz_task.specs.Scene.{Scene, Stage, Waiting, Took}
use Rattle.bz_task.specs.declared.todo.Seen.{Seen}
use Rattle.bz_writer.proofs.Sizes.{heard-effects}
use Rattle.bz_merge.specs.Counts.{freezes_of, both_freezes, merge_swaps, merge_made}
use Rattle.bz_merge.specs.Decisions.{HasTold, HasSettled, HasBegun, HasLooked}
use Rattle.bz_merge.specs.Facts.{MERGE_WORDS, MERGE_LINES, merge_asks, merge_end, merge_facts, word_after, beside_after, store_after, flush_after}
use Rattle.bz_merge.specs.Plans.{Merging}
use Rattle.bz_merge.specs.declared.phase.MergePhase.{MergePhase}
use Rattle.bz_merge.specs.declared.phase.MergePhase.TheVariants.{Fresh, Word, Again, Beside, Parent, Still, Freeze, FreezeBeside, Guard, Store, Flush, Swap, Done, Restart, NoNeighbour, NoSlot}
use Rattle.bz_merge.specs.declared.sibling.Sibling.{Sibling}
use Rattle.bz_merge.proofs.Settling.{with_side}

-- a leaf with this status is frozen once, or not
pub one-freeze : (st : ℕ) → (status st).frozen ≡ false → freezes_of st ≡ 1
one-freeze st e = ap (λ b. if b then 0 else 1) e

pub no-freeze : (st : ℕ) → (status st).frozen ≡ true → freezes_of st ≡ 0
no-freeze st e = ap (λ b. if b then 0 else 1) e

-- what a freeze that is asked for is to freeze was not frozen when it was read
pub record IsThawed (r : Merging) (phase : MergePhase) : Type 0 where
  pub own : phase ≡ Freeze → (status r.status).frozen ≡ false
  pub other : phase ≡ FreezeBeside → (status (slice_index r.beside STATUS_AT)).frozen ≡ false

own-thawed : (r : Merging) (stage : Stage) (s : Scene) → merge_facts r Freeze stage s → (status r.status).frozen ≡ false
own-thawed r Waiting s f = f.1.1
own-thawed r Took s f = f.1.1.1.froze.thawed

other-thawed : (r : Merging) (stage : Stage) (s : Scene) → merge_facts r FreezeBeside stage s → (status (slice_index r.beside STATUS_AT)).frozen ≡ false
other-thawed r Waiting s f = f.1.1.1.0
other-thawed r Took s f = f.1.1

pub is-thawed : (r : Merging) (phase : MergePhase) (stage : Stage) (s : Scene) → merge_facts r phase stage s → IsThawed r phase
is-thawed r phase stage s f = record {
  own = λ e. own-thawed r stage s (subst (λ z. merge_facts r z stage s) e f);
  other = λ e. other-thawed r stage s (subst (λ z. merge_facts r z stage s) e f);
}

-- before the first freeze
abbrev pub IsChoosing : MergePhase → Type 0
IsChoosing Fresh = Unit {0}
IsChoosing (Word i) = Unit {0}
IsChoosing Again = Unit {0}
IsChoosing (Beside i) = Unit {0}
IsChoosing Parent = Unit {0}
IsChoosing Still = Unit {0}
IsChoosing phase = ⊥

-- nothing was frozen then, and no swap is asked for
record Chooses (c : Config) (r : Merging) (p : MergePhase) : Type 0 where
  all : merge_swaps p ≡ 3
  none : merge_made r p ≡ 0
  reads : swaps_in (merge_asks c r p) ≡ 0

chooses : (c : Config) (r : Merging) (p : MergePhase) → IsChoosing p → Chooses c r p
chooses c r Fresh w = record { all = refl; none = refl; reads = refl }
chooses c r (Word i) w = record { all = refl; none = refl; reads = refl }
chooses c r Again w = record { all = refl; none = refl; reads = refl }
chooses c r (Beside i) w = record { all = refl; none = refl; reads = refl }
chooses c r Parent w = record { all = refl; none = refl; reads = refl }
chooses c r Still w = record { all = refl; none = refl; reads = refl }
chooses c r phase w = absurd (w)

chosen : (c : Config) (r : Merging) (o p : MergePhase) → o ≡ p → IsChoosing p → Chooses c r o
chosen c r o p is w = subst (Chooses c r) (sym is) (chooses c r p w)

swaps-few : (q : MergePhase) → merge_swaps q ≤ 3
swaps-few Done = omega arith
swaps-few q = omega arith

pub choosing-fewer : (c : Config) (r : Merging) (o p q : MergePhase) → o ≡ p → IsChoosing p → merge_swaps q + swaps_in (merge_asks c r o) ≤ merge_swaps o
choosing-fewer c r o p q is w = let k = chosen c r o p is w in omega (arith, k.all, k.reads, swaps-few q)

pub choosing-counted : (c : Config) (before after : Merging) (o p q : MergePhase) (seen : Seen) → o ≡ p → IsChoosing p → merge_made after q ≡ 0 → Hears (merge_asks c before o) seen → merge_made after q ≡ merge_made before o + effects_in seen
choosing-counted c before after o p q seen is w none h = let k = chosen c before o p is w in omega (arith, k.none, k.reads, none, heard-effects (merge_asks c before o) seen h)

-- what comes of a load before the first freeze
pub word-none : (r : Merging) (next : ℕ) → merge_made r (word_after next) ≡ 0
word-none r next = elim (nat_lt next NODE_WORDS) as (λ b. merge_made r (if b then Word next else Again) ≡ 0) [ true ↦ refl | false ↦ refl ]

pub beside-none : (r : Merging) (next : ℕ) → merge_made r (beside_after next) ≡ 0
beside-none r next = elim (nat_lt next NODE_WORDS) as (λ b. merge_made r (if b then Beside next else Parent) ≡ 0) [ true ↦ refl | false ↦ refl ]

pub told-none : (r after : Merging) (seen : Seen) (side : Sibling) (q : MergePhase) → HasTold r seen side q → merge_made after q ≡ 0
told-none r after seen side (Beside i) h = refl
told-none r after seen side NoNeighbour h = refl
told-none r after seen side Restart h = refl
told-none r after seen side q h = absurd (h)

pub settled-none : (r : Merging) (seen : Seen) (side : Sibling) (q : MergePhase) → HasSettled r seen side q → merge_made (with_side r side) q ≡ 0
settled-none r seen side (Beside i) h = refl
settled-none r seen side NoNeighbour h = refl
settled-none r seen side Freeze h = refl
settled-none r seen side FreezeBeside h = no-freeze r.status h.1.1.0
settled-none r seen side Guard h = omega (arith, no-freeze r.status h.1.1.0, no-freeze (slice_index r.beside STATUS_AT) h.1.1.1)
settled-none r seen side Restart h = refl
settled-none r seen side q h = absurd (h)

-- from another look at the guard on one swap is left, and no more is frozen
begun-few : (r : Merging) (q : MergePhase) (old new : FreeSlots) → HasBegun r q old new → merge_swaps q ≤ 1
begun-few r (Store j) old new h = omega arith
begun-few r NoSlot old new h = omega arith
begun-few r q old new h = absurd (h)

begun-made : (r : Merging) (q : MergePhase) (old new : FreeSlots) → HasBegun r q old new → merge_end q ≡ None → merge_made r q ≡ both_freezes r
begun-made r (Store j) old new h e = refl
begun-made r NoSlot old new h e = absurd (cc)
begun-made r q old new h e = absurd (h)

both-same : (before after : Merging) → after.status ≡ before.status → after.beside ≡ before.beside → both_freezes after ≡ both_freezes before
both-same before after own other = λ t. freezes_of (own t) + freezes_of (slice_index (other t) STATUS_AT)

module _ (c : Config) (before after : Merging) (o q : MergePhase) (seen : Seen) (old new : FreeSlots) (is : o ≡ Guard) (h : HasLooked after seen q old new) where
  looked-few : merge_swaps q ≤ 1
  looked-few = elim h [ inl g ↦ begun-few after q old new g.1 | inr g ↦ omega (arith, ap merge_swaps g.1.0) ]

  looked-made : merge_end q ≡ None → merge_made after q ≡ both_freezes after
  looked-made e = elim h [ inl g ↦ begun-made after q old new g.1 e | inr g ↦ absurd (let z = sym (ap merge_end g.1.0) ∙ e in cc) ]

  reads : swaps_in (merge_asks c before o) ≡ 0
  reads = ap (λ z. swaps_in (merge_asks c before z)) is

  pub looked-fewer : merge_swaps q + swaps_in (merge_asks c before o) ≤ merge_swaps o
  looked-fewer = omega (arith, looked-few, reads, ap merge_swaps is)

  pub looked-counted : after.status ≡ before.status → after.beside ≡ before.beside → Hears (merge_asks c before o) seen → merge_end q ≡ None → merge_made after q ≡ merge_made before o + effects_in seen
  looked-counted own other hears e =
      let same : merge_made after q ≡ merge_made before o = looked-made e ∙ (both-same before after own other ∙ sym (ap (merge_made before) is)) in
      omega (arith, same, reads, heard-effects (merge_asks c before o) seen hears)

-- after a store and after a flush
store-one : (j : ℕ) → merge_swaps (store_after j) ≡ 1
store-one j = elim (nat_lt (j + 1) MERGE_WORDS) as (λ b. merge_swaps (if b then Store (j + 1) else Flush 0) ≡ 1) [ true ↦ refl | false ↦ refl ]

store-made : (r : Merging) (j : ℕ) → merge_made r (store_after j) ≡ both_freezes r
store-made r j = elim (nat_lt (j + 1) MERGE_WORDS) as (λ b. merge_made r (if b then Store (j + 1) else Flush 0) ≡ both_freezes r) [ true ↦ refl | false ↦ refl ]

flush-one : (j : ℕ) → merge_swaps (flush_after j) ≡ 1
flush-one j = elim (nat_lt (j + 1) MERGE_LINES) as (λ b. merge_swaps (if b then Flush (j + 1) else Swap) ≡ 1) [ true ↦ refl | false ↦ refl ]

flush-made : (r : Merging) (j : ℕ) → merge_made r (flush_after j) ≡ both_freezes r
flush-made r j = elim (nat_lt (j + 1) MERGE_LINES) as (λ b. merge_made r (if b then Flush (j + 1) else Swap) ≡ both_freezes r) [ true ↦ refl | false ↦ refl ]

module _ (c : Config) (r : Merging) (o q : MergePhase) (j : ℕ) where
  pub stored-fewer : o ≡ Store j → q ≡ store_after j → merge_swaps q + swaps_in (merge_asks c r o) ≤ merge_swaps o
  stored-fewer is then_is = omega (arith, ap merge_swaps then_is, store-one j, ap merge_swaps is, ap (λ z. swaps_in (merge_asks c r z)) is)

  pub stored-counted : (seen : Seen) → o ≡ Store j → q ≡ store_after j → Hears (merge_asks c r o) seen → merge_made r q ≡ merge_made r o + effects_in seen
  stored-counted seen is then_is h =
      let same : merge_made r q ≡ merge_made r o = ap (merge_made r) then_is ∙ (store-made r j ∙ sym (ap (merge_made r) is)) in
      omega (arith, same, ap (λ z. swaps_in (merge_asks c r z)) is, heard-effects (merge_asks c r o) seen h)

  pub flushed-fewer : o ≡ Flush j → q ≡ flush_after j → merge_swaps q + swaps_in (merge_asks c r o) ≤ merge_swaps o
  flushed-fewer is then_is = omega (arith, ap merge_swaps then_is, flush-one j, ap merge_swaps is, ap (λ z. swaps_in (merge_asks c r z)) is)

  pub flushed-counted : (seen : Seen) → o ≡ Flush j → q ≡ flush_after j → Hears (merge_asks c r o) seen → merge_made r q ≡ merge_made r o + effects_in seen
  flushed-counted seen is then_is h =
      let same : merge_made r q ≡ merge_made r o = ap (merge_made r) then_is ∙ (flush-made r j ∙ sym (ap (merge_made r) is)) in
      omega (arith, same, ap (λ z. swaps_in (merge_asks c r z)) is, heard-effects (merge_asks c r o) seen h)
