-- What is known after a swap, and what it leads to.
use Rattle.std.proofs.Common.{◌≡◌, ◌≢◌, ℕ, ◌+◌, ◌<◌, ◌≤◌, ◌^◌, Bool, true, false, arith, refl, sym, ap, subst, ◌∙◌, inl, inr}
use Rattle.std.specs.Prelude.{◌↔◌, None, slice_index}
use Rattle.bz_layout.specs.declared.config.Config.{Config}
use Rattle.bz_layout.specs.declared.sizes.TheConstants.{STATUS_AT}
use Rattle.bz_task.specs.Requests.{Hears, Tells, swaps_in, effects_in}
use Rattle.bz_task.specs.Scene.{Scene, Stage, Waiting, Took, IsScene, HasFilled}
use Rattle.bz_task.specs.declared.todo.Seen.{Seen}
use Rattle.bz_task.specs.declared.todo.Seen.TheVariants.{Start, Read as Was, Stored, Flushed, Swapped, NoSwap as NoneLeft}
use Rattle.bz_merge.specs.Counts.{merge_swaps, merge_made}
use Rattle.bz_merge.specs.Decisions.{HasSwapped}
use Rattle.bz_merge.specs.Facts.{IsSwapping, WritesOrSwaps, merge_asks, merge_end, merge_facts, merge_left, merge_steps, merge_needs}
use Rattle.bz_merge.specs.Plans.{Merging}
use Rattle.bz_merge.specs.declared.phase.MergePhase.{MergePhase}
use Rattle.bz_merge.specs.declared.phase.MergePhase.TheVariants.{Fresh, Word, Again, Beside, Parent, Still, Freeze, FreezeBeside, Guard, Store, Flush, Swap, Done, Restart, NoNeighbour, NoSlot, NoSwap}
use Rattle.bz_merge.proofs.Asking.{other-once}
use Rattle.bz_merge.proofs.Counting.{IsThawed, one-freeze, no-freeze}
use Rattle.bz_merge.proofs.Writing.{freeze-learns, beside-learns, swap-learns}

-- of the phases in which something is written the others are those of swaps
pub swapping-of : (phase : MergePhase) → WritesOrSwaps phase → ((j : ℕ) → phase ≢ Store j) → ((j : ℕ) → phase ≢ Flush j) → IsSwapping phase
swapping-of Freeze w a b = tt
swapping-of FreezeBeside w a b = tt
swapping-of Swap w a b = tt
swapping-of (Store j) w a b = absurd (a j refl)
swapping-of (Flush j) w a b = absurd (b j refl)
swapping-of Fresh w a b = absurd (w)
swapping-of (Word i) w a b = absurd (w)
swapping-of Again w a b = absurd (w)
swapping-of (Beside i) w a b = absurd (w)
swapping-of Parent w a b = absurd (w)
swapping-of Still w a b = absurd (w)
swapping-of Guard w a b = absurd (w)
swapping-of Done w a b = absurd (w)
swapping-of Restart w a b = absurd (w)
swapping-of NoNeighbour w a b = absurd (w)
swapping-of NoSlot w a b = absurd (w)
swapping-of NoSwap w a b = absurd (w)

-- what a store and a flush are told
pub store-seen : (c : Config) (r : Merging) (j : ℕ) (seen : Seen) → Hears (merge_asks c r (Store j)) seen → seen ≡ Stored
store-seen c r j Stored h = refl
store-seen c r j Start h = absurd (h)
store-seen c r j (Was v) h = absurd (h)
store-seen c r j Flushed h = absurd (h)
store-seen c r j (Swapped won) h = absurd (h)
store-seen c r j NoneLeft h = absurd (h)

pub flush-seen : (c : Config) (r : Merging) (j : ℕ) (seen : Seen) → Hears (merge_asks c r (Flush j)) seen → seen ≡ Flushed
flush-seen c r j Flushed h = refl
flush-seen c r j Start h = absurd (h)
flush-seen c r j (Was v) h = absurd (h)
flush-seen c r j Stored h = absurd (h)
flush-seen c r j (Swapped won) h = absurd (h)
flush-seen c r j NoneLeft h = absurd (h)

-- what is known while a swap is asked for
some-left : (right : Bool) (phase : MergePhase) → IsSwapping phase → 0 < merge_left right phase
some-left right Freeze w = omega arith
some-left right FreezeBeside w = omega arith
some-left right Swap w = omega arith
some-left right Fresh w = absurd (w)
some-left right (Word i) w = absurd (w)
some-left right Again w = absurd (w)
some-left right (Beside i) w = absurd (w)
some-left right Parent w = absurd (w)
some-left right Still w = absurd (w)
some-left right Guard w = absurd (w)
some-left right (Store j) w = absurd (w)
some-left right (Flush j) w = absurd (w)
some-left right Done w = absurd (w)
some-left right Restart w = absurd (w)
some-left right NoNeighbour w = absurd (w)
some-left right NoSlot w = absurd (w)
some-left right NoSwap w = absurd (w)

-- one swap is asked for, and so at least one was left
swapping-asks : (c : Config) (r : Merging) (phase : MergePhase) → IsSwapping phase → swaps_in (merge_asks c r phase) ≡ 1
swapping-asks c r Freeze w = refl
swapping-asks c r FreezeBeside w = refl
swapping-asks c r Swap w = refl
swapping-asks c r phase w = absurd (w)

some-swaps : (phase : MergePhase) → IsSwapping phase → 1 ≤ merge_swaps phase
some-swaps Freeze w = omega arith
some-swaps FreezeBeside w = omega arith
some-swaps Swap w = omega arith
some-swaps phase w = absurd (w)

swap-filled : (c : Config) (r : Merging) (phase : MergePhase) (stage : Stage) (s : Scene) → IsSwapping phase → merge_facts r phase stage s → HasFilled s
swap-filled c r Freeze Waiting s w f = f.0
swap-filled c r Freeze Took s w f = f.0
swap-filled c r FreezeBeside Waiting s w f = f.0
swap-filled c r FreezeBeside Took s w f = f.0
swap-filled c r Swap Waiting s w f = f.0
swap-filled c r Swap Took s w f = f.0
swap-filled c r Fresh stage s w f = absurd (w)
swap-filled c r (Word i) stage s w f = absurd (w)
swap-filled c r Again stage s w f = absurd (w)
swap-filled c r (Beside i) stage s w f = absurd (w)
swap-filled c r Parent stage s w f = absurd (w)
swap-filled c r Still stage s w f = absurd (w)
swap-filled c r Guard stage s w f = absurd (w)
swap-filled c r (Store j) stage s w f = absurd (w)
swap-filled c r (Flush j) stage s w f = absurd (w)
swap-filled c r Done stage s w f = absurd (w)
swap-filled c r Restart stage s w f = absurd (w)
swap-filled c r NoNeighbour stage s w f = absurd (w)
swap-filled c r NoSlot stage s w f = absurd (w)
swap-filled c r NoSwap stage s w f = absurd (w)

-- the neighbour's status is a plain value
freeze-plain : (r : Merging) (stage : Stage) (s : Scene) → merge_facts r Freeze stage s → slice_index r.beside STATUS_AT < 2 ^ 61
freeze-plain r Waiting s f = (other-once r s.past f.1.0).seen.plain
freeze-plain r Took s f = (other-once r s.past f.1.0).seen.plain

pub swap-plain : (r : Merging) (phase : MergePhase) (stage : Stage) (s : Scene) → merge_facts r phase stage s → phase ≡ Freeze → slice_index r.beside STATUS_AT < 2 ^ 61
swap-plain r phase stage s f e = freeze-plain r stage s (subst (λ z. merge_facts r z stage s) e f)

-- what comes of a swap
pub record Comes (r : Merging) (phase : MergePhase) (seen : Seen) (q : MergePhase) : Type 0 where
  pub nearer : merge_left r.right q + merge_steps q ≤ merge_left r.right phase
  pub swaps : merge_swaps q + 1 ≤ merge_swaps phase
  pub counted : merge_end q ≡ None → merge_made r q ≡ merge_made r phase + effects_in seen
  pub needs : merge_needs q ≤ merge_needs phase
  pub done : q ≡ Done → seen ≡ Swapped true
  pub last : seen ≡ Swapped true → merge_swaps phase ≡ 1 → q ≡ Done
  pub only_last : q ≡ Done → merge_swaps phase ≡ 1
  pub restart : q ≡ Restart → seen ≡ Swapped false
  pub no_swap : (q ≡ NoSwap) ↔ (seen ≡ NoneLeft)
  pub slots : q ≢ NoSlot
  pub begun : q ≢ Fresh

none-won : (seen : Seen) (won : Bool) → seen ≡ Swapped won → seen ≡ NoneLeft → ⊥
none-won seen won a b = let h = sym a ∙ b in absurd (cc)

none-lost : (seen : Seen) → seen ≡ Swapped false → seen ≡ Swapped true → ⊥
none-lost seen a b = let h = sym a ∙ b in absurd (cc)

pub comes : (r : Merging) (phase : MergePhase) (seen : Seen) (q : MergePhase) → IsSwapping phase → IsThawed r phase → HasSwapped r phase seen q → Comes r phase seen q
comes r phase seen NoSwap w thawed h = record {
  nearer = omega (arith, some-left r.right phase w);
  swaps = some-swaps phase w;
  counted = λ e. absurd (cc);
  needs = omega arith;
  done = λ e. absurd (cc);
  last = λ a n. absurd (none-won seen true a h);
  only_last = λ e. absurd (cc);
  restart = λ e. absurd (cc);
  no_swap = (λ e. h, λ e. refl);
  slots = λ e. absurd (cc);
  begun = λ e. absurd (cc);
}
comes r phase seen Restart w thawed h = record {
  nearer = omega (arith, some-left r.right phase w);
  swaps = some-swaps phase w;
  counted = λ e. absurd (cc);
  needs = omega arith;
  done = λ e. absurd (cc);
  last = λ a n. absurd (none-lost seen h a);
  only_last = λ e. absurd (cc);
  restart = λ e. h;
  no_swap = (λ e. absurd (cc), λ e. absurd (none-won seen false h e));
  slots = λ e. absurd (cc);
  begun = λ e. absurd (cc);
}
comes r phase seen FreezeBeside w thawed h = record {
  nearer = omega (arith, ap (merge_left r.right) h.1.0);
  swaps = omega (arith, ap merge_swaps h.1.0);
  counted = λ e. omega (arith, one-freeze r.status (thawed.own h.1.0), ap (merge_made r) h.1.0, ap effects_in h.0);
  needs = omega (arith, ap merge_needs h.1.0);
  done = λ e. absurd (cc);
  last = λ a n. absurd (omega (arith, n, ap merge_swaps h.1.0));
  only_last = λ e. absurd (cc);
  restart = λ e. absurd (cc);
  no_swap = (λ e. absurd (cc), λ e. absurd (none-won seen true h.0 e));
  slots = λ e. absurd (cc);
  begun = λ e. absurd (cc);
}
comes r phase seen Guard w thawed h = record {
  nearer = elim h.1 [ inl a ↦ omega (arith, ap (merge_left r.right) a.0) | inr a ↦ omega (arith, ap (merge_left r.right) a) ];
  swaps = elim h.1 [ inl a ↦ omega (arith, ap merge_swaps a.0) | inr a ↦ omega (arith, ap merge_swaps a) ];
  counted = λ e. elim h.1 [
    | inl a ↦ omega (arith, one-freeze r.status (thawed.own a.0), no-freeze (slice_index r.beside STATUS_AT) a.1, ap (merge_made r) a.0, ap effects_in h.0)
    | inr a ↦ omega (arith, one-freeze (slice_index r.beside STATUS_AT) (thawed.other a), ap (merge_made r) a, ap effects_in h.0)
  ];
  needs = elim h.1 [ inl a ↦ omega (arith, ap merge_needs a.0) | inr a ↦ omega (arith, ap merge_needs a) ];
  done = λ e. absurd (cc);
  last = λ a n. absurd (elim h.1 [ inl w ↦ omega (arith, n, ap merge_swaps w.0) | inr w ↦ omega (arith, n, ap merge_swaps w) ]);
  only_last = λ e. absurd (cc);
  restart = λ e. absurd (cc);
  no_swap = (λ e. absurd (cc), λ e. absurd (none-won seen true h.0 e));
  slots = λ e. absurd (cc);
  begun = λ e. absurd (cc);
}
comes r phase seen Done w thawed h = record {
  nearer = omega (arith, ap (merge_left r.right) h.1);
  swaps = omega (arith, ap merge_swaps h.1);
  counted = λ e. absurd (cc);
  needs = omega arith;
  done = λ e. h.0;
  last = λ a n. refl;
  only_last = λ e. ap merge_swaps h.1;
  restart = λ e. absurd (cc);
  no_swap = (λ e. absurd (cc), λ e. absurd (none-won seen true h.0 e));
  slots = λ e. absurd (cc);
  begun = λ e. absurd (cc);
}
comes r phase seen Fresh w thawed h = absurd (h)
comes r phase seen (Word i) w thawed h = absurd (h)
comes r phase seen Again w thawed h = absurd (h)
comes r phase seen (Beside i) w thawed h = absurd (h)
comes r phase seen Parent w thawed h = absurd (h)
comes r phase seen Still w thawed h = absurd (h)
comes r phase seen Freeze w thawed h = absurd (h)
comes r phase seen (Store j) w thawed h = absurd (h)
comes r phase seen (Flush j) w thawed h = absurd (h)
comes r phase seen Swap w thawed h = absurd (h)
comes r phase seen NoNeighbour w thawed h = absurd (h)
comes r phase seen NoSlot w thawed h = absurd (h)

pub comes-fewer : (c : Config) (r : Merging) (phase : MergePhase) (seen : Seen) (q : MergePhase) → IsSwapping phase → Comes r phase seen q → merge_swaps q + swaps_in (merge_asks c r phase) ≤ merge_swaps phase
comes-fewer c r phase seen q w h = omega (arith, h.swaps, swapping-asks c r phase w)

pub learns-swapped : (c : Config) (r : Merging) (phase q : MergePhase) (seen : Seen) (stage : Stage) (s : Scene) → IsScene s → IsSwapping phase → HasSwapped r phase seen q → merge_facts r phase stage s → Tells (merge_asks c r phase) stage seen s → merge_facts r q Waiting s
learns-swapped c r phase NoSwap seen stage s good w h f t = swap-filled c r phase stage s w f
learns-swapped c r phase Restart seen stage s good w h f t = swap-filled c r phase stage s w f
learns-swapped c r phase FreezeBeside seen stage s good w h f t = freeze-learns c r phase FreezeBeside seen stage s f t good h.1.0 h.0 h.1.1
learns-swapped c r phase Guard seen stage s good w h f t = elim h.1 [ inl a ↦ freeze-learns c r phase Guard seen stage s f t good a.0 h.0 a.1 | inr a ↦ beside-learns c r phase Guard seen stage s f t a h.0 ]
learns-swapped c r phase Done seen stage s good w h f t = swap-learns c r phase Done seen stage s f t h.1 h.0
learns-swapped c r phase Fresh seen stage s good w h f t = absurd (h)
learns-swapped c r phase (Word i) seen stage s good w h f t = absurd (h)
learns-swapped c r phase Again seen stage s good w h f t = absurd (h)
learns-swapped c r phase (Beside i) seen stage s good w h f t = absurd (h)
learns-swapped c r phase Parent seen stage s good w h f t = absurd (h)
learns-swapped c r phase Still seen stage s good w h f t = absurd (h)
learns-swapped c r phase Freeze seen stage s good w h f t = absurd (h)
learns-swapped c r phase (Store j) seen stage s good w h f t = absurd (h)
learns-swapped c r phase (Flush j) seen stage s good w h f t = absurd (h)
learns-swapped c r phase Swap seen stage s good w h f t = absurd (h)
learns-swapped c r phase NoNeighbour seen stage s good w h f t = absurd (h)
learns-swapped c r phase NoSlot seen stage s good w h f t = absurd (h)
