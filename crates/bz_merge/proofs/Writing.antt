-- What is known after a store, a flush and a swap.
use Rattle.std.proofs.Common.{◌≡◌, ℕ, ◌+◌, ◌<◌, if◌then◌else◌, Bool, true, false, arith, refl, sym, subst, inl, inr}
use Rattle.std.specs.Prelude.{nat_lt, ◌≤◌}
use Rattle.std.proofs.lemmas.Bool.Decides.{nat_tests}
use Rattle.bz_layout.specs.declared.config.Config.{Config}
use Rattle.bz_task.specs.Requests.{Tells}
use Rattle.bz_task.specs.Scene.{Scene, Stage, Waiting, Took, IsScene}
use Rattle.bz_task.specs.declared.todo.Seen.{Seen}
use Rattle.bz_task.specs.declared.todo.Seen.TheVariants.{Stored, Flushed, Swapped}
use Rattle.bz_renew.proofs.NodeWrites.{all-begun}
use Rattle.bz_merge.specs.Decisions.{HasFrozen}
use Rattle.bz_merge.specs.Facts.{MERGE_WORDS, MERGE_LINES, IsMerging, merge_asks, merge_facts, store_after, flush_after}
use Rattle.bz_merge.specs.Plans.{Merging, merge_nodes, beside_leaf}
use Rattle.bz_merge.specs.declared.phase.MergePhase.{MergePhase}
use Rattle.bz_merge.specs.declared.phase.MergePhase.TheVariants.{Fresh, Word, Again, Beside, Parent, Still, Freeze, FreezeBeside, Guard, Store, Flush, Swap, Done, Restart, NoNeighbour, NoSlot, NoSwap}
use Rattle.bz_merge.proofs.Asking.{other-once}
use Rattle.bz_merge.proofs.Freezing.{seen-frozen}

-- after a store
next-stored : (r : Merging) (j : ℕ) (s : Scene) → merge_facts r (Store j) Took s → merge_facts r (store_after j) Waiting s
next-stored r j s f = choose (nat_lt (j + 1) MERGE_WORDS) refl
  where
    choose : (b : Bool) → nat_lt (j + 1) MERGE_WORDS ≡ b → merge_facts r (if b then Store (j + 1) else Flush 0) Waiting s
    choose true e = (f.0, ((let l : j + 1 < MERGE_WORDS = grind (arith, nat_tests) in l), f.1.1))
    choose false e =
        let all : j + 1 ≡ MERGE_WORDS = (let past : MERGE_WORDS ≤ j + 1 = grind (arith, nat_tests) in omega (arith, past, f.1.0)) in
        (all-begun (merge_nodes r) (j + 1) s f.0 (omega (arith, all)), (omega arith, subst (λ z. IsMerging r z 0 s) all f.1.1))

-- after a flush
next-flushed : (r : Merging) (j : ℕ) (s : Scene) → merge_facts r (Flush j) Took s → merge_facts r (flush_after j) Waiting s
next-flushed r j s f = choose (nat_lt (j + 1) MERGE_LINES) refl
  where
    choose : (b : Bool) → nat_lt (j + 1) MERGE_LINES ≡ b → merge_facts r (if b then Flush (j + 1) else Swap) Waiting s
    choose true e = (f.0, ((let l : j + 1 < MERGE_LINES = grind (arith, nat_tests) in l), f.1.1))
    choose false e =
        let all : j + 1 ≡ MERGE_LINES = (let past : MERGE_LINES ≤ j + 1 = grind (arith, nat_tests) in omega (arith, past, f.1.0)) in
        (f.0, subst (λ z. IsMerging r MERGE_WORDS z s) all f.1.1)

-- what was told of was made
store-took : (c : Config) (r : Merging) (j : ℕ) (stage : Stage) (s : Scene) → merge_facts r (Store j) stage s → Tells (merge_asks c r (Store j)) stage Stored s → merge_facts r (Store j) Took s
store-took c r j Took s f t = f
store-took c r j Waiting s f t = absurd (t)

flush-took : (c : Config) (r : Merging) (j : ℕ) (stage : Stage) (s : Scene) → merge_facts r (Flush j) stage s → Tells (merge_asks c r (Flush j)) stage Flushed s → merge_facts r (Flush j) Took s
flush-took c r j Took s f t = f
flush-took c r j Waiting s f t = absurd (t)

freeze-made : (c : Config) (r : Merging) (stage : Stage) (s : Scene) → merge_facts r Freeze stage s → Tells (merge_asks c r Freeze) stage (Swapped true) s → merge_facts r Freeze Took s
freeze-made c r Took s f t = f
freeze-made c r Waiting s f t = absurd (let e : true ≡ false = t in cc)

beside-made : (c : Config) (r : Merging) (stage : Stage) (s : Scene) → merge_facts r FreezeBeside stage s → Tells (merge_asks c r FreezeBeside) stage (Swapped true) s → merge_facts r FreezeBeside Took s
beside-made c r Took s f t = f
beside-made c r Waiting s f t = absurd (let e : true ≡ false = t in cc)

swap-made : (c : Config) (r : Merging) (stage : Stage) (s : Scene) → merge_facts r Swap stage s → Tells (merge_asks c r Swap) stage (Swapped true) s → merge_facts r Swap Took s
swap-made c r Took s f t = f
swap-made c r Waiting s f t = absurd (let e : true ≡ false = t in cc)

-- after the freeze of the viewed leaf
next-frozen : (r : Merging) (q : MergePhase) (s : Scene) → IsScene s → HasFrozen r q → merge_facts r Freeze Took s → merge_facts r q Waiting s
next-frozen r FreezeBeside s good h f = (f.0, (f.1.0, (f.1.1.0, (h, inr f.1.1.1))))
next-frozen r Guard s good h f = (f.0, record { planned = f.1.0; own = f.1.1.0; other = seen-frozen s (beside_leaf r) good (other-once r s.past f.1.0) h; froze = inl (h, inr f.1.1.1) })
next-frozen r Fresh s good h f = absurd (h)
next-frozen r (Word i) s good h f = absurd (h)
next-frozen r Again s good h f = absurd (h)
next-frozen r (Beside i) s good h f = absurd (h)
next-frozen r Parent s good h f = absurd (h)
next-frozen r Still s good h f = absurd (h)
next-frozen r Freeze s good h f = absurd (h)
next-frozen r (Store j) s good h f = absurd (h)
next-frozen r (Flush j) s good h f = absurd (h)
next-frozen r Swap s good h f = absurd (h)
next-frozen r Done s good h f = absurd (h)
next-frozen r Restart s good h f = absurd (h)
next-frozen r NoNeighbour s good h f = absurd (h)
next-frozen r NoSlot s good h f = absurd (h)
next-frozen r NoSwap s good h f = absurd (h)

-- what comes after each
module _ (c : Config) (r : Merging) (p q : MergePhase) (seen : Seen) (stage : Stage) (s : Scene) (f : merge_facts r p stage s) (t : Tells (merge_asks c r p) stage seen s) where
  pub store-learns : (j : ℕ) → p ≡ Store j → seen ≡ Stored → q ≡ store_after j → merge_facts r q Waiting s
  store-learns j is e next_is = subst (λ z. merge_facts r z Waiting s) (sym next_is)
      (next-stored r j s (store-took c r j stage s (subst (λ z. merge_facts r z stage s) is f) (subst (λ z. Tells (merge_asks c r (Store j)) stage z s) e (subst (λ z. Tells (merge_asks c r z) stage seen s) is t))))

  pub flush-learns : (j : ℕ) → p ≡ Flush j → seen ≡ Flushed → q ≡ flush_after j → merge_facts r q Waiting s
  flush-learns j is e next_is = subst (λ z. merge_facts r z Waiting s) (sym next_is)
      (next-flushed r j s (flush-took c r j stage s (subst (λ z. merge_facts r z stage s) is f) (subst (λ z. Tells (merge_asks c r (Flush j)) stage z s) e (subst (λ z. Tells (merge_asks c r z) stage seen s) is t))))

  pub freeze-learns : IsScene s → p ≡ Freeze → seen ≡ Swapped true → HasFrozen r q → merge_facts r q Waiting s
  freeze-learns good is e h = next-frozen r q s good h
      (freeze-made c r stage s (subst (λ z. merge_facts r z stage s) is f) (subst (λ z. Tells (merge_asks c r Freeze) stage z s) e (subst (λ z. Tells (merge_asks c r z) stage seen s) is t)))

  pub beside-learns : p ≡ FreezeBeside → seen ≡ Swapped true → merge_facts r Guard Waiting s
  beside-learns is e =
      let m = beside-made c r stage s (subst (λ z. merge_facts r z stage s) is f) (subst (λ z. Tells (merge_asks c r FreezeBeside) stage z s) e (subst (λ z. Tells (merge_asks c r z) stage seen s) is t)) in (m.0, m.1.0)

  pub swap-learns : p ≡ Swap → seen ≡ Swapped true → merge_facts r Done Waiting s
  swap-learns is e = swap-made c r stage s (subst (λ z. merge_facts r z stage s) is f) (subst (λ z. Tells (merge_asks c r Swap) stage z s) e (subst (λ z. Tells (merge_asks c r z) stage seen s) is t))
