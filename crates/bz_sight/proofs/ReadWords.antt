-- The words that readers read: what swaps may name is among them, and what no swap has named stays settled.
use Rattle.std.proofs.Common.{◌≡◌, ℕ, ◌≤◌, true, false, slice_index, arith, sym, ap, subst, ◌∙◌, inl, inr}
use Rattle.bz_layout.specs.Addresses.{swap_address}
use Rattle.bz_layout.specs.declared.config.Config.{Config}
use Rattle.bz_swap_cells.specs.Store.{IsOutside}
use Rattle.bz_swap.specs.SwapMemory.{SwapMemory, is_named, is_settled_at}
use Rattle.bz_swap.proofs.SettledWords.{settled-same}
use Rattle.bz_task.specs.Instant.{Instant, words}
use Rattle.bz_task.specs.Requests.{IsNodeTarget}
use Rattle.bz_task.specs.Shown.{IsShown, IsRead}
use Rattle.bz_task.specs.Steps.{IsQuiet}
use Rattle.bz_task.specs.Targets.{alone, IsTargetAt}
use Rattle.bz_task.proofs.Proved.{same_records_show_the_same}
use Rattle.bz_task.proofs.Sames.{words-records}
use Rattle.bz_sight.specs.Passing.{Passes}
use Rattle.bz_sight.specs.Sight.{IsSeen, IsHidden}

-- a word that swaps may name is read
place-shown : (c : Config) (x : Instant) (a : ℕ) (t : IsNodeTarget (alone c x) a) → IsShown (words c x t.slot) t.place
place-shown c x a t = elim t.kind [
  | inl e ↦ inl (omega (arith, e))
  | inr o ↦ elim o [ inl q ↦ inr (inl q.free) | inr q ↦ inr (inr (inl q.inner)) ]
]

pub target-read : (c : Config) (x : Instant) (a : ℕ) → IsTargetAt c x a → IsRead c x a
target-read c x a (inl e) = inl e
target-read c x a (inr (inl e)) = inr (inl e)
target-read c x a (inr (inr t)) = inr (inr (record { slot = t.slot; place = t.place; address = t.address; within = t.within; reached = t.reached; shown = place-shown c x a t }))

-- a hidden one is not
pub hidden-unread : (c : Config) (x : Instant) (a : ℕ) → IsHidden c x a → IsRead c x a → ⊥
hidden-unread c x a h (inl e) = omega (arith, e, h.in_slots)
hidden-unread c x a h (inr (inl e)) = omega (arith, e, h.in_slots)
hidden-unread c x a h (inr (inr w)) = h.unread w.slot w.place w.reached w.within w.address w.shown

-- what is read lies outside the descriptors
pub read-outside : (c : Config) (swaps : ℕ) (x : Instant) (a : ℕ) → swaps ≡ c.swaps → IsRead c x a → IsOutside swaps a
read-outside c swaps x a same (inl e) = inl (omega (arith, e))
read-outside c swaps x a same (inr (inl e)) = inl (omega (arith, e))
read-outside c swaps x a same (inr (inr w)) = inr (subst (λ n. swap_address n ≤ a) (sym same) (omega (arith, w.address)))

-- what is read after a step without effect was read before
pub read-before : (c : Config) (x y : Instant) (a : ℕ) → IsQuiet c x y → IsRead c y a → IsRead c x a
read-before c x y a q (inl e) = inl e
read-before c x y a q (inr (inl e)) = inr (inl e)
read-before c x y a q (inr (inr w)) =
    let was : x.reached w.slot ≡ true = sym (q.reached w.slot) ∙ w.reached in
    inr (inr (record {
      slot = w.slot;
      place = w.place;
      address = w.address;
      within = w.within;
      reached = was;
      shown = (same_records_show_the_same (words c x w.slot) (words c y w.slot) (words-records (words c x w.slot) (words c y w.slot) (q.nodes w.slot was)) w.place).1 w.shown;
    }))

-- where no swap has named it, it is settled, and stays in the caches
read-settles : (c : Config) (x : Instant) (old : SwapMemory) (a : ℕ) → IsSeen c old x → IsRead c x a → is_named old a ≡ false → is_settled_at old a ≡ true
read-settles c x old a seen r private = ap (λ f. f a) (sym seen.settled) ∙ seen.shown a r private

read-cached : (c : Config) (x : Instant) (old new : SwapMemory) (a : ℕ) → IsSeen c old x → Passes c x old new → IsRead c x a → is_named old a ≡ false → slice_index new.cached a ≡ slice_index old.cached a
read-cached c x old new a seen p r private = elim (p.cached a (read-outside c old.swaps x a seen.swaps r) private) [ inl same ↦ same | inr h ↦ absurd (hidden-unread c x a h r) ]

-- and it is settled still
pub read-settled : (c : Config) (x : Instant) (old new : SwapMemory) (a : ℕ) → IsSeen c old x → Passes c x old new → IsRead c x a → is_named old a ≡ false → is_settled_at new a ≡ true
read-settled c x old new a seen p r private = p.settled a (read-cached c x old new a seen p r private) (read-settles c x old a seen r private)

-- so its durable word stays too
pub read-durable : (c : Config) (x : Instant) (old new : SwapMemory) (a : ℕ) → IsSeen c old x → Passes c x old new → IsRead c x a → is_named old a ≡ false → slice_index new.durable a ≡ slice_index old.durable a
read-durable c x old new a seen p r private =
    sym (settled-same new a (read-settled c x old new a seen p r private)) ∙ (read-cached c x old new a seen p r private ∙ settled-same old a (read-settles c x old a seen r private))
