-- What holds of every word that stands at an address, or that was asked for there, holds of all of them after an act.
use Rattle.std.specs.Prelude.{◌≡◌, ◌==◌, if◌then◌else◌, nat_lt, ℕ, ◌+◌, ◌/◌, ◌%◌, Bool, true, false, List, [], length, replicate, slice_index, slice_set, Some, None}
use Rattle.std.specs.declared.option.Option.{Option}
use Rattle.std.proofs.Common.{arith, refl, ap, sym, ◌∙◌}
use Rattle.bz_swap_machine.specs.Pending.{Saved, Pending, with_saved, fenced_value}
use Rattle.bz_swap_cells.specs.FromPm.After.{after_fence}
use Rattle.bz_swap_cells.specs.FromPm.Changes.{AsksOnly, FencesOnly}
use Rattle.bz_swap_cells.specs.FromPm.State.{State, ask_for}
use Rattle.bz_swap_cells.specs.Store.{saved_word, word_pending}
use Rattle.bz_swap_cells.proofs.FromPm.Fences as memory
use Rattle.bz_swap_cells.proofs.Pasts.{past_of, saved-ask, fenced-fence, settled-fence}
use Rattle.bz_swap_acts.specs.Rule.{IsWithin, after_act}
use Rattle.bz_swap_acts.specs.declared.acted.Act.{Act}
use Rattle.bz_swap_acts.specs.declared.acted.Act.TheVariants.{Load, Store, Cas, Ask, Fence}
use Rattle.bz_swap.specs.Steps.{MayAct}
use Rattle.bz_swap.specs.SwapMemory.{SwapMemory, memory_state}
use Rattle.bz_swap.proofs.Fresh.{all-same}
use Rattle.bz_swap.proofs.WordActs.{set-keeps}

-- it holds in the caches, in the memory itself, and of what each worker asked for
pub record AllAre (P : ℕ → Type 0) (m : State) (b : ℕ) : Type 0 where
  pub cached : P (slice_index m.words.cached b)
  pub durable : P (slice_index m.words.durable b)
  pub asked : (v : ℕ) (q : Saved ℕ) → (word_pending (past_of m) b).asked v ≡ Some q → P q.value

-- and of what the act writes there
abbrev pub WritesSo : (ℕ → Type 0) → ℕ → Act → Type 0
WritesSo P b (Load a v) = Unit {0}
WritesSo P b (Store a v) = b ≡ a → P v
WritesSo P b (Cas a before after found) = b ≡ a → P after
WritesSo P b (Ask line) = Unit {0}
WritesSo P b Fence = Unit {0}

same-saved : (q r : Saved ℕ) → Some q ≡ Some r → q ≡ r
same-saved q r e = cc

none-saved : (q : Saved ℕ) → None ≡ Some q → ⊥
none-saved q e = cc

either-saved : (P : ℕ → Type 0) (t : Bool) (q : Saved ℕ) (o : Option (Saved ℕ)) (r : Saved ℕ) → P q.value → ((s : Saved ℕ) → o ≡ Some s → P s.value) → (if t then Some q else o) ≡ Some r → P r.value
either-saved P true q o r here there e = rw (← same-saved q r e) here
either-saved P false q o r here there e = there r e

asked-word : (P : ℕ → Type 0) (t : Bool) (p : Pending ℕ) (w moment word v : ℕ) (q : Saved ℕ) → P word → ((u : ℕ) (s : Saved ℕ) → p.asked u ≡ Some s → P s.value)
    → (if t then with_saved p w moment word else p).asked v ≡ Some q → P q.value
asked-word P true p w moment word v q here there e = either-saved P (v == w) (record { moment = moment; value = word }) (p.asked v) q here (there v) e
asked-word P false p w moment word v q here there e = there v q e

left-saved : (P : ℕ → Type 0) (t : Bool) (o : Option (Saved ℕ)) (r : Saved ℕ) → ((s : Saved ℕ) → o ≡ Some s → P s.value) → (if t then None else o) ≡ Some r → P r.value
left-saved P true o r there e = absurd (none-saved r e)
left-saved P false o r there e = there r e

fenced-word : (P : ℕ → Type 0) (word since : ℕ) (o : Option (Saved ℕ)) → P word → ((s : Saved ℕ) → o ≡ Some s → P s.value) → P (fenced_value word since o)
fenced-word P word since None here there = here
fenced-word P word since (Some q) here there = by_test (nat_lt since q.moment)
  where
    by_test : (t : Bool) → P (if t then q.value else word)
    by_test true = there q refl
    by_test false = here

pub all-after : (P : ℕ → Type 0) (m : SwapMemory) (w b : ℕ) (made : Act) → MayAct m w → IsWithin (length m.cached) made → WritesSo P b made → AllAre P (memory_state m) b → AllAre P (after_act w (memory_state m) made) b
all-after P m w b (Load a v) may within writes all = all
all-after P m w b (Store a v) may within writes all = record { cached = set-keeps P m.cached a v b writes all.cached; durable = all.durable; asked = all.asked }
all-after P m w b (Cas a before after found) may within writes all = record { cached = by_test (slice_index m.cached a == before); durable = all.durable; asked = all.asked }
  where
    by_test : (t : Bool) → P (slice_index (if t then slice_set m.cached a after else m.cached) b)
    by_test true = set-keeps P m.cached a after b writes all.cached
    by_test false = all.cached
all-after P m w b (Ask line) may within writes all =
    let a : AsksOnly (memory_state m) (after_act w (memory_state m) (Ask line)) w line = memory.ask (memory_state m) w line may.state may.fit (omega (arith, may.counted)) may.worker within in
    record {
      cached = all.cached;
      durable = all.durable;
      asked = λ v q is. asked-word P (b / 8 == line) (word_pending m.past b) w (m.past.count + 1) (slice_index m.cached b) v q all.cached all.asked
          (ap (λ (p : Pending ℕ). p.asked v) (sym (saved-ask (memory_state m) w line a may.counted b)) ∙ is);
    }
all-after P m w b Fence may within writes all =
    let f : FencesOnly (memory_state m) (after_fence (memory_state m) w) w = memory.fence (memory_state m) w may.state may.worker in
    record {
      cached = all.cached;
      durable = rw (settled-fence (memory_state m) (after_fence (memory_state m) w) w f b) (fenced-word P (slice_index m.durable b) (word_pending m.past b).since ((word_pending m.past b).asked w) all.durable (all.asked w));
      asked = λ v q is. left-saved P (v == w) ((word_pending m.past b).asked v) q (all.asked v)
          (ap (λ (p : Pending ℕ). p.asked v) (sym (fenced-fence (memory_state m) (after_fence (memory_state m) w) w f b)) ∙ is);
    }

-- where nothing was asked for, no ask is found
pub none-asked : (n count : ℕ) (since : List ℕ) (b v : ℕ) (q : Saved ℕ) → (word_pending (record { count = count; since = since; asks = replicate n [] }) b).asked v ≡ Some q → ⊥
none-asked n count since b v q is = none-saved q (sym (ap (λ qs. saved_word (ask_for qs (b / 8)) (b % 8)) (all-same n v [])) ∙ is)
