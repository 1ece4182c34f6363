-- How often a call may have to go back: an act of its worker and an eviction make it no more, where no counter and no cell of it changes.
use Rattle.std.proofs.Common.{◌≡◌, ◌≢◌, ◌≤◌, ◌==◌, not, ℕ, zero, suc, Bool, true, false, List, [], ◌∷◌, length, get_or, refl, sym, ap, subst, ◌∙◌, arith, Option, Some, None}
use Rattle.bz_word.specs.declared.entry.Entry.{Entry}
use Rattle.bz_swap_acts.specs.declared.acted.Act.{Act}
use Rattle.bz_swap_machine.specs.declared.done.Done.{Done}
use Rattle.bz_swap.specs.Evictions.{IsEviction}
use Rattle.bz_swap.specs.Steps.{IsStep}
use Rattle.bz_swap.specs.SwapMemory.{SwapMemory, Working, Swapping, value_at, has_effect, is_missed, entries_of, doing_of}
use Rattle.bz_swap.specs.declared.phase.Phase.TheVariants.{Recovering}
use Rattle.bz_swap.proofs.Proved.{effects_stay}
use Rattle.bz_rivals.specs.Wins.{Stand, GoesWell}
use Rattle.bz_rivals.proofs.Proved.{own_swaps_win}
use Rattle.bz_ring.specs.declared.calls.QCall.{QCall}
use Rattle.bz_ring.specs.declared.marks.QMark.{QMark}
use Rattle.bz_ring.specs.declared.ring.Ring.{Ring}
use Rattle.bz_change.specs.Changes as change
use Rattle.bz_change.specs.Values.{SameValues}
use Rattle.bz_queue.specs.Inside.Left.{is_lost, is_stale, rounds_left}
use Rattle.bz_queue.specs.Inside.Serving.{IsSwapping, IsAt}
use Rattle.bz_queue.specs.declared.serving.Place.{Place}
use Rattle.bz_queue.specs.declared.serving.Place.TheVariants.{Counter, Cell, Again, Swap}
use Rattle.bz_queue.proofs.Movers.{Stays, counted-le, stays-move}
use Rattle.bz_queue.proofs.Winning.{lost-falls, well-step}

still-none : (before after : Bool) → (before ≡ true → after ≡ true) → after ≡ false → before ≡ false
still-none true after stays is = absurd (let both : true ≡ false = sym (stays refl) ∙ is in cc)
still-none false after stays is = refl

-- what an act of worker w, or an eviction, leaves: what the others do, and every effect; the entries of all swaps; and of its own swap that is to win, that
-- it is under way and is not noted as missed
pub record LeavesSwaps (old new : SwapMemory) (w : ℕ) : Type 0 where
  pub stays : Stays old new w
  pub entries : (s : ℕ) → entries_of new s ≡ entries_of old s
  pub well : (s : ℕ) → doing_of old w ≡ Swapping s → has_effect new s ≡ false → GoesWell old s → (doing_of new w ≡ Swapping s) × (is_missed new s ≡ false)

pub step-leaves : (old new : SwapMemory) (w : ℕ) (made : Act) (ended : Done) (told : Option ℕ) → IsStep old w made ended told new → LeavesSwaps old new w
step-leaves old new w made ended told step = record {
  stays = record {
    count = step.one.others.count;
    doing = λ v other. ap (λ (it : Working). it.doing) (step.one.others.workers v other);
    entries = λ v s doing. ap (λ (all : List (List Entry)). get_or all s []) step.one.others.begun;
    effects = λ s. still-none (has_effect old s) (has_effect new s) (λ had. (effects_stay.step old new w made ended told s step had).0);
  };
  entries = λ s. ap (λ (all : List (List Entry)). get_or all s []) step.one.others.begun;
  well = λ s doing none well. well-step old new w s made told ended step doing well none;
}

pub eviction-leaves : (old new : SwapMemory) (w a : ℕ) (told : Option ℕ) → old.phase ≢ Recovering → IsEviction old a told new → LeavesSwaps old new w
eviction-leaves old new w a told calm e = record {
  stays = record {
    count = ap (λ (m : SwapMemory). length m.workers) e.is;
    doing = λ v other. ap (λ (m : SwapMemory). doing_of m v) e.is;
    entries = λ v s doing. ap (λ (m : SwapMemory). entries_of m s) e.is;
    effects = λ s. still-none (has_effect old s) (has_effect new s) (λ had. (effects_stay.eviction old new a told s calm e had).0);
  };
  entries = λ s. ap (λ (m : SwapMemory). entries_of m s) e.is;
  well = λ s doing none well. (ap (λ (m : SwapMemory). doing_of m w) e.is ∙ doing, own_swaps_win.evicted old new a told s e ∙ well.unnoted);
}

module _ (r : Ring) (old new : SwapMemory) (past : List QMark) (owners : List ℕ) (w : ℕ) (leaves : LeavesSwaps old new w) (called : QCall) (begun : ℕ) where
  -- where the counter is what it was, and the swap of the call is not lost
  stale-falls : (effect : Option ℕ) (place : Place) → value_at new (change.counter_of called) ≡ value_at old (change.counter_of called)
      → ((counter word : ℕ) → place ≡ Swap counter word → is_lost new effect (doing_of new w) ≡ true → is_lost old effect (doing_of old w) ≡ true)
      → is_stale new w called effect place ≡ true → is_stale old w called effect place ≡ true
  stale-falls effect Counter same lost is = is
  stale-falls effect (Cell counter) same lost is = ap (λ (c : ℕ). not (counter == c)) (sym same) ∙ is
  stale-falls effect (Again counter at) same lost is = ap (λ (c : ℕ). not (counter == c)) (sym same) ∙ is
  stale-falls effect (Swap counter word) same lost is = lost counter word refl is

  pub rounds-fall : (effect : Option ℕ) (place : Place) → value_at new (change.counter_of called) ≡ value_at old (change.counter_of called)
      → ((counter word : ℕ) → place ≡ Swap counter word → is_lost new effect (doing_of new w) ≡ true → is_lost old effect (doing_of old w) ≡ true)
      → rounds_left new w called effect place ≤ rounds_left old w called effect place
  rounds-fall effect place same lost = omega (
    arith,
    stays-move old new w (change.counter_of called) leaves.stays same,
    counted-le (is_stale new w called effect place) (is_stale old w called effect place) (stale-falls effect place same lost),
  )

  -- the call's swap is lost only where it was, unless it has an effect now or its targets have changed
  pub swap-lost : (effect : Option ℕ) (counter word : ℕ) (h : IsSwapping r old past owners w called begun counter word effect) → has_effect new h.s ≡ has_effect old h.s
      → (Stand old (entries_of old h.s) → Stand new (entries_of new h.s)) → is_lost new effect (doing_of new w) ≡ true → is_lost old effect (doing_of old w) ≡ true
  swap-lost None counter word h same stands lost =
      let before : has_effect old h.s ≡ false = h.changed in
      lost-falls old new w h.s (leaves.well h.s h.doing (same ∙ before)) h.doing stands before lost
  swap-lost (Some at) counter word h same stands lost = absurd (cc lost)

  pub at-swap : (effect : Option ℕ) (place : Place) (counter word : ℕ) → place ≡ Swap counter word → IsAt r old past owners w called begun effect place → IsSwapping r old past owners w called begun counter word effect
  at-swap effect place counter word is h = subst (IsAt r old past owners w called begun effect) is h

-- entries whose targets hold what they held
same-stand : (old new : SwapMemory) (entries : List Entry) → SameValues old new → Stand old entries → Stand new entries
same-stand old new [] same h k d within = absurd (omega arith)
same-stand old new (e ∷ entries) same h zero d within = same e.target ∙ h zero d within
same-stand old new (e ∷ entries) same h (suc k) d within = same-stand old new entries same (λ j b inside. h (suc j) b (omega arith)) k d (omega arith)

-- without an effect
pub quiet-rounds : (r : Ring) (old new : SwapMemory) (past : List QMark) (owners : List ℕ) (w : ℕ) → LeavesSwaps old new w → ((s : ℕ) → has_effect new s ≡ has_effect old s) → SameValues old new → (called : QCall) (begun : ℕ) (effect : Option ℕ) (place : Place)
    → IsAt r old past owners w called begun effect place → rounds_left new w called effect place ≤ rounds_left old w called effect place
quiet-rounds r old new past owners w leaves none same called begun effect place h =
    rounds-fall r old new past owners w leaves called begun effect place (same (change.counter_of called)) (λ counter word is.
    let it = at-swap r old new past owners w leaves called begun effect place counter word is h in
    swap-lost r old new past owners w leaves called begun effect counter word it (none it.s) (λ stands. subst (Stand new) (sym (leaves.entries it.s)) (same-stand old new (entries_of old it.s) same stands)))
