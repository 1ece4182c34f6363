-- What callers see after a swap is started.
use Rattle.std.specs.Prelude.{◌≡◌, ℕ, suc, zero, ◌+◌, ◌<◌, List, [], ◌∷◌, ◌++◌, slice_index, slice_set}
use Rattle.std.proofs.Common.{arith, refl, ap, sym, ◌∙◌}
use Rattle.std.proofs.lemmas.List.{length-set, map-set}
use Rattle.bz_word.specs.declared.entry.Entry.{Entry}
use Rattle.bz_swap_machine.specs.declared.descriptor.DescriptorWords.{DescriptorWords}
use Rattle.bz_swap_machine.specs.Allowed.{for_swap, for_worker}
use Rattle.bz_swap_machine.specs.Machine.{entries_in}
use Rattle.bz_swap.specs.declared.phase.Phase.TheVariants.{Running}
use Rattle.bz_swap.specs.Held.{Holds}
use Rattle.bz_swap.specs.EntryLists.{IsEntryList}
use Rattle.bz_swap.specs.Starts.{MaySwap, phase_of, swapping}
use Rattle.bz_swap.specs.Inside.Parts.{Parts, working, listed, entry_list, begun_seen, seen}
use Rattle.bz_swap.specs.Inside.Kept.{IsRunning, IsKept}
use Rattle.bz_swap.proofs.Alone.{left-running}
use Rattle.bz_swap.proofs.Allowing.{allowed-begun}
use Rattle.bz_swap.proofs.Begun.{begun_is}
use Rattle.bz_swap.proofs.Listed.{begun-more}
use Rattle.bz_swap.proofs.Rising.{lists-rising}
use Rattle.bz_swap.proofs.Shown.{begun-running}
use Rattle.bz_swap.proofs.Stepping.{running, workers-within, step-holds}
use Rattle.bz_swap.proofs.SwapLists.{entries_from}
use Rattle.bz_swap.proofs.SwapKeeps.{swap-running}
use Rattle.bz_swap.proofs.Swapping.{Begins, swapper, with_swap}
use Rattle.bz_swap.proofs.Taken.{one_taken, room-taken}
use Rattle.bz_swap.proofs.WorkStarts.{idle-at}

phase-some : (w : ℕ) → 0 < w → Running ≡ phase_of w
phase-some zero some = absurd (omega (arith, some))
phase-some (suc w) some = refl

-- the entries of the swaps begun, with those of the new one
begun-swap : (p : Parts) (r : IsRunning p) (w : ℕ) (words : DescriptorWords) (entries : List Entry) → Begins p w words entries
    → begun_seen Running (one_taken p.store) (slice_set p.workers w (swapper p.store.taken words)) ≡ begun_seen p.phase p.store p.workers ++ entries ∷ []
begun-swap p r w words entries h =
    let after = swap-running p r w words entries h in
    let before = begun-running p r p.phase h.may.work.phase in
    begun_is (with_swap p w words) after.running ∙ ap (λ e. listed (λ s. entry_list (e s)) 0 (p.store.taken + 1)) after.entries
    ∙ begun-more r.entries p.store.taken (entries_from (slice_index words.words)) ∙ (λ i. sym before i ++ h.lists.list i ∷ [])

pub swap-seen : (p : Parts) (r : IsRunning p) (w : ℕ) (words : DescriptorWords) (entries : List Entry) → Begins p w words entries
    → seen (with_swap p w words) ≡ swapping (seen p) w entries
swap-seen p r w words entries h =
    let begun = begun-swap p r w words entries h in
    let workers = map-set working p.workers w (swapper p.store.taken words) in
    let phase = phase-some w h.may.work.some in
    let left = left-running p r h.allowed w in
    λ i. record (seen (with_swap p w words)) { phase = phase i; begun = begun i; workers = workers i; left = sym left i + for_swap }

-- all that the start owes
pub record IsBegun (p : Parts) (w : ℕ) (words : DescriptorWords) (entries : List Entry) : Type 0 where
  pub kept : IsKept (with_swap p w words)
  pub is : seen (with_swap p w words) ≡ swapping (seen p) w entries
  pub holds : Holds (seen (with_swap p w words))

swap-begun : (p : Parts) (k : IsKept p) (w : ℕ) (words : DescriptorWords) (entries : List Entry) → Begins p w words entries → IsBegun p w words entries
swap-begun p k w words entries h =
    let r = running p.phase p h.may.work.phase k.kept in
    let after = swap-running p r w words entries h in
    let same = length-set p.workers w (swapper p.store.taken words) in
    let kept : IsKept (with_swap p w words) = record {
      room = room-taken p.store k.room h.left;
      swaps = k.swaps;
      workers = same ∙ k.workers;
      few = rw same k.few;
      some = rw same k.some;
      allowed = ap (λ n. n + for_worker) k.allowed ∙ sym (allowed-begun p.workers w (swapper p.store.taken words) (workers-within p w h.may.work.within) (idle-at p r w h.may.work.idle) (λ idle. (let bad = idle in absurd cc)));
      counted = k.counted;
      kept = after.running;
    } in
    record { kept = kept; is = swap-seen p r w words entries h; holds = step-holds (with_swap p w words) kept }

-- the same, from what the code knows of the words
pub swap-started : (p : Parts) (k : IsKept p) (w : ℕ) (words : DescriptorWords) (entries : List Entry) → MaySwap (seen p) w entries
    → entry_list (entries_in (slice_index words.words)) ≡ entries → IsEntryList entries → p.store.taken < p.store.swaps → IsBegun p w words entries
swap-started p k w words entries may list rising left =
    swap-begun p k w words entries (record { may = may; lists = lists-rising (slice_index words.words) entries list rising; left = left; allowed = k.allowed })
