-- Where a recovery has ended the memory may be renewed, and is seen then.
use Rattle.std.proofs.Common.{◌<◌, true, false, List, refl, sym, ap, inl, inr, ◌≡◌, ℕ, zero, suc, arith, subst}
use Rattle.std.specs.Prelude.{nat_lt}
use Rattle.std.proofs.lemmas.Bool.{cases_lt}
use Rattle.std.proofs.lemmas.Bool.Decides.{nat_tests}
use Rattle.bz_swap_cells.specs.Store.{status_at, status_of}
use Rattle.bz_layout.specs.declared.config.Config.{Config}
use Rattle.bz_swap_machine.specs.Machine.{is_succeeded}
use Rattle.bz_swap_machine.specs.declared.status.SwapStatus.TheVariants.{Free}
use Rattle.bz_recover.specs.Sweep.{IsRecovered}
use Rattle.bz_recover.specs.declared.recover.Recover.{Recover}
use Rattle.bz_recover.proofs.Proved.{recovered_memories_may_be_renewed, recoveries_know}
use Rattle.bz_sight.proofs.Proved.{renewed_memories_are_seen}
use Rattle.bz_swap.specs.Power.{AreRecovered, MayRenew}
use Rattle.bz_swap.specs.SwapMemory.{SwapMemory, Idle, doing_of}
use Rattle.bz_task.specs.Scene.{Waiting}
use Rattle.bz_refinement.specs.Recovering.{Asked, IsRecovering, words_in}
use Rattle.bz_refinement.specs.RecoveryLaws.{RecoveriesRevive}
use Rattle.bz_refinement.proofs.RecoveryAsks.{rightly-clean}

-- nobody does anything
all-idle : (c : Config) (v : ℕ → ℕ) (m : SwapMemory) (t : Recover) → IsRecovering c v m Asked t → (w : ℕ) → doing_of m w ≡ Idle
all-idle c v m t r zero = r.doing
all-idle c v m t r (suc w) = r.memory.others (suc w) (omega arith)

-- where each status is free no swap has had an effect
free-status : (x : ℕ) → x ≡ 0 → status_of x ≡ Free
unfolding status_of
free-status x e = rw e refl

free-unused : (swaps : ℕ) (words : List ℕ) → AreRecovered swaps words → (s : ℕ) → is_succeeded (status_at swaps words s) ≡ false
free-unused swaps words h s = elim (cases_lt s swaps) [
  | inl below ↦ (
      let t : nat_lt s swaps ≡ true = grind (arith, nat_tests) in
      let free : status_at swaps words s ≡ Free = rw t (free-status _ (h.free s below)) in
      ap is_succeeded free)
  | inr past ↦ (
      let t : nat_lt s swaps ≡ false = grind (arith, nat_tests) in
      let free : status_at swaps words s ≡ Free = rw t refl in
      ap is_succeeded free)
]

pub revives : RecoveriesRevive
revives c v m t r e =
    let end : IsRecovered c v (words_in m) = subst (λ d. IsRecovered d v (words_in m)) r.config (recoveries_know.ends t v Waiting (words_in m) r.ready r.knows (recoveries_know.finishes t e)) in
    let renewable : MayRenew m = recovered_memories_may_be_renewed c v m r.memory.swaps r.memory.cached r.memory.durable (all-idle c v m t r) end in
    record {
      may_renew = renewable;
      untaken = λ s number taken. taken (renewable.cached.free s (subst (λ n. s < n) (sym r.memory.swaps) number));
      unused = λ s. free-unused m.swaps m.durable renewable.durable s;
      seen = λ holds. renewed_memories_are_seen c m (record {
        config = r.memory.config;
        swaps = r.memory.swaps;
        size = r.memory.durable;
        may_renew = renewable;
        asks = rightly-clean m r.asks (inr r.doing);
        fields = r.memory.fields;
        form = r.memory.form;
        holds = holds;
      });
    }
