-- Where the sweep has ended the memory may be renewed, and every word is settled then.
use Rattle.std.proofs.Common.{◌<◌, true, false, List, refl, sym, ap, inl, inr, ◌≡◌, ℕ, zero, suc, arith, subst}
use Rattle.std.specs.Prelude.{nat_lt}
use Rattle.std.proofs.lemmas.Bool.{cases_lt}
use Rattle.std.proofs.lemmas.Bool.Decides.{nat_tests}
use Rattle.bz_swap_cells.specs.Store.{status_at, status_of}
use Rattle.bz_swap_machine.specs.Machine.{is_succeeded}
use Rattle.bz_swap_machine.specs.declared.status.SwapStatus.TheVariants.{Free}
use Rattle.bz_swap.specs.Power.{AreRecovered, MayRenew}
use Rattle.bz_swap.specs.SwapMemory.{SwapMemory, Idle, doing_of}
use Rattle.bz_swap.proofs.Proved.{plain_fields_stay, settled_words_stay}
use Rattle.bz_sweep.proofs.Proved.{recovered_memories_may_be_renewed, sweeps_know}
use Rattle.bz_sweep.specs.Duties.{Asked as To_make}
use Rattle.bz_sweep.specs.Words.{IsRecovered}
use Rattle.bz_sweep.specs.declared.area.Area.{Area}
use Rattle.bz_sweep.specs.declared.sweep.Sweep.{Sweep}
use Rattle.bz_swap_recovery.specs.Recovering.{Asked, IsSweeping, words_in}
use Rattle.bz_swap_recovery.specs.Laws.{SweepsRevive}
use Rattle.bz_swap_recovery.proofs.Asks.{rightly-clean}

-- nobody does anything
all-idle : (r : Area) (v : ℕ → ℕ) (m : SwapMemory) (t : Sweep) → IsSweeping r v m Asked t → (w : ℕ) → doing_of m w ≡ Idle
all-idle r v m t sweeping zero = sweeping.doing
all-idle r v m t sweeping (suc w) = sweeping.memory.others (suc w) (omega arith)

-- where each status is free no swap has had an effect
free-status : (x : ℕ) → x ≡ 0 → status_of x ≡ Free
unfolding status_of
free-status x e = rw e refl

free-unused : (swaps : ℕ) (words : List ℕ) → AreRecovered swaps words → (s : ℕ) → is_succeeded (status_at swaps words s) ≡ false
free-unused swaps words h s = elim (cases_lt s swaps) [
  | inl below ↦ (
      let t : nat_lt s swaps ≡ true = grind (arith, nat_tests) in
      let free : status_at swaps words s ≡ Free = rw t (free-status _ (h.free s below)) in
      ap is_succeeded free)
  | inr past ↦ (
      let t : nat_lt s swaps ≡ false = grind (arith, nat_tests) in
      let free : status_at swaps words s ≡ Free = rw t refl in
      ap is_succeeded free)
]

pub revives : SweepsRevive
revives r v m t sweeping e =
    let end : IsRecovered r v (words_in m) = subst (λ (d : Area). IsRecovered d v (words_in m)) sweeping.area (sweeps_know.ends t v To_make (words_in m) sweeping.ready sweeping.knows e) in
    let renewable : MayRenew m = recovered_memories_may_be_renewed r v m sweeping.memory.sizes.swaps sweeping.memory.sizes.cached sweeping.memory.sizes.durable (all-idle r v m t sweeping) end in
    record {
      may_renew = renewable;
      untaken = λ s number taken. taken (renewable.cached.free s (subst (λ n. s < n) (sym sweeping.memory.sizes.swaps) number));
      unused = λ s. free-unused m.swaps m.durable renewable.durable s;
      settled = λ a outside. settled_words_stay.renewal m a (rightly-clean m sweeping.asks (inr sweeping.doing)) (renewable.same a outside);
      fields = plain_fields_stay.renewal m sweeping.memory.fields;
    }
