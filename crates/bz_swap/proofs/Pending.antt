-- A swap that takes effect is a worker's operation.
use Rattle.std.specs.Prelude.{◌≡◌, ℕ, ◌<◌, true, false, None, Some}
use Rattle.std.specs.declared.option.Option.{Option}
use Rattle.std.proofs.Common.{arith, refl, ap, sym, ◌∙◌, inl, inr}
use Rattle.std.proofs.lemmas.Bool.{cases_lt, true≢false}
use Rattle.bz_swap_machine.specs.declared.status.SwapStatus.{SwapStatus}
use Rattle.bz_swap_machine.specs.declared.status.SwapStatus.TheVariants.{Free, Undecided, Deciding, Decided}
use Rattle.bz_swap_machine.specs.declared.status.Verdict.{Verdict}
use Rattle.bz_swap_machine.specs.declared.status.Verdict.TheVariants.{Succeeded, Failed}
use Rattle.bz_swap_machine.specs.Machine.{is_verdict, is_succeeded}
use Rattle.bz_swap_machine.specs.Sound.{IsUnset}
use Rattle.bz_swap_cells.specs.Store.{typed}
use Rattle.bz_swap.specs.SwapMemory.{Swapping, doing_of}
use Rattle.bz_swap.specs.Inside.Parts.{Parts, worker_at, seen, doing_operation}
use Rattle.bz_swap.specs.Inside.Kept.{IsRunning, IsOwned, IsBusy}
use Rattle.bz_swap.proofs.StepLies.{going-busy}
use Rattle.bz_swap.proofs.Doings.{worker-seen, doing-going}
use Rattle.bz_swap_machine.proofs.Lasting.{lasts-durable}

unset-undecided : (status : SwapStatus) → IsUnset status → is_succeeded status ≡ true → ⊥
unset-undecided Free u is = absurd cc
unset-undecided Undecided u is = absurd cc
unset-undecided (Deciding d) u is = u
unset-undecided (Decided d) u is = u

one-verdict : (status : SwapStatus) → is_verdict status Succeeded ≡ true → is_verdict status Failed ≡ true → ⊥
one-verdict Free a b = absurd cc
one-verdict Undecided a b = absurd cc
one-verdict (Deciding Succeeded) a b = absurd cc
one-verdict (Deciding Failed) a b = absurd cc
one-verdict (Decided Succeeded) a b = absurd cc
one-verdict (Decided Failed) a b = absurd cc

-- a swap that has an effect is begun
pub effect-begun : (p : Parts) (r : IsRunning p) (s : ℕ) → is_succeeded ((typed p.store r.beside).durable_status s) ≡ true → s < p.store.taken
effect-begun p r s is = elim (cases_lt s p.store.taken) [
  | inl below ↦ below
  | inr past ↦ absurd (unset-undecided _ (r.state.sound.unset_durable s _ (lasts-durable _ _) (r.state.sound.not_begun s past).1) is)
]

-- a swap without an answer is its owner's operation
pub owner-does : (p : Parts) (r : IsRunning p) (s : ℕ) → IsOwned p r.beside s → doing_of (seen p) (r.beside.owner s) ≡ Swapping s
owner-does p r s own =
    let o : ℕ = r.beside.owner s in
    let busy : IsBusy (worker_at p o).operation = rw own.operation tt in
    let going = going-busy (worker_at p o).place (worker_at p o).operation (r.workers o).rests busy in
    ap (λ u. u.doing) (worker-seen p o) ∙ doing-going (worker_at p o).place (worker_at p o).operation going ∙ ap doing_operation own.operation

-- a swap that has no effect yet, and will have one with the same answer noted, has none
unanswered-by : (p q : Parts) (r : IsRunning p) (n : IsRunning q) (s : ℕ) (given : Option Verdict) → r.beside.answer s ≡ given → n.beside.answer s ≡ r.beside.answer s
    → is_succeeded ((typed p.store r.beside).durable_status s) ≡ false → is_succeeded ((typed q.store n.beside).durable_status s) ≡ true → r.beside.answer s ≡ None
unanswered-by p q r n s None is same before after = is
unanswered-by p q r n s (Some Succeeded) is same before after = absurd (true≢false (sym (r.state.sound.answered s Succeeded is) ∙ before))
unanswered-by p q r n s (Some Failed) is same before after = absurd (one-verdict _ after (n.state.sound.answered s Failed (same ∙ is)))

pub pending : (p q : Parts) (r : IsRunning p) (n : IsRunning q) (s : ℕ) → n.beside.answer s ≡ r.beside.answer s → q.store.taken ≡ p.store.taken
    → is_succeeded ((typed p.store r.beside).durable_status s) ≡ false → is_succeeded ((typed q.store n.beside).durable_status s) ≡ true
    → (s < p.store.taken) × (doing_of (seen p) (r.beside.owner s) ≡ Swapping s)
pending p q r n s same taken before after =
    let begun : s < p.store.taken = (let below = effect-begun q n s after in omega (arith, below, taken)) in
    (begun, owner-does p r s (r.owned s begun (unanswered-by p q r n s _ refl same before after)))
