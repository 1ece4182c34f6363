-- Which swaps workers do after a step, a start and a power cut: none that they did not do before, but one that begins.
use Rattle.std.specs.Prelude.{◌≡◌, ◌≢◌, ℕ, length, slice_set, replicate}
use Rattle.std.proofs.Common.{ap, sym, ◌∙◌, inl, inr}
use Rattle.std.proofs.lemmas.Bool.{cases_eq, cases_lt}
use Rattle.std.proofs.lemmas.List.{get_or-set_same, get_or-set_other, get_or_past, length-set}
use Rattle.bz_swap_acts.specs.declared.acted.Act.{Act}
use Rattle.bz_swap_machine.specs.declared.done.Done.{Done}
use Rattle.bz_swap_machine.specs.declared.done.Done.TheVariants.{Busy, Read, Swapped, Stored, Flushed}
use Rattle.bz_swap.specs.Steps.{IsOneAct, doing_after}
use Rattle.bz_swap.specs.SwapMemory.{SwapMemory, Doing, Idle, Swapping, Working, idle, doing_of}
use Rattle.bz_swap.proofs.Fresh.{all-same}

-- a swap that is done after an answer was done before it
swap-before : (d : Doing) (done : Done) (s : ℕ) → doing_after d done ≡ Swapping s → d ≡ Swapping s
swap-before d Busy s is = is
swap-before d (Read v) s is = absurd cc
swap-before d (Swapped b) s is = absurd cc
swap-before d Stored s is = absurd cc
swap-before d Flushed s is = absurd cc

pub step-before : (old new : SwapMemory) (w : ℕ) (made : Act) (done : Done) (v s : ℕ) → IsOneAct old w made done new → doing_of new v ≡ Swapping s → doing_of old v ≡ Swapping s
step-before old new w made done v s one doing = elim (cases_eq v w) [
  | inl same ↦ (let now : doing_of new w ≡ Swapping s = rw same at doing in
      rw same (swap-before (doing_of old w) done s (sym one.doing ∙ now)))
  | inr other ↦ ap (λ (u : Working). u.doing) (sym (one.others.workers v other)) ∙ doing
]

-- where worker w begins something else
pub start-before : (m : SwapMemory) (w : ℕ) (begins : Working) (v s : ℕ) → begins.doing ≢ Swapping s → doing_of (record m { workers = slice_set m.workers w begins }) v ≡ Swapping s → doing_of m v ≡ Swapping s
start-before m w begins v s another doing = elim (cases_eq v w) [
  | inl same ↦ elim (cases_lt w (length m.workers)) [
    | inl within ↦ absurd (another (ap (λ (u : Working). u.doing) (sym (get_or-set_same m.workers w begins idle within)) ∙ rw same at doing))
    | inr past ↦ (let none : idle.doing ≡ Swapping s = ap (λ (u : Working). u.doing) (sym (get_or_past (slice_set m.workers w begins) w idle (rw (length-set m.workers w begins) past))) ∙ rw same at doing in absurd cc)
  ]
  | inr other ↦ ap (λ (u : Working). u.doing) (sym (get_or-set_other m.workers w v begins idle other)) ∙ doing
]

-- all are idle after a power cut
pub all-rest : (workers : ℕ) (m : SwapMemory) (v : ℕ) → doing_of (record m { workers = replicate workers idle }) v ≡ Idle
all-rest workers m v = ap (λ (u : Working). u.doing) (all-same workers v idle)

pub none-doing : (workers : ℕ) (m : SwapMemory) (v s : ℕ) → doing_of (record m { workers = replicate workers idle }) v ≢ Swapping s
none-doing workers m v s doing = (let none : Idle ≡ Swapping s = sym (all-rest workers m v) ∙ doing in absurd cc)
