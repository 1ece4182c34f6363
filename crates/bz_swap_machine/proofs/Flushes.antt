-- The acts that make the verdict durable and clear its dirty bit.
use Rattle.std.proofs.Common.{◌≡◌, ◌≢◌, ℕ, ◌==◌, ◌<◌, true, arith, refl, sym, subst, inl, inr, None}
use Rattle.std.proofs.lemmas.Grind.{common_steps}
use Rattle.bz_swap_machine.specs.declared.status.SwapStatus.{SwapStatus}
use Rattle.bz_swap_machine.specs.declared.status.SwapStatus.TheVariants.{Free, Undecided, Deciding, Decided}
use Rattle.bz_swap_machine.specs.declared.status.Verdict.{Verdict}
use Rattle.bz_swap_machine.specs.declared.status.Verdict.TheVariants.{Succeeded, Failed}
use Rattle.bz_swap_machine.specs.Machine.{Entries, Memory, is_verdict, StatusMayLast}
use Rattle.bz_swap_machine.specs.Changes.{head_of, with_ask, fenced}
use Rattle.bz_swap_machine.specs.Sound.{Follows, AreApart, Sound}
use Rattle.bz_swap_machine.specs.Facts.{Fact}
use Rattle.bz_swap_machine.specs.declared.place.HelpStep.TheVariants.{AskStatus, FenceStatus, ClearStatus, PutFinal}
use Rattle.bz_swap_machine.specs.declared.place.Next.TheVariants.{Step}
use Rattle.bz_swap_machine.specs.HelpActs.{cleared_status}
use Rattle.bz_swap_machine.proofs.Fine.{Fine}
use Rattle.bz_swap_machine.proofs.Change.{Change, change-same}
use Rattle.bz_swap_machine.proofs.AskedFor.{own-asked}
use Rattle.bz_swap_machine.proofs.DurableStatuses.{self-true}
use Rattle.bz_swap_machine.proofs.Fences.{change-ask, change-fence}
use Rattle.bz_swap_machine.proofs.Decisions.{MayBecome, change-status}
use Rattle.bz_swap_machine.proofs.Settles.{lasts-onward, onward-same}
use Rattle.bz_swap_machine.proofs.Lasting.{lasts-durable}

-- after the ask for the status a fence will leave the verdict
own-status : (e : ℕ → Entries) (m : Memory) (w s : ℕ) (k : SwapStatus) → Sound e m → StatusMayLast (fenced (with_ask m w (head_of s)) w) s k → k ≡ m.status s
own-status e m w s k g may = elim (own-asked (s == s) (m.durable_status s) (m.status_pending s) w m.now (m.status s) k (g.status_past s) may) [
  | inl asked ↦ asked.1
  | inr other ↦ absurd (grind (arith, other.0, self-true s))
]

pub fine-ask_status : (e : ℕ → Entries) (m : Memory) (w s : ℕ) (d : Verdict) → Fact e m w s (AskStatus d) → Sound e m → Fine e m w s (record { memory = with_ask m w (head_of s); next = Step (FenceStatus d) })
fine-ask_status e m w s d f g =
    let n : Memory = with_ask m w (head_of s) in
    record {
      change = change-ask e m w (head_of s) s g;
      fact = (f, subst (λ k. is_verdict k d ≡ true) (sym (own-status e m w s ((fenced n w).durable_status s) g (lasts-durable _ _))) f);
    }

pub fine-fence_status : (e : ℕ → Entries) (m : Memory) (w s : ℕ) (d : Verdict) → ((t : ℕ) → t ≢ s → (m.status_pending t).asked w ≡ None) → AreApart e → Fact e m w s (FenceStatus d) → Sound e m
    → Fine e m w s (record { memory = fenced m w; next = Step (ClearStatus d) })
fine-fence_status e m w s d only o f g = record { change = change-fence e m w s only o g; fact = f.1 }

-- where the verdict is durable each status that may last is a decided one
goes-clear : (d : Verdict) (k durable : SwapStatus) → Follows (Deciding d) k → Follows k durable → is_verdict durable d ≡ true → Follows (Decided d) k
goes-clear d k durable f onward h = grind arith

-- the dirty bit of a durable verdict is cleared
may_clear : (e : ℕ → Entries) (m : Memory) (s : ℕ) (d : Verdict) → m.status s ≡ Deciding d → m.published s ≡ true → is_verdict (m.durable_status s) d ≡ true → Sound e m → MayBecome e m s (Decided d)
may_clear e m s d u p h g =
    let may : (k : SwapStatus) → StatusMayLast m s k → Follows (Decided d) k = λ k l.
    goes-clear d k (m.durable_status s) (subst (λ c. Follows c k) u (g.follows s k l p)) (lasts-onward (m.durable_status s) (m.status_pending s) k (onward-same e m g s p) (g.order s p) l) h in
    grind (arith, common_steps, may, g.follows s (m.durable_status s) (lasts-durable _ _) p, g.missed s)

cleared : (e : ℕ → Entries) (m : Memory) (s : ℕ) (d : Verdict) (found : SwapStatus) → m.status s ≡ found → m.published s ≡ true → is_verdict (m.durable_status s) d ≡ true → Sound e m → Change e m (cleared_status m s d found) s
cleared e m s d Free h p f g = change-same e m s g
cleared e m s d Undecided h p f g = change-same e m s g
cleared e m s Succeeded (Deciding Succeeded) h p f g = change-status e m s (Decided Succeeded) (may_clear e m s Succeeded h p f g) g
cleared e m s Succeeded (Deciding Failed) h p f g = change-same e m s g
cleared e m s Failed (Deciding Succeeded) h p f g = change-same e m s g
cleared e m s Failed (Deciding Failed) h p f g = change-status e m s (Decided Failed) (may_clear e m s Failed h p f g) g
cleared e m s d (Decided c) h p f g = change-same e m s g

pub fine-clear_status : (e : ℕ → Entries) (m : Memory) (w s : ℕ) (d : Verdict) → m.published s ≡ true → 0 < (e s).count → Fact e m w s (ClearStatus d) → Sound e m
    → Fine e m w s (record { memory = cleared_status m s d (m.status s); next = Step (PutFinal 0 d) })
fine-clear_status e m w s d p n f g =
    let c : Change e m (cleared_status m s d (m.status s)) s = cleared e m s d (m.status s) refl p f g in
    record { change = c; fact = (n, c.keeps.durable_verdict s d f) }
