-- The acts on the way to the verdict: the asks for the targets, their fence, and the decision.
use Rattle.std.proofs.Common.{◌⊎◌, ◌≡◌, ◌≢◌, ℕ, ◌+◌, ◌==◌, if◌then◌else◌, ◌<◌, true, false, arith, refl, subst, ◌∙◌, inl, inr, None}
use Rattle.std.proofs.lemmas.Grind.{common_steps}
use Rattle.std.proofs.lemmas.Bool.{cases_eq}
use Rattle.bz_word.specs.declared.kind.WordKind.{WordKind}
use Rattle.bz_word.specs.declared.kind.WordKind.TheVariants.{Swap}
use Rattle.bz_swap_machine.specs.declared.status.SwapStatus.{SwapStatus}
use Rattle.bz_swap_machine.specs.declared.status.SwapStatus.TheVariants.{Free, Undecided, Deciding, Decided}
use Rattle.bz_swap_machine.specs.declared.status.Verdict.{Verdict}
use Rattle.bz_swap_machine.specs.declared.status.Verdict.TheVariants.{Succeeded, Failed}
use Rattle.bz_swap_machine.specs.Machine.{Entries, Memory, is_verdict, MayLast, StatusMayLast}
use Rattle.bz_swap_machine.specs.Changes.{in_line, line_of, with_ask, fenced}
use Rattle.bz_swap_machine.specs.Sound.{Follows, AreApart, Sound}
use Rattle.bz_swap_machine.specs.Facts.{Points, PointsDurably, Fact}
use Rattle.bz_swap_machine.specs.declared.place.HelpStep.TheVariants.{AskTarget, FenceTargets, Decide}
use Rattle.bz_swap_machine.specs.declared.place.Next.TheVariants.{Step}
use Rattle.bz_swap_machine.specs.HelpActs.{after_decide}
use Rattle.bz_swap_machine.proofs.Fine.{Fine, fine-same, fact-by_status, step-if}
use Rattle.bz_swap_machine.proofs.AskedFor.{own-asked}
use Rattle.bz_swap_machine.proofs.Fences.{change-ask, change-fence}
use Rattle.bz_swap_machine.proofs.Decisions.{MayBecome, change-status}

line-own : (a : ℕ) → in_line a a ≡ true
line-own a = grind (arith, common_steps)

-- a target that is not in the line is another one
before-target : (x : Entries) (i j : ℕ) → j < i + 1 → in_line (x.target i) (x.target j) ≡ false → j < i
before-target x i j below out = elim (cases_eq j i) [
  | inl same ↦ absurd (grind (arith, subst (λ k. in_line (x.target i) (x.target k) ≡ false) same out, line-own (x.target i)))
  | inr ne ↦ omega (arith, below, ne)
]

-- after the ask for the line of target i a fence will make its pointer durable, and those of the targets before it
points-more : (e : ℕ → Entries) (m : Memory) (s i j : ℕ) (x : WordKind) → Points e m s (e s).count → PointsDurably e m s i → m.status s ≡ Undecided → j < i + 1
    → ((in_line ((e s).target i) ((e s).target j) ≡ true) × (x ≡ m.cached ((e s).target j))) ⊎ ((in_line ((e s).target i) ((e s).target j) ≡ false) × MayLast m ((e s).target j) x) → j < (e s).count → x ≡ Swap s
points-more e m s i j x points durably u below cases within = elim cases [
  | inl asked ↦ asked.1 ∙ points u j within
  | inr was ↦ durably u j x (before-target (e s) i j below was.0) was.1
]

pub fine-ask_target : (e : ℕ → Entries) (m : Memory) (w s i : ℕ) → Fact e m w s (AskTarget i) → Sound e m
    → Fine e m w s (record { memory = with_ask m w (line_of ((e s).target i)); next = Step (if i + 1 == (e s).count then FenceTargets else AskTarget (i + 1)) })
fine-ask_target e m w s i f g =
    let n : Memory = with_ask m w (line_of ((e s).target i)) in
    let more : PointsDurably e (fenced n w) s (i + 1) = λ u j x below may.
    points-more e (fenced m w) s i j x f.1 f.2 u below
    (own-asked (in_line ((e s).target i) ((e s).target j)) (m.durable ((e s).target j)) (m.pending ((e s).target j)) w m.now (m.cached ((e s).target j)) x (g.past ((e s).target j)) may) (omega (arith, below, f.0)) in
    record {
      change = change-ask e m w (line_of ((e s).target i)) s g;
      fact = step-if e n w s (i + 1 == (e s).count) FenceTargets (AskTarget (i + 1))
          (λ b. (f.1, (λ u j x below may. more u j x (grind (arith, common_steps)) may)))
          (λ b. (grind (arith, common_steps), f.1, more));
    }

-- one fence makes all of them durable
pub fine-fence_targets : (e : ℕ → Entries) (m : Memory) (w s : ℕ) → ((t : ℕ) → t ≢ s → (m.status_pending t).asked w ≡ None) → AreApart e → Fact e m w s FenceTargets → Sound e m
    → Fine e m w s (record { memory = fenced m w; next = Step (Decide Succeeded) })
fine-fence_targets e m w s only o f g = record { change = change-fence e m w s only o g; fact = f }

deciding-verdict : (d : Verdict) → is_verdict (Deciding d) d ≡ true
deciding-verdict Succeeded = refl
deciding-verdict Failed = refl

undecided-goes : (c k : SwapStatus) (d : Verdict) → c ≡ Undecided → Follows c k → Follows (Deciding d) k
undecided-goes c k d u f = grind arith

-- a verdict goes on from all that may last while the swap is undecided
goes-decided : (e : ℕ → Entries) (m : Memory) (s : ℕ) (d : Verdict) → m.status s ≡ Undecided → m.published s ≡ true → Sound e m → (k : SwapStatus) → StatusMayLast m s k → Follows (Deciding d) k
goes-decided e m s d u p g k may = undecided-goes (m.status s) k d u (g.follows s k may p)

-- success is decided where all targets hold the pointer, in cache and in durable memory
may_succeed : (e : ℕ → Entries) (m : Memory) (w s : ℕ) → m.status s ≡ Undecided → m.published s ≡ true → Fact e m w s (Decide Succeeded) → Sound e m → MayBecome e m s (Deciding Succeeded)
may_succeed e m w s u p f g = let may : (k : SwapStatus) → StatusMayLast m s k → Follows (Deciding Succeeded) k = goes-decided e m s Succeeded u p g in grind (arith, common_steps, may, f.0 u, f.1 u)

-- failure is decided where the miss is noted
may_fail : (e : ℕ → Entries) (m : Memory) (w s : ℕ) → m.status s ≡ Undecided → m.published s ≡ true → Fact e m w s (Decide Failed) → Sound e m → MayBecome e m s (Deciding Failed)
may_fail e m w s u p f g = let may : (k : SwapStatus) → StatusMayLast m s k → Follows (Deciding Failed) k = goes-decided e m s Failed u p g in grind (arith, common_steps, may, f u)

may_decide : (e : ℕ → Entries) (m : Memory) (w s : ℕ) (d : Verdict) → m.status s ≡ Undecided → m.published s ≡ true → Fact e m w s (Decide d) → Sound e m → MayBecome e m s (Deciding d)
may_decide e m w s Succeeded u p f g = may_succeed e m w s u p f g
may_decide e m w s Failed u p f g = may_fail e m w s u p f g

pub fine-decide : (e : ℕ → Entries) (m : Memory) (w s : ℕ) (d : Verdict) (found : SwapStatus) → m.status s ≡ found → m.published s ≡ true → 0 < (e s).count → Fact e m w s (Decide d) → Sound e m → Fine e m w s (after_decide m s d found)
fine-decide e m w s d Free h p n f g = fine-same e m w s _ g (fact-by_status e m w s Free h p n g)
fine-decide e m w s d Undecided h p n f g =
    let may : MayBecome e m s (Deciding d) = may_decide e m w s d h p f g in
    record { change = change-status e m s _ may g; fact = grind (arith, common_steps, deciding-verdict d) }
fine-decide e m w s d (Deciding c) h p n f g = fine-same e m w s _ g (fact-by_status e m w s (Deciding c) h p n g)
fine-decide e m w s d (Decided c) h p n f g = fine-same e m w s _ g (fact-by_status e m w s (Decided c) h p n g)
