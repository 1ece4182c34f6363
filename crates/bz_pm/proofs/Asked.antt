-- The asks of a worker stay asks of lines that differ.
use Rattle.std.specs.Prelude.{◌≡◌, ◌≢◌, ◌==◌, ℕ, ◌^◌, ◌<◌, ◌≤◌, true, false, List, [], ◌∷◌, slice_index}
use Rattle.std.specs.declared.option.Option.TheVariants.{None, Some}
use Rattle.std.proofs.Common.{arith, refl, sym, ◌∙◌, inl, inr}
use Rattle.std.proofs.lemmas.Bool.{cases_eq}
use Rattle.std.proofs.lemmas.Grind.{common_steps}
use Rattle.bz_pm.specs.State.{ask_for, IsAsk, AreAsks}
use Rattle.bz_pm.specs.After.{with_ask}
use Rattle.bz_pm.specs.declared.asks.Ask.{Ask}

later_ask : (size acts later : ℕ) (q : Ask) → acts ≤ later → IsAsk size acts q → IsAsk size later q
later_ask size acts later q le i = record { line = i.line; moment = omega (arith, i.moment); eight = i.eight; fit = i.fit }

-- asks are asks at a later moment too
pub AreAsks-later : (size acts later : ℕ) (qs : List Ask) → acts ≤ later → AreAsks size acts qs → AreAsks size later qs
AreAsks-later size acts later [] le are = tt
AreAsks-later size acts later (q ∷ qs) le are = (later_ask size acts later q le are.0, are.1, AreAsks-later size acts later qs le are.2)

pub same_test : (a b : ℕ) → a ≡ b → (a == b) ≡ true
same_test a b e = grind (arith, common_steps)

pub other_test : (a b : ℕ) → a ≢ b → (a == b) ≡ false
other_test a b ne = grind (arith, common_steps)

pub found : (r : Ask) (rs : List Ask) (line : ℕ) → r.line ≡ line → ask_for (r ∷ rs) line ≡ Some r
found r rs line e = rw (same_test r.line line e) refl

pub not_found : (r : Ask) (rs : List Ask) (line : ℕ) → r.line ≢ line → ask_for (r ∷ rs) line ≡ ask_for rs line
not_found r rs line ne = rw (other_test r.line line ne) refl

replaced : (r : Ask) (rs : List Ask) (q : Ask) → r.line ≡ q.line → with_ask (r ∷ rs) q ≡ q ∷ rs
replaced r rs q e = rw (same_test r.line q.line e) refl

passed : (r : Ask) (rs : List Ask) (q : Ask) → r.line ≢ q.line → with_ask (r ∷ rs) q ≡ r ∷ with_ask rs q
passed r rs q ne = rw (other_test r.line q.line ne) refl

no_ask : (q : Ask) → None ≡ Some q → ⊥
no_ask q e = cc

-- the ask for another line is as it was
pub ask_for-with_ask_other : (qs : List Ask) (q : Ask) (line : ℕ) → q.line ≢ line → ask_for (with_ask qs q) line ≡ ask_for qs line
ask_for-with_ask_other [] q line ne = not_found q [] line ne
ask_for-with_ask_other (r ∷ rs) q line ne = elim (cases_eq r.line q.line) [
  | inl e ↦ rw (replaced r rs q e, not_found q rs line ne, not_found r rs line (λ h. ne (sym e ∙ h))) refl
  | inr other ↦ rw (passed r rs q other) (elim (cases_eq r.line line) [
    | inl e ↦ rw (found r (with_ask rs q) line e, found r rs line e) refl
    | inr ne' ↦ rw (not_found r (with_ask rs q) line ne', not_found r rs line ne') (ask_for-with_ask_other rs q line ne)
  ])
]

-- the ask for its line is the new one
pub ask_for-with_ask_same : (qs : List Ask) (q : Ask) (line : ℕ) → q.line ≡ line → ask_for (with_ask qs q) line ≡ Some q
ask_for-with_ask_same [] q line e = found q [] line e
ask_for-with_ask_same (r ∷ rs) q line e = elim (cases_eq r.line q.line) [
  | inl same ↦ rw (replaced r rs q same) (found q rs line e)
  | inr ne ↦ rw (passed r rs q ne, not_found r (with_ask rs q) line (λ h. ne (h ∙ sym e))) (ask_for-with_ask_same rs q line e)
]

-- each word of an ask is below 2^64
pub fit_ask : (qs : List Ask) (q : Ask) (acts size line : ℕ) → AreAsks size acts qs → ask_for qs line ≡ Some q → (k : ℕ) → slice_index q.words k < 2 ^ 64
fit_ask [] q acts size line are told k = elim (no_ask q told) [ ]
fit_ask (r ∷ rs) q acts size line are told k = elim (cases_eq r.line line) [
  | inl e ↦ rw (← one_ask r q (sym (found r rs line e) ∙ told)) (are.0.fit k)
  | inr ne ↦ fit_ask rs q acts size line are.2 (sym (not_found r rs line ne) ∙ told) k
]
  where
    one_ask : (r q : Ask) → Some r ≡ Some q → r ≡ q
    one_ask r q e = cc

-- with one ask more they are asks of lines that differ
pub AreAsks-with_ask : (size acts : ℕ) (qs : List Ask) (q : Ask) → IsAsk size acts q → AreAsks size acts qs → AreAsks size acts (with_ask qs q)
AreAsks-with_ask size acts [] q i are = (i, refl, tt)
AreAsks-with_ask size acts (r ∷ rs) q i are = elim (cases_eq r.line q.line) [
  | inl e ↦ rw (replaced r rs q e) (i, rw (← e) are.1, are.2)
  | inr ne ↦ rw (passed r rs q ne) (are.0, ask_for-with_ask_other rs q r.line (λ h. ne (sym h)) ∙ are.1, AreAsks-with_ask size acts rs q i are.2)
]
