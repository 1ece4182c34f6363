-- Where a swap may begin, the durable words stand for what readers see at its targets.
use Rattle.std.specs.Prelude.{◌≡◌, ◌≢◌, ℕ, if◌then◌else◌, List, [], ◌∷◌, All, slice_index}
use Rattle.std.proofs.Common.{refl, sym, ◌∙◌, inl, inr}
use Rattle.std.proofs.lemmas.Bool.{cases_Bool}
use Rattle.std.proofs.lemmas.List.Elements.{All-nil, All-cons, All-head, All-tail}
use Rattle.bz_word.specs.declared.entry.Entry.{Entry}
use Rattle.bz_swap.specs.declared.phase.Phase.{Phase}
use Rattle.bz_swap.specs.declared.phase.Phase.TheVariants.{Opened, Running, Recovering}
use Rattle.bz_swap.specs.Atomic.{value_in, value_of}
use Rattle.bz_swap.specs.Held.{IsHeld}
use Rattle.bz_swap.specs.Starts.{IsEntry}
use Rattle.bz_swap.specs.SwapMemory.{SwapMemory, value_at, is_named}
use Rattle.bz_swap.proofs.SettledWords.{settled-same}
use Rattle.bz_rivals.specs.Wins.{Stand, AreExpected, ExpectedStand}

-- outside a recovery time: of a named word what the durable words stand for, of a private one the cached word
working-value : (phase : Phase) (m : SwapMemory) (a : ℕ) → phase ≢ Recovering → value_in phase m a ≡ (if is_named m a then value_at m a else slice_index m.cached a)
working-value Opened m a not = refl
working-value Running m a not = refl
working-value Recovering m a not = absurd (not refl)

-- which is durable, where a swap may name it
value-at : (m : SwapMemory) (e : Entry) → m.phase ≢ Recovering → IsHeld m → IsEntry m e → value_at m e.target ≡ value_of m e.target
value-at m e not held entry = elim (cases_Bool (is_named m e.target)) [
  | inl named ↦ (let now : (if is_named m e.target then value_at m e.target else slice_index m.cached e.target) ≡ value_at m e.target = rw named refl in
      sym (working-value m.phase m e.target not ∙ now))
  | inr private ↦ (let now : (if is_named m e.target then value_at m e.target else slice_index m.cached e.target) ≡ slice_index m.cached e.target = rw private refl in
      (held.private e.target entry.address.outside private).1 ∙ sym (settled-same m e.target (entry.settled private)) ∙ sym (working-value m.phase m e.target not ∙ now))
]

all-stand : (m : SwapMemory) (entries : List Entry) → m.phase ≢ Recovering → IsHeld m → All (IsEntry m) entries → AreExpected m entries → Stand m entries
all-stand m [] not held each expected = All-nil (λ (e : Entry). value_at m e.target ≡ e.expected)
all-stand m (e ∷ entries) not held each expected =
    All-cons (λ (e : Entry). value_at m e.target ≡ e.expected) e entries
    (value-at m e not held (All-head (IsEntry m) e entries each) ∙ All-head (λ (e : Entry). value_of m e.target ≡ e.expected) e entries expected)
    (all-stand m entries not held (All-tail (IsEntry m) e entries each) (All-tail (λ (e : Entry). value_of m e.target ≡ e.expected) e entries expected))

pub expected-stand : ExpectedStand
expected-stand m w entries held may expected = all-stand m entries may.work.phase held may.each expected
