-- What a step or an eviction leaves of a swap whose expected values stand: no miss is noted, and they stand still where no foreign effect
-- came.
use Rattle.std.specs.Prelude.{◌≡◌, ◌≢◌, ◌==◌, ℕ, zero, suc, Bool, true, false, not, List, [], ◌∷◌, get_or, Option, None, Some}
use Rattle.std.proofs.Common.{arith, refl, ap, sym, subst, ◌∙◌, inl, inr}
use Rattle.std.proofs.lemmas.Bool.{cases_Bool, or_left, or_right, eqb-true, eq-eqb}
use Rattle.std.proofs.lemmas.List.Elements.{All-nil, All-cons, All-head, All-tail, All-same}
use Rattle.bz_word.specs.declared.entry.Entry.{Entry}
use Rattle.bz_swap_acts.specs.declared.acted.Act.{Act}
use Rattle.bz_swap_machine.specs.Allowed.{counted}
use Rattle.bz_swap_machine.specs.declared.done.Done.{Done}
use Rattle.bz_swap_machine.specs.declared.done.Done.TheVariants.{Swapped}
use Rattle.bz_swap.specs.declared.phase.Phase.TheVariants.{Recovering}
use Rattle.bz_swap.specs.Effects.{EffectIs}
use Rattle.bz_swap.specs.Evictions.{IsEviction}
use Rattle.bz_swap.specs.Steps.{IsStep, IsAnswer}
use Rattle.bz_swap.specs.SwapMemory.{SwapMemory, Doing, Swapping, value_at, has_effect, is_missed, entries_of, is_target, is_among, doing_of}
use Rattle.bz_rivals.specs.Rivals.{is_own, foreign}
use Rattle.bz_rivals.specs.Wins.{Stand, GoesWell}
use Rattle.bz_rivals.proofs.Frames.{eviction-effect}

-- no miss is noted where the expected values stand
pub unnoted : (old new : SwapMemory) (w : ℕ) (made : Act) (done : Done) (told : Option ℕ) (s : ℕ) → IsStep old w made done told new → GoesWell old s → is_missed new s ≡ false
unnoted old new w made done told s step well = elim (cases_Bool (is_missed new s)) [
  | inl missed ↦ (let law = step.misses.lawful s well.unnoted missed in absurd (law.1 (well.stands law.0)))
  | inr not ↦ not
]

pub evicted : (old new : SwapMemory) (a : ℕ) (told : Option ℕ) (s : ℕ) → IsEviction old a told new → is_missed new s ≡ is_missed old s
evicted old new a told s h = ap (λ (m : SwapMemory). is_missed m s) h.is

-- so the answer is not false
won-true : (m : SwapMemory) (s : ℕ) (made : Act) (won : Bool) → is_missed m s ≡ false → IsAnswer m (Swapping s) made (Swapped won) → (won ≡ true) × (has_effect m s ≡ true)
won-true m s made true unnoted answer = (refl, answer)
won-true m s made false unnoted (none, missed) = absurd cc

pub answered : (old new : SwapMemory) (w : ℕ) (made : Act) (told : Option ℕ) (s : ℕ) (won : Bool) → IsStep old w made (Swapped won) told new → doing_of old w ≡ Swapping s → GoesWell old s
    → (won ≡ true) × (has_effect new s ≡ true)
answered old new w made told s won step mine well =
    won-true new s made won (unnoted old new w made (Swapped won) told s step well) (subst (λ d. IsAnswer new d made (Swapped won)) mine step.one.answer)

-- the targets of a swap that was begun are named
named : (begun : List (List Entry)) (s a : ℕ) → is_target (get_or begun s []) a ≡ true → is_among begun a ≡ true
named [] s a is = absurd cc
named (entries ∷ begun) zero a is = or_left (is_target entries a) (is_among begun a) is
named (entries ∷ begun) (suc s) a is = or_right (is_target entries a) (is_among begun a) (named begun s a is)

-- so the expected values stand as long as no named address changes
still-stand : (old new : SwapMemory) (entries : List Entry) → ((a : ℕ) → is_target entries a ≡ true → value_at new a ≡ value_at old a) → Stand old entries → Stand new entries
still-stand old new [] same stand = All-nil (λ (e : Entry). value_at new e.target ≡ e.expected)
still-stand old new (e ∷ entries) same stand =
    All-cons (λ (e : Entry). value_at new e.target ≡ e.expected) e entries
    (same e.target (or_left (e.target == e.target) (is_target entries e.target) (eq-eqb e.target e.target refl)) ∙ All-head (λ (e : Entry). value_at old e.target ≡ e.expected) e entries stand)
    (still-stand old new entries (λ a is. same a (or_right (e.target == a) (is_target entries a) is)) (All-tail (λ (e : Entry). value_at old e.target ≡ e.expected) e entries stand))

-- an effect that is not foreign is that of the worker's own swap
own-effect : (s t : ℕ) (b : Bool) → (s == t) ≡ b → counted (not b) 1 ≡ 0 → s ≡ t
own-effect s t true told none = eqb-true s t told
own-effect s t false told none = absurd (omega (arith, none))

is-own : (d : Doing) (s t : ℕ) → d ≡ Swapping s → counted (not (is_own d t)) 1 ≡ 0 → s ≡ t
is-own d s t mine none = own-effect s t (s == t) refl (ap (λ (d : Doing). counted (not (is_own d t)) 1) (sym mine) ∙ none)

stands-after : (old new : SwapMemory) (w s : ℕ) (told : Option ℕ) → EffectIs old new told → new.begun ≡ old.begun → doing_of old w ≡ Swapping s → foreign old w told ≡ 0 → GoesWell old s
    → has_effect new s ≡ false → Stand new (entries_of new s)
stands-after old new w s None quiet begun mine none well without =
    All-same (λ (e : Entry). value_at new e.target ≡ e.expected) (entries_of new s) (entries_of old s) (ap (λ (l : List (List Entry)). get_or l s []) begun)
    (still-stand old new (entries_of old s) (λ a is. quiet.values a (named old.begun s a is)) (well.stands (sym (quiet.swaps s) ∙ without)))
stands-after old new w s (Some t) takes begun mine none well without =
    let same : s ≡ t = is-own (doing_of old w) s t mine none in
    let done : has_effect new s ≡ true = ap (has_effect new) same ∙ takes.done in
    absurd cc

pub well-after : (old new : SwapMemory) (w : ℕ) (made : Act) (done : Done) (told : Option ℕ) (s : ℕ) → IsStep old w made done told new → doing_of old w ≡ Swapping s → foreign old w told ≡ 0
    → GoesWell old s → GoesWell new s
well-after old new w made done told s step mine none well = record {
  unnoted = unnoted old new w made done told s step well;
  stands = stands-after old new w s told step.effect step.one.others.begun mine none well;
}

pub well-evicted : (old new : SwapMemory) (w a : ℕ) (told : Option ℕ) (s : ℕ) → old.phase ≢ Recovering → IsEviction old a told new → doing_of old w ≡ Swapping s → foreign old w told ≡ 0
    → GoesWell old s → GoesWell new s
well-evicted old new w a told s not h mine none well = record {
  unnoted = evicted old new a told s h ∙ well.unnoted;
  stands = stands-after old new w s told (eviction-effect old new a told not h) (ap (λ (m : SwapMemory). m.begun) h.is) mine none well;
}
