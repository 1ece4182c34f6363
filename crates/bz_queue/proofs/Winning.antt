-- Swaps that are to win: while nothing changes their targets they stay so, and they are answered with true.
use Rattle.std.proofs.Common.{◌≡◌, inl, inr, ◌==◌, not, ℕ, zero, suc, true, false, List, [], ◌∷◌, refl, sym, ap, subst, ◌∙◌, arith, Option, None}
use Rattle.std.proofs.lemmas.Bool.{and_from, and_parts, cases_Bool, eq-eqb, eqb-true, not-true, not_from_false}
use Rattle.bz_word.specs.declared.entry.Entry.{Entry}
use Rattle.bz_swap_acts.specs.declared.acted.Act.{Act}
use Rattle.bz_swap_machine.specs.declared.done.Done.{Done}
use Rattle.bz_swap_machine.specs.declared.done.Done.TheVariants as done
use Rattle.bz_swap.specs.Steps.{IsStep, IsAnswer, doing_after}
use Rattle.bz_swap.specs.SwapMemory.{SwapMemory, Doing, Swapping, value_at, has_effect, is_missed, entries_of, doing_of}
use Rattle.bz_rivals.specs.Wins.{Stand, GoesWell}
use Rattle.bz_rivals.proofs.Proved.{own_swaps_win}
use Rattle.bz_queue.specs.Inside.Left.{do_stand, is_to_win, is_lost}

pub to-stand : (m : SwapMemory) (entries : List Entry) → do_stand m entries ≡ true → Stand m entries
to-stand m [] is k d within = absurd (omega arith)
to-stand m (e ∷ entries) is zero d within = eqb-true (value_at m e.target) e.expected (and_parts (value_at m e.target == e.expected) (do_stand m entries) is).0
to-stand m (e ∷ entries) is (suc k) d within = to-stand m entries (and_parts (value_at m e.target == e.expected) (do_stand m entries) is).1 k d (omega arith)

pub of-stand : (m : SwapMemory) (entries : List Entry) → Stand m entries → do_stand m entries ≡ true
of-stand m [] h = refl
of-stand m (e ∷ entries) h =
    and_from (value_at m e.target == e.expected) (do_stand m entries) (eq-eqb (value_at m e.target) e.expected (h zero e (omega arith)))
    (of-stand m entries (λ k d within. h (suc k) d (omega arith)))

pub to-well : (m : SwapMemory) (s : ℕ) → is_to_win m s ≡ true → GoesWell m s
to-well m s is =
    let both = and_parts (not (is_missed m s)) (do_stand m (entries_of m s)) is in
    record { unnoted = not-true (is_missed m s) both.0; stands = λ none. to-stand m (entries_of m s) both.1 }

pub of-well : (m : SwapMemory) (s : ℕ) → is_missed m s ≡ false → Stand m (entries_of m s) → is_to_win m s ≡ true
of-well m s unnoted stands = and_from (not (is_missed m s)) (do_stand m (entries_of m s)) (not_from_false (is_missed m s) unnoted) (of-stand m (entries_of m s) stands)

-- a swap that is to win is not answered without an effect
answered-well : (old new : SwapMemory) (w s : ℕ) (made : Act) (told : Option ℕ) (ended : Done) → IsStep old w made ended told new → doing_of old w ≡ Swapping s → GoesWell old s → has_effect new s ≡ false → ended ≡ done.Busy
answered-well old new w s made told done.Busy step doing well none = refl
answered-well old new w s made told (done.Swapped won) step doing well none =
    let answer = own_swaps_win.answer old new w made told s won step doing well in
    absurd (let both : true ≡ false = sym answer.1 ∙ none in cc)
answered-well old new w s made told (done.Read v) step doing well none = absurd (subst (λ (it : Doing). IsAnswer new it made (done.Read v)) doing step.one.answer)
answered-well old new w s made told done.Stored step doing well none = absurd (subst (λ (it : Doing). IsAnswer new it made done.Stored) doing step.one.answer)
answered-well old new w s made told done.Flushed step doing well none = absurd (subst (λ (it : Doing). IsAnswer new it made done.Flushed) doing step.one.answer)

-- so an act of its worker leaves it under way, and notes no miss
pub well-step : (old new : SwapMemory) (w s : ℕ) (made : Act) (told : Option ℕ) (ended : Done) → IsStep old w made ended told new → doing_of old w ≡ Swapping s → GoesWell old s → has_effect new s ≡ false
    → (doing_of new w ≡ Swapping s) × (is_missed new s ≡ false)
well-step old new w s made told ended step doing well none =
    let busy = answered-well old new w s made told ended step doing well none in (step.one.doing ∙ ap (doing_after (doing_of old w)) busy ∙ doing, own_swaps_win.unnoted old new w made ended told s step well)

-- a swap without effect whose targets hold what they held is lost only if it was
pub lost-falls : (old new : SwapMemory) (w s : ℕ) → (GoesWell old s → (doing_of new w ≡ Swapping s) × (is_missed new s ≡ false)) → doing_of old w ≡ Swapping s
    → (Stand old (entries_of old s) → Stand new (entries_of new s)) → has_effect old s ≡ false → is_lost new None (doing_of new w) ≡ true → is_lost old None (doing_of old w) ≡ true
lost-falls old new w s goes_on doing stands before lost = elim (cases_Bool (is_to_win old s)) [
  | inl wins ↦ (
      let well = to-well old s wins in
      let on = goes_on well in
      let still : is_to_win new s ≡ true = of-well new s on.1 (stands (well.stands before)) in
      let there : not (is_to_win new s) ≡ true = subst (λ (it : Doing). is_lost new None it ≡ true) on.0 lost in
      absurd (let both : true ≡ false = sym still ∙ not-true (is_to_win new s) there in cc)
      )
  | inr loses ↦ subst (λ (it : Doing). is_lost old None it ≡ true) (sym doing) (not_from_false (is_to_win old s) loses)
]
