-- The try of the last phase at an entry spends one, whatever stands there.
use Rattle.std.proofs.Common.{◌≡◌, ◌==◌, if◌then◌else◌, ℕ, ◌<◌, Bool, true, false, arith, refl, ap, subst, ◌∙◌}
use Rattle.std.proofs.lemmas.Grind.{common_steps}
use Rattle.bz_word.specs.declared.kind.WordKind.{WordKind}
use Rattle.bz_word.specs.declared.kind.WordKind.TheVariants.{Value, Dirty, Swap, Tag}
use Rattle.bz_swap_machine.specs.declared.place.HelpStep.TheVariants.{PutFinal, AskFinal, SweepTag}
use Rattle.bz_swap_machine.specs.declared.place.Next.TheVariants.{Step}
use Rattle.bz_swap_machine.specs.declared.place.Place.TheVariants.{Help}
use Rattle.bz_swap_machine.specs.declared.status.Verdict.{Verdict}
use Rattle.bz_swap_machine.specs.Budgets.{IsBounded}
use Rattle.bz_swap_machine.specs.Changes.{with_word}
use Rattle.bz_swap_machine.specs.HelpActs.{final_value, finished, after_put_final}
use Rattle.bz_swap_machine.specs.Knows.{AtPlace}
use Rattle.bz_swap_machine.specs.Sound.{IsEntry}
use Rattle.bz_swap_machine.specs.Standing.{is_pointer, is_tag, scene_of}
use Rattle.bz_swap_machine.specs.State.{State}
use Rattle.bz_swap_machine.proofs.SpendCloses.{put-falls}
use Rattle.bz_swap_machine.proofs.SpendFinals.{Last, last-at, is-clean, clean-settled, by-entries, same-words, finished-falls, swap-not}
use Rattle.bz_swap_machine.proofs.SpendStale.{Owes}
use Rattle.bz_swap_machine.proofs.SpendTries.{same-tag}
use Rattle.bz_swap_machine.proofs.Spends.{Spends, fresh-falls, here-falls}
use Rattle.bz_swap_machine.proofs.Through.{same-entry}
use Rattle.bz_swap_machine.proofs.Truths.{differ}

-- a tag of a swap at its entry's target is one for this entry
pub tag-entry : (x : State) (n s i j v q : ℕ) → IsBounded x n → i < (x.entries s).count → x.memory.cached ((x.entries s).target i) ≡ Tag s j v q → j ≡ i
tag-entry x n s i j v q bounded inside is =
    let entry : IsEntry x.entries x.memory.published s j ((x.entries s).target i) = bounded.state.sound.tag ((x.entries s).target i) s j v q is in
    same-entry x.entries s j i bounded.state.apart entry.entry inside entry.target

pub spends-put_final : (x : State) (w n i : ℕ) (d : Verdict) → IsBounded x n → (x.local w).place ≡ Help (PutFinal i d) → AtPlace x.entries x.memory w (x.local w) (Help (PutFinal i d)) → i < 4 → Spends x.entries x.local x.memory w n (x.local w) (Help (PutFinal i d))
spends-put_final x w n i d bounded at known small = by-entries x w n (PutFinal i d) known (by_found (x.memory.cached ((x.entries (x.local w).current).target i)) refl)
  where
    last : Last x w n i (PutFinal i d)
    last = last-at x w n i (PutFinal i d) bounded at tt (λ j lt. lt) (omega arith) known.3.0 (omega (arith, small)) refl

    -- no pointer and no tag of the swap
    other : (k : WordKind) → x.memory.cached ((x.entries (x.local w).current).target i) ≡ k → is_pointer k (x.local w).current ≡ false → ((v q : ℕ) → is_tag k (x.local w).current i v q ≡ false)
        → Owes x.entries x.local x.memory w n (x.local w) (Help (PutFinal i d)) (record { memory = x.memory; next = finished (x.entries (x.local w).current) i d })
    other k is pointer tag =
        finished-falls x x.memory.cached w n i d (PutFinal i d) last
        (same-words x w n i (PutFinal i d) last (λ v q stands. differ (is_tag k (x.local w).current i v q) (subst (λ j. is_tag j (x.local w).current i v q ≡ true) is stands) (tag v q)) (λ b u cleans. absurd cc))
        (swap-not (x.memory.cached ((x.entries (x.local w).current).target i)) (x.local w).current (ap (λ j. is_pointer j (x.local w).current) is ∙ pointer))

    not-tag : (t j v q u p : ℕ) → (t == (x.local w).current) ≡ false → is_tag (Tag t j v q) (x.local w).current i u p ≡ false
    not-tag t j v q u p apart = rw apart refl

    by_swap : (t : ℕ) (b : Bool) → (t == (x.local w).current) ≡ b → x.memory.cached ((x.entries (x.local w).current).target i) ≡ Swap t
        → Owes x.entries x.local x.memory w n (x.local w) (Help (PutFinal i d))
        (if b then record { memory = with_word x.memory ((x.entries (x.local w).current).target i) (Dirty (final_value (x.entries (x.local w).current) i d)); next = Step (AskFinal i d) }
        else record { memory = x.memory; next = finished (x.entries (x.local w).current) i d })
    by_swap t true told is =
        let same : t ≡ (x.local w).current = grind (arith, common_steps, told) in
        put-falls x w n i d bounded known.0 small (is ∙ ap Swap same) (clean-settled (x.memory.status (x.local w).current) (is-clean x w n i (PutFinal i d) last))
    by_swap t false told is = other (Swap t) is told (λ v q. refl)

    by_tag : (t j v q : ℕ) (b : Bool) → (t == (x.local w).current) ≡ b → x.memory.cached ((x.entries (x.local w).current).target i) ≡ Tag t j v q
        → Owes x.entries x.local x.memory w n (x.local w) (Help (PutFinal i d)) (record { memory = x.memory; next = if b then Step (SweepTag i d v q) else finished (x.entries (x.local w).current) i d })
    by_tag t j v q true told is =
        let same : t ≡ (x.local w).current = grind (arith, common_steps, told) in
        let found : x.memory.cached ((x.entries (x.local w).current).target i) ≡ Tag (x.local w).current j v q = is ∙ ap (λ s. Tag s j v q) same in
        let here : x.memory.cached ((x.entries (x.local w).current).target i) ≡ Tag (x.local w).current i v q = found ∙ ap (λ k. Tag (x.local w).current k v q) (tag-entry x n (x.local w).current i j v q bounded known.3.0 found) in
        fresh-falls (scene_of x) w n (x.local w) (Help (PutFinal i d)) (Help (SweepTag i d v q)) refl (ap (λ k. is_tag k (x.local w).current i v q) here ∙ same-tag (x.local w).current i v q)
        (here-falls (scene_of x) w n (x.local w) (x.local w) (Help (PutFinal i d)) (Help (SweepTag i d v q)) refl refl refl refl refl (omega (arith, small)))
    by_tag t j v q false told is = other (Tag t j v q) is refl (λ u p. not-tag t j v q u p told)

    by_found : (k : WordKind) → x.memory.cached ((x.entries (x.local w).current).target i) ≡ k
        → Owes x.entries x.local x.memory w n (x.local w) (Help (PutFinal i d)) (after_put_final (x.entries (x.local w).current) x.memory (x.local w).current i d k)
    by_found (Value v) is = other (Value v) is refl (λ u q. refl)
    by_found (Dirty v) is = other (Dirty v) is refl (λ u q. refl)
    by_found (Swap t) is = by_swap t (t == (x.local w).current) refl is
    by_found (Tag t j v q) is = by_tag t j v q (t == (x.local w).current) refl is
