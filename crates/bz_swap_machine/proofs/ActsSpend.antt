-- Each act of a worker that is not idle spends one of its budget.
use Rattle.std.proofs.Common.{◌≡◌, ◌≢◌, ◌==◌, nat_lt, ℕ, ◌+◌, ◌*◌, ◌<◌, ◌≤◌, Bool, true, false, arith, refl, ap, sym, subst, ◌∙◌}
use Rattle.std.proofs.lemmas.Grind.{common_steps}
use Rattle.bz_word.specs.declared.kind.WordKind.TheVariants.{Dirty}
use Rattle.bz_swap_machine.specs.declared.place.HelpStep.{HelpStep}
use Rattle.bz_swap_machine.specs.declared.place.HelpStep.TheVariants.{Look, InstallTag, LookUnderTag, InstallPointer, RemoveTag, AskDirty, FenceDirty, ClearDirty, AskTarget, FenceTargets, Decide, AskStatus, FenceStatus, ClearStatus, PutFinal, AskFinal, FenceFinal, ClearFinal, SweepTag}
use Rattle.bz_swap_machine.specs.declared.place.Place.{Place}
use Rattle.bz_swap_machine.specs.declared.place.Place.TheVariants.{Idle, Prepare, Learn, Help, ReadWord, AskRead, FenceRead, ClearRead, LoadWord, StoreWord, AskLine, FenceLine}
use Rattle.bz_swap_machine.specs.declared.place.PrepareStep.{PrepareStep}
use Rattle.bz_swap_machine.specs.declared.place.PrepareStep.TheVariants.{WriteWord, WriteStatus, AskHead, AskTail, FenceDescriptor}
use Rattle.bz_swap_machine.specs.declared.status.SwapStatus.{SwapStatus}
use Rattle.bz_swap_machine.specs.declared.status.SwapStatus.TheVariants.{Free, Undecided, Deciding, Decided}
use Rattle.bz_swap_machine.specs.declared.status.Verdict.{Verdict}
use Rattle.bz_swap_machine.specs.Agrees.{Agree, agree-spell}
use Rattle.bz_swap_machine.specs.Budget.{is_fresh_at, budget}
use Rattle.bz_swap_machine.specs.Budgets.{IsBounded, ActsSpend}
use Rattle.bz_swap_machine.specs.DirtyHomes.{IsAtFinal, IsCleaned}
use Rattle.bz_swap_machine.specs.Knows.{Spell, AtPlace}
use Rattle.bz_swap_machine.specs.Machine.{entries_in}
use Rattle.bz_swap_machine.specs.Owners.{RestsAt}
use Rattle.bz_swap_machine.specs.Sound.{Follows}
use Rattle.bz_swap_machine.specs.Standing.{scene_of}
use Rattle.bz_swap_machine.specs.State.{State}
use Rattle.bz_swap_machine.proofs.AgreeActs.{final-agrees}
use Rattle.bz_swap_machine.proofs.Openers.{busy-below}
use Rattle.bz_swap_machine.proofs.Scenes.{budget-acted}
use Rattle.bz_swap_machine.proofs.SpendClears.{Home, spends-clear_dirty}
use Rattle.bz_swap_machine.proofs.SpendCloses.{spends-clear_status}
use Rattle.bz_swap_machine.proofs.SpendDecides.{spends-decide}
use Rattle.bz_swap_machine.proofs.SpendFinals.{spends-clear_final, spends-sweep}
use Rattle.bz_swap_machine.proofs.SpendInstalls.{spends-try, spends-read}
use Rattle.bz_swap_machine.proofs.SpendPointers.{spends-pointer}
use Rattle.bz_swap_machine.proofs.SpendPrepares.{spends-write_status, spends-fence_descriptor}
use Rattle.bz_swap_machine.proofs.SpendPuts.{spends-put_final}
use Rattle.bz_swap_machine.proofs.SpendReads.{spends-clear_read}
use Rattle.bz_swap_machine.proofs.SpendStale.{spends-remove_tag, spends-stale_sweep, spends-stale_pointer, spends-stale_tag}
use Rattle.bz_swap_machine.proofs.SpendStores.{spends-store}
use Rattle.bz_swap_machine.proofs.Spends.{Spends, spends-learn, spends-look, spends-under, spends-ask_dirty, spends-fence_dirty, spends-ask_target, spends-fence_targets, spends-ask_status, spends-fence_status, spends-ask_final, spends-fence_final, spends-write_word, spends-ask_head, spends-ask_tail, spends-ask_read, spends-fence_read, spends-ask_line, spends-fence_line}
use Rattle.bz_swap_machine.proofs.Lasting.{lasts-durable}

-- the status of a published swap is not free
not-free : (c k : SwapStatus) → Follows c k → c ≡ Free → ⊥
not-free Free k follows is = follows
not-free Undecided k follows is = absurd cc
not-free (Deciding d) k follows is = absurd cc
not-free (Decided d) k follows is = absurd cc

-- a worker that goes on to clean a final value knows its entry
pub record KnowsEntry (x : State) (h i : ℕ) : Type 0 where
  pub spell : Spell (x.entries (x.local h).current) (x.local h).list
  pub inside : i < (x.entries (x.local h).current).count

at-final : (x : State) (h i : ℕ) (d : Verdict) (p : Place) → IsAtFinal p i d → AtPlace x.entries x.memory h (x.local h) p → KnowsEntry x h i
at-final x h i d (Help (AskFinal j c)) at known = record { spell = known.2; inside = subst (λ k. k < (x.entries (x.local h).current).count) at.0 known.3.0 }
at-final x h i d (Help (FenceFinal j c)) at known = record { spell = known.2; inside = subst (λ k. k < (x.entries (x.local h).current).count) at.0 known.3.0 }
at-final x h i d (Help (ClearFinal j c)) at known = record { spell = known.2; inside = subst (λ k. k < (x.entries (x.local h).current).count) at.0 known.3.0 }
at-final x h i d (Help step) at known = absurd at
at-final x h i d p at known = absurd at

other-final : (x : State) (w h i : ℕ) (d : Verdict) (p : Place) → (x.local w).place ≡ p → (IsAtFinal p i d → ⊥) → IsAtFinal (x.local h).place i d → (b : Bool) → (h == w) ≡ b → b ≡ false
other-final x w h i d p at none final false told = refl
other-final x w h i d p at none final true told =
    let same : h ≡ w = grind (arith, common_steps, told) in
    absurd (none (subst (λ q. IsAtFinal q i d) (ap (λ k. (x.local k).place) same ∙ at) final))

-- a dirty value is one that another worker goes on to clean
home-of : (x : State) (w n a v : ℕ) (p : Place) → IsBounded x n → (x.local w).place ≡ p → ((i : ℕ) (d : Verdict) → IsAtFinal p i d → ⊥) → x.memory.cached a ≡ Dirty v → Home x.entries x.local w n a v
home-of x w n a v p bounded at none is =
    let cleaned : IsCleaned x.local a v = bounded.dirty a v is in
    let knows : KnowsEntry x cleaned.worker cleaned.cleans.entry = at-final x cleaned.worker cleaned.cleans.entry cleaned.cleans.verdict (x.local cleaned.worker).place cleaned.cleans.place (bounded.state.knows cleaned.worker).place in
    let agree : Agree (entries_in (x.local cleaned.worker).list) (x.entries (x.local cleaned.worker).current) = agree-spell (x.entries (x.local cleaned.worker).current) (x.local cleaned.worker).list knows.spell in
    record {
      worker = cleaned.worker;
      entry = cleaned.cleans.entry;
      verdict = cleaned.cleans.verdict;
      other = other-final x w cleaned.worker cleaned.cleans.entry cleaned.cleans.verdict p at (none cleaned.cleans.entry cleaned.cleans.verdict) cleaned.cleans.place (cleaned.worker == w) refl;
      below = busy-below x n cleaned.worker bounded (λ idle. subst (λ q. IsAtFinal q cleaned.cleans.entry cleaned.cleans.verdict) idle cleaned.cleans.place) (nat_lt cleaned.worker n) refl;
      place = cleaned.cleans.place;
      target = sym (agree.target cleaned.cleans.entry knows.inside) ∙ cleaned.cleans.target;
      value = sym (final-agrees (entries_in (x.local cleaned.worker).list) (x.entries (x.local cleaned.worker).current) cleaned.cleans.entry cleaned.cleans.verdict agree knows.inside) ∙ cleaned.cleans.value;
    }

small : (i k : ℕ) → i < k → k ≤ 4 → i < 4
small i k f g = omega (arith, f, g)

few-words : (k c : ℕ) → k ≤ 3 * c → c ≤ 4 → k < 13
few-words k c f g = omega (arith, f, g)

-- on the own descriptor
prepares : (x : State) (w n : ℕ) (step : PrepareStep) → IsBounded x n → AtPlace x.entries x.memory w (x.local w) (Prepare step) → Spends x.entries x.local x.memory w n (x.local w) (Prepare step)
prepares x w n (WriteWord k) bounded known = spends-write_word x.entries x.local x.memory w n (x.local w) k (few-words k _ known.3.0 (bounded.short (x.local w).current))
prepares x w n WriteStatus bounded known = spends-write_status x.entries x.local x.memory w n (x.local w) (bounded.state.sound.unset (x.local w).current known.1)
prepares x w n AskHead bounded known = spends-ask_head x.entries x.local x.memory w n (x.local w)
prepares x w n AskTail bounded known = spends-ask_tail x.entries x.local x.memory w n (x.local w)
prepares x w n FenceDescriptor bounded known = spends-fence_descriptor x.entries x.local x.memory w n (x.local w) known.0 known.3.1

-- on a published swap
helps : (x : State) (w n : ℕ) (step : HelpStep) → IsBounded x n → (x.local w).place ≡ Help step → AtPlace x.entries x.memory w (x.local w) (Help step) → Spends x.entries x.local x.memory w n (x.local w) (Help step)
helps x w n Look bounded at known = spends-look x.entries x.local x.memory w n (x.local w)
helps x w n (InstallTag i) bounded at known = by_fresh (is_fresh_at (scene_of x) (x.local w).current (Help (InstallTag i))) refl
  where
    by_fresh : (b : Bool) → is_fresh_at (scene_of x) (x.local w).current (Help (InstallTag i)) ≡ b → Spends x.entries x.local x.memory w n (x.local w) (Help (InstallTag i))
    by_fresh true told = spends-try x w n i bounded at known (small i _ known.3.0 (bounded.short (x.local w).current)) told
    by_fresh false told =
        spends-stale_tag x.entries x.local x.memory w n (x.local w) i bounded.few bounded.short (small i _ known.3.0 (bounded.short (x.local w).current)) ((agree-spell (x.entries (x.local w).current) (x.local w).list known.2).target i known.3.0) told
helps x w n (LookUnderTag i v q) bounded at known =
    spends-under x.entries x.local x.memory w n (x.local w) i v q (not-free (x.memory.status (x.local w).current) (x.memory.durable_status (x.local w).current) (bounded.state.sound.follows (x.local w).current (x.memory.durable_status (x.local w).current) (lasts-durable _ _) known.0))
helps x w n (InstallPointer i v q) bounded at known = by_fresh (is_fresh_at (scene_of x) (x.local w).current (Help (InstallPointer i v q))) refl
  where
    by_fresh : (b : Bool) → is_fresh_at (scene_of x) (x.local w).current (Help (InstallPointer i v q)) ≡ b → Spends x.entries x.local x.memory w n (x.local w) (Help (InstallPointer i v q))
    by_fresh true told =
        spends-pointer x w n i v q bounded known.0 known.3.0 (small i _ known.3.0 (bounded.short (x.local w).current)) ((agree-spell (x.entries (x.local w).current) (x.local w).list known.2).target i known.3.0) told
    by_fresh false told =
        spends-stale_pointer x.entries x.local x.memory w n (x.local w) i v q bounded.few bounded.short (small i _ known.3.0 (bounded.short (x.local w).current)) ((agree-spell (x.entries (x.local w).current) (x.local w).list known.2).target i known.3.0) told
helps x w n (RemoveTag i v q) bounded at known = spends-remove_tag x.entries x.local x.memory w n (x.local w) i v q bounded.few bounded.short
helps x w n (AskDirty i v) bounded at known = spends-ask_dirty x.entries x.local x.memory w n (x.local w) i v
helps x w n (FenceDirty i v) bounded at known = spends-fence_dirty x.entries x.local x.memory w n (x.local w) i v
helps x w n (ClearDirty i v) bounded at known =
    spends-clear_dirty x.entries x.local x.memory w n (x.local w) i v bounded.few bounded.short ((agree-spell (x.entries (x.local w).current) (x.local w).list known.2).target i known.3.0)
    (home-of x w n ((x.entries (x.local w).current).target i) v (Help (ClearDirty i v)) bounded at (λ j d final. final)) (small i _ known.3.0 (bounded.short (x.local w).current))
helps x w n FenceTargets bounded at known = spends-fence_targets x.entries x.local x.memory w n (x.local w)
helps x w n (AskTarget i) bounded at known = spends-ask_target x.entries x.local x.memory w n (x.local w) i (small i _ known.3.0 (bounded.short (x.local w).current))
helps x w n (Decide d) bounded at known =
    spends-decide x.entries x.local x.memory w n (x.local w) d bounded.few bounded.short (not-free (x.memory.status (x.local w).current) (x.memory.durable_status (x.local w).current) (bounded.state.sound.follows (x.local w).current (x.memory.durable_status (x.local w).current) (lasts-durable _ _) known.0))
helps x w n (AskStatus d) bounded at known = spends-ask_status x.entries x.local x.memory w n (x.local w) d
helps x w n (FenceStatus d) bounded at known = spends-fence_status x.entries x.local x.memory w n (x.local w) d
helps x w n (ClearStatus d) bounded at known = spends-clear_status x w n d bounded known.0
helps x w n (PutFinal i d) bounded at known = spends-put_final x w n i d bounded at known (small i _ known.3.0 (bounded.short (x.local w).current))
helps x w n (AskFinal i d) bounded at known = spends-ask_final x.entries x.local x.memory w n (x.local w) i d
helps x w n (FenceFinal i d) bounded at known = spends-fence_final x.entries x.local x.memory w n (x.local w) i d
helps x w n (ClearFinal i d) bounded at known = spends-clear_final x w n i d bounded at known (small i _ known.3.0 (bounded.short (x.local w).current))
helps x w n (SweepTag i d v q) bounded at known = by_fresh (is_fresh_at (scene_of x) (x.local w).current (Help (SweepTag i d v q))) refl
  where
    by_fresh : (b : Bool) → is_fresh_at (scene_of x) (x.local w).current (Help (SweepTag i d v q)) ≡ b → Spends x.entries x.local x.memory w n (x.local w) (Help (SweepTag i d v q))
    by_fresh true told = spends-sweep x w n i d v q bounded at known (small i _ known.3.0 (bounded.short (x.local w).current)) told
    by_fresh false told =
        spends-stale_sweep x.entries x.local x.memory w n (x.local w) i d v q bounded.few bounded.short ((agree-spell (x.entries (x.local w).current) (x.local w).list known.2).target i known.3.0) told

-- at any place
acts : (x : State) (w n : ℕ) (p : Place) → IsBounded x n → (x.local w).place ≡ p → p ≢ Idle → AtPlace x.entries x.memory w (x.local w) p → RestsAt p (x.local w).operation → Spends x.entries x.local x.memory w n (x.local w) p
acts x w n Idle bounded at busy known rests = absurd (busy refl)
acts x w n (Prepare step) bounded at busy known rests = prepares x w n step bounded known
acts x w n (Learn k) bounded at busy known rests = spends-learn x.entries x.local x.memory w n (x.local w) k (few-words k _ known.2 (bounded.short (x.local w).current))
acts x w n (Help step) bounded at busy known rests = helps x w n step bounded at known
acts x w n (ReadWord a) bounded at busy known rests = spends-read x w n a bounded at known (λ v. home-of x w n a v (ReadWord a) bounded at (λ i d final. final))
acts x w n (AskRead a v) bounded at busy known rests = spends-ask_read x.entries x.local x.memory w n (x.local w) a v
acts x w n (FenceRead a v) bounded at busy known rests = spends-fence_read x.entries x.local x.memory w n (x.local w) a v
acts x w n (ClearRead a v) bounded at busy known rests = spends-clear_read x.entries x.local x.memory w n (x.local w) a v bounded.few bounded.short
acts x w n (LoadWord a) bounded at busy known rests = absurd known
acts x w n (StoreWord a v) bounded at busy known rests = spends-store x.entries x.local x.memory w n (x.local w) a v (bounded.state.sound.private a known) rests
acts x w n (AskLine line) bounded at busy known rests = spends-ask_line x.entries x.local x.memory w n (x.local w) line
acts x w n (FenceLine line) bounded at busy known rests = spends-fence_line x.entries x.local x.memory w n (x.local w) line rests

pub acts_spend : ActsSpend
acts_spend x w n bounded busy =
    let spent : Spends x.entries x.local x.memory w n (x.local w) (x.local w).place = acts x w n (x.local w).place bounded refl busy (bounded.state.knows w).place (bounded.owned.rests w) in
    subst (λ k. k < budget x w n) (sym (budget-acted x w n)) (below spent)
  where
    below : {a b : ℕ} → a + 1 ≤ b → a < b
    below f = omega (arith, f)
