-- What a step writes into the descriptors, as callers see it, by the place of the worker.
use Rattle.std.specs.Prelude.{◌≡◌, ◌≢◌, ◌⊎◌, ◌==◌, if◌then◌else◌, ℕ, ◌-◌, ◌*◌, ◌/◌, ◌%◌, ◌^◌, ◌<◌, ◌≤◌, Bool, true, false}
use Rattle.std.proofs.Common.{arith, refl, ap, sym, subst, ◌∙◌, inl, inr}
use Rattle.std.proofs.lemmas.Grind.{common_steps}
use Rattle.bz_layout.specs.Addresses.{swap_address}
use Rattle.bz_swap_machine.specs.declared.place.Place.{Place}
use Rattle.bz_swap_machine.specs.declared.place.Place.TheVariants as place
use Rattle.bz_swap_machine.specs.declared.place.PrepareStep.{PrepareStep}
use Rattle.bz_swap_machine.specs.declared.place.PrepareStep.TheVariants.{WriteWord, WriteStatus, AskHead, AskTail, FenceDescriptor}
use Rattle.bz_swap_machine.specs.declared.place.HelpStep.{HelpStep}
use Rattle.bz_swap_machine.specs.declared.place.HelpStep.TheVariants.{Decide, ClearStatus, AskDirty, FenceDirty, AskTarget, FenceTargets, AskStatus, FenceStatus, AskFinal, FenceFinal}
use Rattle.bz_swap_machine.specs.declared.status.SwapStatus.TheVariants.{Undecided, Deciding, Decided}
use Rattle.bz_swap_machine.specs.declared.status.Verdict.{Verdict}
use Rattle.bz_swap_machine.specs.declared.status.Verdict.TheVariants.{Succeeded, Failed}
use Rattle.bz_swap_machine.specs.declared.worker.Operation.TheVariants as operation
use Rattle.bz_swap_machine.specs.Knows.{AtPlace, Owns}
use Rattle.bz_swap_machine.specs.Machine.{spelled}
use Rattle.bz_swap_machine.specs.Ranges.{PlaceInRange}
use Rattle.bz_swap_machine.specs.Workers.{local_of}
use Rattle.bz_swap_cells.specs.Store.{IsOutside, status_word, typed}
use Rattle.bz_swap_acts.specs.Writes.{StaysOutside, PreparesBy, HelpsBy, WritesAt}
use Rattle.bz_swap_acts.specs.declared.acted.Act.{Act}
use Rattle.bz_swap_acts.specs.declared.acted.Act.TheVariants.{Load, Store, Cas, Ask, Fence}
use Rattle.bz_swap.specs.declared.phase.Phase.TheVariants.{Recovering}
use Rattle.bz_swap.specs.Writes.{StoresPrivate, StoresField, StoresOwn, ChangesStatus, WritesLawfully}
use Rattle.bz_swap.specs.SwapMemory.{SwapMemory, Working, doing_of}
use Rattle.bz_swap.specs.Inside.Parts.{Parts, worker_at, doing_at, doing_operation, seen}
use Rattle.bz_swap.specs.Inside.Kept.{IsRunning, PlaceLies}
use Rattle.bz_swap.proofs.Doings.{worker-seen}
use Rattle.bz_swap.proofs.Readies.{published-begun, begun-descriptor}
use Rattle.bz_swap.proofs.Shown.{shows}
use Rattle.bz_swap_machine.proofs.Lasting.{lasts-durable}

-- an act outside the descriptors
outside-writes : (old : SwapMemory) (w : ℕ) (made : Act) → StaysOutside old.swaps made → WritesLawfully old w made
outside-writes old w (Load a v) h = record { stores = λ b u is. absurd cc; swaps = λ b x y z is. absurd cc }
outside-writes old w (Store a v) h = absurd h
outside-writes old w (Cas a before after found) h = record {
  stores = λ b u is. absurd cc;
  swaps = λ b x y z is. (let here : a ≡ b = cc in inl (subst (IsOutside old.swaps) here h));
}
outside-writes old w (Ask line) h = absurd h
outside-writes old w Fence h = absurd h

-- an ask, and a fence
ask-writes : (old : SwapMemory) (w line : ℕ) (made : Act) → made ≡ Ask line → WritesLawfully old w made
ask-writes old w line made told = record {
  stores = λ b u is. (let bad : Ask line ≡ Store b u = sym told ∙ is in absurd cc);
  swaps = λ b x y z is. (let bad : Ask line ≡ Cas b x y z = sym told ∙ is in absurd cc);
}

fence-writes : (old : SwapMemory) (w : ℕ) (made : Act) → made ≡ Fence → WritesLawfully old w made
fence-writes old w made told = record {
  stores = λ b u is. (let bad : Fence ≡ Store b u = sym told ∙ is in absurd cc);
  swaps = λ b x y z is. (let bad : Fence ≡ Cas b x y z = sym told ∙ is in absurd cc);
}

-- a store
store-writes : (old : SwapMemory) (w a v : ℕ) (made : Act) → made ≡ Store a v → StoresPrivate old w a v ⊎ StoresOwn old w a v → WritesLawfully old w made
store-writes old w a v made told h = record {
  stores = λ b u is.
      (let same : Store a v ≡ Store b u = sym told ∙ is in
      let here : a ≡ b = cc in
      let value : v ≡ u = cc in
      subst (λ x. StoresPrivate old w b x ⊎ StoresOwn old w b x) value (subst (λ x. StoresPrivate old w x v ⊎ StoresOwn old w x v) here h));
  swaps = λ b x y z is. (let bad : Store a v ≡ Cas b x y z = sym told ∙ is in absurd cc);
}

-- a change of a status
status-writes : (old : SwapMemory) (w a before after found : ℕ) (made : Act) → made ≡ Cas a before after found → ChangesStatus old a before after → WritesLawfully old w made
status-writes old w a before after found made told h = record {
  stores = λ b u is. (let bad : Cas a before after found ≡ Store b u = sym told ∙ is in absurd cc);
  swaps = λ b x y z is.
      (let same : Cas a before after found ≡ Cas b x y z = sym told ∙ is in
      let here : a ≡ b = cc in
      let was : before ≡ x = cc in
      let now : after ≡ y = cc in
      inr (subst (λ u. ChangesStatus old b x u) now (subst (λ u. ChangesStatus old b u after) was (subst (λ u. ChangesStatus old u before after) here h))));
}

-- the value that a test chooses is below what both are below
chosen_below : (t : Bool) (x y n : ℕ) → (t ≡ true → x < n) → (t ≡ false → y < n) → (if t then x else y) < n
chosen_below true x y n f g = f refl
chosen_below false x y n f g = g refl

-- the words that spell a swap's entries are plain values
spelled-below : (p : Parts) (r : IsRunning p) (s k : ℕ) → k ≤ 3 * (r.entries s).count → spelled (r.entries s) k < 2 ^ 61
spelled-below p r s k le =
    let values = r.range.values s in
    let size = r.words.has_room.memory.size in
    let same = r.words.has_room.memory.same in
    chosen_below (k == 0) _ _ (2 ^ 61) (λ first. omega (arith, values.count))
    (λ later. chosen_below (k % 3 == 1) _ _ (2 ^ 61)
    (λ is. (let lies = r.lies s ((k - 1) / 3) (entry le later) in omega (arith, lies.within, size, same)))
    (λ not. chosen_below (k % 3 == 2) _ _ (2 ^ 61)
    (λ is. values.expected ((k - 1) / 3) (entry le later))
    (λ neither. values.value ((k - 1) / 3) (entry le later))))
  where
    entry : k ≤ 3 * (r.entries s).count → (k == 0) ≡ false → (k - 1) / 3 < (r.entries s).count
    entry le later = (let some : k ≢ 0 = grind (arith, common_steps) in omega (arith, le, some))

-- a store into the own descriptor, while the swap is prepared
own : (p : Parts) (r : IsRunning p) (w a v : ℕ) → (worker_at p w).operation ≡ operation.Swapping (worker_at p w).current → r.beside.published (worker_at p w).current ≡ false
    → doing_of (seen p) w ≡ doing_operation (worker_at p w).operation
    → ((a ≡ swap_address (worker_at p w).current) × (v ≡ status_word Undecided)) ⊎ StoresField (worker_at p w).current a v → StoresOwn (seen p) w a v
own p r w a v is unpublished doing word =
    let s : ℕ = (worker_at p w).current in
    let owns : Owns (typed p.store r.beside) w (worker_at p w).operation = (r.state.knows w).owns in
    let mine = rw is at owns in
    record {
      swap = s;
      doing = doing ∙ ap doing_operation is;
      begun = mine.1;
      number = begun-descriptor p r s mine.1;
      unset = (r.state.sound.unset s unpublished, r.state.sound.unset_durable s _ (lasts-durable _ _) unpublished);
      word = word;
    }

-- a place on the own descriptor
prepare-writes : (p : Parts) (r : IsRunning p) (w : ℕ) (told : Act) (step : PrepareStep) → AtPlace r.entries (typed p.store r.beside) w (local_of (worker_at p w)) (place.Prepare step)
    → doing_of (seen p) w ≡ doing_operation (worker_at p w).operation → PreparesBy p.store.swaps (worker_at p w) step told → WritesLawfully (seen p) w told
prepare-writes p r w told (WriteWord k) at doing made =
    let s : ℕ = (worker_at p w).current in
    store-writes (seen p) w _ _ told made (inr (own p r w _ _ at.0 at.1 doing (inr (record {
      number = k;
      below = omega (arith, at.3.0, (r.range.values s).count);
      address = refl;
      value = subst (λ v. v < 2 ^ 61) (sym (at.2 k at.3.0)) (spelled-below p r s k at.3.0);
    }))))
prepare-writes p r w told WriteStatus at doing made = store-writes (seen p) w _ _ told made (inr (own p r w _ _ at.0 at.1 doing (inl (refl, refl))))
prepare-writes p r w told AskHead at doing made = ask-writes (seen p) w _ told made
prepare-writes p r w told AskTail at doing made = ask-writes (seen p) w _ told made
prepare-writes p r w told FenceDescriptor at doing made = fence-writes (seen p) w told made

-- the status of a published swap
not_free : (d : Verdict) → (status_word (Deciding d) ≢ 0) × (status_word (Decided d) ≢ 0)
not_free Succeeded = (λ is. omega arith, λ is. omega arith)
not_free Failed = (λ is. omega arith, λ is. omega arith)

help-writes : (p : Parts) (r : IsRunning p) (w s : ℕ) (told : Act) (step : HelpStep) → s < p.store.taken → HelpsBy p.store.swaps s step told → WritesLawfully (seen p) w told
help-writes p r w s told (Decide d) begun made = status-writes (seen p) w _ _ _ made.0 told made.1 (record {
  swap = s;
  begun = begun;
  number = begun-descriptor p r s begun;
  address = refl;
  verdict = d;
  change = inl (refl, refl);
  taken = (λ is. omega arith, (not_free d).0);
})
help-writes p r w s told (ClearStatus d) begun made = status-writes (seen p) w _ _ _ made.0 told made.1 (record {
  swap = s;
  begun = begun;
  number = begun-descriptor p r s begun;
  address = refl;
  verdict = d;
  change = inr (refl, refl);
  taken = not_free d;
})
help-writes p r w s told (AskStatus d) begun made = ask-writes (seen p) w _ told made
help-writes p r w s told (AskDirty i v) begun made = ask-writes (seen p) w made.0 told made.1
help-writes p r w s told (AskTarget i) begun made = ask-writes (seen p) w made.0 told made.1
help-writes p r w s told (AskFinal i d) begun made = ask-writes (seen p) w made.0 told made.1
help-writes p r w s told (FenceStatus d) begun made = fence-writes (seen p) w told made
help-writes p r w s told (FenceDirty i v) begun made = fence-writes (seen p) w told made
help-writes p r w s told FenceTargets begun made = fence-writes (seen p) w told made
help-writes p r w s told (FenceFinal i d) begun made = fence-writes (seen p) w told made
help-writes p r w s told other begun made = outside-writes (seen p) w told made

-- any place
writes-at : (p : Parts) (r : IsRunning p) (w : ℕ) (told : Act) (x : Place) → p.phase ≢ Recovering → AtPlace r.entries (typed p.store r.beside) w (local_of (worker_at p w)) x
    → PlaceInRange x → PlaceLies p.store x → doing_of (seen p) w ≡ doing_at x (worker_at p w).operation → WritesAt p.store.swaps (worker_at p w) x told → WritesLawfully (seen p) w told
writes-at p r w told (place.Prepare step) phase at range lies doing made = prepare-writes p r w told step at doing made
writes-at p r w told (place.Help step) phase at range lies doing made =
    help-writes p r w (worker_at p w).current told step (published-begun p r (worker_at p w).current at.0) made
writes-at p r w told (place.StoreWord a v) phase at range lies doing made =
    store-writes (seen p) w a v told made (inl (record { doing = doing; outside = lies.outside; private = (shows p r phase).named a ∙ at; value = range }))
writes-at p r w told (place.AskRead a v) phase at range lies doing made = ask-writes (seen p) w _ told made
writes-at p r w told (place.FenceRead a v) phase at range lies doing made = fence-writes (seen p) w told made
writes-at p r w told (place.AskLine line) phase at range lies doing made = ask-writes (seen p) w _ told made
writes-at p r w told (place.FenceLine line) phase at range lies doing made = fence-writes (seen p) w told made
writes-at p r w told other phase at range lies doing made = outside-writes (seen p) w told made

pub writes-seen : (p : Parts) (r : IsRunning p) (w : ℕ) (told : Act) → p.phase ≢ Recovering → WritesAt p.store.swaps (worker_at p w) (worker_at p w).place told → WritesLawfully (seen p) w told
writes-seen p r w told phase made =
    writes-at p r w told (worker_at p w).place phase (r.state.knows w).place (r.range.places w) (r.workers w).place (ap (λ (u : Working). u.doing) (worker-seen p w)) made
