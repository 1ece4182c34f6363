-- An act that gives a swap its effect is the fence of its verdict, which leaves the durable words outside the descriptors.
use Rattle.std.specs.Prelude.{◌≡◌, ◌≢◌, ◌&&◌, ◌==◌, if◌then◌else◌, not, nat_lt, ℕ, ◌/◌, ◌%◌, ◌⊎◌, ◌<◌, Bool, true, false, List, slice_index, Some, None}
use Rattle.std.specs.declared.option.Option.{Option}
use Rattle.std.proofs.Common.{arith, refl, ap, sym, subst, ◌∙◌, inl, inr}
use Rattle.std.proofs.lemmas.Bool.{true≢false}
use Rattle.std.proofs.lemmas.Grind.{common_steps}
use Rattle.bz_word.specs.declared.kind.WordKind.{WordKind}
use Rattle.bz_word.specs.declared.kind.WordKind.TheVariants.{Value, Dirty, Swap, Tag}
use Rattle.bz_layout.specs.Addresses.{swap_address}
use Rattle.bz_swap_machine.specs.declared.status.SwapStatus.{SwapStatus}
use Rattle.bz_swap_machine.specs.declared.status.SwapStatus.TheVariants.{Free, Undecided, Deciding, Decided}
use Rattle.bz_swap_machine.specs.declared.status.Verdict.{Verdict}
use Rattle.bz_swap_machine.specs.declared.status.Verdict.TheVariants.{Succeeded, Failed}
use Rattle.bz_swap_machine.specs.declared.place.Place.{Place}
use Rattle.bz_swap_machine.specs.declared.place.Place.TheVariants as place
use Rattle.bz_swap_machine.specs.declared.place.PrepareStep.TheVariants.{WriteWord, WriteStatus, AskHead, AskTail, FenceDescriptor}
use Rattle.bz_swap_machine.specs.declared.place.HelpStep.{HelpStep}
use Rattle.bz_swap_machine.specs.declared.place.HelpStep.TheVariants.{Look, InstallTag, LookUnderTag, InstallPointer, RemoveTag, AskDirty, FenceDirty, ClearDirty, AskTarget, FenceTargets, Decide, AskStatus, FenceStatus, ClearStatus, PutFinal, AskFinal, FenceFinal, ClearFinal, SweepTag}
use Rattle.bz_swap_machine.specs.declared.place.Next.{Next}
use Rattle.bz_swap_machine.specs.declared.place.Next.TheVariants.{Step, Meet, Complete}
use Rattle.bz_swap_machine.specs.declared.worker.Worker.{Worker}
use Rattle.bz_swap_machine.specs.declared.done.Done.{Done}
use Rattle.bz_swap_machine.specs.Changes.{fenced, with_word}
use Rattle.bz_swap_machine.specs.HelpActs.{After, after_install_tag, after_untag, cleared_word, after_decide, cleared_status, after_put_final, help_act}
use Rattle.bz_swap_machine.specs.Knows.{AtPlace, AsksAtHome, has_asked}
use Rattle.bz_swap_machine.specs.Machine.{Entries, Memory, entries_in, is_succeeded, is_verdict}
use Rattle.bz_swap_machine.specs.Steps.{Local, act, is_own, completed, after_help, read_act}
use Rattle.bz_swap_machine.specs.Workers.{local_of}
use Rattle.bz_swap_machine.proofs.Lasting.{lasts-durable}
use Rattle.bz_swap_cells.specs.FromPm.After.{after_fence}
use Rattle.bz_swap_cells.specs.FromPm.Changes.{fenced_word}
use Rattle.bz_swap_cells.specs.FromPm.State.{State, asks_of, ask_for}
use Rattle.bz_swap_cells.specs.Store.{Store, IsOutside, typed, store_state, status_of, status_at}
use Rattle.bz_swap_cells.proofs.FromPm.Fences as memory
use Rattle.bz_swap_acts.specs.Made.{made}
use Rattle.bz_swap_acts.specs.Rule.{after_act}
use Rattle.bz_swap_acts.specs.Writes.{WritesAt}
use Rattle.bz_swap_acts.specs.declared.acted.Act.{Act}
use Rattle.bz_swap_acts.specs.declared.acted.Act.TheVariants.{Fence}
use Rattle.bz_swap.specs.Steps.{MayAct}
use Rattle.bz_swap.specs.Inside.Parts.{Parts, worker_at, seen}
use Rattle.bz_swap.specs.Inside.Kept.{IsRunning, PlaceAsks}
use Rattle.bz_swap.proofs.Readies.{begun-descriptor, published-begun}
use Rattle.bz_swap.proofs.SeenSteps.{told_effect, told-path}
use Rattle.bz_swap.proofs.Stepped.{IsMadeAct, Acts, MayStep}

-- the worker may act
pub may-act : (p : Parts) (r : IsRunning p) (w : ℕ) → MayStep p w → MayAct (seen p) w
may-act p r w may = record {
  state = r.words.has_room.state;
  fit = r.words.has_room.fit;
  worker = omega (arith, may.within, may.numbered, r.words.has_room.workers);
  counted = may.counted;
}

-- no change of words makes a status durable
stays-if : (b : Bool) (x y : After) (s : ℕ) (z : SwapStatus) → x.memory.durable_status s ≡ z → y.memory.durable_status s ≡ z → (if b then x else y).memory.durable_status s ≡ z
stays-if true x y s z f g = f
stays-if false x y s z f g = g

stays-if_memory : (b : Bool) (x y : Memory) (s : ℕ) (z : SwapStatus) → x.durable_status s ≡ z → y.durable_status s ≡ z → (if b then x else y).durable_status s ≡ z
stays-if_memory true x y s z f g = f
stays-if_memory false x y s z f g = g

stays-install : (x : Entries) (m : Memory) (w s i : ℕ) (found : WordKind) (t : ℕ) → (after_install_tag x m w s i found).memory.durable_status t ≡ m.durable_status t
stays-install x m w s i (Value v) t = stays-if (v == x.expected i) _ _ t _ refl refl
stays-install x m w s i (Dirty v) t = refl
stays-install x m w s i (Swap u) t = refl
stays-install x m w s i (Tag u j v q) t = refl

stays-untag : (x : Entries) (m : Memory) (s i v q : ℕ) (new : WordKind) (changed unchanged : Next) (found : WordKind) (t : ℕ) → (after_untag x m s i v q new changed unchanged found).memory.durable_status t ≡ m.durable_status t
stays-untag x m s i v q new changed unchanged (Value u) t = refl
stays-untag x m s i v q new changed unchanged (Dirty u) t = refl
stays-untag x m s i v q new changed unchanged (Swap u) t = refl
stays-untag x m s i v q new changed unchanged (Tag k j u p) t =
    stays-if (((k == s) && (j == i)) && ((u == v) && (p == q))) (record { memory = with_word m (x.target i) new; next = changed }) (record { memory = m; next = unchanged }) t _ refl refl

stays-cleared : (m : Memory) (a v : ℕ) (found : WordKind) (t : ℕ) → (cleared_word m a v found).durable_status t ≡ m.durable_status t
stays-cleared m a v (Value u) t = refl
stays-cleared m a v (Swap s) t = refl
stays-cleared m a v (Tag s j u q) t = refl
stays-cleared m a v (Dirty u) t = stays-if_memory (u == v) _ _ t _ refl refl

stays-decide : (m : Memory) (s : ℕ) (d : Verdict) (found : SwapStatus) (t : ℕ) → (after_decide m s d found).memory.durable_status t ≡ m.durable_status t
stays-decide m s d Free t = refl
stays-decide m s d Undecided t = refl
stays-decide m s d (Deciding c) t = refl
stays-decide m s d (Decided c) t = refl

stays-status : (m : Memory) (s : ℕ) (d : Verdict) (found : SwapStatus) (t : ℕ) → (cleared_status m s d found).durable_status t ≡ m.durable_status t
stays-status m s d Free t = refl
stays-status m s d Undecided t = refl
stays-status m s Succeeded (Deciding Succeeded) t = refl
stays-status m s Succeeded (Deciding Failed) t = refl
stays-status m s Failed (Deciding Succeeded) t = refl
stays-status m s Failed (Deciding Failed) t = refl
stays-status m s d (Decided c) t = refl

stays-final : (x : Entries) (m : Memory) (s i : ℕ) (d : Verdict) (found : WordKind) (t : ℕ) → (after_put_final x m s i d found).memory.durable_status t ≡ m.durable_status t
stays-final x m s i d (Value v) t = refl
stays-final x m s i d (Dirty v) t = refl
stays-final x m s i d (Swap u) t = stays-if (u == s) _ _ t _ refl refl
stays-final x m s i d (Tag u j v q) t = refl

-- nor does a fence of a worker that has asked for no status
stays-fenced : (m : Memory) (w t : ℕ) → (m.status_pending t).asked w ≡ None → (fenced m w).durable_status t ≡ m.durable_status t
stays-fenced m w t none = rw none refl

-- a success comes to be durable at the fence of a verdict alone
abbrev IsVerdictFence : Place → Type 0
IsVerdictFence x = (d : Verdict) × (x ≡ place.Help (FenceStatus d))

abbrev FromHelp : Entries → Memory → ℕ → ℕ → ℕ → HelpStep → Type 0
FromHelp x m w s t step = ((help_act x m w s step).memory.durable_status t ≡ m.durable_status t) ⊎ IsVerdictFence (place.Help step)

by-help : (x : Entries) (m : Memory) (w s t : ℕ) (step : HelpStep) → (has_asked (place.Help step) ≡ false → (m.status_pending t).asked w ≡ None) → FromHelp x m w s t step
by-help x m w s t Look none = inl refl
by-help x m w s t (InstallTag i) none = inl (stays-install x m w s i (m.cached (x.target i)) t)
by-help x m w s t (LookUnderTag i v q) none = inl refl
by-help x m w s t (InstallPointer i v q) none = inl (stays-untag x m s i v q _ _ _ (m.cached (x.target i)) t)
by-help x m w s t (RemoveTag i v q) none = inl (stays-untag x m s i v q _ _ _ (m.cached (x.target i)) t)
by-help x m w s t (AskDirty i v) none = inl refl
by-help x m w s t (FenceDirty i v) none = inl (stays-fenced m w t (none refl))
by-help x m w s t (ClearDirty i v) none = inl (stays-cleared m (x.target i) v (m.cached (x.target i)) t)
by-help x m w s t (AskTarget i) none = inl refl
by-help x m w s t FenceTargets none = inl (stays-fenced m w t (none refl))
by-help x m w s t (Decide d) none = inl (stays-decide m s d (m.status s) t)
by-help x m w s t (AskStatus d) none = inl refl
by-help x m w s t (FenceStatus d) none = inr (d, refl)
by-help x m w s t (ClearStatus d) none = inl (stays-status m s d (m.status s) t)
by-help x m w s t (PutFinal i d) none = inl (stays-final x m s i d (m.cached (x.target i)) t)
by-help x m w s t (AskFinal i d) none = inl refl
by-help x m w s t (FenceFinal i d) none = inl (stays-fenced m w t (none refl))
by-help x m w s t (ClearFinal i d) none = inl (stays-cleared m (x.target i) _ (m.cached (x.target i)) t)
by-help x m w s t (SweepTag i d v q) none = inl (stays-untag x m s i v q _ _ _ (m.cached (x.target i)) t)

completed-stays : (m : Memory) (l : Local) (d : Verdict) (b : Bool) (t : ℕ) → is_own l.operation l.current ≡ b → (completed m l d).memory.durable_status t ≡ m.durable_status t
completed-stays m l d true t own = rw own refl
completed-stays m l d false t own = rw own refl

after-stays : (m : Memory) (l : Local) (next : Next) (t : ℕ) → (after_help l m next).memory.durable_status t ≡ m.durable_status t
after-stays m l (Step step) t = refl
after-stays m l (Meet s) t = refl
after-stays m l (Complete d) t = completed-stays m l d _ t refl

read-stays : (m : Memory) (l : Local) (a : ℕ) (found : WordKind) (t : ℕ) → (read_act m l a found).memory.durable_status t ≡ m.durable_status t
read-stays m l a (Value v) t = refl
read-stays m l a (Dirty v) t = refl
read-stays m l a (Swap s) t = refl
read-stays m l a (Tag s i w q) t = refl

-- the status of the current swap after an act
abbrev Comes : Memory → ℕ → Local → Place → Type 0
Comes m w l x = ((act m w l x).memory.durable_status l.current ≡ m.durable_status l.current) ⊎ ((act m w l x).memory.durable_status l.current ≡ Undecided) ⊎ IsVerdictFence x

by-act : (e : ℕ → Entries) (m : Memory) (w : ℕ) (l : Local) (x : Place) → AtPlace e m w l x → (has_asked x ≡ false → (m.status_pending l.current).asked w ≡ None) → Comes m w l x
by-act e m w l place.Idle at none = inl refl
by-act e m w l (place.Prepare (WriteWord k)) at none = inl refl
by-act e m w l (place.Prepare WriteStatus) at none = inl refl
by-act e m w l (place.Prepare AskHead) at none = inl refl
by-act e m w l (place.Prepare AskTail) at none = inl refl
by-act e m w l (place.Prepare FenceDescriptor) at none = inr (inl (at.3.2 ((fenced m w).durable_status l.current) (lasts-durable _ _)))
by-act e m w l (place.Learn k) at none = inl refl
by-act e m w l (place.Help step) at none =
    let after = help_act (entries_in l.list) m w l.current step in
    elim (by-help (entries_in l.list) m w l.current l.current step none) [
      | inl same ↦ inl (after-stays after.memory l after.next l.current ∙ same)
      | inr fence ↦ inr (inr fence)
    ]
by-act e m w l (place.ReadWord a) at none = inl (read-stays m l a (m.cached a) l.current)
by-act e m w l (place.AskRead a v) at none = inl refl
by-act e m w l (place.FenceRead a v) at none = inl (stays-fenced m w l.current (none refl))
by-act e m w l (place.ClearRead a v) at none = inl (stays-cleared m a v (m.cached a) l.current)
by-act e m w l (place.LoadWord a) at none = inl refl
by-act e m w l (place.StoreWord a v) at none = inl refl
by-act e m w l (place.AskLine line) at none = inl refl
by-act e m w l (place.FenceLine line) at none = inl (stays-fenced m w l.current (none refl))

effect-some : (b c : Bool) (s t : ℕ) → ◌≡◌ {A = Option ℕ} (if b && not c then Some s else None) (Some t) → (b ≡ true) × (c ≡ false) × (s ≡ t)
effect-some true false s t is = (refl, refl, cc)
effect-some true true s t is = absurd cc
effect-some false c s t is = absurd cc

at-home : (m : Memory) (w : ℕ) (l : Local) → AsksAtHome m w l → has_asked l.place ≡ false → (m.status_pending l.current).asked w ≡ None
at-home m w l home none = home l.current (rw none refl)

-- a word whose line is not asked for stays at a fence
never-asked : {A : Type 0} (o : Option A) → (o ≢ None → ⊥) → o ≡ None
never-asked None none = refl
never-asked (Some q) none = absurd (none (λ is. absurd cc))

outside-line : (swaps a s : ℕ) → IsOutside swaps a → s < swaps → a / 8 ≢ swap_address s / 8
outside-line swaps a s (inl below) lt = omega arith
outside-line swaps a s (inr above) lt = omega arith

-- the fence of a verdict asked for the line of its status alone
fence-outside : (p : Parts) (r : IsRunning p) (w : ℕ) (store : Store) (d : Verdict) → MayStep p w → (worker_at p w).place ≡ place.Help (FenceStatus d) → (worker_at p w).current < p.store.swaps
    → store_state store ≡ after_fence (store_state p.store) w → (a : ℕ) → IsOutside p.store.swaps a → slice_index store.durable a ≡ slice_index p.store.durable a
fence-outside p r w store d may is number after a out =
    let alone : PlaceAsks p.store.past w (worker_at p w).current (place.Help (FenceStatus d)) = rw is at (r.asked w).alone in
    let none : ask_for (asks_of (store_state p.store) w) (a / 8) ≡ None = never-asked (ask_for (asks_of (store_state p.store) w) (a / 8)) (λ asked. outside-line p.store.swaps a (worker_at p w).current out number (alone (a / 8) asked)) in
    ap (λ (m : State). slice_index m.words.durable a) after
    ∙ (memory.fence (store_state p.store) w r.words.has_room.state (may-act p r w may).worker).durable a
    ∙ ap (λ o. fenced_word o (slice_index p.store.past.since a) (slice_index p.store.durable a) (a % 8)) none

-- the word of a verdict is not 0
verdict-some : (swaps : ℕ) (words : List ℕ) (s : ℕ) (d : Verdict) → s < swaps → is_verdict (status_at swaps words s) d ≡ true → slice_index words (swap_address s) ≡ 0 → ⊥
unfolding status_of
verdict-some swaps words s d lt is zero =
    let test : nat_lt s swaps ≡ true = grind (arith, common_steps, lt) in
    let told : is_verdict (status_of (slice_index words (swap_address s))) d ≡ true = rw test at is in
    let never : is_verdict (status_of 0) d ≡ true = subst (λ x. is_verdict (status_of x) d ≡ true) zero told in
    true≢false (sym never)

-- so it is of each act that tells an effect
pub inside-step : (p : Parts) (r : IsRunning p) (w : ℕ) (store : Store) (l : Worker) (done : Done) (told : Act) → MayStep p w → Acts p r.beside w store l done → IsMadeAct p w store told
    → (s : ℕ) → told_effect p.store store (worker_at p w).current ≡ Some s
    → (told ≡ Fence) × ((a : ℕ) → IsOutside p.store.swaps a → slice_index store.durable a ≡ slice_index p.store.durable a) × (slice_index store.cached (swap_address s) ≢ 0)
inside-step p r w store l done told may a by s is =
    let m : Memory = typed p.store r.beside in
    let n : Memory = (made p.store r.beside (worker_at p w) w).memory in
    let current : ℕ = (worker_at p w).current in
    let both : (is_succeeded (n.durable_status current) ≡ true) × (is_succeeded (m.durable_status current) ≡ false) × (current ≡ s) =
    effect-some _ _ current s (sym (told-path p r w store l done a) ∙ is) in
    elim (by-act r.entries m w (local_of (worker_at p w)) (worker_at p w).place (r.state.knows w).place (at-home m w (local_of (worker_at p w)) (r.state.home w))) [
      | inl same ↦ absurd (true≢false (sym both.0 ∙ ap is_succeeded same ∙ both.1))
      | inr (inl undecided) ↦ absurd (true≢false (sym both.0 ∙ ap is_succeeded undecided))
      | inr (inr (d, at)) ↦
          (let writes : WritesAt p.store.swaps (worker_at p w) (place.Help (FenceStatus d)) told = rw at at by.writes in
          let known : AtPlace r.entries m w (local_of (worker_at p w)) (place.Help (FenceStatus d)) = rw at at (r.state.knows w).place in
          let number : current < p.store.swaps = begun-descriptor p r current (published-begun p r current known.0) in
          let after : store_state store ≡ after_fence (store_state p.store) w = by.rule.after ∙ ap (after_act w (store_state p.store)) writes in
          (writes, fence-outside p r w store d may at number after, rw (← both.2) (λ zero. verdict-some p.store.swaps p.store.cached current d number known.3.0 (ap (λ (u : State). slice_index u.words.cached (swap_address current)) (sym after) ∙ zero))))
    ]
