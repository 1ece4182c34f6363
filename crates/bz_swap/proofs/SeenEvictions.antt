-- An eviction, as callers see it.
use Rattle.std.specs.Prelude.{◌≡◌, ◌≢◌, ◌&&◌, if◌then◌else◌, not, ℕ, Bool, true, false, List, [], ◌∷◌, slice_index, slice_set, None, Some}
use Rattle.std.specs.declared.option.Option.{Option}
use Rattle.std.proofs.Common.{refl, ap, sym, subst, ◌∙◌}
use Rattle.bz_swap_cells.specs.FromPm.Acts.{evicted}
use Rattle.bz_swap_machine.specs.declared.worker.Worker.{Worker}
use Rattle.bz_swap_machine.specs.Machine.{Memory, is_succeeded, entries_in}
use Rattle.bz_swap_machine.specs.Promise.{EffectIs as MachineEffectIs}
use Rattle.bz_swap_machine.specs.State.{Evict, EvictStatus, EvictField}
use Rattle.bz_swap_machine.specs.Steps.{effect_of}
use Rattle.bz_swap_machine.proofs.EventLaws.{acts_atomically}
use Rattle.bz_swap_cells.specs.Store.{Store, Beside, typed, status_at}
use Rattle.bz_swap.specs.declared.phase.Phase.{Phase}
use Rattle.bz_swap.specs.declared.phase.Phase.TheVariants.{Opened, Running, Recovering}
use Rattle.bz_swap.specs.declared.role.WordRole.{WordRole}
use Rattle.bz_swap.specs.declared.role.WordRole.TheVariants.{Outside, Status, Field}
use Rattle.bz_swap.specs.Effects.{EffectIs}
use Rattle.bz_swap.specs.Inside.Evicted.{IsEvicted, memory_after, told_between, told_of}
use Rattle.bz_swap.specs.Evictions.{IsEviction, EvictsIn}
use Rattle.bz_swap.specs.SwapMemory.{SwapMemory, memory_words as words_seen}
use Rattle.bz_swap.specs.Inside.Parts.{Parts, prepares, words_in, entry_list, listed, begun_seen, seen}
use Rattle.bz_swap.specs.Inside.Kept.{IsRunning, IsKept, state_of}
use Rattle.bz_swap.proofs.Evicting.{evicted_store, after_eviction, eviction-running}
use Rattle.bz_swap.proofs.Pending.{pending}
use Rattle.bz_swap.proofs.Shown.{Shows, shows}
use Rattle.bz_swap.proofs.Stepping.{running}
use Rattle.bz_swap.proofs.SeenSteps.{told-shown}

-- the swaps begun are those from before
words-kept : (st : Store) (a s : ℕ) (workers : List Worker) → words_in (evicted_store st a) s workers ≡ words_in st s workers
words-kept st a s [] = refl
words-kept st a s (l ∷ workers) = ap (λ f. if prepares l s then slice_index l.list.words else f) (words-kept st a s workers)

begun-kept : (phase : Phase) (st : Store) (a : ℕ) (workers : List Worker) → begun_seen phase (evicted_store st a) workers ≡ begun_seen phase st workers
begun-kept Opened st a workers = λ i. listed (λ s. entry_list (entries_in (words-kept st a s workers i))) 0 st.taken
begun-kept Running st a workers = λ i. listed (λ s. entry_list (entries_in (words-kept st a s workers i))) 0 st.taken
begun-kept Recovering st a workers = refl

-- one word is durable, and nothing else changed
pub eviction-seen : (p : Parts) (a : ℕ) → seen (after_eviction p a) ≡ record (seen p) { durable = (evicted (words_seen (seen p)) a).durable; past = record p.store.past { since = slice_set p.store.past.since a p.store.past.count } }
eviction-seen p a = λ i. record (seen (after_eviction p a)) { begun = begun-kept p.phase p.store a p.workers i }

-- the swap whose effect an eviction can tell
abbrev swap_in : WordRole → ℕ
swap_in Outside = 0
swap_in (Status s) = s
swap_in (Field s k) = 0

-- what the machine's event does
machine-effect : (p : Parts) (r : IsRunning p) (a : ℕ) (role : WordRole) → typed (evicted_store p.store a) r.beside ≡ memory_after a role (typed p.store r.beside)
    → MachineEffectIs r.entries (typed p.store r.beside) (typed (evicted_store p.store a) r.beside) (told_between p.store (evicted_store p.store a) (swap_in role))
machine-effect p r a Outside is =
    let m : Memory = typed p.store r.beside in
    subst (λ n. MachineEffectIs r.entries m n (effect_of m n 0)) (sym is) (acts_atomically (state_of p r.entries r.beside) (Evict a) tt r.state).effect
machine-effect p r a (Status s) is =
    let m : Memory = typed p.store r.beside in
    subst (λ n. MachineEffectIs r.entries m n (effect_of m n s)) (sym is) (acts_atomically (state_of p r.entries r.beside) (EvictStatus s) tt r.state).effect
machine-effect p r a (Field s k) is =
    let m : Memory = typed p.store r.beside in
    subst (λ n. MachineEffectIs r.entries m n (effect_of m n 0)) (sym is) (acts_atomically (state_of p r.entries r.beside) (EvictField s k) tt r.state).effect

-- where no status is evicted no effect is told
none-told : (b : Bool) (s : ℕ) → ◌≡◌ {A = Option ℕ} (if b && not b then Some s else None) None
none-told true s = refl
none-told false s = refl

none-between : (old new : Store) (b : Beside) (s : ℕ) (m : Memory) → typed new b ≡ m → m.durable_status s ≡ status_at old.swaps old.durable s → told_between old new s ≡ None
none-between old new b s m is same =
    ap (λ t. if is_succeeded t && not (is_succeeded (status_at old.swaps old.durable s)) then Some s else None) (ap (λ (n : Memory). n.durable_status s) is ∙ same)
    ∙ none-told (is_succeeded (status_at old.swaps old.durable s)) s

told-path : (old : Store) (a : ℕ) (b : Beside) (role : WordRole) → typed (evicted_store old a) b ≡ memory_after a role (typed old b)
    → told_of role old (evicted_store old a) ≡ told_between old (evicted_store old a) (swap_in role)
told-path old a b Outside is = sym (none-between old (evicted_store old a) b 0 (memory_after a Outside (typed old b)) is refl)
told-path old a b (Status s) is = refl
told-path old a b (Field s k) is = sym (none-between old (evicted_store old a) b 0 (memory_after a (Field s k) (typed old b)) is refl)

-- the swap memory after an eviction shows the machine's memory
after-shows : (p : Parts) (r : IsRunning p) (a : ℕ) (told : Option ℕ) → p.phase ≢ Recovering → IsEvicted p.store a told (evicted_store p.store a)
    → Shows (seen (after_eviction p a)) r.entries (typed (evicted_store p.store a) r.beside)
after-shows p r a told phase h =
    let on = eviction-running p r a told h in
    let q : Parts = after_eviction p a in
    subst (λ b. Shows (seen q) r.entries (typed q.store b)) on.beside
    (subst (λ e. Shows (seen q) e (typed q.store on.running.beside)) on.entries (shows q on.running phase))

-- the effect of an eviction
pub eviction-effect : (p : Parts) (r : IsRunning p) (a : ℕ) (told : Option ℕ) → p.phase ≢ Recovering → IsEvicted p.store a told (evicted_store p.store a)
    → EffectIs (seen p) (seen (after_eviction p a)) told
eviction-effect p r a told phase h =
    let q : Parts = after_eviction p a in
    let s : ℕ = swap_in h.role in
    let on = eviction-running p r a told h in
    let is = h.is_told ∙ told-path p.store a r.beside h.role (h.changed r.beside) in
    rw is (told-shown (seen p) (seen q) r.entries (typed p.store r.beside) (typed q.store r.beside) s (r.beside.owner s) _ (shows p r phase) (after-shows p r a told phase h)
    (machine-effect p r a h.role (h.changed r.beside))
    (λ t. pending p q r on.running s (ap (λ (b : Beside). b.answer s) on.beside) refl t.before t.done))

evicts-in : (phase : Phase) (m n : SwapMemory) (told : Option ℕ) → phase ≢ Recovering → EffectIs m n told → EvictsIn phase m told n
evicts-in Opened m n told not effect = effect
evicts-in Running m n told not effect = effect
evicts-in Recovering m n told not effect = absurd (not refl)

-- an eviction outside a recovery time
pub is-eviction : (p : Parts) (k : IsKept p) (a : ℕ) (told : Option ℕ) → p.phase ≢ Recovering → IsEvicted p.store a told (evicted_store p.store a)
    → IsEviction (seen p) a told (seen (after_eviction p a))
is-eviction p k a told phase h = record {
  is = eviction-seen p a;
  state = k.room.state;
  effect = evicts-in p.phase (seen p) (seen (after_eviction p a)) told phase (eviction-effect p (running p.phase p phase k.kept) a told phase h);
}
