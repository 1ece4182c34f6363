-- A swap that is answered is decided, in the caches and in the memory itself.
use Rattle.std.specs.Prelude.{◌≡◌, nat_lt, ℕ, ◌<◌, Bool, true, false, List, slice_index, Some, None}
use Rattle.std.specs.declared.option.Option.{Option}
use Rattle.std.proofs.Common.{arith, refl, ap, sym, ◌∙◌, inl, inr}
use Rattle.std.proofs.lemmas.Grind.{common_steps}
use Rattle.bz_layout.specs.Addresses.{swap_address}
use Rattle.bz_swap_machine.specs.declared.done.Done.{Done}
use Rattle.bz_swap_machine.specs.declared.done.Done.TheVariants.{Swapped}
use Rattle.bz_swap_machine.specs.declared.place.Place.{Place}
use Rattle.bz_swap_machine.specs.declared.place.Place.TheVariants as place
use Rattle.bz_swap_machine.specs.declared.status.SwapStatus.{SwapStatus}
use Rattle.bz_swap_machine.specs.declared.status.SwapStatus.TheVariants.{Free, Undecided, Deciding, Decided}
use Rattle.bz_swap_machine.specs.declared.status.Verdict.{Verdict}
use Rattle.bz_swap_machine.specs.declared.status.Verdict.TheVariants.{Succeeded, Failed}
use Rattle.bz_swap_machine.specs.declared.worker.Operation.{Operation}
use Rattle.bz_swap_machine.specs.declared.worker.Operation.TheVariants as operation
use Rattle.bz_swap_machine.specs.declared.worker.Worker.{Worker}
use Rattle.bz_swap_machine.specs.Machine.{Entries, Memory, is_verdict}
use Rattle.bz_swap_machine.specs.Promise.{IsAnswer}
use Rattle.bz_swap_machine.specs.Sound.{Follows}
use Rattle.bz_swap_machine.specs.State.{Act}
use Rattle.bz_swap_machine.specs.Steps.{Stepped}
use Rattle.bz_swap_machine.proofs.EventLaws.{acts_atomically}
use Rattle.bz_swap_cells.specs.Store.{Store, Beside, IsStatusWord, typed, status_at, status_of, status_word}
use Rattle.bz_swap_acts.specs.Made.{made}
use Rattle.bz_swap.specs.Writes.{IsVerdictWord, IsDecided}
use Rattle.bz_swap.specs.SwapMemory.{Swapping, Working, doing_of}
use Rattle.bz_swap.specs.Inside.Parts.{Parts, worker_at, doing_at, doing_operation, seen}
use Rattle.bz_swap.specs.Inside.Kept.{IsRunning, state_of}
use Rattle.bz_swap.proofs.Doings.{worker-seen}
use Rattle.bz_swap.proofs.Readies.{published-begun, begun-descriptor}
use Rattle.bz_swap.proofs.Stepped.{Acts, MayStep, after_step}
use Rattle.bz_swap.proofs.StepRuns.{step-running}
use Rattle.bz_swap_machine.proofs.Lasting.{lasts-durable}

abbrev verdict_of : Bool → Verdict
verdict_of true = Succeeded
verdict_of false = Failed

-- a durable verdict is the cached one
cached-verdict : (c k : SwapStatus) (d : Verdict) → Follows c k → is_verdict k d ≡ true → is_verdict c d ≡ true
cached-verdict c k d f h = grind arith

-- a swap that is answered is published
answered-published : (m : Memory) (s : ℕ) (d : Verdict) (b : Bool) → m.published s ≡ b → (m.published s ≡ false → m.answer s ≡ None) → m.answer s ≡ Some d → b ≡ true
answered-published m s d true is none told = refl
answered-published m s d false is none told = (let bad : ◌≡◌ {A = Option Verdict} (Some d) None = sym told ∙ none is in absurd cc)

-- the word of a verdict
verdict-word : (t : SwapStatus) (won : Bool) (x : ℕ) → is_verdict t (verdict_of won) ≡ true → status_word t ≡ x → IsVerdictWord won x
verdict-word Free true x h is = absurd cc
verdict-word Free false x h is = absurd cc
verdict-word Undecided true x h is = absurd cc
verdict-word Undecided false x h is = absurd cc
verdict-word (Deciding Succeeded) true x h is = inl (sym is)
verdict-word (Deciding Succeeded) false x h is = absurd cc
verdict-word (Deciding Failed) true x h is = absurd cc
verdict-word (Deciding Failed) false x h is = inl (sym is)
verdict-word (Decided Succeeded) true x h is = inr (sym is)
verdict-word (Decided Succeeded) false x h is = absurd cc
verdict-word (Decided Failed) true x h is = absurd cc
verdict-word (Decided Failed) false x h is = inr (sym is)

word-of : (swaps : ℕ) (words : List ℕ) (s : ℕ) (won : Bool) → s < swaps → is_verdict (status_at swaps words s) (verdict_of won) ≡ true → IsStatusWord (slice_index words (swap_address s))
    → IsVerdictWord won (slice_index words (swap_address s))
word-of swaps words s won below h word =
    let told : nat_lt s swaps ≡ true = grind (arith, common_steps) in
    verdict-word (status_of (slice_index words (swap_address s))) won (slice_index words (swap_address s)) (rw told at h) word

-- the swap that a worker answers is its operation
answer-kept : (e : ℕ → Entries) (m : Memory) (o : Operation) (s : ℕ) (won : Bool) → doing_operation o ≡ Swapping s → IsAnswer e m o (Swapped won) → m.answer s ≡ Some (verdict_of won)
answer-kept e m operation.Nothing s won is right = absurd cc
answer-kept e m (operation.Reading a) s won is right = absurd cc
answer-kept e m (operation.Swapping t) s true is right = (let same : t ≡ s = cc in rw same at right.0)
answer-kept e m (operation.Swapping t) s false is right = (let same : t ≡ s = cc in rw same at right.0)

swap-operation : (x : Place) (o : Operation) (s : ℕ) → doing_at x o ≡ Swapping s → doing_operation o ≡ Swapping s
swap-operation place.Idle o s is = absurd cc
swap-operation (place.Prepare step) o s is = is
swap-operation (place.Learn k) o s is = is
swap-operation (place.Help step) o s is = is
swap-operation (place.ReadWord a) o s is = is
swap-operation (place.AskRead a v) o s is = is
swap-operation (place.FenceRead a v) o s is = is
swap-operation (place.ClearRead a v) o s is = is
swap-operation (place.LoadWord a) o s is = absurd cc
swap-operation (place.StoreWord a v) o s is = absurd cc
swap-operation (place.AskLine line) o s is = absurd cc
swap-operation (place.FenceLine line) o s is = absurd cc

pub decided-seen : (p : Parts) (r : IsRunning p) (w : ℕ) (store : Store) (l : Worker) (done : Done) → MayStep p w → Acts p r.beside w store l done
    → (s : ℕ) (won : Bool) → doing_of (seen p) w ≡ Swapping s → done ≡ Swapped won → IsDecided (seen (after_step p w store l)) s won
decided-seen p r w store l done may a s won own ends =
    let old : Worker = worker_at p w in
    let after : Stepped = made p.store r.beside old w in
    let on = step-running p r w store l done may a in
    let q : Parts = after_step p w store l in
    let n : Memory = typed store on.running.beside in
    let sound = on.running.state.sound in
    let mine = swap-operation old.place old.operation s (ap (λ (u : Working). u.doing) (sym (worker-seen p w)) ∙ own) in
    let right = (acts_atomically (state_of p r.entries r.beside) (Act w) tt r.state).answer in
    let kept = answer-kept r.entries after.memory old.operation s won mine (rw (sym a.is_done ∙ ends) at right) in
    let told : n.answer s ≡ Some (verdict_of won) = ap (λ (b : Beside). b.answer s) on.beside ∙ kept in
    let published = answered-published n s (verdict_of won) (n.published s) refl (sound.unanswered s) told in
    let begun = published-begun q on.running s published in
    let number = begun-descriptor q on.running s begun in
    let durable = sound.answered s (verdict_of won) told in
    let cached = cached-verdict (n.status s) (n.durable_status s) (verdict_of won) (sound.follows s (n.durable_status s) (lasts-durable _ _) published) durable in
    record {
      begun = begun;
      number = number;
      cached = word-of store.swaps store.cached s won number cached (a.words.cached.statuses s number);
      durable = word-of store.swaps store.durable s won number durable (a.words.durable.statuses s number);
    }
