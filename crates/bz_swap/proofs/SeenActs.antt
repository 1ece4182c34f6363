-- The one act of a step, as callers see it.
use Rattle.std.specs.Prelude.{◌≡◌, ◌≢◌, ℕ, ◌^◌, ◌<◌, false, List, length, slice_index, slice_set}
use Rattle.std.proofs.Common.{arith, refl, ap, sym, subst, ◌∙◌, inl, inr}
use Rattle.std.proofs.lemmas.List.{length-map, length-set}
use Rattle.bz_word.specs.Kinds.{kind, word, IsWord}
use Rattle.bz_word.proofs.Lemmas.KindWords.{word-kind}
use Rattle.bz_word.specs.declared.kind.WordKind.{WordKind}
use Rattle.bz_word.specs.declared.kind.WordKind.TheVariants.{Value, Dirty, Swap, Tag}
use Rattle.bz_swap_machine.specs.declared.place.Place.{Place}
use Rattle.bz_swap_machine.specs.declared.place.Place.TheVariants as place
use Rattle.bz_swap_machine.specs.declared.worker.Operation.{Operation}
use Rattle.bz_swap_machine.specs.declared.worker.Operation.TheVariants as operation
use Rattle.bz_swap_machine.specs.declared.worker.Worker.{Worker}
use Rattle.bz_swap_machine.specs.declared.done.Done.{Done}
use Rattle.bz_swap_machine.specs.declared.done.Done.TheVariants.{Busy, Read, Stored, Flushed}
use Rattle.bz_swap_machine.specs.Knows.{AtPlace}
use Rattle.bz_swap_machine.specs.Machine.{Memory}
use Rattle.bz_swap_machine.specs.State.{Act as Acting}
use Rattle.bz_swap_machine.specs.Steps.{Local, Stepped, act, read_act}
use Rattle.bz_swap_machine.specs.Workers.{local_of}
use Rattle.bz_swap_machine.proofs.EventLaws.{acts_atomically}
use Rattle.bz_swap_cells.specs.Store.{Store, IsOutside, kind_at, typed, store_state, Beside}
use Rattle.bz_swap_acts.specs.Made.{made}
use Rattle.bz_swap_acts.specs.Rule.{IsActOf, IsToldAt}
use Rattle.bz_swap_acts.specs.declared.acted.Act.{Act}
use Rattle.bz_swap_acts.specs.declared.acted.Act.TheVariants.{Load}
use Rattle.bz_swap.specs.declared.phase.Phase.TheVariants.{Recovering}
use Rattle.bz_swap.specs.Steps.{IsAnswer, IsStep, doing_after}
use Rattle.bz_swap.specs.SwapMemory.{SwapMemory, Storing, Working, worker_of}
use Rattle.bz_swap.specs.Inside.Parts.{Parts, worker_at, listed, entry_list, seen, working, doing_at, doing_operation}
use Rattle.bz_swap.specs.Inside.Kept.{IsRunning, PlaceLies, state_of}
use Rattle.bz_swap.proofs.Alone.{left-running, left-spent}
use Rattle.bz_swap.proofs.Frames.{frame-act}
use Rattle.bz_swap.proofs.Going.{IsGoing, ReadsAt, Leads, leads-act}
use Rattle.bz_swap.proofs.Doings.{worker-seen, doing-going, done-idle, fences-next}
use Rattle.bz_swap.proofs.HeldWords.{plain-raw, outside_told}
use Rattle.bz_swap.proofs.SeenAnswers.{answer-shown}
use Rattle.bz_swap.proofs.SeenSteps.{after-shows, step-effect, told-path, told_effect}
use Rattle.bz_swap.proofs.SeenVerdicts.{decided-seen}
use Rattle.bz_swap.proofs.SeenWrites.{writes-seen}
use Rattle.bz_swap.proofs.Insides.{may-act, inside-step}
use Rattle.bz_swap.proofs.Shown.{shows, begun-running, misses-shown}
use Rattle.bz_swap.proofs.Untouched.{kept-act}
use Rattle.bz_swap.proofs.Stepped.{IsMadeAct, Acts, MayStep, after_step, same-worker, other-worker}
use Rattle.bz_swap.proofs.StepRuns.{step-running}
use Rattle.bz_swap.proofs.StepsLeft.{step-left}
use Rattle.bz_swap.proofs.StepLies.{busy-going}

-- where a worker's act leads
pub leads-made : (p : Parts) (r : IsRunning p) (w : ℕ) → MayStep p w → Leads (local_of (worker_at p w)) (worker_at p w).place (made p.store r.beside (worker_at p w) w)
leads-made p r w may =
    leads-act (typed p.store r.beside) w (local_of (worker_at p w)) (worker_at p w).place may.busy (λ g. busy-going (worker_at p w).place (worker_at p w).operation g (r.workers w).rests)

-- what a worker does after its act
doing-made : (p : Parts) (r : IsRunning p) (w : ℕ) (store : Store) (l : Worker) (done : Done) → Acts p r.beside w store l done
    → Leads (local_of (worker_at p w)) (worker_at p w).place (made p.store r.beside (worker_at p w) w)
    → doing_at l.place l.operation ≡ doing_after (doing_at (worker_at p w).place (worker_at p w).operation) done
doing-made p r w store l done a (inl goes) =
    let going : IsGoing l.place = rw (ap (λ (x : Local). x.place) a.local) goes.place in
    let same : l.operation ≡ (worker_at p w).operation = ap (λ (x : Local). x.operation) a.local ∙ goes.operation in
    let busy : done ≡ Busy = a.is_done ∙ goes.busy in
    rw busy (doing-going l.place l.operation going ∙ ap doing_operation same ∙ sym (doing-going (worker_at p w).place (worker_at p w).operation goes.from))
doing-made p r w store l done a (inr (inl ended)) =
    let idle : l.place ≡ place.Idle = ap (λ (x : Local). x.place) a.local ∙ ended.place in
    ap (λ x. doing_at x l.operation) idle ∙ sym (done-idle (doing_at (worker_at p w).place (worker_at p w).operation) done (λ is. ended.done (sym a.is_done ∙ is)))
doing-made p r w store l done a (inr (inr between)) =
    let next : l.place ≡ place.FenceLine between.line = ap (λ (x : Local). x.place) a.local ∙ between.place in
    let busy : done ≡ Busy = a.is_done ∙ between.busy in
    rw busy (ap (λ x. doing_at x l.operation) next ∙ sym (ap (λ x. doing_at x (worker_at p w).operation) between.from))

-- nobody comes to the ask of a flush by an act
no-ask : (p : Parts) (w : ℕ) (store : Store) (l : Worker) (done : Done) (b : Beside) → Acts p b w store l done → Leads (local_of (worker_at p w)) (worker_at p w).place (made p.store b (worker_at p w) w) → (k : ℕ) → l.place ≢ place.AskLine k
no-ask p w store l done b a (inl goes) k is = (let going : IsGoing (place.AskLine k) = subst IsGoing (sym (ap (λ (x : Local). x.place) a.local) ∙ is) goes.place in going)
no-ask p w store l done b a (inr (inl ended)) k is = (let bad : place.Idle ≡ place.AskLine k = sym (ap (λ (x : Local). x.place) a.local ∙ ended.place) ∙ is in absurd cc)
no-ask p w store l done b a (inr (inr between)) k is = (let bad : place.FenceLine between.line ≡ place.AskLine k = sym (ap (λ (x : Local). x.place) a.local ∙ between.place) ∙ is in absurd cc)

read-found : (m : Memory) (l : Local) (a v : ℕ) (found : WordKind) → (read_act m l a found).done ≡ Read v → found ≡ Value v
read-found m l a v (Value u) is = cc
read-found m l a v (Dirty u) is = absurd cc
read-found m l a v (Swap t) is = absurd cc
read-found m l a v (Tag t i w q) is = absurd cc

-- a read answers at a load of its address that found the plain word
read-load : (p : Parts) (r : IsRunning p) (w : ℕ) (store : Store) (told : Act) (x : Place) (a v : ℕ) → ReadsAt x → AtPlace r.entries (typed p.store r.beside) w (local_of (worker_at p w)) x
    → PlaceLies p.store x → IsToldAt x told → IsActOf (store_state p.store) w told (store_state store) → (act (typed p.store r.beside) w (local_of (worker_at p w)) x).done ≡ Read v
    → (worker_at p w).operation ≡ operation.Reading a → (told ≡ Load a v) × (v < 2 ^ 61)
read-load p r w store told place.Idle a v reads at lies is rule done o = absurd reads
read-load p r w store told (place.Prepare step) a v reads at lies is rule done o = absurd reads
read-load p r w store told (place.Learn k) a v reads at lies is rule done o = absurd reads
read-load p r w store told (place.Help step) a v reads at lies is rule done o = absurd reads
read-load p r w store told (place.ReadWord b) a v reads at lies is rule done o =
    let here : b ≡ a = (let same = sym at ∙ o in cc) in
    let found : (typed p.store r.beside).cached b ≡ Value v = read-found (typed p.store r.beside) (local_of (worker_at p w)) b v _ done in
    let plain = plain-raw p.store.swaps p.store.cached b lies.outside (r.words.cached.kinds b lies.outside) (Value v) found tt in
    let raw : v ≡ slice_index p.store.cached b = (let same = plain.1 in cc) in
    let loaded : is.0 ≡ slice_index p.store.cached b = (rw is.1 at rule).found in
    (is.1 ∙ (λ k. Load (here k) ((loaded ∙ sym raw) k)), omega (arith, raw, plain.0))
read-load p r w store told (place.AskRead b u) a v reads at lies is rule done o = absurd reads
read-load p r w store told (place.FenceRead b u) a v reads at lies is rule done o = absurd reads
read-load p r w store told (place.ClearRead b u) a v reads at lies is rule done o = absurd reads
read-load p r w store told (place.LoadWord b) a v reads at lies is rule done o = absurd at
read-load p r w store told (place.StoreWord b u) a v reads at lies is rule done o = absurd reads
read-load p r w store told (place.AskLine line) a v reads at lies is rule done o = absurd reads
read-load p r w store told (place.FenceLine line) a v reads at lies is rule done o = absurd reads

-- the answer of an act at a place on the way
answer-going : (p : Parts) (r : IsRunning p) (w : ℕ) (store : Store) (l : Worker) (done : Done) (told : Act) → MayStep p w → p.phase ≢ Recovering → Acts p r.beside w store l done → IsMadeAct p w store told
    → Leads (local_of (worker_at p w)) (worker_at p w).place (made p.store r.beside (worker_at p w) w) → IsGoing (worker_at p w).place
    → IsAnswer (seen (after_step p w store l)) (doing_operation (worker_at p w).operation) told done
answer-going p r w store l done told may phase a made_act leads going =
    let after : Stepped = made p.store r.beside (worker_at p w) w in
    let right = (acts_atomically (state_of p r.entries r.beside) (Acting w) tt r.state).answer in
    answer-shown (seen (after_step p w store l)) r.entries after.memory (worker_at p w).operation told done (after-shows p r w store l done may phase a)
    (busy-going (worker_at p w).place (worker_at p w).operation going (r.workers w).rests) (rw a.is_done right)
    (λ is. not_stored leads (sym a.is_done ∙ is)) (λ is. not_flushed leads (sym a.is_done ∙ is))
    (λ b v o is. read-load p r w store told (worker_at p w).place b v (reads leads v (sym a.is_done ∙ is)) (r.state.knows w).place (r.workers w).place made_act.is_told made_act.rule (sym a.is_done ∙ is) o)
  where
    not_stored : Leads (local_of (worker_at p w)) (worker_at p w).place (made p.store r.beside (worker_at p w) w) → (made p.store r.beside (worker_at p w) w).done ≡ Stored → ⊥
    not_stored (inl goes) is = (let bad : Busy ≡ Stored = sym goes.busy ∙ is in absurd cc)
    not_stored (inr (inl ended)) is = (ended.told going).0 is
    not_stored (inr (inr between)) is = (let bad : Busy ≡ Stored = sym between.busy ∙ is in absurd cc)

    not_flushed : Leads (local_of (worker_at p w)) (worker_at p w).place (made p.store r.beside (worker_at p w) w) → (made p.store r.beside (worker_at p w) w).done ≡ Flushed → ⊥
    not_flushed (inl goes) is = (let bad : Busy ≡ Flushed = sym goes.busy ∙ is in absurd cc)
    not_flushed (inr (inl ended)) is = (ended.told going).1 is
    not_flushed (inr (inr between)) is = (let bad : Busy ≡ Flushed = sym between.busy ∙ is in absurd cc)

    reads : Leads (local_of (worker_at p w)) (worker_at p w).place (made p.store r.beside (worker_at p w) w) → (v : ℕ) → (made p.store r.beside (worker_at p w) w).done ≡ Read v → ReadsAt (worker_at p w).place
    reads (inl goes) v is = (let bad : Busy ≡ Read v = sym goes.busy ∙ is in absurd cc)
    reads (inr (inl ended)) v is = ended.read v is
    reads (inr (inr between)) v is = (let bad : Busy ≡ Read v = sym between.busy ∙ is in absurd cc)

-- the answer at any place
answer-at : (p : Parts) (r : IsRunning p) (w : ℕ) (n : SwapMemory) (done : Done) (told : Act) (x : Place) → n.phase ≢ Recovering → AtPlace r.entries (typed p.store r.beside) w (local_of (worker_at p w)) x
    → x ≢ place.Idle → (IsGoing x → IsAnswer n (doing_operation (worker_at p w).operation) told done) → IsToldAt x told → done ≡ (act (typed p.store r.beside) w (local_of (worker_at p w)) x).done
    → IsAnswer n (doing_at x (worker_at p w).operation) told done
answer-at p r w n done told place.Idle works at some going is d = absurd (some refl)
answer-at p r w n done told (place.Prepare step) works at some going is d = going tt
answer-at p r w n done told (place.Learn k) works at some going is d = going tt
answer-at p r w n done told (place.Help step) works at some going is d = going tt
answer-at p r w n done told (place.ReadWord a) works at some going is d = going tt
answer-at p r w n done told (place.AskRead a v) works at some going is d = going tt
answer-at p r w n done told (place.FenceRead a v) works at some going is d = going tt
answer-at p r w n done told (place.ClearRead a v) works at some going is d = going tt
answer-at p r w n done told (place.LoadWord a) works at some going is d = absurd at
answer-at p r w n done told (place.StoreWord a v) works at some going is d = rw d is
answer-at p r w n done told (place.AskLine line) works at some going is d = rw d is
answer-at p r w n done told (place.FenceLine line) works at some going is d = rw d is

-- the word of an address that nothing names stays, but for a private store at it
not-storing : (x : Place) (o : Operation) (a : ℕ) → ((v : ℕ) → doing_at x o ≢ Storing a v) → (v : ℕ) → x ≢ place.StoreWord a v
not-storing x o a not v is = not v (rw is refl)

raw-same : (swaps swaps' : ℕ) (words words' : List ℕ) (a : ℕ) → swaps' ≡ swaps → IsOutside swaps a → IsWord (slice_index words a) → IsWord (slice_index words' a) → kind_at swaps' words' a ≡ kind_at swaps words a
    → slice_index words' a ≡ slice_index words a
raw-same swaps swaps' words words' a same out is_word is_word' kinds =
    let told = outside_told swaps a out in
    let kinds_alike : kind (slice_index words' a) ≡ kind (slice_index words a) = rw (same, told) at kinds in
    sym (word-kind (slice_index words' a) is_word') ∙ ap word kinds_alike ∙ word-kind (slice_index words a) is_word

-- as many workers are seen
pub counted : (p : Parts) (w : ℕ) (store : Store) (l : Worker) → length (seen (after_step p w store l)).workers ≡ length (seen p).workers
counted p w store l = length-map (slice_set p.workers w l) working ∙ length-set p.workers w l ∙ sym (length-map p.workers working)

pub step-seen : (p : Parts) (r : IsRunning p) (w : ℕ) (store : Store) (l : Worker) (done : Done) (told : Act) → MayStep p w → p.phase ≢ Recovering → Acts p r.beside w store l done → IsMadeAct p w store told
    → IsStep (seen p) w told done (told_effect p.store store (worker_at p w).current) (seen (after_step p w store l))
step-seen p r w store l done told may phase a made_act =
    let q : Parts = after_step p w store l in
    let old : Worker = worker_at p w in
    let after : Stepped = made p.store r.beside old w in
    let leads = leads-made p r w may in
    let f = frame-act (typed p.store r.beside) w (local_of old) old.place in
    let on = step-running p r w store l done may a in
    let taken : store.taken ≡ p.store.taken = ap (λ (m : Memory). m.taken) a.memory ∙ f.taken in
    let was : worker_of (seen p) w ≡ working old = worker-seen p w in
    let is : worker_of (seen q) w ≡ working l = worker-seen q w ∙ ap working (same-worker p w store l may.within) in
    let answer = answer-at p r w (seen q) done told old.place phase (r.state.knows w).place may.busy (answer-going p r w store l done told may phase a made_act leads) made_act.is_told a.is_done in
    let atomic = acts_atomically (state_of p r.entries r.beside) (Acting w) tt r.state in
    record {
      one = record {
        may = may-act p r w may;
        act = made_act.rule;
        within = made_act.within;
        flush = made_act.flush ∙ ap (λ (u : Working). u.flush_next) (sym was);
        doing = ap (λ (u : Working). u.doing) is ∙ doing-made p r w store l done a leads ∙ ap (λ (u : Working). doing_after u.doing done) (sym was);
        steps = refl;
        others = record {
          size = a.shape.size;
          count = counted p w store l;
          swaps = a.shape.swaps;
          phase = refl;
          begun = begun-running q on.running p.phase phase ∙ ap (λ e. listed (λ s. entry_list (e s)) 0 store.taken) on.entries ∙ ap (listed (λ s. entry_list (r.entries s)) 0) taken ∙ sym (begun-running p r p.phase phase);
          taken = taken;
          workers = λ v ne. worker-seen q v ∙ ap working (other-worker p w v store l ne) ∙ sym (worker-seen p v);
        };
        answer = subst (λ d. IsAnswer (seen q) d told done) (ap (λ (u : Working). u.doing) (sym was)) answer;
        fences = λ line flushing. ap (λ (u : Working). u.flush_next) is ∙ fences-next l.place l.operation line (no-ask p w store l done r.beside a leads) (ap (λ (u : Working). u.doing) (sym is) ∙ flushing);
        spent = left-spent p w store l (left-running p r may.allowed w) (step-left (state_of p r.entries r.beside) p.allowance w (length p.workers) r.bounded r.enough may.allowed may.within may.busy);
      };
      effect = step-effect p r w store l done may phase a;
      misses = misses-shown (seen p) (seen q) r.entries (typed p.store r.beside) after.memory (shows p r phase) (after-shows p r w store l done may phase a) (λ s past. (r.state.sound.not_begun s past).0) atomic.misses;
      untouched = λ c out private not_stored.
          (let unnamed : r.beside.named c ≡ false = sym ((shows p r phase).named c) ∙ private in
          let elsewhere = not-storing old.place old.operation c (λ v is_at. not_stored v (ap (λ (u : Working). u.doing) was ∙ is_at)) in
          let kept = kept-act r.entries (typed p.store r.beside) w (local_of old) old.place r.state.sound (r.state.knows w).place c unnamed elsewhere in
          raw-same p.store.swaps store.swaps p.store.cached store.cached c a.shape.swaps out (r.words.cached.kinds c out) (a.words.cached.kinds c (rw a.shape.swaps out))
          (ap (λ (m : Memory). m.cached c) a.memory ∙ kept));
      later = elim atomic.ends [
        | inl busy ↦ inl (a.is_done ∙ busy)
        | inr none ↦ inr (told-path p r w store l done a ∙ none)
      ];
      inside = λ s is. inside-step p r w store l done told may a made_act s is;
      writes = writes-seen p r w told phase made_act.writes;
      decided = λ s won own ends. decided-seen p r w store l done may a s won own ends;
    }
