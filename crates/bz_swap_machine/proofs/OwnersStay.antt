-- A swap without an answer stays the operation of the worker that began it.
use Rattle.std.proofs.Common.{◌≡◌, ◌==◌, if◌then◌else◌, ℕ, ◌+◌, ◌*◌, ◌<◌, Bool, true, false, arith, refl, ap, sym, subst, ◌∙◌, Some, None}
use Rattle.std.proofs.lemmas.Grind.{common_steps}
use Rattle.std.specs.declared.option.Option.{Option}
use Rattle.bz_word.specs.declared.kind.WordKind.{WordKind}
use Rattle.bz_word.specs.declared.kind.WordKind.TheVariants.{Value, Dirty, Swap, Tag}
use Rattle.bz_swap_machine.specs.declared.place.Place.{Place}
use Rattle.bz_swap_machine.specs.declared.place.Place.TheVariants.{Idle, Prepare, Learn, Help, ReadWord, AskRead, FenceRead, ClearRead, LoadWord, StoreWord, AskLine, FenceLine}
use Rattle.bz_swap_machine.specs.declared.place.PrepareStep.TheVariants.{WriteWord, WriteStatus, AskHead, AskTail, FenceDescriptor}
use Rattle.bz_swap_machine.specs.declared.place.HelpStep.TheVariants.{Look}
use Rattle.bz_swap_machine.specs.declared.place.Next.{Next}
use Rattle.bz_swap_machine.specs.declared.place.Next.TheVariants.{Step, Meet, Complete}
use Rattle.bz_swap_machine.specs.declared.status.Verdict.{Verdict}
use Rattle.bz_swap_machine.specs.declared.worker.Operation.{Operation}
use Rattle.bz_swap_machine.specs.declared.worker.Operation.TheVariants.{Nothing, Reading, Swapping}
use Rattle.bz_swap_machine.specs.declared.done.Done.TheVariants.{Busy, Swapped}
use Rattle.bz_swap_machine.specs.Changes.{put, with_answer}
use Rattle.bz_swap_machine.specs.HelpActs.{help_act}
use Rattle.bz_swap_machine.specs.Keeps.{Keeps}
use Rattle.bz_swap_machine.specs.Knows.{AtPlace}
use Rattle.bz_swap_machine.specs.Machine.{Entries, Memory, entries_in}
use Rattle.bz_swap_machine.specs.Owners.{IsBusy, RestsAt, AreOwned, OwnersStay}
use Rattle.bz_swap_machine.specs.State.{State, StartRead, StartStore, StartFlush, StartSwap, Act, Evict, EvictStatus, EvictField, stepped, swapping, happens, IsState}
use Rattle.bz_swap_machine.specs.Steps.{Local, Stepped, is_own, is_success, answers, resumed, completed, after_help, read_act, act}
use Rattle.bz_swap_machine.proofs.EndsStay.{answer-help, answer-cleared}
use Rattle.bz_swap_machine.proofs.Events.{good-stepped}

-- after a worker's act it has an operation where its place says so, and keeps it unless it answers for it; no other swap is
-- answered
pub record OwnStays (old new : ℕ → Option Verdict) (l : Local) (z : Local) : Type 0 where
  pub rests : RestsAt z.place z.operation
  pub kept : (s : ℕ) → l.operation ≡ Swapping s → new s ≡ None → z.operation ≡ Swapping s
  pub others : (s : ℕ) → new s ≡ None → old s ≡ None

-- the operation goes on, and nothing is answered
goes-own : (answer : ℕ → Option Verdict) (l : Local) (z : Local) → z.operation ≡ l.operation → RestsAt z.place z.operation → OwnStays answer answer l z
goes-own answer l z same rests = record { rests = rests; kept = λ s is none. same ∙ is; others = λ s none. none }

-- an operation that is no swap ends
ends-own : (answer : ℕ → Option Verdict) (l : Local) (z : Local) → ((s : ℕ) → l.operation ≡ Swapping s → ⊥) → RestsAt z.place z.operation → OwnStays answer answer l z
ends-own answer l z none rests = record { rests = rests; kept = λ s is free. absurd (none s is); others = λ s free. free }

resumed-rests : (l : Local) (back : Option ℕ) (operation : Operation) → IsBusy operation → l.operation ≡ operation → RestsAt (resumed l back operation).place (resumed l back operation).operation
resumed-rests l (Some b) operation busy is = subst IsBusy (sym is) busy
resumed-rests l None Nothing busy is = absurd busy
resumed-rests l None (Reading a) busy is = subst IsBusy (sym is) busy
resumed-rests l None (Swapping s) busy is = subst IsBusy (sym is) busy

resumed-same : (l : Local) (back : Option ℕ) (operation : Operation) → (resumed l back operation).operation ≡ l.operation
resumed-same l (Some b) operation = refl
resumed-same l None Nothing = refl
resumed-same l None (Reading a) = refl
resumed-same l None (Swapping s) = refl

own-told : (operation : Operation) (c s : ℕ) → is_own operation c ≡ true → operation ≡ Swapping s → s ≡ c
own-told Nothing c s told is = absurd cc
own-told (Reading a) c s told is = absurd cc
own-told (Swapping t) c s told is = let same : t ≡ s = cc in grind (arith, common_steps, told, same)

put-none : (answer : ℕ → Option Verdict) (c s : ℕ) (d : Verdict) → put answer c (Some d) s ≡ None → (answer s ≡ None) × (s ≡ c → ⊥)
put-none answer c s d is = by_test (s == c) refl is
  where
    by_test : (b : Bool) → (s == c) ≡ b → (if b then Some d else answer s) ≡ None → (answer s ≡ None) × (s ≡ c → ⊥)
    by_test true told none = absurd cc
    by_test false told none = (none, λ same. absurd (grind (arith, common_steps, told, same)))

own-completes : (l : Local) (n : Memory) (d : Verdict) → IsBusy l.operation → OwnStays n.answer (completed n l d).memory.answer l (completed n l d).local
own-completes l n d busy = by_own (is_own l.operation l.current) refl
  where
    done : Bool → Stepped
    done b = if b then answers (with_answer n l.current d) l (Swapped (is_success d)) else record { memory = n; local = resumed l l.back l.operation; done = Busy }

    by_own : (b : Bool) → is_own l.operation l.current ≡ b → OwnStays n.answer (done b).memory.answer l (done b).local
    by_own true told = record {
      rests = refl;
      kept = λ s is none. absurd ((put-none n.answer l.current s d none).1 (own-told l.operation l.current s told is));
      others = λ s none. (put-none n.answer l.current s d none).0;
    }
    by_own false told = goes-own n.answer l (resumed l l.back l.operation) (resumed-same l l.back l.operation) (resumed-rests l l.back l.operation busy refl)

own-follows : (l : Local) (n : Memory) (next : Next) → IsBusy l.operation → OwnStays n.answer (after_help l n next).memory.answer l (after_help l n next).local
own-follows l n (Step step) busy = goes-own n.answer l _ refl busy
own-follows l n (Meet t) busy = goes-own n.answer l _ refl busy
own-follows l n (Complete d) busy = own-completes l n d busy

own-learns : (answer : ℕ → Option Verdict) (l : Local) (list : ℕ → ℕ) (b : Bool) (k : ℕ) → IsBusy l.operation → OwnStays answer answer l (record l { place = if b then Help Look else Learn (k + 1); list = list })
own-learns answer l list true k busy = goes-own answer l _ refl busy
own-learns answer l list false k busy = goes-own answer l _ refl busy

own-read : (m : Memory) (l : Local) (a : ℕ) (found : WordKind) → l.operation ≡ Reading a → OwnStays m.answer (read_act m l a found).memory.answer l (read_act m l a found).local
own-read m l a (Value v) is = ends-own m.answer l _ (λ s own. absurd cc) refl
own-read m l a (Dirty v) is = goes-own m.answer l _ refl (subst IsBusy (sym is) tt)
own-read m l a (Swap t) is = goes-own m.answer l _ refl (subst IsBusy (sym is) tt)
own-read m l a (Tag t i v q) is = goes-own m.answer l _ refl (subst IsBusy (sym is) tt)

own-prepares : (answer : ℕ → Option Verdict) (l : Local) (b : Bool) (k : ℕ) → IsBusy l.operation → OwnStays answer answer l (record l { place = Prepare (if b then WriteStatus else WriteWord (k + 1)) })
own-prepares answer l true k busy = goes-own answer l _ refl busy
own-prepares answer l false k busy = goes-own answer l _ refl busy

own-act : (e : ℕ → Entries) (m : Memory) (w : ℕ) (l : Local) (place : Place) → AtPlace e m w l place → RestsAt place l.operation → OwnStays m.answer (act m w l place).memory.answer l (act m w l place).local
own-act e m w l Idle at rests = goes-own m.answer l _ refl rests
own-act e m w l (Prepare (WriteWord k)) at rests = own-prepares m.answer l (k == 3 * l.list 0) k rests
own-act e m w l (Prepare WriteStatus) at rests = goes-own m.answer l _ refl rests
own-act e m w l (Prepare AskHead) at rests = goes-own m.answer l _ refl rests
own-act e m w l (Prepare AskTail) at rests = goes-own m.answer l _ refl rests
own-act e m w l (Prepare FenceDescriptor) at rests = goes-own m.answer l _ refl rests
own-act e m w l (Learn k) at rests = own-learns m.answer l (put l.list k (m.words l.current k)) (k == 3 * put l.list k (m.words l.current k) 0) k rests
own-act e m w l (Help step) at rests =
    let n : Memory = (help_act (entries_in l.list) m w l.current step).memory in
    let next : Next = (help_act (entries_in l.list) m w l.current step).next in
    subst (λ (f : ℕ → Option Verdict). OwnStays f (after_help l n next).memory.answer l (after_help l n next).local) (answer-help (entries_in l.list) m w l.current step) (own-follows l n next rests)
own-act e m w l (ReadWord a) at rests = own-read m l a (m.cached a) at
own-act e m w l (AskRead a v) at rests = goes-own m.answer l _ refl rests
own-act e m w l (FenceRead a v) at rests = goes-own m.answer l _ refl rests
own-act e m w l (ClearRead a v) at rests =
    subst (λ (f : ℕ → Option Verdict). OwnStays m.answer f l (record l { place = ReadWord a })) (sym (answer-cleared m a v (m.cached a))) (goes-own m.answer l (record l { place = ReadWord a }) refl rests)
own-act e m w l (LoadWord a) at rests = absurd at
own-act e m w l (StoreWord a v) at rests = ends-own m.answer l _ (λ s is. absurd cc) refl
own-act e m w l (AskLine line) at rests = goes-own m.answer l _ refl rests
own-act e m w l (FenceLine line) at rests = ends-own m.answer l _ (λ s is. absurd cc) refl

keeps_of : (x : State) (w : ℕ) → IsState x → Keeps x.entries x.memory (stepped x w).memory
keeps_of x w state = (good-stepped x w state).keeps

act-owned : (x : State) (w : ℕ) → IsState x → AreOwned x → OwnStays x.memory.answer (stepped x w).memory.answer (x.local w) (stepped x w).local → AreOwned (happens x (Act w))
act-owned x w state own stays = record {
  rests = λ v. rests_of v (v == w);
  owned = λ s below none. owned_of s ((stepped x w).memory.owner s == w) refl (own.owned s (subst (λ k. s < k) (keeps_of x w state).taken below) (stays.others s none)) none;
}
  where
    rests_of : (v : ℕ) (b : Bool) → RestsAt (if b then (stepped x w).local else x.local v).place (if b then (stepped x w).local else x.local v).operation
    rests_of v true = stays.rests
    rests_of v false = own.rests v

    owned_of : (s : ℕ) (b : Bool) → ((stepped x w).memory.owner s == w) ≡ b → (x.local (x.memory.owner s)).operation ≡ Swapping s → (stepped x w).memory.answer s ≡ None
        → (if b then (stepped x w).local else x.local ((stepped x w).memory.owner s)).operation ≡ Swapping s
    owned_of s false told is none = subst (λ k. (x.local k).operation ≡ Swapping s) (sym ((keeps_of x w state).owner s)) is
    owned_of s true told is none =
        let same : (stepped x w).memory.owner s ≡ w = grind (arith, common_steps, told) in
        stays.kept s (subst (λ k. (x.local k).operation ≡ Swapping s) (sym ((keeps_of x w state).owner s) ∙ same) is) none

-- a worker that rests begins something: no swap without an answer was its operation
started-owned : (x : State) (w : ℕ) (l : Local) → (x.local w).place ≡ Idle → RestsAt l.place l.operation → AreOwned x → AreOwned (record x { local = put x.local w l })
started-owned x w l idle rests own = record {
  rests = λ v. rests_of v (v == w);
  owned = λ s below none. owned_of s (x.memory.owner s == w) refl (own.owned s below none);
}
  where
    rests_of : (v : ℕ) (b : Bool) → RestsAt (if b then l else x.local v).place (if b then l else x.local v).operation
    rests_of v true = rests
    rests_of v false = own.rests v

    owned_of : (s : ℕ) (b : Bool) → (x.memory.owner s == w) ≡ b → (x.local (x.memory.owner s)).operation ≡ Swapping s → (if b then l else x.local (x.memory.owner s)).operation ≡ Swapping s
    owned_of s false told is = is
    owned_of s true told is =
        let same : x.memory.owner s ≡ w = grind (arith, common_steps, told) in
        let mine : (x.local w).operation ≡ Swapping s = subst (λ k. (x.local k).operation ≡ Swapping s) same is in
        let resting : (x.local w).operation ≡ Nothing = subst (λ (p : Place). RestsAt p (x.local w).operation) idle (own.rests w) in
        absurd cc

taken-owned : (x : State) (w : ℕ) (new : Entries) (targets : ℕ → Bool) → (x.local w).place ≡ Idle → AreOwned x → AreOwned (happens x (StartSwap w new targets))
taken-owned x w new targets idle own = record {
  rests = λ v. rests_of v (v == w);
  owned = λ s below none. owned_of s (s == x.memory.taken) refl below none;
}
  where
    rests_of : (v : ℕ) (b : Bool) → RestsAt (if b then swapping (x.local w) x.memory.taken new else x.local v).place (if b then swapping (x.local w) x.memory.taken new else x.local v).operation
    rests_of v true = tt
    rests_of v false = own.rests v

    begun : (s : ℕ) → s ≡ x.memory.taken → (b : Bool) → (w == w) ≡ b → (if b then swapping (x.local w) x.memory.taken new else x.local w).operation ≡ Swapping s
    begun s same true told = ap Swapping (sym same)
    begun s same false told = absurd (grind (arith, common_steps, told))

    older : (s : ℕ) (b : Bool) → (x.memory.owner s == w) ≡ b → (x.local (x.memory.owner s)).operation ≡ Swapping s → (if b then swapping (x.local w) x.memory.taken new else x.local (x.memory.owner s)).operation ≡ Swapping s
    older s false told is = is
    older s true told is =
        let same : x.memory.owner s ≡ w = grind (arith, common_steps, told) in
        let mine : (x.local w).operation ≡ Swapping s = subst (λ k. (x.local k).operation ≡ Swapping s) same is in
        let resting : (x.local w).operation ≡ Nothing = subst (λ (p : Place). RestsAt p (x.local w).operation) idle (own.rests w) in
        absurd cc

    owned_of : (s : ℕ) (b : Bool) → (s == x.memory.taken) ≡ b → s < x.memory.taken + 1 → x.memory.answer s ≡ None
        → (put x.local w (swapping (x.local w) x.memory.taken new) (if b then w else x.memory.owner s)).operation ≡ Swapping s
    owned_of s true told below none = begun s (grind (arith, common_steps, told)) (w == w) refl
    owned_of s false told below none =
        let other : (s ≡ x.memory.taken) → ⊥ = λ same. absurd (grind (arith, common_steps, told, same)) in
        older s (x.memory.owner s == w) refl (own.owned s (omega (arith, below, other)) none)

pub owners_stay : OwnersStay
owners_stay x (StartRead w b) may state own = started-owned x w _ may tt own
owners_stay x (StartStore w b u) may state own = started-owned x w _ may.0 (subst (λ (p : Place). RestsAt p (x.local w).operation) may.0 (own.rests w)) own
owners_stay x (StartFlush w line) may state own = started-owned x w _ may (subst (λ (p : Place). RestsAt p (x.local w).operation) may (own.rests w)) own
owners_stay x (StartSwap w new targets) may state own = taken-owned x w new targets may.0 own
owners_stay x (Act w) may state own = act-owned x w state own (own-act x.entries x.memory w (x.local w) (x.local w).place (state.knows w).place (own.rests w))
owners_stay x (Evict b) may state own = assumption own
owners_stay x (EvictStatus t) may state own = assumption own
owners_stay x (EvictField t k) may state own = assumption own
