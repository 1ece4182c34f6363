-- What every memory of the tests keeps: its sizes, that no worker is about to store, and which addresses are named.
use Rattle.std.specs.Prelude.{◌≡◌, ◌≢◌, ℕ, ◌+◌, ◌^◌, ◌<◌, ◌≤◌, ◌||◌, Bool, true, false, List, [], ◌∷◌, ◌++◌, length, replicate, take, get_or, slice_index, slice_set, Option, ◌==◌}
use Rattle.std.proofs.Common.{arith, refl, ap, sym, subst, ◌∙◌, inl, inr, zero, suc}
use Rattle.std.proofs.lemmas.Bool.{cases_eq, cases_lt}
use Rattle.std.proofs.lemmas.List.{get_or_past, get_or-set_same, get_or-set_other, length-set, length-replicate, take_more}
use Rattle.bz_word.specs.declared.entry.Entry.{Entry}
use Rattle.bz_layout.specs.Addresses.{swap_address}
use Rattle.bz_swap_acts.specs.declared.acted.Act.{Act}
use Rattle.bz_swap_machine.specs.declared.done.Done.{Done}
use Rattle.bz_swap_machine.specs.declared.done.Done.TheVariants.{Busy, Read, Swapped, Stored, Flushed}
use Rattle.bz_swap.specs.declared.phase.Phase.{Phase}
use Rattle.bz_swap.specs.declared.phase.Phase.TheVariants.{Opened, Running, Recovering}
use Rattle.bz_swap.specs.SwapMemory.{SwapMemory, Doing, Idle, Swapping, Storing, Flushing, Working, idle, worker_of, doing_of, is_target, is_among, is_named, is_settled_at}
use Rattle.bz_swap.specs.Starts.{MayFlush, MayStore, started, swapping, phase_of}
use Rattle.bz_swap.specs.Steps.{IsOneAct, IsAnswer, StepsIn, doing_after}
use Rattle.bz_swap.specs.Evictions.{IsEviction}
use Rattle.bz_swap.specs.Power.{IsOpened, MayRenew, after_cut, renewed}
use Rattle.bz_swap.proofs.Proved.{sizes_stay, settled_words_stay}
use Rattle.bz_swap.proofs.Fresh.{all-same}
use Rattle.bz_test_layers.specs.Settled.{AreSettled}
use Rattle.bz_swap_cells.specs.Store.{IsOutside}

-- no worker is about to store
abbrev pub IsCalm : SwapMemory → Type 0
IsCalm m = (u a v : ℕ) → doing_of m u ≢ Storing a v

-- the marks are at the addresses that swaps begun name
abbrev pub AreMarks : SwapMemory → List Bool → Type 0
AreMarks m marks = (a : ℕ) → get_or marks a false ≡ is_named m a

-- so many words, descriptors and workers, and marks for what is named
pub record IsSized (m : SwapMemory) (words descriptors workers : ℕ) (marks : List Bool) : Type 0 where
  pub cached : length m.cached ≡ words
  pub durable : length m.durable ≡ words
  pub count : length m.workers ≡ workers
  pub swaps : m.swaps ≡ descriptors
  pub some : 0 < workers
  pub room : swap_address descriptors ≤ words
  pub size : length marks ≡ words
  pub marked : AreMarks m marks

pub record IsTestWorld (m : SwapMemory) (words descriptors workers : ℕ) (marks stored : List Bool) : Type 0 where
  pub sized : IsSized m words descriptors workers marks
  pub calm : IsCalm m
  pub noted : length stored ≡ words
  pub settled : AreSettled m stored

-- the same as a test world's invariant spells it
abbrev pub Spelled : SwapMemory → ℕ → ℕ → ℕ → List Bool → List Bool → Type 0
Spelled m words descriptors workers marks stored = (descriptors ≤ 2 ^ 16) × (workers ≤ 65) × (0 < workers) × (swap_address descriptors ≤ words) × (length m.cached ≡ words) × (length m.durable ≡ words) × (length m.workers ≡ workers) × (m.swaps ≡ descriptors) × (length marks ≡ words) × AreMarks m marks × IsCalm m × (length stored ≡ words) × AreSettled m stored

pub read : (m : SwapMemory) (words descriptors workers : ℕ) (marks stored : List Bool) → Spelled m words descriptors workers marks stored → IsTestWorld m words descriptors workers marks stored
read m words descriptors workers marks stored (numbered, few, some, room, cached, durable, count, same, size, marked, calm, noted, settled) =
    record { sized = record { cached = cached; durable = durable; count = count; swaps = same; some = some; room = room; size = size; marked = marked }; calm = calm; noted = noted; settled = settled }

pub spell : (m : SwapMemory) (words descriptors workers : ℕ) (marks stored : List Bool) → descriptors ≤ 2 ^ 16 → workers ≤ 65 → IsTestWorld m words descriptors workers marks stored → Spelled m words descriptors workers marks stored
spell m words descriptors workers marks stored numbered few t = (numbered, few, t.sized.some, t.sized.room, t.sized.cached, t.sized.durable, t.sized.count, t.sized.swaps, t.sized.size, t.sized.marked, t.calm, t.noted, t.settled)

-- calm

busy-calm : (d : Doing) (a v : ℕ) → d ≡ Idle → d ≢ Storing a v
busy-calm d a v is stores = absurd cc

after-calm : (d : Doing) (done : Done) → ((a v : ℕ) → d ≢ Storing a v) → (a v : ℕ) → doing_after d done ≢ Storing a v
after-calm d Busy calm a v is = calm a v is
after-calm d (Read x) calm a v is = busy-calm _ a v refl is
after-calm d (Swapped b) calm a v is = busy-calm _ a v refl is
after-calm d Stored calm a v is = busy-calm _ a v refl is
after-calm d Flushed calm a v is = busy-calm _ a v refl is

-- the doing of one worker changes, to one that is no store
changed-calm : (old new : SwapMemory) (w : ℕ) → ((u : ℕ) → u ≢ w → (a v : ℕ) → doing_of old u ≢ Storing a v) → ((u : ℕ) → u ≢ w → worker_of new u ≡ worker_of old u) → ((a v : ℕ) → doing_of new w ≢ Storing a v) → IsCalm new
changed-calm old new w calm others here u a v is = elim (cases_eq u w) [
  | inl same ↦ here a v (ap (doing_of new) (sym same) ∙ is)
  | inr other ↦ calm u other a v (sym (ap (λ l. l.doing) (others u other)) ∙ is)
]

-- starts

here-calm : (m : SwapMemory) (w : ℕ) (l : Working) → w < length m.workers → ((a v : ℕ) → l.doing ≢ Storing a v) → (a v : ℕ) → (get_or (slice_set m.workers w l) w idle).doing ≢ Storing a v
here-calm m w l within calm a v is = calm a v (sym (ap (λ x. x.doing) (get_or-set_same m.workers w l idle within)) ∙ is)

-- a start changes one worker and the phase
started-sized : (m : SwapMemory) (words descriptors workers : ℕ) (marks : List Bool) (w : ℕ) (doing : Doing) → IsSized m words descriptors workers marks → IsSized (started m w doing) words descriptors workers marks
started-sized m words descriptors workers marks w doing t = record {
  cached = t.cached;
  durable = t.durable;
  count = length-set m.workers w _ ∙ t.count;
  swaps = t.swaps;
  some = t.some;
  room = t.room;
  size = t.size;
  marked = t.marked;
}

-- a worker that starts outside a recovery time was in none
works-before : (m : SwapMemory) (w : ℕ) → (0 < w → m.phase ≢ Recovering) → phase_of w ≢ Recovering → m.phase ≢ Recovering
works-before m zero works ne = absurd (ne refl)
works-before m (suc w) works ne = works (omega arith)

-- something other than a store is started
pub started-world : (m : SwapMemory) (words descriptors workers : ℕ) (marks stored : List Bool) (w : ℕ) (doing : Doing) → w < length m.workers → (0 < w → m.phase ≢ Recovering) → ((a v : ℕ) → doing ≢ Storing a v)
    → IsTestWorld m words descriptors workers marks stored → IsTestWorld (started m w doing) words descriptors workers marks stored
started-world m words descriptors workers marks stored w doing within works other t = record {
  noted = t.noted;
  settled = λ a out ne private fresh. t.settled a out (works-before m w works ne) private fresh;
  sized = started-sized m words descriptors workers marks w doing t.sized;
  calm = changed-calm m (started m w doing) w (λ u ne. t.calm u) (λ u ne. get_or-set_other m.workers w u _ idle ne) (here-calm m w _ within other);
}

pub flushes-calm : (line a v : ℕ) → Flushing line ≢ Storing a v
flushes-calm line a v is = absurd cc

swaps-calm : (s a v : ℕ) → Swapping s ≢ Storing a v
swaps-calm s a v is = absurd cc

or-assoc : (a b c : Bool) → ((a || b) || c) ≡ (a || (b || c))
or-assoc true b c = refl
or-assoc false b c = refl

or-false : (a : Bool) → (a || false) ≡ a
or-false true = refl
or-false false = refl

-- what swaps name with one more
among-last : (begun : List (List Entry)) (entries : List Entry) (a : ℕ) → is_among (begun ++ entries ∷ []) a ≡ (is_among begun a || is_target entries a)
among-last [] entries a = or-false (is_target entries a)
among-last (x ∷ begun) entries a = ap (λ b. is_target x a || b) (among-last begun entries a) ∙ sym (or-assoc (is_target x a) (is_among begun a) (is_target entries a))

-- marks with those of the targets of these entries
pub record AreMarked (old : List Bool) (entries : List Entry) (new : List Bool) : Type 0 where
  pub size : length new ≡ length old
  pub each : (a : ℕ) → get_or new a false ≡ (get_or old a false || is_target entries a)

left-false : (a b : Bool) → (a || b) ≡ false → a ≡ false
left-false true b is = is
left-false false b is = refl

pub begun-world : (m : SwapMemory) (words descriptors workers : ℕ) (marks new stored : List Bool) (w : ℕ) (entries : List Entry) → w < length m.workers → (0 < w → m.phase ≢ Recovering) → AreMarked marks entries new
    → IsTestWorld m words descriptors workers marks stored → IsTestWorld (swapping m w entries) words descriptors workers new stored
begun-world m words descriptors workers marks new stored w entries within works marked t = record {
  noted = t.noted;
  settled = λ a out ne private fresh. t.settled a out (works-before m w works ne) (left-false (is_named m a) (is_target entries a) (sym (among-last m.begun entries a) ∙ private)) fresh;
  sized = record {
    cached = t.sized.cached;
    durable = t.sized.durable;
    count = length-set m.workers w _ ∙ t.sized.count;
    swaps = t.sized.swaps;
    some = t.sized.some;
    room = t.sized.room;
    size = marked.size ∙ t.sized.size;
    marked = λ a. marked.each a ∙ ap (λ b. b || is_target entries a) (t.sized.marked a) ∙ sym (among-last m.begun entries a);
  };
  calm = changed-calm m (swapping m w entries) w (λ u ne. t.calm u) (λ u ne. get_or-set_other m.workers w u _ idle ne) (here-calm m w _ within (swaps-calm m.taken));
}

-- the mark of one more entry
is_target-append : (xs ys : List Entry) (a : ℕ) → is_target (xs ++ ys) a ≡ (is_target xs a || is_target ys a)
is_target-append [] ys a = refl
is_target-append (x ∷ xs) ys a = ap (λ b. (x.target == a) || b) (is_target-append xs ys a) ∙ sym (or-assoc (x.target == a) (is_target xs a) (is_target ys a))

same-target : (n : ℕ) → (n == n) ≡ true
same-target n = grind arith

other-target : (n a : ℕ) → a ≢ n → (n == a) ≡ false
other-target n a ne = grind arith

or-true : (b : Bool) → (b || true) ≡ true
or-true true = refl
or-true false = refl

-- with a mark at n
set-mark : (marks : List Bool) (n a : ℕ) → n < length marks → get_or (slice_set marks n true) a false ≡ (get_or marks a false || (n == a))
set-mark marks n a within = elim (cases_eq a n) [
  | inl same ↦ rw same (get_or-set_same marks n true false within ∙ sym (ap (λ b. get_or marks n false || b) (same-target n) ∙ or-true (get_or marks n false)))
  | inr other ↦ get_or-set_other marks n a true false other ∙ sym (ap (λ b. get_or marks a false || b) (other-target n a other) ∙ or-false (get_or marks a false))
]

pub marked-more : (old marks : List Bool) (entries : List Entry) (i : ℕ) (d : Entry) → i < length entries → (get_or entries i d).target < length old
    → AreMarked old (take i entries) marks → AreMarked old (take (i + 1) entries) (slice_set marks (get_or entries i d).target true)
marked-more old marks entries i d below within so = rw (take_more entries i d below) (record {
  size = length-set marks _ true ∙ so.size;
  each = λ a.
      let e = get_or entries i d in
      set-mark marks e.target a (rw so.size within) ∙ ap (λ b. b || (e.target == a)) (so.each a) ∙ or-assoc (get_or old a false) (is_target (take i entries) a) (e.target == a)
      ∙ ap (λ b. get_or old a false || b) (ap (λ b. is_target (take i entries) a || b) (sym (or-false (e.target == a))) ∙ sym (is_target-append (take i entries) (e ∷ []) a));
})

-- steps and evictions

one-sized : (old new : SwapMemory) (words descriptors workers : ℕ) (marks : List Bool) (w : ℕ) (act : Act) (done : Done) → IsOneAct old w act done new
    → IsSized old words descriptors workers marks → IsSized new words descriptors workers marks
one-sized old new words descriptors workers marks w act done one t = record {
  cached = one.others.size ∙ t.cached;
  durable = sym (sizes_stay.step old new w act done one one.may.state.memory).same ∙ one.others.size ∙ t.cached;
  count = one.others.count ∙ t.count;
  swaps = one.others.swaps ∙ t.swaps;
  some = t.some;
  room = t.room;
  size = t.size;
  marked = λ a. t.marked a ∙ ap (λ begun. is_among begun a) (sym one.others.begun);
}

one-act : (p : Phase) (old new : SwapMemory) (w : ℕ) (act : Act) (done : Done) (told : Option ℕ) → StepsIn p old w act done told new → IsOneAct old w act done new
one-act Opened old new w act done told s = s.one
one-act Running old new w act done told s = s.one
one-act Recovering old new w act done told s = s.one

-- a step leaves a settled word so, unless it is a store at it
step-settles : (p : Phase) (old new : SwapMemory) (w : ℕ) (act : Act) (done : Done) (told : Option ℕ) (a : ℕ) → StepsIn p old w act done told new → p ≢ Recovering → IsOutside old.swaps a → is_named old a ≡ false
    → ((v : ℕ) → doing_of old w ≢ Storing a v) → is_settled_at old a ≡ true → is_settled_at new a ≡ true
step-settles Opened old new w act done told a s ne out private not settled = settled_words_stay.step old new w act done told a s (s.untouched a out private not) settled
step-settles Running old new w act done told a s ne out private not settled = settled_words_stay.step old new w act done told a s (s.untouched a out private not) settled
step-settles Recovering old new w act done told a s ne out private not settled = absurd (ne refl)

-- a step of a worker that stores nothing, or into a word that is noted
pub stepped-world : (old new : SwapMemory) (words descriptors workers : ℕ) (marks stored : List Bool) (w : ℕ) (act : Act) (done : Done) (told : Option ℕ) → StepsIn old.phase old w act done told new
    → ((a v : ℕ) → doing_of old w ≡ Storing a v → get_or stored a false ≡ true) → ((a v : ℕ) → doing_after (doing_of old w) done ≢ Storing a v) → ((u : ℕ) → u ≢ w → (a v : ℕ) → doing_of old u ≢ Storing a v)
    → IsSized old words descriptors workers marks → length stored ≡ words → AreSettled old stored → IsTestWorld new words descriptors workers marks stored
stepped-world old new words descriptors workers marks stored w act done told s noted ends others sized long settled =
    let one = one-act old.phase old new w act done told s in
    record {
      sized = one-sized old new words descriptors workers marks w act done one sized;
      calm = changed-calm old new w others one.others.workers (λ a v is. ends a v (sym one.doing ∙ is));
      noted = long;
      settled = λ a out ne private fresh.
          let out-was : IsOutside old.swaps a = subst (λ n. IsOutside n a) one.others.swaps out in
          let phase-was : old.phase ≢ Recovering = λ is. ne (one.others.phase ∙ is) in
          let private-was : is_named old a ≡ false = ap (λ begun. is_among begun a) (sym one.others.begun) ∙ private in
          step-settles old.phase old new w act done told a s phase-was out-was private-was (λ v is. (let both : true ≡ false = sym (noted a v is) ∙ fresh in absurd cc)) (settled a out-was phase-was private-was fresh);
    }

-- a step of a worker where nobody is about to store
pub calm-step : (old new : SwapMemory) (words descriptors workers : ℕ) (marks stored : List Bool) (w : ℕ) (act : Act) (done : Done) (told : Option ℕ) → StepsIn old.phase old w act done told new
    → IsTestWorld old words descriptors workers marks stored → IsTestWorld new words descriptors workers marks stored
calm-step old new words descriptors workers marks stored w act done told s t =
    stepped-world old new words descriptors workers marks stored w act done told s (λ a v is. absurd (t.calm w a v is)) (after-calm (doing_of old w) done (t.calm w)) (λ u ne. t.calm u) t.sized t.noted t.settled

-- who may flush or store outside a recovery time
pub flush-works : (m : SwapMemory) (w line : ℕ) → MayFlush m w line → 0 < w → m.phase ≢ Recovering
flush-works m zero line may some = absurd (omega (arith, some))
flush-works m (suc w) line may some = may.work.phase

pub store-works : (m : SwapMemory) (w a v : ℕ) → MayStore m w a v → 0 < w → m.phase ≢ Recovering
store-works m zero a v may some = absurd (omega (arith, some))
store-works m (suc w) a v may some = may.work.phase

pub store-lies : (m : SwapMemory) (w a v : ℕ) → MayStore m w a v → a < length m.cached
store-lies m zero a v may = may.within
store-lies m (suc w) a v may = may.address.within

-- a store that is begun and made at once, of a word that is noted
stored-doing : (m : SwapMemory) (w b x : ℕ) → w < length m.workers → doing_of (started m w (Storing b x)) w ≡ Storing b x
stored-doing m w b x within = ap (λ (l : Working). l.doing) (get_or-set_same m.workers w (record { doing = Storing b x; flush_next = false }) idle within)

stores-at : (b x a v : ℕ) (marks : List Bool) → b < length marks → Storing b x ≡ Storing a v → get_or (slice_set marks b true) a false ≡ true
stores-at b x a v marks within is = (let same : b ≡ a = cc in rw (← same) (get_or-set_same marks b true false within))

stored-ends : (p : Phase) (old new : SwapMemory) (w b x : ℕ) (act : Act) (done : Done) (told : Option ℕ) → StepsIn p old w act done told new → doing_of old w ≡ Storing b x → (a v : ℕ) → doing_after (doing_of old w) done ≢ Storing a v
stored-ends p old new w b x act done told s is a v =
    let answer : IsAnswer new (Storing b x) act done = subst (λ d. IsAnswer new d act done) is (one-act p old new w act done told s).answer in
    ends done answer
  where
    ends : (d : Done) → IsAnswer new (Storing b x) act d → doing_after (doing_of old w) d ≢ Storing a v
    ends Stored answer = busy-calm _ a v refl
    ends Busy answer = absurd answer
    ends (Read y) answer = absurd answer
    ends (Swapped y) answer = absurd answer
    ends Flushed answer = absurd answer

fresh-before : (marks : List Bool) (b a : ℕ) → b < length marks → get_or (slice_set marks b true) a false ≡ false → get_or marks a false ≡ false
fresh-before marks b a within is = elim (cases_eq a b) [
  | inl same ↦ (let both : true ≡ false = sym (get_or-set_same marks b true false within) ∙ (rw same at is) in absurd cc)
  | inr other ↦ sym (get_or-set_other marks b a true false other) ∙ is
]

pub stored-world : (m new : SwapMemory) (words descriptors workers : ℕ) (marks stored : List Bool) (w b x : ℕ) (act : Act) (done : Done) (told : Option ℕ) → w < length m.workers → b < words → (0 < w → m.phase ≢ Recovering)
    → StepsIn (started m w (Storing b x)).phase (started m w (Storing b x)) w act done told new → IsTestWorld m words descriptors workers marks stored → IsTestWorld new words descriptors workers marks (slice_set stored b true)
stored-world m new words descriptors workers marks stored w b x act done told within lies works s t =
    let old : SwapMemory = started m w (Storing b x) in
    let inside : b < length stored = rw t.noted lies in
    let doing : doing_of old w ≡ Storing b x = stored-doing m w b x within in
    stepped-world old new words descriptors workers marks (slice_set stored b true) w act done told s
    (λ a v is. stores-at b x a v stored inside (sym doing ∙ is))
    (stored-ends old.phase old new w b x act done told s doing)
    (λ u ne a v is. t.calm u a v (ap (λ (l : Working). l.doing) (sym (get_or-set_other m.workers w u _ idle ne)) ∙ is))
    (started-sized m words descriptors workers marks w (Storing b x) t.sized) (length-set stored b true ∙ t.noted)
    (λ a out ne private fresh. t.settled a out (works-before m w works ne) private (fresh-before stored b a inside fresh))

-- an eviction leaves settled words so
pub evicted-world : (old new : SwapMemory) (words descriptors workers : ℕ) (marks stored : List Bool) (e : ℕ) (told : Option ℕ) → IsEviction old e told new → IsTestWorld old words descriptors workers marks stored → IsTestWorld new words descriptors workers marks stored
evicted-world old new words descriptors workers marks stored e told h t = record {
  sized = subst (λ (m : SwapMemory). IsSized m words descriptors workers marks) (sym h.is) (record {
    cached = t.sized.cached;
    durable = length-set old.durable e (slice_index old.cached e) ∙ t.sized.durable;
    count = t.sized.count;
    swaps = t.sized.swaps;
    some = t.sized.some;
    room = t.sized.room;
    size = t.sized.size;
    marked = t.sized.marked;
  });
  calm = subst IsCalm (sym h.is) t.calm;
  noted = t.noted;
  settled = λ a out ne private fresh. settled_words_stay.eviction old new e told a h
      (t.settled a (subst (λ (m : SwapMemory). IsOutside m.swaps a) h.is out) (λ is. ne (ap (λ (m : SwapMemory). m.phase) h.is ∙ is)) (ap (λ (m : SwapMemory). is_named m a) (sym h.is) ∙ private) fresh);
}

-- in a cut nobody does anything, nothing is named, and a recovery time begins
idle-cut : (m : SwapMemory) → IsCalm (after_cut m)
idle-cut m u a v is = busy-calm _ a v (ap (λ (l : Working). l.doing) (all-same (length m.workers) u idle)) is

pub cut-world : (m : SwapMemory) (words descriptors workers : ℕ) (marks new stored : List Bool) → length new ≡ length marks → ((a : ℕ) → get_or new a false ≡ false) → IsTestWorld m words descriptors workers marks stored
    → IsTestWorld (after_cut m) words descriptors workers new stored
cut-world m words descriptors workers marks new stored long none t = record {
  sized = record {
    cached = t.sized.durable;
    durable = t.sized.durable;
    count = length-replicate (length m.workers) idle ∙ t.sized.count;
    swaps = t.sized.swaps;
    some = t.sized.some;
    room = t.sized.room;
    size = long ∙ t.sized.size;
    marked = none;
  };
  calm = idle-cut m;
  noted = t.noted;
  settled = λ a out ne private fresh. absurd (ne refl);
}

-- after a renewal every word is settled
pub renewed-world : (m : SwapMemory) (words descriptors workers : ℕ) (marks new stored after : List Bool) → MayRenew m → ((w : ℕ) → get_or m.past.asks w [] ≡ []) → length new ≡ length marks → ((a : ℕ) → get_or new a false ≡ false) → length after ≡ length stored
    → IsTestWorld m words descriptors workers marks stored → IsTestWorld (renewed m) words descriptors workers new after
renewed-world m words descriptors workers marks new stored after may asks long none same t = record {
  sized = record {
    cached = t.sized.cached;
    durable = t.sized.durable;
    count = t.sized.count;
    swaps = t.sized.swaps;
    some = t.sized.some;
    room = t.sized.room;
    size = long ∙ t.sized.size;
    marked = none;
  };
  calm = t.calm;
  noted = same ∙ t.noted;
  settled = λ a out ne private fresh. settled_words_stay.renewal m a asks (may.same a out);
}

-- as it is opened
pub opened-world : (m : SwapMemory) (start : List ℕ) (swaps workers : ℕ) (marks stored : List Bool) → IsOpened m start swaps workers → swap_address swaps ≤ length start → marks ≡ replicate (length start) false → stored ≡ replicate (length start) false
    → IsTestWorld m (length start) swaps (workers + 1) marks stored
opened-world m start swaps workers marks stored o room none fresh = record {
  sized = subst (λ (n : SwapMemory). IsSized n (length start) swaps (workers + 1) marks) (sym o.is) (record {
    cached = refl;
    durable = refl;
    count = length-replicate (workers + 1) idle;
    swaps = refl;
    some = omega arith;
    room = room;
    size = rw none (length-replicate (length start) false);
    marked = λ a. rw none (all-same (length start) a false);
  });
  calm = subst IsCalm (sym o.is) (λ u a v is. busy-calm _ a v (ap (λ (l : Working). l.doing) (all-same (workers + 1) u idle)) is);
  noted = rw fresh (length-replicate (length start) false);
  settled = λ a out ne private new. subst (λ (n : SwapMemory). is_settled_at n a ≡ true) (sym o.is) (settled_words_stay.opening o.phase start swaps workers a);
}

-- renewals

-- the word at the address is plain, and the same in the caches and in the memory itself
abbrev pub IsPlainAt : SwapMemory → ℕ → Type 0
IsPlainAt m a = (slice_index m.cached a ≡ slice_index m.durable a) × (slice_index m.durable a < 2 ^ 61)

-- and so is an address past the memory, where there is no word
plain-past : (m : SwapMemory) → length m.durable ≡ length m.cached → ((a : ℕ) → a < length m.cached → IsPlainAt m a) → (a : ℕ) → IsPlainAt m a
plain-past m same plain a = elim (cases_lt a (length m.cached)) [
  | inl within ↦ plain a within
  | inr past ↦
      let c : slice_index m.cached a ≡ 0 = get_or_past m.cached a 0 past in
      let d : slice_index m.durable a ≡ 0 = get_or_past m.durable a 0 (rw same past) in
      (c ∙ sym d, rw d (omega arith))
]

-- past the workers there is none
all-idle : (m : SwapMemory) → ((w : ℕ) → w < length m.workers → doing_of m w ≡ Idle) → (w : ℕ) → doing_of m w ≡ Idle
all-idle m idles w = elim (cases_lt w (length m.workers)) [
  | inl below ↦ idles w below
  | inr past ↦ ap (λ l. l.doing) (get_or_past m.workers w idle past)
]

pub renewable : (m : SwapMemory) → length m.durable ≡ length m.cached → ((a : ℕ) → a < length m.cached → IsPlainAt m a) → ((w : ℕ) → w < length m.workers → doing_of m w ≡ Idle)
    → ((s : ℕ) → s < m.swaps → slice_index m.durable (swap_address s) ≡ 0) → MayRenew m
renewable m same plain idles free =
    let all = plain-past m same plain in
    record {
      idle = all-idle m idles;
      same = λ a out. (all a).0;
      cached = record { plain = λ a out. rw (all a).0 (all a).1; free = λ s below. (all (swap_address s)).0 ∙ free s below };
      durable = record { plain = λ a out. (all a).1; free = free };
    }
