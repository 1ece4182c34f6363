-- What a worker has asked for after its act.
use Rattle.std.specs.Prelude.{◌≡◌, ◌≢◌, ◌==◌, ◌&&◌, if◌then◌else◌, ℕ, ◌+◌, ◌/◌, ◌<◌, ◌≤◌, Bool, true, false, List, [], ◌∷◌, length, get_or}
use Rattle.std.proofs.Common.{arith, refl, ap, sym, ◌∙◌, inl, inr}
use Rattle.std.proofs.lemmas.Bool.{cases_eq}
use Rattle.std.proofs.lemmas.Grind.{common_steps}
use Rattle.std.proofs.lemmas.List.{get_or-set_same, get_or-set_other}
use Rattle.bz_layout.specs.Addresses.{swap_address}
use Rattle.bz_swap_machine.specs.declared.place.Place.{Place}
use Rattle.bz_swap_machine.specs.declared.place.Place.TheVariants as place
use Rattle.bz_swap_machine.specs.declared.place.PrepareStep.{PrepareStep}
use Rattle.bz_swap_machine.specs.declared.place.PrepareStep.TheVariants.{WriteWord, WriteStatus, AskHead, AskTail, FenceDescriptor}
use Rattle.bz_swap_machine.specs.declared.place.HelpStep.{HelpStep}
use Rattle.bz_swap_machine.specs.declared.place.HelpStep.TheVariants.{AskDirty, FenceDirty, AskTarget, FenceTargets, Decide, AskStatus, FenceStatus, ClearStatus, AskFinal, FenceFinal}
use Rattle.bz_swap_machine.specs.declared.worker.Worker.{Worker}
use Rattle.bz_swap_machine.specs.declared.done.Done.{Done}
use Rattle.bz_swap_machine.specs.Facts.{Fact}
use Rattle.bz_swap_machine.specs.Knows.{AtPlace}
use Rattle.bz_swap_machine.specs.Machine.{entries_in}
use Rattle.bz_swap_machine.specs.Steps.{Local, act}
use Rattle.bz_swap_machine.specs.Workers.{local_of}
use Rattle.bz_swap_cells.specs.FromPm.After.{after_ask}
use Rattle.bz_swap_cells.specs.FromPm.Changes.{AsksOnly}
use Rattle.bz_swap_cells.specs.FromPm.State.{State, asks_of, ask_for}
use Rattle.bz_swap_cells.specs.Store.{Store, Past, typed, store_state}
use Rattle.bz_swap_cells.proofs.FromPm.Dates.{lines_asked}
use Rattle.bz_swap_cells.proofs.FromPm.Fences as memory
use Rattle.bz_swap_cells.proofs.Pasts.{past_of}
use Rattle.bz_swap_acts.specs.Rule.{after_act}
use Rattle.bz_swap_acts.specs.Writes.{StaysOutside, PreparesBy, HelpsBy, WritesAt}
use Rattle.bz_swap_acts.specs.declared.acted.Act.{Act}
use Rattle.bz_swap_acts.specs.declared.acted.Act.TheVariants.{Load, Store as StoreAct, Cas, Ask, Fence}
use Rattle.bz_swap.specs.Inside.Parts.{Parts, worker_at}
use Rattle.bz_swap.specs.Inside.Kept.{IsRunning, HasAsked, HelpAsks, PlaceAsks, AsksFew, lines_preparing, lines_helping, lines_at}
use Rattle.bz_swap.proofs.Stepped.{Acts, MayStep}

-- what another worker asked for stays
pub others-asked : (m n : State) (w : ℕ) (made : Act) → n ≡ after_act w m made → (v : ℕ) → v ≢ w → asks_of n v ≡ asks_of m v
others-asked m n w (Load a x) after v ne = ap (λ (k : State). asks_of k v) after
others-asked m n w (StoreAct a x) after v ne = ap (λ (k : State). asks_of k v) after
others-asked m n w (Cas a old new found) after v ne = ap (λ (k : State). asks_of k v) after
others-asked m n w (Ask line) after v ne = ap (λ (k : State). asks_of k v) after ∙ get_or-set_other m.asks w v _ [] ne
others-asked m n w Fence after v ne = ap (λ (k : State). asks_of k v) after ∙ get_or-set_other m.asks w v [] [] ne

-- where nothing is asked for, all is asked for as it may be
pub no-asks : {A : Type 0} (qs : List A) → length qs ≤ 0 → qs ≡ []
no-asks [] none = refl
no-asks (q ∷ qs) none = absurd (omega (arith, none))

empty-help : (past : Past) (w s : ℕ) (step : HelpStep) → length (get_or past.asks w []) ≤ 0 → HelpAsks past w s step
empty-help past w s (FenceStatus d) none = λ line asked. absurd (asked (ap (λ qs. ask_for qs line) (no-asks (get_or past.asks w []) none)))
empty-help past w s other none = tt

empty-place : (past : Past) (w s : ℕ) (x : Place) → length (get_or past.asks w []) ≤ 0 → PlaceAsks past w s x
empty-place past w s (place.Help step) none = empty-help past w s step none
empty-place past w s other none = tt

pub empty-few : (past : Past) (w : ℕ) (l : Worker) → length (get_or past.asks w []) ≤ 0 → AsksFew past w l
empty-few past w l none = record { few = omega (arith, none); alone = empty-place past w l.current l.place none }

-- so it is after a fence, and after an act that asks for nothing where nothing was asked for
pub fence-none : (m n : State) (w : ℕ) (made : Act) → n ≡ after_act w m made → w < length m.asks → made ≡ Fence → length (asks_of n w) ≤ 0
fence-none m n w made after within is =
    let none : asks_of n w ≡ [] = ap (λ (k : State). asks_of k w) (after ∙ ap (after_act w m) is) ∙ get_or-set_same m.asks w [] [] within in
    rw none (omega arith)

pub load-none : (m n : State) (w : ℕ) (made : Act) (a x : ℕ) → n ≡ after_act w m made → made ≡ Load a x → length (asks_of m w) ≤ 0 → length (asks_of n w) ≤ 0
load-none m n w made a x after is none = rw (ap (λ (k : State). asks_of k w) (after ∙ ap (after_act w m) is)) none

pub store-none : (m n : State) (w : ℕ) (made : Act) (a x : ℕ) → n ≡ after_act w m made → made ≡ StoreAct a x → length (asks_of m w) ≤ 0 → length (asks_of n w) ≤ 0
store-none m n w made a x after is none = rw (ap (λ (k : State). asks_of k w) (after ∙ ap (after_act w m) is)) none

cas-none : (m n : State) (w : ℕ) (made : Act) (a old new found : ℕ) → n ≡ after_act w m made → made ≡ Cas a old new found → length (asks_of m w) ≤ 0 → length (asks_of n w) ≤ 0
cas-none m n w made a old new found after is none = rw (ap (λ (k : State). asks_of k w) (after ∙ ap (after_act w m) is)) none

outside-none : (m n : State) (w swaps : ℕ) (made : Act) → n ≡ after_act w m made → StaysOutside swaps made → length (asks_of m w) ≤ 0 → length (asks_of n w) ≤ 0
outside-none m n w swaps (Load a x) after out none = rw (ap (λ (k : State). asks_of k w) after) none
outside-none m n w swaps (StoreAct a x) after out none = absurd out
outside-none m n w swaps (Cas a old new found) after out none = rw (ap (λ (k : State). asks_of k w) after) none
outside-none m n w swaps (Ask line) after out none = absurd out
outside-none m n w swaps Fence after out none = absurd out

-- an ask adds at most one line
if-same : (n a b : ℕ) → (if n == n then a else b) ≡ a
if-same n a b = (let test : (n == n) ≡ true = grind (arith, common_steps) in rw test refl)

pub ask-more : (m n : State) (w line : ℕ) (made : Act) → n ≡ after_act w m made → w < length m.asks → made ≡ Ask line → length (asks_of n w) ≤ length (asks_of m w) + 1
ask-more m n w line made after within is =
    let more = lines_asked m w line w within in
    let same = if-same w (length (asks_of m w) + 1) (length (asks_of m w)) in
    let now : length (asks_of n w) ≡ length (asks_of (after_ask m w line) w) = ap (λ (k : State). length (asks_of k w)) (after ∙ ap (after_act w m) is) in
    omega (arith, more, same, now)

-- the first ask is the only one
other-line : (t : Bool) (line l : ℕ) → line ≢ l → (t && line == l) ≡ false
other-line true line l ne = grind (arith, common_steps, ne)
other-line false line l ne = refl

only-ask : (m n : State) (w line : ℕ) (made : Act) → n ≡ after_act w m made → AsksOnly m (after_ask m w line) w line → made ≡ Ask line → length (asks_of m w) ≤ 0 → (l : ℕ) → HasAsked (past_of n) w l → l ≡ line
only-ask m n w line made after a is none l asked = elim (cases_eq line l) [
  | inl same ↦ sym same
  | inr other ↦ absurd (asked (ap (λ (k : State). ask_for (asks_of k w) l) (after ∙ ap (after_act w m) is) ∙ a.asks w l ∙ rw (other-line (w == w) line l other) (ap (λ qs. ask_for qs l) (no-asks (asks_of m w) none))))
]

-- what is asked for alone is the same where the asks are
same-help : (was now : Past) (w s : ℕ) (step : HelpStep) → get_or now.asks w [] ≡ get_or was.asks w [] → HelpAsks was w s step → HelpAsks now w s step
same-help was now w s (FenceStatus d) same h = λ line asked. h line (λ none. asked (ap (λ qs. ask_for qs line) same ∙ none))
same-help was now w s other same h = tt

pub same-place : (was now : Past) (w s : ℕ) (x : Place) → get_or now.asks w [] ≡ get_or was.asks w [] → PlaceAsks was w s x → PlaceAsks now w s x
same-place was now w s (place.Help step) same h = same-help was now w s step same h
same-place was now w s other same h = tt

-- a worker whose act was an ask goes on at a place that counts one line more
asked-place : (past : Past) (w : ℕ) (l : Worker) (x : Place) → l.place ≡ x → length (get_or past.asks w []) ≤ lines_at x → PlaceAsks past w l.current x → AsksFew past w l
asked-place past w l x at few alone = record { few = rw at few; alone = rw at alone }

module _ (p : Parts) (r : IsRunning p) (w : ℕ) (store : Store) (l : Worker) (done : Done) (may : MayStep p w) (a : Acts p r.beside w store l done) where
  abbrev m : State
  m = store_state p.store

  abbrev n : State
  n = store_state store

  within : w < length p.store.past.asks
  within = omega (arith, may.within, may.numbered, r.words.has_room.workers)

  after : n ≡ after_act w m a.told
  after = a.by.rule.after

  abbrev old : Local
  old = local_of (worker_at p w)

  asks-line : (line : ℕ) → a.told ≡ Ask line → AsksOnly m (after_ask m w line) w line
  asks-line line is = memory.ask m w line r.words.has_room.state r.words.has_room.fit (omega (arith, may.counted)) within (rw is at a.by.within)

  -- where the act leads
  leads : (x : Place) → x ≡ (worker_at p w).place → l.place ≡ (act (typed p.store r.beside) w old x).local.place
  leads x is = ap (λ (u : Local). u.place) a.local ∙ ap (λ y. (act (typed p.store r.beside) w old y).local.place) (sym is)

  by-prepare : (step : PrepareStep) → place.Prepare step ≡ (worker_at p w).place → length (asks_of m w) ≤ lines_preparing step → PreparesBy p.store.swaps (worker_at p w) step a.told → AsksFew store.past w l
  by-prepare (WriteWord k) is few writes = empty-few store.past w l (store-none m n w a.told _ _ after writes few)
  by-prepare WriteStatus is few writes = empty-few store.past w l (store-none m n w a.told _ _ after writes few)
  by-prepare AskHead is few writes =
      let more = ask-more m n w _ a.told after within writes in
      asked-place store.past w l (place.Prepare AskTail) (leads (place.Prepare AskHead) is) (omega (arith, more, few)) tt
  by-prepare AskTail is few writes =
      let more = ask-more m n w _ a.told after within writes in
      asked-place store.past w l (place.Prepare FenceDescriptor) (leads (place.Prepare AskTail) is) (omega (arith, more, few)) tt
  by-prepare FenceDescriptor is few writes = empty-few store.past w l (fence-none m n w a.told after within writes)

  -- the last target's ask leads to the fence, and the others to the next ask
  next-target : (i k : ℕ) (t : Bool) → k ≤ i + 1 → i < 4 → k ≤ lines_helping (if t then FenceTargets else AskTarget (i + 1))
  next-target i k true le few = omega (arith, le, few)
  next-target i k false le few = le

  plain-target : (past : Past) (s i : ℕ) (t : Bool) → HelpAsks past w s (if t then FenceTargets else AskTarget (i + 1))
  plain-target past s i true = tt
  plain-target past s i false = tt

  by-help : (step : HelpStep) → place.Help step ≡ (worker_at p w).place → Fact r.entries (typed p.store r.beside) w (worker_at p w).current step
      → length (asks_of m w) ≤ lines_helping step → HelpsBy p.store.swaps (worker_at p w).current step a.told → AsksFew store.past w l
  by-help (AskDirty i v) is fact few writes =
      let more = ask-more m n w writes.0 a.told after within writes.1 in
      asked-place store.past w l (place.Help (FenceDirty i v)) (leads (place.Help (AskDirty i v)) is) (omega (arith, more, few)) tt
  by-help (AskTarget i) is fact few writes =
      let more = ask-more m n w writes.0 a.told after within writes.1 in
      let four = (r.range.values (worker_at p w).current).count in
      let last : Bool = i + 1 == (entries_in old.list).count in
      asked-place store.past w l (place.Help (if last then FenceTargets else AskTarget (i + 1))) (leads (place.Help (AskTarget i)) is)
      (next-target i (length (asks_of n w)) last (omega (arith, more, few)) (omega (arith, fact.0, four))) (plain-target store.past l.current i last)
  by-help (AskStatus d) is fact few writes =
      let more = ask-more m n w _ a.told after within writes in
      let same : l.current ≡ (worker_at p w).current = ap (λ (u : Local). u.current) a.local ∙ ap (λ y. (act (typed p.store r.beside) w old y).local.current) (sym is) in
      asked-place store.past w l (place.Help (FenceStatus d)) (leads (place.Help (AskStatus d)) is) (omega (arith, more, few))
      (λ line asked. only-ask m n w (swap_address (worker_at p w).current / 8) a.told after (asks-line _ writes) writes few line asked ∙ ap (λ s. swap_address s / 8) (sym same))
  by-help (AskFinal i d) is fact few writes =
      let more = ask-more m n w writes.0 a.told after within writes.1 in
      asked-place store.past w l (place.Help (FenceFinal i d)) (leads (place.Help (AskFinal i d)) is) (omega (arith, more, few)) tt
  by-help (FenceDirty i v) is fact few writes = empty-few store.past w l (fence-none m n w a.told after within writes)
  by-help FenceTargets is fact few writes = empty-few store.past w l (fence-none m n w a.told after within writes)
  by-help (FenceStatus d) is fact few writes = empty-few store.past w l (fence-none m n w a.told after within writes)
  by-help (FenceFinal i d) is fact few writes = empty-few store.past w l (fence-none m n w a.told after within writes)
  by-help (Decide d) is fact few writes = empty-few store.past w l (cas-none m n w a.told _ _ _ writes.0 after writes.1 few)
  by-help (ClearStatus d) is fact few writes = empty-few store.past w l (cas-none m n w a.told _ _ _ writes.0 after writes.1 few)
  by-help other is fact few writes = empty-few store.past w l (outside-none m n w p.store.swaps a.told after writes few)

  by-place : (x : Place) → x ≡ (worker_at p w).place → AtPlace r.entries (typed p.store r.beside) w old x → length (asks_of m w) ≤ lines_at x → WritesAt p.store.swaps (worker_at p w) x a.told → AsksFew store.past w l
  by-place (place.Prepare step) is at few writes = by-prepare step is few writes
  by-place (place.Help step) is at few writes = by-help step is at.3 few writes
  by-place (place.StoreWord b v) is at few writes = empty-few store.past w l (store-none m n w a.told b v after writes few)
  by-place (place.AskRead b v) is at few writes =
      let more = ask-more m n w (b / 8) a.told after within writes in
      asked-place store.past w l (place.FenceRead b v) (leads (place.AskRead b v) is) (omega (arith, more, few)) tt
  by-place (place.FenceRead b v) is at few writes = empty-few store.past w l (fence-none m n w a.told after within writes)
  by-place (place.AskLine line) is at few writes =
      let more = ask-more m n w line a.told after within writes in
      asked-place store.past w l (place.FenceLine line) (leads (place.AskLine line) is) (omega (arith, more, few)) tt
  by-place (place.FenceLine line) is at few writes = empty-few store.past w l (fence-none m n w a.told after within writes)
  by-place other is at few writes = empty-few store.past w l (outside-none m n w p.store.swaps a.told after writes few)

  pub own-asked : AsksFew store.past w l
  own-asked = by-place (worker_at p w).place refl (r.state.knows w).place (r.asked w).few a.by.writes

  -- what another worker asked for is the same
  pub other-asked : (v : ℕ) (u : Worker) → v ≢ w → AsksFew p.store.past v u → AsksFew store.past v u
  other-asked v u ne h =
      let same : get_or store.past.asks v [] ≡ get_or p.store.past.asks v [] = others-asked m n w a.told after v ne in
      record { few = rw same h.few; alone = same-place p.store.past store.past v u.current u.place same h.alone }

  -- one ask more is counted
  pub one-counted : store.past.count ≤ p.store.past.count + 1
  one-counted = by_act a.told after
    where
      by_act : (made : Act) → n ≡ after_act w m made → n.count ≤ m.count + 1
      by_act (Load b x) e = rw (ap (λ (k : State). k.count) e) (omega arith)
      by_act (StoreAct b x) e = rw (ap (λ (k : State). k.count) e) (omega arith)
      by_act (Cas b was new found) e = rw (ap (λ (k : State). k.count) e) (omega arith)
      by_act (Ask line) e = rw (ap (λ (k : State). k.count) e) (omega arith)
      by_act Fence e = rw (ap (λ (k : State). k.count) e) (omega arith)
