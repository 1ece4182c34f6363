-- A settled word stays settled.
use Rattle.std.specs.Prelude.{◌≡◌, ◌≢◌, ◌==◌, if◌then◌else◌, nat_lt, ℕ, ◌+◌, ◌-◌, ◌/◌, ◌%◌, ◌^◌, ◌<◌, ◌≤◌, Bool, true, false, length, replicate, slice_index, slice_set, Some, None, get_or, []}
use Rattle.std.specs.declared.option.Option.{Option}
use Rattle.std.proofs.Common.{arith, refl, ap, sym, subst, ◌∙◌, inl, inr}
use Rattle.std.proofs.lemmas.Bool.{cases_eq, cases_lt}
use Rattle.std.proofs.lemmas.Grind.{common_steps}
use Rattle.std.proofs.lemmas.List.{get_or_past, get_or-set_same, length-set}
use Rattle.bz_swap_machine.specs.declared.done.Done.{Done}
use Rattle.bz_swap_machine.specs.Pending.{Saved, Pending, with_saved, fenced_value, fenced_since}
use Rattle.bz_swap_cells.specs.FromPm.After.{after_ask, after_fence, after_eviction}
use Rattle.bz_swap_cells.specs.FromPm.Changes.{AsksOnly, FencesOnly}
use Rattle.bz_swap_cells.specs.FromPm.State.{State, IsState, ask_for}
use Rattle.bz_swap_cells.specs.Store.{word_pending, Past, saved_word}
use Rattle.bz_swap_cells.proofs.FromPm.Fences as memory
use Rattle.bz_swap_cells.proofs.Pasts.{past_of, saved-ask, fenced-fence, settled-fence, moment-asked}
use Rattle.bz_swap_cells.proofs.SettledWords.{settled-saves, saves-settled}
use Rattle.bz_swap_acts.specs.Rule.{IsWithin, after_act}
use Rattle.bz_swap_acts.specs.declared.acted.Act.{Act}
use Rattle.bz_swap_acts.specs.declared.acted.Act.TheVariants.{Load, Store, Cas, Ask, Fence}
use Rattle.bz_swap.specs.Evictions.{IsEviction}
use Rattle.bz_swap.specs.Power.{opened, renewed}
use Rattle.bz_swap.specs.SettledWords.{IsAwaited, SettledWordsStay}
use Rattle.bz_swap.specs.Steps.{MayAct, IsOneAct, IsStep}
use Rattle.bz_swap.specs.SwapMemory.{SwapMemory, memory_state, is_settled_at}
use Rattle.bz_swap.proofs.AllWords.{none-asked}
use Rattle.bz_swap.proofs.SettledWords.{settled-same}
use Rattle.bz_swap.proofs.WordActs.{set-keeps, set-other}

-- the word in the caches is durable, and what was asked for after that is the same
pub record Saves (m : State) (a : ℕ) : Type 0 where
  pub same : slice_index m.words.cached a ≡ slice_index m.words.durable a
  pub asked : (v : ℕ) (q : Saved ℕ) → (word_pending (past_of m) a).asked v ≡ Some q → slice_index m.since a < q.moment → q.value ≡ slice_index m.words.cached a

saves-of : (m : SwapMemory) (a : ℕ) → is_settled_at m a ≡ true → Saves (memory_state m) a
saves-of m a settled = record { same = settled-same m a settled; asked = settled-saves m.cached m.durable m.past a settled }

settled-of : (m : SwapMemory) (a : ℕ) → Saves (memory_state m) a → is_settled_at m a ≡ true
settled-of m a saves = saves-settled m.cached m.durable m.past a saves.same saves.asked

-- it stays so where the durable word is from then or later, and no more is asked for
later-saves : (m n : State) (a : ℕ) → Saves m a → slice_index n.words.cached a ≡ slice_index m.words.cached a → slice_index n.words.durable a ≡ slice_index m.words.cached a → slice_index m.since a ≤ slice_index n.since a
    → ((v : ℕ) (q : Saved ℕ) → (word_pending (past_of n) a).asked v ≡ Some q → (word_pending (past_of m) a).asked v ≡ Some q) → Saves n a
later-saves m n a saves cached durable later fewer = record {
  same = cached ∙ sym durable;
  asked = λ v q is after. saves.asked v q (fewer v q is) (omega (arith, later, after)) ∙ sym cached;
}

-- an ask saves the word as it stands in the caches
same-saved : (q r : Saved ℕ) → Some q ≡ Some r → q ≡ r
same-saved q r e = cc

either-saves : (t : Bool) (q r : Saved ℕ) (o : Option (Saved ℕ)) (since word : ℕ) → q.value ≡ word → ((s : Saved ℕ) → o ≡ Some s → since < s.moment → s.value ≡ word) → (if t then Some q else o) ≡ Some r → since < r.moment → r.value ≡ word
either-saves true q r o since word here there e after = rw (← same-saved q r e) here
either-saves false q r o since word here there e after = there r e after

ask-asked : (t : Bool) (p : Pending ℕ) (w moment word v since : ℕ) (q : Saved ℕ) → ((s : Saved ℕ) → p.asked v ≡ Some s → since < s.moment → s.value ≡ word)
    → (if t then with_saved p w moment word else p).asked v ≡ Some q → since < q.moment → q.value ≡ word
ask-asked true p w moment word v since q there e after = either-saves (v == w) (record { moment = moment; value = word }) q (p.asked v) since word refl there e after
ask-asked false p w moment word v since q there e after = there q e after

-- a fence leaves the word, or puts there what is the same
none-saved : (q : Saved ℕ) → None ≡ Some q → ⊥
none-saved q e = cc

left-asked : (t : Bool) (o : Option (Saved ℕ)) (q : Saved ℕ) → (if t then None else o) ≡ Some q → o ≡ Some q
left-asked true o q e = absurd (none-saved q e)
left-asked false o q e = e

fenced-same : (durable since word : ℕ) (o : Option (Saved ℕ)) → word ≡ durable → ((q : Saved ℕ) → o ≡ Some q → since < q.moment → q.value ≡ word) → fenced_value durable since o ≡ word
fenced-same durable since word None same all = sym same
fenced-same durable since word (Some q) same all = elim (cases_lt since q.moment) [
  | inl later ↦ (let test : nat_lt since q.moment ≡ true = grind (arith, common_steps, later) in rw test (all q refl later))
  | inr past ↦ (let test : nat_lt since q.moment ≡ false = grind (arith, common_steps, past) in rw test (sym same))
]

fenced-later : (since : ℕ) (o : Option (Saved ℕ)) → since ≤ fenced_since since o
fenced-later since None = omega arith
fenced-later since (Some q) = elim (cases_lt since q.moment) [
  | inl later ↦ (let test : nat_lt since q.moment ≡ true = grind (arith, common_steps, later) in rw test (omega (arith, later)))
  | inr past ↦ (let test : nat_lt since q.moment ≡ false = grind (arith, common_steps, past) in rw test (omega arith))
]

act-saves : (m : SwapMemory) (w a : ℕ) (made : Act) → MayAct m w → IsWithin (length m.cached) made → slice_index (after_act w (memory_state m) made).words.cached a ≡ slice_index m.cached a
    → Saves (memory_state m) a → Saves (after_act w (memory_state m) made) a
act-saves m w a (Load b x) may within cached saves = saves
act-saves m w a (Store b x) may within cached saves = record { same = cached ∙ saves.same; asked = λ v q is after. saves.asked v q is after ∙ sym cached }
act-saves m w a (Cas b was new found) may within cached saves = record { same = cached ∙ saves.same; asked = λ v q is after. saves.asked v q is after ∙ sym cached }
act-saves m w a (Ask line) may within cached saves =
    let only : AsksOnly (memory_state m) (after_ask (memory_state m) w line) w line = memory.ask (memory_state m) w line may.state may.fit (omega (arith, may.counted)) may.worker within in
    record {
      same = saves.same;
      asked = λ v q is after. ask-asked (a / 8 == line) (word_pending m.past a) w (m.past.count + 1) (slice_index m.cached a) v (slice_index m.past.since a) q (saves.asked v)
          (ap (λ (p : Pending ℕ). p.asked v) (sym (saved-ask (memory_state m) w line only may.counted a)) ∙ is) after;
    }
act-saves m w a Fence may within cached saves =
    let f : FencesOnly (memory_state m) (after_fence (memory_state m) w) w = memory.fence (memory_state m) w may.state may.worker in
    let is : word_pending (past_of (after_fence (memory_state m) w)) a ≡ _ = fenced-fence (memory_state m) (after_fence (memory_state m) w) w f a in
    let later = fenced-later (slice_index m.past.since a) ((word_pending m.past a).asked w) in
    let since : slice_index (after_fence (memory_state m) w).since a ≡ fenced_since (slice_index m.past.since a) ((word_pending m.past a).asked w) = ap (λ (p : Pending ℕ). p.since) is in
    later-saves (memory_state m) (after_fence (memory_state m) w) a saves refl
    (settled-fence (memory_state m) (after_fence (memory_state m) w) w f a ∙ fenced-same (slice_index m.durable a) (slice_index m.past.since a) (slice_index m.cached a) ((word_pending m.past a).asked w) saves.same (saves.asked w))
    (omega (arith, since, later))
    (λ v q e. left-asked (v == w) ((word_pending m.past a).asked v) q (ap (λ (p : Pending ℕ). p.asked v) (sym is) ∙ e))

step-settled : (old new : SwapMemory) (w : ℕ) (made : Act) (done : Done) (told : Option ℕ) (a : ℕ) → IsStep old w made done told new → slice_index new.cached a ≡ slice_index old.cached a
    → is_settled_at old a ≡ true → is_settled_at new a ≡ true
step-settled old new w made done told a step cached settled =
    let after = step.one.act.after in
    settled-of new a (subst (λ (m : State). Saves m a) (sym after) (act-saves old w a made step.one.may step.one.within (ap (λ (m : State). slice_index m.words.cached a) (sym after) ∙ cached) (saves-of old a settled)))

-- worker w has asked for the line of a word, and its fence settles it: what `IsAwaited` says, of the simulated memory alone
pub record Awaits (m : State) (w a : ℕ) : Type 0 where
  pub saved : Saved ℕ
  pub asked : (word_pending (past_of m) a).asked w ≡ Some saved
  pub value : saved.value ≡ slice_index m.words.cached a
  pub durable : saved.moment ≤ slice_index m.since a → slice_index m.words.durable a ≡ slice_index m.words.cached a
  pub others : (v : ℕ) (q : Saved ℕ) → (word_pending (past_of m) a).asked v ≡ Some q → saved.moment ≤ q.moment → q.value ≡ slice_index m.words.cached a

awaits-of : (m : SwapMemory) (w a : ℕ) → IsAwaited m w a → Awaits (memory_state m) w a
awaits-of m w a h = record { saved = h.saved; asked = h.asked; value = h.value; durable = h.durable; others = h.others }

awaited-of : (m : SwapMemory) (w a : ℕ) → Awaits (memory_state m) w a → IsAwaited m w a
awaited-of m w a h = record { saved = h.saved; asked = h.asked; value = h.value; durable = h.durable; others = h.others }

same-worker : (w : ℕ) → (w == w) ≡ true
same-worker w = grind (arith, common_steps)

other-worker : (v w : ℕ) → v ≢ w → (v == w) ≡ false
other-worker v w ne = grind (arith, common_steps, ne)

-- directly after its ask
new-others : (t : Bool) (o : Option (Saved ℕ)) (now word : ℕ) (q : Saved ℕ) → ((s : Saved ℕ) → o ≡ Some s → s.moment ≤ now) → (if t then Some (record { moment = now + 1; value = word }) else o) ≡ Some q → now + 1 ≤ q.moment → q.value ≡ word
new-others true o now word q before e later = rw (← same-saved _ q e) refl
new-others false o now word q before e later = (let past = before q e in absurd (omega (arith, past, later)))

ask-awaits : (m : State) (w line a : ℕ) → IsState m → m.count < 2 ^ 64 - 1 → AsksOnly m (after_ask m w line) w line → a / 8 ≡ line → Awaits (after_ask m w line) w a
ask-awaits m w line a i few only here =
    let test : (a / 8 == line) ≡ true = grind (arith, common_steps, here) in
    let is : word_pending (past_of (after_ask m w line)) a ≡ with_saved (word_pending (past_of m) a) w (m.count + 1) (slice_index m.words.cached a) = rw test at (saved-ask m w line only few a) in
    record {
      saved = record { moment = m.count + 1; value = slice_index m.words.cached a };
      asked = ap (λ (p : Pending ℕ). p.asked w) is ∙ rw (same-worker w) refl;
      value = refl;
      durable = λ late. (let past = i.past a in absurd (omega (arith, late, past)));
      others = λ v q e late. new-others (v == w) ((word_pending (past_of m) a).asked v) m.count (slice_index m.words.cached a) q (λ s told. moment-asked m i a v s told) (ap (λ (p : Pending ℕ). p.asked v) (sym is) ∙ e) late;
    }

-- another worker's ask
other-asks : (t : Bool) (p : Pending ℕ) (v moment word w : ℕ) → w ≢ v → (if t then with_saved p v moment word else p).asked w ≡ p.asked w
other-asks true p v moment word w ne = rw (other-worker w v ne) refl
other-asks false p v moment word w ne = refl

ask-others : (t : Bool) (p : Pending ℕ) (v moment word u least : ℕ) (q : Saved ℕ) → ((s : Saved ℕ) → p.asked u ≡ Some s → least ≤ s.moment → s.value ≡ word)
    → (if t then with_saved p v moment word else p).asked u ≡ Some q → least ≤ q.moment → q.value ≡ word
ask-others true p v moment word u least q there e late = by_worker (u == v) e
  where
    by_worker : (b : Bool) → (if b then Some (record { moment = moment; value = word }) else p.asked u) ≡ Some q → q.value ≡ word
    by_worker true is = rw (← same-saved _ q is) refl
    by_worker false is = there q is late
ask-others false p v moment word u least q there e late = there q e late

-- another worker's fence
fence-durable : (durable since word least : ℕ) (o : Option (Saved ℕ)) → (least ≤ since → durable ≡ word) → ((q : Saved ℕ) → o ≡ Some q → least ≤ q.moment → q.value ≡ word) → least ≤ fenced_since since o → fenced_value durable since o ≡ word
fence-durable durable since word least None was all late = was late
fence-durable durable since word least (Some q) was all late = elim (cases_lt since q.moment) [
  | inl later ↦ (let test : nat_lt since q.moment ≡ true = grind (arith, common_steps, later) in rw test (all q refl (rw test at late)))
  | inr past ↦ (let test : nat_lt since q.moment ≡ false = grind (arith, common_steps, past) in rw test (was (rw test at late)))
]

kept-asked : (t : Bool) (o : Option (Saved ℕ)) → t ≡ false → (if t then None else o) ≡ o
kept-asked true o is = absurd (let bad : true ≡ false = is in cc)
kept-asked false o is = refl

act-awaits : (m : SwapMemory) (v w a : ℕ) (made : Act) → MayAct m v → IsWithin (length m.cached) made → v ≢ w → slice_index (after_act v (memory_state m) made).words.cached a ≡ slice_index m.cached a
    → Awaits (memory_state m) w a → Awaits (after_act v (memory_state m) made) w a
act-awaits m v w a (Load b x) may within ne cached h = h
act-awaits m v w a (Store b x) may within ne cached h = record { saved = h.saved; asked = h.asked; value = h.value ∙ sym cached; durable = λ late. h.durable late ∙ sym cached; others = λ u q e late. h.others u q e late ∙ sym cached }
act-awaits m v w a (Cas b was new found) may within ne cached h = record { saved = h.saved; asked = h.asked; value = h.value ∙ sym cached; durable = λ late. h.durable late ∙ sym cached; others = λ u q e late. h.others u q e late ∙ sym cached }
act-awaits m v w a (Ask line) may within ne cached h =
    let only : AsksOnly (memory_state m) (after_ask (memory_state m) v line) v line = memory.ask (memory_state m) v line may.state may.fit (omega (arith, may.counted)) may.worker within in
    let is = saved-ask (memory_state m) v line only may.counted a in
    record {
      saved = h.saved;
      asked = ap (λ (p : Pending ℕ). p.asked w) is ∙ other-asks (a / 8 == line) (word_pending m.past a) v (m.past.count + 1) (slice_index m.cached a) w (λ same. ne (sym same)) ∙ h.asked;
      value = h.value;
      durable = h.durable;
      others = λ u q e late. ask-others (a / 8 == line) (word_pending m.past a) v (m.past.count + 1) (slice_index m.cached a) u h.saved.moment q (h.others u) (ap (λ (p : Pending ℕ). p.asked u) (sym is) ∙ e) late;
    }
act-awaits m v w a Fence may within ne cached h =
    let f : FencesOnly (memory_state m) (after_fence (memory_state m) v) v = memory.fence (memory_state m) v may.state may.worker in
    let is : word_pending (past_of (after_fence (memory_state m) v)) a ≡ _ = fenced-fence (memory_state m) (after_fence (memory_state m) v) v f a in
    let since : slice_index (after_fence (memory_state m) v).since a ≡ fenced_since (slice_index m.past.since a) ((word_pending m.past a).asked v) = ap (λ (p : Pending ℕ). p.since) is in
    record {
      saved = h.saved;
      asked = ap (λ (p : Pending ℕ). p.asked w) is ∙ kept-asked (w == v) ((word_pending m.past a).asked w) (other-worker w v (λ same. ne (sym same))) ∙ h.asked;
      value = h.value;
      durable = λ late. settled-fence (memory_state m) (after_fence (memory_state m) v) v f a
          ∙ fence-durable (slice_index m.durable a) (slice_index m.past.since a) (slice_index m.cached a) h.saved.moment ((word_pending m.past a).asked v) h.durable (h.others v) (rw since at late);
      others = λ u q e late. h.others u q (left-asked (u == v) ((word_pending m.past a).asked u) q (ap (λ (p : Pending ℕ). p.asked u) (sym is) ∙ e)) late;
    }

-- its own fence
own-fenced : (durable since word : ℕ) (q : Saved ℕ) → q.value ≡ word → (q.moment ≤ since → durable ≡ word) → fenced_value durable since (Some q) ≡ word
own-fenced durable since word q value was = elim (cases_lt since q.moment) [
  | inl later ↦ (let test : nat_lt since q.moment ≡ true = grind (arith, common_steps, later) in rw test value)
  | inr past ↦ (let test : nat_lt since q.moment ≡ false = grind (arith, common_steps, past) in rw test (was past))
]

own-since : (since : ℕ) (q : Saved ℕ) → q.moment ≤ fenced_since since (Some q)
own-since since q = elim (cases_lt since q.moment) [
  | inl later ↦ (let test : nat_lt since q.moment ≡ true = grind (arith, common_steps, later) in rw test (omega arith))
  | inr past ↦ (let test : nat_lt since q.moment ≡ false = grind (arith, common_steps, past) in rw test (omega (arith, past)))
]

fence-saves : (m : SwapMemory) (w a : ℕ) → MayAct m w → Awaits (memory_state m) w a → Saves (after_fence (memory_state m) w) a
fence-saves m w a may h =
    let f : FencesOnly (memory_state m) (after_fence (memory_state m) w) w = memory.fence (memory_state m) w may.state may.worker in
    let is : word_pending (past_of (after_fence (memory_state m) w)) a ≡ _ = fenced-fence (memory_state m) (after_fence (memory_state m) w) w f a in
    let since : slice_index (after_fence (memory_state m) w).since a ≡ fenced_since (slice_index m.past.since a) (Some h.saved) = ap (λ (p : Pending ℕ). p.since) is ∙ ap (fenced_since (slice_index m.past.since a)) h.asked in
    let late = own-since (slice_index m.past.since a) h.saved in
    record {
      same = sym (settled-fence (memory_state m) (after_fence (memory_state m) w) w f a ∙ ap (fenced_value (slice_index m.durable a) (slice_index m.past.since a)) h.asked
          ∙ own-fenced (slice_index m.durable a) (slice_index m.past.since a) (slice_index m.cached a) h.saved h.value h.durable);
      asked = λ v q e after. h.others v q (left-asked (v == w) ((word_pending m.past a).asked v) q (ap (λ (p : Pending ℕ). p.asked v) (sym is) ∙ e)) (omega (arith, since, late, after));
    }

step-asked : (old new : SwapMemory) (w line : ℕ) (done : Done) (a : ℕ) → IsOneAct old w (Ask line) done new → a / 8 ≡ line → IsAwaited new w a
step-asked old new w line done a one here =
    let may = one.may in
    let only : AsksOnly (memory_state old) (after_ask (memory_state old) w line) w line = memory.ask (memory_state old) w line may.state may.fit (omega (arith, may.counted)) may.worker one.within in
    awaited-of new w a (subst (λ (m : State). Awaits m w a) (sym one.act.after) (ask-awaits (memory_state old) w line a may.state may.counted only here))

step-awaited : (old new : SwapMemory) (v w : ℕ) (made : Act) (done : Done) (a : ℕ) → IsOneAct old v made done new → v ≢ w → slice_index new.cached a ≡ slice_index old.cached a → IsAwaited old w a → IsAwaited new w a
step-awaited old new v w made done a one ne cached awaited =
    let after = one.act.after in
    awaited-of new w a (subst (λ (m : State). Awaits m w a) (sym after) (act-awaits old v w a made one.may one.within ne (ap (λ (m : State). slice_index m.words.cached a) (sym after) ∙ cached) (awaits-of old w a awaited)))

step-fenced : (old new : SwapMemory) (w : ℕ) (done : Done) (a : ℕ) → IsOneAct old w Fence done new → IsAwaited old w a → is_settled_at new a ≡ true
step-fenced old new w done a one awaited =
    settled-of new a (subst (λ (m : State). Saves m a) (sym one.act.after) (fence-saves old w a one.may (awaits-of old w a awaited)))

evicted-durable : (m : SwapMemory) (e a : ℕ) → IsState (memory_state m) → a ≡ e → slice_index (slice_set m.durable e (slice_index m.cached e)) a ≡ slice_index m.cached a
evicted-durable m e a state same = elim (cases_lt e (length m.durable)) [
  | inl within ↦ rw same (get_or-set_same m.durable e (slice_index m.cached e) 0 within)
  | inr past ↦ rw same (get_or_past (slice_set m.durable e (slice_index m.cached e)) e 0 (rw (length-set m.durable e (slice_index m.cached e)) past) ∙ sym (get_or_past m.cached e 0 (omega (arith, past, state.memory.same))))
]

evicted-awaits : (m : SwapMemory) (e w a : ℕ) → IsState (memory_state m) → Awaits (memory_state m) w a → Awaits (after_eviction (memory_state m) e) w a
evicted-awaits m e w a state h = record {
  saved = h.saved;
  asked = h.asked;
  value = h.value;
  durable = elim (cases_eq a e) [
    | inl same ↦ λ late. evicted-durable m e a state same
    | inr other ↦ λ late. set-other m.durable e (slice_index m.cached e) a other ∙ h.durable (rw (set-other m.past.since e m.past.count a other) at late)
  ];
  others = h.others;
}

-- an eviction
eviction-settled : (old new : SwapMemory) (e : ℕ) (told : Option ℕ) (a : ℕ) → IsEviction old e told new → is_settled_at old a ≡ true → is_settled_at new a ≡ true
eviction-settled old new e told a h settled =
    let saves : Saves (memory_state old) a = saves-of old a settled in
    subst (λ (m : SwapMemory). is_settled_at m a ≡ true) (sym h.is) (settled-of (record old { durable = slice_set old.durable e (slice_index old.cached e); past = record old.past { since = slice_set old.past.since e old.past.count } }) a (later-saves (memory_state old) (after_eviction (memory_state old) e) a saves refl
    (set-keeps (λ x. x ≡ slice_index old.cached a) old.durable e (slice_index old.cached e) a (λ here. ap (slice_index old.cached) (sym here)) (sym saves.same))
    (set-keeps (λ x. slice_index old.past.since a ≤ x) old.past.since e old.past.count a (λ here. h.state.past a) (omega arith)) (λ v q is. is)))

eviction-awaits : (old new : SwapMemory) (e : ℕ) (told : Option ℕ) (w a : ℕ) → IsEviction old e told new → IsAwaited old w a → IsAwaited new w a
eviction-awaits old new e told w a h awaited =
    subst (λ (m : SwapMemory). IsAwaited m w a) (sym h.is) (awaited-of (record old { durable = slice_set old.durable e (slice_index old.cached e); past = record old.past { since = slice_set old.past.since e old.past.count } }) w a
    (evicted-awaits old e w a h.state (awaits-of old w a awaited)))

-- who has asked for nothing has saved nothing
never-saved : (past : Past) (a v : ℕ) (q : Saved ℕ) → get_or past.asks v [] ≡ [] → (word_pending past a).asked v ≡ Some q → ⊥
never-saved past a v q none is = let bad : None ≡ Some q = sym (ap (λ qs. saved_word (ask_for qs (a / 8)) (a % 8)) none) ∙ is in absurd cc

pub settled_words_stay : SettledWordsStay
settled_words_stay = record {
  opening = λ phase start swaps workers a. settled-of (opened phase start swaps workers) a (record { same = refl; asked = λ v q is after. absurd (none-asked (workers + 1) 0 (replicate (length start) 0) a v q is) });
  renewal = λ m a none same. settled-of (renewed m) a (record { same = same; asked = λ v q is after. absurd (never-saved m.past a v q (none v) is) });
  step = step-settled;
  eviction = eviction-settled;
  asked = step-asked;
  awaited = step-awaited;
  evicted = eviction-awaits;
  fenced = step-fenced;
}
