-- The marks from a power cut to the end of the recovery: memory and journal agree after each of them, and what the durable words
-- decode to stays; then a new life begins.
use Rattle.std.proofs.Common.{◌≡◌, ◌≢◌, ◌⊎◌, ◌↔◌, ℕ, suc, ◌+◌, ◌≤◌, ◌&&◌, if◌then◌else◌, Bool, true, false, List, [], ◌∷◌, Contains, length, slice_index, Option, Some, None, arith, refl, sym, ap, subst, ◌∙◌, inl, inr}
use Rattle.std.specs.Prelude.{nat_lt, get_or}
use Rattle.std.specs.FinMap.{get}
use Rattle.std.proofs.lemmas.Bool.{true≢false}
use Rattle.bz_swap_acts.specs.declared.acted.Act.{Act}
use Rattle.bz_swap_acts.specs.declared.acted.Act.TheVariants as act
use Rattle.bz_call.specs.Map.{Map}
use Rattle.bz_content.specs.Content.{image_fault, content_in}
use Rattle.bz_layout.specs.declared.config.Config.{Config}
use Rattle.bz_mark.specs.Log.{Log, with_mark}
use Rattle.bz_mark.proofs.MomentLaws.{at_moment-now}
use Rattle.bz_mark.specs.WordsAfter.{state_after_marks, words_after_marks}
use Rattle.bz_mark.specs.declared.marks.Mark.{Mark}
use Rattle.bz_mark.specs.declared.marks.Mark.TheVariants.{Evict, Ready}
use Rattle.bz_pm.specs.Acts.{evicted, after_cut as words_after_cut}
use Rattle.bz_swap_cells.specs.Store.{Past}
use Rattle.bz_pm.specs.Words.{Words}
use Rattle.bz_recover.specs.Contents.{SaysTheSame}
use Rattle.bz_recover.specs.Duties.{acts_left, asks_of}
use Rattle.bz_recover.specs.Walking.{IsTreeOf, AreReached}
use Rattle.bz_recover.specs.declared.recover.Recover.{Recover}
use Rattle.bz_recover.proofs.Proved.{recoveries_know}
use Rattle.bz_sight.specs.Renewal.{renewed_instant}
use Rattle.bz_sight.specs.Sight.{IsSeen}
use Rattle.bz_sound.specs.Calls.{Open, open_call, map_after}
use Rattle.bz_sound.specs.Memory.Moments.{image_after, image_at, map_at_start}
use Rattle.bz_mark.specs.Counts.{is_taken}
use Rattle.bz_sound.specs.Memory.Spent.{is_stored_into}
use Rattle.bz_mark.specs.Times.{since_on}
use Rattle.bz_sound.specs.Power.Times.{image_at_on}
use Rattle.bz_swap.specs.Power.{renewed}
use Rattle.bz_swap.specs.Steps.{IsRawStep, StepsIn}
use Rattle.bz_swap.specs.SwapMemory.{SwapMemory, Working, memory_words, worker_of}
use Rattle.bz_swap_machine.specs.declared.done.Done.{Done}
use Rattle.bz_swap_machine.specs.declared.done.Done.TheVariants.{Busy, Read, Swapped, Stored, Flushed}
use Rattle.bz_task.specs.Requests.{steps_in}
use Rattle.bz_task.specs.declared.todo.Todo.{Todo}
use Rattle.bz_task.specs.declared.todo.Todo.TheVariants as todo
use Rattle.bz_refinement.specs.Living.{IsLiving}
use Rattle.bz_swap_marks.specs.Marks.{mark_of}
use Rattle.bz_swap_marks.specs.Past.{SamePast}
use Rattle.bz_swap_marks.proofs.Pasts.{act-words, act-past, evict-past, cut-past, renewed-past, opened-past}
use Rattle.bz_refinement.proofs.Powering.{image-now, begins, cuts-leave}
use Rattle.bz_refinement.specs.Recovering.{IsRecovering, Turn, Asked, Started, Made, to_come, words_in}
use Rattle.bz_refinement.specs.RecoveryLaws.{ActsOn, StaysRecovering, IsRevived}
use Rattle.bz_mark.specs.Counts.{acts_by}
use Rattle.bz_refinement.specs.Reviving.{IsRecoveringIn, CutsAreMarked, ImagesOpenJournals, PowerOnIsMarked, TurnsMakeNoMark, StillDecodes, ActsAreMarked, EvictionsAreMarked, renewed_story, RecoveriesGiveLife, WalksEnd}
use Rattle.bz_refinement.proofs.Booting.{images-off}
use Rattle.bz_refinement.proofs.Recoveries.{acts-recover, evictions-leave}
use Rattle.bz_refinement.proofs.Revivals.{revives}

-- what holds what another image holds, which holds what a third one holds
says-as : (c : Config) (x y z : ℕ → ℕ) → SaysTheSame c x y → SaysTheSame c y z → SaysTheSame c x z
says-as c x y z p q = record {
  well_formed = q.well_formed;
  inside = λ k. q.inside k ∙ p.inside k;
  content = λ key. q.content key ∙ p.content key;
}

-- a mark of a recovery time: it opens no call, changes no map, is no power on, and takes no descriptor and no slot
record IsQuietMark (start : List ℕ) (past : List Mark) (mark : Mark) : Type 0 where
  calls : (w : ℕ) → open_call w (mark ∷ past) ≡ open_call w past
  map : (first : Map) → map_after first (mark ∷ past) ≡ map_after first past
  on : image_at_on start (mark ∷ past) ≡ image_at_on start past
  taken : (swap : ℕ) → is_taken swap (since_on (mark ∷ past)) ≡ is_taken swap (since_on past)
  stored : (c : Config) (slot : ℕ) → is_stored_into c slot (since_on (mark ∷ past)) ≡ is_stored_into c slot (since_on past)

act-quiet : (start : List ℕ) (past : List Mark) (made : Act) → IsQuietMark start past (mark_of 0 made)
act-quiet start past (act.Load a v) = record { calls = λ w. refl; map = λ first. refl; on = refl; taken = λ swap. refl; stored = λ c slot. refl }
act-quiet start past (act.Store a v) = record { calls = λ w. refl; map = λ first. refl; on = refl; taken = λ swap. refl; stored = λ c slot. refl }
act-quiet start past (act.Cas a old new found) = record { calls = λ w. refl; map = λ first. refl; on = refl; taken = λ swap. refl; stored = λ c slot. refl }
act-quiet start past (act.Ask line) = record { calls = λ w. refl; map = λ first. refl; on = refl; taken = λ swap. refl; stored = λ c slot. refl }
act-quiet start past act.Fence = record { calls = λ w. refl; map = λ first. refl; on = refl; taken = λ swap. refl; stored = λ c slot. refl }

evict-quiet : (start : List ℕ) (past : List Mark) (a : ℕ) → IsQuietMark start past (Evict a)
evict-quiet start past a = record { calls = λ w. refl; map = λ first. refl; on = refl; taken = λ swap. refl; stored = λ c slot. refl }

-- an act of worker 0 is one act more
act-counted : (past : List Mark) (made : Act) → acts_by 0 (since_on (mark_of 0 made ∷ past)) ≡ acts_by 0 (since_on past) + 1
act-counted past (act.Load a v) = refl
act-counted past (act.Store a v) = refl
act-counted past (act.Cas a old new found) = refl
act-counted past (act.Ask line) = refl
act-counted past act.Fence = refl

-- an act is at least one step
some-steps : (asks : Option Todo) → 1 ≤ steps_in asks
some-steps (Some (todo.Load a)) = omega arith
some-steps (Some (todo.Store a x)) = omega arith
some-steps (Some (todo.Flush line)) = omega arith
some-steps (Some (todo.Read a)) = omega arith
some-steps (Some (todo.Swap entries)) = omega arith
some-steps (Some todo.Finish) = omega arith
some-steps None = omega arith

some-come : (m : SwapMemory) (asks : Option Todo) → 1 ≤ to_come Started m asks
some-come m asks = go (worker_of m 0).flush_next
  where
    go : (t : Bool) → 1 ≤ (if t then 1 else steps_in asks)
    go true = omega arith
    go false = some-steps asks

same-come : (old new : SwapMemory) (turn : Turn) (asks : Option Todo) → worker_of new 0 ≡ worker_of old 0 → to_come turn new asks ≡ to_come turn old asks
same-come old new Asked asks same = refl
same-come old new Started asks same = ap (λ (u : Working). if u.flush_next then 1 else steps_in asks) same
same-come old new Made asks same = refl

busy-or : (d : Done) → (d ≡ Busy) ⊎ (d ≢ Busy)
busy-or Busy = inl refl
busy-or (Read v) = inr (λ is. cc)
busy-or (Swapped won) = inr (λ is. cc)
busy-or Stored = inr (λ is. cc)
busy-or Flushed = inr (λ is. cc)

-- the durable words before and after such a mark, which hold the same
record Keeps (c : Config) (old new : SwapMemory) (log : Log) (mark : Mark) : Type 0 where
  quiet : IsQuietMark log.start log.past mark
  before : memory_words old ≡ words_after_marks log.start log.past
  after : memory_words new ≡ words_after_marks log.start (mark ∷ log.past)
  same : SaysTheSame c (slice_index old.durable) (slice_index new.durable)
  past : SamePast new (state_after_marks log.start (mark ∷ log.past))

still-decodes : (c : Config) (old new : SwapMemory) (log : Log) (mark : Mark) → Keeps c old new log mark → StillDecodes c log mark
still-decodes c old new log mark k d = record {
  well_formed = subst (λ (w : Words). image_fault c (slice_index w.durable) ≡ None) k.after k.same.well_formed;
  content = λ key.
      ap (λ (w : Words). content_in c (slice_index w.durable) key) (sym k.after)
      ∙ (k.same.content key
      ∙ (ap (λ (w : Words). content_in c (slice_index w.durable) key) k.before
      ∙ (d.content key ∙ ap (λ m. get m key) (sym (k.quiet.map (map_at_start c log.start))))));
}

marked : (c : Config) (v : ℕ → ℕ) (old new : SwapMemory) (log : Log) (mark : Mark) (turn next : Turn) (t : Recover) → IsRecoveringIn c v old log turn t → Keeps c old new log mark → IsRecovering c v new next t
    → acts_by 0 (since_on (mark ∷ log.past)) + to_come next new (asks_of t) + acts_left t (words_in new) ≤ acts_by 0 (since_on log.past) + to_come turn old (asks_of t) + acts_left t (words_in old) → IsRecoveringIn c v new (with_mark log mark) next t
marked c v old new log mark turn next t r k recovering spent = record {
  recovering = recovering;
  words = k.after;
  past = k.past;
  calls = λ w. k.quiet.calls w ∙ r.calls w;
  same = subst (λ x. SaysTheSame c x (slice_index new.durable)) (sym k.quiet.on) (says-as c (image_at_on log.start log.past) (slice_index old.durable) (slice_index new.durable) r.same k.same);
  untaken = λ swap. k.quiet.taken swap ∙ r.untaken swap;
  unstored = λ slot. k.quiet.stored c slot ∙ r.unstored slot;
  spent = omega (arith, spent, r.spent);
}

pub cuts-marked : CutsAreMarked
cuts-marked = record {
  living = λ c m log story l workers. record {
    off = cuts-leave.seen c (story.at (length log.past)) m l.seen workers;
    words = ap words_after_cut l.words;
    past = cut-past m (state_after_marks log.start log.past) l.past;
    calls = λ w. refl;
  };
  recovering = λ c v m log turn t r. record {
    off = cuts-leave.recovering c v m turn t r.recovering;
    words = ap words_after_cut r.words;
    past = cut-past m (state_after_marks log.start log.past) r.past;
    calls = λ w. refl;
  };
}

pub images-open : ImagesOpenJournals
images-open c m image limits config size none is = record { off = images-off c m image config size none is; words = ap memory_words is.is; past = opened-past m image c.swaps c.workers is config.workers_in_range.at_most; calls = λ w. refl }

pub on-marked : PowerOnIsMarked
on-marked c v m log t off is-new = record {
  recovering = (begins c v m t off.off is-new).recovering;
  words = off.words;
  past = off.past;
  calls = off.calls;
  same = subst (λ (w : Words). SaysTheSame c (slice_index w.durable) (slice_index m.durable)) off.words (record { well_formed = off.off.memory.form; inside = λ k. refl; content = λ key. refl });
  untaken = λ swap. refl;
  unstored = λ slot. refl;
  spent = omega (arith, is-new.left (words_in m));
}

pub turns : TurnsMakeNoMark
turns c v m n log turn next t u r words past recovering fewer = record {
  recovering = recovering;
  words = words ∙ r.words;
  past = record { count = ap (λ (p : Past). p.count) past ∙ r.past.count; since = ap (λ (p : Past). p.since) past ∙ r.past.since; asks = λ w. ap (λ (p : Past). get_or p.asks w []) past ∙ r.past.asks w; workers = rw past r.past.workers };
  calls = r.calls;
  same = subst (λ (w : Words). SaysTheSame c (image_at_on log.start log.past) (slice_index w.durable)) (sym words) r.same;
  untaken = r.untaken;
  unstored = r.unstored;
  spent = omega (arith, fewer, r.spent);
}

pub acts-marked : ActsAreMarked
acts-marked c v old new log t made answer told r s =
    let raw : IsRawStep old 0 made answer told new = subst (λ p. StepsIn p old 0 made answer told new) r.recovering.phase s in
    let on : ActsOn c v old new t made answer told = acts-recover c v old new t made answer told r.recovering s in
    let same : SaysTheSame c (slice_index old.durable) (slice_index new.durable) = elim (busy-or answer) [ inl busy ↦ (on.goes_on busy).1.same | inr ends ↦ (on.ends ends).same ] in
    let k : Keeps c old new log (mark_of 0 made) = record {
      quiet = act-quiet log.start log.past made;
      before = r.words;
      after = act-words old new (state_after_marks log.start log.past) 0 made answer raw.one r.words r.past;
      same = same;
      past = act-past old new (state_after_marks log.start log.past) 0 made answer raw.one r.words r.past;
    } in
    record {
      same = same;
      decodes = still-decodes c old new log (mark_of 0 made) k;
      ends = λ ends. (let done = on.ends ends in record {
        recovers = done;
        marked = marked c v old new log (mark_of 0 made) Started Made t r k done.recovering (omega (arith, act-counted log.past made, some-come old (asks_of t), done.left));
      });
      goes_on = λ busy. (let asks = on.goes_on busy in record {
        quiet = asks.1.quiet;
        marked = marked c v old new log (mark_of 0 made) Started Started t r k asks.1.recovering (omega (arith, act-counted log.past made, asks.0, asks.1.left));
      });
    }

pub evictions-marked : EvictionsAreMarked
evictions-marked c v old new log turn t a told r within h =
    let stays : StaysRecovering c v old new turn t told = evictions-leave c v old new turn t a told r.recovering within h in
    let words : memory_words new ≡ evicted (memory_words old) a = ap memory_words h.is in
    let k : Keeps c old new log (Evict a) = record {
      quiet = evict-quiet log.start log.past a;
      before = r.words;
      after = words ∙ ap (λ w. evicted w a) r.words;
      same = stays.same;
      past = evict-past old new (state_after_marks log.start log.past) a told h r.past;
    } in
    record {
      stays = stays;
      marked = marked c v old new log (Evict a) turn turn t r k stays.recovering (omega (arith, stays.left, same-come old new turn (asks_of t) (ap (λ (m : SwapMemory). worker_of m 0) h.is)));
      decodes = still-decodes c old new log (Evict a) k;
    }

-- no call is open where a life begins
none-open : (past : List Mark) (w : ℕ) (opened : Open) → open_call w past ≡ None → open_call w past ≡ Some opened → ⊥
none-open past w opened none some = let bad : None ≡ Some opened = sym none ∙ some in absurd cc

-- the image of the moment where it begins
first-image : (start : List ℕ) (past : List Mark) (m : SwapMemory) → memory_words m ≡ words_after_marks start past → (i : ℕ) → suc (length past) ≤ i → i ≤ suc (length past) → slice_index m.durable ≡ image_at start i (Ready ∷ past)
first-image start past m words i from to =
    let now : i ≡ length (Ready ∷ past) = omega (arith, from, to) in
    ap (λ (w : Words). slice_index w.durable) words ∙ sym (ap (λ k. image_at start k (Ready ∷ past)) now ∙ ap (image_after start) (at_moment-now (Ready ∷ past)))

lives : (c : Config) (v : ℕ → ℕ) (m : SwapMemory) (log : Log) (t : Recover) → IsRecoveringIn c v m log Asked t → IsSeen c (renewed m) (renewed_instant c m) → IsLiving c (renewed m) (with_mark log Ready) (renewed_story c m log)
lives c v m log t r seen = record {
  from = omega arith;
  begins = λ w opened is. absurd (none-open log.past w opened (r.calls w) is);
  seen = seen;
  history = record { good = λ i from to. seen.good; step = λ i from to. absurd (omega (arith, from, to)) };
  words = r.words;
  past = renewed-past m (state_after_marks log.start log.past) r.past;
  images = first-image log.start log.past m r.words;
  effects = omega arith;
  reserved = λ w a e. absurd (true≢false (sym e));
  apart = λ w u a e f. absurd (true≢false (sym e));
  took = λ w k e. absurd (true≢false (sym e));
  took_apart = λ w u k e f. absurd (true≢false (sym e));
  awaits = λ w a held private. elim held [ inl o ↦ absurd (true≢false (sym o.took)) | inr r ↦ absurd (true≢false (sym r)) ];
  came = λ k e. inl (ap (λ b. nat_lt k c.nodes && b) (sym (r.same.inside k)) ∙ e);
  stored = λ w k e. absurd (true≢false (sym e));
}

pub gives-life : RecoveriesGiveLife
gives-life c v m log t r e =
    let revived : IsRevived c m = revives c v m t r.recovering e in
    record { revived = revived; untaken = r.untaken; unstored = r.unstored; living = λ holds. lives c v m log t r (revived.seen holds) }

-- the slots that the recovery's walk has held
pub walks-end : WalksEnd
walks-end c v m log t slots r e nodes walks = record {
  nodes = nodes;
  free = λ k l. subst (λ (b : Bool). Contains slots.free k ↔ (b ≡ false)) (r.same.inside k) (held.free k l);
}
  where
    tree : IsTreeOf c v (slice_index m.durable)
    tree = record { is = image-now c v m Asked t r.recovering; none = r.recovering.memory.form }

    held : AreReached c (slice_index m.durable) slots
    held = subst (λ (d : Config). AreReached d (slice_index m.durable) slots) r.recovering.config
        (recoveries_know.reached t v (slice_index m.durable) slots r.recovering.ready (nodes ∙ ap (λ (d : Config). d.nodes) (sym r.recovering.config)) walks (subst (λ (d : Config). IsTreeOf d v (slice_index m.durable)) (sym r.recovering.config) tree) (recoveries_know.finishes t e))
