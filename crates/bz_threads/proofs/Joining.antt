-- The passes of the batches are joined one after the other.
use Rattle.std.proofs.Common.{◌≡◌, ◌<◌, ◌≤◌, ◌⊎◌, inl, inr, ⊎_elim, ℕ, suc, Bool, true, false, List, [], ◌∷◌, ◌++◌, length, take, drop, refl, sym, ap, subst, ◌∙◌, arith, cond, ltb, nat_lt, Option, Some, None}
use Rattle.std.specs.Prelude.{All, ◌↔◌, if◌then◌else◌, slice_index_or}
use Rattle.std.proofs.lemmas.Bool.Decides.{nat_tests}
use Rattle.std.proofs.lemmas.Grind.{common_steps}
use Rattle.std.proofs.lemmas.List.Elements.{All-pop}
use Rattle.bz_bus.proofs.Entries.{extends_self, extends_trans}
use Rattle.bz_bus.specs.Entries.{Extends, longer, IsJoinOf}
use Rattle.bz_call.specs.declared.calls.Call.{Call}
use Rattle.bz_index.specs.Entries.{owner_of}
use Rattle.bz_index.specs.Passes.{origin_in, worker_of, seen_by, free_in, IsFree}
use Rattle.bz_index.specs.declared.answer.Answer.{Answer}
use Rattle.bz_index.specs.declared.answer.Answer.TheVariants.{Reply, Off, Recovering, Limit}
use Rattle.bz_index.specs.declared.index.Index.{Index}
use Rattle.bz_index.specs.declared.index.IndexPass.{IndexPass}
use Rattle.bz_index.specs.declared.shared.IndexEntry.{IndexEntry}
use Rattle.bz_index.specs.declared.shared.Origin.{Origin}
use Rattle.bz_layout.specs.declared.limits.TheConstants.{MAX_WORKERS}
use Rattle.bz_sched.specs.Queued.{calls_of}
use Rattle.bz_threads.specs.Inside.Batches.{paired, IsFirstOf, IsWorkers, IsOpened, HasWorked, IsDone, HasBatch, CoversWorkers, Fate, MetNone, lowered, IsAbove, IsBack, IsLowest, IsJoined}
use Rattle.bz_threads.specs.Inside.Runs.{end_of, HasRunOn}
use Rattle.bz_threads.specs.Made.{own_of, MakesAll}
use Rattle.bz_threads.specs.declared.batch.Batch.{Batch}
use Rattle.bz_index.specs.FromWorld.LimitKind.{LimitKind}

-- what a thread made of a batch that was opened
done_of : (index : Index) (waiting : List (ℕ × Call)) (first : List IndexEntry) (old new : Batch) → IsOpened index waiting first old → HasWorked index old new → IsDone index waiting first new
done_of index waiting first old new o h = record {
  pass = record { pass = h.pass; some = subst (λ (w : ℕ). 0 < w) (sym h.worker) o.pass.some; most = subst (λ (w : ℕ). w ≤ MAX_WORKERS) (sym h.worker) o.pass.most };
  calls = subst (λ (w : ℕ). paired w new.calls.items ≡ calls_of w waiting) (sym h.worker)
      (subst (λ (calls : List Call). paired (worker_of old.pass) calls ≡ calls_of (worker_of old.pass) waiting) (sym h.calls) o.calls);
  extends = subst (λ (seen : List IndexEntry). Extends seen (seen_by new.pass)) o.seen h.extends;
  made = subst (λ (w : ℕ). MakesAll (origin_in index) w new.calls.items first (seen_by new.pass) new.stopped) (sym h.worker)
      (subst (λ (calls : List Call). MakesAll (origin_in index) (worker_of old.pass) calls first (seen_by new.pass) new.stopped) (sym h.calls)
      (subst (λ (seen : List IndexEntry). MakesAll (origin_in index) (worker_of old.pass) old.calls.items seen (seen_by new.pass) new.stopped) o.seen h.made));
}

abbrev pub AllWorked : Index → List Batch → List Batch → Type 0
AllWorked index olds news = (i : ℕ) (d : Batch) → i < length olds → HasWorked index (slice_index_or olds i d) (slice_index_or news i d)

pub all_done : (index : Index) (waiting : List (ℕ × Call)) (first : List IndexEntry) (olds news : List Batch) → length news ≡ length olds → All (IsOpened index waiting first) olds → AllWorked index olds news → All (IsDone index waiting first) news
all_done index waiting first olds news same opened worked = λ k d lt. done_of index waiting first (slice_index_or olds k d) (slice_index_or news k d) (opened k d (omega arith)) (worked k d (omega arith))

pub has_worked : (index : Index) (w : ℕ) (olds news : List Batch) → length news ≡ length olds → AllWorked index olds news → HasBatch w olds → HasBatch w news
has_worked index w [] news same worked has = absurd has
has_worked index w (old ∷ olds) [] same worked has = absurd (omega arith)
has_worked index w (old ∷ olds) (new ∷ news) same worked (inl is) = inl ((worked 0 old (omega arith)).worker ∙ is)
has_worked index w (old ∷ olds) (new ∷ news) same worked (inr has) = inr (has_worked index w olds news (omega arith) (λ i d lt. worked (suc i) d (omega arith)) has)

pub has_last : (w : ℕ) (batches : List Batch) (batch : Batch) → HasBatch w (batches ++ batch ∷ []) → HasBatch w batches ⊎ (worker_of batch.pass ≡ w)
has_last w [] batch (inl is) = inr is
has_last w [] batch (inr none) = absurd none
has_last w (x ∷ batches) batch (inl is) = inl (inl is)
has_last w (x ∷ batches) batch (inr has) = ⊎_elim (λ before. inl (inr before)) (λ last. inr last) (has_last w batches batch has)

-- no batch is joined yet
pub joined_none : (index : Index) (waiting : List (ℕ × Call)) (first : List IndexEntry) (p : IndexPass) (batches : List Batch) → IsFirstOf index p → seen_by p ≡ first → All (IsDone index waiting first) batches
    → ((w : ℕ) → 0 < w → w ≤ MAX_WORKERS → HasBatch w batches ⊎ (IsFree p w × (calls_of w waiting ≡ []))) → IsJoined index waiting first p batches None
joined_none index waiting first p batches pass seen done each =
    let grown : Extends first (seen_by p) = ([], seen) in
    record {
      pass = pass;
      grown = grown;
      quiet = rw seen refl;
      done = done;
      each = λ w some most. ⊎_elim (λ has. inl has)
          (λ (free, none). inr (record {
            free = free;
            met = None;
            fate = record { calls = []; are = sym none; seen = first; since = extends_self first; extends = grown; own = ap (own_of w) seen; made = refl };
            above = tt;
          }))
          (each w some most);
      limit = tt;
    }

written_back : (olds news : List Batch) (n : ℕ) → n ≡ length olds → length news ≡ length olds → take n (news ++ drop (length news) olds) ≡ news
written_back olds news n is same = grind (arith, common_steps)

-- nor when threads have done the batches that were opened
pub joined_at_first : (index : Index) (waiting : List (ℕ × Call)) (first : List IndexEntry) (p : IndexPass) (olds news read : List Batch) (n : ℕ) → IsFirstOf index p → seen_by p ≡ first → All (IsOpened index waiting first) olds
    → ((w : ℕ) → 0 < w → w ≤ MAX_WORKERS → HasBatch w olds ⊎ (IsFree p w × (calls_of w waiting ≡ []))) → read ≡ olds → length news ≡ length read → n ≡ length olds → AllWorked index read news
    → IsJoined index waiting first p (take n (news ++ drop (length news) olds)) None
joined_at_first index waiting first p olds news read n pass seen opened each is same counted worked =
    let lengths : length news ≡ length olds = same ∙ ap length is in
    let all : AllWorked index olds news = subst (λ (batches : List Batch). AllWorked index batches news) is worked in
    subst (λ (batches : List Batch). IsJoined index waiting first p batches None) (sym (written_back olds news n counted lengths))
    (joined_none index waiting first p news pass seen (all_done index waiting first olds news lengths opened all)
    (λ w some most. ⊎_elim (λ has. inl (has_worked index w olds news lengths all has)) (λ idle. inr idle) (each w some most)))

fate_stays : (origin : Origin) (w : ℕ) (waiting : List (ℕ × Call)) (first mid now : List IndexEntry) (met : Option Answer) → Extends mid now → own_of w now ≡ own_of w mid → Fate origin w waiting first mid met → Fate origin w waiting first now met
fate_stays origin w waiting first mid now met extends own f = record {
  calls = f.calls;
  are = f.are;
  seen = f.seen;
  since = f.since;
  extends = extends_trans f.seen mid now f.extends extends;
  own = own ∙ f.own;
  made = f.made;
}

above_by : (b : Bool) (v u w : ℕ) (other which : LimitKind) (met : Option Answer) → nat_lt v u ≡ b → (w < v → MetNone met) → IsAbove (if b then Some (v, other) else Some (u, which)) w met
above_by true v u w other which met is above = above
above_by false v u w other which met is above = λ below. above (let not : u ≤ v = grind (arith, nat_tests) in omega arith)

-- who was above the lowest one still is, once one more is asked
above_stays : (lowest : Option (ℕ × LimitKind)) (u w : ℕ) (stopped met : Option Answer) → IsAbove lowest w met → IsAbove (lowered lowest u stopped) w met
above_stays lowest u w None met above = above
above_stays lowest u w (Some (Reply reply)) met above = above
above_stays lowest u w (Some Off) met above = above
above_stays lowest u w (Some Recovering) met above = above
above_stays None u w (Some (Limit which)) met above = λ below. above
above_stays (Some (v, other)) u w (Some (Limit which)) met above = above_by (nat_lt v u) v u w other which met refl above

met_none : (lowest : Option (ℕ × LimitKind)) (w : ℕ) (met : Option Answer) → MetNone met → IsAbove lowest w met
met_none None w met none = none
met_none (Some (v, which)) w met none = λ below. none

above_itself : (b : Bool) (v w : ℕ) (other which : LimitKind) (met : Option Answer) → nat_lt v w ≡ b → IsAbove (if b then Some (v, other) else Some (w, which)) w met
above_itself true v w other which met is = λ below. absurd (let before : v < w = grind (arith, nat_tests) in omega arith)
above_itself false v w other which met is = λ below. absurd (omega arith)

-- and that one is
above_own : (lowest : Option (ℕ × LimitKind)) (w : ℕ) (met : Option Answer) → IsAbove (lowered lowest w met) w met
above_own lowest w None = met_none lowest w None tt
above_own lowest w (Some (Reply reply)) = met_none lowest w (Some (Reply reply)) tt
above_own lowest w (Some Off) = met_none lowest w (Some Off) tt
above_own lowest w (Some Recovering) = met_none lowest w (Some Recovering) tt
above_own None w (Some (Limit which)) = λ below. absurd (omega arith)
above_own (Some (v, other)) w (Some (Limit which)) = above_itself (nat_lt v w) v w other which (Some (Limit which)) refl

module _ (index : Index) (waiting : List (ℕ × Call)) (first : List IndexEntry) (p now : IndexPass) (rest : List Batch) (batch : Batch) (lowest : Option (ℕ × LimitKind))
    (j : IsJoined index waiting first p (rest ++ batch ∷ []) lowest) (pass : IsFirstOf index now)
    (join : IsJoinOf owner_of (seen_by p) (seen_by batch.pass) (worker_of batch.pass) (free_in p) (seen_by now))
    (free : (w : ℕ) → IsFree now w ↔ (IsFree p w ⊎ (w ≡ worker_of batch.pass))) where
  popped : All (IsDone index waiting first) rest × IsDone index waiting first batch
  popped = All-pop (IsDone index waiting first) (rest ++ batch ∷ []) rest (Some batch) refl j.done

  done : IsDone index waiting first batch
  done = popped.1

  fate : Fate (origin_in index) (worker_of batch.pass) waiting first (seen_by now) batch.stopped
  fate = record { calls = batch.calls.items; are = done.calls; seen = seen_by batch.pass; since = done.extends; extends = join.extends_theirs; own = join.joined; made = done.made }

  back_stays : (w : ℕ) → w ≤ MAX_WORKERS → IsBack index waiting first p lowest w → IsBack index waiting first now (lowered lowest (worker_of batch.pass) batch.stopped) w
  back_stays w most back = record {
    free = (free w).1 (inl back.free);
    met = back.met;
    fate = fate_stays (origin_in index) w waiting first (seen_by p) (seen_by now) back.met join.extends_mine (join.others w (omega arith) back.free) back.fate;
    above = above_stays lowest (worker_of batch.pass) w batch.stopped back.met back.above;
  }

  own_back : (w : ℕ) → worker_of batch.pass ≡ w → IsBack index waiting first now (lowered lowest (worker_of batch.pass) batch.stopped) w
  own_back w is = subst (IsBack index waiting first now (lowered lowest (worker_of batch.pass) batch.stopped)) is (record {
    free = (free (worker_of batch.pass)).1 (inr refl);
    met = batch.stopped;
    fate = fate;
    above = above_own lowest (worker_of batch.pass) batch.stopped;
  })

  lowest_stays : (low : Option (ℕ × LimitKind)) → IsLowest index waiting first p low → IsLowest index waiting first now low
  lowest_stays None low = tt
  lowest_stays (Some (v, which)) (some, most, was, f) =
      (some, most, (free v).1 (inl was), fate_stays (origin_in index) v waiting first (seen_by p) (seen_by now) (Some (Limit which)) join.extends_mine (join.others v (omega arith) was) f)

  own_lowest : (which : LimitKind) → Fate (origin_in index) (worker_of batch.pass) waiting first (seen_by now) (Some (Limit which)) → IsLowest index waiting first now (Some (worker_of batch.pass, which))
  own_lowest which f = (done.pass.some, done.pass.most, (free (worker_of batch.pass)).1 (inr refl), f)

  lower_by : (b : Bool) (v : ℕ) (other which : LimitKind) → IsLowest index waiting first p (Some (v, other)) → Fate (origin_in index) (worker_of batch.pass) waiting first (seen_by now) (Some (Limit which))
      → IsLowest index waiting first now (if b then Some (v, other) else Some (worker_of batch.pass, which))
  lower_by true v other which low f = lowest_stays (Some (v, other)) low
  lower_by false v other which low f = own_lowest which f

  lowest_by : (low : Option (ℕ × LimitKind)) (met : Option Answer) → IsLowest index waiting first p low → Fate (origin_in index) (worker_of batch.pass) waiting first (seen_by now) met
      → IsLowest index waiting first now (lowered low (worker_of batch.pass) met)
  lowest_by low None is f = lowest_stays low is
  lowest_by low (Some (Reply reply)) is f = lowest_stays low is
  lowest_by low (Some Off) is f = lowest_stays low is
  lowest_by low (Some Recovering) is f = lowest_stays low is
  lowest_by None (Some (Limit which)) is f = own_lowest which f
  lowest_by (Some (v, other)) (Some (Limit which)) is f = lower_by (nat_lt v (worker_of batch.pass)) v other which is f

  -- one batch more is joined
  pub joined_more : IsJoined index waiting first now rest (lowered lowest (worker_of batch.pass) batch.stopped)
  joined_more = record {
    pass = pass;
    grown = extends_trans first (seen_by p) (seen_by now) j.grown join.extends_mine;
    quiet = join.first ∙ j.quiet;
    done = popped.0;
    each = λ w some most. ⊎_elim
        (λ has. ⊎_elim (λ before. inl before) (λ is. inr (own_back w is)) (has_last w rest batch has))
        (λ back. inr (back_stays w most back))
        (j.each w some most);
    limit = lowest_by lowest batch.stopped j.limit fate;
  }

-- passes of batches of which nothing is done
pub record Giving (index : Index) (first : List IndexEntry) (p : IndexPass) (batches : List Batch) : Type 0 where
  pub pass : IsFirstOf index p
  pub seen : seen_by p ≡ first
  pub back : All (λ batch. IsWorkers index batch.pass × (seen_by batch.pass ≡ first)) batches
  pub covers : CoversWorkers batches p

same_longer : (xs ys first : List IndexEntry) → xs ≡ first → ys ≡ first → longer xs ys ≡ first
same_longer xs ys first e f = by_test (ltb (length xs) (length ys))
  where
    by_test : (b : Bool) → cond b ys xs ≡ first
    by_test true = f
    by_test false = e

pub giving_more : (index : Index) (first : List IndexEntry) (p now : IndexPass) (rest : List Batch) (batch : Batch) → Giving index first p (rest ++ batch ∷ []) → All (λ j. IsWorkers index j.pass × (seen_by j.pass ≡ first)) rest → seen_by batch.pass ≡ first → IsFirstOf index now
    → IsJoinOf owner_of (seen_by p) (seen_by batch.pass) (worker_of batch.pass) (free_in p) (seen_by now) → ((w : ℕ) → IsFree now w ↔ (IsFree p w ⊎ (w ≡ worker_of batch.pass))) → Giving index first now rest
giving_more index first p now rest batch g batches seen pass join free = record {
  pass = pass;
  seen = join.is ∙ same_longer (seen_by p) (seen_by batch.pass) first g.seen seen;
  back = batches;
  covers = λ w some most. ⊎_elim
      (λ has. ⊎_elim (λ before. inl before) (λ is. inr ((free w).1 (inr (sym is)))) (has_last w rest batch has))
      (λ was. inr ((free w).1 (inl was)))
      (g.covers w some most);
}

-- every worker is back once all batches are joined
pub all_back : (index : Index) (waiting : List (ℕ × Call)) (first : List IndexEntry) (p : IndexPass) (lowest : Option (ℕ × LimitKind)) → IsJoined index waiting first p [] lowest → (w : ℕ) → 0 < w → w ≤ MAX_WORKERS → IsFree p w
all_back index waiting first p lowest j w some most = ⊎_elim (λ none. absurd none) (λ back. back.free) (j.each w some most)

pub all_joined : (index : Index) (waiting : List (ℕ × Call)) (first : List IndexEntry) (p : IndexPass) (lowest : Option (ℕ × LimitKind)) → IsJoined index waiting first p [] lowest → HasRunOn index waiting first p (end_of lowest)
all_joined index waiting first p None j = j
all_joined index waiting first p (Some (w, which)) j = (w, j)
