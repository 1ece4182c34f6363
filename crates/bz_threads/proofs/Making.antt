-- Calls that were made one after the other.
use Rattle.std.proofs.Common.{◌≡◌, ◌≤◌, ◌<◌, ℕ, ◌+◌, false, List, [], ◌∷◌, ◌++◌, length, take, drop, get_or, refl, sym, ap, subst, ◌∙◌, ◌==◌, arith, append_assoc, Some, None}
use Rattle.std.specs.Prelude.{true}
use Rattle.std.proofs.lemmas.Grind.{common_steps}
use Rattle.std.proofs.lemmas.List.{drop_more, take_more}
use Rattle.bz_bus.proofs.Entries.{extends_self, extends_trans}
use Rattle.bz_bus.specs.Entries.{Extends}
use Rattle.bz_call.specs.declared.calls.Call.{Call}
use Rattle.bz_index.specs.Calls.{begin_entry}
use Rattle.bz_index.specs.Entries.{marks_in}
use Rattle.bz_index.specs.Passes.{origin_in, worker_of, seen_by, IsPassOf}
use Rattle.bz_index.specs.declared.answer.Answer.{Answer}
use Rattle.bz_index.specs.declared.index.Index.{Index}
use Rattle.bz_index.specs.declared.index.IndexPass.{IndexPass}
use Rattle.bz_index.specs.declared.shared.IndexEntry.{IndexEntry}
use Rattle.bz_mark.specs.declared.marks.Mark.TheVariants.{End}
use Rattle.bz_sched.specs.Together.{begun_in}
use Rattle.bz_threads.proofs.Owns.{ends_open, marks-append, begun-append}
use Rattle.bz_threads.specs.Inside.Batches.{paired}
use Rattle.bz_threads.specs.Made.{own_of, IsMade, AreMade, MakesOne, MakesAll}

one_more_made : (w : ℕ) (calls : List Call) (call : Call) (old mid new : List IndexEntry) → AreMade w calls old mid → IsMade w call mid new → AreMade w (calls ++ call ∷ []) old new
one_more_made w [] call old mid new same made = (new, subst (λ (z : List IndexEntry). IsMade w call z new) same made, refl)
one_more_made w (first ∷ calls) call old mid new (after, is, are) made = (after, is, one_more_made w calls call after mid new are made)

-- so many of the calls were made
pub record Making (index : Index) (w : ℕ) (calls : List Call) (k : ℕ) (first : List IndexEntry) (p : IndexPass) : Type 0 where
  pub pass : IsPassOf index p
  pub worker : worker_of p ≡ w
  pub extends : Extends first (seen_by p)
  pub made : AreMade w (take k calls) (own_of w first) (own_of w (seen_by p))

pub making_none : (index : Index) (calls : List Call) (p : IndexPass) → IsPassOf index p → Making index (worker_of p) calls 0 (seen_by p) p
making_none index calls p pass = record { pass = pass; worker = refl; extends = extends_self (seen_by p); made = refl }

module _ (index : Index) (w : ℕ) (calls : List Call) (k : ℕ) (first : List IndexEntry) (p now : IndexPass) (m : Making index w calls k first p) where
  -- one more was made
  pub making_more : (call : Call) → k < length calls → call ≡ get_or calls k call → IsPassOf index now → worker_of now ≡ worker_of p → Extends (seen_by p) (seen_by now)
      → MakesOne (origin_in index) (worker_of p) call (seen_by p) (seen_by now) None → Making index w calls (k + 1) first now
  making_more call lt is pass worker extends one =
      let made : IsMade w call (own_of w (seen_by p)) (own_of w (seen_by now)) = subst (λ (v : ℕ). IsMade v call (own_of v (seen_by p)) (own_of v (seen_by now))) m.worker one in
      let next : take (k + 1) calls ≡ take k calls ++ call ∷ [] = take_more calls k call lt ∙ ap (λ (x : Call). take k calls ++ x ∷ []) (sym is) in
      record {
        pass = pass;
        worker = worker ∙ m.worker;
        extends = extends_trans first (seen_by p) (seen_by now) m.extends extends;
        made = rw next (one_more_made w (take k calls) call _ _ _ m.made made);
      }

  -- one was answered otherwise
  pub making_stops : (call : Call) (answer : Answer) → k < length calls → call ≡ get_or calls k call → MakesOne (origin_in index) (worker_of p) call (seen_by p) (seen_by now) (Some answer)
      → MakesAll (origin_in index) w calls first (seen_by now) (Some answer)
  making_stops call answer lt is one =
      let here : drop k calls ≡ call ∷ drop (k + 1) calls = drop_more calls k call lt ∙ ap (λ (x : Call). x ∷ drop (k + 1) calls) (sym is) in
      let whole : take k calls ++ drop k calls ≡ calls = grind (arith, common_steps) in
      record {
        made = take k calls;
        call = call;
        rest = drop (k + 1) calls;
        are = sym whole ∙ ap (λ (xs : List Call). take k calls ++ xs) here;
        seen = seen_by p;
        before = m.extends;
        replied = m.made;
        stops = subst (λ (v : ℕ). MakesOne (origin_in index) v call (seen_by p) (seen_by now) (Some answer)) m.worker one;
      }

pub making_done : (index : Index) (w : ℕ) (calls : List Call) (k : ℕ) (first : List IndexEntry) (p : IndexPass) → Making index w calls k first p → length calls ≤ k → MakesAll (origin_in index) w calls first (seen_by p) None
making_done index w calls k first p m all =
    let whole : take k calls ≡ calls = grind (arith, common_steps) in
    subst (λ (xs : List Call). AreMade w xs (own_of w first) (own_of w (seen_by p))) whole m.made

-- what calls that were made added to their worker's entries
pub record MadeAdds (w : ℕ) (calls : List Call) (old new : List IndexEntry) : Type 0 where
  pub added : List IndexEntry
  pub is : new ≡ added ++ old
  pub begun : begun_in w (marks_in added) ≡ paired w calls
  pub closed : ends_open added ≡ false

still_closed : (xs ys : List IndexEntry) → ends_open xs ≡ false → ends_open ys ≡ false → ends_open (xs ++ ys) ≡ false
still_closed [] ys e f = f
still_closed (x ∷ xs) ys e f = e

pub same_worker : (w : ℕ) → (w == w) ≡ true
same_worker w = grind (arith, common_steps)

pub made_adds : (w : ℕ) (calls : List Call) (old new : List IndexEntry) → AreMade w calls old new → MadeAdds w calls old new
made_adds w [] old new same = record { added = []; is = same; begun = refl; closed = refl }
made_adds w (call ∷ calls) old new (mid, one, rest) =
    let later = made_adds w calls mid new rest in
    let two : List IndexEntry = record { mark = End w one.number one.reply one.at; page = one.page } ∷ begin_entry w one.number call ∷ [] in
    record {
      added = later.added ++ two;
      is = later.is ∙ ap (λ (xs : List IndexEntry). later.added ++ xs) one.is ∙ sym (append_assoc later.added two old);
      begun = ap (begun_in w) (marks-append later.added two) ∙ begun-append w (marks_in later.added) (marks_in two)
          ∙ rw (same_worker w) (ap (λ (xs : List (ℕ × Call)). (w, call) ∷ xs) later.begun);
      closed = still_closed later.added two later.closed refl;
    }
