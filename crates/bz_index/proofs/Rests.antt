-- Workers that are at rest, and what the passes know of them.
use Rattle.std.proofs.Common.{◌≡◌, ◌≢◌, ℕ, ◌-◌, ◌<◌, ◌≤◌, ◌⊎◌, inl, inr, ⊎_elim, Bool, true, false, List, ◌++◌, length, length-append, refl, sym, ap, ◌∙◌, subst, arith, cond, ltb-true, lt-ltb, None}
use Rattle.std.specs.Prelude.{◌↔◌, ltb}
use Rattle.std.proofs.lemmas.Bool.{cases_lt}
use Rattle.bz_bus.proofs.Entries.{none_added, leaves_others, leaves_extends, extends_trans}
use Rattle.bz_bus.specs.Entries.{Extends, longer, entries_of, IsFreeIn, MayFind, MayLeave, IsJoinOf}
use Rattle.bz_bus.specs.declared.TheConstants.{PASSES}
use Rattle.bz_index.proofs.Lists.{length-marks, log-told}
use Rattle.bz_index.proofs.OpenCalls.{none_stays}
use Rattle.bz_index.specs.Entries.{owner_of, marks_in, log_of}
use Rattle.bz_index.specs.Passes.{IsAtRest, IsFirst}
use Rattle.bz_index.specs.Worlds.{IsWorldOf}
use Rattle.bz_index.specs.declared.shared.IndexEntry.{IndexEntry}
use Rattle.bz_index.specs.declared.shared.Origin.{Origin}
use Rattle.bz_mark.specs.Log.{Log}
use Rattle.bz_sound.specs.Calls.{open_call}
use Rattle.bz_world.specs.WorldView.{WorldView, is_short}

pub length-extends : (xs ys : List IndexEntry) → Extends xs ys → length xs ≤ length ys
length-extends xs ys (added, is) = let l = ap length is in omega (arith, length-append added xs)

-- a journal that grows has no more room
short_stays : (origin : Origin) (xs ys : List IndexEntry) → Extends xs ys → is_short (log_of origin xs) ≡ true → is_short (log_of origin ys) ≡ true
short_stays origin xs ys extends short =
    let longer : length (marks_in xs) ≤ length (marks_in ys) = omega (arith, length-marks xs, length-marks ys, length-extends xs ys extends) in
    let before : origin.marks - length (marks_in xs) < 3 = ltb-true (origin.marks - length (marks_in xs)) 3 short in
    lt-ltb (origin.marks - length (marks_in ys)) 3 (omega arith)

-- a worker of which nothing is added stays at rest
pub rest_stays : (origin : Origin) (w : ℕ) (xs ys : List IndexEntry) → w < PASSES → Extends xs ys → entries_of owner_of w ys ≡ entries_of owner_of w xs → IsAtRest origin xs w → IsAtRest origin ys w
rest_stays origin w xs ys below (added, is) own rests = ⊎_elim
    (λ none.
    let same : entries_of owner_of w (added ++ xs) ≡ entries_of owner_of w xs = ap (entries_of owner_of w) (sym is) ∙ own in
    inl (ap (λ (es : List IndexEntry). open_call w (marks_in es)) is ∙ none_stays w added xs below (none_added owner_of w added xs same) none))
    (λ short. inr (short_stays origin xs ys (added, is) short))
    rests

-- what the first pass knows when the index is opened
pub first_opened : (origin : Origin) (seen : List IndexEntry) (lab : WorldView) (free : List Bool) → IsWorldOf origin seen lab → ((w : ℕ) → open_call w lab.log.past ≡ None) → ((n : ℕ) → 0 < n → IsFreeIn free n)
    → IsFirst origin seen free
first_opened origin seen lab free is none all = record {
  rests = λ w some within f. inl (ap (λ (log : Log). open_call w log.past) (log-told origin seen lab is) ∙ none w);
  beyond = λ w more. all w (omega arith);
}

-- after a turn of its own
pub first_turned : (origin : Origin) (free : List Bool) (seen found left : List IndexEntry) → origin.config.workers < PASSES → MayFind owner_of 0 free seen found → MayLeave owner_of 0 found left
    → IsFirst origin seen free → IsFirst origin left free
first_turned origin free seen found left below may leaves first = record {
  rests = λ w some within f. rest_stays origin w seen left (omega arith)
      (extends_trans seen found left may.extends (leaves_extends owner_of 0 found left leaves))
      (leaves_others owner_of 0 w found left leaves (λ e. omega arith) (omega arith) ∙ may.others refl w (omega arith) f)
      (first.rests w some within f);
  beyond = first.beyond;
}

-- once a worker is out
pub first_lent : (origin : Origin) (old new : List Bool) (seen : List IndexEntry) (worker : ℕ) → worker ≤ origin.config.workers
    → ((w : ℕ) → IsFreeIn new w ↔ (IsFreeIn old w × (w ≢ worker))) → IsFirst origin seen old → IsFirst origin seen new
first_lent origin old new seen worker within free first = record {
  rests = λ w some below f. first.rests w some below ((free w).0 f).0;
  beyond = λ w more. (free w).1 (first.beyond w more, (λ e. omega arith));
}

module _ (P : List IndexEntry → Type 0) where
  of_both : (b : Bool) (xs ys : List IndexEntry) → P xs → P ys → P (cond b ys xs)
  of_both true xs ys a b = b
  of_both false xs ys a b = a

  -- what holds of two lists holds of the longer
  pub of_longer : (xs ys now : List IndexEntry) → now ≡ longer xs ys → P xs → P ys → P now
  of_longer xs ys now is a b = subst P (sym is) (of_both (ltb (length xs) (length ys)) xs ys a b)

-- once a worker is back
pub first_joined : (origin : Origin) (old new : List Bool) (mine theirs now : List IndexEntry) (worker : ℕ) → origin.config.workers < PASSES → IsJoinOf owner_of mine theirs worker old now
    → ((w : ℕ) → IsFreeIn new w ↔ (IsFreeIn old w ⊎ (w ≡ worker))) → IsAtRest origin theirs worker → IsFirst origin mine old → IsFirst origin now new
first_joined origin old new mine theirs now worker below join free rests first = record {
  rests = λ w some within f. ⊎_elim
      (λ was. rest_stays origin w mine now (omega arith) join.extends_mine (join.others w (omega arith) was) (first.rests w some within was))
      (λ is. subst (IsAtRest origin now) (sym is) (rest_stays origin worker theirs now (omega arith) join.extends_theirs join.joined rests))
      ((free w).0 f);
  beyond = λ w more. (free w).1 (inl (first.beyond w more));
}

-- once every worker of the world is free, each number is
pub all_free : (origin : Origin) (seen : List IndexEntry) (free : List Bool) → IsFirst origin seen free → ((w : ℕ) → 0 < w → w ≤ origin.config.workers → IsFreeIn free w) → (n : ℕ) → 0 < n → n < PASSES → IsFreeIn free n
all_free origin seen free first workers n some below = ⊎_elim (λ more. first.beyond n more) (λ within. workers n some within) (cases_lt origin.config.workers n)
