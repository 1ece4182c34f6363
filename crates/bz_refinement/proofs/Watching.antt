-- What a mark by which no swap takes effect is to each worker.
use Rattle.std.proofs.Common.{◌≡◌, ◌≢◌, ℕ, zero, suc, ◌+◌, ◌≤◌, ◌||◌, ◌==◌, Bool, true, false, List, ◌∷◌, length, arith, refl, sym, ap, subst, ◌∙◌, inl, inr}
use Rattle.std.proofs.lemmas.Bool.Decides.{nat_tests}
use Rattle.bz_layout.specs.Addresses.{node_address, line_of}
use Rattle.bz_layout.specs.declared.config.Config.{Config}
use Rattle.bz_mark.specs.Log.{Log}
use Rattle.bz_mark.proofs.MomentLaws.{mark_at-earlier}
use Rattle.bz_mark.specs.declared.marks.Mark.{Mark}
use Rattle.bz_sight.specs.Awaiting.{Awaits}
use Rattle.bz_sight.specs.Passing.{Passed, AllStay}
use Rattle.bz_sight.specs.Sight.{next_instant}
use Rattle.bz_sight.specs.Starts.{Sees}
use Rattle.bz_sight.proofs.Proved.{acts_leave_all, acts_pass, flushes_are_seen, stores_are_seen}
use Rattle.bz_sound.specs.Calls.{Open}
use Rattle.bz_swap.specs.SwapMemory.{SwapMemory, is_settled_at}
use Rattle.bz_task.specs.Instant.{Instant, IsDurableAt, words}
use Rattle.bz_task.specs.Others.{AreApart, Watches, LeavesAll, StoresTo}
use Rattle.bz_task.specs.OwnActs.{Stores, Flushes}
use Rattle.bz_task.specs.Scene.{Scene, IsOfTaken, IsMine, Continues, IsLawful, here}
use Rattle.bz_task.specs.Shown.{IsShown, SameShownNode, SameRecords}
use Rattle.bz_task.specs.Steps.{IsQuiet}
use Rattle.bz_task.proofs.Proved.{quiet_acts_are_lawful, same_records_show_the_same, stores_are_lawful}
use Rattle.bz_word.specs.Statuses.{status}
use Rattle.bz_refinement.specs.Laws.{HasBegun, GoesOn, QuietMarksAreLawful, IsStore, StoresAreTold, FlushesAreTold, goes_on, fills}
use Rattle.bz_refinement.specs.Story.{Story, scene, loaded, is_load_of}
use Rattle.bz_refinement.proofs.Awaiting.{of-mine}
use Rattle.bz_refinement.proofs.Scenes.{now-is, before-is, scenes-apart, scenes-seen}

-- which of the first marks are loads stays as marks are added
loads-stay : (past : List Mark) (mark : Mark) (w moment : ℕ) → moment ≤ length past → loaded (mark ∷ past) w moment ≡ loaded past w moment
loads-stay past mark w zero l = refl
loads-stay past mark w (suc k) l = ap (is_load_of w) (mark_at-earlier k mark past (omega (arith, l)))

-- what a worker has seen stays, with one moment more
pub continues : (c : Config) (past : List Mark) (mark : Mark) (story after : Story) (w since : ℕ) (opened later : Open) → ((m : ℕ) → m ≤ length past → after.at m ≡ story.at m)
    → Continues (scene c past story w since opened).past (scene c (mark ∷ past) after w since later).past
continues c past mark story after w since opened later at = record {
  config = refl;
  now = omega arith;
  since = refl;
  at = at;
  loads = loads-stay past mark w;
}

-- words that readers do not read are as little read afterwards
pub mine-stays : (s after : Scene) → after.past.config ≡ s.past.config → IsQuiet s.past.config (here s) (here after) → ((a : ℕ) → after.reserved a ≡ s.reserved a) → ((k : ℕ) → after.took k ≡ s.took k) → (a : ℕ) → IsMine s a → IsMine after a
mine-stays s after config q reserved took a mine = record {
  own = elim mine.own [ inl o ↦ inl (still-taken o) | inr r ↦ inr (reserved a ∙ r) ];
  hidden = λ k i r l e h.
      let was : (here s).reached k ≡ true = sym (q.reached k) ∙ r in
      let same : SameRecords (words s.past.config (here s) k) (words s.past.config (here after) k) = records k (q.nodes k was) in
      mine.hidden k i was l (subst (λ c. a ≡ node_address c k + i) config e)
      ((same_records_show_the_same (words s.past.config (here s) k) (words s.past.config (here after) k) same i).1 (subst (λ c. IsShown (words c (here after) k) i) config h));
}
  where
    still-taken : IsOfTaken s a → IsOfTaken after a
    still-taken o = record {
      slot = o.slot;
      place = o.place;
      address = o.address ∙ ap (λ c. node_address c o.slot + o.place) (sym config);
      within = o.within;
      took = took o.slot ∙ o.took;
      unreached = q.reached o.slot ∙ o.unreached;
    }

    records : (k : ℕ) → SameShownNode s.past.config (here s) (here after) k → SameRecords (words s.past.config (here s) k) (words s.past.config (here after) k)
    records k n = record {
      count = ap (λ w. (status w).count) (n 0 (inl (omega arith)));
      block = ap (λ w. (status w).block) (n 0 (inl (omega arith)));
      words = λ i ne h. n i h;
    }

module _ (c : Config) (old new : SwapMemory) (log : Log) (story : Story) (mark : Mark) (g : GoesOn c old new log story mark) where
  abbrev x : Instant
  x = story.at (length log.past)

  abbrev y : Instant
  y = next_instant new (story.at (length log.past))

  passed : Passed c (story.at (length log.past)) new
  passed = acts_pass c (story.at (length log.past)) old new g.living.seen g.passes

  before : (filled : ℕ → ℕ → Bool) (m : ℕ) → m ≤ length log.past → (goes_on log story new filled).at m ≡ story.at m
  before filled m l = before-is story.at (length log.past) m (next_instant new (story.at (length log.past))) l

  later-here : (filled : ℕ → ℕ → Bool) (w since : ℕ) (opened : Open) → here (scene c (mark ∷ log.past) (goes_on log story new filled) w since opened) ≡ next_instant new (story.at (length log.past))
  later-here filled w since opened = now-is story.at (length log.past) (next_instant new (story.at (length log.past)))

  sees : (w since : ℕ) (opened : Open) → HasBegun log story since → Sees c (story.at (length log.past)) (scene c log.past story w since opened)
  sees w since opened begun = scenes-seen c old log story w since opened g.living begun

  -- for one who did nothing
  watches : (filled : ℕ → ℕ → Bool) (w since : ℕ) (opened : Open) → ((k : ℕ) → filled w k ≡ story.filled w k) → Watches (scene c log.past story w since opened) (scene c (mark ∷ log.past) (goes_on log story new filled) w since opened) (next_instant new (story.at (length log.past)))
  watches filled w since opened same = record {
    continues = continues c log.past mark story (goes_on log story new filled) w since opened opened (before filled);
    here = later-here filled w since opened;
    effected = refl;
    reserved = λ a. refl;
    took = λ k. refl;
    filled = same;
  }

  leaves : AllStay old new → (w since : ℕ) (opened : Open) → HasBegun log story since → LeavesAll (scene c log.past story w since opened) (next_instant new (story.at (length log.past)))
  leaves all w since opened begun = acts_leave_all c (story.at (length log.past)) old new (scene c log.past story w since opened) g.living.seen g.passes all (sees w since opened begun).scene refl refl

  lawful : AllStay old new → (w since : ℕ) (opened : Open) → HasBegun log story since → IsLawful (scene c log.past story w since opened) (scene c (mark ∷ log.past) (goes_on log story new story.filled) w since opened)
  lawful all w since opened begun = quiet_acts_are_lawful (scene c log.past story w since opened) _ (next_instant new (story.at (length log.past))) (leaves all w since opened begun) (watches story.filled w since opened (λ k. refl))

  -- own words stay one's own
  own-stays : (filled : ℕ → ℕ → Bool) (w since : ℕ) (opened : Open) (a : ℕ) → IsMine (scene c log.past story w since opened) a → IsMine (scene c (mark ∷ log.past) (goes_on log story new filled) w since opened) a
  own-stays filled w since opened = mine-stays (scene c log.past story w since opened) (scene c (mark ∷ log.past) (goes_on log story new filled) w since opened) refl (subst (IsQuiet c (story.at (length log.past))) (sym (later-here filled w since opened)) passed.rests.quiet) (λ a. refl) (λ k. refl)

  -- the end of a flush of one's own
  flushes : AllStay old new → (w line since : ℕ) (opened : Open) → HasBegun log story since → ((a : ℕ) → line_of a ≡ line → Awaits old w a → is_settled_at new a ≡ true)
      → Flushes line (scene c log.past story w since opened) (scene c (mark ∷ log.past) (goes_on log story new story.filled) w since opened)
  flushes all w line since opened begun settles = record {
    continues = continues c log.past mark story (goes_on log story new story.filled) w since opened opened (before story.filled);
    took = λ k. refl;
    effected = refl;
    reserved = λ a. refl;
    filled = λ k. refl;
    value = λ a. ap (λ z. z.value a) (later-here story.filled w since opened) ∙ (leaves all w since opened begun).value a;
    flushed = λ a in-line mine. subst (λ z. IsDurableAt z a) (sym (later-here story.filled w since opened)) (flushes_are_seen c (story.at (length log.past)) old new line (scene c log.past story w since opened) g.living.seen g.passes all (sees w since opened begun).scene refl refl
        (λ b on own private. settles b on (g.living.awaits w b (of-mine c log story w since opened b own) private)) a in-line mine);
    stays = λ a mine f. subst (λ z. IsDurableAt z a) (sym (later-here story.filled w since opened)) ((leaves all w since opened begun).flushed a mine f);
    mine = own-stays story.filled w since opened;
  }

  module _ (w a v since : ℕ) (opened : Open) (s : IsStore c old new log story w a v since opened) where
    to : StoresTo a v (story.at (length log.past)) (next_instant new (story.at (length log.past)))
    to = stores_are_seen c (story.at (length log.past)) old new a v g.living.seen g.passes s.stores

    store-own : Stores a v (scene c log.past story w since opened) (scene c (mark ∷ log.past) (goes_on log story new (fills c story w a)) w since opened)
    store-own = record {
      continues = continues c log.past mark story (goes_on log story new (fills c story w a)) w since opened opened (before (fills c story w a));
      took = λ k. refl;
      effected = refl;
      reserved = λ b. refl;
      filled = λ k. let t : (w == w) ≡ true = grind (arith, nat_tests) in rw t refl;
      value = ap (λ z. z.value a) (later-here (fills c story w a) w since opened) ∙ to.value;
      others = λ b ne. ap (λ z. z.value b) (later-here (fills c story w a) w since opened) ∙ to.others b ne;
      image = λ b. ap (λ z. z.image b) (later-here (fills c story w a) w since opened) ∙ to.image b;
      mine = own-stays (fills c story w a) w since opened;
    }

    store-others : (u other_since : ℕ) (other : Open) → u ≢ w → HasBegun log story other_since → IsLawful (scene c log.past story u other_since other) (scene c (mark ∷ log.past) (goes_on log story new (fills c story w a)) u other_since other)
    store-others u other_since other ne begun =
        stores_are_lawful (scene c log.past story w since opened) (scene c log.past story u other_since other) _ a v (next_instant new (story.at (length log.past))) (sees w since opened s.begun).scene s.own apart to
        (watches (fills c story w a) u other_since other (λ k. let t : (u == w) ≡ false = grind (arith, nat_tests) in rw t (or-off (story.filled u k))))
      where
        or-off : (t : Bool) → t || false ≡ t
        or-off true = refl
        or-off false = refl

        apart : AreApart (scene c log.past story w since opened) (scene c log.past story u other_since other)
        apart = scenes-apart c old log story w u since other_since opened other g.living (λ e. ne (sym e))

pub quiet-lawful : QuietMarksAreLawful
quiet-lawful c old new log story mark w since opened g all begun = lawful c old new log story mark g all w since opened begun

pub stores-told : StoresAreTold
stores-told = record {
  own = λ c old new log story mark w a v since opened g s. store-own c old new log story mark g w a v since opened s;
  others = λ c old new log story mark w a v since opened u other_since other g s ne begun. store-others c old new log story mark g w a v since opened s u other_since other ne begun;
}

pub flushes-told : FlushesAreTold
flushes-told c old new log story mark w line since opened g all begun settles = flushes c old new log story mark g all w line since opened begun settles
