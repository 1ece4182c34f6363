-- What became of a worker's calls tells which of them began, whether one is open, and which limit it met.
use Rattle.std.proofs.Common.{◌≡◌, ◌<◌, ◌≤◌, ◌⊎◌, inl, inr, ⊎_elim, ℕ, ◌-◌, Bool, true, false, List, [], ◌∷◌, ◌++◌, length, length-append, refl, sym, ap, subst, ◌∙◌, arith, append_assoc, append-nil, Option, Some, None}
use Rattle.std.specs.Prelude.{is_some, ◌&&◌, nat_le}
use Rattle.std.proofs.lemmas.Bool.Decides.{nat_tests}
use Rattle.bz_bus.proofs.Entries.{extends_trans, entries_between, none_added}
use Rattle.bz_bus.specs.Entries.{Extends, entries_of}
use Rattle.bz_bus.specs.declared.TheConstants.{PASSES}
use Rattle.bz_call.specs.Pages.{is_page}
use Rattle.bz_call.specs.declared.calls.Call.{Call}
use Rattle.bz_index.specs.Calls.{begin_entry, HasCut, HasBegunOnly, IsAnswer}
use Rattle.bz_index.specs.Entries.{owner_of, marks_in}
use Rattle.bz_index.specs.declared.answer.Answer.{Answer}
use Rattle.bz_index.specs.declared.answer.Answer.TheVariants.{Reply, Off, Recovering, Limit}
use Rattle.bz_index.specs.declared.shared.IndexEntry.{IndexEntry}
use Rattle.bz_index.specs.declared.shared.Origin.{Origin}
use Rattle.bz_mark.specs.Log.{Limits, count_begins, count_page_calls}
use Rattle.bz_mark.specs.declared.marks.Mark.{Mark}
use Rattle.bz_sched.specs.AtLimit.{MeetsLimit}
use Rattle.bz_sched.specs.Queued.{calls_of, is_busy_by}
use Rattle.bz_sched.specs.Together.{AreOfCalls, begun_in}
use Rattle.bz_sched.specs.TurnsInPart.{IsPageNext}
use Rattle.bz_sound.specs.Calls.{Open, open_call}
use Rattle.bz_mark.specs.Times.{power_of}
use Rattle.bz_mark.specs.declared.power.Power.TheVariants as power
use Rattle.bz_threads.proofs.Making.{made_adds, same_worker}
use Rattle.bz_threads.proofs.Owns.{ends_open, marks-append, begun_own, open_own, calls_quiet, none_begun, power_quiet, cut_quiet, own_added}
use Rattle.bz_threads.proofs.Taking.{paired-append}
use Rattle.bz_threads.specs.Inside.Batches.{paired, Fate, MetNone}
use Rattle.bz_threads.specs.Made.{own_of, AreMade, MakesAll}
use Rattle.bz_index.specs.FromWorld.LimitKind.{LimitKind}
use Rattle.bz_index.specs.FromWorld.LimitKind.TheVariants as which

-- the limits of a journal
abbrev pub limits_of : Origin → Limits
limits_of origin = record { marks = origin.marks; calls = origin.calls; pages = origin.pages }

still_short : (limits : Limits) (xs ys : List Mark) → MeetsLimit limits ys which.Marks → MeetsLimit limits (xs ++ ys) which.Marks
still_short limits xs ys is = omega (arith, length-append xs ys)

-- where a worker's calls stopped at a limit
abbrev pub StoppedAt : LimitKind → Option Open → List (ℕ × Call) → Type 0
StoppedAt which.Marks opened left = Unit {0}
StoppedAt which.Calls opened left = opened ≡ None
StoppedAt which.Pages opened left = (opened ≡ None) × IsPageNext left

-- a moment at which its call was to begin and this limit was met
pub record HasMetThen (origin : Origin) (w : ℕ) (first past : List Mark) (left : List (ℕ × Call)) (met : LimitKind) : Type 0 where
  pub moment : List Mark
  pub since : (added : List Mark) × (moment ≡ added ++ first)
  pub later : (added : List Mark) × (past ≡ added ++ moment)
  pub busy : is_busy_by (is_some (open_call w moment)) left ≡ true
  pub here : StoppedAt met (open_call w moment) left
  pub meets : MeetsLimit (limits_of origin) moment met

-- it met this limit, and its call was to begin or to make an act
pub record Stopped (origin : Origin) (w : ℕ) (first past : List Mark) (left : List (ℕ × Call)) (met : LimitKind) : Type 0 where
  pub busy : is_busy_by (is_some (open_call w past)) left ≡ true
  pub here : StoppedAt met (open_call w past) left
  pub meets : MeetsLimit (limits_of origin) past met ⊎ HasMetThen origin w first past left met

-- what is left of a worker's calls
pub record IsLeft (origin : Origin) (w : ℕ) (waiting : List (ℕ × Call)) (added first : List Mark) (met : Option Answer) : Type 0 where
  pub rest : List Call
  pub begun : begun_in w added ++ paired w rest ≡ calls_of w waiting
  pub idle : MetNone met → (open_call w (added ++ first) ≡ None) × (paired w rest ≡ [])
  pub stopped : (kind : LimitKind) → met ≡ Some (Limit kind) → Stopped origin w first (added ++ first) (paired w rest) kind

none_is : (opened : Option Open) → is_some opened ≡ false → opened ≡ None
none_is None is = refl
none_is (Some opened) is = absurd (cc is)

busy_left : (b : Bool) (call : ℕ × Call) (calls : List (ℕ × Call)) → is_busy_by b (call ∷ calls) ≡ true
busy_left true call calls = refl
busy_left false call calls = refl

busy_open : (opened : Bool) (calls : List (ℕ × Call)) → opened ≡ true → is_busy_by opened calls ≡ true
busy_open true calls is = refl
busy_open false calls is = absurd (cc is)

same_which : (a b : LimitKind) (P : LimitKind → Type 0) → Some (Limit a) ≡ Some (Limit b) → P a → P b
same_which a b P is p = let same : a ≡ b = cc is in subst P same p

lacks_both : (b c : Bool) → (b && c) ≡ true → (b ≡ true) × (c ≡ true)
lacks_both true true is = (refl, refl)
lacks_both true false is = absurd (cc is)
lacks_both false c is = absurd (cc is)

module _ (origin : Origin) (w : ℕ) (waiting : List (ℕ × Call)) (first now added : List IndexEntry) (some : 0 < w) (below : w < PASSES) (is : now ≡ added ++ first)
    (quiet : entries_of owner_of 0 now ≡ entries_of owner_of 0 first) (on : power_of origin.at_start (marks_in first) ≡ power.On) (closed : open_call w (marks_in first) ≡ None) where
  abbrev pub past : List Mark
  past = marks_in added ++ marks_in first

  pub of_calls : AreOfCalls (marks_in added)
  of_calls = calls_quiet added (none_added owner_of 0 added first (ap (entries_of owner_of 0) (sym is) ∙ quiet))

  -- a worker that has no pass has begun none
  pub begun_none : (v : ℕ) → (v ≡ 0) ⊎ (PASSES ≤ v) → begun_in v (marks_in added) ≡ []
  begun_none v none = none_begun v added none (none_added owner_of 0 added first (ap (entries_of owner_of 0) (sym is) ∙ quiet))

  -- so much of its own was added by calls that were made
  begun_by : (own : List IndexEntry) → own_of w now ≡ own ++ own_of w first → begun_in w (marks_in added) ≡ begun_in w (marks_in own)
  begun_by own e = begun_own w added below ∙ ap (λ (xs : List IndexEntry). begun_in w (marks_in xs)) (own_added w added first now own is e)

  open_by : (own : List IndexEntry) → own_of w now ≡ own ++ own_of w first → is_some (open_call w past) ≡ ends_open own
  open_by own e = open_own w added (marks_in first) some below of_calls closed ∙ ap ends_open (own_added w added first now own is e)

  -- between lists no entry of the first pass was added
  quiet_between : (mid : List IndexEntry) → Extends first mid → Extends mid now → entries_of owner_of 0 mid ≡ entries_of owner_of 0 first
  quiet_between mid p q = entries_between owner_of 0 first mid now p q quiet

  stays_on : (seen : List IndexEntry) → Extends first seen → Extends seen now → power_of origin.at_start (marks_in seen) ≡ power.On
  stays_on seen (more, e) extends =
      let of = calls_quiet more (none_added owner_of 0 more first (ap (entries_of owner_of 0) (sym e) ∙ quiet_between seen (more, e) extends)) in
      ap (λ (xs : List IndexEntry). power_of origin.at_start (marks_in xs)) e ∙ ap (power_of origin.at_start) (marks-append more first) ∙ power_quiet origin.at_start (marks_in more) (marks_in first) of ∙ on

  never_cut : (call : Call) (mid seen since : List IndexEntry) → Extends first mid → Extends first seen → Extends seen now → HasBegunOnly w call mid seen since → HasCut (marks_in since) → ⊥
  never_cut call mid seen since before grown extends b cut =
      let begun : List IndexEntry = begin_entry w b.number call ∷ b.found in
      let within : Extends first begun = extends_trans first mid begun before (extends_trans mid b.found begun b.extends (begin_entry w b.number call ∷ [], refl)) in
      let same : entries_of owner_of 0 begun ≡ entries_of owner_of 0 first = quiet_between begun within (extends_trans begun seen now (since, b.is) extends) in
      let none : entries_of owner_of 0 since ≡ [] = none_added owner_of 0 since begun (ap (entries_of owner_of 0) (sym b.is) ∙ quiet_between seen grown extends ∙ sym same) in
      cut_quiet (marks_in since) (calls_quiet since none) cut

  module _ (seen : List IndexEntry) (since : Extends first seen) (extends : Extends seen now) (own : own_of w now ≡ own_of w seen) where
    -- the marks of the moment at which that was seen stand between
    seen_is : marks_in seen ≡ marks_in since.0 ++ marks_in first
    seen_is = ap marks_in since.1 ∙ marks-append since.0 first

    past_is : past ≡ marks_in extends.0 ++ marks_in seen
    past_is = sym (marks-append added first) ∙ ap marks_in (sym is) ∙ ap marks_in extends.1 ∙ marks-append extends.0 seen

    short_still : MeetsLimit (limits_of origin) (marks_in seen) which.Marks → MeetsLimit (limits_of origin) past which.Marks
    short_still meets = subst (λ (marks : List Mark). MeetsLimit (limits_of origin) marks which.Marks) (sym past_is) (still_short (limits_of origin) (marks_in extends.0) (marks_in seen) meets)

    open_then : (mine : List IndexEntry) → own_of w seen ≡ mine ++ own_of w first → is_some (open_call w (marks_in seen)) ≡ ends_open mine
    open_then mine e =
        let of = calls_quiet since.0 (none_added owner_of 0 since.0 first (ap (entries_of owner_of 0) (sym since.1) ∙ quiet_between seen since extends)) in
        ap (λ (marks : List Mark). is_some (open_call w marks)) seen_is ∙ open_own w since.0 (marks_in first) some below of closed ∙ ap ends_open (own_added w since.0 first seen mine since.1 e)

    -- all calls were made
    pub left_none : (calls : List Call) → paired w calls ≡ calls_of w waiting → AreMade w calls (own_of w first) (own_of w seen) → IsLeft origin w waiting (marks_in added) (marks_in first) None
    left_none calls are made =
        let adds = made_adds w calls (own_of w first) (own_of w seen) made in
        let e : own_of w now ≡ adds.added ++ own_of w first = own ∙ adds.is in
        record {
          rest = [];
          begun = append-nil (begun_in w (marks_in added)) ∙ begun_by adds.added e ∙ adds.begun ∙ are;
          idle = λ none. (none_is (open_call w past) (open_by adds.added e ∙ adds.closed), refl);
          stopped = λ kind met. absurd (cc met);
        }

    module _ (calls made rest : List Call) (call : Call) (mid : List IndexEntry) (kind : LimitKind) (are : paired w calls ≡ calls_of w waiting) (parts : calls ≡ made ++ call ∷ rest) (replied : AreMade w made (own_of w first) (own_of w mid)) where
      whole : paired w made ++ ((w, call) ∷ paired w rest) ≡ calls_of w waiting
      whole = sym (paired-append w made (call ∷ rest)) ∙ ap (paired w) (sym parts) ∙ are

      -- the next call was not begun
      left_waiting : own_of w seen ≡ own_of w mid → ((marks : List Mark) → open_call w marks ≡ None → StoppedAt kind (open_call w marks) (paired w (call ∷ rest))) → MeetsLimit (limits_of origin) (marks_in seen) kind
          → IsLeft origin w waiting (marks_in added) (marks_in first) (Some (Limit kind))
      left_waiting same here meets =
          let adds = made_adds w made (own_of w first) (own_of w mid) replied in
          let e : own_of w now ≡ adds.added ++ own_of w first = own ∙ same ∙ adds.is in
          record {
            rest = call ∷ rest;
            begun = ap (λ (xs : List (ℕ × Call)). xs ++ paired w (call ∷ rest)) (begun_by adds.added e ∙ adds.begun) ∙ whole;
            idle = λ none. absurd none;
            stopped = λ other met. same_which kind other (λ (k : LimitKind). Stopped origin w (marks_in first) past (paired w (call ∷ rest)) k) met (record {
              busy = busy_left (is_some (open_call w past)) (w, call) (paired w rest);
              here = here past (none_is (open_call w past) (open_by adds.added e ∙ adds.closed));
              meets = inr (record {
                moment = marks_in seen;
                since = (marks_in since.0, seen_is);
                later = (marks_in extends.0, past_is);
                busy = busy_left (is_some (open_call w (marks_in seen))) (w, call) (paired w rest);
                here = here (marks_in seen) (none_is (open_call w (marks_in seen)) (open_then adds.added (same ∙ adds.is) ∙ adds.closed));
                meets = meets;
              });
            });
          }

      -- it was begun and has not ended
      left_open : (number : ℕ) → kind ≡ which.Marks → own_of w seen ≡ begin_entry w number call ∷ own_of w mid → MeetsLimit (limits_of origin) past kind → IsLeft origin w waiting (marks_in added) (marks_in first) (Some (Limit kind))
      left_open number marks one meets =
          let adds = made_adds w made (own_of w first) (own_of w mid) replied in
          let mine : List IndexEntry = begin_entry w number call ∷ adds.added in
          let e : own_of w now ≡ mine ++ own_of w first = own ∙ one ∙ ap (λ (xs : List IndexEntry). begin_entry w number call ∷ xs) adds.is in
          let began : begun_in w (marks_in mine) ≡ paired w made ++ ((w, call) ∷ []) = rw (same_worker w) (ap (λ (xs : List (ℕ × Call)). xs ++ ((w, call) ∷ [])) adds.begun) in
          record {
            rest = rest;
            begun = ap (λ (xs : List (ℕ × Call)). xs ++ paired w rest) (begun_by mine e ∙ began) ∙ append_assoc (paired w made) ((w, call) ∷ []) (paired w rest) ∙ whole;
            idle = λ none. absurd none;
            stopped = λ other met. same_which kind other (λ (k : LimitKind). Stopped origin w (marks_in first) past (paired w rest) k) met (record {
              busy = busy_open (is_some (open_call w past)) (paired w rest) (open_by mine e);
              here = rw marks tt;
              meets = inl meets;
            });
          }

    -- the answer to the first call that was not replied to
    left_by : (calls made rest : List Call) (call : Call) (mid : List IndexEntry) (page : List (List ℕ × List ℕ)) (met : LimitKind) → paired w calls ≡ calls_of w waiting → calls ≡ made ++ call ∷ rest → AreMade w made (own_of w first) (own_of w mid)
        → IsAnswer origin w call mid seen page (Limit met) → IsLeft origin w waiting (marks_in added) (marks_in first) (Some (Limit met))
    left_by calls made rest call mid page which.Marks are parts replied (short, how) =
        let meets : origin.marks - length (marks_in seen) < 3 = grind (arith, nat_tests) in
        ⊎_elim
        (λ same. left_waiting calls made rest call mid which.Marks are parts replied same (λ marks none. tt) meets)
        (λ (later, b). left_open calls made rest call mid which.Marks are parts replied b.number refl b.own (short_still meets))
        how
    left_by calls made rest call mid page which.Calls are parts replied (same, room, all) =
        let left : 3 ≤ origin.marks - length (marks_in seen) = grind (arith, nat_tests) in
        let most : origin.calls ≤ count_begins (marks_in seen) = grind (arith, nat_tests) in
        left_waiting calls made rest call mid which.Calls are parts replied same (λ marks none. none) (left, most)
    left_by calls made rest call mid page which.Pages are parts replied (same, room, few, all) =
        let (asks, full) = lacks_both (is_page call) (nat_le origin.pages (count_page_calls (marks_in seen))) all in
        let left : 3 ≤ origin.marks - length (marks_in seen) = grind (arith, nat_tests) in
        let fewer : count_begins (marks_in seen) < origin.calls = grind (arith, nat_tests) in
        let most : origin.pages ≤ count_page_calls (marks_in seen) = grind (arith, nat_tests) in
        left_waiting calls made rest call mid which.Pages are parts replied same (λ marks none. (none, asks)) (left, fewer, most)

    left_after : (calls : List Call) (met : Option Answer) → paired w calls ≡ calls_of w waiting → MakesAll origin w calls first seen met → IsLeft origin w waiting (marks_in added) (marks_in first) met
    left_after calls None are made = left_none calls are made
    left_after calls (Some (Reply reply)) are s = absurd s.stops.0
    left_after calls (Some Off) are s = ⊎_elim
        (λ off. absurd (let opposed : power.On ≡ power.Off = sym (stays_on seen since extends) ∙ off.1 in cc opposed))
        (λ (later, b, cut). absurd (never_cut s.call s.seen seen later s.before since extends b cut))
        s.stops.1.1
    left_after calls (Some Recovering) are s = absurd (let opposed : power.On ≡ power.Recovering = sym (stays_on seen since extends) ∙ s.stops.1.1.1 in cc opposed)
    left_after calls (Some (Limit kind)) are s = left_by calls s.made s.rest s.call s.seen s.stops.1.0 kind are s.are s.replied s.stops.1.1

  pub fate_leaves : (met : Option Answer) → Fate origin w waiting first now met → IsLeft origin w waiting (marks_in added) (marks_in first) met
  fate_leaves met f = left_after f.seen f.since f.extends f.own f.calls met f.are f.made
