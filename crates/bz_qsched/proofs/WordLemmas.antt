-- Turns of one worker, one after the other, and words of a list.
use Rattle.std.proofs.Common.{◌≡◌, ◌≤◌, ◌<◌, ℕ, zero, suc, ◌+◌, ◌-◌, false, List, [], ◌∷◌, length, get_or, drop, refl, sym, ap, subst, ◌∙◌, arith, inl, inr}
use Rattle.std.proofs.lemmas.List.{drop_more}
use Rattle.bz_script.specs.declared.turn_list.Turn.{Turn}
use Rattle.bz_script.specs.RunLaws.{IsTurn as IsWord, AreTurns}
use Rattle.bz_queue.specs.QueueView.{QueueView}
use Rattle.bz_qsched.specs.declared.turn.Stop.{Stop}
use Rattle.bz_qsched.specs.Points.{Point, is_busy, IsTurn}
use Rattle.bz_qsched.specs.Fuses.{Fused}
use Rattle.bz_qsched.specs.Runs.{point_in, IsReady, IsStopped, Keeps}
use Rattle.bz_qsched.specs.Turns.{TakesTurns, TakesWord, EndsOne, RunsList}
use Rattle.bz_qsched.specs.TurnsInPart.{StopsTurn, TakesTurnsInPart, TakesWordInPart, EndsOneInPart, RunsListInPart}
use Rattle.bz_qsched.proofs.ReadyLemmas.{keeps_none, keeps_both}

-- so many turns of a worker were taken: what follows them follows from the start
pub record Taking (w taken : ℕ) (old : QueueView) (queued : Fused) (world : QueueView) (left : Fused) : Type 0 where
  pub keeps : Keeps old queued world left
  pub whole : (more : ℕ) (new : Point) → TakesTurns w more (point_in world left) new → TakesTurns w (taken + more) (point_in old queued) new
  pub part : (why : Stop) (more : ℕ) (new : Point) → TakesTurnsInPart why w more (point_in world left) new → TakesTurnsInPart why w (taken + more) (point_in old queued) new

pub taking_none : (w : ℕ) (old : QueueView) (queued : Fused) → IsReady old → Taking w 0 old queued old queued
taking_none w old queued ready = record {
  keeps = keeps_none old queued ready;
  whole = λ more new takes. let all : more ≡ 0 + more = omega arith in subst (λ (count : ℕ). TakesTurns w count (point_in old queued) new) all takes;
  part = λ why more new takes. let all : more ≡ 0 + more = omega arith in subst (λ (count : ℕ). TakesTurnsInPart why w count (point_in old queued) new) all takes;
}

-- a turn more
pub taking_more : (w taken : ℕ) (old : QueueView) (queued : Fused) (world : QueueView) (left : Fused) (new : QueueView) (after : Fused) → Taking w taken old queued world left
    → Keeps world left new after → IsTurn w (point_in world left) (point_in new after) → Taking w (taken + 1) old queued new after
taking_more w taken old queued world left new after t keeps turn = record {
  keeps = keeps_both old world new queued left after t.keeps keeps;
  whole = λ more end takes.
      let all : taken + suc more ≡ (taken + 1) + more = omega arith in
      subst (λ (count : ℕ). TakesTurns w count (point_in old queued) end) all (t.whole (suc more) end (inr (point_in new after, turn, takes)));
  part = λ why more end takes.
      let all : taken + suc more ≡ (taken + 1) + more = omega arith in
      subst (λ (count : ℕ). TakesTurnsInPart why w count (point_in old queued) end) all (t.part why (suc more) end (inr (point_in new after, turn, takes)));
}

-- all were taken
pub taking_all : (w taken count : ℕ) (old : QueueView) (queued : Fused) (world : QueueView) (left : Fused) → taken ≡ count → Taking w taken old queued world left
    → Keeps old queued world left × TakesTurns w count (point_in old queued) (point_in world left)
taking_all w taken count old queued world left is t =
    let all : taken + 0 ≡ count = omega arith in
    (t.keeps, subst (λ (n : ℕ). TakesTurns w n (point_in old queued) (point_in world left)) all (t.whole 0 (point_in world left) refl))

idle_takes : (w count : ℕ) (point : Point) → is_busy w point ≡ false → TakesTurns w count point point
idle_takes w zero point idle = refl
idle_takes w (suc count) point idle = inl (idle, refl)

-- the rest is left out
pub taking_idle : (w taken count : ℕ) (old : QueueView) (queued : Fused) (world : QueueView) (left : Fused) → taken ≤ count → is_busy w (point_in world left) ≡ false → Taking w taken old queued world left
    → Keeps old queued world left × TakesTurns w count (point_in old queued) (point_in world left)
taking_idle w taken count old queued world left few none t =
    let all : taken + (count - taken) ≡ count = omega arith in
    (t.keeps, subst (λ (n : ℕ). TakesTurns w n (point_in old queued) (point_in world left)) all (t.whole (count - taken) (point_in world left) (idle_takes w (count - taken) (point_in world left) none)))

-- a limit is met
taking_stops : (w taken more : ℕ) (old : QueueView) (queued : Fused) (world : QueueView) (left : Fused) (why : Stop) (new : QueueView) (after : Fused) → Taking w taken old queued world left
    → StopsTurn why w (point_in world left) (point_in new after) → TakesTurnsInPart why w (taken + suc more) (point_in old queued) (point_in new after)
taking_stops w taken more old queued world left why new after t stops = t.part why (suc more) (point_in new after) (inl stops)

pub word_stops : (w taken count : ℕ) (old : QueueView) (queued : Fused) (world : QueueView) (left : Fused) (why : Stop) (new : QueueView) (after : Fused) → taken < count → Taking w taken old queued world left
    → Keeps world left new after × StopsTurn why w (point_in world left) (point_in new after) × IsStopped new after.fuse why
    → Keeps old queued new after × TakesTurnsInPart why w count (point_in old queued) (point_in new after) × IsStopped new after.fuse why
word_stops w taken count old queued world left why new after few t (keeps, stops, met) =
    let all : taken + suc (count - (taken + 1)) ≡ count = omega arith in (
      keeps_both old world new queued left after t.keeps keeps,
      subst (λ (n : ℕ). TakesTurnsInPart why w n (point_in old queued) (point_in new after)) all (taking_stops w taken (count - (taken + 1)) old queued world left why new after t stops),
      met,
    )

-- turns until nothing is to do
pub record TakingSome (w : ℕ) (old : QueueView) (queued : Fused) (world : QueueView) (left : Fused) : Type 0 where
  pub taken : ℕ
  pub taking : Taking w taken old queued world left

pub some_none : (w : ℕ) (old : QueueView) (queued : Fused) → IsReady old → TakingSome w old queued old queued
some_none w old queued ready = record { taken = 0; taking = taking_none w old queued ready }

pub some_more : (w : ℕ) (old : QueueView) (queued : Fused) (world : QueueView) (left : Fused) (new : QueueView) (after : Fused) → TakingSome w old queued world left
    → Keeps world left new after × IsTurn w (point_in world left) (point_in new after) → TakingSome w old queued new after
some_more w old queued world left new after s (keeps, turn) = record { taken = s.taken + 1; taking = taking_more w s.taken old queued world left new after s.taking keeps turn }

pub one_ends : (w : ℕ) (old : QueueView) (queued : Fused) (world : QueueView) (left : Fused) → is_busy w (point_in world left) ≡ false → TakingSome w old queued world left
    → Keeps old queued world left × EndsOne w (point_in old queued) (point_in world left)
one_ends w old queued world left none s = (s.taking.keeps, (s.taken + 0, s.taking.whole 0 (point_in world left) refl, none))

pub one_stops : (w : ℕ) (old : QueueView) (queued : Fused) (world : QueueView) (left : Fused) (why : Stop) (new : QueueView) (after : Fused) → TakingSome w old queued world left
    → Keeps world left new after × StopsTurn why w (point_in world left) (point_in new after) × IsStopped new after.fuse why
    → Keeps old queued new after × EndsOneInPart why w (point_in old queued) (point_in new after) × IsStopped new after.fuse why
one_stops w old queued world left why new after s (keeps, stops, met) = (
  keeps_both old world new queued left after s.taking.keeps keeps,
  (s.taken + 1, taking_stops w s.taken 0 old queued world left why new after s.taking stops),
  met,
)

-- words of a list were done: what follows them follows from the start
pub record Listing (turns : List Turn) (i : ℕ) (old : QueueView) (queued : Fused) (world : QueueView) (left : Fused) : Type 0 where
  pub keeps : Keeps old queued world left
  pub whole : (new : Point) → RunsList (drop i turns) (point_in world left) new → RunsList turns (point_in old queued) new
  pub part : (why : Stop) (new : Point) → RunsListInPart why (drop i turns) (point_in world left) new → RunsListInPart why turns (point_in old queued) new

pub listing_none : (turns : List Turn) (old : QueueView) (queued : Fused) → IsReady old → Listing turns 0 old queued old queued
listing_none turns old queued ready = record { keeps = keeps_none old queued ready; whole = λ new runs. runs; part = λ why new runs. runs }

-- the word that is read
pub word_is : (turns : List Turn) (i : ℕ) (other : Turn) → i < length turns → get_or turns i other ≡ get_or turns i (get_or turns i other)
word_is [] i other lt = absurd (omega arith)
word_is (turn ∷ turns) zero other lt = refl
word_is (turn ∷ turns) (suc i) other lt = same_word turns i other (get_or turns i other) (omega arith)
  where
    same_word : (words : List Turn) (j : ℕ) (x y : Turn) → j < length words → get_or words j x ≡ get_or words j y
    same_word [] j x y lt = absurd (omega arith)
    same_word (word ∷ words) zero x y lt = refl
    same_word (word ∷ words) (suc j) x y lt = same_word words j x y (omega arith)

word_here : (turns : List Turn) (i : ℕ) (turn : Turn) → i < length turns → turn ≡ get_or turns i turn → drop i turns ≡ turn ∷ drop (i + 1) turns
word_here turns i turn lt is = drop_more turns i turn lt ∙ ap (λ (word : Turn). word ∷ drop (i + 1) turns) (sym is)

pub listing_more : (turns : List Turn) (i : ℕ) (turn : Turn) (old : QueueView) (queued : Fused) (world : QueueView) (left : Fused) (new : QueueView) (after : Fused) → i < length turns → turn ≡ get_or turns i turn
    → Listing turns i old queued world left → Keeps world left new after × TakesWord turn (point_in world left) (point_in new after) → Listing turns (i + 1) old queued new after
listing_more turns i turn old queued world left new after lt is l (keeps, takes) = record {
  keeps = keeps_both old world new queued left after l.keeps keeps;
  whole = λ end runs. l.whole end (subst (λ (words : List Turn). RunsList words (point_in world left) end) (sym (word_here turns i turn lt is)) (point_in new after, takes, runs));
  part = λ why end runs. l.part why end (subst (λ (words : List Turn). RunsListInPart why words (point_in world left) end) (sym (word_here turns i turn lt is)) (inr (point_in new after, takes, runs)));
}

pub listing_stops : (turns : List Turn) (i : ℕ) (turn : Turn) (old : QueueView) (queued : Fused) (world : QueueView) (left : Fused) (why : Stop) (new : QueueView) (after : Fused) → i < length turns → turn ≡ get_or turns i turn
    → Listing turns i old queued world left → Keeps world left new after × TakesWordInPart why turn (point_in world left) (point_in new after) × IsStopped new after.fuse why
    → Keeps old queued new after × RunsListInPart why turns (point_in old queued) (point_in new after) × IsStopped new after.fuse why
listing_stops turns i turn old queued world left why new after lt is l (keeps, takes, met) = (
  keeps_both old world new queued left after l.keeps keeps,
  l.part why (point_in new after) (subst (λ (words : List Turn). RunsListInPart why words (point_in world left) (point_in new after)) (sym (word_here turns i turn lt is)) (inl takes)),
  met,
)

none_behind : (turns : List Turn) (i : ℕ) → length turns ≤ i → drop i turns ≡ []
none_behind [] i all = drop_of_none i
  where
    drop_of_none : (j : ℕ) → ◌≡◌ {A = List Turn} (drop j []) []
    drop_of_none zero = refl
    drop_of_none (suc j) = refl
none_behind (turn ∷ turns) zero all = absurd (omega arith)
none_behind (turn ∷ turns) (suc i) all = none_behind turns i (omega arith)

pub listing_done : (turns : List Turn) (i : ℕ) (old : QueueView) (queued : Fused) (world : QueueView) (left : Fused) → length turns ≤ i → Listing turns i old queued world left
    → Keeps old queued world left × RunsList turns (point_in old queued) (point_in world left)
listing_done turns i old queued world left all l = (l.keeps, l.whole (point_in world left) (rw (none_behind turns i all) refl))

-- a list's words are words of a script
pub word_at : (turns : List Turn) (i : ℕ) (turn : Turn) → AreTurns turns → i < length turns → turn ≡ get_or turns i turn → IsWord turn
word_at [] i turn all lt is = absurd (omega arith)
word_at (x ∷ turns) zero turn all lt is = subst IsWord (sym is) all.0
word_at (x ∷ turns) (suc i) turn all lt is = word_at turns i turn all.1 (omega arith) is
