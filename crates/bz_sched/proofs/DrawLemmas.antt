-- Rounds by draws.
use Rattle.std.proofs.Common.{◌≡◌, ◌≢◌, ℕ, suc, ◌%◌, ◌/◌, ◌==◌, Bool, true, false, List, [], ◌∷◌, length, slice_index, refl, sym, ap, subst, ◌∙◌, arith}
use Rattle.std.proofs.lemmas.Bool.Decides.{nat_tests}
use Rattle.bz_layout.specs.Addresses.{words_of}
use Rattle.bz_script.specs.Draws.{next_state, draw_of}
use Rattle.bz_world.specs.WorldView.{WorldView}
use Rattle.bz_sched.specs.declared.turn.Stop.{Stop}
use Rattle.bz_sched.specs.Points.{Point, is_busy, IsTurn}
use Rattle.bz_sched.specs.Fuses.{Fused}
use Rattle.bz_sched.specs.Runs.{point_in, IsReady, IsStopped, Keeps, EndsBy}
use Rattle.bz_sched.specs.declared.turn.Turned.{Turned}
use Rattle.bz_sched.specs.declared.turn.Turned.TheVariants.{Finished, Stopped}
use Rattle.bz_sched.specs.Turns.{busy_workers, drawn_worker, IsEviction, evicts, IsRoundBy, IsRound, after_round, RunsRounds, RunsTurns}
use Rattle.bz_sched.specs.TurnsInPart.{StopsEvent, StopsTurn, StopsRoundBy, StopsRound, RunsRoundsInPart, RunsTurnsInPart}
use Rattle.bz_sched.proofs.ReadyLemmas.{keeps_none, keeps_both}
use Rattle.bz_sched.proofs.OthersLemmas.{turn_others, stop_others}

-- rounds were made: what follows them follows from the start
pub record Drawing (words seed state : ℕ) (old : WorldView) (queued : Fused) (world : WorldView) (left : Fused) : Type 0 where
  pub keeps : Keeps old queued world left
  pub whole : (rounds : ℕ) (new : Point) → RunsRounds words rounds state (point_in world left) new → RunsTurns words seed (point_in old queued) new
  pub part : (why : Stop) (rounds : ℕ) (new : Point) → RunsRoundsInPart why words rounds state (point_in world left) new → RunsTurnsInPart why words seed (point_in old queued) new

pub drawing_none : (seed : ℕ) (old : WorldView) (queued : Fused) → IsReady old → Drawing (words_of old.config) seed seed old queued old queued
drawing_none seed old queued ready = record {
  keeps = keeps_none old queued ready;
  whole = λ rounds new runs. (rounds, runs);
  part = λ why rounds new runs. (rounds, runs);
}

-- a list of the busy workers that has one, and one that has none
pub some_busy : (point : Point) (busy : List ℕ) → busy ≡ busy_workers point → (length busy == 0) ≡ false → busy_workers point ≢ []
some_busy point busy listed some none =
    let empty : length busy ≡ 0 = ap length (listed ∙ none) in
    absurd (grind (arith, nat_tests, some, empty))

empty_list : (xs : List ℕ) → (length xs == 0) ≡ true → xs ≡ []
empty_list [] is = refl
empty_list (x ∷ xs) is = absurd (grind (arith, nat_tests, is))

pub none_busy : (point : Point) (busy : List ℕ) → busy ≡ busy_workers point → (length busy == 0) ≡ true → busy_workers point ≡ []
none_busy point busy listed none = sym listed ∙ empty_list busy none

-- a round more
pub drawing_more : (words seed state : ℕ) (old : WorldView) (queued : Fused) (world : WorldView) (left : Fused) (new : WorldView) (after : Fused) → words ≡ words_of world.config → Drawing words seed state old queued world left
    → busy_workers (point_in world left) ≢ [] → Keeps world left new after × IsRound (words_of world.config) (next_state state) (point_in world left) (point_in new after)
    → Drawing words seed (after_round (next_state state)) old queued new after
drawing_more words seed state old queued world left new after same d some (keeps, round) =
    let here : IsRound words (next_state state) (point_in world left) (point_in new after) = subst (λ (size : ℕ). IsRound size (next_state state) (point_in world left) (point_in new after)) (sym same) round in
    record {
      keeps = keeps_both old world new queued left after d.keeps keeps;
      whole = λ rounds end runs. d.whole (suc rounds) end (some, (point_in new after, here, runs));
      part = λ why rounds end runs. d.part why (suc rounds) end (some, (point_in new after, here, runs));
    }

pub drawing_done : (words seed state : ℕ) (old : WorldView) (queued : Fused) (world : WorldView) (left : Fused) → Drawing words seed state old queued world left → busy_workers (point_in world left) ≡ []
    → Keeps old queued world left × RunsTurns words seed (point_in old queued) (point_in world left)
drawing_done words seed state old queued world left d none = (d.keeps, d.whole 0 (point_in world left) (none, refl))

pub drawing_stops : (words seed state : ℕ) (old : WorldView) (queued : Fused) (world : WorldView) (left : Fused) (why : Stop) (new : WorldView) (after : Fused) → Drawing words seed state old queued world left
    → busy_workers (point_in world left) ≢ [] → Keeps world left new after × StopsRound why (next_state state) (point_in world left) (point_in new after) × IsStopped new after.fuse why
    → Keeps old queued new after × RunsTurnsInPart why words seed (point_in old queued) (point_in new after) × IsStopped new after.fuse why
drawing_stops words seed state old queued world left why new after d some (keeps, stops, met) =
    (keeps_both old world new queued left after d.keeps keeps, d.part why 0 (point_in new after) (some, stops), met)

-- the worker that is drawn
drawn_is : (point : Point) (busy shown : List ℕ) (draw count : ℕ) → busy ≡ busy_workers point → shown ≡ busy → count ≡ length busy → slice_index shown ((draw / 8) % count) ≡ drawn_worker draw point
drawn_is point busy shown draw count listed same is = rw (same, is) (ap (λ (list : List ℕ). slice_index list ((draw / 8) % length list)) listed)

pub drawn_turn : (world : WorldView) (queued : Fused) (busy shown : List ℕ) (draw count : ℕ) (end : Turned) (new : WorldView) (left : Fused) → busy ≡ busy_workers (point_in world queued) → shown ≡ busy → count ≡ length busy
    → EndsBy (IsTurn (slice_index shown ((draw / 8) % count))) (λ why. StopsTurn why (slice_index shown ((draw / 8) % count))) world queued end new left
    → EndsBy (IsTurn (drawn_worker draw (point_in world queued))) (λ why. StopsTurn why (drawn_worker draw (point_in world queued))) world queued end new left
drawn_turn world queued busy shown draw count end new left listed same is ends =
    subst (λ (w : ℕ). EndsBy (IsTurn w) (λ why. StopsTurn why w) world queued end new left) (drawn_is (point_in world queued) busy shown draw count listed same is) ends

-- what a turn leaves the other workers to do
pub drawn_others : (w : ℕ) (world : WorldView) (queued : Fused) (end : Turned) (new : WorldView) (left : Fused) → EndsBy (IsTurn w) (λ why. StopsTurn why w) world queued end new left
    → (v : ℕ) → v ≢ w → is_busy v (point_in new left) ≡ is_busy v (point_in world queued)
drawn_others w world queued Finished new left (keeps, turn) v other = turn_others v w (point_in world queued) (point_in new left) other turn
drawn_others w world queued (Stopped why) new left (keeps, stops, met) v other = stop_others why v w (point_in world queued) (point_in new left) other stops.1

-- the word that is drawn
pub word_is : (draw other size words : ℕ) → draw ≡ other → size ≡ words → draw % size ≡ other % words
word_is draw other size words same whole = ap (λ (n : ℕ). n % size) same ∙ ap (λ (n : ℕ). other % n) whole

-- a round by its first draw
round_of : (words state : ℕ) (b : Bool) (old new : Point) → evicts state ≡ b → IsRoundBy b words state old new → IsRound words state old new
round_of words state b old new is round = subst (λ (way : Bool). IsRoundBy way words state old new) (sym is) round

stop_of : (why : Stop) (state : ℕ) (b : Bool) (old new : Point) → evicts state ≡ b → StopsRoundBy b why state old new → StopsRound why state old new
stop_of why state b old new is stops = subst (λ (way : Bool). StopsRoundBy way why state old new) (sym is) stops

pub eviction_round : (state words a : ℕ) (old : WorldView) (queued : Fused) (end : Turned) (new : WorldView) (left : Fused) → evicts state ≡ true → a ≡ draw_of (next_state state) % words
    → EndsBy (IsEviction a) StopsEvent old queued end new left → EndsBy (IsRound words state) (λ why. StopsRound why state) old queued end new left
eviction_round state words a old queued Finished new left is drawn (keeps, evicted) =
    (keeps, round_of words state true (point_in old queued) (point_in new left) is (subst (λ (word : ℕ). IsEviction word (point_in old queued) (point_in new left)) drawn evicted))
eviction_round state words a old queued (Stopped why) new left is drawn (keeps, stops, met) = (keeps, stop_of why state true (point_in old queued) (point_in new left) is stops, met)

pub turn_round : (state words w : ℕ) (old : WorldView) (queued : Fused) (end : Turned) (new : WorldView) (left : Fused) → evicts state ≡ false → w ≡ drawn_worker (draw_of state) (point_in old queued)
    → EndsBy (IsTurn w) (λ why. StopsTurn why w) old queued end new left → EndsBy (IsRound words state) (λ why. StopsRound why state) old queued end new left
turn_round state words w old queued Finished new left is drawn (keeps, turn) =
    (keeps, round_of words state false (point_in old queued) (point_in new left) is (subst (λ (v : ℕ). IsTurn v (point_in old queued) (point_in new left)) drawn turn))
turn_round state words w old queued (Stopped why) new left is drawn (keeps, stops, met) =
    (keeps, stop_of why state false (point_in old queued) (point_in new left) is (subst (λ (v : ℕ). StopsTurn why v (point_in old queued) (point_in new left)) drawn stops), met)

pub after_turn : (state : ℕ) → evicts state ≡ false → state ≡ after_round state
after_turn state is = rw is refl

-- what a draw tells
pub draws_eviction : (state draw : ℕ) → draw ≡ draw_of state → draw % 8 ≡ 0 → evicts state ≡ true
draws_eviction state draw is zeroed = let none : draw_of state % 8 ≡ 0 = ap (λ (n : ℕ). n % 8) (sym is) ∙ zeroed in rw none refl

pub draws_turn : (state draw : ℕ) → draw ≡ draw_of state → (draw % 8 ≡ 0 → ⊥) → evicts state ≡ false
draws_turn state draw is some = let rest : draw_of state % 8 ≢ 0 = λ none. some (ap (λ (n : ℕ). n % 8) is ∙ none) in grind (arith, nat_tests)
