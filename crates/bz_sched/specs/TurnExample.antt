-- One call by a list of turns, and by the generator. The newest mark stands first.
use Rattle.std.proofs.Common.{ℕ, List, [], ◌∷◌, refl, inl, inr}
use Rattle.bz_call.specs.declared.calls.Call.TheVariants.{Get}
use Rattle.bz_call.specs.declared.replies.Reply.TheVariants.{Missing}
use Rattle.bz_mark.specs.declared.marks.Mark.{Mark}
use Rattle.bz_mark.specs.declared.marks.Mark.TheVariants.{Begin, End, Load, Evict}
use Rattle.bz_script.specs.declared.turn_list.Turn.TheVariants.{Times}
use Rattle.bz_sched.specs.Points.{Point, IsTurn}
use Rattle.bz_sched.specs.Turns.{RunsList, RunsTurns}

-- a call of worker 2 waits after these marks
abbrev waits : List Mark → Point
waits past = record { past = past; queue = (2, Get (97 ∷ [])) ∷ [] }

-- it has begun and made a load
abbrev halfway : List Mark → Point
halfway past = record { past = Load 2 1 0 ∷ Begin 2 1 (Get (97 ∷ [])) ∷ past; queue = [] }

-- it has made another load, and ended
abbrev ended : List Mark → Point
ended past = record { past = End 2 1 Missing 4 ∷ Load 2 1 0 ∷ Load 2 1 0 ∷ Begin 2 1 (Get (97 ∷ [])) ∷ past; queue = [] }

first_turn : IsTurn 2 (waits []) (halfway [])
first_turn = record {
  busy = refl;
  step = (record { act = Load 2 1 0; effect = []; ending = []; is = refl; own = refl; one_effect = tt; one_end = tt }, refl);
}

last_turn : IsTurn 2 (halfway []) (ended [])
last_turn = record {
  busy = refl;
  step = (record { act = Load 2 1 0; effect = []; ending = End 2 1 Missing 4 ∷ []; is = refl; own = refl; one_effect = tt; one_end = refl }, refl);
}

-- by `run list 1*4 2*3`: worker 1 has no turn, and the last turn of worker 2 is left out
by_list : RunsList (Times 1 4 ∷ Times 2 3 ∷ []) (waits []) (ended [])
by_list = (waits [], inl (refl, refl), (ended [], inr (halfway [], first_turn, inr (ended [], last_turn, inl (refl, refl))), refl))

first_after : (a : ℕ) → IsTurn 2 (waits (Evict a ∷ [])) (halfway (Evict a ∷ []))
first_after a = record {
  busy = refl;
  step = (record { act = Load 2 1 0; effect = []; ending = []; is = refl; own = refl; one_effect = tt; one_end = tt }, refl);
}

last_after : (a : ℕ) → IsTurn 2 (halfway (Evict a ∷ [])) (ended (Evict a ∷ []))
last_after a = record {
  busy = refl;
  step = (record { act = Load 2 1 0; effect = []; ending = End 2 1 Missing 4 ∷ []; is = refl; own = refl; one_effect = tt; one_end = refl }, refl);
}

-- by `run turns 23` over 320 words: the draws 56781712, of which 8 leaves nothing, and 2057282719 make the
-- eviction of word 159, and 2556162513 and 4205208923 a turn each
by_draws : RunsTurns 320 23 (waits []) (ended (Evict 159 ∷ []))
by_draws = (
  3,
  (
    λ e. absurd cc,
    (
      waits (Evict 159 ∷ []),
      record { effect = []; is = refl; one_effect = tt; queue = refl },
      (
        λ e. absurd cc,
        (
          halfway (Evict 159 ∷ []),
          first_after 159,
          (
            λ e. absurd cc,
            (
              ended (Evict 159 ∷ []),
              last_after 159,
              (refl, refl),
            ),
          ),
        ),
      ),
    ),
  ),
)
