-- A small journal, worked out by hand: worker 1 asks fresh memory for the key `a`, loads the root pointer, which is
-- 1 at address 1, and is told that the key is missing. And the journals that differ from it in one thing.
use Rattle.std.specs.Prelude.{ℕ, List, [], ◌∷◌}
use Rattle.bz_layout.specs.Config.{IsConfig}
use Rattle.bz_layout.specs.Fresh.{fresh_words}
use Rattle.bz_layout.specs.declared.config.Config.{Config}
use Rattle.bz_call.specs.declared.calls.Call.TheVariants.{Get, Delete}
use Rattle.bz_call.specs.declared.replies.Reply.TheVariants.{Missing}
use Rattle.bz_mark.specs.Log.{Log}
use Rattle.bz_mark.specs.declared.marks.Mark.{Mark}
use Rattle.bz_mark.specs.declared.marks.Mark.TheVariants.{Begin, End, Load, Fence, Cut, Effect}
use Rattle.bz_sound.specs.Memory.Sound.{IsSound}

-- the key `a`
abbrev pub a_key : List ℕ
a_key = 97 ∷ []

-- fresh memory, and these marks
abbrev pub journal : Config → List Mark → Log
journal c past = record { start = fresh_words c; past = past; pages = []; limits = record { marks = 10; calls = 1; pages = 0 } }

-- the call and its load
abbrev pub asked : List Mark
asked = Load 1 1 1 ∷ Begin 1 1 (Get a_key) ∷ []

-- one that no sound journal is
abbrev pub IsRefused : Config → List Mark → Type 0
IsRefused c past = IsSound c (journal c past) → ⊥

pub record WorkedGet (c : Config) : Type 0 where
  pub right : IsSound c (journal c (End 1 1 Missing 2 ∷ asked))
  -- the moment before the load, which is no moment of a load, and a moment past the End
  pub early : IsRefused c (End 1 1 Missing 1 ∷ asked)
  pub late : IsRefused c (End 1 1 Missing 3 ∷ asked)
  -- a reply without a load, by the load of another worker, and one that no get has
  pub no_load : IsRefused c (End 1 1 Missing 1 ∷ Begin 1 1 (Get a_key) ∷ [])
  pub other_load : IsRefused c (End 1 1 Missing 3 ∷ Load 2 1 1 ∷ Begin 2 1 (Get a_key) ∷ Begin 1 1 (Get a_key) ∷ [])
  -- the End of another call, a second call beside it, and a first one with number 2
  pub other_call : IsRefused c (End 1 2 Missing 2 ∷ asked)
  pub two_calls : IsRefused c (Begin 1 2 (Get a_key) ∷ asked)
  pub skipped : IsRefused c (Begin 1 2 (Get a_key) ∷ [])
  -- a load of another value, one without a call, and a call of worker 0
  pub other_value : IsRefused c (Load 1 1 2 ∷ Begin 1 1 (Get a_key) ∷ [])
  pub no_call : IsRefused c (Load 1 1 1 ∷ [])
  pub recovering : IsRefused c (Begin 0 1 (Get a_key) ∷ [])
  -- an Effect directly after a load, and one a mark after the fence
  pub after_load : IsRefused c (Effect 1 1 ∷ asked)
  pub after_begin : IsRefused c (Effect 1 1 ∷ Begin 1 1 (Delete a_key) ∷ Fence 2 ∷ Begin 2 1 (Get a_key) ∷ [])
  -- a power cut
  pub cut : IsRefused c (Cut ∷ asked)

abbrev pub WorkedGetIsSound : Type 0
WorkedGetIsSound = (c : Config) → IsConfig c → WorkedGet c
