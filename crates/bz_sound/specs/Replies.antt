-- Pages of a journal, and what an ordered map answers a call that changes nothing.
use Rattle.std.specs.Prelude.{◌≡◌, ℕ, List, Some}
use Rattle.bz_call.specs.Map.{Map, apply}
use Rattle.bz_call.specs.declared.calls.Call.{Call}
use Rattle.bz_call.specs.declared.replies.Reply.{Reply}

-- the journal's pages, in the order of their numbers
abbrev pub Pages : Type 0
Pages = List (List (List ℕ × List ℕ))

-- an ordered map answers the call so, and stays as it is
pub record AnswersOnly (map : Map) (call : Call) (reply : Reply) : Type 0 where
  pub answers : (apply map call).reply ≡ Some reply
  pub stays : (apply map call).map ≡ map
