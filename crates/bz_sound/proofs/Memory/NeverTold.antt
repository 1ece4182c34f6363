-- What the step of a map never answers.
use Rattle.std.proofs.Common.{◌≡◌, ℕ, List, Option, Some, None}
use Rattle.bz_call.specs.Map.{Map, apply_at}
use Rattle.bz_call.specs.declared.calls.Call.{Call}
use Rattle.bz_call.specs.declared.calls.Call.TheVariants as call
use Rattle.bz_call.specs.declared.calls.Call.TheVariants.{Insert, Delete, Update, Upsert, Get}
use Rattle.bz_call.specs.declared.replies.Reply.TheVariants.{Page, Full}
use Rattle.bz_call.specs.declared.replies.Spent.{Spent}

-- no room
pub never-full : (found : Option (List ℕ)) (map : Map) (call : Call) (spent : Spent) → (apply_at found map call).reply ≡ Some (Full spent) → ⊥
never-full None map (Insert key payload) spent is = cc
never-full (Some had) map (Insert key payload) spent is = cc
never-full None map (Delete key) spent is = cc
never-full (Some had) map (Delete key) spent is = cc
never-full None map (Update key payload) spent is = cc
never-full (Some had) map (Update key payload) spent is = cc
never-full None map (Upsert key payload) spent is = cc
never-full (Some had) map (Upsert key payload) spent is = cc
never-full None map (Get key) spent is = cc
never-full (Some had) map (Get key) spent is = cc
never-full found map (call.Page key) spent is = cc

-- a page, by one key
pub never-page : (found : Option (List ℕ)) (map : Map) (call : Call) (page : ℕ) (next : Option (List ℕ)) → (apply_at found map call).reply ≡ Some (Page page next) → ⊥
never-page None map (Insert key payload) page next is = cc
never-page (Some had) map (Insert key payload) page next is = cc
never-page None map (Delete key) page next is = cc
never-page (Some had) map (Delete key) page next is = cc
never-page None map (Update key payload) page next is = cc
never-page (Some had) map (Update key payload) page next is = cc
never-page None map (Upsert key payload) page next is = cc
never-page (Some had) map (Upsert key payload) page next is = cc
never-page None map (Get key) page next is = cc
never-page (Some had) map (Get key) page next is = cc
never-page found map (call.Page key) page next is = cc
