-- A list of pairs as a map, and whether a call changes what it finds.
use Rattle.std.specs.Prelude.{◌≡◌, not, ℕ, Bool, true, false, List, Option, is_some}
use Rattle.std.specs.Ordering.{nat_cmp}
use Rattle.std.specs.Cmp.Lexicographic.{slice_cmp}
use Rattle.std.specs.BTreeMap.{is_at}
use Rattle.std.specs.FinMap.{get}
use Rattle.std.specs.Map.{lookup}
use Rattle.bz_call.specs.Map.{Map, key_of}
use Rattle.bz_call.specs.declared.calls.Call.{Call}
use Rattle.bz_call.specs.declared.calls.Call.TheVariants.{Insert, Delete, Update, Upsert, Get, Page}

-- what stands at a key
abbrev pub payload_at : List (List ℕ × List ℕ) → List ℕ → Option (List ℕ)
payload_at pairs key = lookup (is_at (slice_cmp nat_cmp key)) pairs

-- the pairs are those of the map
abbrev pub Holds : Map → List (List ℕ × List ℕ) → Type 0
Holds map pairs = (key : List ℕ) → get map key ≡ payload_at pairs key

-- what a call finds at its key
abbrev pub found_in : List (List ℕ × List ℕ) → Call → Option (List ℕ)
found_in pairs call = payload_at pairs (key_of call)

-- a call changes the map where it finds this
abbrev pub may_change : Option (List ℕ) → Call → Bool
may_change found (Insert key payload) = not (is_some found)
may_change found (Delete key) = is_some found
may_change found (Update key payload) = is_some found
may_change found (Upsert key payload) = true
may_change found (Get key) = false
may_change found (Page key) = false
