-- The ordered map and its step: what a call answers, and the map after it. These are the index operations
-- of the BzTree paper (Arulraj, Levandoski, Minhas, Larson, PVLDB 11(5), 2018), on a map without duplicates.
use Rattle.std.specs.Prelude.{ℕ, List, Option, Some, None}
use Rattle.std.specs.Ordering.{nat_cmp}
use Rattle.std.specs.Cmp.Lexicographic.{slice_cmp}
use Rattle.std.specs.FinMap.{FinMap, get, insert, remove}
use Rattle.bz_call.specs.declared.calls.Call.{Call}
use Rattle.bz_call.specs.declared.calls.Call.TheVariants.{Insert, Delete, Update, Upsert, Get, Page}
use Rattle.bz_call.specs.declared.replies.Reply.{Reply}
use Rattle.bz_call.specs.declared.replies.Reply.TheVariants.{Inserted, Exists, Deleted, Updated, Missing, Value}

-- from the bytes of keys to the bytes of payloads; keys are in the order of their bytes, a prefix first
abbrev pub Map : Type 0
Map = FinMap (slice_cmp nat_cmp) (List ℕ)

-- what a call makes of a map: the reply, and the map after it
pub record Applied : Type 0 where
  pub reply : Option Reply
  pub map : Map

abbrev pub key_of : Call → List ℕ
key_of (Insert key payload) = key
key_of (Delete key) = key
key_of (Update key payload) = key
key_of (Upsert key payload) = key
key_of (Get key) = key
key_of (Page key) = key

-- a call on a map that has this payload at the call's key, or none. One key does not answer a page.
abbrev pub apply_at : Option (List ℕ) → Map → Call → Applied
apply_at None map (Insert key payload) = record { reply = Some Inserted; map = insert map key payload }
apply_at (Some had) map (Insert key payload) = record { reply = Some Exists; map = map }
apply_at None map (Delete key) = record { reply = Some Missing; map = map }
apply_at (Some had) map (Delete key) = record { reply = Some (Deleted had); map = remove map key }
apply_at None map (Update key payload) = record { reply = Some Missing; map = map }
apply_at (Some had) map (Update key payload) = record { reply = Some (Updated had); map = insert map key payload }
apply_at None map (Upsert key payload) = record { reply = Some Inserted; map = insert map key payload }
apply_at (Some had) map (Upsert key payload) = record { reply = Some (Updated had); map = insert map key payload }
apply_at None map (Get key) = record { reply = Some Missing; map = map }
apply_at (Some had) map (Get key) = record { reply = Some (Value had); map = map }
apply_at found map (Page key) = record { reply = None; map = map }

-- the map step
abbrev pub apply : Map → Call → Applied
apply map call = apply_at (get map (key_of call)) map call

-- the replies of calls that changed the map
abbrev pub IsChange : Option Reply → Type 0
IsChange (Some Inserted) = Unit {0}
IsChange (Some (Deleted had)) = Unit {0}
IsChange (Some (Updated had)) = Unit {0}
IsChange other = ⊥
