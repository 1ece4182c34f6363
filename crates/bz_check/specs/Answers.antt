-- What a map answers a call, by what stands at the call's key, and whether a reply is this answer.
use Rattle.std.specs.Prelude.{not, ℕ, Bool, true, false, List, Option, Some, None, is_some, bytes_eq}
use Rattle.std.specs.FinMap.{empty}
use Rattle.bz_call.specs.Map.{Map, apply_at}
use Rattle.bz_call.specs.declared.calls.Call.{Call}
use Rattle.bz_call.specs.declared.calls.Call.TheVariants as call
use Rattle.bz_call.specs.declared.replies.Reply.{Reply}
use Rattle.bz_call.specs.declared.replies.Reply.TheVariants as reply

-- what the map answers where this stands at the key: the rest of the map does not matter
abbrev pub no_map : Map
no_map = empty

abbrev pub reply_by : Option (List ℕ) → Call → Option Reply
reply_by found asked = (apply_at found no_map asked).reply

-- two replies are one, where the first names no page and is no Full
abbrev pub same_reply : Reply → Reply → Bool
same_reply reply.Inserted reply.Inserted = true
same_reply reply.Inserted other = false
same_reply reply.Exists reply.Exists = true
same_reply reply.Exists other = false
same_reply (reply.Deleted had) (reply.Deleted other) = bytes_eq had other
same_reply (reply.Deleted had) other = false
same_reply (reply.Updated had) (reply.Updated other) = bytes_eq had other
same_reply (reply.Updated had) other = false
same_reply reply.Missing reply.Missing = true
same_reply reply.Missing other = false
same_reply (reply.Value had) (reply.Value other) = bytes_eq had other
same_reply (reply.Value had) other = false
same_reply (reply.Page page next) other = false
same_reply (reply.Full spent) other = false

abbrev pub tells : Option Reply → Reply → Bool
tells None told = false
tells (Some answer) told = same_reply answer told

-- the map answers the call so
abbrev pub answers_so : Option (List ℕ) → Call → Reply → Bool
answers_so found asked told = tells (reply_by found asked) told

-- the payload that stands there is this one, or none does and that is enough
abbrev pub is_payload : Bool → Option (List ℕ) → List ℕ → Bool
is_payload enough None payload = enough
is_payload enough (Some had) payload = bytes_eq had payload

-- the call leaves the map as it is
abbrev pub stays_in : Option (List ℕ) → Call → Bool
stays_in found (call.Insert key payload) = is_some found
stays_in found (call.Delete key) = not (is_some found)
stays_in found (call.Update key payload) = is_payload true found payload
stays_in found (call.Upsert key payload) = is_payload false found payload
stays_in found (call.Get key) = true
stays_in found (call.Page key) = true

-- the call may change a map
abbrev pub is_write_in : Call → Bool
is_write_in (call.Insert key payload) = true
is_write_in (call.Delete key) = true
is_write_in (call.Update key payload) = true
is_write_in (call.Upsert key payload) = true
is_write_in (call.Get key) = false
is_write_in (call.Page key) = false
