-- Pages: which calls ask for one, which replies name one, and what a page shows of a map.
use Rattle.std.specs.Prelude.{ℕ, Bool, true, false, List, filter}
use Rattle.std.specs.Ordering.{nat_cmp, is_ge}
use Rattle.std.specs.Cmp.Lexicographic.{slice_cmp}
use Rattle.std.specs.FinMap.{entries}
use Rattle.bz_call.specs.Map.{Map}
use Rattle.bz_call.specs.declared.calls.Call.{Call}
use Rattle.bz_call.specs.declared.calls.Call.TheVariants as call
use Rattle.bz_call.specs.declared.replies.Reply.{Reply}
use Rattle.bz_call.specs.declared.replies.Reply.TheVariants as reply

-- the call asks for a page
abbrev pub is_page : Call → Bool
is_page (call.Page from) = true
is_page other = false

-- the reply names a page
abbrev pub names_page : Reply → Bool
names_page (reply.Page page next) = true
names_page other = false

-- the key is this one or a greater one
abbrev pub is_from : List ℕ → List ℕ → Bool
is_from from key = is_ge (slice_cmp nat_cmp key from)

-- the pairs of a map from a key on, in ascending order of their keys
abbrev pub pairs_from : Map → List ℕ → List (List ℕ × List ℕ)
pairs_from map from = filter (λ pair. is_from from pair.0) (entries map)
