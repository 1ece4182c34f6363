-- What a call does to a list that is first in, first out, and holds at most so many items.
use Rattle.std.specs.Prelude.{if◌then◌else◌, nat_lt, ℕ, List, [], ◌∷◌, ◌++◌, length}
use Rattle.bz_ring.specs.declared.calls.QCall.{QCall}
use Rattle.bz_ring.specs.declared.calls.QCall.TheVariants as call
use Rattle.bz_ring.specs.declared.calls.QReply.{QReply}
use Rattle.bz_ring.specs.declared.calls.QReply.TheVariants as reply

-- what a call is answered, and the list afterwards
pub record Answer : Type 0 where
  pub reply : QReply
  pub items : List ℕ

-- a put appends its number where there is room; a take drops the first item where there is one
abbrev pub apply : ℕ → List ℕ → QCall → Answer
apply capacity items (call.Put item) =
    if nat_lt (length items) capacity then record { reply = reply.Put; items = items ++ item ∷ [] } else record { reply = reply.Full; items = items }
apply capacity [] call.Take = record { reply = reply.Empty; items = [] }
apply capacity (item ∷ items) call.Take = record { reply = reply.Taken item; items = items }

-- the reply is that of a call which changed the list
abbrev pub IsChange : QReply → Type 0
IsChange reply.Put = Unit {0}
IsChange (reply.Taken item) = Unit {0}
IsChange reply.Empty = ⊥
IsChange reply.Full = ⊥
IsChange reply.Spent = ⊥
