-- What the calls of a queue read, swap and reply.
use Rattle.std.specs.Prelude.{◌≡◌, ◌≢◌, ◌+◌, ◌-◌, ℕ, List, [], ◌∷◌}
use Rattle.bz_word.specs.declared.entry.Entry.{Entry}
use Rattle.bz_ring.specs.declared.calls.QCall.{QCall}
use Rattle.bz_ring.specs.declared.calls.QCall.TheVariants as call
use Rattle.bz_ring.specs.declared.calls.QReply.{QReply}
use Rattle.bz_ring.specs.declared.calls.QReply.TheVariants as reply
use Rattle.bz_ring.specs.declared.ring.Ring.{Ring}
use Rattle.bz_ring.specs.declared.ring.TheConstants.{HEAD_AT, TAIL_AT}
use Rattle.bz_ring.specs.Content.{cell_of}

-- the address of a call's counter
abbrev pub counter_of : QCall → ℕ
counter_of (call.Put item) = TAIL_AT
counter_of call.Take = HEAD_AT

-- a cell with this word suits the call: a put needs an empty one, and a take one with an item
abbrev pub Suits : QCall → ℕ → Type 0
Suits (call.Put item) word = word ≡ 0
Suits call.Take word = word ≢ 0

-- what the call's cell becomes
abbrev pub word_after : QCall → ℕ
word_after (call.Put item) = item + 1
word_after call.Take = 0

-- the swap of a call: its counter becomes one more, and the counter's cell what the call makes of it
abbrev pub entries_of : Ring → QCall → ℕ → ℕ → List Entry
entries_of r called counter word =
    record { target = counter_of called; expected = counter; new = counter + 1 }
    ∷ record { target = cell_of r counter; expected = word; new = word_after called }
    ∷ []

-- the reply of a call that has changed the list: of a take, whose cell had this word
abbrev pub change_reply : QCall → ℕ → QReply
change_reply (call.Put item) word = reply.Put
change_reply call.Take word = reply.Taken (word - 1)

-- the reply of a call whose cell did not suit
abbrev pub none_reply : QCall → QReply
none_reply (call.Put item) = reply.Full
none_reply call.Take = reply.Empty
