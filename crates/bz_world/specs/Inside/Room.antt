-- When a leaf has no room for the change of a call.
use Rattle.std.specs.Prelude.{◌≡◌, ℕ, true, false}
use Rattle.bz_call.specs.declared.calls.Call.{Call}
use Rattle.bz_call.specs.declared.calls.Call.TheVariants.{Insert, Delete, Update, Upsert}
use Rattle.bz_record.specs.Records.{words_for, HasRoom, LacksRoom}
use Rattle.bz_word.specs.Statuses.{status}

-- a leaf with this status is frozen, or lacks a metadata word or the words of the record that the call puts there
abbrev pub LacksRoomFor : Call → ℕ → Type 0
LacksRoomFor (Insert key payload) st = LacksRoom st (words_for key payload)
LacksRoomFor (Update key payload) st = LacksRoom st (words_for key payload)
LacksRoomFor (Upsert key payload) st = LacksRoom st (words_for key payload)
LacksRoomFor (Delete key) st = (status st).frozen ≡ true
LacksRoomFor call st = ⊥

-- or it is not frozen, and has them
abbrev pub HasRoomFor : Call → ℕ → Type 0
HasRoomFor (Insert key payload) st = HasRoom st (words_for key payload)
HasRoomFor (Update key payload) st = HasRoom st (words_for key payload)
HasRoomFor (Upsert key payload) st = HasRoom st (words_for key payload)
HasRoomFor (Delete key) st = (status st).frozen ≡ false
HasRoomFor call st = Unit {0}
