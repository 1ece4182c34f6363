-- Right replies: what one list answers at one moment of the call. The newest mark stands first.
use Rattle.std.specs.Prelude.{◌≡◌, ◌<◌, ◌≤◌, ◌+◌, ℕ, List, ◌∷◌, length, Option, Some, None}
use Rattle.bz_mark.specs.Counts.{taken_among}
use Rattle.bz_mark.specs.Times.{since_on}
use Rattle.bz_mark.specs.declared.marks.Mark.TheVariants.{Load}
use Rattle.bz_ring.specs.declared.calls.QReply.{QReply}
use Rattle.bz_ring.specs.declared.calls.QReply.TheVariants as reply
use Rattle.bz_ring.specs.declared.marks.QMark.{QMark}
use Rattle.bz_ring.specs.declared.marks.QMark.TheVariants.{End, Memory}
use Rattle.bz_ring.specs.declared.ring.Ring.{Ring}
use Rattle.bz_ring.specs.Calls.{Open, open_call, count_others, list_at}
use Rattle.bz_ring.specs.Journal.{EachMark, at_moment, memory_of}
use Rattle.bz_ring.specs.Lists.{apply}

-- an answer to a call: its worker, the call while it is open, the reply, and the moment at which it is taken to have happened
pub record Told : Type 0 where
  pub worker : ℕ
  pub opened : Open
  pub reply : QReply
  pub at : ℕ

-- the newest mark is a load of this worker
abbrev pub IsAfterLoad : ℕ → List QMark → Type 0
IsAfterLoad w (Memory (Load v a value) ∷ past) = v ≡ w
IsAfterLoad w past = ⊥

-- the list at the moment of the answer replies so
abbrev pub ListReplies : Ring → List ℕ → List QMark → Told → Type 0
ListReplies r first past told = (apply r.capacity (list_at r.capacity first told.at past) told.opened.call).reply ≡ told.reply

-- the descriptors that were taken since the power came on, and those that the other open calls may have taken without a store yet,
-- are all that there are
abbrev pub AreSpent : Ring → List QMark → ℕ → Type 0
AreSpent r past w = r.swaps ≤ taken_among r.swaps (since_on (memory_of past)) + count_others w past

-- a call with an effect happened just before it
abbrev pub IsRightWith : Ring → List ℕ → List QMark → Told → ℕ → Type 0
IsRightWith r first past told effect = (told.at ≡ effect) × ListReplies r first past told

-- one without an effect put and took nothing: the list was so directly after a load of its own, or no descriptor was left at its end
abbrev pub IsRightWithout : Ring → List ℕ → List QMark → Told → QReply → Type 0
IsRightWithout r first past told reply.Put = ⊥
IsRightWithout r first past told (reply.Taken item) = ⊥
IsRightWithout r first past told reply.Empty = IsAfterLoad told.worker (at_moment told.at past) × ListReplies r first past told
IsRightWithout r first past told reply.Full = IsAfterLoad told.worker (at_moment told.at past) × ListReplies r first past told
IsRightWithout r first past told reply.Spent = (told.at ≡ length past) × AreSpent r past told.worker

abbrev pub IsRightBy : Ring → List ℕ → List QMark → Told → Option ℕ → Type 0
IsRightBy r first past told None = IsRightWithout r first past told told.reply
IsRightBy r first past told (Some effect) = IsRightWith r first past told effect

-- the reply is right at a moment after the call's Begin and not after its End
pub record IsRightReply (r : Ring) (first : List ℕ) (past : List QMark) (told : Told) : Type 0 where
  pub after_begin : told.opened.begun < told.at
  pub before_end : told.at ≤ length past
  pub right : IsRightBy r first past told told.opened.effect

-- an End has the right reply to the open call of its worker
abbrev pub HasRightReplyTo : Ring → List ℕ → List QMark → ℕ → QReply → ℕ → Option Open → Type 0
HasRightReplyTo r first past w answer at None = ⊥
HasRightReplyTo r first past w answer at (Some opened) = IsRightReply r first past (record { worker = w; opened = opened; reply = answer; at = at })

abbrev pub HasRightReply : Ring → List ℕ → List QMark → QMark → Type 0
HasRightReply r first past (End w n answer at) = HasRightReplyTo r first past w answer at (open_call w past)
HasRightReply r first past mark = Unit {0}

-- each End's reply is right
abbrev pub RepliesAreRight : Ring → List ℕ → List QMark → Type 0
RepliesAreRight r first past = EachMark (HasRightReply r first) past
