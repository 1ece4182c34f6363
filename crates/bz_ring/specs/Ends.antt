-- What each End of a sound journal tells of its call. The newest mark stands first.
use Rattle.std.specs.Prelude.{◌≡◌, ◌<◌, ◌≤◌, ℕ, List, length, Some, None}
use Rattle.bz_ring.specs.declared.calls.QReply.{QReply}
use Rattle.bz_ring.specs.declared.calls.QReply.TheVariants as reply
use Rattle.bz_ring.specs.declared.marks.QMark.{QMark}
use Rattle.bz_ring.specs.declared.marks.QMark.TheVariants.{End}
use Rattle.bz_ring.specs.declared.ring.Ring.{Ring}
use Rattle.bz_ring.specs.Calls.{Open, open_call}
use Rattle.bz_ring.specs.Journal.{EachMark}
use Rattle.bz_ring.specs.Lists.{IsChange}
use Rattle.bz_ring.specs.Replies.{AreSpent, ListReplies}
use Rattle.bz_ring.specs.Sound.{IsSound, first_items}

-- the call was open, and its reply is of a moment after its Begin and not after its End
pub record EndTells (r : Ring) (first : List ℕ) (past : List QMark) (w n : ℕ) (answer : QReply) (at : ℕ) : Type 0 where
  pub opened : Open
  pub is_open : open_call w past ≡ Some opened
  pub number : opened.number ≡ n
  pub after_begin : opened.begun < at
  pub before_end : at ≤ length past
  -- spent: it had no effect, the moment is that of the End, and the descriptors that were taken and the other open calls were as many
  -- as there are descriptors
  pub spent : answer ≡ reply.Spent → (opened.effect ≡ None) × ((at ≡ length past) × AreSpent r past w)
  -- any other reply is that of the list at this moment
  pub listed : (answer ≡ reply.Spent → ⊥) → ListReplies r first past (record { worker = w; opened = opened; reply = answer; at = at })
  -- put or taken: the effect came just after it
  pub changed : IsChange answer → opened.effect ≡ Some at

abbrev pub TellsEnd : Ring → List ℕ → List QMark → QMark → Type 0
TellsEnd r first past (End w n answer at) = EndTells r first past w n answer at
TellsEnd r first past mark = Unit {0}

abbrev pub EndsTell : Type 0
EndsTell = (r : Ring) (start : List ℕ) (past : List QMark) → IsSound r start past → EachMark (TellsEnd r (first_items r start)) past
