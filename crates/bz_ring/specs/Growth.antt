-- How a sound journal grows by one mark, or by an act and the effect that it made durable.
use Rattle.std.specs.Prelude.{◌≡◌, ℕ, List, [], ◌∷◌, Some}
use Rattle.bz_mark.specs.WordsAfter.{words_after_marks, Found}
use Rattle.bz_mark.specs.declared.marks.Mark.{Mark}
use Rattle.bz_ring.specs.declared.calls.QCall.{QCall}
use Rattle.bz_ring.specs.declared.marks.QMark.{QMark}
use Rattle.bz_ring.specs.declared.marks.QMark.TheVariants.{Begin, End, Effect, Memory}
use Rattle.bz_ring.specs.declared.ring.Ring.{Ring}
use Rattle.bz_ring.specs.Calls.{open_call}
use Rattle.bz_ring.specs.Content.{content_in}
use Rattle.bz_ring.specs.Follows.{BeginsPowered, EffectsNow, MayHappen}
use Rattle.bz_ring.specs.Journal.{memory_of}
use Rattle.bz_ring.specs.Replies.{Told, IsRightReply}
use Rattle.bz_ring.specs.Sound.{IsSound, Decodes, durable_after, first_items}

-- this may happen to the memory, and a load or compare-and-swap found what stood there
pub record Happens (start : List ℕ) (past : List QMark) (memory : Mark) : Type 0 where
  pub may : MayHappen past memory
  pub found : Found (words_after_marks start (memory_of past)) memory

-- the durable words decode to the list that they decoded to
abbrev pub LeavesContent : Ring → List ℕ → List QMark → Mark → Type 0
LeavesContent r start past memory = content_in r (durable_after start (Memory memory ∷ past)) ≡ content_in r (durable_after start past)

pub record SoundGrows (r : Ring) (start : List ℕ) (past : List QMark) : Type 0 where
  -- the durable words decode to the list now
  pub now : IsSound r start past → Decodes r start past
  pub begin : (w n : ℕ) (call : QCall) → IsSound r start past → BeginsPowered past w n → IsSound r start (Begin w n call ∷ past)
  pub quiet : (memory : Mark) → IsSound r start past → Happens start past memory → LeavesContent r start past memory → IsSound r start (Memory memory ∷ past)
  -- an act or an eviction by which a call has its effect
  pub effect : (memory : Mark) (w n : ℕ) → IsSound r start past → Happens start past memory → EffectsNow r.capacity (first_items r start) (Memory memory ∷ past) w n
      → Decodes r start (Effect w n ∷ Memory memory ∷ past) → IsSound r start (Effect w n ∷ Memory memory ∷ past)
  pub end : (told : Told) → IsSound r start past → open_call told.worker past ≡ Some told.opened → IsRightReply r (first_items r start) past told
      → IsSound r start (End told.worker told.opened.number told.reply told.at ∷ past)

abbrev pub SoundJournalsGrow : Type 0
SoundJournalsGrow = (r : Ring) (start : List ℕ) (past : List QMark) → SoundGrows r start past

-- with no mark it is sound where the words hold a list
abbrev pub FreshJournalsAreSound : Type 0
FreshJournalsAreSound = (r : Ring) (start items : List ℕ) → content_in r start ≡ Some items → IsSound r start []
