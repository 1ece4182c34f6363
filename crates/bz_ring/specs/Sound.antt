-- A sound journal of a queue. The newest mark stands first.
use Rattle.std.specs.Prelude.{◌≡◌, ℕ, List, [], Option, Some, None}
use Rattle.bz_mark.specs.WordsAfter.{words_after_marks, IsTruthful}
use Rattle.bz_ring.specs.declared.marks.QMark.{QMark}
use Rattle.bz_ring.specs.declared.ring.Ring.{Ring}
use Rattle.bz_ring.specs.Calls.{items_after}
use Rattle.bz_ring.specs.Content.{content_in}
use Rattle.bz_ring.specs.Follows.{CallsOnce}
use Rattle.bz_ring.specs.Journal.{AtEachMoment, memory_of}
use Rattle.bz_ring.specs.Replies.{RepliesAreRight}

-- the durable words after these marks: what a power cut would leave
abbrev pub durable_after : List ℕ → List QMark → List ℕ
durable_after start past = (words_after_marks start (memory_of past)).durable

-- the list with which a journal begins
abbrev pub items_or_none : Option (List ℕ) → List ℕ
items_or_none None = []
items_or_none (Some items) = items

abbrev pub first_items : Ring → List ℕ → List ℕ
first_items r start = items_or_none (content_in r start)

-- after these marks the durable words alone decode to the list: that of the start with the effects since
abbrev pub Decodes : Ring → List ℕ → List QMark → Type 0
Decodes r start past = content_in r (durable_after start past) ≡ Some (items_after r.capacity (first_items r start) past)

-- Each load and compare-and-swap found what stood there; calls stand once, with right replies; and at every moment but those
-- before an Effect, those of a power cut and of recovery among them, the durable words alone decode to the list.
pub record IsSound (r : Ring) (start : List ℕ) (past : List QMark) : Type 0 where
  pub truthful : IsTruthful start (memory_of past)
  pub once : CallsOnce r.capacity (first_items r start) past
  pub replies : RepliesAreRight r (first_items r start) past
  pub durable : AtEachMoment (Decodes r start) past
