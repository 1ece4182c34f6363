-- A mark of the memory while no call is open, by which the values stay: the journal stays sound, and the list is what it was.
use Rattle.std.proofs.Common.{◌≡◌, ◌<◌, ◌≤◌, ◌+◌, ◌%◌, ℕ, List, ◌∷◌, length, get_or, refl, sym, ◌∙◌, arith, inl, inr, Option, None}
use Rattle.std.specs.Global.{Vec}
use Rattle.bz_layout.specs.declared.sizes.TheConstants.{SUPERBLOCK_WORDS}
use Rattle.bz_mark.specs.WordsAfter.{state_after_marks, words_after_marks}
use Rattle.bz_mark.specs.declared.marks.Mark.{Mark}
use Rattle.bz_mark.specs.declared.marks.Mark.TheVariants as mark
use Rattle.bz_mark.specs.declared.power.Power.{Power}
use Rattle.bz_swap.specs.SwapMemory.{SwapMemory, memory_words, value_at}
use Rattle.bz_swap_marks.specs.Past.{SamePast}
use Rattle.bz_sweep.specs.Areas.{IsArea}
use Rattle.bz_sweep.specs.Words.{IsShared}
use Rattle.bz_ring.proofs.Proved.{other_words_do_not_matter, sound_journals_grow}
use Rattle.bz_ring.specs.Calls.{items_after, open_call}
use Rattle.bz_ring.specs.Content.{cell_of}
use Rattle.bz_ring.specs.ContentLaws.{HoldsItems}
use Rattle.bz_ring.specs.Follows.{power_after}
use Rattle.bz_ring.specs.Fresh.{IsRing}
use Rattle.bz_ring.specs.Growth.{Happens, LeavesContent}
use Rattle.bz_ring.specs.Journal.{memory_of, with_mark}
use Rattle.bz_ring.specs.Solitary.{IsSparing}
use Rattle.bz_ring.specs.Sound.{Decodes, IsSound, first_items}
use Rattle.bz_ring.specs.declared.marks.QMark.{QMark}
use Rattle.bz_ring.specs.declared.marks.QMark.TheVariants.{Memory}
use Rattle.bz_ring.specs.declared.ring.Ring.{Ring}
use Rattle.bz_ring.specs.declared.ring.TheConstants.{HEAD_AT, TAIL_AT}
use Rattle.bz_queue.proofs.Contents.{decodes-now, holds-now}
use Rattle.bz_queue.proofs.Tables.{ring-of, tabled-still}
use Rattle.bz_queue.specs.Inside.Kept.{IsAwake, IsDark, IsTabled, area_of}
use Rattle.bz_queue.specs.declared.parts.Parts.{Parts}
use Rattle.bz_queue.specs.declared.serving.OpenCall.{OpenCall}

-- what a sweep goes over is an area
pub is-area : (r : Ring) → IsRing r → IsArea (area_of r)
is-area r is = record { some = omega (arith, is.one); few = omega (arith, is.numbered); lines = omega arith; size = omega (arith, is.few, is.numbered) }

-- the counters and the cells are words of it that swaps may name
shared-counter : (r : Ring) (a : ℕ) → a < SUPERBLOCK_WORDS → IsShared (area_of r) a
shared-counter r a low = record { within = omega arith; outside = inl low }

shared-cell : (r : Ring) → IsRing r → (counter : ℕ) → IsShared (area_of r) (cell_of r counter)
shared-cell r is counter =
    let below : counter % r.capacity < r.capacity = omega (arith, is.some) in
    record { within = omega (arith, below); outside = inr (omega arith) }

-- values that are the same there hold the same list
pub same-list : (r : Ring) → IsRing r → (old new : ℕ → ℕ) (items : List ℕ) → ((a : ℕ) → IsShared (area_of r) a → new a ≡ old a) → HoldsItems r old items → HoldsItems r new items
same-list r is old new items same holds =
    other_words_do_not_matter r old new items (same HEAD_AT (shared-counter r HEAD_AT (omega arith))) (same TAIL_AT (shared-counter r TAIL_AT (omega arith))) (λ counter. same (cell_of r counter) (shared-cell r is counter)) holds

pub same-tail : (r : Ring) (old new : ℕ → ℕ) → ((a : ℕ) → IsShared (area_of r) a → new a ≡ old a) → new TAIL_AT ≡ old TAIL_AT
same-tail r old new same = same TAIL_AT (shared-counter r TAIL_AT (omega arith))

-- the values hold the journal's list
pub record IsListed (p : Parts) (values : ℕ → ℕ) : Type 0 where
  pub tabled : IsTabled p
  pub sound : IsSound p.numbers.ring p.journal.start p.journal.past
  pub sparing : IsSparing p.numbers.ring p.journal.past
  pub list : HoldsItems p.numbers.ring values (items_after p.numbers.ring.capacity (first_items p.numbers.ring p.journal.start) p.journal.past)
  pub low : values TAIL_AT ≤ length p.journal.past

pub listed-awake : (p : Parts) → IsAwake p → IsListed p (value_at p.access)
listed-awake p k = record {
  tabled = k.tabled;
  sound = k.sound;
  sparing = k.sparing;
  list = holds-now p.numbers.ring p.access p.journal.start p.journal.past k.memory.words k.tabled.swaps k.sound.durable.0;
  low = k.memory.low;
}

pub listed-dark : (p : Parts) (d : IsDark p) → IsListed p d.values
listed-dark p d = record { tabled = d.tabled; sound = d.sound; sparing = d.sparing; list = d.list; low = d.low }

-- the mark, and the memory after it
pub record Marks (p : Parts) (values : ℕ → ℕ) (m : SwapMemory) (memory : Mark) (z : Power) : Type 0 where
  pub happens : Happens p.journal.start p.journal.past memory
  pub words : memory_words m ≡ words_after_marks p.journal.start (memory ∷ memory_of p.journal.past)
  pub past : SamePast m (state_after_marks p.journal.start (memory ∷ memory_of p.journal.past))
  pub stays : (a : ℕ) → IsShared (area_of p.numbers.ring) a → value_at m a ≡ values a
  pub count : length m.workers ≡ length p.access.workers
  pub swaps : m.swaps ≡ p.access.swaps
  pub size : length m.cached ≡ length p.access.cached
  pub steps : m.steps ≤ p.access.steps + 1
  pub power : power_after (Memory memory ∷ p.journal.past) ≡ z
  pub room : length p.journal.past < p.journal.most

-- the queue after it
abbrev pub after-mark : Parts → SwapMemory → Mark → Power → Vec (Option OpenCall) → Parts
after-mark p m memory z table = record p { access = m; journal = with_mark p.journal (Memory memory); power = z; workers = table }

module _ (p : Parts) (values : ℕ → ℕ) (l : IsListed p values) (m : SwapMemory) (memory : Mark) (z : Power) (h : Marks p values m memory z) where
  ring : IsRing p.numbers.ring
  ring = ring-of p.numbers l.tabled.numbers

  abbrev new : List QMark
  new = Memory memory ∷ p.journal.past

  decodes : Decodes p.numbers.ring p.journal.start new
  decodes =
      decodes-now p.numbers.ring m p.journal.start new h.words (h.swaps ∙ l.tabled.swaps)
      (same-list p.numbers.ring ring values (value_at m) (items_after p.numbers.ring.capacity (first_items p.numbers.ring p.journal.start) p.journal.past) h.stays l.list)

  leaves : LeavesContent p.numbers.ring p.journal.start p.journal.past memory
  leaves = decodes ∙ sym l.sound.durable.0

  pub sound-after : IsSound p.numbers.ring p.journal.start new
  sound-after = (sound_journals_grow p.numbers.ring p.journal.start p.journal.past).quiet memory l.sound h.happens leaves

  pub tabled-after : (table : Vec (Option OpenCall)) → length table.items ≡ length p.workers.items → IsTabled (after-mark p m memory z table)
  tabled-after table places = tabled-still p (after-mark p m memory z table) l.tabled (record {
    numbers = refl;
    start = refl;
    most = refl;
    places = places;
    last = refl;
    owner_places = refl;
    begun = refl;
    count = h.count;
    swaps = h.swaps;
    size = h.size;
    calls = λ w. refl;
    begins = refl;
    steps = omega (arith, h.steps, l.tabled.steps);
    room = omega (arith, h.room);
    power = h.power;
  })

-- a mark of the memory opens no call
pub none-opens : (w : ℕ) (past : List QMark) (memory : Mark) → open_call w past ≡ None → open_call w (Memory memory ∷ past) ≡ None
none-opens w past mark.Cut none = refl
none-opens w past other none = none

-- no call is open after it, and the values hold the list still
unfoldable pub darkens : (p : Parts) (values : ℕ → ℕ) (l : IsListed p values) (m : SwapMemory) (memory : Mark) (z : Power) (h : Marks p values m memory z) (table : Vec (Option OpenCall))
    → length table.items ≡ length p.workers.items → ((w : ℕ) → get_or table.items w None ≡ None) → ((w : ℕ) → open_call w (Memory memory ∷ p.journal.past) ≡ None) → IsDark (after-mark p m memory z table)
darkens p values l m memory z h table places none calls = record {
  tabled = tabled-after p values l m memory z h table places;
  sound = sound-after p values l m memory z h;
  sparing = (tt, l.sparing);
  words = h.words;
  past = h.past;
  none = none;
  calls = calls;
  values = values;
  list = l.list;
  low = omega (arith, l.low);
}
