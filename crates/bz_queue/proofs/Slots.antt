-- What a queue knows of a worker's call stays over what does not concern it.
use Rattle.std.proofs.Common.{◌≡◌, ◌<◌, ◌≤◌, ℕ, List, [], length, slice_index, sym, ap, subst, ◌∙◌, arith, Option, Some, None}
use Rattle.bz_swap.specs.SwapMemory.{SwapMemory, Swapping, has_effect, entries_of, doing_of}
use Rattle.bz_ring.specs.declared.calls.QCall.{QCall}
use Rattle.bz_ring.specs.declared.calls.QReply.{QReply}
use Rattle.bz_ring.specs.declared.marks.QMark.{QMark}
use Rattle.bz_ring.specs.declared.ring.Ring.{Ring}
use Rattle.bz_ring.specs.Calls.{Open, open_call, begun_calls, items_after}
use Rattle.bz_ring.specs.Content.{cell_of}
use Rattle.bz_ring.specs.Journal.{at_moment}
use Rattle.bz_ring.specs.Lists.{apply}
use Rattle.bz_ring.specs.Replies.{IsAfterLoad}
use Rattle.bz_change.specs.Changes as change
use Rattle.bz_queue.specs.Inside.Serving.{counter_now, RepliesAt, DidNotSuit, IsChanged, IsSwapping, IsReading, IsAt, IsOpened, IsSlot}
use Rattle.bz_queue.specs.declared.serving.OpenCall.{OpenCall}
use Rattle.bz_queue.specs.declared.serving.Place.{Place}
use Rattle.bz_queue.specs.declared.serving.Place.TheVariants.{Counter, Cell, Again, Swap}

-- the marks before each moment are what they were
pub record Extends (past past' : List QMark) : Type 0 where
  pub longer : length past ≤ length past'
  pub earlier : (at : ℕ) → at ≤ length past → at_moment at past' ≡ at_moment at past

-- what is known of a worker's swap
pub record KeepsSwap (m m' : SwapMemory) (owners owners' : List ℕ) (s : ℕ) : Type 0 where
  pub entries : entries_of m' s ≡ entries_of m s
  pub effect : has_effect m' s ≡ has_effect m s
  pub owner : slice_index owners' s ≡ slice_index owners s

-- nothing concerns worker v
pub record Leaves (m m' : SwapMemory) (past past' : List QMark) (owners owners' : List ℕ) (v : ℕ) : Type 0 where
  pub extends : Extends past past'
  pub doing : doing_of m' v ≡ doing_of m v
  pub is_open : open_call v past' ≡ open_call v past
  pub numbers : begun_calls v past' ≡ begun_calls v past
  pub rises : (called : QCall) → counter_now m called ≤ counter_now m' called
  pub swap : (s : ℕ) → doing_of m v ≡ Swapping s → KeepsSwap m m' owners owners' s

pub replies-stay : (r : Ring) (past past' : List QMark) (called : QCall) (at : ℕ) (reply : QReply) → Extends past past' → at ≤ length past → RepliesAt r past called at reply → RepliesAt r past' called at reply
replies-stay r past past' called at reply e within h = subst (λ (z : List QMark). (apply r.capacity (items_after r.capacity [] z) called).reply ≡ reply) (sym (e.earlier at within)) h

pub did-not-suit-still : (r : Ring) (m m' : SwapMemory) (past past' : List QMark) (w : ℕ) (called : QCall) (begun counter at : ℕ) → Extends past past' → counter_now m called ≤ counter_now m' called
    → DidNotSuit r m past w called begun counter at → DidNotSuit r m' past' w called begun counter at
did-not-suit-still r m m' past past' w called begun counter at e rises d =
    let longer : length past ≤ length past' = e.longer in
    let before : at ≤ length past = d.before_now in
    record {
      after_begin = d.after_begin;
      before_now = omega arith;
      loaded = subst (IsAfterLoad w) (sym (e.earlier at before)) d.loaded;
      then = d.then;
      rose = d.rose;
      since = (let since : d.then ≤ counter_now m called = d.since in omega arith);
      replies = λ same. replies-stay r past past' called at (change.none_reply called) e before (d.replies same);
    }

pub changed-still : (r : Ring) (m m' : SwapMemory) (past past' : List QMark) (called : QCall) (begun word s : ℕ) (effect : Option ℕ) → Extends past past' → has_effect m' s ≡ has_effect m s
    → IsChanged r m past called begun word s effect → IsChanged r m' past' called begun word s effect
changed-still r m m' past past' called begun word s None e same h = same ∙ h
changed-still r m m' past past' called begun word s (Some at) e same h =
    let longer : length past ≤ length past' = e.longer in
    let before : at < length past = h.1.1 in
    (same ∙ h.0, (h.1.0, omega arith), replies-stay r past past' called at (change.change_reply called word) e (omega arith) h.2)

swapping-still : (r : Ring) (m m' : SwapMemory) (past past' : List QMark) (owners owners' : List ℕ) (w : ℕ) (called : QCall) (begun counter word : ℕ) (effect : Option ℕ) → Leaves m m' past past' owners owners' w
    → IsSwapping r m past owners w called begun counter word effect → IsSwapping r m' past' owners' w called begun counter word effect
swapping-still r m m' past past' owners owners' w called begun counter word effect l h =
    let k = l.swap h.s h.doing in
    record {
      s = h.s;
      doing = l.doing ∙ h.doing;
      entries = k.entries ∙ h.entries;
      owner = k.owner ∙ h.owner;
      suits = h.suits;
      rose = (let rose : counter ≤ counter_now m called = h.rose in let rises : counter_now m called ≤ counter_now m' called = l.rises called in omega arith);
      changed = changed-still r m m' past past' called begun word h.s effect l.extends k.effect h.changed;
    }

reading-still : (m m' : SwapMemory) (w a : ℕ) (effect : Option ℕ) → doing_of m' w ≡ doing_of m w → IsReading m w a effect → IsReading m' w a effect
reading-still m m' w a effect same h = record { doing = same ∙ h.doing; none = h.none }

place-still : (r : Ring) (m m' : SwapMemory) (past past' : List QMark) (owners owners' : List ℕ) (w : ℕ) (called : QCall) (begun : ℕ) (effect : Option ℕ) (place : Place) → Leaves m m' past past' owners owners' w
    → IsAt r m past owners w called begun effect place → IsAt r m' past' owners' w called begun effect place
place-still r m m' past past' owners owners' w called begun effect Counter l h = reading-still m m' w (change.counter_of called) effect l.doing h
place-still r m m' past past' owners owners' w called begun effect (Cell counter) l h =
    (reading-still m m' w (cell_of r counter) effect l.doing h.0, (let rose : counter ≤ counter_now m called = h.1 in let rises : counter_now m called ≤ counter_now m' called = l.rises called in omega arith))
place-still r m m' past past' owners owners' w called begun effect (Again counter at) l h =
    (reading-still m m' w (change.counter_of called) effect l.doing h.0, did-not-suit-still r m m' past past' w called begun counter at l.extends (l.rises called) h.1)
place-still r m m' past past' owners owners' w called begun effect (Swap counter word) l h = swapping-still r m m' past past' owners owners' w called begun counter word effect l h

-- the open call of a worker, whose number and begin stay
abbrev pub opened-still : (past past' : List QMark) (crew w : ℕ) (x : OpenCall) → Extends past past' → open_call w past' ≡ open_call w past → begun_calls w past' ≡ begun_calls w past → IsOpened past crew w x → IsOpened past' crew w x
opened-still past past' crew w x e is_open numbers h = record {
  worker = h.worker;
  within = h.within;
  fits = h.fits;
  begun = h.begun;
  is_open = is_open ∙ h.is_open ∙ ap (λ (k : ℕ). let opened : Option Open = Some (record { number = k; call = x.call; begun = h.begun; effect = x.effect }) in opened) (sym numbers);
  before = (let longer : length past ≤ length past' = e.longer in let before : h.begun < length past = h.before in omega arith);
}

pub slot-still : (r : Ring) (m m' : SwapMemory) (past past' : List QMark) (owners owners' : List ℕ) (crew v : ℕ) (slot : Option OpenCall) → Leaves m m' past past' owners owners' v
    → IsSlot r m past owners crew v slot → IsSlot r m' past' owners' crew v slot
slot-still r m m' past past' owners owners' crew v None l h = record { none = l.is_open ∙ h.none; idle = l.doing ∙ h.idle }
slot-still r m m' past past' owners owners' crew v (Some x) l h = record {
  opened = opened-still past past' crew v x l.extends l.is_open l.numbers h.opened;
  place = place-still r m m' past past' owners owners' v x.call h.opened.begun x.effect x.place l h.place;
}
