-- The effect of a call's swap: the list has its change, its worker's call has its moment, and every other call is as it was.
use Rattle.std.proofs.Common.{◌≡◌, ◌≢◌, ◌<◌, ◌≤◌, ◌+◌, ℕ, Bool, true, false, List, [], ◌∷◌, length, get_or, refl, sym, ap, subst, ◌∙◌, arith, Option, Some, None}
use Rattle.std.specs.Prelude.{if◌then◌else◌, option_map}
use Rattle.std.proofs.lemmas.Bool.{eq-eqb, ne_eqb}
use Rattle.bz_mark.specs.declared.marks.Mark.{Mark}
use Rattle.bz_swap.specs.SwapMemory.{SwapMemory, Swapping, value_at, has_effect, entries_of, doing_of}
use Rattle.bz_word.specs.declared.entry.Entry.{Entry}
use Rattle.bz_ring.specs.declared.calls.QCall.{QCall}
use Rattle.bz_ring.specs.declared.calls.QCall.TheVariants as call
use Rattle.bz_ring.specs.declared.marks.QMark.{QMark}
use Rattle.bz_ring.specs.declared.marks.QMark.TheVariants.{Effect, Memory}
use Rattle.bz_ring.specs.declared.ring.Ring.{Ring}
use Rattle.bz_ring.specs.declared.ring.TheConstants.{HEAD_AT, TAIL_AT}
use Rattle.bz_ring.specs.Calls.{Open, with_effect, open_call, begun_calls, items_after, items_with}
use Rattle.bz_ring.specs.ContentLaws.{HoldsItems}
use Rattle.bz_ring.specs.Follows.{EffectsNow}
use Rattle.bz_ring.specs.Fresh.{IsRing}
use Rattle.bz_ring.specs.Journal.{QLog, at_moment}
use Rattle.bz_ring.specs.Lists.{apply, IsChange}
use Rattle.bz_ring.specs.Sound.{IsSound, Decodes, first_items}
use Rattle.bz_ring.proofs.EachMoment.{at_moment-now, at_moment-earlier}
use Rattle.bz_ring.proofs.Proved.{sound_journals_grow}
use Rattle.bz_change.specs.Changes as change
use Rattle.bz_change.specs.Values.{MakesChange, IsChanged}
use Rattle.bz_change.proofs.Proved.{lists_follow}
use Rattle.bz_queue.specs.Inside.Kept.{IsMemory}
use Rattle.bz_queue.specs.Inside.Serving as serving
use Rattle.bz_queue.specs.Inside.Serving.{counter_now, RepliesAt, IsSwapping, IsAt, IsOpened, IsServed, IsSlot, with_moment}
use Rattle.bz_queue.specs.declared.serving.OpenCall.{OpenCall}
use Rattle.bz_queue.specs.declared.serving.Place.{Place}
use Rattle.bz_queue.specs.declared.serving.Place.TheVariants.{Counter, Cell, Again, Swap}
use Rattle.bz_queue.proofs.Contents.{holds-now, decodes-now}
use Rattle.bz_queue.specs.Inside.Acted.{Strikes}
use Rattle.bz_queue.proofs.Marks.{plain-calls}
use Rattle.bz_queue.proofs.Slots.{Extends, Leaves}

-- both counters only grow
rises : (r : Ring) (old new : ℕ → ℕ) (made called : QCall) → MakesChange r made old new → old (change.counter_of called) ≤ new (change.counter_of called)
rises r old new (call.Put item) (call.Put other) c = omega (arith, c.tail)
rises r old new (call.Put item) call.Take c = omega (arith, c.others HEAD_AT (λ same. absurd (omega arith)) (λ same. absurd (omega arith)))
rises r old new call.Take (call.Put other) c = omega (arith, c.others TAIL_AT (λ same. absurd (omega arith)) (λ same. absurd (omega arith)))
rises r old new call.Take call.Take c = omega (arith, c.head)

-- by one at most
few : (r : Ring) (old new : ℕ → ℕ) (made : QCall) → MakesChange r made old new → new TAIL_AT ≤ old TAIL_AT + 1
few r old new (call.Put item) c = omega (arith, c.tail)
few r old new call.Take c = omega (arith, c.others TAIL_AT (λ same. absurd (omega arith)) (λ same. absurd (omega arith)))

is-change : (called : QCall) (word : ℕ) → IsChange (change.change_reply called word)
is-change (call.Put item) word = tt
is-change call.Take word = tt

-- the call whose swap it is
pub record HasSwap (r : Ring) (m : SwapMemory) (past : List QMark) (owners : List ℕ) (crew v s : ℕ) (slot : Option OpenCall) : Type 0 where
  pub x : OpenCall
  pub is : slot ≡ Some x
  pub opened : IsOpened past crew v x
  pub counter : ℕ
  pub word : ℕ
  pub place : x.place ≡ Swap counter word
  pub none : x.effect ≡ None
  pub swapping : IsSwapping r m past owners v x.call opened.begun counter word x.effect
  pub same : swapping.s ≡ s

none-yet : (r : Ring) (m : SwapMemory) (past : List QMark) (called : QCall) (begun word s : ℕ) (effect : Option ℕ) → has_effect m s ≡ false → serving.IsChanged r m past called begun word s effect → effect ≡ None
none-yet r m past called begun word s None before h = refl
none-yet r m past called begun word s (Some at) before h = absurd (let same : true ≡ false = sym h.0 ∙ before in cc)

swap-at : (r : Ring) (m : SwapMemory) (past : List QMark) (owners : List ℕ) (v s : ℕ) (called : QCall) (begun : ℕ) (effect : Option ℕ) (place : Place) → doing_of m v ≡ Swapping s → has_effect m s ≡ false
    → IsAt r m past owners v called begun effect place → (counter : ℕ) × (word : ℕ) × (place ≡ Swap counter word) × (effect ≡ None) × IsSwapping r m past owners v called begun counter word effect
swap-at r m past owners v s called begun effect Counter doing before h = absurd (cc (doing, h.doing))
swap-at r m past owners v s called begun effect (Cell counter) doing before h = absurd (cc (doing, h.0.doing))
swap-at r m past owners v s called begun effect (Again counter at) doing before h = absurd (cc (doing, h.0.doing))
swap-at r m past owners v s called begun effect (Swap counter word) doing before h =
    let same : h.s ≡ s = cc (doing, h.doing) in
    (counter, word, refl, none-yet r m past called begun word h.s effect (ap (has_effect m) same ∙ before) h.changed, h)

pub has-swap : (r : Ring) (m : SwapMemory) (past : List QMark) (owners : List ℕ) (crew v s : ℕ) (slot : Option OpenCall) → doing_of m v ≡ Swapping s → has_effect m s ≡ false → IsSlot r m past owners crew v slot
    → HasSwap r m past owners crew v s slot
has-swap r m past owners crew v s None doing before h = absurd (cc (doing, h.idle))
has-swap r m past owners crew v s (Some x) doing before h =
    let at = swap-at r m past owners v s x.call h.opened.begun x.effect x.place doing before h.place in
    record {
      x = x;
      is = refl;
      opened = h.opened;
      counter = at.0;
      word = at.1;
      place = at.2;
      none = at.3;
      swapping = at.4;
      same = cc (doing, at.4.doing);
    }

module _ (r : Ring) (ring : IsRing r) (old new : SwapMemory) (log : QLog) (owners : List ℕ) (crew s : ℕ) (memory : Mark) (swaps : old.swaps ≡ r.swaps) (k : IsMemory old log) (sound : IsSound r log.start log.past)
    (first : first_items r log.start ≡ []) (strikes : Strikes r old new log memory s) (slot : Option OpenCall) (h : HasSwap r old log.past owners crew strikes.takes.worker s slot) where
  abbrev v : ℕ
  v = strikes.takes.worker

  abbrev n : ℕ
  n = begun_calls v log.past

  abbrev acted : List QMark
  acted = Memory memory ∷ log.past

  -- the marks with the effect
  abbrev struck : List QMark
  struck = Effect v n ∷ acted

  abbrev items : List ℕ
  items = items_after r.capacity (first_items r log.start) log.past

  changed : IsChanged r old new h.x.call h.counter h.word
  changed = strikes.changed h.x.call h.counter h.word (record { swaps = swaps; entries = ap (entries_of old) (sym h.same) ∙ h.swapping.entries })

  after : HoldsItems r (value_at new) (apply r.capacity items h.x.call).items × ((apply r.capacity items h.x.call).reply ≡ change.change_reply h.x.call h.word)
  after =
      lists_follow.changed r (value_at old) (value_at new) items h.x.call h.counter h.word (omega (arith, ring.some)) (holds-now r old log.start log.past k.words swaps sound.durable.0)
      changed.at_counter changed.at_cell h.swapping.suits changed.changes

  -- the call, before its effect
  abbrev before : Open
  before = record { number = n; call = h.x.call; begun = h.opened.begun; effect = None }

  is-open : open_call v acted ≡ Some before
  is-open =
      plain-calls v log.past memory strikes.plain ∙ h.opened.is_open
      ∙ ap (λ (effect : Option ℕ). let opened : Option Open = Some (record { number = n; call = h.x.call; begun = h.opened.begun; effect = effect }) in opened) h.none

  effects-now : EffectsNow r.capacity (first_items r log.start) acted v n
  effects-now = record {
    after = strikes.durable;
    may = record { opened = before; is_open = is-open; number = refl; once = refl; changes = subst IsChange (sym after.1) (is-change h.x.call h.word) };
  }

  decodes : Decodes r log.start struck
  decodes =
      decodes-now r new log.start struck strikes.words (strikes.swaps ∙ swaps)
      (subst (λ (opened : Option Open). HoldsItems r (value_at new) (items_with r.capacity opened items)) (sym is-open) after.0)

  pub struck-sound : IsSound r log.start struck
  struck-sound = (sound_journals_grow r log.start log.past).effect memory v n sound strikes.happens effects-now decodes

  begun-before : s < old.taken
  begun-before = k.owned.begun v s strikes.takes.pending

  pub struck-memory : IsMemory new (record log { past = struck })
  struck-memory = record {
    words = strikes.words;
    past = strikes.past;
    calm = strikes.calm;
    owned = strikes.owned;
    noted = strikes.noted;
    shown = record { begun = strikes.shown.begun; shown = strikes.shown.shown; only = strikes.shown.only };
    sweepable = strikes.sweepable;
    unused = λ t from.
        let old_from : old.taken ≤ t = subst (λ (taken : ℕ). taken ≤ t) strikes.taken from in
        strikes.takes.other_swaps t (λ same. absurd (omega (arith, begun-before))) ∙ k.unused t old_from;
    low = omega (arith, few r (value_at old) (value_at new) h.x.call changed.changes, k.low);
  }

  extends : Extends log.past struck
  extends = record {
    longer = omega arith;
    earlier = λ at within. at_moment-earlier at (Effect v n) acted (omega arith) ∙ at_moment-earlier at (Memory memory) log.past within;
  }

  abbrev entries-same : (t : ℕ) → entries_of new t ≡ entries_of old t
  entries-same t = ap (λ (all : List (List Entry)). get_or all t []) strikes.begun

  pub struck-leaves : (u : ℕ) → u ≢ v → Leaves old new log.past struck owners owners u
  struck-leaves u other = record {
    extends = extends;
    doing = strikes.doing u;
    is_open = ap (λ (test : Bool). if test then option_map (with_effect (length acted)) (open_call u acted) else open_call u acted) (ne_eqb v u (λ same. other (sym same))) ∙ plain-calls u log.past memory strikes.plain;
    numbers = refl;
    rises = λ called. rises r (value_at old) (value_at new) h.x.call called changed.changes;
    swap = λ t doing. record {
      entries = entries-same t;
      effect = strikes.takes.other_swaps t (λ same. other (k.owned.one u v s (doing ∙ ap Swapping same) strikes.takes.pending));
      owner = refl;
    };
  }

  replies-now : RepliesAt r struck h.x.call (length acted) (change.change_reply h.x.call h.word)
  replies-now =
      let here : at_moment (length acted) struck ≡ acted = at_moment-earlier (length acted) (Effect v n) acted (omega arith) ∙ at_moment-now acted in
      subst (λ (past : List QMark). (apply r.capacity (items_after r.capacity [] past) h.x.call).reply ≡ change.change_reply h.x.call h.word) (sym here)
      (subst (λ (list : List ℕ). (apply r.capacity (items_after r.capacity list log.past) h.x.call).reply ≡ change.change_reply h.x.call h.word) first after.1)

  swapping-now : IsSwapping r new struck owners v h.x.call h.opened.begun h.counter h.word (Some (length acted))
  swapping-now = record {
    s = h.swapping.s;
    doing = strikes.doing v ∙ h.swapping.doing;
    entries = entries-same h.swapping.s ∙ h.swapping.entries;
    owner = h.swapping.owner;
    suits = h.swapping.suits;
    rose = omega (arith, h.swapping.rose, rises r (value_at old) (value_at new) h.x.call h.x.call changed.changes);
    changed = (ap (has_effect new) h.same ∙ strikes.takes.done, (omega (arith, h.opened.before), omega arith), replies-now);
  }

  -- the call with its moment
  pub struck-slot : IsSlot r new struck owners crew v (Some (with_moment (length acted) h.x))
  struck-slot = record {
    opened = record {
      worker = h.opened.worker;
      within = h.opened.within;
      fits = h.opened.fits;
      begun = h.opened.begun;
      is_open = ap (λ (test : Bool). if test then option_map (with_effect (length acted)) (open_call v acted) else open_call v acted) (eq-eqb v v refl) ∙ ap (option_map (with_effect (length acted))) is-open;
      before = omega (arith, h.opened.before);
    };
    place = subst (λ (place : Place). IsAt r new struck owners v h.x.call h.opened.begun (Some (length acted)) place) (sym h.place) swapping-now;
  }
