-- How often a call may have to go back, over an act or an eviction that gives a swap its effect: another one's effect on its counter is the last one.
use Rattle.std.proofs.Common.{◌≡◌, ◌≢◌, ◌≤◌, ◌+◌, inl, inr, ◌==◌, ℕ, zero, suc, Bool, true, false, List, refl, sym, ap, subst, ◌∙◌, arith, Option, Some, None}
use Rattle.std.proofs.lemmas.Bool.{and_from, and_parts, cases_eq, eq-eqb, eqb-true}
use Rattle.bz_word.specs.declared.entry.Entry.{Entry}
use Rattle.bz_swap_machine.specs.Allowed.{counted}
use Rattle.bz_swap.specs.Effects.{TakesEffect}
use Rattle.bz_swap.specs.SwapMemory.{SwapMemory, Swapping, value_at, entries_of, doing_of}
use Rattle.bz_rivals.specs.Wins.{Stand}
use Rattle.bz_rivals.proofs.Falls.{does-within}
use Rattle.bz_ring.specs.declared.calls.QCall.{QCall}
use Rattle.bz_ring.specs.declared.calls.QCall.TheVariants as call
use Rattle.bz_ring.specs.declared.marks.QMark.{QMark}
use Rattle.bz_ring.specs.declared.ring.Ring.{Ring}
use Rattle.bz_ring.specs.Content.{cell_of}
use Rattle.bz_change.specs.Changes as change
use Rattle.bz_change.specs.Values.{MakesChange, IsSwapOf, IsChanged}
use Rattle.bz_queue.specs.Inside.Left.{is_stale, may_move, moves_from, rounds_left}
use Rattle.bz_queue.specs.Inside.Serving.{IsAt, IsSlot}
use Rattle.bz_queue.specs.declared.serving.OpenCall.{OpenCall}
use Rattle.bz_queue.specs.declared.serving.Place.{Place}
use Rattle.bz_queue.proofs.Movers.{Mover, Stays, may-move, none-move}
use Rattle.bz_queue.proofs.Rounds.{LeavesSwaps, rounds-fall, swap-lost, at-swap}
use Rattle.bz_queue.proofs.Struck.{HasSwap, has-swap}

-- a change makes its counter one more, and leaves each word but that and its cell
one-more : (r : Ring) (old new : ℕ → ℕ) (made : QCall) → MakesChange r made old new → new (change.counter_of made) ≡ old (change.counter_of made) + 1
one-more r old new (call.Put item) c = c.tail
one-more r old new call.Take c = c.head

leaves-others : (r : Ring) (old new : ℕ → ℕ) (made : QCall) → MakesChange r made old new → (a : ℕ) → a ≢ change.counter_of made → a ≢ cell_of r (old (change.counter_of made)) → new a ≡ old a
leaves-others r old new (call.Put item) c a one two = c.others a one two
leaves-others r old new call.Take c a one two = c.others a one two

-- no cell is a counter
cell-apart : (r : Ring) (counter : ℕ) (called : QCall) → cell_of r counter ≡ change.counter_of called → ⊥
cell-apart r counter (call.Put item) same = omega arith
cell-apart r counter call.Take same = omega arith

-- no word suits both a put and a take
suits-one : (made called : QCall) (word : ℕ) → change.counter_of made ≢ change.counter_of called → change.Suits made word → change.Suits called word → ⊥
suits-one (call.Put item) (call.Put other) word apart one two = apart refl
suits-one (call.Put item) call.Take word apart one two = two one
suits-one call.Take (call.Put other) word apart one two = one two
suits-one call.Take call.Take word apart one two = apart refl

module _ (r : Ring) (old new : SwapMemory) (past : List QMark) (owners : List ℕ) (crew w s : ℕ) (leaves : LeavesSwaps old new w) (takes : TakesEffect old new s) (swaps : old.swaps ≡ r.swaps)
    (slot : ℕ → Option OpenCall) (slots : (u : ℕ) → IsSlot r old past owners crew u (slot u)) (owned : (u t k : ℕ) → doing_of old u ≡ Swapping k → doing_of old t ≡ Swapping k → u ≡ t) (changed : (called : QCall) (counter word : ℕ) → IsSwapOf r old s called counter word → IsChanged r old new called counter word) where
  -- whose effect it is
  abbrev pub v : ℕ
  v = takes.worker

  -- its call, and what that has changed
  pub h : HasSwap r old past owners crew v s (slot v)
  h = has-swap r old past owners crew v s (slot v) takes.pending takes.before (slots v)

  entries : entries_of old s ≡ change.entries_of r h.x.call h.counter h.word
  entries = ap (entries_of old) (sym h.same) ∙ h.swapping.entries

  is-changed : IsChanged r old new h.x.call h.counter h.word
  is-changed = changed h.x.call h.counter h.word (record { swaps = swaps; entries = entries })

  abbrev stays : Stays old new w
  stays = leaves.stays

  -- the counter was moved: nobody can move it any more
  none-after : (u : ℕ) → Mover new w (change.counter_of h.x.call) u → ⊥
  none-after u it =
      let a = change.counter_of h.x.call in
      let doing : doing_of old u ≡ Swapping it.s = sym (stays.doing u it.other) ∙ it.doing in
      let other = has-swap r old past owners crew u it.s (slot u) doing (stays.effects it.s it.none) (slots u) in
      let same : entries_of new it.s ≡ change.entries_of r other.x.call other.counter other.word = stays.entries u it.s doing ∙ ap (entries_of old) (sym other.same) ∙ other.swapping.entries in
      let moves : moves_from (change.entries_of r other.x.call other.counter other.word) a (value_at new a) ≡ true = subst (λ (all : List Entry). moves_from all a (value_at new a) ≡ true) same it.moves in
      let both = and_parts (change.counter_of other.x.call == a) (other.counter == value_at new a) moves in
      let counter : change.counter_of other.x.call ≡ a = eqb-true (change.counter_of other.x.call) a both.0 in
      let expects : other.counter ≡ value_at new a = eqb-true other.counter (value_at new a) both.1 in
      let rose : other.counter ≤ value_at old a = subst (λ (b : ℕ). other.counter ≤ value_at old b) counter other.swapping.rose in
      let more : value_at new a ≡ value_at old a + 1 = one-more r (value_at old) (value_at new) h.x.call is-changed.changes in
      omega arith

  pub none-move-after : (called : QCall) → change.counter_of h.x.call ≡ change.counter_of called → may_move new w (change.counter_of called) ≡ false
  none-move-after called same = subst (λ (a : ℕ). may_move new w a ≡ false) same (none-move new w (change.counter_of h.x.call) none-after)

  -- before that its worker could
  was-mover : v ≢ w → Mover old w (change.counter_of h.x.call) v
  was-mover other = record {
    other = other;
    s = s;
    doing = takes.pending;
    none = takes.before;
    moves = subst (λ (all : List Entry). moves_from all (change.counter_of h.x.call) (value_at old (change.counter_of h.x.call)) ≡ true) (sym entries)
        (and_from (change.counter_of h.x.call == change.counter_of h.x.call) (h.counter == value_at old (change.counter_of h.x.call)) (eq-eqb (change.counter_of h.x.call) (change.counter_of h.x.call) refl) (eq-eqb h.counter (value_at old (change.counter_of h.x.call)) (sym is-changed.at_counter)));
  }

  could-move : v ≢ w → (called : QCall) → change.counter_of h.x.call ≡ change.counter_of called → may_move old w (change.counter_of called) ≡ true
  could-move other called same = subst (λ (a : ℕ). may_move old w a ≡ true) same (may-move old w (change.counter_of h.x.call) v (does-within old v s takes.pending) (was-mover other))

  one-at-most : (b : Bool) → counted b 1 ≤ 1
  one-at-most true = omega arith
  one-at-most false = omega arith

  moved-rounds : v ≢ w → (called : QCall) (effect : Option ℕ) (place : Place) → change.counter_of h.x.call ≡ change.counter_of called → rounds_left new w called effect place ≤ rounds_left old w called effect place
  moved-rounds other called effect place same = omega (
    arith,
    one-at-most (is_stale new w called effect place),
    ap (λ (b : Bool). counted b 1) (none-move-after called same),
    ap (λ (b : Bool). counted b 1) (could-move other called same),
  )

  -- the other counter is what it was
  same-counter : (called : QCall) → change.counter_of h.x.call ≢ change.counter_of called → value_at new (change.counter_of called) ≡ value_at old (change.counter_of called)
  same-counter called apart =
      leaves-others r (value_at old) (value_at new) h.x.call is-changed.changes (change.counter_of called) (λ same. apart (sym same)) (λ same. cell-apart r (value_at old (change.counter_of h.x.call)) called (sym same))

  -- and so is the cell of the call's swap, whose word does not suit the other one
  same-cell : (called : QCall) (counter word : ℕ) → change.counter_of h.x.call ≢ change.counter_of called → change.Suits called word → value_at old (cell_of r counter) ≡ word → value_at new (cell_of r counter) ≡ value_at old (cell_of r counter)
  same-cell called counter word apart suits is = leaves-others r (value_at old) (value_at new) h.x.call is-changed.changes (cell_of r counter) (cell-apart r counter h.x.call) (λ same.
      let there : cell_of r counter ≡ cell_of r h.counter = same ∙ ap (cell_of r) is-changed.at_counter in
      let words : h.word ≡ word = sym is-changed.at_cell ∙ ap (value_at old) (sym there) ∙ is in
      suits-one h.x.call called word apart (subst (change.Suits h.x.call) words h.swapping.suits) suits)

  stands-still : (called : QCall) (counter word : ℕ) → change.counter_of h.x.call ≢ change.counter_of called → change.Suits called word → Stand old (change.entries_of r called counter word) → Stand new (change.entries_of r called counter word)
  stands-still called counter word apart suits stands zero d within = same-counter called apart ∙ stands zero d (omega arith)
  stands-still called counter word apart suits stands (suc zero) d within =
      let is : value_at old (cell_of r counter) ≡ word = stands 1 d (omega arith) in
      same-cell called counter word apart suits is ∙ is
  stands-still called counter word apart suits stands (suc (suc k)) d within = absurd (omega arith)

  apart-rounds : v ≢ w → (called : QCall) (begun : ℕ) (effect : Option ℕ) (place : Place) → change.counter_of h.x.call ≢ change.counter_of called → IsAt r old past owners w called begun effect place
      → rounds_left new w called effect place ≤ rounds_left old w called effect place
  apart-rounds other called begun effect place apart at =
      rounds-fall r old new past owners w leaves called begun effect place (same-counter called apart) (λ counter word is.
      let it = at-swap r old new past owners w leaves called begun effect place counter word is at in
      let not_this : it.s ≢ s = λ same. other (owned-one it.s it.doing same) in
      swap-lost r old new past owners w leaves called begun effect counter word it (takes.other_swaps it.s not_this)
      (λ stands.
      let before : entries_of new it.s ≡ change.entries_of r called counter word = leaves.entries it.s ∙ it.entries in
      subst (Stand new) (sym before) (stands-still called counter word apart it.suits (subst (Stand old) it.entries stands))))
    where
      owned-one : (t : ℕ) → doing_of old w ≡ Swapping t → t ≡ s → v ≡ w
      owned-one t doing same = owned v w s takes.pending (doing ∙ ap Swapping same)

  -- another's effect
  pub foreign-rounds : v ≢ w → (called : QCall) (begun : ℕ) (effect : Option ℕ) (place : Place) → IsAt r old past owners w called begun effect place → rounds_left new w called effect place ≤ rounds_left old w called effect place
  foreign-rounds other called begun effect place at = elim (cases_eq (change.counter_of h.x.call) (change.counter_of called)) [
    | inl same ↦ moved-rounds other called effect place same
    | inr apart ↦ apart-rounds other called begun effect place apart at
  ]

  -- its own
  its : (z : OpenCall) → slot v ≡ Some z → h.x ≡ z
  its z is = (let both : Some h.x ≡ Some z = sym h.is ∙ is in cc)

  pub own-rounds : (z : OpenCall) → slot v ≡ Some z → (at : ℕ) → rounds_left new w z.call (Some at) z.place ≡ 0
  own-rounds z is at =
      let here : rounds_left new w h.x.call (Some at) h.x.place ≡ 0 =
      subst (λ (place : Place). rounds_left new w h.x.call (Some at) place ≡ 0) (sym h.place) (ap (λ (b : Bool). 0 + counted b 1) (none-move-after h.x.call refl)) in
      subst (λ (y : OpenCall). rounds_left new w y.call (Some at) y.place ≡ 0) (its z is) here

  pub own-none : (z : OpenCall) → slot v ≡ Some z → z.effect ≡ None
  own-none z is = ap (λ (y : OpenCall). y.effect) (sym (its z is)) ∙ h.none
