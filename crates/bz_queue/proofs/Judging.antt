-- What a call makes of what it has read.
use Rattle.std.proofs.Common.{◌≡◌, ◌≢◌, ◌<◌, ℕ, true, false, List, [], length, get_or, refl, sym, ap, subst, ◌∙◌, arith, Option, Some, None}
use Rattle.bz_swap_machine.specs.Allowed.{for_word}
use Rattle.bz_swap_machine.specs.declared.done.Done.{Done}
use Rattle.bz_swap_machine.specs.declared.done.Done.TheVariants.{Read, Swapped}
use Rattle.bz_swap.specs.SwapMemory.{value_at}
use Rattle.bz_ring.specs.declared.calls.QCall.{QCall}
use Rattle.bz_ring.specs.declared.calls.QCall.TheVariants as call
use Rattle.bz_ring.specs.declared.calls.QReply.{QReply}
use Rattle.bz_ring.specs.declared.marks.QMark.{QMark}
use Rattle.bz_ring.specs.declared.ring.Ring.{Ring}
use Rattle.bz_ring.specs.Calls.{Open, begun_calls, items_after}
use Rattle.bz_ring.specs.Content.{cell_of}
use Rattle.bz_ring.specs.Journal.{at_moment}
use Rattle.bz_ring.specs.Lists.{apply}
use Rattle.bz_ring.specs.Replies.{IsAfterLoad, IsRightBy, ListReplies}
use Rattle.bz_ring.specs.Solitary.{one_with}
use Rattle.bz_ring.specs.Sound.{first_items}
use Rattle.bz_ring.proofs.EachMoment.{at_moment-now}
use Rattle.bz_change.specs.Changes as change
use Rattle.bz_change.proofs.Proved.{lists_follow}
use Rattle.bz_queue.specs.Inside.Acted.{HasEnded}
use Rattle.bz_queue.specs.Inside.Going.{IsBetween, HasRead, HasReadAt, HasSwapped, HasSwappedAt, MustGoOn, MustRead, MustLook, MustJudge, MustEnd, Starts}
use Rattle.bz_queue.specs.Inside.Serving.{counter_now, RepliesAt, DidNotSuit}
use Rattle.bz_queue.specs.Inside.Sparing.{swaps_at}
use Rattle.bz_queue.specs.declared.parts.Parts.{Parts}
use Rattle.bz_queue.specs.declared.serving.OpenCall.{OpenCall}
use Rattle.bz_queue.specs.declared.serving.Place.{Place}
use Rattle.bz_queue.specs.declared.serving.Place.TheVariants.{Counter, Cell, Again, Swap}
use Rattle.bz_queue.proofs.Pays.{again-starts, cell-starts, look-starts, miss-starts}
use Rattle.bz_queue.proofs.Contents.{begins-empty, holds-now}
use Rattle.bz_queue.proofs.Tables.{ring-of}

first-of : (p : Parts) (w : ℕ) (x : OpenCall) → IsBetween p w x → first_items p.numbers.ring p.journal.start ≡ []
first-of p w x b = begins-empty p.numbers.ring p.journal.start (ring-of p.numbers b.tabled.numbers) b.tabled.start

-- it goes on to the cell of the value that it has read
pub look-next : (p : Parts) (w : ℕ) (x : OpenCall) (counter : ℕ) → MustLook p w x counter → Starts p w x (Cell counter) for_word → MustRead p w x (Cell counter) (cell_of p.numbers.ring counter)
look-next p w x counter h pays = record { between = h.between; none = h.none; pays = pays; reads = (refl, h.rose) }

-- it has read its counter
pub read-counter : (p : Parts) (w : ℕ) (x : OpenCall) (v : ℕ) (b : IsBetween p w x) → HasRead p.access p.journal.past w (change.counter_of x.call) v x.effect → MustLook p w x v
read-counter p w x v b h = record { between = b; none = h.none; rose = (let same : counter_now p.access x.call ≡ v = h.value in omega arith) }

-- the cell did not suit
pub unsuited : (p : Parts) (w : ℕ) (x : OpenCall) (counter word : ℕ) → MustJudge p w x counter word → (change.Suits x.call word → ⊥) → MustRead p w x (Again counter (length p.journal.past)) (change.counter_of x.call)
unsuited p w x counter word h unsuits = record {
  between = h.look.between;
  none = h.look.none;
  pays = cell-starts p w x counter (length p.journal.past) h.place;
  reads = (
    refl,
    record {
      after_begin = h.look.between.opened.before;
      before_now = omega arith;
      loaded = subst (IsAfterLoad w) (sym (at_moment-now p.journal.past)) h.loaded;
      then = counter_now p.access x.call;
      rose = h.look.rose;
      since = omega arith;
      replies = λ same.
          let b = h.look.between in
          let r = p.numbers.ring in
          let holds = holds-now r p.access p.journal.start p.journal.past b.memory.words b.tabled.swaps b.sound.durable.0 in
          let cell : value_at p.access (cell_of r (value_at p.access (change.counter_of x.call))) ≡ word = ap (λ (k : ℕ). value_at p.access (cell_of r k)) same ∙ h.value in
          let told = lists_follow.unchanged r (value_at p.access) (items_after r.capacity (first_items r p.journal.start) p.journal.past) x.call word (omega (arith, b.tabled.numbers.capacity.at_least)) holds cell unsuits in
          subst (λ (past : List QMark). (apply r.capacity (items_after r.capacity [] past) x.call).reply ≡ change.none_reply x.call) (sym (at_moment-now p.journal.past))
          (subst (λ (first : List ℕ). (apply r.capacity (items_after r.capacity first p.journal.past) x.call).reply ≡ change.none_reply x.call) (first-of p w x b) told);
    },
  );
}

-- what is allowed once the counter was read, for the first time and again; and once the swap has missed
pub counter-pays : (p : Parts) (w : ℕ) (x : OpenCall) (v : ℕ) → MustGoOn p w x (Read v) → x.place ≡ Counter → Starts p w x (Cell v) for_word
counter-pays p w x v must place =
    let read = subst (λ (it : Place). HasReadAt p.numbers.ring p.access p.journal.past w x.call must.between.opened.begun v x.effect it) place must.answered in
    look-starts p w x v place read.value

pub again-pays : (p : Parts) (w : ℕ) (x : OpenCall) (v counter at : ℕ) → MustGoOn p w x (Read v) → x.place ≡ Again counter at → v ≢ counter → Starts p w x (Cell v) for_word
again-pays p w x v counter at must place other =
    let read = subst (λ (it : Place). HasReadAt p.numbers.ring p.access p.journal.past w x.call must.between.opened.begun v x.effect it) place must.answered in
    again-starts p w x v counter at place read.0.value other

pub missed-next : (p : Parts) (w : ℕ) (x : OpenCall) (a : ℕ) → MustGoOn p w x (Swapped false) → a ≡ change.counter_of x.call → MustRead p w x Counter a
missed-next p w x a must address = by x.place x.effect refl refl must.answered
  where
    by : (place : Place) (effect : Option ℕ) → x.place ≡ place → x.effect ≡ effect → HasSwappedAt p.numbers.ring p.journal.past x.call must.between.opened.begun false effect place → MustRead p w x Counter a
    by (Swap counter word) None place none h = record { between = must.between; none = none; pays = miss-starts p w x counter word place must.between.idle; reads = address }
    by (Swap counter word) (Some at) place some h = absurd h
    by Counter effect place some h = absurd h
    by (Cell counter) effect place some h = absurd h
    by (Again counter at) effect place some h = absurd h

-- a call without an effect may be told so
right-none : (r : Ring) (first : List ℕ) (past : List QMark) (w : ℕ) (opened : Open) (called : QCall) (at : ℕ) → IsAfterLoad w (at_moment at past) → ListReplies r first past (record { worker = w; opened = opened; reply = change.none_reply called; at = at })
    → IsRightBy r first past (record { worker = w; opened = opened; reply = change.none_reply called; at = at }) None
right-none r first past w opened (call.Put item) at loaded lists = (loaded, lists)
right-none r first past w opened call.Take at loaded lists = (loaded, lists)

-- the counter is what it was before the cell was read
pub confirmed : (p : Parts) (w : ℕ) (x : OpenCall) (counter at : ℕ) (b : IsBetween p w x) → HasRead p.access p.journal.past w (change.counter_of x.call) counter x.effect
    → DidNotSuit p.numbers.ring p.access p.journal.past w x.call b.opened.begun counter at → x.place ≡ Again counter at → MustEnd p w x (change.none_reply x.call) at
confirmed p w x counter at b h d place =
    let same : d.then ≡ counter = omega (arith, d.rose, d.since, h.value) in
    let r = p.numbers.ring in
    let first = first-of p w x b in
    let lists = subst (λ (list : List ℕ). (apply r.capacity (items_after r.capacity list (at_moment at p.journal.past)) x.call).reply ≡ change.none_reply x.call) (sym first) (d.replies same) in
    record {
      between = b;
      exact = ap swaps_at place ∙ ap one_with (sym h.none);
      right = record {
        after_begin = d.after_begin;
        before_end = d.before_now;
        right = subst (λ (effect : Option ℕ). IsRightBy r (first_items r p.journal.start) p.journal.past (record { worker = w; opened = record { number = begun_calls w p.journal.past; call = x.call; begun = b.opened.begun; effect = x.effect }; reply = change.none_reply x.call; at = at }) effect)
            (sym h.none)
            (right-none r (first_items r p.journal.start) p.journal.past w (record { number = begun_calls w p.journal.past; call = x.call; begun = b.opened.begun; effect = x.effect }) x.call at d.loaded lists);
      };
    }

-- the call's swap had its effect just after a moment
pub took-effect : (p : Parts) (w : ℕ) (x : OpenCall) (counter word at : ℕ) (b : IsBetween p w x) → x.place ≡ Swap counter word → x.effect ≡ Some at
    → ((b.opened.begun < at) × (at < length p.journal.past)) × RepliesAt p.numbers.ring p.journal.past x.call at (change.change_reply x.call word) → MustEnd p w x (change.change_reply x.call word) at
took-effect p w x counter word at b place effect h =
    let r = p.numbers.ring in
    let first = first-of p w x b in
    let lists = subst (λ (list : List ℕ). (apply r.capacity (items_after r.capacity list (at_moment at p.journal.past)) x.call).reply ≡ change.change_reply x.call word) (sym first) h.1 in
    record {
      between = b;
      exact = ap swaps_at place ∙ ap one_with (sym effect);
      right = record {
        after_begin = h.0.0;
        before_end = omega (arith, h.0.1);
        right = subst (λ (it : Option ℕ). IsRightBy r (first_items r p.journal.start) p.journal.past (record { worker = w; opened = record { number = begun_calls w p.journal.past; call = x.call; begun = b.opened.begun; effect = x.effect }; reply = change.change_reply x.call word; at = at }) it)
            (sym effect) (refl, lists);
      };
    }

-- the answers, as the code has them
pub effect-end : (p : Parts) (w : ℕ) (x : OpenCall) (counter word at : ℕ) (answer : QReply) → MustGoOn p w x (Swapped true) → x.place ≡ Swap counter word → x.effect ≡ Some at → answer ≡ change.change_reply x.call word → MustEnd p w x answer at
effect-end p w x counter word at answer must place effect is =
    let there = subst (λ (it : Place). HasSwappedAt p.numbers.ring p.journal.past x.call must.between.opened.begun true x.effect it) place must.answered in
    let here = subst (λ (it : Option ℕ). HasSwapped p.numbers.ring p.journal.past x.call must.between.opened.begun word true it) effect there in
    subst (λ (it : QReply). MustEnd p w x it at) (sym is) (took-effect p w x counter word at must.between place effect here)

pub none-end : (p : Parts) (w : ℕ) (x : OpenCall) (counter at value : ℕ) (answer : QReply) → MustGoOn p w x (Read value) → x.place ≡ Again counter at → value ≡ counter → answer ≡ change.none_reply x.call → MustEnd p w x answer at
none-end p w x counter at value answer must place same is =
    let there = subst (λ (it : Place). HasReadAt p.numbers.ring p.access p.journal.past w x.call must.between.opened.begun value x.effect it) place must.answered in
    let read = subst (λ (v : ℕ). HasRead p.access p.journal.past w (change.counter_of x.call) v x.effect) same there.0 in
    subst (λ (it : QReply). MustEnd p w x it at) (sym is) (confirmed p w x counter at must.between read there.1 place)

pub unsuited-next : (p : Parts) (w : ℕ) (x : OpenCall) (counter word at a : ℕ) → MustJudge p w x counter word → (change.Suits x.call word → ⊥) → at ≡ length p.journal.past → a ≡ change.counter_of x.call → MustRead p w x (Again counter at) a
unsuited-next p w x counter word at a h unsuits now address =
    subst (λ (it : ℕ). MustRead p w x (Again counter at) it) (sym address) (subst (λ (it : ℕ). MustRead p w x (Again counter it) (change.counter_of x.call)) (sym now) (unsuited p w x counter word h unsuits))

pub must-of : (p : Parts) (w : ℕ) (done it : Done) (slot : Option OpenCall) (serving : OpenCall) → HasEnded p w done → slot ≡ get_or p.workers.items w None → slot ≡ Some serving → done ≡ it → MustGoOn p w serving it
must-of p w done it slot serving h same is ended =
    let served : Some serving ≡ Some h.x = sym is ∙ same ∙ h.is in
    let x-is : serving ≡ h.x = cc in
    subst (λ (x : OpenCall). MustGoOn p w x it) (sym x-is) (subst (MustGoOn p w h.x) ended h.must)
