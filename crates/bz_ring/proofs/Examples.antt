-- The worked journals, by computation.
use Rattle.std.proofs.Common.{◌≡◌, ℕ, zero, suc, ◌-◌, List, [], ◌∷◌, length, drop, refl, subst, arith, Some, None}
use Rattle.bz_swap_cells.specs.Store.{status_of}
use Rattle.bz_word.specs.Kinds.{kind}
use Rattle.bz_mark.specs.declared.marks.Mark.TheVariants.{Evict, Cut, On}
use Rattle.bz_ring.specs.declared.calls.QCall.TheVariants as call
use Rattle.bz_ring.specs.declared.calls.QReply.TheVariants.{Put, Full, Spent}
use Rattle.bz_ring.specs.declared.marks.QMark.{QMark}
use Rattle.bz_ring.specs.declared.marks.QMark.TheVariants.{Begin, End, Memory}
use Rattle.bz_ring.specs.Calls.{Open, open_call, items_after, MayEffect}
use Rattle.bz_ring.specs.Example.{small, one_item, two_items, both_loaded, cell_loaded, decided, took_effect, descriptors_taken, IsRefused, FullByTwoLoads, WorkedAreRight, WorkedAreRefused}
use Rattle.bz_ring.specs.Lists.{apply, IsChange}
use Rattle.bz_ring.specs.Sound.{IsSound, first_items}

-- the calls while they are open
abbrev put_four : Open
put_four = record { number = 1; call = call.Put 4; begun = 0; effect = None }

abbrev take_now : Open
take_now = record { number = 1; call = call.Take; begun = 2; effect = None }

abbrev put_nine : Open
put_nine = record { number = 1; call = call.Put 9; begun = 10; effect = None }

abbrev put_nine_done : Open
put_nine_done = record { number = 1; call = call.Put 9; begun = 10; effect = Some 17 }

abbrev put_now : Open
put_now = record { number = 1; call = call.Put 9; begun = 0; effect = None }

abbrev put_done : Open
put_done = record { number = 1; call = call.Put 9; begun = 0; effect = Some 7 }

abbrev put_second : Open
put_second = record { number = 1; call = call.Put 4; begun = 1; effect = None }

loads-sound : IsSound small one_item (both_loaded)
unfolding kind status_of
loads-sound = record {
  truthful = (refl, (tt, (tt, (refl, (tt, (tt, (refl, (refl, (tt, (refl, (tt, (tt, (refl, (refl, (refl, tt)))))))))))))));
  once = (record { opened = put_four; is_open = refl }, (record { opened = put_nine_done; is_open = refl }, (record { after = tt; may = record { opened = put_nine; is_open = refl; number = refl; once = refl; changes = tt } }, (λ off. cc, (record { opened = put_nine; is_open = refl }, (λ off. cc, (λ off. cc, (record { opened = put_nine; is_open = refl }, (record { opened = put_nine; is_open = refl }, (record { worker = omega arith; powered = refl; begins = record { numbered = refl; none_open = refl } }, (record { after = tt; may = record { opened = take_now; is_open = refl; number = refl; once = refl; changes = tt } }, (λ off. cc, (record { opened = take_now; is_open = refl }, (λ off. cc, (λ off. cc, (record { opened = take_now; is_open = refl }, (record { opened = take_now; is_open = refl }, (record { worker = omega arith; powered = refl; begins = record { numbered = refl; none_open = refl } }, (record { opened = put_four; is_open = refl }, (record { worker = omega arith; powered = refl; begins = record { numbered = refl; none_open = refl } }, tt))))))))))))))))))));
  replies = (tt, (tt, (tt, (tt, (tt, (tt, (tt, (tt, (tt, (tt, (tt, (tt, (tt, (tt, (tt, (tt, (tt, (tt, (tt, (tt, tt))))))))))))))))))));
  durable = (refl, (refl, (refl, (refl, (refl, (refl, (refl, (refl, (refl, (refl, (refl, (refl, (refl, (refl, (refl, (refl, (refl, (refl, (refl, tt)))))))))))))))))));
}

full-sound : IsSound small two_items (End 1 1 Full 2 ∷ cell_loaded)
unfolding kind status_of
full-sound = record {
  truthful = (refl, tt);
  once = (record { opened = put_four; is_open = refl; number = refl }, (record { opened = put_four; is_open = refl }, (record { worker = omega arith; powered = refl; begins = record { numbered = refl; none_open = refl } }, tt)));
  replies = (record { after_begin = omega arith; before_end = omega arith; right = (refl, refl) }, (tt, (tt, tt)));
  durable = (refl, (refl, (refl, (refl, tt))));
}

told-sound : IsSound small one_item (End 1 1 Put 7 ∷ took_effect)
unfolding kind status_of
told-sound = record {
  truthful = (tt, (refl, (tt, (tt, (refl, (refl, tt))))));
  once = (record { opened = put_done; is_open = refl; number = refl }, (record { after = tt; may = record { opened = put_now; is_open = refl; number = refl; once = refl; changes = tt } }, (λ off. cc, (record { opened = put_now; is_open = refl }, (λ off. cc, (λ off. cc, (record { opened = put_now; is_open = refl }, (record { opened = put_now; is_open = refl }, (record { worker = omega arith; powered = refl; begins = record { numbered = refl; none_open = refl } }, tt)))))))));
  replies = (record { after_begin = omega arith; before_end = omega arith; right = (refl, refl) }, (tt, (tt, (tt, (tt, (tt, (tt, (tt, (tt, tt)))))))));
  durable = (refl, (refl, (refl, (refl, (refl, (refl, (refl, (refl, (refl, tt)))))))));
}

kept-sound : IsSound small one_item (Memory Cut ∷ took_effect)
unfolding kind status_of
kept-sound = record {
  truthful = (tt, (tt, (refl, (tt, (tt, (refl, (refl, tt)))))));
  once = (λ off. cc, (record { after = tt; may = record { opened = put_now; is_open = refl; number = refl; once = refl; changes = tt } }, (λ off. cc, (record { opened = put_now; is_open = refl }, (λ off. cc, (λ off. cc, (record { opened = put_now; is_open = refl }, (record { opened = put_now; is_open = refl }, (record { worker = omega arith; powered = refl; begins = record { numbered = refl; none_open = refl } }, tt)))))))));
  replies = (tt, (tt, (tt, (tt, (tt, (tt, (tt, (tt, (tt, tt)))))))));
  durable = (refl, (refl, (refl, (refl, (refl, (refl, (refl, (refl, (refl, tt)))))))));
}

lost-sound : IsSound small one_item (Memory On ∷ Memory Cut ∷ decided)
unfolding kind status_of
lost-sound = record {
  truthful = (tt, (tt, (refl, (tt, (tt, (refl, (refl, tt)))))));
  once = (refl, (λ off. cc, (record { opened = put_now; is_open = refl }, (λ off. cc, (λ off. cc, (record { opened = put_now; is_open = refl }, (record { opened = put_now; is_open = refl }, (record { worker = omega arith; powered = refl; begins = record { numbered = refl; none_open = refl } }, tt))))))));
  replies = (tt, (tt, (tt, (tt, (tt, (tt, (tt, (tt, tt))))))));
  durable = (refl, (refl, (refl, (refl, (refl, (refl, (refl, (refl, (refl, tt)))))))));
}

spent-sound : IsSound small one_item (End 1 1 Spent 3 ∷ descriptors_taken)
unfolding kind status_of
spent-sound = record {
  truthful = (tt, tt);
  once = (record { opened = put_second; is_open = refl; number = refl }, (record { opened = put_second; is_open = refl }, (record { worker = omega arith; powered = refl; begins = record { numbered = refl; none_open = refl } }, (record { worker = omega arith; powered = refl; begins = record { numbered = refl; none_open = refl } }, tt))));
  replies = (record { after_begin = omega arith; before_end = omega arith; right = (refl, omega arith) }, (tt, (tt, (tt, tt))));
  durable = (refl, (refl, (refl, (refl, (refl, tt)))));
}

-- the marks before each moment have P
abbrev AtAll : (List QMark → Type 0) → List QMark → Type 0
AtAll P [] = P []
AtAll P (mark ∷ past) = P (mark ∷ past) × AtAll P past

at_any : (P : List QMark → Type 0) (past : List QMark) → AtAll P past → (newer : ℕ) → P (drop newer past)
at_any P [] all zero = all
at_any P [] all (suc newer) = all
at_any P (mark ∷ past) all zero = all.0
at_any P (mark ∷ past) all (suc newer) = at_any P past all.1 newer

-- a put would be answered so
abbrev HasRoom : List QMark → Type 0
HasRoom past = (apply 2 (items_after 2 (first_items small one_item) past) (call.Put 4)).reply ≡ Put

has-room : AtAll HasRoom both_loaded
unfolding kind status_of
has-room = (refl, (refl, (refl, (refl, (refl, (refl, (refl, (refl, (refl, (refl, (refl, (refl, (refl, (refl, (refl, (refl, (refl, (refl, (refl, (refl, refl))))))))))))))))))))

never-full : (at : ℕ) → IsRefused one_item (End 1 1 Full at ∷ both_loaded)
never-full at s =
    let room = at_any HasRoom both_loaded has-room (length both_loaded - at) in
    cc (s.replies.0.right.1)

last-item : items_after 2 (first_items small one_item) both_loaded ≡ 9 ∷ []
unfolding kind status_of
last-item = refl

pub full_by_two_loads : FullByTwoLoads
full_by_two_loads = record { sound = loads-sound; at_end = last-item; refused = never-full }

kept-items : items_after 2 (first_items small one_item) (Memory Cut ∷ took_effect) ≡ 7 ∷ 9 ∷ []
unfolding kind status_of
kept-items = refl

lost-items : items_after 2 (first_items small one_item) (Memory On ∷ Memory Cut ∷ decided) ≡ 7 ∷ []
unfolding kind status_of
lost-items = refl

pub worked_are_right : WorkedAreRight
worked_are_right = record { full = full-sound; told = told-sound; kept = kept-sound; kept_items = kept-items; lost = lost-sound; lost_items = lost-items; spent = spent-sound }

-- an Effect changes the list by the call that is open
changed-by : (capacity : ℕ) (first : List ℕ) (past : List QMark) (w n : ℕ) (opened : Open) → MayEffect capacity first past w n → open_call w past ≡ Some opened
    → IsChange (apply capacity (items_after capacity first past) opened.call).reply
changed-by capacity first past w n opened may is =
    let same : may.opened ≡ opened = cc (may.is_open, is) in
    subst (λ (o : Open). IsChange (apply capacity (items_after capacity first past) o.call).reply) same may.changes

pub worked_are_refused : WorkedAreRefused
unfolding kind status_of
worked_are_refused = record {
  early = λ s. s.replies.0.right.0;
  late = λ s. absurd (omega (arith, s.replies.0.before_end));
  room = λ s. cc (s.replies.0.right.1);
  spent_for_full = λ s. absurd (omega (arith, s.replies.0.right.1));
  untold = λ s. s.replies.0.right;
  moved = λ s. absurd (omega (arith, s.replies.0.right.0));
  other_reply = λ s. cc (s.replies.0.right.1);
  twice = λ s. cc (s.once.0.may.is_open, s.once.0.may.once);
  into_full = λ s. changed-by 2 (first_items small two_items) (Memory (Evict 32) ∷ Begin 1 1 (call.Put 9) ∷ []) 1 1 put_now s.once.0.may refl;
  after_cas = λ s. s.once.0.after;
  unshown = λ s. cc (s.durable.0);
  unmarked = λ s. cc (s.durable.0);
  other_value = λ s. cc (s.truthful.0);
  no_call = λ s. cc (s.once.0.is_open);
  two_calls = λ s. cc (s.once.0.begins.none_open);
}
