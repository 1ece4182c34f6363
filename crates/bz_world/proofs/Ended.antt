-- A call that has ended: the world but for its End is as it was.
use Rattle.std.proofs.Common.{◌≡◌, ◌≢◌, ℕ, suc, ◌+◌, ◌<◌, ◌≤◌, true, false, List, [], ◌∷◌, ◌++◌, length, slice_index, arith, refl, sym, ap, subst, ◌∙◌, inl, inr, Option, Some, None, append-nil}
use Rattle.std.specs.Prelude.{get_or, if◌then◌else◌}
use Rattle.std.specs.Vec.{with_item, vec_len}
use Rattle.std.proofs.lemmas.Bool.{cases_eq, true≢false}
use Rattle.std.proofs.lemmas.List.{get_or_read_under, get_or-set_same, get_or-set_other, length-set}
use Rattle.bz_call.specs.Pages.{is_page, names_page}
use Rattle.bz_call.specs.declared.replies.Reply.{Reply}
use Rattle.bz_call.specs.declared.replies.Reply.TheVariants.{Page}
use Rattle.bz_layout.specs.declared.config.Config.{Config}
use Rattle.bz_mark.specs.Log.{Log, HasRoom, with_mark, with_page, count_ends, count_page_ends}
use Rattle.bz_mark.specs.declared.marks.Mark.{Mark}
use Rattle.bz_mark.specs.declared.marks.Mark.TheVariants.{End}
use Rattle.bz_sight.specs.Sight.{next_instant}
use Rattle.bz_sound.specs.Replies.{Pages}
use Rattle.bz_sound.specs.Memory.OpenCallLaws.{LeavesRoom}
use Rattle.bz_sound.specs.Power.Sound.{IsSound}
use Rattle.bz_refinement.specs.Laws.{GoesOn, goes_on}
use Rattle.bz_refinement.specs.Living.{IsLiving}
use Rattle.bz_refinement.specs.Story.{scene, Story}
use Rattle.bz_swap.specs.SwapMemory.{SwapMemory}
use Rattle.bz_world.specs.Inside.Acted.{IsBetween}
use Rattle.bz_world.specs.Inside.Beginning.{supply_of}
use Rattle.bz_world.specs.Inside.Going.{MustGoOn, MustEnd, MustEndPage, WentOn}
use Rattle.bz_world.specs.Inside.Kept.{IsTabled, IsAwake}
use Rattle.bz_world.specs.Inside.Laws.{EndLaws}
use Rattle.bz_world.specs.Inside.Solitary.{IsSolitaryIn}
use Rattle.bz_world.specs.Inside.Serving.{IsSlot}
use Rattle.bz_world.specs.declared.answers.Applied.TheVariants as applied
use Rattle.bz_world.specs.declared.parts.Parts.{Parts}
use Rattle.bz_world.specs.declared.serving.OpenCall.{OpenCall}
use Rattle.bz_refinement.proofs.Powered.{stored-since}
use Rattle.bz_solo.specs.FromCosts.Resources.{Marks}
use Rattle.bz_swap.specs.Solo.{left_to}
use Rattle.bz_world.specs.Inside.Paid.{Stock, begun_with, stock_of}
use Rattle.bz_world.specs.Roomy.{HadRoom}
use Rattle.bz_world.specs.WorldView.{TakesAsTold, deadline, tells_only}
use Rattle.bz_world.proofs.Alone.{waits-on}
use Rattle.bz_world.proofs.Due.{not-solitary}
use Rattle.bz_world.proofs.LeavesKept.{same-leaves}
use Rattle.bz_world.proofs.PaidSteps.{keeps-supply}
use Rattle.bz_world.proofs.Solitary.{none-in}
use Rattle.bz_world.proofs.SolitaryEnds.{ends-briefly}
use Rattle.bz_world.proofs.Staying.{none-takes-well, slot-stays}
use Rattle.bz_world.proofs.Tabled.{tabled-plain}
use Rattle.bz_world.proofs.Unspent.{nothing-taken}
use Rattle.bz_world.specs.Merges.{MergesFor}
use Rattle.bz_world.proofs.Merging.{duly-pages}
use Rattle.bz_world.specs.Inside.Exact.{reach_of}

-- what is known of a worker does not depend on the journal's pages
slot-pages : (c : Config) (m : SwapMemory) (log : Log) (pages : Pages) (story : Story) (owners : List ℕ) (stock : Stock) (v : ℕ) (slot : Option OpenCall) → IsSlot c m log story owners stock v slot → IsSlot c m (record log { pages = pages }) story owners stock v slot
slot-pages c m log pages story owners stock v None h = record { none_open = h.none_open; idle = h.idle; filled = h.filled }
slot-pages c m log pages story owners stock v (Some x) h = record {
  opened = h.opened;
  call_open = assumption h.call_open;
  tasked = h.tasked;
  asked = h.asked;
  asks = h.asks;
  doing = h.doing;
  finishing = h.finishing;
  facts = h.facts;
  covered = h.covered;
  alone = h.alone;
  meant = h.meant;
  paid = h.paid;
  due = h.due;
  exact = λ solitary room. h.exact solitary (record { writes = room.writes; room = room.room; enough = room.enough });
  merges = λ solitary. duly-pages c log pages h.opened (scene c log.past story v h.call_open.look.since h.opened).past (reach_of m v) stock x (h.merges solitary);
}

living-pages : (c : Config) (m : SwapMemory) (log : Log) (pages : Pages) (story : Story) → IsLiving c m log story → IsLiving c m (record log { pages = pages }) story
living-pages c m log pages story l = assumption l

module _ (b : EndLaws) (p : Parts) (w : ℕ) (on : MustGoOn p w) where
  abbrev was : IsBetween p w on.serving
  was = on.between

  leaves-room : LeavesRoom p.journal.past was.opened.call
  leaves-room = b.room p.config p.at_start p.journal w was.opened was.sound was.call_open.is_open

  -- there is room for the End, and for its page
  pub end-room : (n : ℕ) (reply : Reply) (at : ℕ) → length p.journal.past < p.config.marks → HasRoom p.journal (End w n reply at)
  end-room n reply at room = record {
    place = subst (λ l. length p.journal.past < l.marks) (sym was.tabled.limits) room;
    table = subst (λ l. count_ends p.journal.past < l.calls) (sym was.tabled.limits) (omega (arith, leaves-room.for_end, was.tabled.begins, was.tabled.few_begins));
  }

  pub page-room : is_page on.serving.call ≡ true → length p.journal.pages < p.journal.limits.pages
  page-room asks = subst (λ l. length p.journal.pages < l.pages) (sym was.tabled.limits)
      (omega (arith, leaves-room.for_page (ap is_page was.call_open.call ∙ asks), was.sound.pages, was.tabled.page_calls, was.tabled.few_page_calls))

  in-table : w < 65
  in-table = omega (arith, was.within, was.tabled.config.workers_in_range.at_most)

  pub in-numbers : w < vec_len p.numbers
  in-numbers = omega (arith, in-table, was.tabled.number_places, p.numbers.ok.0)

  pub in-workers : w < vec_len p.workers
  in-workers = omega (arith, in-table, was.tabled.places, p.workers.ok.0)

  -- the number of the call
  pub number-is : slice_index p.numbers.items w ≡ was.opened.number
  number-is = was.tabled.counted w in-table ∙ sym (b.last p.config p.at_start p.journal w was.opened was.sound was.call_open.is_open).last

  pub number-read : (n : ℕ) → n ≡ get_or p.numbers.items w n → n ≡ slice_index p.numbers.items w
  number-read n e = get_or_read_under p.numbers.items w (length p.numbers.items) n 0 e (omega (arith, in-table, was.tabled.number_places)) refl

  -- the End is no act: the same memory is seen, and it is nothing to the others
  module _ (n : ℕ) (reply : Reply) (at : ℕ) where
    abbrev mark : Mark
    mark = End w n reply at

    no-act : GoesOn p.config p.access p.access p.journal was.story mark
    no-act = record {
      living = was.living;
      passes = record {
        same = record { swaps = refl; phase = refl; begun = refl; size = refl };
        holds = was.living.seen.holds;
        fields = was.living.seen.fields;
        quiet = record { values = λ a n. refl; swaps = λ t. refl };
        settled = λ a cached settled. settled;
        awaits = λ v a cached awaits. awaits;
        cached = λ a o n. inl refl;
      };
      keeps = λ v a held fence private. refl;
      marked = was.living.words;
      past = record { count = was.living.past.count; since = was.living.past.since; asks = was.living.past.asks; workers = was.living.past.workers };
      powered = tt;
    }

    abbrev after : Story
    after = goes_on p.journal was.story p.access was.story.filled

    lives : IsLiving p.config p.access (with_mark p.journal mark) after
    lives = b.lives p.config p.access p.access p.journal was.story mark was.story.filled no-act (λ v j f. stored-since p.config p.journal.past mark j tt (was.living.stored v j f))

    slot-of : (v : ℕ) → v ≢ w → IsSlot p.config p.access (with_mark p.journal mark) after p.owners.items (stock_of p) v (get_or p.workers.items v None)
    slot-of v ne = slot-stays b.scenes b.stay p.config p.access p.access p.journal mark was.story after p.owners.items (stock_of p) (stock_of p) v (get_or p.workers.items v None) lives (record {
      same = record { doing = refl; begun = refl; taken = refl; size = refl; effects = λ t d. refl };
      calls = (b.calls v p.journal.past).other_end w n at reply (λ e. ne (sym e));
      from = refl;
      lawful = λ m o begins. b.quiet p.config p.access p.access p.journal was.story mark v m o no-act (λ a out n. refl) begins;
      took = λ j. refl;
      filled = λ j e. e;
      alone = λ m o t l waits. waits-on p.config p.access p.access p.journal.past mark was.story after v m o o t (next_instant p.access (was.story.at (length p.journal.past))) refl l waits refl refl (λ j d. refl) (λ j d well. well);
    }) (λ y t steps. absurd (cc steps)) (none-takes-well p.config p.access p.access p.journal mark was.story after p.owners.items (stock_of p) (stock_of p) v (not-solitary b.solitary.alone w v p.journal.past was.opened was.call_open.is_open ne)) (was.others v ne)

    module _ (pages : Pages) (sound : IsSound p.config p.at_start (record (with_mark p.journal mark) { pages = pages })) (room : length p.journal.past < p.config.marks) where
      abbrev done : Parts
      done = record p { journal = record (with_mark p.journal mark) { pages = pages }; workers = with_item p.workers w None }

      slots : (v : ℕ) → IsSlot p.config p.access done.journal after p.owners.items (stock_of p) v (get_or done.workers.items v None)
      slots v = elim (cases_eq v w) [
        | inr ne ↦ subst (IsSlot p.config p.access done.journal after p.owners.items (stock_of p) v) (sym (get_or-set_other p.workers.items w v None None ne))
            (slot-pages p.config p.access (with_mark p.journal mark) pages after p.owners.items (stock_of p) v (get_or p.workers.items v None) (slot-of v ne))
        | inl e ↦ subst (λ u. IsSlot p.config p.access done.journal after p.owners.items (stock_of p) u (get_or done.workers.items u None)) (sym e)
            (subst (IsSlot p.config p.access done.journal after p.owners.items (stock_of p) w) (sym (get_or-set_same p.workers.items w None None (omega (arith, in-table, was.tabled.places))))
            (record { none_open = (b.calls w p.journal.past).own_end n at reply; idle = was.idle; filled = on.filled }))
      ]

      -- beside the call that ended no get was solitary
      none-solitary : (v : ℕ) → IsSolitaryIn p.access (mark ∷ p.journal.past) after done.workers.items v
      none-solitary v = elim (cases_eq v w) [
        | inl e ↦ subst (IsSolitaryIn p.access (mark ∷ p.journal.past) after done.workers.items) (sym e) (none-in p.access (mark ∷ p.journal.past) after done.workers.items w (get_or-set_same p.workers.items w None None (omega (arith, in-table, was.tabled.places))))
        | inr ne ↦ λ x opened is is-open key get solitary. absurd (let never : None ≡ Some was.opened = sym (b.solitary.alone v w p.journal.past solitary (λ e. ne (sym e))) ∙ was.call_open.is_open in cc never)
      ]

      tabled : IsTabled done
      tabled = let t = was.tabled in tabled-plain p done mark tt (record { room = room; workers = length-set p.workers.items w None; crew = refl; steps = omega (arith, t.steps); power = t.power; rest = refl }) refl t

      pub ended-kept : IsAwake done
      ended-kept = record {
        on = was.on;
        story = after;
        tabled = tabled;
        taken = assumption was.taken;
        living = living-pages p.config p.access (with_mark p.journal mark) pages after lives;
        sound = sound;
        leaves = (λ now. same-leaves _ _ _ _ refl, was.leaves);
        free = was.free;
        workers = slots;
        solitary = none-solitary;
      }

-- by a reply that names no page
pub end-went : EndLaws → (p : Parts) (w n : ℕ) (reply : Reply) (at : ℕ) → MustEnd p w reply at → n ≡ slice_index p.numbers.items w → names_page reply ≡ false → length p.journal.past < p.config.marks
    → WentOn p w (applied.Ended n) (record p { journal = with_mark p.journal (End w n reply at); workers = with_item p.workers w None })
end-went b p w n reply at m number plain room = record {
  kept = ended-kept b p w m.on n reply at p.journal.pages sound room;
  ends = record {
    reply = reply;
    at = at;
    added = [];
    is = ap (λ z. record p.journal { past = End w n reply at ∷ p.journal.past; pages = z }) (sym (append-nil p.journal.pages));
    pages = ap (λ z. if z then count_page_ends p.journal.past + 1 else count_page_ends p.journal.past) plain ∙ omega arith;
  };
  config = refl;
  at_start = refl;
  left_out = refl;
  others = λ v ne. refl;
  spends = record { taken = inl refl; fewer = omega arith; few = omega arith };
  full = λ number moment spent e. (m.full spent (cc e)).out;
  brief = ends-briefly p w n reply at m.on (with_mark p.journal (End w n reply at)) refl m.brief;
  solo = in-time (m.room Marks tt);
  begun = refl;
  supplied = keeps-supply p w m.room;
  little = λ whole number moment spent e. (m.full spent (cc e)).little whole;
  unspent = λ number moment answer e tells solitary. nothing-taken b.solitary.alone p w m.on solitary p.journal.pages reply at (let same : reply ≡ answer = cc e in ap tells_only same ∙ tells) m.right;
  exact = λ number moment answer opened e is-open solitary room. (
      let same : reply ≡ answer = cc e in
      let both : Some m.on.between.opened ≡ Some opened = sym m.on.between.call_open.is_open ∙ is-open in
      let one : m.on.between.opened ≡ opened = cc both in
      subst (TakesAsTold (begun_with p) (supply_of p)) same (m.told solitary (subst (HadRoom p.config p.journal.start p.journal.past) (sym one) room))
      );
  merged = λ number moment answer e. (let same : reply ≡ answer = cc e in subst (MergesFor p.config p.journal.start p.journal.past w) same m.merged);
}
  where
    in-time : length p.journal.past + left_to p.access w + 1 ≤ deadline p.config w p.journal.past → suc (length p.journal.past) ≤ deadline p.config w p.journal.past
    in-time l = omega (arith, l)

    sound : IsSound p.config p.at_start (with_mark p.journal (End w n reply at))
    sound = subst (λ z. IsSound p.config p.at_start (with_mark p.journal (End w z reply at))) (sym (number ∙ number-is b p w m.on))
        (b.ends p.config p.at_start p.journal (record { worker = w; opened = m.on.between.opened; reply = reply; at = at }) m.on.between.sound m.on.between.call_open.is_open plain m.right)

-- by the page that was put together
pub end-page-went : EndLaws → (p : Parts) (w n page : ℕ) (next : Option (List ℕ)) (at : ℕ) → MustEndPage p w next at → n ≡ slice_index p.numbers.items w → page ≡ length p.journal.pages → length p.journal.past < p.config.marks
    → WentOn p w (applied.Ended n) (record p { journal = with_mark (with_page p.journal p.page) (End w n (Page page next) at); workers = with_item p.workers w None })
end-page-went b p w n page next at m number place room = record {
  kept = ended-kept b p w m.on n (Page page next) at (p.journal.pages ++ p.page ∷ []) sound room;
  ends = record {
    reply = Page page next;
    at = at;
    added = p.page ∷ [];
    is = refl;
    pages = omega arith;
  };
  config = refl;
  at_start = refl;
  left_out = refl;
  others = λ v ne. refl;
  spends = record { taken = inl refl; fewer = omega arith; few = omega arith };
  full = λ number moment spent e. absurd (cc e);
  brief = ends-briefly p w n (Page page next) at m.on (with_mark (with_page p.journal p.page) (End w n (Page page next) at)) refl (λ key get solitary. absurd (true≢false (sym m.asks ∙ ap is_page get)));
  solo = in-time (m.room Marks tt);
  begun = refl;
  supplied = keeps-supply p w m.room;
  little = λ whole number moment spent e. absurd (cc e);
  unspent = λ number moment answer e tells solitary. nothing-taken b.solitary.alone p w m.on solitary (p.journal.pages ++ p.page ∷ []) (Page (length p.journal.pages) next) at refl m.right;
  exact = λ number moment answer opened e is-open solitary room. (let same : Page page next ≡ answer = cc e in subst (TakesAsTold (begun_with p) (supply_of p)) same tt);
  merged = λ number moment answer e. (let same : Page page next ≡ answer = cc e in subst (MergesFor p.config p.journal.start p.journal.past w) same tt);
}
  where
    in-time : length p.journal.past + left_to p.access w + 1 ≤ deadline p.config w p.journal.past → suc (length p.journal.past) ≤ deadline p.config w p.journal.past
    in-time l = omega (arith, l)

    sound : IsSound p.config p.at_start (with_mark (with_page p.journal p.page) (End w n (Page page next) at))
    sound = subst (λ z. IsSound p.config p.at_start (with_mark (with_page p.journal p.page) (End w z (Page page next) at))) (sym (number ∙ number-is b p w m.on))
        (subst (λ z. IsSound p.config p.at_start (with_mark (with_page p.journal p.page) (End w m.on.between.opened.number (Page z next) at))) (sym place)
        (b.pages p.config p.at_start p.journal (record { worker = w; opened = m.on.between.opened; reply = Page (length p.journal.pages) next; at = at }) p.page m.on.between.sound m.on.between.call_open.is_open refl m.right))
