-- The refusal of a begin with the power on.
use Rattle.std.proofs.Common.{◌≡◌, ℕ, ◌+◌, ◌<◌, ◌≤◌, if◌then◌else◌, Bool, true, false, nat_le, length, arith, refl, sym, ap, subst, ◌∙◌, Option, Some, None}
use Rattle.std.specs.Prelude.{get_or, is_none, is_some}
use Rattle.std.proofs.lemmas.Bool.Decides.{nat_tests}
use Rattle.std.proofs.lemmas.List.{get_or_read_under}
use Rattle.bz_call.specs.Pages.{is_page}
use Rattle.bz_call.specs.declared.calls.Call.{Call}
use Rattle.bz_mark.specs.Log.{Limits, count_begins, count_page_calls}
use Rattle.bz_sound.specs.Calls.{open_call, begun_calls}
use Rattle.bz_world.specs.Inside.Beginning.{world_view, pages_asked, IsPoweredRefusal}
use Rattle.bz_world.specs.Inside.Kept.{IsAwake}
use Rattle.bz_world.specs.WorldView.{powered_answer, after_begin}
use Rattle.bz_world.specs.declared.answers.Begun.{Begun}
use Rattle.bz_world.specs.declared.answers.Begun.TheVariants as begun
use Rattle.bz_world.specs.declared.answers.LimitKind.TheVariants as which
use Rattle.bz_world.specs.declared.parts.Parts.{Parts}
use Rattle.bz_world.specs.declared.serving.OpenCall.{OpenCall}
use Rattle.bz_world.proofs.Refusing.{call-open}

-- a call asks for one page or for none
pub few-asked : (called : Call) → pages_asked called ≤ 1
few-asked called = few (is_page called)
  where
    few : (z : Bool) → (if z then 1 else 0) ≤ 1
    few true = omega arith
    few false = omega arith

some-as : {A : Type 0} {B : Type 0} (o : Option A) (slot : Option B) → is_none o ≡ is_none slot → is_some o ≡ is_some slot
some-as None None e = refl
some-as None (Some x) e = absurd (cc e)
some-as (Some x) None e = absurd (cc e)
some-as (Some x) (Some y) e = refl

none-by : (slot : Option OpenCall) → is_some slot ≡ false → slot ≡ None
none-by None e = refl
none-by (Some x) e = absurd (cc e)

module _ (p : Parts) (k : IsAwake p) (w : ℕ) (within : w ≤ p.config.workers) (called : Call) where
  refused : (answer : Begun) → powered_answer (world_view p) w called ≡ answer → after_begin (world_view p) w called answer ≡ world_view p → IsPoweredRefusal p w called (Some answer)
  refused answer is same = record {
    some = λ other e. let it : answer ≡ other = cc e in subst (λ z. (powered_answer (world_view p) w called ≡ z) × (after_begin (world_view p) w called z ≡ world_view p)) it (is, same);
    none_open = λ e. absurd (cc e);
    calls = λ e. absurd (cc e);
    pages = λ e. absurd (cc e);
    begins = λ e. absurd (cc e);
  }

  most-calls : p.journal.limits.calls ≡ p.config.calls
  most-calls = ap (λ (l : Limits). l.calls) k.tabled.limits

  most-pages : p.journal.limits.pages ≡ p.config.pages
  most-pages = ap (λ (l : Limits). l.pages) k.tabled.limits

  module _ (slot : Option OpenCall) (e : slot ≡ get_or p.workers.items w slot) where
    busy-is : is_some (open_call w p.journal.past) ≡ is_some slot
    busy-is = some-as (open_call w p.journal.past) slot (call-open p k w within slot e)

    -- its worker has an open call
    pub busy-refused : is_some slot ≡ true → IsPoweredRefusal p w called (Some begun.Busy)
    busy-refused some = let busy : is_some (open_call w p.journal.past) ≡ true = busy-is ∙ some in refused begun.Busy (rw busy refl) refl

    module _ (none : is_some slot ≡ false) where
      idle : is_some (open_call w p.journal.past) ≡ false
      idle = busy-is ∙ none

      -- as many calls have begun as may
      pub calls-refused : p.config.calls ≤ p.begun → IsPoweredRefusal p w called (Some (begun.Limit which.Calls))
      calls-refused most =
          let lacks : nat_le p.journal.limits.calls (count_begins p.journal.past) ≡ true = grind (arith, nat_tests, most, most-calls, k.tabled.begins) in
          refused (begun.Limit which.Calls) (rw (idle, lacks) refl) refl

      module _ (more : p.begun < p.config.calls) where
        has : nat_le p.journal.limits.calls (count_begins p.journal.past) ≡ false
        has = grind (arith, nat_tests, more, most-calls, k.tabled.begins)

        -- as many pages have been asked for as may
        pub pages-refused : p.config.pages < p.pages_begun + pages_asked called → IsPoweredRefusal p w called (Some (begun.Limit which.Pages))
        pages-refused most =
            let page : is_page called ≡ true = asks (is_page called) most in
            let lacks : nat_le p.journal.limits.pages (count_page_calls p.journal.past) ≡ true = grind (arith, nat_tests, most, few-asked called, most-pages, k.tabled.page_calls) in
            refused (begun.Limit which.Pages) (rw (idle, has, page, lacks) refl) refl
          where
            asks : (z : Bool) → p.config.pages < p.pages_begun + (if z then 1 else 0) → z ≡ true
            asks true l = refl
            asks false l = absurd (omega (arith, l, k.tabled.few_page_calls))

        -- none is refused
        pub may-begin : p.pages_begun + pages_asked called ≤ p.config.pages → IsPoweredRefusal p w called None
        may-begin room = record {
          some = λ answer s. absurd (cc s);
          none_open = λ s. sym (get_or_read_under p.workers.items w (length p.workers.items) slot None e (omega (arith, within, k.tabled.places, k.tabled.config.workers_in_range.at_most)) refl) ∙ none-by slot none;
          calls = λ s. more;
          pages = λ s. room;
          begins = λ s. begins (is_page called) refl;
        }
          where
            begins : (z : Bool) → is_page called ≡ z → powered_answer (world_view p) w called ≡ begun.Begun (begun_calls w p.journal.past + 1)
            begins true page =
                let asked : pages_asked called ≡ 1 = ap (λ (z : Bool). if z then 1 else 0) page in
                let left : nat_le p.journal.limits.pages (count_page_calls p.journal.past) ≡ false = grind (arith, nat_tests, room, asked, most-pages, k.tabled.page_calls) in
                rw (idle, has, page, left) refl
            begins false page = rw (idle, has, page) refl
