-- A call that has begun goes on from turn to turn.
use Rattle.std.proofs.Common.{◌≡◌, ℕ, ◌<◌, ⊎_elim, Bool, true, false, List, [], ◌∷◌, ◌++◌, length, append_assoc, refl, sym, ap, ◌∙◌, subst, arith, ◌==◌, Option, Some, None}
use Rattle.std.specs.Prelude.{if◌then◌else◌, IsSomeAnd}
use borrow.Author.Tests.{eqb-false}
use Rattle.std.proofs.lemmas.List.Elements.{filter-append}
use Rattle.bz_bus.proofs.Entries.{none_added, leaves_others, leaves_extends}
use Rattle.bz_bus.specs.Entries.{Extends, entries_of, MayLeave}
use Rattle.bz_bus.specs.declared.TheConstants.{PASSES}
use Rattle.bz_call.specs.declared.calls.Call.{Call}
use Rattle.bz_call.specs.declared.replies.Reply.{Reply}
use Rattle.bz_index.proofs.Leaves.{told-ending, ends_paged}
use Rattle.bz_index.proofs.Lists.{marks-told}
use Rattle.bz_index.proofs.OpenStays.{open_stays}
use Rattle.bz_index.proofs.Rests.{length-extends}
use Rattle.bz_index.specs.Calls.{begin_entry, HasReply}
use Rattle.bz_index.specs.Entries.{owner_of, entries_in}
use Rattle.bz_index.specs.Inside.Outcomes.{EndsWith}
use Rattle.bz_index.specs.Inside.Running.{IsRunning}
use Rattle.bz_index.specs.declared.shared.IndexEntry.{IndexEntry}
use Rattle.bz_layout.specs.declared.config.Config.{Config}
use Rattle.bz_mark.specs.Log.{Log}
use Rattle.bz_mark.specs.declared.marks.Mark.TheVariants.{End}
use Rattle.bz_sound.specs.Calls.{Open, open_call, MayEnd}
use Rattle.bz_sound.specs.Power.Replies.{IsRightReply}
use Rattle.bz_sound.specs.Power.Sound.{IsSound}
use Rattle.bz_mark.specs.declared.power.Power.{Power}
use Rattle.bz_world.specs.WorldView.{IsEnding}

module _ (w : ℕ) (call : Call) (first : List IndexEntry) where
  -- others add their entries
  run_longer : (added seen : List IndexEntry) → w < PASSES → entries_of owner_of w added ≡ [] → entries_of owner_of w (added ++ seen) ≡ entries_of owner_of w seen
      → IsRunning w call first seen → IsRunning w call first (added ++ seen)
  run_longer added seen below none own run =
      let before = run.begun in
      record {
        since = added ++ run.since;
        begun = record {
          number = before.number;
          found = before.found;
          is = ap (λ (l : List IndexEntry). added ++ l) before.is ∙ sym (append_assoc added run.since (begin_entry w before.number call ∷ before.found));
          extends = before.extends;
          own = own ∙ before.own;
        };
        none = both_none added run.since none run.none;
        state = open_stays w before.number (length before.found) added seen run.since below none run.state;
      }
    where
      both_none : (xs ys : List IndexEntry) → entries_of owner_of w xs ≡ [] → entries_of owner_of w ys ≡ [] → entries_of owner_of w (xs ++ ys) ≡ []
      both_none xs ys a b = filter-append (λ (e : IndexEntry). owner_of e == w) xs ys ∙ (ap (λ (l : List IndexEntry). l ++ entries_of owner_of w ys) a ∙ b)

  pub run_more : (seen now : List IndexEntry) → w < PASSES → Extends seen now → entries_of owner_of w now ≡ entries_of owner_of w seen → IsRunning w call first seen → IsRunning w call first now
  run_more seen now below (added, is) own run =
      let same : entries_of owner_of w (added ++ seen) ≡ entries_of owner_of w seen = ap (entries_of owner_of w) (sym is) ∙ own in
      subst (IsRunning w call first) (sym is) (run_longer added seen below (none_added owner_of w added seen same) same run)

  -- an act, and the effect that it may bring, are nobody's
  pub run_acted : (v : ℕ) (log new : Log) → w < PASSES → MayLeave owner_of PASSES (entries_in log) (entries_in new) → IsRunning w call first (entries_in log) → IsRunning w call first (entries_in new)
  run_acted v log new below leaves run =
      run_more (entries_in log) (entries_in new) below (leaves_extends owner_of PASSES _ _ leaves) (leaves_others owner_of PASSES w _ _ leaves (λ e. omega arith) below) run

-- what holds of the value of an option
pub some_and : {A : Type 0} (P : A → Type 0) (o : Option A) (x : A) → o ≡ Some x → IsSomeAnd o P → P x
some_and P None x is h = absurd cc
some_and P (Some y) x is h = let same : y ≡ x = cc in subst P same h

own_head : (b : Bool) (w : ℕ) (entry : IndexEntry) (entries : List IndexEntry) → (owner_of entry == w) ≡ b → owner_of entry ≡ w → (if b then entry ∷ entries else entries) ≡ entry ∷ entries
own_head true w entry entries is own = refl
own_head false w entry entries is own = absurd (eqb-false (owner_of entry) w is own)

-- a worker's own entry
pub own_more : (w : ℕ) (entry : IndexEntry) (entries : List IndexEntry) → owner_of entry ≡ w → entries_of owner_of w (entry ∷ entries) ≡ entry ∷ entries_of owner_of w entries
own_more w entry entries own = own_head (owner_of entry == w) w entry (entries_of owner_of w entries) refl own

module _ (w : ℕ) (call : Call) (first : List IndexEntry) (log : Log) (run : IsRunning w call first (entries_in log)) where
  -- the call that ends is this one
  same_call : (n : ℕ) (may : MayEnd log.past w n) → (run.begun.number ≡ n) × (may.opened.begun ≡ length run.begun.found)
  same_call n may = ⊎_elim
      (λ stands.
      let here : open_call w log.past ≡ Some stands.opened = ap (open_call w) (sym (marks-told log.past _)) ∙ stands.is_open in
      let there : open_call w log.past ≡ Some may.opened = may.is_open in
      let same : stands.opened ≡ may.opened = cc in
      (sym stands.number ∙ (ap (λ (o : Open). o.number) same ∙ may.number), sym (ap (λ (o : Open). o.begun) same) ∙ stands.since))
      (λ cut. let none : open_call w log.past ≡ None = ap (open_call w) (sym (marks-told log.past _)) ∙ cut.1 in let some = may.is_open in absurd cc)
      run.state

  module _ (config : Config) (at_start : Power) (n : ℕ) (new : Log) (ends : IsEnding log w n new) (sound : IsSound config at_start new) where
    abbrev ended : Log
    ended = record log { past = End w n ends.reply ends.at ∷ log.past; pages = log.pages ++ ends.added }

    sound_end : IsSound config at_start ended
    sound_end = subst (IsSound config at_start) ends.is sound

    may_end : MayEnd log.past w n
    may_end = sound_end.once.0

    later : length first < ends.at
    later =
        let right = some_and (λ (opened : Open). IsRightReply config log.start (log.pages ++ ends.added) log.past (record { worker = w; opened = opened; reply = ends.reply; at = ends.at })) _ _ may_end.is_open sound_end.replies.0 in
        let begun = (same_call n may_end).1 in
        omega (arith, right.after_begin, begun, length-extends first run.begun.found run.begun.extends)

    pub replied : (reply : Reply) (page : List (List ℕ × List ℕ)) → EndsWith (entries_in new) reply page → HasReply w call first (entries_in new) reply page
    replied reply page shows =
        let told = told-ending log w n new ends in
        let its_page = (ends_paged log w n new ends).page in
        let (v, k, moment, is, shown) = subst (λ (l : List IndexEntry). EndsWith l reply page) told shows in
        let same : ends.reply ≡ reply = cc in
        let number = (same_call n may_end).0 in
        let entry : IndexEntry = record { mark = End w n ends.reply ends.at; page = its_page } in
        let before = entries_of owner_of w first in
        record {
          number = n;
          at = ends.at;
          its_page = its_page;
          own = ap (entries_of owner_of w) told ∙ (own_more w entry (entries_in log) refl
              ∙ (ap (λ (l : List IndexEntry). entry ∷ l) (run.begun.own ∙ ap (λ (m : ℕ). begin_entry w m call ∷ before) number)
              ∙ ap (λ (r : Reply). record { mark = End w n r ends.at; page = its_page } ∷ begin_entry w n call ∷ before) same));
          later = later;
          shown = shown;
        }
