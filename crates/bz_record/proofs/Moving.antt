-- A record moves, within its leaf or to another one; both swaps may be asked for.
use Rattle.std.proofs.Common.{◌+◌, ◌∷◌, [], arith, sym, subst, inl, inr}
use Rattle.std.specs.Prelude.{All}
use Rattle.std.proofs.lemmas.List.Elements.{All-append, All-cons, All-nil}
use Rattle.bz_slotted.specs.FromNode.Reading.{extent_words}
use Rattle.bz_word.specs.Statuses.{status}
use Rattle.bz_task.specs.Requests.{IsEntryToAsk}
use Rattle.bz_record.specs.Moving.{status_moved, MovesAreGood, MovesMayBeAsked}
use Rattle.bz_record.specs.Replacing.{removal}
use Rattle.bz_record.specs.Swaps.{status_entry, meta_entry, entries_of, status_reserved, publication}
use Rattle.bz_record.proofs.AskingBoth.{both-asked}
use Rattle.bz_record.proofs.Changing.{changes-asked}
use Rattle.bz_record.proofs.Coding.{reserved-plain}
use Rattle.bz_record.proofs.Found.{counted-plain}
use Rattle.bz_record.proofs.MovingAcross.{moving-across}
use Rattle.bz_record.proofs.MovingWithin.{moving-within}

pub moves-good : MovesAreGood
moves-good = record {
  across = λ s y r key k st place e entries good f w h o thawed ne order stand swaps. moving-across s y r key k st place e good f w h o thawed ne entries order stand swaps;
  within = λ s y r key place e good f w h o stand swaps. moving-within s y r key place e good f w h o stand swaps;
}

pub moves-asked : MovesMayBeAsked
moves-asked = record {
  across = λ s r key k st place e entries good f w o order.
      let old : All (IsEntryToAsk s) (entries_of s.past.config (removal k st place e)) = changes-asked.removes s key r.payload k st place e good o in
      let new : All (IsEntryToAsk s) (entries_of s.past.config (publication r)) = both-asked.second s r good f w in
      elim order [
        | inl q ↦ subst (All (IsEntryToAsk s)) (sym q) (All-append (IsEntryToAsk s) (entries_of s.past.config (removal k st place e)) (entries_of s.past.config (publication r)) old new)
        | inr q ↦ subst (All (IsEntryToAsk s)) (sym q) (All-append (IsEntryToAsk s) (entries_of s.past.config (publication r)) (entries_of s.past.config (removal k st place e)) new old)
      ];
  within = λ s r key place e good f w o.
      let half = removal r.slot (status_reserved r) place e in
      let old : All (IsEntryToAsk s) (entries_of s.past.config (removal r.slot (status_reserved r) place e)) = changes-asked.removes s key r.payload r.slot (status_reserved r) place e good o in
      let new : All (IsEntryToAsk s) (entries_of s.past.config (publication r)) = both-asked.second s r good f w in
      let first : IsEntryToAsk s (status_entry s.past.config (removal r.slot (status_reserved r) place e)) = old 0 (status_entry s.past.config (publication r)) (omega arith) in
      All-cons (IsEntryToAsk s) (record (status_entry s.past.config (publication r)) { new = status_moved r e }) (meta_entry s.past.config (removal r.slot (status_reserved r) place e) ∷ meta_entry s.past.config (publication r) ∷ [])
      (record { target = first.target; expected = first.expected; new = counted-plain (status_reserved r) ((status r.status).dead + extent_words e) (reserved-plain r f) (omega (arith, f.dead, f.room.fits, o.small)) })
      (All-cons (IsEntryToAsk s) (meta_entry s.past.config (removal r.slot (status_reserved r) place e)) (meta_entry s.past.config (publication r) ∷ []) (old 1 (status_entry s.past.config (publication r)) (omega arith))
      (All-cons (IsEntryToAsk s) (meta_entry s.past.config (publication r)) [] (new 1 (status_entry s.past.config (publication r)) (omega arith)) (All-nil (IsEntryToAsk s))));
}
