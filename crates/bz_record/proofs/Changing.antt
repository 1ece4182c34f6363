-- The swaps of an update and of a delete may be asked for.
use Rattle.std.proofs.Common.{◌≡◌, ℕ, ◌+◌, true, [], arith, refl, inl, inr}
use Rattle.std.proofs.lemmas.List.Elements.{All-cons}
use Rattle.bz_slotted.specs.FromNode.Reading.{extent_words}
use Rattle.bz_layout.specs.declared.sizes.TheConstants.{STATUS_AT}
use Rattle.bz_word.specs.Statuses.{status}
use Rattle.bz_task.specs.Good.{IsGood}
use Rattle.bz_task.specs.Requests.{IsEntryToAsk}
use Rattle.bz_task.specs.Scene.{Scene, IsScene, here}
use Rattle.bz_task.proofs.Proved.{fronts_stay}
use Rattle.bz_record.specs.Leaves.{WasLeafThen}
use Rattle.bz_record.specs.Replacing.{status_grown, growth, replacement, removal}
use Rattle.bz_record.specs.ReplacingLaws.{ChangesMayBeAsked}
use Rattle.bz_record.proofs.Coding.{visible-meta-plain}
use Rattle.bz_record.proofs.Found.{counted-plain, visible-plain, deleted-plain}
use Rattle.bz_record.proofs.Growing.{grown-plain}
use Rattle.bz_record.proofs.Asking.{may-be-asked}

-- a slot that was a leaf of the tree is still reached
still-reached : (s : Scene) (k st moment : ℕ) → IsScene s → WasLeafThen k st moment s.past → (here s).reached k ≡ true
still-reached s k st moment good w =
    let g : IsGood s.past.config (s.past.at moment) = good.history.good moment w.since w.now in
    (fronts_stay s.past.config s.past.at s.past.since s.past.now moment s.past.now k good.history (record { since = w.since; order = w.now; until = omega arith }) (g.inside k w.inside (λ e. omega (arith, e, w.slot)))).reached

pub changes-asked : ChangesMayBeAsked
changes-asked = record {
  removes = λ s key payload k st place e good w.
      may-be-asked s (removal k st place e) w.moment good w.leaf.leaf (inl w.counted) (counted-plain st ((status st).dead + extent_words e) w.leaf.leaf.plain (omega (arith, w.small, w.dead))) (visible-plain e w.extent) (deleted-plain e w.extent w.some);
  grows = λ s r moment good f w.
      All-cons (IsEntryToAsk s) (growth s.past.config r) [] (record {
        target = inr (inr (record { slot = r.slot; place = STATUS_AT; address = refl; within = omega arith; reached = still-reached s r.slot r.status moment good w; kind = inl refl }));
        expected = f.plain;
        new = grown-plain r f;
      }) (λ i d l. absurd (omega (arith, l)));
  replaces = λ s r old place e good f g.
      may-be-asked s (replacement r place e) g.was.moment good g.was.leaf.leaf (inl g.was.counted) (counted-plain (status_grown r) ((status r.status).dead + extent_words e) (grown-plain r f) (omega (arith, f.dead, f.room.fits, g.was.small))) (visible-plain e g.was.extent) (visible-meta-plain r f);
}
