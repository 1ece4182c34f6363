-- How a task has ended tells of which kind it is, and of which kind it is, how it has ended.
use Rattle.std.proofs.Common.{◌≡◌, ◌≢◌, Bool, true, false, refl, ap, inl, inr}
use Rattle.bz_call.specs.declared.replies.Spent.{Spent}
use Rattle.bz_any_task.specs.Ends.{IsEndOf, EndsOrNeedsRoom}
use Rattle.bz_any_task.specs.Kinds as kinds
use Rattle.bz_any_task.specs.Kinds.{Kind, is_look, is_renewal}
use Rattle.bz_task.specs.declared.path.Path.{Path}
use Rattle.bz_task.specs.declared.todo.Outcome.{Outcome}
use Rattle.bz_task.specs.declared.todo.Outcome.TheVariants as outcome
use Rattle.bz_task.specs.declared.view.KeyView.{KeyView}
use Rattle.bz_task.specs.declared.view.LeafView.{LeafView}
use Rattle.bz_world.specs.Inside.Going.{IsChangeKind}

-- the look-up of a key in its leaf ends with what it found, or is to begin again
pub find-restarts : (o : Outcome) → IsEndOf kinds.Find o → ((view : KeyView) → o ≢ outcome.Key view) → o ≡ outcome.Restart
find-restarts outcome.Restart e key = refl
find-restarts (outcome.Key view) e key = absurd (key view refl)
find-restarts o e key = absurd e

-- no task of a call recovers
no-recovery : (k : Kind) → IsEndOf k outcome.Recovered → ⊥
no-recovery kinds.Seek e = e
no-recovery kinds.Find e = e
no-recovery kinds.ReadWhole e = e
no-recovery k e = e

-- what ends in no other way is to begin again
pub restarts : (k : Kind) (o : Outcome) → IsEndOf k o → ((path : Path) → o ≢ outcome.Path path) → ((view : KeyView) → o ≢ outcome.Key view) → ((view : LeafView) → o ≢ outcome.View view)
    → ((spent : Spent) → o ≢ outcome.Full spent) → o ≢ outcome.NeedsRoom → o ≢ outcome.Done → o ≡ outcome.Restart
restarts k outcome.Restart e path key view full room done = refl
restarts k (outcome.Path p) e path key view full room done = absurd (path p refl)
restarts k (outcome.Key v) e path key view full room done = absurd (key v refl)
restarts k (outcome.View v) e path key view full room done = absurd (view v refl)
restarts k (outcome.Full spent) e path key view full room done = absurd (full spent refl)
restarts k outcome.NeedsRoom e path key view full room done = absurd (room refl)
restarts k outcome.Done e path key view full room done = absurd (done refl)
restarts k outcome.Recovered e path key view full room done = absurd (no-recovery k e)

-- a look-up wants nothing
pub full-no-look : (k : Kind) (spent : Spent) → IsEndOf k (outcome.Full spent) → is_look k ≡ true → ⊥
full-no-look kinds.Seek spent e look = e
full-no-look kinds.Find spent e look = e
full-no-look kinds.ReadWhole spent e look = e
full-no-look k spent e look = cc look

pub room-no-look : (k : Kind) → IsEndOf k outcome.NeedsRoom → is_look k ≡ true → ⊥
room-no-look kinds.Seek e look = e
room-no-look kinds.Find e look = e
room-no-look kinds.ReadWhole e look = e
room-no-look k e look = cc look

-- the three kinds that change a record
abbrev pub is_change : Kind → Bool
is_change kinds.Insert = true
is_change kinds.Update = true
is_change kinds.Delete = true
is_change k = false

pub changes : (k : Kind) → IsChangeKind k → is_change k ≡ true
changes k (inl e) = ap is_change e
changes k (inr (inl e)) = ap is_change e
changes k (inr (inr e)) = ap is_change e

pub change-renews-none : (k : Kind) → is_change k ≡ true → is_renewal k ≡ false
change-renews-none kinds.Insert e = refl
change-renews-none kinds.Update e = refl
change-renews-none kinds.Delete e = refl
change-renews-none k e = absurd (cc e)

-- each has its swap made, begins again, finds no room, or wants something
change-ends : (k : Kind) (o : Outcome) → is_change k ≡ true → IsEndOf k o → EndsOrNeedsRoom o
change-ends kinds.Insert o is e = e
change-ends kinds.Update o is e = e
change-ends kinds.Delete o is e = e
change-ends k o is e = absurd (cc is)

needs-room : (o : Outcome) → EndsOrNeedsRoom o → o ≢ outcome.Done → o ≢ outcome.Restart → ((spent : Spent) → o ≢ outcome.Full spent) → o ≡ outcome.NeedsRoom
needs-room outcome.NeedsRoom e done again full = refl
needs-room outcome.Done e done again full = absurd (done refl)
needs-room outcome.Restart e done again full = absurd (again refl)
needs-room (outcome.Full spent) e done again full = absurd (full spent refl)
needs-room o e done again full = absurd e

pub change-needs-room : (k : Kind) (o : Outcome) → IsChangeKind k → IsEndOf k o → o ≢ outcome.Done → o ≢ outcome.Restart → ((spent : Spent) → o ≢ outcome.Full spent) → o ≡ outcome.NeedsRoom
change-needs-room k o kind e = needs-room o (change-ends k o (changes k kind) e)
