-- What the swaps of a link have in common: slots go, fresh ones come, and one link turns.
use Rattle.std.proofs.Common.{◌≡◌, ◌≢◌, ℕ, ◌<◌, ◌≤◌, ◌⊎◌, Bool, true, false}
use Rattle.std.specs.Prelude.{None}
use Rattle.bz_tree.proofs.Places.{Placed}
use Rattle.bz_tree.specs.Outcomes.{Moved, Stays}
use Rattle.bz_tree.specs.Form.{Form, Hangs, Stands}
use Rattle.bz_tree.specs.Slots.{Relinked, SameSlot}
use Rattle.bz_tree.specs.View.{View}

-- a slot that no link had reached stands whole in the new tree, and so do its children
pub record Fresh (w : View) (h : Form) (j : ℕ) : Type 0 where
  pub not_top : j ≢ w.top
  pub whole : w.fault j (h.level j) (h.low j) (h.high j) ≡ None
  pub hangs : Hangs w h j
  pub down : (i : ℕ) → 0 < h.level j → i < w.count j → Stands w h j i (w.child j i)

-- the link at place x of slot g goes to c; the slots of `gone` are reached no longer
pub record Graft (v w : View) (f h : Form) (gone : ℕ → Bool) (g x c : ℕ) : Type 0 where
  pub same_top : w.top ≡ v.top
  pub taller : v.height ≤ w.height
  pub height : g ≢ v.top → w.height ≡ v.height
  pub inside : f.inside g ≡ true
  pub inner : 0 < f.level g
  pub within : x < v.count g
  pub stays_there : gone g ≡ false
  pub link : Relinked v w f g x c
  pub placed : Stands w h g x c
  pub cut : gone (v.child g x) ≡ true
  pub whole_cut : (j : ℕ) → f.inside j ≡ true → gone j ≡ true → j ≢ v.child g x → gone (f.up j) ≡ true
  pub others : (j : ℕ) → f.inside j ≡ true → gone j ≡ false → j ≢ g → SameSlot v w j
  pub top_stays : gone v.top ≡ false
  pub super : w.fault v.top w.height None None ≡ None
  pub top : Placed h v.top w.height None None v.top (f.index v.top)
  pub moved : (j : ℕ) → f.inside j ≡ true → gone j ≡ false → j ≢ v.top → Moved f h j
  pub stays : (j : ℕ) → f.inside j ≡ true → gone j ≡ false → gone (f.up j) ≡ false → j ≢ v.top → Stays f h j
  pub only : (j : ℕ) → h.inside j ≡ true → Fresh w h j ⊎ ((f.inside j ≡ true) × (gone j ≡ false))
  pub orphans : (j : ℕ) → f.inside j ≡ true → gone j ≡ false → gone (f.up j) ≡ true → j ≢ v.top → Hangs w h j
