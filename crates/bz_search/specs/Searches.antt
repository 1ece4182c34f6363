-- What is known of a leaf's key while it is searched for among the sorted records by halving, and at how many records it looks
-- that are not visible.
use Rattle.std.specs.Prelude.{◌≡◌, ◌≢◌, ℕ, zero, suc, ◌+◌, ◌<◌, ◌≤◌, if◌then◌else◌, true, false, List, Option, Some, None}
use Rattle.bz_tree.specs.Order.{is_before}
use Rattle.bz_slotted.specs.Page.{visible, Page, page}
use Rattle.bz_slotted.specs.Records.{key_at}
use Rattle.bz_search.specs.Probes.{middle, IsProbe, probe_in, lower_of, upper_of, down_of, still}
use Rattle.bz_search.specs.declared.probe.Probe.{Probe}

-- the records that are not visible among those at which a search for a key looks from a probe on, so many at most
unfoldable pub met_from : Page → List ℕ → ℕ → Option Probe → ℕ
met_from p key zero probe = 0
met_from p key (suc more) None = 0
met_from p key (suc more) (Some r) =
    if visible (p.meta r.index) then
    if is_before key (key_at p r.index) then met_from p key more (lower_of r)
    else if is_before (key_at p r.index) key then met_from p key more (upper_of r)
    else 0
    else 1 + met_from p key more (down_of r)

-- at how many records that are not visible a search by halving looks among the sorted records of a node: it looks at no record
-- twice
abbrev pub dead_met : (ℕ → ℕ) → List ℕ → ℕ
dead_met n key = met_from (page n) key (page n).sorted (probe_in 0 (page n).sorted)

-- of the visible sorted records those before a part have keys before the key, and those after it keys after it
pub record IsNarrowed (p : Page) (key : List ℕ) (low high : ℕ) : Type 0 where
  pub below : (i : ℕ) → i < low → i < p.sorted → visible (p.meta i) ≡ true → is_before (key_at p i) key ≡ true
  pub above : (i : ℕ) → high ≤ i → i < p.sorted → visible (p.meta i) ≡ true → is_before key (key_at p i) ≡ true

-- the key is in no sorted record outside the part, nor in one between that which is looked at and the middle one
pub record Looks (p : Page) (key : List ℕ) (r : Probe) : Type 0 where
  pub probe : IsProbe r
  pub sorted : r.high ≤ p.sorted
  pub narrowed : IsNarrowed p key r.low r.high
  pub hidden : (i : ℕ) → r.index < i → i ≤ middle r.low r.high → visible (p.meta i) ≡ false

-- no sorted record has the key
abbrev pub HasNone : Page → List ℕ → Type 0
HasNone p key = (i : ℕ) → i < p.sorted → visible (p.meta i) ≡ true → key_at p i ≢ key

abbrev pub LooksOrHasNone : Page → List ℕ → Option Probe → Type 0
LooksOrHasNone p key None = HasNone p key
LooksOrHasNone p key (Some r) = Looks p key r

-- the search has come so far, and has looked at so many records that are not visible
pub record Searches (n : ℕ → ℕ) (key : List ℕ) (dead : ℕ) (probe : Option Probe) : Type 0 where
  pub at : LooksOrHasNone (page n) key probe
  pub more : ℕ
  pub enough : still probe ≤ more
  pub met : dead + met_from (page n) key more probe ≡ dead_met n key
