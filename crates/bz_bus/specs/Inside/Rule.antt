-- The rule of the bus: what holds of its words, its slot and the views of its passes between any two steps.
-- Word 0 is the next ticket, word 1 the ticket that is served, word 2 the number of entries. The one slot has the value.
-- served: the ticket that is served, counted without end; line: the numbers of the passes with a ticket, in their order;
-- whole: the value's list, or its holder's while the slot is out; free: for each number whether no pass has it.
use Rattle.std.specs.Prelude.{◌≡◌, ℕ, ◌+◌, ◌%◌, ◌^◌, ◌<◌, List, [], ◌∷◌, length, Bool, true, false, Option, Some, None, slice_index_or}
use mathlib.Core.Option.{some, none}
use mathlib.Core.Option as maybe
use lib.ListN.{get_elem?}
use Rattle.atomic_table.specs.Table.{State}
use Rattle.bz_bus.specs.declared.TheConstants.{PASSES}
use Rattle.bz_bus.specs.declared.rule.Gain.{Gain}
use Rattle.bz_bus.specs.declared.rule.Stage.TheVariants.{Opens, Holds, Joined}
use Rattle.bz_bus.specs.declared.rule.View.{View}
use Rattle.bz_bus.specs.Entries.{Extends, entries_of, IsFreeIn, IsJoinOf}
use Rattle.bz_bus.specs.Inside.Views.{ticket_of, IsLive, At, Each, Has}

-- where the slot is: at home with the value, out with a pass, or still empty
pub data Place : Type 0 where
  home : Place
  out : Place
  fresh : Place

module _ {E F : Type 0} where
  -- where a pass stands in line, and whether it holds the slot
  pub record Stands (served : ℕ) (line : List ℕ) (whole : List E) (place : Place) (v : View E F) : Type 0 where
    pub in_line : (t : ℕ) → ticket_of v.stage ≡ Some t → (k : ℕ) × (t ≡ served + k) × (get_elem? line k ≡ some v.number)
    pub holds : (t : ℕ) → v.stage ≡ Holds t → (place ≡ out) × (t ≡ served) × (v.seen ≡ whole)
    pub opens : v.stage ≡ Opens → (place ≡ fresh) × (v.seen ≡ whole)
    pub alone : place ≡ fresh → v.stage ≡ Opens

  module _ (owner : E → ℕ) where
    -- what a pass with this number that is not spent knows
    pub record Knows (whole : List E) (free : List Bool) (fixed : F) (number : ℕ) (seen : List E) (its_fixed : Option F) (its_free : List Bool) : Type 0 where
      pub same_fixed : its_fixed ≡ Some fixed
      pub below : number < PASSES
      pub taken : slice_index_or free number true ≡ false
      pub own : entries_of owner number whole ≡ entries_of owner number seen
      pub counts : number ≡ 0 → its_free ≡ free
      pub others : number ≡ 0 → (n : ℕ) → n < PASSES → IsFreeIn free n → entries_of owner n whole ≡ entries_of owner n seen

    pub record Sees (whole : List E) (free : List Bool) (fixed : F) (v : View E F) : Type 0 where
      pub past : Extends v.seen whole
      pub knows : IsLive v → Knows whole free fixed v.number v.seen v.fixed v.free

    -- what the first pass gained is what a join gives
    abbrev pub Gained : View E F → Type 0
    Gained v = (g : Gain E) → v.stage ≡ Joined g → IsJoinOf owner g.mine g.theirs g.number g.free v.seen

  -- one pass at most has a number
  abbrev pub Apart : List (View E F) → Type 0
  Apart vs = (i j : ℕ) (v w : View E F) → At vs i v → At vs j w → IsLive v → IsLive w → v.number ≡ w.number → i ≡ j

  -- each number in line is that of a pass with that ticket
  abbrev pub Queues : ℕ → List ℕ → List (View E F) → Type 0
  Queues served line vs = (k n : ℕ) → get_elem? line k ≡ some n → Has vs (λ v. (v.number ≡ n) × (ticket_of v.stage ≡ Some (served + k)))

  -- each number that is not free is that of a pass
  abbrev pub Taken : List Bool → List (View E F) → Type 0
  Taken free vs = (n : ℕ) → slice_index_or free n true ≡ false → Has vs (λ v. IsLive v × (v.number ≡ n))

  -- some pass has seen the whole list
  abbrev pub Full : List E → List (View E F) → Type 0
  Full whole vs = Has vs (λ v. IsLive v × (v.seen ≡ whole))

abbrev pub table_words : ℕ → ℕ → ℕ → List ℕ
table_words served waiting count = ((served + waiting) % 2 ^ 64) ∷ (served % 2 ^ 64) ∷ count ∷ []

module _ {T E F : Type 0} (entries : T → List E) (fixed : T → F) where
  -- what the slot has
  abbrev pub Lies : List (maybe.Option (Option T)) → List (View E F) → ℕ → List E → F → Place → Type 0
  Lies homes vs served whole f home = (y : T) × (homes ≡ some (Some y) ∷ []) × (entries y ≡ whole) × (fixed y ≡ f)
  Lies homes vs served whole f out = (homes ≡ none ∷ []) × Has vs (λ v. v.stage ≡ Holds served)
  Lies homes vs served whole f fresh = homes ≡ some None ∷ []

  -- the rule, of a table that was opened with the value `key`
  pub record Orderly (owner : E → ℕ) (key : T) (s : State (Option T) (View E F)) : Type 0 where
    pub served : ℕ
    pub line : List ℕ
    pub whole : List E
    pub free : List Bool
    pub place : Place
    pub words : s.words ≡ table_words served (length line) (length whole)
    pub slot : Lies s.homes s.views served whole (fixed key) place
    pub stands : Each s.views (Stands served line whole place)
    pub sees : Each s.views (Sees owner whole free (fixed key))
    pub gained : Each s.views (Gained owner)
    pub queues : Queues served line s.views
    pub apart : Apart s.views
    pub first : slice_index_or free 0 true ≡ false
    pub taken : Taken free s.views
    pub full : Full whole s.views
