-- What the mark of an act adds to what the journal shows: no descriptor begun but of those that were taken, and no store into a free slot.
use Rattle.std.proofs.Common.{◌≡◌, ◌≢◌, ◌⊎◌, ℕ, ◌+◌, ◌-◌, ◌*◌, ◌/◌, ◌<◌, ◌≤◌, ◌==◌, ◌&&◌, ◌||◌, not, Bool, true, false, List, ◌∷◌, arith, refl, sym, ap, ◌∙◌, inl, inr}
use Rattle.std.specs.Prelude.{nat_le}
use Rattle.std.proofs.lemmas.Bool.{true≢false}
use Rattle.std.proofs.lemmas.Bool.Decides.{nat_tests}
use Rattle.bz_swap_acts.specs.declared.acted.Act.{Act}
use Rattle.bz_swap_acts.specs.declared.acted.Act.TheVariants as act
use Rattle.bz_layout.specs.Addresses.{swap_address, node_address, slot_of}
use Rattle.bz_layout.specs.declared.config.Config.{Config}
use Rattle.bz_layout.specs.declared.sizes.TheConstants.{NODE_WORDS}
use Rattle.bz_mark.specs.declared.marks.Mark.{Mark}
use Rattle.bz_tree.specs.Walk.{is_among}
use Rattle.bz_sound.specs.Calls.{Open}
use Rattle.bz_mark.specs.Counts.{is_taken}
use Rattle.bz_sound.specs.Memory.Spent.{is_stored_into, is_reached_in}
use Rattle.bz_sound.specs.Power.Times.{image_at_on}
use Rattle.bz_refinement.specs.Story.{scene}
use Rattle.bz_swap.specs.SwapMemory.{SwapMemory, Storing, doing_of}
use Rattle.bz_swap.specs.Writes.{StoresPrivate, StoresOwn, WritesLawfully}
use Rattle.bz_task.specs.Scene.{IsMine}
use Rattle.bz_world.specs.Inside.Kept.{IsAwake}
use Rattle.bz_world.specs.WorldView.{mark_of}
use Rattle.bz_world.specs.declared.parts.Parts.{Parts}

both : (a b : Bool) → a && b ≡ true → (a ≡ true) × (b ≡ true)
both true b e = (refl, e)
both false b e = absurd (cc)

-- a store at the status of a descriptor is into one that was taken
begun-there : (old : SwapMemory) (w a v s : ℕ) → s < old.swaps → a ≡ swap_address s → StoresPrivate old w a v ⊎ StoresOwn old w a v → s < old.taken
begun-there old w a v s few at (inl private) = elim private.outside [
  | inl low ↦ absurd (omega (arith, low, at))
  | inr high ↦ absurd (omega (arith, high, at, few))
]
begun-there old w a v s few at (inr own) = elim own.word [
  | inl status ↦ omega (arith, status.0, at, own.begun)
  | inr field ↦ absurd (omega (arith, field.address, field.below, at))
]

-- so no other is shown begun with one act more
pub only-acts : (old : SwapMemory) (w : ℕ) (made : Act) (past : List Mark) → WritesLawfully old w made → ((s : ℕ) → s < old.swaps → is_taken s past ≡ true → s < old.taken) → (s : ℕ) → s < old.swaps → is_taken s (mark_of w made ∷ past) ≡ true → s < old.taken
only-acts old w (act.Load a v) past lawful was s few seen = was s few seen
only-acts old w (act.Cas a before after found) past lawful was s few seen = was s few seen
only-acts old w (act.Ask line) past lawful was s few seen = was s few seen
only-acts old w act.Fence past lawful was s few seen = was s few seen
only-acts old w (act.Store a v) past lawful was s few seen = by (not (w == 0) && (a == swap_address s + 0 && v == 1)) refl seen
  where
    at : (t : Bool) → t && (a == swap_address s + 0 && v == 1) ≡ true → a ≡ swap_address s
    at t e = let first : (a == swap_address s + 0) ≡ true = (both (a == swap_address s + 0) (v == 1) (both t (a == swap_address s + 0 && v == 1) e).1).0 in grind (arith, nat_tests)

    by : (t : Bool) → not (w == 0) && (a == swap_address s + 0 && v == 1) ≡ t → t || is_taken s past ≡ true → s < old.taken
    by false e h = was s few h
    by true e h = begun-there old w a v s few (at (not (w == 0)) e) (lawful.stores a v refl)

-- the act stores into none of these slots
abbrev pub Avoids : Config → List ℕ → Act → Type 0
Avoids c free made = (a v : ℕ) → made ≡ act.Store a v → node_address c 0 ≤ a → is_among free (slot_of c a) ≡ false

-- so none of them is shown stored into
pub unstored-acts : (c : Config) (w : ℕ) (made : Act) (past : List Mark) (free : List ℕ) → Avoids c free made → ((k : ℕ) → is_among free k ≡ true → is_stored_into c k past ≡ false) → (k : ℕ) → is_among free k ≡ true → is_stored_into c k (mark_of w made ∷ past) ≡ false
unstored-acts c w (act.Load a v) past free avoids was k among = was k among
unstored-acts c w (act.Cas a before after found) past free avoids was k among = was k among
unstored-acts c w (act.Ask line) past free avoids was k among = was k among
unstored-acts c w act.Fence past free avoids was k among = was k among
unstored-acts c w (act.Store a v) past free avoids was k among = by (not (w == 0) && (nat_le (node_address c 0) a && slot_of c a == k)) refl
  where
    never : (t : Bool) → t && (nat_le (node_address c 0) a && slot_of c a == k) ≡ true → ⊥
    never t e =
        let two = both (nat_le (node_address c 0) a) (slot_of c a == k) (both t (nat_le (node_address c 0) a && slot_of c a == k) e).1 in
        let within : nat_le (node_address c 0) a ≡ true = two.0 in
        let is : (slot_of c a == k) ≡ true = two.1 in
        let from : node_address c 0 ≤ a = grind (arith, nat_tests) in
        let same : slot_of c a ≡ k = grind (arith, nat_tests) in
        true≢false (sym among ∙ (ap (is_among free) (sym same) ∙ avoids a v refl from))

    by : (t : Bool) → not (w == 0) && (nat_le (node_address c 0) a && slot_of c a == k) ≡ t → t || is_stored_into c k past ≡ false
    by false e = was k among
    by true e = absurd (never (not (w == 0)) e)

-- a worker stores into its own words, or into a descriptor
pub act-avoids : (c : Config) (m : SwapMemory) (w : ℕ) (made : Act) (free : List ℕ) → WritesLawfully m w made → m.swaps ≡ c.swaps → ((d u : ℕ) → doing_of m w ≡ Storing d u → is_among free (slot_of c d) ≡ false) → Avoids c free made
act-avoids c m w made free lawful swaps own a v is from = elim (lawful.stores a v is) [
  | inl private ↦ own a v private.doing
  | inr prepares ↦ absurd (elim prepares.word [
    | inl status ↦ omega (arith, status.0, prepares.number, from, swaps)
    | inr field ↦ omega (arith, field.address, field.below, prepares.number, from, swaps)
  ])
]

slot-at : (c : Config) (slot place d : ℕ) → d ≡ node_address c slot + place → place < NODE_WORDS → slot_of c d ≡ slot
slot-at c slot place d at within = let inside : d - node_address c 0 ≡ NODE_WORDS * slot + place = omega (arith, at) in ap (λ n. n / NODE_WORDS) inside ∙ omega (arith, within)

-- and those are of no free slot: it took theirs, or a link has led there
module _ (p : Parts) (k : IsAwake p) where
  in-use : (slot : ℕ) → (is_reached_in p.config (image_at_on p.journal.start p.journal.past) slot ≡ true) ⊎ ((v : ℕ) × (k.story.took v slot ≡ true)) → is_among p.slots.free slot ≡ false
  in-use slot used = by (is_among p.slots.free slot) refl
    where
      by : (t : Bool) → is_among p.slots.free slot ≡ t → t ≡ false
      by false e = refl
      by true e = absurd (elim used [
        | inl reached ↦ true≢false (sym reached ∙ k.free.fresh slot e)
        | inr took ↦ true≢false (sym took.1 ∙ k.free.untaken took.0 slot e)
      ])

  pub own-avoids : (w since : ℕ) (opened : Open) (d : ℕ) → IsMine (scene p.config p.journal.past k.story w since opened) d → is_among p.slots.free (slot_of p.config d) ≡ false
  own-avoids w since opened d mine = elim mine.own [
    | inl taken ↦ ap (is_among p.slots.free) (slot-at p.config taken.slot taken.place d taken.address taken.within) ∙ in-use taken.slot (inr (w, taken.took))
    | inr reserved ↦
        let inside = k.living.reserved w d reserved in
        ap (is_among p.slots.free) (slot-at p.config inside.slot inside.place d inside.address inside.within) ∙ in-use inside.slot (k.living.came inside.slot inside.reached)
  ]
