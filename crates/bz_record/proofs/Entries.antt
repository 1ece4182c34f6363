-- What a swap of a leaf's status and one of its metadata words finds, sets and leaves.
use Rattle.std.proofs.Common.{◌≡◌, ◌≢◌, ℕ, ◌+◌, ◌<◌, ◌==◌, ◌||◌, ◌⊎◌, Bool, true, false, [], ◌∷◌, arith, refl, sym, subst, ◌∙◌, inl, inr}
use Rattle.std.specs.Prelude.{nat_lt}
use Rattle.std.proofs.lemmas.Bool.{cases_lt}
use Rattle.std.proofs.lemmas.Bool.Decides.{nat_tests}
use Rattle.bz_layout.specs.Addresses.{node_address}
use Rattle.bz_layout.specs.declared.config.Config.{Config}
use Rattle.bz_layout.specs.declared.sizes.TheConstants.{NODE_WORDS, STATUS_AT, META_AT}
use Rattle.bz_task.specs.FromSwap.SwapMemory.{is_target}
use Rattle.bz_word.specs.Statuses.{status}
use Rattle.bz_word.specs.declared.entry.Entry.{Entry}
use Rattle.bz_content.specs.Image.{node}
use Rattle.bz_content.specs.Resolving.{resolve}
use Rattle.bz_task.specs.Good.{IsGood}
use Rattle.bz_task.specs.Instant.{Instant, words, durable}
use Rattle.bz_task.specs.Laws.{SlotWords, SlotWord}
use Rattle.bz_task.specs.LeafSwaps.{IsWordOf}
use Rattle.bz_task.specs.Scene.{Scene, IsScene, here}
use Rattle.bz_task.specs.Swaps.{Stand, swapped}
use Rattle.bz_record.specs.Laws.{SameLeaf}
use Rattle.bz_record.specs.Leaves.{WasLeafThen}
use Rattle.bz_record.specs.Swaps.{status_entry, meta_entry, entries_of}
use Rattle.bz_record.specs.declared.record_swap.RecordSwap.{RecordSwap}
use Rattle.bz_record.proofs.Leaves.{leaves-stay}

-- what two entries set and leave
set-first : (e f : Entry) (g : ℕ → ℕ) (a : ℕ) → e.target ≡ a → swapped (e ∷ f ∷ []) g a ≡ e.new
set-first e f g a h = let t : (e.target == a) ≡ true = grind (arith, nat_tests) in rw t refl

set-second : (e f : Entry) (g : ℕ → ℕ) (a : ℕ) → e.target ≢ a → f.target ≡ a → swapped (e ∷ f ∷ []) g a ≡ f.new
set-second e f g a n h =
    let t : (e.target == a) ≡ false = grind (arith, nat_tests) in
    let u : (f.target == a) ≡ true = grind (arith, nat_tests) in rw (t, u) refl

leave-both : (e f : Entry) (g : ℕ → ℕ) (a : ℕ) → e.target ≢ a → f.target ≢ a → swapped (e ∷ f ∷ []) g a ≡ g a
leave-both e f g a n m =
    let t : (e.target == a) ≡ false = grind (arith, nat_tests) in
    let u : (f.target == a) ≡ false = grind (arith, nat_tests) in rw (t, u) refl

-- an address of one of them
one-of : (e f : Entry) (a : ℕ) → is_target (e ∷ f ∷ []) a ≡ true → (a ≡ e.target) ⊎ (a ≡ f.target)
one-of e f a h = go (e.target == a) (f.target == a) refl refl h
  where
    go : (t u : Bool) → (e.target == a) ≡ t → (f.target == a) ≡ u → t || (u || false) ≡ true → (a ≡ e.target) ⊎ (a ≡ f.target)
    go true u p q h = inl (grind (arith, nat_tests))
    go false true p q h = inr (grind (arith, nat_tests))
    go false false p q h = absurd (cc)

-- what a swap does to the words of the slot, of which it names these two
module _ (c : Config) (w : RecordSwap) (x y : Instant) (slot : SlotWords c (entries_of c w) x y w.slot) (place : META_AT + w.place < NODE_WORDS) where
  word : (i : ℕ) → i < NODE_WORDS → SlotWord c (entries_of c w) x y w.slot i
  word i l = slot.within i l

  pub sets-status : words c y w.slot STATUS_AT ≡ w.new_status
  sets-status = (word STATUS_AT (omega arith)).value ∙ set-first (status_entry c w) (meta_entry c w) x.value (node_address c w.slot + STATUS_AT) refl

  pub sets-durable-status : durable c y w.slot STATUS_AT ≡ w.new_status
  sets-durable-status = (word STATUS_AT (omega arith)).durable_value ∙ set-first (status_entry c w) (meta_entry c w) (resolve x.image) (node_address c w.slot + STATUS_AT) refl

  differ : node_address c w.slot + STATUS_AT ≢ node_address c w.slot + (META_AT + w.place)
  differ e = omega (arith, e)

  pub sets-meta : words c y w.slot (META_AT + w.place) ≡ w.new_meta
  sets-meta = (word (META_AT + w.place) place).value ∙ set-second (status_entry c w) (meta_entry c w) x.value (node_address c w.slot + (META_AT + w.place)) differ refl

  pub sets-durable-meta : durable c y w.slot (META_AT + w.place) ≡ w.new_meta
  sets-durable-meta = (word (META_AT + w.place) place).durable_value ∙ set-second (status_entry c w) (meta_entry c w) (resolve x.image) (node_address c w.slot + (META_AT + w.place)) differ refl

  apart : (i j : ℕ) → i ≢ j → node_address c w.slot + j ≢ node_address c w.slot + i
  apart i j n e = n (omega (arith, e))

  pub leaves-others : (i : ℕ) → i ≢ STATUS_AT → i ≢ META_AT + w.place → words c y w.slot i ≡ words c x w.slot i
  leaves-others i n m = elim (cases_lt i NODE_WORDS) [
    | inl l ↦ (word i l).value ∙ (leave-both (status_entry c w) (meta_entry c w) x.value (node_address c w.slot + i) (apart i STATUS_AT n) (apart i (META_AT + w.place) m) ∙ sym (word i l).before)
    | inr l ↦ slot.past i l
  ]

  pub leaves-durable-others : (i : ℕ) → i ≢ STATUS_AT → i ≢ META_AT + w.place → durable c y w.slot i ≡ durable c x w.slot i
  leaves-durable-others i n m = elim (cases_lt i NODE_WORDS) [
    | inl l ↦ (word i l).durable_value ∙ (leave-both (status_entry c w) (meta_entry c w) (resolve x.image) (node_address c w.slot + i) (apart i STATUS_AT n) (apart i (META_AT + w.place) m) ∙ sym (word i l).resolved)
    | inr l ↦ slot.durable_past i l
  ]

  pub leaves-raw : (i : ℕ) → node c y.image w.slot i ≡ node c x.image w.slot i
  leaves-raw i = slot.raw i

pub node-at : (c : Config) (f : ℕ → ℕ) (k i : ℕ) → i < NODE_WORDS → node c f k i ≡ f (node_address c k + i)
unfolding node
node-at c f k i l = let t : nat_lt i NODE_WORDS ≡ true = grind (arith, nat_tests) in rw t refl

-- what it finds there
module _ (c : Config) (w : RecordSwap) (x : Instant) (stand : Stand (entries_of c w) x) where
  pub finds-status : words c x w.slot STATUS_AT ≡ w.status
  finds-status = node-at c x.value w.slot STATUS_AT (omega arith) ∙ stand 0 (status_entry c w) (omega arith)

  pub finds-meta : META_AT + w.place < NODE_WORDS → words c x w.slot (META_AT + w.place) ≡ w.meta
  finds-meta place = node-at c x.value w.slot (META_AT + w.place) place ∙ stand 1 (meta_entry c w) (omega arith)

-- its targets are words of the slot
pub target-of : (s : Scene) (w : RecordSwap) → META_AT + w.place < NODE_WORDS → (a : ℕ) → is_target (entries_of s.past.config w) a ≡ true → IsWordOf s w.slot a
target-of s w l a h = elim (one-of (status_entry s.past.config w) (meta_entry s.past.config w) a h) [
  | inl e ↦ record { place = STATUS_AT; within = omega arith; address = e }
  | inr e ↦ record { place = META_AT + w.place; within = l; address = e }
]

-- a fact of both targets is one of every target
pub each-target : (P : ℕ → Type 0) (c : Config) (w : RecordSwap) → P (node_address c w.slot + STATUS_AT) → P (node_address c w.slot + (META_AT + w.place)) → (a : ℕ) → is_target (entries_of c w) a ≡ true → P a
each-target P c w p q a h = elim (one-of (status_entry c w) (meta_entry c w) a h) [ inl e ↦ subst P (sym e) p | inr e ↦ subst P (sym e) q ]

-- the leaf as it is now, where the status is the one that was read
module _ (s : Scene) (w : RecordSwap) (moment : ℕ) (good : IsScene s) (leaf : WasLeafThen w.slot w.status moment s.past) (thawed : (status w.status).frozen ≡ false) (stand : Stand (entries_of s.past.config w) (here s)) where
  pub status-now : words s.past.config (here s) w.slot STATUS_AT ≡ w.status
  status-now = finds-status s.past.config w (here s) stand

  pub same-now : SameLeaf s.past.config (s.past.at moment) (here s) w.slot
  same-now = leaves-stay s w.slot w.status moment good leaf thawed status-now

  pub good-now : IsGood s.past.config (here s)
  good-now = good.history.good s.past.now good.begun (omega arith)

  pub durable-status-now : durable s.past.config (here s) w.slot STATUS_AT ≡ w.status
  durable-status-now = good-now.shown w.slot STATUS_AT same-now.leaf.reached (inl (omega arith)) ∙ status-now
