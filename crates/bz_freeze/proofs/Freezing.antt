-- The swap of a freeze changes the status of one leaf, and in it the frozen bit and the stamp alone.
use Rattle.std.proofs.Common.{◌≡◌, ◌≢◌, ℕ, ◌+◌, ◌^◌, ◌<◌, ◌==◌, ◌||◌, Bool, true, false, [], ◌∷◌, arith, refl, sym, ap, subst, ◌∙◌, inl, inr}
use Rattle.std.proofs.lemmas.Bool.{cases_lt}
use Rattle.std.proofs.lemmas.Bool.Decides.{nat_tests}
use Rattle.bz_layout.specs.Addresses.{node_address}
use Rattle.bz_layout.specs.declared.sizes.TheConstants.{NODE_WORDS, STATUS_AT}
use Rattle.bz_slotted.specs.Changes.{Restamps}
use Rattle.bz_slotted.specs.LeafLaws.{AnswersAlike}
use Rattle.bz_slotted.proofs.Proved.{freeze_is_quiet}
use Rattle.bz_task.specs.FromSwap.SwapMemory.{is_target}
use Rattle.bz_word.specs.Statuses.{status}
use Rattle.bz_word.specs.declared.entry.Entry.{Entry}
use Rattle.bz_word.specs.declared.status.Status.{Status}
use Rattle.bz_content.specs.Image.{node}
use Rattle.bz_content.specs.Resolving.{resolve}
use Rattle.bz_task.specs.Good.{IsGood}
use Rattle.bz_task.specs.Instant.{Instant, words, durable, form_at}
use Rattle.bz_task.specs.Laws.{AreMoments, StillLeaf, SlotWords, SlotWord}
use Rattle.bz_task.specs.LeafSwaps.{IsWordOf, IsLeafSwap}
use Rattle.bz_task.specs.Requests.{IsTarget}
use Rattle.bz_task.specs.Scene.{Scene, IsScene, here}
use Rattle.bz_task.specs.Shown.{SameRecords}
use Rattle.bz_task.specs.Steps.{Moves, next_stamp, frozen_word}
use Rattle.bz_task.specs.Swaps.{Stand, SwapsTo, swapped}
use Rattle.bz_task.proofs.FrozenWords.{frozen-plain, frozen-reads}
use Rattle.bz_task.proofs.Proved.{leaf_swaps_are_good, same_records_show_the_same, swaps_show_in_slots, thawed_leaves_stay}
use Rattle.bz_freeze.specs.Facts.{WasLeaf, entry_of, freeze_change}
use Rattle.bz_freeze.specs.Laws.{FreezesAreGood}

-- what one entry sets and leaves
pub set-one : (e : Entry) (f : ℕ → ℕ) (a : ℕ) → e.target ≡ a → swapped (e ∷ []) f a ≡ e.new
set-one e f a h = let t : (e.target == a) ≡ true = grind (arith, nat_tests) in rw t refl

leave-one : (e : Entry) (f : ℕ → ℕ) (a : ℕ) → e.target ≢ a → swapped (e ∷ []) f a ≡ f a
leave-one e f a h = let t : (e.target == a) ≡ false = grind (arith, nat_tests) in rw t refl

module _ (s : Scene) (y : Instant) (k st : ℕ) (good : IsScene s) (w : WasLeaf k st s.past) (stand : Stand (entry_of s.past.config k st ∷ []) (here s)) (swaps : SwapsTo s.past.config (entry_of s.past.config k st ∷ []) (here s) y) where
  slot : SlotWords s.past.config (entry_of s.past.config k st ∷ []) (here s) y k
  slot = swaps_show_in_slots s.past.config (entry_of s.past.config k st ∷ []) (here s) y k swaps

  word : (i : ℕ) → i < NODE_WORDS → SlotWord s.past.config (entry_of s.past.config k st ∷ []) (here s) y k i
  word i l = slot.within i l

  now-status : words s.past.config (here s) k STATUS_AT ≡ st
  now-status = (word STATUS_AT (omega arith)).before ∙ stand 0 (entry_of s.past.config k st) (omega arith)

  good-now : IsGood s.past.config (here s)
  good-now = good.history.good s.past.now good.begun (omega arith)

  moments : AreMoments s.past.since s.past.now w.moment s.past.now
  moments = record { since = w.since; order = w.now; until = omega arith }

  leaf : StillLeaf s.past.config (s.past.at w.moment) (here s) k
  leaf = thawed_leaves_stay s.past.config s.past.at s.past.since s.past.now w.moment s.past.now k good.history moments w.slot w.inside w.leaf (ap (λ z. (status z).frozen) w.was ∙ w.thawed) (now-status ∙ sym w.was)

  durable-status : durable s.past.config (here s) k STATUS_AT ≡ st
  durable-status = good-now.shown k STATUS_AT leaf.leaf.reached (inl (omega arith)) ∙ now-status

  -- after the swap
  new-status : words s.past.config y k STATUS_AT ≡ frozen_word st
  new-status = (word STATUS_AT (omega arith)).value ∙ set-one (entry_of s.past.config k st) (here s).value (node_address s.past.config k + STATUS_AT) refl

  new-durable : durable s.past.config y k STATUS_AT ≡ frozen_word st
  new-durable = (word STATUS_AT (omega arith)).durable_value ∙ set-one (entry_of s.past.config k st) (resolve (here s).image) (node_address s.past.config k + STATUS_AT) refl

  apart : (i : ℕ) → i ≢ STATUS_AT → node_address s.past.config k + STATUS_AT ≢ node_address s.past.config k + i
  apart i ne e = ne (omega (arith, e))

  other-words : (i : ℕ) → i ≢ STATUS_AT → words s.past.config y k i ≡ words s.past.config (here s) k i
  other-words i ne = elim (cases_lt i NODE_WORDS) [
    | inl l ↦ (word i l).value ∙ (leave-one (entry_of s.past.config k st) (here s).value (node_address s.past.config k + i) (apart i ne) ∙ sym (word i l).before)
    | inr l ↦ slot.past i l
  ]

  other-durable : (i : ℕ) → i ≢ STATUS_AT → durable s.past.config y k i ≡ durable s.past.config (here s) k i
  other-durable i ne = elim (cases_lt i NODE_WORDS) [
    | inl l ↦ (word i l).durable_value ∙ (leave-one (entry_of s.past.config k st) (resolve (here s).image) (node_address s.past.config k + i) (apart i ne) ∙ sym (word i l).resolved)
    | inr l ↦ slot.durable_past i l
  ]

  -- of the status the frozen bit and the stamp alone are others
  reads : status (frozen_word st) ≡ record (status st) { frozen = true; stamp = next_stamp (status st).stamp }
  reads = frozen-reads st w.plain

  status-field : (A : Type 0) (f : Status → A) → f (record (status st) { frozen = true; stamp = next_stamp (status st).stamp }) ≡ f (status st) → (n m : ℕ → ℕ) → n STATUS_AT ≡ st → m STATUS_AT ≡ frozen_word st → f (status (m STATUS_AT)) ≡ f (status (n STATUS_AT))
  status-field A f e n m was is = ap (λ z. f (status z)) is ∙ (ap f reads ∙ (e ∙ ap (λ z. f (status z)) (sym was)))

  records : SameRecords (words s.past.config (here s) k) (words s.past.config y k)
  records = record {
    count = status-field ℕ (λ z. z.count) refl (words s.past.config (here s) k) (words s.past.config y k) now-status new-status;
    block = status-field ℕ (λ z. z.block) refl (words s.past.config (here s) k) (words s.past.config y k) now-status new-status;
    words = λ i ne h. other-words i ne;
  }

  moves : Moves (words s.past.config (here s) k) (words s.past.config y k)
  moves = record {
    thawed = ap (λ z. (status z).frozen) now-status ∙ w.thawed;
    stamp = ap (λ z. (status z).stamp) new-status ∙ (ap (λ z. z.stamp) reads ∙ ap (λ z. next_stamp (status z).stamp) (sym now-status));
    front = λ i ne l. other-words i ne;
    freeze = λ f. records;
    inner = λ l. absurd (omega (arith, l, leaf.leaf.flat));
    count = omega (arith, records.count);
    block = omega (arith, records.block);
    spare = λ e f. omega (arith, records.count, records.block, f);
  }

  restamps : Restamps (node s.past.config (here s).image k) (node s.past.config y.image k) (durable s.past.config (here s) k) (durable s.past.config y k)
  restamps = record {
    others = other-durable;
    raw = λ i l. slot.raw i;
    status = subst (λ z. z < 2 ^ 61) (sym new-durable) (frozen-plain st w.plain);
    count = status-field ℕ (λ z. z.count) refl (durable s.past.config (here s) k) (durable s.past.config y k) durable-status new-durable;
    block = status-field ℕ (λ z. z.block) refl (durable s.past.config (here s) k) (durable s.past.config y k) durable-status new-durable;
    dead = status-field ℕ (λ z. z.dead) refl (durable s.past.config (here s) k) (durable s.past.config y k) durable-status new-durable;
  }

  alike : AnswersAlike s.past.config.nodes (node s.past.config y.image k) (durable s.past.config (here s) k) (durable s.past.config y k) ((form_at s.past.config (here s)).low k) ((form_at s.past.config (here s)).high k)
  alike = freeze_is_quiet s.past.config.nodes (node s.past.config (here s).image k) (node s.past.config y.image k) (durable s.past.config (here s) k) (durable s.past.config y k) _ _ leaf.leaf.whole restamps

  address : (a : ℕ) → is_target (entry_of s.past.config k st ∷ []) a ≡ true → a ≡ node_address s.past.config k + STATUS_AT
  address a e = hit ((node_address s.past.config k + STATUS_AT) == a) refl e
    where
      hit : (t : Bool) → ((node_address s.past.config k + STATUS_AT) == a) ≡ t → t || false ≡ true → a ≡ node_address s.past.config k + STATUS_AT
      hit true q h = grind (arith, nat_tests)
      hit false q h = absurd (cc)

  target : (a : ℕ) → is_target (entry_of s.past.config k st ∷ []) a ≡ true → IsWordOf s k a
  target a e = record { place = STATUS_AT; within = omega arith; address = address a e }

  named : (a : ℕ) → is_target (entry_of s.past.config k st ∷ []) a ≡ true → IsTarget s a
  named a e = inr (inr (record { slot = k; place = STATUS_AT; address = address a e; within = omega arith; reached = leaf.leaf.reached; kind = inl refl }))

  leaf-swap : IsLeafSwap false freeze_change (entry_of s.past.config k st ∷ []) s k y
  leaf-swap = record {
    swaps = swaps;
    inside = leaf.leaf.inside;
    slot = w.slot;
    leaf = leaf.leaf.leaf;
    place = target;
    targets = named;
    moves = moves;
    whole = alike.none;
    says = alike.same;
    shown = λ i l h. inl ((same_records_show_the_same (words s.past.config (here s) k) (words s.past.config y k) records i).1 h);
  }

pub freezes : FreezesAreGood
freezes s y k st good w stand swaps = leaf_swaps_are_good false freeze_change (entry_of s.past.config k st ∷ []) s k y good (leaf-swap s y k st good w stand swaps)
