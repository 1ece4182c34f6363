-- A leaf that was seen may be frozen, and says then what was seen.
use Rattle.std.proofs.Common.{◌≡◌, ◌≢◌, ℕ, ◌+◌, ◌<◌, ◌^◌, ◌==◌, true, false, List, [], ◌∷◌, arith, refl, sym, ap, subst, ◌∙◌, inl, inr, Option}
use Rattle.std.proofs.lemmas.Bool.{cases_lt}
use Rattle.std.proofs.lemmas.Bool.Decides.{nat_tests}
use Rattle.bz_layout.specs.Addresses.{node_address}
use Rattle.bz_layout.specs.declared.config.Config.{Config}
use Rattle.bz_layout.specs.declared.sizes.TheConstants.{NODE_WORDS, STATUS_AT}
use Rattle.bz_slotted.specs.Changes.{Restamps}
use Rattle.bz_slotted.specs.LeafLaws.{AnswersAlike, FreezeIsQuiet}
use Rattle.bz_slotted.specs.Readers.{found_of}
use Rattle.bz_slotted.specs.ReadingLaws.{node_of}
use Rattle.bz_word.specs.Statements.{IsCodec}
use Rattle.bz_word.specs.Statuses.{status_word, status, IsStatus, IsStatusWord}
use Rattle.bz_word.specs.declared.entry.Entry.{Entry}
use Rattle.bz_word.specs.declared.status.Status.{Status}
use Rattle.bz_freeze.specs.Facts.{WasLeaf, entry_of}
use Rattle.bz_task.specs.Good.{IsGood}
use Rattle.bz_task.specs.Instant.{words, durable, page_at, form_at}
use Rattle.bz_task.specs.Laws.{FrontsStay, SwapsShowInSlots, SlotWords, ThawedLeavesStay, StillLeaf, IsLeafInTree, SaysAlike, SameRecordsShowTheSame, SeenLeavesAreWhole, LeavesAreInTrees}
use Rattle.bz_task.specs.Requests.{IsEntryToAsk}
use Rattle.bz_task.specs.Scene.{Past, Scene, IsScene, here}
use Rattle.bz_task.specs.Steps.{frozen_word, next_stamp}
use Rattle.bz_task.specs.Swaps.{Stand, Takes, swapped}
use Rattle.bz_task.proofs.FrozenWords.{frozen-plain, frozen-reads}
use Rattle.bz_renew.proofs.FrozenLeaves.{read-alike}
use Rattle.bz_merge.specs.Merges.{StoodFrozen}
use Rattle.bz_merge.specs.Siblings.{SeenLeaf, WasSeen}

-- the laws on which it rests
pub record Laws : Type 0 where
  pub thawed : ThawedLeavesStay
  pub slots : SwapsShowInSlots
  pub shown : SameRecordsShowTheSame
  pub seen : SeenLeavesAreWhole
  pub leaves : LeavesAreInTrees
  pub quiet : FreezeIsQuiet
  pub codec : IsCodec Status IsStatus IsStatusWord status_word status

-- of a leaf that was seen
pub record SeenOnce (l : SeenLeaf) (p : Past) : Type 0 where
  pub at : ℕ
  pub low : Option (List ℕ)
  pub high : Option (List ℕ)
  pub seen : WasSeen l at low high p

pub was-leaf : (l : SeenLeaf) (p : Past) → SeenOnce l p → (status l.status).frozen ≡ false → WasLeaf l.slot l.status p
was-leaf l p o t = record {
  moment = o.at;
  since = o.seen.stood.since;
  now = o.seen.stood.now;
  slot = o.seen.stood.slot;
  inside = o.seen.stood.inside;
  leaf = o.seen.stood.leaf;
  was = o.seen.status;
  thawed = t;
  plain = o.seen.plain;
}

was-reached : (s : Scene) (l : SeenLeaf) → IsScene s → (o : SeenOnce l s.past) → (s.past.at o.at).reached l.slot ≡ true
was-reached s l good o = (good.history.good o.at o.seen.stood.since o.seen.stood.now).inside l.slot o.seen.stood.inside (λ e. omega (arith, e, o.seen.stood.slot))

-- a link has led to it
pub reached-now : FrontsStay → (s : Scene) (l : SeenLeaf) → IsScene s → SeenOnce l s.past → (here s).reached l.slot ≡ true
reached-now fronts s l good o =
    (fronts s.past.config s.past.at s.past.since s.past.now o.at s.past.now l.slot good.history (record { since = o.seen.stood.since; order = o.seen.stood.now; until = omega arith }) (was-reached s l good o)).reached

-- one that was frozen when it was seen
pub seen-frozen : (s : Scene) (l : SeenLeaf) → IsScene s → SeenOnce l s.past → (status l.status).frozen ≡ true → StoodFrozen l.slot l.image s.past
seen-frozen s l good o t = record {
  moment = o.at;
  since = o.seen.stood.since;
  now = o.seen.stood.now;
  reached = was-reached s l good o;
  frozen = ap (λ z. (status z).frozen) o.seen.status ∙ t;
  says = o.seen.says;
}

pub freeze-asked : FrontsStay → IsCodec Status IsStatus IsStatusWord status_word status → (s : Scene) (l : SeenLeaf) → IsScene s → SeenOnce l s.past → IsEntryToAsk s (entry_of s.past.config l.slot l.status)
freeze-asked fronts codec s l good o = record {
  target = inr (inr (record {
    slot = l.slot;
    place = STATUS_AT;
    address = refl;
    within = omega arith;
    reached = reached-now fronts s l good o;
    kind = inl refl;
  }));
  expected = o.seen.plain;
  new = frozen-plain l.status o.seen.plain;
}

set-one : (e : Entry) (f : ℕ → ℕ) (a : ℕ) → e.target ≡ a → swapped (e ∷ []) f a ≡ e.new
set-one e f a h = let t : (e.target == a) ≡ true = grind (arith, nat_tests) in rw t refl

pub leave-one : (e : Entry) (f : ℕ → ℕ) (a : ℕ) → e.target ≢ a → swapped (e ∷ []) f a ≡ f a
leave-one e f a h = let t : (e.target == a) ≡ false = grind (arith, nat_tests) in rw t refl

module _ (b : Laws) (s after : Scene) (l : SeenLeaf) (good : IsScene s) (later : IsScene after) (o : SeenOnce l s.past) (thaw : (status l.status).frozen ≡ false) (stand : Stand (entry_of s.past.config l.slot l.status ∷ []) (here s)) (t : Takes false (entry_of s.past.config l.slot l.status ∷ []) s after) where
  abbrev k : ℕ
  k = l.slot

  abbrev e : Entry
  e = entry_of s.past.config l.slot l.status

  slot : SlotWords s.past.config (e ∷ []) (here s) (here after) k
  slot = b.slots s.past.config (e ∷ []) (here s) (here after) k t.swaps

  status-now : words s.past.config (here s) k STATUS_AT ≡ l.status
  status-now = (slot.within STATUS_AT (omega arith)).before ∙ stand 0 e (omega arith)

  good-now : IsGood s.past.config (here s)
  good-now = good.history.good s.past.now good.begun (omega arith)

  good-then : IsGood s.past.config (s.past.at o.at)
  good-then = good.history.good o.at o.seen.stood.since o.seen.stood.now

  still : StillLeaf s.past.config (s.past.at o.at) (here s) k
  still = b.thawed s.past.config s.past.at s.past.since s.past.now o.at s.past.now k good.history (record { since = o.seen.stood.since; order = o.seen.stood.now; until = omega arith }) o.seen.stood.slot o.seen.stood.inside o.seen.stood.leaf
      (ap (λ z. (status z).frozen) o.seen.status ∙ thaw) (status-now ∙ sym o.seen.status)

  then-leaf : IsLeafInTree s.past.config (s.past.at o.at) k
  then-leaf = b.leaves s.past.config (s.past.at o.at) k good-then o.seen.stood.slot o.seen.stood.inside o.seen.stood.leaf

  alike-then : SaysAlike s.past.config.nodes (durable s.past.config (s.past.at o.at) k) (words s.past.config (s.past.at o.at) k) ((form_at s.past.config (s.past.at o.at)).low k) ((form_at s.past.config (s.past.at o.at)).high k)
  alike-then = read-alike b.shown b.seen s.past.config (s.past.at o.at) k good-then then-leaf

  alike-now : SaysAlike s.past.config.nodes (durable s.past.config (here s) k) (words s.past.config (here s) k) ((form_at s.past.config (here s)).low k) ((form_at s.past.config (here s)).high k)
  alike-now = read-alike b.shown b.seen s.past.config (here s) k good-now still.leaf

  since : SaysAlike s.past.config.nodes (words s.past.config (s.past.at o.at) k) (words s.past.config (here s) k) ((form_at s.past.config (s.past.at o.at)).low k) ((form_at s.past.config (s.past.at o.at)).high k)
  since = b.seen s.past.config.nodes _ (words s.past.config (s.past.at o.at) k) (words s.past.config (here s) k) _ _ alike-then.whole still.same

  -- the swap changes the status alone
  new-status : words s.past.config (here after) k STATUS_AT ≡ frozen_word l.status
  new-status = (slot.within STATUS_AT (omega arith)).value ∙ set-one e (here s).value (node_address s.past.config k + STATUS_AT) refl

  others : (i : ℕ) → i ≢ STATUS_AT → words s.past.config (here after) k i ≡ words s.past.config (here s) k i
  others i ne = elim (cases_lt i NODE_WORDS) [
    | inl n ↦ (slot.within i n).value ∙ (leave-one e (here s).value (node_address s.past.config k + i) (λ q. ne (omega (arith, q))) ∙ sym (slot.within i n).before)
    | inr n ↦ slot.past i n
  ]

  reads : status (frozen_word l.status) ≡ record (status l.status) { frozen = true; stamp = next_stamp (status l.status).stamp }
  reads = frozen-reads l.status o.seen.plain

  field-stays : (f : Status → ℕ) → f (record (status l.status) { frozen = true; stamp = next_stamp (status l.status).stamp }) ≡ f (status l.status) → f (status (words s.past.config (here after) k STATUS_AT)) ≡ f (status (words s.past.config (here s) k STATUS_AT))
  field-stays f q = ap (λ z. f (status z)) new-status ∙ (ap f reads ∙ (q ∙ ap (λ z. f (status z)) (sym status-now)))

  restamps : Restamps (words s.past.config (here s) k) (words s.past.config (here s) k) (words s.past.config (here s) k) (words s.past.config (here after) k)
  restamps = record {
    others = others;
    raw = λ i n. refl;
    status = subst (λ z. z < 2 ^ 61) (sym new-status) (frozen-plain l.status o.seen.plain);
    count = field-stays (λ z. z.count) refl;
    block = field-stays (λ z. z.block) refl;
    dead = field-stays (λ z. z.dead) refl;
  }

  alike : AnswersAlike s.past.config.nodes (words s.past.config (here s) k) (words s.past.config (here s) k) (words s.past.config (here after) k) ((form_at s.past.config (here s)).low k) ((form_at s.past.config (here s)).high k)
  alike = b.quiet s.past.config.nodes (words s.past.config (here s) k) (words s.past.config (here s) k) (words s.past.config (here s) k) (words s.past.config (here after) k) _ _ alike-now.whole restamps

  pub now-frozen : StoodFrozen l.slot l.image after.past
  now-frozen = record {
    moment = after.past.now;
    since = later.begun;
    now = omega arith;
    reached = t.swaps.reached k ∙ rw still.leaf.reached refl;
    frozen = subst (λ (c : Config). (page_at c (here after) k).frozen ≡ true) (sym t.continues.config) (ap (λ z. (status z).frozen) new-status ∙ ap (λ z. z.frozen) reads);
    says = λ key. subst (λ (c : Config). found_of (words c (here after) k) key ≡ found_of (node_of l.image) key) (sym t.continues.config) (alike.same key ∙ (since.found key ∙ o.seen.says key));
  }
