-- What a merge asks for may be asked for; and a load that differs is worth a restart.
use Rattle.std.proofs.Common.{◌≡◌, ◌≢◌, ℕ, ◌+◌, ◌<◌, ◌≤◌, Bool, true, false, List, [], ◌∷◌, arith, sym, ap, subst, ◌∙◌, inl, inr, Some}
use Rattle.std.specs.Prelude.{All, slice_index}
use Rattle.std.proofs.lemmas.List.Elements.{All-cons}
use Rattle.bz_layout.specs.Addresses.{node_address}
use Rattle.bz_layout.specs.declared.config.Config.{Config}
use Rattle.bz_layout.specs.declared.sizes.TheConstants.{NODE_WORDS, STATUS_AT}
use Rattle.bz_slotted.specs.Readers.{count_of}
use Rattle.bz_slotted.specs.ReadingLaws.{node_of}
use Rattle.bz_swap.proofs.EntryLists.{All-inserted}
use Rattle.bz_word.specs.Statements.{IsCodec}
use Rattle.bz_word.specs.Statuses.{status_word, status, IsStatus, IsStatusWord}
use Rattle.bz_word.specs.declared.entry.Entry.{Entry}
use Rattle.bz_word.specs.declared.status.Status.{Status}
use Rattle.bz_freeze.specs.Facts.{entry_of}
use Rattle.bz_task.specs.Instant.{words}
use Rattle.bz_task.specs.Laws.{FrontsStay}
use Rattle.bz_task.specs.Requests.{Differed, IsEntryToAsk, IsAskable, IsReadable, IsTarget, IsCause}
use Rattle.bz_task.specs.Scene.{Past, Scene, Waiting, IsScene}
use Rattle.bz_task.specs.declared.todo.Seen.{Seen}
use Rattle.bz_task.specs.declared.todo.Seen.TheVariants.{Start, Read as Was, Stored, Flushed, Swapped, NoSwap as NoneLeft}
use Rattle.bz_task.specs.declared.todo.Todo.{Todo}
use Rattle.bz_task.specs.declared.todo.Todo.TheVariants.{Store as Stores_at, Flush as Flushes_line}
use Rattle.bz_task.specs.declared.path.Link.{Link}
use Rattle.bz_task.proofs.FrozenWords.{frozen-plain}
use Rattle.bz_renew.specs.Freezings.{freezing_entry}
use Rattle.bz_renew.specs.Nodes.{word_address, word_value, line_number}
use Rattle.bz_renew.specs.Renewals.{renewal, link_entry, guard_entry, IsTurnable, LinksMayBeTurned}
use Rattle.bz_renew.proofs.Guards.{guard-readable, guard-differed}
use Rattle.bz_renew.proofs.NodeWrites.{node-may-store, node-may-flush}
use Rattle.bz_renew.proofs.Restamping.{restamped-plain}
use Rattle.bz_renew.proofs.TwoEntries.{all-two}
use Rattle.bz_renew.proofs.Words.{node-at}
use Rattle.bz_split.specs.BelowSplits.{parent_freezing, below_swap}
use Rattle.bz_merge.specs.Facts.{MERGE_WORDS, MERGE_LINES, IsMerging, merge_asks, merge_facts, merge_differs}
use Rattle.bz_merge.specs.Plans.{Merging, merge_nodes, viewed_leaf, beside_leaf, first_of, second_of, other_place, IsViewed, IsPaired, IsReadingBeside, IsPlanned}
use Rattle.bz_merge.specs.Siblings.{SeenLeaf}
use Rattle.bz_merge.specs.declared.phase.MergePhase.{MergePhase}
use Rattle.bz_merge.specs.declared.phase.MergePhase.TheVariants.{Fresh, Word, Again, Beside, Parent, Still, Freeze, FreezeBeside, Guard, Store, Flush, Swap, Done, Restart, NoNeighbour, NoSlot, NoSwap}
use Rattle.bz_merge.proofs.Freezing.{SeenOnce, freeze-asked}

-- both leaves were seen
seen-own : (right : Bool) (own other : SeenLeaf) (p : Past) → SeenOnce (first_of right own other) p → SeenOnce (second_of right own other) p → SeenOnce own p
seen-own true own other p f s = f
seen-own false own other p f s = s

seen-other : (right : Bool) (own other : SeenLeaf) (p : Past) → SeenOnce (first_of right own other) p → SeenOnce (second_of right own other) p → SeenOnce other p
seen-other true own other p f s = s
seen-other false own other p f s = f

module _ (r : Merging) (p : Past) (f : IsPlanned r p) where
  first-once : SeenOnce (first_of r.right (viewed_leaf r) (beside_leaf r)) p
  first-once = record { at = f.first_at; low = f.low; high = _; seen = f.first }

  second-once : SeenOnce (second_of r.right (viewed_leaf r) (beside_leaf r)) p
  second-once = record { at = f.second_at; low = _; high = f.high; seen = f.second }

  pub own-once : SeenOnce (viewed_leaf r) p
  own-once = seen-own r.right (viewed_leaf r) (beside_leaf r) p first-once second-once

  pub other-once : SeenOnce (beside_leaf r) p
  other-once = seen-other r.right (viewed_leaf r) (beside_leaf r) p first-once second-once

-- the parent's slot, and the address of its status
module _ (upper lower : Link) (own : SeenLeaf) (s : Scene) (good : IsScene s) (v : IsViewed upper lower own s.past) where
  pub upper-slot : upper.slot < s.past.config.nodes
  upper-slot =
      let g = v.links.guard in
      subst (λ z. z < s.past.config.nodes) v.links.parent ((good.history.good g.guarded g.since (omega (arith, g.order, g.now))).slots v.links.under.parent v.links.under.reached)

  pub guard-at : lower.guard ≡ node_address s.past.config upper.slot + STATUS_AT
  guard-at = v.links.under.guard ∙ ap (λ z. node_address s.past.config z + STATUS_AT) v.links.parent

other-within : (right : Bool) (place count : ℕ) → place + 1 < count → other_place right place < count
other-within true place count l = l
other-within false place count l = omega (arith, l)

-- the neighbour's slot
module _ (r : Merging) (s : Scene) (good : IsScene s) (f : IsPaired r s.past) where
  pub guarded-since : s.past.since ≤ f.viewed.guarded
  guarded-since = omega (arith, f.viewed.links.guard.since, f.viewed.is_guarded)

  pub guarded-now : f.viewed.guarded ≤ s.past.now
  guarded-now = omega (arith, f.viewed.links.guard.order, f.viewed.links.guard.now, f.viewed.is_guarded)

  pub beside-reached : (s.past.at f.viewed.guarded).reached r.beside_slot ≡ true
  beside-reached = subst (λ z. (s.past.at f.viewed.guarded).reached z ≡ true) f.pair.other (f.parent.reached (other_place r.right r.place) (other-within r.right r.place (count_of (node_of r.read)) f.pair.counted))

  pub beside-slot : r.beside_slot < s.past.config.nodes
  beside-slot = (good.history.good f.viewed.guarded guarded-since guarded-now).slots r.beside_slot beside-reached

word-readable : (s : Scene) (k i : ℕ) → k < s.past.config.nodes → i < NODE_WORDS → IsReadable s (node_address s.past.config k + i)
word-readable s k i slot l = record { outside = inr (omega arith); within = omega (arith, slot, l) }

some-same : (a b : Todo) → Some a ≡ Some b → a ≡ b
some-same a b e = cc

all-one : (P : Entry → Type 0) (e : Entry) → P e → All P (e ∷ [])
all-one P e h = All-cons P e [] h (λ i d l. absurd (omega (arith, l)))

-- the entries of the swap
may-swap : LinksMayBeTurned → IsCodec Status IsStatus IsStatusWord status_word status → (r : Merging) (s : Scene) → IsScene s → IsMerging r MERGE_WORDS MERGE_LINES s → All (IsEntryToAsk s) (below_swap s.past.config r.upper r.lower (r.slot 0))
may-swap turned codec r s good f =
    let v = f.frozen.planned.paired.viewed in
    let t : IsTurnable r.upper s = turned s r.upper good v.links.upper_guard v.links.upper_thawed in
    let u : IsTurnable r.lower s = turned s r.lower good v.links.guard v.links.thawed in
    let old : r.upper.slot < s.past.config.nodes = upper-slot r.upper r.lower (viewed_leaf r) s good v in
    let new : r.slot 0 < s.past.config.nodes = f.writing.slots.within 0 (omega arith) in
    let status_target : IsTarget s (node_address s.past.config r.upper.slot + STATUS_AT) = subst (IsTarget s) (guard-at r.upper r.lower (viewed_leaf r) s good v) u.guard_target in
    All-inserted (IsEntryToAsk s) (freezing_entry s.past.config (parent_freezing r.upper r.lower)) (renewal r.upper (r.slot 0))
    (record { target = status_target; expected = u.plain; new = frozen-plain r.lower.status u.plain })
    (all-two (IsEntryToAsk s) (link_entry r.upper (r.slot 0)) (guard_entry r.upper)
    (record { target = t.link_target; expected = omega (arith, old, good.config.nodes_in_range.at_most); new = omega (arith, new, good.config.nodes_in_range.at_most) })
    (record { target = t.guard_target; expected = t.plain; new = restamped-plain codec r.upper.status t.plain }))

pub askable : FrontsStay → LinksMayBeTurned → IsCodec Status IsStatus IsStatusWord status_word status → (c : Config) (r : Merging) (phase : MergePhase) (s : Scene) (todo : Todo) → s.past.config ≡ c → merge_facts r phase Waiting s → IsScene s → merge_asks c r phase ≡ Some todo → IsAskable s todo
askable fronts turned codec c r Fresh s todo same f good e = absurd (cc)
askable fronts turned codec c r (Word i) s todo same f good e =
    subst (IsAskable s) (some-same _ todo e)
    (subst (λ (z : Config). IsReadable s (node_address z r.upper.slot + i)) same (word-readable s r.upper.slot i (upper-slot r.upper r.lower (viewed_leaf r) s good f.1.1.1.viewed) f.1.1.0))
askable fronts turned codec c r Again s todo same f good e = subst (IsAskable s) (some-same _ todo e) (guard-readable s r.lower good f.1.viewed.links.guard)
askable fronts turned codec c r (Beside i) s todo same f good e =
    subst (IsAskable s) (some-same _ todo e)
    (subst (λ (z : Config). IsReadable s (node_address z r.beside_slot + i)) same (word-readable s r.beside_slot i (beside-slot r s good f.1.1.0) f.1.0))
askable fronts turned codec c r Parent s todo same f good e = subst (IsAskable s) (some-same _ todo e) (guard-readable s r.lower good f.1.0.viewed.links.guard)
askable fronts turned codec c r Still s todo same f good e =
    subst (IsAskable s) (some-same _ todo e)
    (subst (λ (z : Config). IsReadable s (node_address z r.beside_slot + STATUS_AT)) same (word-readable s r.beside_slot STATUS_AT f.1.other.slot (omega arith)))
askable fronts turned codec c r Freeze s todo same f good e =
    subst (IsAskable s) (some-same _ todo e)
    (subst (λ (z : Config). All (IsEntryToAsk s) (entry_of z r.lower.slot r.status ∷ [])) same (all-one (IsEntryToAsk s) (entry_of s.past.config r.lower.slot r.status) (freeze-asked fronts codec s (viewed_leaf r) good (own-once r s.past f.1.0))))
askable fronts turned codec c r FreezeBeside s todo same f good e =
    subst (IsAskable s) (some-same _ todo e)
    (subst (λ (z : Config). All (IsEntryToAsk s) (entry_of z r.beside_slot (slice_index r.beside STATUS_AT) ∷ [])) same (all-one (IsEntryToAsk s) (entry_of s.past.config r.beside_slot (slice_index r.beside STATUS_AT)) (freeze-asked fronts codec s (beside_leaf r) good (other-once r s.past f.1.0))))
askable fronts turned codec c r Guard s todo same f good e = subst (IsAskable s) (some-same _ todo e) (guard-readable s r.upper good f.1.planned.paired.viewed.links.upper_guard)
askable fronts turned codec c r (Store j) s todo same f good e =
    subst (IsAskable s) (some-same _ todo e)
    (subst (λ z. IsAskable s (Stores_at (word_address z (merge_nodes r) j) (word_value (merge_nodes r) j))) same (node-may-store (merge_nodes r) j s (omega (arith, f.1.0)) f.1.1.plain f.1.1.writing))
askable fronts turned codec c r (Flush j) s todo same f good e =
    subst (IsAskable s) (some-same _ todo e)
    (subst (λ z. IsAskable s (Flushes_line (line_number z (merge_nodes r) j))) same (node-may-flush (merge_nodes r) j s f.1.1.writing.slots (omega (arith, f.1.0))))
askable fronts turned codec c r Swap s todo same f good e =
    subst (IsAskable s) (some-same _ todo e)
    (subst (λ (z : Config). All (IsEntryToAsk s) (below_swap z r.upper r.lower (r.slot 0))) same (may-swap turned codec r s good f.1))
askable fronts turned codec c r Done s todo same f good e = subst (IsAskable s) (some-same _ todo e) tt
askable fronts turned codec c r Restart s todo same f good e = subst (IsAskable s) (some-same _ todo e) tt
askable fronts turned codec c r NoNeighbour s todo same f good e = subst (IsAskable s) (some-same _ todo e) tt
askable fronts turned codec c r NoSlot s todo same f good e = subst (IsAskable s) (some-same _ todo e) tt
askable fronts turned codec c r NoSwap s todo same f good e = subst (IsAskable s) (some-same _ todo e) tt

-- the neighbour's status was another one when it was read first
other-status : (c : Config) (k : ℕ) (beside : List ℕ) (v : ℕ) (s : Scene) → s.past.config ≡ c → IsReadingBeside k beside NODE_WORDS s.past → v ≢ slice_index beside STATUS_AT → Differed s (node_address c k + STATUS_AT) v
other-status c k beside v s same f ne = record {
  moment = f.at;
  since = f.since;
  now = f.now;
  other = λ e. ne (sym e ∙ (sym (node-at c (s.past.at f.at).value k STATUS_AT (omega arith)) ∙ subst (λ (z : Config). words z (s.past.at f.at) k STATUS_AT ≡ slice_index beside STATUS_AT) same f.was));
}

-- a load that differs finds what has been changed since it was read
pub cause : (c : Config) (r : Merging) (phase : MergePhase) (s : Scene) (seen : Seen) → s.past.config ≡ c → merge_facts r phase Waiting s → merge_differs r phase seen → IsCause (merge_asks c r phase) seen s
cause c r Again s (Was v) same f d = inl (guard-differed s r.lower v f.1.viewed.links.guard d)
cause c r Again s Start same f d = absurd (d)
cause c r Again s Stored same f d = absurd (d)
cause c r Again s Flushed same f d = absurd (d)
cause c r Again s (Swapped won) same f d = absurd (d)
cause c r Again s NoneLeft same f d = absurd (d)
cause c r Parent s (Was v) same f d = inl (guard-differed s r.lower v f.1.0.viewed.links.guard d)
cause c r Parent s Start same f d = absurd (d)
cause c r Parent s Stored same f d = absurd (d)
cause c r Parent s Flushed same f d = absurd (d)
cause c r Parent s (Swapped won) same f d = absurd (d)
cause c r Parent s NoneLeft same f d = absurd (d)
cause c r Still s (Was v) same f d = inl (other-status c r.beside_slot r.beside v s same f.1.reading d)
cause c r Still s Start same f d = absurd (d)
cause c r Still s Stored same f d = absurd (d)
cause c r Still s Flushed same f d = absurd (d)
cause c r Still s (Swapped won) same f d = absurd (d)
cause c r Still s NoneLeft same f d = absurd (d)
cause c r Guard s (Was v) same f d = inl (guard-differed s r.upper v f.1.planned.paired.viewed.links.upper_guard d)
cause c r Guard s Start same f d = absurd (d)
cause c r Guard s Stored same f d = absurd (d)
cause c r Guard s Flushed same f d = absurd (d)
cause c r Guard s (Swapped won) same f d = absurd (d)
cause c r Guard s NoneLeft same f d = absurd (d)
cause c r Fresh s seen same f d = absurd (d)
cause c r (Word i) s seen same f d = absurd (d)
cause c r (Beside i) s seen same f d = absurd (d)
cause c r Freeze s seen same f d = absurd (d)
cause c r FreezeBeside s seen same f d = absurd (d)
cause c r (Store j) s seen same f d = absurd (d)
cause c r (Flush j) s seen same f d = absurd (d)
cause c r Swap s seen same f d = absurd (d)
cause c r Done s seen same f d = absurd (d)
cause c r Restart s seen same f d = absurd (d)
cause c r NoNeighbour s seen same f d = absurd (d)
cause c r NoSlot s seen same f d = absurd (d)
cause c r NoSwap s seen same f d = absurd (d)
