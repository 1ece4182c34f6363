-- A descent by halving names what it may, comes nearer its end, and asks for as many reads as it may.
use Rattle.std.proofs.Common.{◌≡◌, ℕ, zero, suc, ◌+◌, ◌-◌, ◌*◌, ◌<◌, ◌≤◌, Bool, true, false, List, arith, refl, sym, ap, subst, ◌∙◌, inl, inr, if◌then◌else◌}
use Rattle.std.specs.Prelude.{Some, nat_lt, slice_get}
use Rattle.std.proofs.lemmas.Bool.{cases_lt}
use Rattle.std.proofs.lemmas.Bool.Decides.{nat_tests}
use Rattle.bz_key.specs.Packing.{packed_len}
use Rattle.bz_layout.specs.declared.config.Config.{Config}
use Rattle.bz_layout.specs.declared.sizes.TheConstants.{NODE_WORDS}
use Rattle.bz_layout.specs.declared.thresholds.TheConstants.{MAX_LEVELS, DESCEND_READS_AT_ROOT, DESCEND_READS_PER_RECORD}
use Rattle.bz_search.specs.Digits.{digits}
use Rattle.bz_search.proofs.Digits.{digits-half, digits-rise}
use Rattle.bz_search.proofs.Halving.{probe-some, probe-none}
use Rattle.bz_word.specs.Statuses.{status}
use Rattle.bz_word.specs.declared.meta.Extent.{Extent}
use Rattle.bz_task.specs.declared.path.Link.{Link}
use Rattle.bz_task.specs.declared.path.Path.{Path}
use Rattle.bz_task.specs.declared.todo.Outcome.TheVariants.{Restart}
use Rattle.bz_descend.specs.Facts.{IsAt, IsInNode}
use Rattle.bz_descend.specs.Halving.{sight_in, settled}
use Rattle.bz_descend.specs.Inners.{most_records}
use Rattle.bz_descend.specs.SeekFacts.{arrived_at, seek_end, seek_reads, IsCounted, reads_of, count_above, reads_through, path_reads, reads_at, asks_one, most_node_reads, left_from, seek_left, seek_bounds, IsSight}
use Rattle.bz_descend.specs.declared.sight.Sight.{Sight}
use Rattle.bz_descend.specs.declared.sight.Way.{Way}
use Rattle.bz_descend.specs.declared.sight.Way.TheVariants.{Fresh, Guard, Root, Header, Status, Meta, Word, First, Pointer, Found, Changed}

pub record Moves (c : Config) (path next : Path) (old new : Way) : Type 0 where
  pub bounds : seek_bounds c next.depth new
  pub nearer : seek_left next.depth new < seek_left path.depth old
  pub reads : reads_at path old + asks_one new ≤ reads_at next new

-- a level lower
one-less : (n m : ℕ) → 0 < m → n * m ≡ n * (m - 1) + n
one-less n zero h = absurd (omega (arith, h))
one-less n (suc m) h = let e : suc m - 1 ≡ m = omega arith in rw e (omega arith)

pub left-down : (depth : ℕ) → depth < MAX_LEVELS → left_from depth ≡ left_from (depth + 1) + most_node_reads
left-down depth h =
    let e : MAX_LEVELS - depth - 1 ≡ MAX_LEVELS - (depth + 1) = omega arith in
    omega (arith, one-less most_node_reads (MAX_LEVELS - depth) (omega (arith, h)), ap (λ z. most_node_reads * z) e)

-- the node at a part of whose records is looked
record IsNode (c : Config) (depth slot st many : ℕ) : Type 0 where
  at : IsAt c depth slot
  count : many ≡ (status st).count
  fits : many ≤ most_records

at-part : (c : Config) (path : Path) (old : Way) (slot st count pointer low high : ℕ) → IsNode c path.depth slot st count → pointer < NODE_WORDS → 0 < low → low ≤ high → high ≤ count
    → left_from (path.depth + 1) + 1 + DESCEND_READS_PER_RECORD * digits (high - low) < seek_left path.depth old
    → reads_at path old + 1 ≤ path_reads path + 2 + DESCEND_READS_PER_RECORD * (digits count - digits (high - low))
    → Moves c path path old (sight_in slot st count pointer low high)
at-part c path old slot st count pointer low high n place some order within near cost = elim (cases_lt low high) [
  | inl l ↦ rw (probe-some low high l) (record {
    bounds = record {
      at = n.at;
      count = n.count;
      fits = n.fits;
      probe = record { low = omega (arith, l); index = omega arith; some = l; high = omega (arith, within, n.fits) };
      index = refl;
      from = some;
      within = within;
      place = place;
    };
    nearer = near;
    reads = cost;
  })
  | inr l ↦ rw (probe-none low high l) last
]
  where
    last : Moves c path path old (settled slot st count pointer low)
    last = elim (cases_lt 1 low) [
      | inl l ↦ (let t : nat_lt 1 low ≡ true = grind (arith, nat_tests) in rw t (record { bounds = record { at = n.at; count = n.count; place = place }; nearer = omega (arith, near); reads = omega (arith, cost) }))
      | inr l ↦ (let t : nat_lt 1 low ≡ false = grind (arith, nat_tests) in rw t (record { bounds = record { at = n.at; count = n.count; place = omega arith }; nearer = omega (arith, near); reads = omega (arith, cost) }))
    ]

-- a node was arrived at
pub to-node : (c : Config) (path next : Path) (old : Way) (height k : ℕ) → k < c.nodes → 0 < next.depth → height < MAX_LEVELS → left_from next.depth ≤ seek_left path.depth old → reads_at path old ≤ path_reads next → Moves c path next old (arrived_at height next.depth k)
to-node c path next old height k slot some low near cost = elim (cases_lt height next.depth) [
  | inl l ↦ (let t : nat_lt height next.depth ≡ true = grind (arith, nat_tests) in rw t (record { bounds = tt; nearer = omega (arith, near); reads = omega (arith, cost) }))
  | inr l ↦ (
      let t : nat_lt height next.depth ≡ false = grind (arith, nat_tests) in
      let d = left-down next.depth (omega (arith, l, low)) in
      rw t (record { bounds = record { slot = slot; some = some; fits = omega (arith, l, low) }; nearer = omega (arith, near, d); reads = omega (arith, cost) }))
]

pub from-status : (c : Config) (path : Path) (k v : ℕ) (phase : Way) → IsAt c path.depth k → 0 < (status v).count → (status v).count ≤ most_records
    → ((status v).frozen ≡ true → phase ≡ Changed) → ((status v).frozen ≡ false → phase ≡ sight_in k v (status v).count 0 1 (status v).count) → Moves c path path (Status k) phase
from-status c path k v phase at some few stops goes = go (status v).frozen refl
  where
    go : (f : Bool) → (status v).frozen ≡ f → Moves c path path (Status k) phase
    go true e = subst (λ z. Moves c path path (Status k) z) (sym (stops e)) (record { bounds = tt; nearer = omega arith; reads = omega arith })
    go false e =
        subst (λ z. Moves c path path (Status k) z) (sym (goes e))
        (at-part c path (Status k) k v (status v).count 0 1 (status v).count (record { at = at; count = refl; fits = few }) (omega arith) (omega arith) (omega (arith, some)) (omega arith)
        (omega (arith, digits-rise ((status v).count - 1) most_records (omega (arith, few)))) (omega arith))

pub from-meta : (c : Config) (path : Path) (r : Sight) (e : Extent) → IsSight c path.depth r → IsInNode e → 0 < e.key → Moves c path path (Meta r) (Word r e 0)
from-meta c path r e s n l = record { bounds = (s, n, omega (arith, l)); nearer = omega arith; reads = omega arith }

pub from-word : (c : Config) (path : Path) (r : Sight) (e : Extent) (i : ℕ) (phase : Way) → IsSight c path.depth r → IsInNode e → i < packed_len e.key
    → (i + 1 < packed_len e.key → phase ≡ Word r e (i + 1))
    → (packed_len e.key ≤ i + 1 → (b : Bool) × (phase ≡ if b then sight_in r.slot r.status r.count r.pointer r.part.low r.part.index else sight_in r.slot r.status r.count (e.offset + packed_len e.key) (r.part.index + 1) r.part.high))
    → Moves c path path (Word r e i) phase
from-word c path r e i phase s n l more done = elim (cases_lt (i + 1) (packed_len e.key)) [
  | inl d ↦ subst (λ z. Moves c path path (Word r e i) z) (sym (more d)) (record { bounds = (s, n, d); nearer = omega (arith, d, n.key, some-digit); reads = omega arith })
  | inr d ↦ (let w = done d in subst (λ z. Moves c path path (Word r e i) z) (sym w.1) (go w.0))
]
  where
    node : IsNode c path.depth r.slot r.status r.count
    node = record { at = s.at; count = s.count; fits = s.fits }

    lower : digits (r.part.index - r.part.low) + 1 ≤ digits (r.part.high - r.part.low)
    lower = digits-half (r.part.index - r.part.low) (r.part.high - r.part.low) (omega (arith, s.probe.some)) (omega (arith, s.index))

    upper : digits (r.part.high - (r.part.index + 1)) + 1 ≤ digits (r.part.high - r.part.low)
    upper = digits-half (r.part.high - (r.part.index + 1)) (r.part.high - r.part.low) (omega (arith, s.probe.some)) (omega (arith, s.index))

    some-digit : 0 < digits (r.part.high - r.part.low)
    some-digit = omega (arith, lower)

    all : digits (r.part.high - r.part.low) ≤ digits r.count
    all = digits-rise (r.part.high - r.part.low) r.count (omega (arith, s.within))

    go : (b : Bool) → Moves c path path (Word r e i) (if b then sight_in r.slot r.status r.count r.pointer r.part.low r.part.index else sight_in r.slot r.status r.count (e.offset + packed_len e.key) (r.part.index + 1) r.part.high)
    go true = at-part c path (Word r e i) r.slot r.status r.count r.pointer r.part.low r.part.index node s.place s.from s.probe.low (omega (arith, s.index, s.probe.some, s.within)) (omega (arith, lower, l, n.key)) (omega (arith, lower, all, l, n.key))
    go false = at-part c path (Word r e i) r.slot r.status r.count (e.offset + packed_len e.key) (r.part.index + 1) r.part.high node n.ends (omega arith) (omega (arith, s.index, s.probe.some)) s.within (omega (arith, upper, l, n.key)) (omega (arith, upper, all, l, n.key))

-- the reads of a path with a link more
reads-same : (a b : List Link) (n : ℕ) → ((i : ℕ) → i ≤ n → slice_get a i ≡ slice_get b i) → reads_through a n ≡ reads_through b n
unfolding reads_through
reads-same a b zero h = refl
reads-same a b (suc n) h = let e = reads-same a b n (λ i l. h i (omega (arith, l))) in let f = ap (λ z. reads_of (count_above z)) (h (n + 1) (omega arith)) in omega (arith, e, f)

reads-more : (a : List Link) (n : ℕ) → reads_through a (suc n) ≡ reads_through a n + reads_of (count_above (slice_get a (n + 1)))
unfolding reads_through
reads-more a n = refl

reads-none : (a : List Link) → reads_through a 0 ≡ 0
unfolding reads_through
reads-none a = refl

pub root-reads : (path : Path) → path.depth ≡ 1 → path_reads path ≡ DESCEND_READS_AT_ROOT
root-reads path e =
    let z : path.depth - 1 ≡ 0 = omega (arith, e) in
    omega (arith, ap (reads_through path.links) z, reads-none path.links)

pub child-reads : (path next : Path) (link : Link) → 0 < path.depth → next.depth ≡ path.depth + 1 → slice_get next.links path.depth ≡ Some link → ((i : ℕ) → i < path.depth → slice_get next.links i ≡ slice_get path.links i)
    → path_reads next ≡ path_reads path + reads_of (status link.status).count
child-reads path next link some deep at others =
    let z : next.depth - 1 ≡ suc (path.depth - 1) = omega (arith, deep, some) in
    let d : path.depth - 1 + 1 ≡ path.depth = omega (arith, some) in
    let e = ap (reads_through next.links) z in
    let f = reads-more next.links (path.depth - 1) in
    let g = reads-same next.links path.links (path.depth - 1) (λ i l. others i (omega (arith, l, some))) in
    let h : reads_of (count_above (slice_get next.links (path.depth - 1 + 1))) ≡ reads_of (status link.status).count = ap (λ y. reads_of (count_above y)) (ap (slice_get next.links) d ∙ at) in
    omega (arith, e, f, g, h)

asks-few : (phase : Way) → asks_one phase ≤ 1
asks-few Fresh = omega arith
asks-few Guard = omega arith
asks-few (Root st) = omega arith
asks-few (Header k) = omega arith
asks-few (Status k) = omega arith
asks-few (Meta r) = omega arith
asks-few (Word r e i) = omega arith
asks-few (First r) = omega arith
asks-few (Pointer r) = omega arith
asks-few Found = omega arith
asks-few Changed = omega arith

-- a phase that is not the last asks for a read
asks-while : (depth : ℕ) (phase : Way) → 0 < seek_left depth phase → asks_one phase ≡ 1
asks-while depth Fresh l = refl
asks-while depth Guard l = refl
asks-while depth (Root st) l = refl
asks-while depth (Header k) l = refl
asks-while depth (Status k) l = refl
asks-while depth (Meta r) l = refl
asks-while depth (Word r e i) l = refl
asks-while depth (First r) l = refl
asks-while depth (Pointer r) l = refl
asks-while depth Found l = absurd (omega (arith, l))
asks-while depth Changed l = absurd (omega (arith, l))

-- so what is left of the most acts falls with each
pub fewer-left : (path next : Path) (old new : Way) (asked so_far : ℕ) → so_far ≡ asked → seek_left next.depth new < seek_left path.depth old → asked + seek_left path.depth old ≤ seek_reads + 1 → seek_reads + asks_one new - (so_far + asks_one new) < seek_reads + asks_one old - asked
fewer-left path next old new asked so_far same near few = omega (arith, same, near, few, asks-few new, asks-while path.depth old (omega (arith, near)))

-- the reads of the next phase are few too
pub counted-on : (c d : Config) (path next : Path) (height high : ℕ) (old new : Way) (asked so_far : ℕ) → IsCounted c path height old asked → d ≡ c → seek_bounds c next.depth new → high < MAX_LEVELS → seek_left next.depth new < seek_left path.depth old → reads_at path old + asks_one new ≤ reads_at next new → so_far ≡ asked
    → IsCounted d next high new (so_far + asks_one new)
counted-on c d path next height high old new asked so_far h same bounds low near cost e = record {
  bounds = rw same bounds;
  low = low;
  few = omega (arith, h.few, near, e, asks-few new);
  reads = omega (arith, h.reads, cost, e);
}

-- it is to begin again where a guard was frozen
pub restarts : (path : Path) (phase : Way) → seek_end path phase ≡ Some Restart → phase ≡ Changed
restarts path Fresh e = absurd (cc)
restarts path Guard e = absurd (cc)
restarts path (Root st) e = absurd (cc)
restarts path (Header k) e = absurd (cc)
restarts path (Status k) e = absurd (cc)
restarts path (Meta r) e = absurd (cc)
restarts path (Word r e i) h = absurd (cc)
restarts path (First r) e = absurd (cc)
restarts path (Pointer r) e = absurd (cc)
restarts path Found e = absurd (cc)
restarts path Changed e = refl
