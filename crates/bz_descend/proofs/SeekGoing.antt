-- What follows an answer to a descent by halving: it is begun, comes nearer its end, and names what it may.
use Rattle.std.proofs.Common.{◌≡◌, ◌≢◌, ℕ, ◌+◌, ◌-◌, ◌^◌, ◌<◌, ◌≤◌, if◌then◌else◌, Bool, true, false, List, arith, refl, sym, ap, subst, ◌∙◌, inl, inr}
use Rattle.std.proofs.lemmas.Bool.{cases_lt}
use Rattle.std.specs.Prelude.{Some, nat_lt, slice_get}
use Rattle.bz_key.specs.Packing.{packed_len}
use Rattle.bz_layout.specs.declared.config.Config.{Config}
use Rattle.bz_layout.specs.declared.thresholds.TheConstants.{MAX_LEVELS}
use Rattle.bz_search.proofs.Halving.{probe-some, probe-none}
use Rattle.bz_search.specs.Digits.{digits}
use Rattle.bz_word.specs.Headers.{header}
use Rattle.bz_word.specs.Statuses.{status}
use Rattle.bz_word.specs.declared.meta.Extent.{Extent}
use Rattle.bz_task.specs.Requests.{Hears, Tells}
use Rattle.bz_task.specs.Scene.{Scene, Stage, Waiting, Took, HasFilled}
use Rattle.bz_task.specs.declared.path.Link.{Link}
use Rattle.bz_task.specs.declared.path.Path.{Path}
use Rattle.bz_task.specs.declared.todo.Seen.{Seen}
use Rattle.bz_task.specs.declared.todo.Seen.TheVariants.{Start, Read as Was}
use Rattle.bz_task.specs.declared.todo.Todo.TheVariants.{Read}
use Rattle.bz_descend.specs.Facts.{IsInNode}
use Rattle.bz_descend.specs.Halving.{sight_in}
use Rattle.bz_descend.specs.SeekFacts.{seek_asks, seek_left, seek_facts, seek_bounds, seek_heard, seek_differs, reads_at, asks_one, arrived_at, left_from}
use Rattle.bz_descend.specs.declared.sight.Probe.{Probe}
use Rattle.bz_descend.specs.declared.sight.Sight.{Sight}
use Rattle.bz_descend.specs.declared.sight.Way.{Way}
use Rattle.bz_descend.specs.declared.sight.Way.TheVariants.{Fresh, Guard, Root, Header, Status, Meta, Word, First, Pointer, Found, Changed}
use Rattle.bz_descend.proofs.Leading.{link_to}
use Rattle.bz_descend.proofs.Moving.{Moves, to-node, from-status, from-meta, from-word, root-reads, child-reads}

pub record Turns (c : Config) (path next : Path) (old new : Way) (seen : Seen) : Type 0 where
  pub begun : new ≢ Fresh
  pub begins : seen ≡ Start → new ≡ Guard
  pub nearer : seek_left next.depth new < seek_left path.depth old
  pub reads : reads_at path old + asks_one new ≤ reads_at next new
  pub bounds : seek_bounds c next.depth new
  pub restart : new ≡ Changed → seek_differs old seen

-- no phase that asks for a read leads to the first
begun-on : (c : Config) (path next : Path) (old new : Way) → Moves c path next old new → new ≢ Fresh
begun-on c path next old new m e = let f = subst (λ z. reads_at path old + asks_one z ≤ reads_at next z) e m.reads in absurd (omega (arith, f))

turned : (c : Config) (path next : Path) (old new : Way) (v : ℕ) → Moves c path next old new → (new ≡ Changed → seek_differs old (Was v)) → Turns c path next old new (Was v)
turned c path next old new v m ends = record { begun = begun-on c path next old new m; begins = λ e. absurd (cc); nearer = m.nearer; reads = m.reads; bounds = m.bounds; restart = ends }

arrived-on : (b : Bool) (k : ℕ) → (if b then Found else Status k) ≢ Changed
arrived-on true k e = absurd (cc)
arrived-on false k e = absurd (cc)

settled-on : (b : Bool) (r q : Probe) → (if b then Pointer r else First q) ≢ Changed
settled-on true r q e = absurd (cc)
settled-on false r q e = absurd (cc)

sight-on : (slot st count pointer low high : ℕ) → sight_in slot st count pointer low high ≢ Changed
sight-on slot st count pointer low high = elim (cases_lt low high) [
  | inl l ↦ rw (probe-some low high l) (λ e. absurd (cc))
  | inr l ↦ rw (probe-none low high l) (settled-on (nat_lt 1 low) (record { slot = slot; status = st; count = count; index = low; pointer = pointer }) (record { slot = slot; status = st; count = count; index = 0; pointer = 0 }))
]

-- what the phase and the answer are
pub bounds-at : (c : Config) (depth : ℕ) (phase other : Way) → phase ≡ other → seek_bounds c depth phase → seek_bounds c depth other
bounds-at c depth phase other e b = subst (λ z. seek_bounds c depth z) e b

pub seek-heard-at : (c : Config) (depth : ℕ) (phase other : Way) (seen told : Seen) → phase ≡ other → seen ≡ told → seek_heard c depth phase seen → seek_heard c depth other told
seek-heard-at c depth phase other seen told e g h = subst (λ z. seek_heard c depth z told) e (subst (λ z. seek_heard c depth phase z) g h)

module _ (c : Config) (path : Path) where
  pub turns-in : (next : Path) (old other new : Way) (seen told : Seen) → old ≡ other → seen ≡ told → Turns c path next other new told → Turns c path next old new seen
  turns-in next old other new seen told e g h = subst (λ z. Turns c path next z new seen) (sym e) (subst (λ z. Turns c path next other new z) (sym g) h)

  pub guard-turns : (v : ℕ) → Turns c path path Guard (Root v) (Was v)
  guard-turns v = turned c path path Guard (Root v) v (record { bounds = tt; nearer = omega arith; reads = omega arith }) (λ e. absurd (cc))

  pub root-turns : (next : Path) (st v : ℕ) → next.depth ≡ 1 → seek_heard c path.depth (Root st) (Was v) → Turns c path next (Root st) (Header (v - 1)) (Was v)
  root-turns next st v deep h =
      turned c path next (Root st) (Header (v - 1)) v
      (record { bounds = (omega (arith, h.0, h.1), deep); nearer = omega (arith, ap left_from deep); reads = omega (arith, root-reads next deep) }) (λ e. absurd (cc))

  pub header-low : (k v high : ℕ) → seek_bounds c path.depth (Header k) → seek_heard c path.depth (Header k) (Was v) → (v < 2 ^ 32 → high ≡ (header v).level) → high < MAX_LEVELS
  header-low k v high b h level = omega (arith, b.1, h.1, level h.0)

  pub header-turns : (k v high : ℕ) → seek_bounds c path.depth (Header k) → high < MAX_LEVELS → Turns c path path (Header k) (arrived_at high path.depth k) (Was v)
  header-turns k v high b low =
      turned c path path (Header k) (arrived_at high path.depth k) v
      (to-node c path path (Header k) high k b.0 (omega (arith, b.1)) low (omega arith) (omega arith)) (λ e. absurd (arrived-on (nat_lt high path.depth) k e))

  pub status-turns : (k v : ℕ) (phase : Way) → seek_bounds c path.depth (Status k) → seek_heard c path.depth (Status k) (Was v)
      → ((status v).frozen ≡ true → phase ≡ Changed) → ((status v).frozen ≡ false → phase ≡ sight_in k v (status v).count 0 1 (status v).count) → Turns c path path (Status k) phase (Was v)
  status-turns k v phase b h stops goes =
      turned c path path (Status k) phase v (from-status c path k v phase b h.1 h.2 stops goes) (λ e. go (status v).frozen refl e)
    where
      go : (f : Bool) → (status v).frozen ≡ f → phase ≡ Changed → (status v).frozen ≡ true
      go true e q = e
      go false e q = absurd (sight-on k v (status v).count 0 1 (status v).count (sym (goes e) ∙ q))

  pub meta-turns : (r : Sight) (e : Extent) (v : ℕ) → seek_bounds c path.depth (Meta r) → IsInNode e → 0 < e.key → Turns c path path (Meta r) (Word r e 0) (Was v)
  meta-turns r e v b n l = turned c path path (Meta r) (Word r e 0) v (from-meta c path r e b n l) (λ e. absurd (cc))

  pub word-turns : (r : Sight) (e : Extent) (i v : ℕ) (phase : Way) → seek_bounds c path.depth (Word r e i)
      → (i + 1 < packed_len e.key → phase ≡ Word r e (i + 1))
      → (packed_len e.key ≤ i + 1 → (b : Bool) × (phase ≡ if b then sight_in r.slot r.status r.count r.pointer r.part.low r.part.index else sight_in r.slot r.status r.count (e.offset + packed_len e.key) (r.part.index + 1) r.part.high))
      → Turns c path path (Word r e i) phase (Was v)
  word-turns r e i v phase b more done =
      let m = from-word c path r e i phase b.0 b.1 b.2 more done in
      turned c path path (Word r e i) phase v m (λ q. let f = subst (λ z. reads_at path (Word r e i) + asks_one z ≤ reads_at path z) q m.reads in absurd (omega (arith, f)))

  pub first-turns : (r : Probe) (e : Extent) (v pointer : ℕ) → seek_bounds c path.depth (First r) → IsInNode e → pointer ≡ e.offset + packed_len e.key → Turns c path path (First r) (Pointer (record r { pointer = pointer })) (Was v)
  first-turns r e v pointer b n p =
      turned c path path (First r) (Pointer (record r { pointer = pointer })) v
      (record { bounds = record { at = b.at; count = b.count; place = omega (arith, p, n.ends) }; nearer = omega arith; reads = omega arith }) (λ e. absurd (cc))

  pub pointer-turns : (next : Path) (link : Link) (r : Probe) (v height : ℕ) → seek_bounds c path.depth (Pointer r) → seek_heard c path.depth (Pointer r) (Was v) → height < MAX_LEVELS → link ≡ link_to c r (v - 1)
      → next.depth ≡ path.depth + 1 → slice_get next.links path.depth ≡ Some link → ((i : ℕ) → i < path.depth → slice_get next.links i ≡ slice_get path.links i) → Turns c path next (Pointer r) (arrived_at height next.depth (v - 1)) (Was v)
  pointer-turns next link r v height b h low is deep at others =
      let m = child-reads path next link b.at.some deep at others in
      let d : digits (status link.status).count ≡ digits r.count = ap (λ (z : Link). digits (status z.status).count) is ∙ ap digits (sym b.count) in
      turned c path next (Pointer r) (arrived_at height next.depth (v - 1)) v
      (to-node c path next (Pointer r) height (v - 1) (omega (arith, h.0, h.1)) (omega (arith, deep)) low (omega (arith, ap left_from deep)) (omega (arith, m, d))) (λ e. absurd (arrived-on (nat_lt height next.depth) (v - 1) e))

-- a phase that is none of those that read has asked for nothing yet
pub record IsFirst (phase : Way) (seen : Seen) : Type 0 where
  pub fresh : phase ≡ Fresh
  pub start : seen ≡ Start

first-start : (c : Config) (seen : Seen) → Hears (seek_asks c Fresh) seen → seen ≡ Start
first-start c Start h = refl
first-start c seen h = absurd (h)

module _ (c : Config) (seen : Seen) where
  pub is-first : (phase : Way) → Hears (seek_asks c phase) seen → phase ≢ Guard → ((k : ℕ) → phase ≢ Root k) → ((k : ℕ) → phase ≢ Header k) → ((k : ℕ) → phase ≢ Status k)
      → ((r : Sight) → phase ≢ Meta r) → ((r : Sight) (e : Extent) (i : ℕ) → phase ≢ Word r e i) → ((r : Probe) → phase ≢ First r) → ((r : Probe) → phase ≢ Pointer r) → IsFirst phase seen
  is-first Fresh h n0 n1 n2 n3 n4 n5 n6 n7 = record { fresh = refl; start = first-start c seen h }
  is-first Guard h n0 n1 n2 n3 n4 n5 n6 n7 = absurd (n0 refl)
  is-first (Root k) h n0 n1 n2 n3 n4 n5 n6 n7 = absurd (n1 k refl)
  is-first (Header k) h n0 n1 n2 n3 n4 n5 n6 n7 = absurd (n2 k refl)
  is-first (Status k) h n0 n1 n2 n3 n4 n5 n6 n7 = absurd (n3 k refl)
  is-first (Meta r) h n0 n1 n2 n3 n4 n5 n6 n7 = absurd (n4 r refl)
  is-first (Word r e i) h n0 n1 n2 n3 n4 n5 n6 n7 = absurd (n5 r e i refl)
  is-first (First r) h n0 n1 n2 n3 n4 n5 n6 n7 = absurd (n6 r refl)
  is-first (Pointer r) h n0 n1 n2 n3 n4 n5 n6 n7 = absurd (n7 r refl)
  is-first Found h n0 n1 n2 n3 n4 n5 n6 n7 = absurd (h)
  is-first Changed h n0 n1 n2 n3 n4 n5 n6 n7 = absurd (h)

pub fresh-turns : (c : Config) (path : Path) → Turns c path path Fresh Guard Start
fresh-turns c path = record { begun = λ e. absurd (cc); begins = λ e. refl; nearer = omega arith; reads = omega arith; bounds = tt; restart = λ e. absurd (cc) }

pub fresh-seen : (key : List ℕ) (path : Path) (height : ℕ) (ws : List ℕ) (c : Config) (stage : Stage) (s : Scene) → seek_facts key path height ws Fresh stage s → Tells (seek_asks c Fresh) stage Start s → HasFilled s × Unit {0}
fresh-seen key path height ws c Took s f t = absurd (f)
fresh-seen key path height ws c Waiting s f t = (t, tt)

-- what asks for a read hears of one
not-read : (a : ℕ) (seen : Seen) → Hears (Some (Read a)) seen → ((v : ℕ) → seen ≢ Was v) → ⊥
not-read a (Was v) h n = n v refl
not-read a seen h n = absurd (h)

pub unread : (c : Config) (phase other : Way) (a : ℕ) (seen : Seen) → phase ≡ other → seek_asks c other ≡ Some (Read a) → Hears (seek_asks c phase) seen → ((v : ℕ) → seen ≢ Was v) → ⊥
unread c phase other a seen e asks h n = not-read a seen (subst (λ z. Hears z seen) asks (subst (λ z. Hears (seek_asks c z) seen) e h)) n
