-- A look-up names what it may, ends, and asks for as many reads as it may.
use Rattle.std.proofs.Common.{◌≡◌, ◌≢◌, ℕ, ◌+◌, ◌-◌, ◌^◌, ◌<◌, ◌≤◌, Bool, true, false, List, arith, refl, sym, ◌∙◌}
use Rattle.std.specs.Prelude.{None, ◌==◌, nat_lt, min, if◌then◌else◌}
use Rattle.bz_layout.specs.Addresses.{node_address}
use Rattle.bz_layout.specs.declared.sizes.TheConstants.{SHARED_WORDS, STATUS_AT, HEADER_AT}
use Rattle.bz_word.specs.Headers.{header}
use Rattle.bz_word.specs.Statuses.{status}
use Rattle.bz_leaf.specs.Facts.{validating_reads}
use Rattle.bz_task.specs.declared.todo.Seen.{Seen}
use Rattle.bz_task.specs.declared.todo.Seen.TheVariants.{Start, Read as Was, Stored, Flushed, Swapped, NoSwap}
use Rattle.bz_task.specs.Requests.{Hears}
use Rattle.bz_find.specs.Bounds.{IsSized, IsStep}
use Rattle.bz_find.specs.Costs.{spent_at, wants, more_at, Advances}
use Rattle.bz_find.specs.Facts.{find_acts, front_reads, left_at, reads_at, find_bounds, IsBounded}
use Rattle.bz_find.specs.Phases.{find_asks, phase_after, search_of, told, reads_of, counted, IsPlain}
use Rattle.bz_find.specs.Steps.{place_of, begun, heard}
use Rattle.bz_find.specs.Words.{records_in, sorted_in}
use Rattle.bz_find.specs.declared.find.Find.{Find}
use Rattle.bz_find.specs.declared.phase.FindPhase.{FindPhase}
use Rattle.bz_find.specs.declared.phase.FindPhase.TheVariants.{Fresh, Status, Header, Searching, Again, Link as Of_link, Guard, Viewed, Changed}
use Rattle.bz_find.specs.declared.search.Search.{Search}
use Rattle.bz_find.specs.declared.search.Step.{Step}
use Rattle.bz_find.specs.declared.search.Step.TheVariants.{Meta, Word, Payload, Done}
use Rattle.bz_find.proofs.Advancing.{to-below, advances}
use Rattle.bz_find.proofs.Slots.{read-only, no-answer}

few-records : (st : ℕ) → records_in st ≤ SHARED_WORDS
few-records st = omega arith

few-sorted : (h count : ℕ) → sorted_in h count ≤ count
few-sorted h count = go (nat_lt h (2 ^ 32))
  where
    go : (b : Bool) → (if b then min (header h).sorted count else 0) ≤ count
    go true = omega arith
    go false = omega arith

begun-sized : (key : List ℕ) (st h : ℕ) → IsSized (begun key (records_in st) (sorted_in h (records_in st)))
begun-sized key st h = record { count = few-records st; sorted = few-sorted h (records_in st); words = refl }

wants-few : (step : Step) → wants step ≤ 1
wants-few (Meta at) = omega arith
wants-few (Word at w i) = omega arith
wants-few (Payload j w i) = omega arith
wants-few Done = omega arith

-- a look-up whose search is at a step
record Follows (t : Find) (step : Step) (asked : ℕ) : Type 0 where
  plain : t.status < 2 ^ 61
  at : t.search.step ≡ step
  is : IsStep t.search
  few : asked + (more_at step + validating_reads + wants step) ≤ find_acts
  reads : asked + wants step ≤ front_reads + spent_at t.search step + 1

abbrev Comes : Find → FindPhase → ℕ → ℕ → Type 0
Comes t phase asked left = IsBounded (record t { phase = phase; asked = asked }) × (left_at t.search phase ≤ left)

searches-on : (t : Find) (step : Step) (asked : ℕ) → Follows t step asked → step ≢ Done → wants step ≡ 1 → Comes t Searching asked (more_at step + validating_reads + wants step)
searches-on t step asked f d w = (
  record {
    bounds = (f.plain, f.is, λ e. d (sym f.at ∙ e));
    few = rw f.at (omega (arith, f.few, w));
    reads = rw f.at (omega (arith, f.reads, w));
  },
  rw f.at (omega (arith, w)),
)

after-step : (t : Find) (step : Step) (asked : ℕ) → Follows t step asked → Comes t (phase_after step t.status) asked (more_at step + validating_reads + wants step)
after-step t (Meta at) asked f = searches-on t (Meta at) asked f (λ e. cc) refl
after-step t (Word at w i) asked f = searches-on t (Word at w i) asked f (λ e. cc) refl
after-step t (Payload j w i) asked f = searches-on t (Payload j w i) asked f (λ e. cc) refl
after-step t Done asked f = go (status t.status).frozen
  where
    go : (b : Bool) → Comes t (if b then Of_link else Again) asked (more_at Done + validating_reads + wants Done)
    go true = (record { bounds = tt; few = omega (arith, f.few); reads = omega (arith, f.reads) }, omega arith)
    go false = (record { bounds = f.plain; few = omega (arith, f.few); reads = omega (arith, f.reads) }, omega arith)

-- the look-up after an answer: in bounds, and nearer its end
abbrev pub Steps : Find → FindPhase → Find → Type 0
Steps t phase u = IsBounded (counted u) × (left_at u.search u.phase < left_at t.search phase)

reads-of-after : (step : Step) (st : ℕ) → reads_of (phase_after step st) ≡ 1
reads-of-after (Meta at) st = refl
reads-of-after (Word at w i) st = refl
reads-of-after (Payload j w i) st = refl
reads-of-after Done st = go (status st).frozen
  where
    go : (b : Bool) → reads_of (if b then Of_link else Again) ≡ 1
    go true = refl
    go false = refl

module _ (t : Find) (now : ℕ) where
  abbrev Few : FindPhase → Type 0
  Few phase = t.asked + left_at t.search phase ≤ find_acts

  abbrev Reads : FindPhase → Type 0
  Reads phase = t.asked ≤ reads_at t.search phase

  from-fresh : (seen : Seen) → find_bounds t Fresh → Few Fresh → Reads Fresh → Hears None seen → Steps t Fresh (told t Fresh seen now)
  from-fresh Start b f r h = (record { bounds = tt; few = omega (arith, f); reads = omega (arith, r) }, omega arith)
  from-fresh (Was v) b f r h = absurd (h)
  from-fresh Stored b f r h = absurd (h)
  from-fresh Flushed b f r h = absurd (h)
  from-fresh (Swapped won) b f r h = absurd (h)
  from-fresh NoSwap b f r h = absurd (h)

  from-status : (v : ℕ) → v < 2 ^ 61 → find_bounds t Status → Few Status → Reads Status → Steps t Status (told t Status (Was v) now)
  from-status v p b f r = (record { bounds = p; few = omega (arith, f, r); reads = omega (arith, r) }, omega arith)

  from-header : (v : ℕ) → find_bounds t Header → Few Header → Reads Header → Steps t Header (told t Header (Was v) now)
  from-header v b f r =
      let u : Search = search_of t v in
      let s : IsSized u = begun-sized t.key t.status v in
      let l = to-below u u.count s s.sorted (omega arith) refl in
      let c = after-step (record t { search = u }) u.step (t.asked + 1) (record {
        plain = b;
        at = refl;
        is = record { sized = s; of = l.of };
        few = omega (arith, f, r, l.more, s.count, wants-few u.step);
        reads = omega (arith, r, l.spent);
      }) in
      (rw (reads-of-after u.step t.status) c.0, omega (arith, c.1, l.more, s.count, wants-few u.step))

  from-search : (v : ℕ) → find_bounds t Searching → Few Searching → Reads Searching → Steps t Searching (told t Searching (Was v) now)
  from-search v b f r =
      let g : Advances t.search (heard t.search v) = advances t.search v b.1 b.2 in
      let u : Search = heard t.search v in
      let c = after-step (record t { search = u }) u.step (t.asked + 1) (record {
        plain = b.0;
        at = refl;
        is = g.step;
        few = omega (arith, f, g.more, wants-few u.step);
        reads = omega (arith, r, g.spent);
      }) in
      (rw (reads-of-after u.step t.status) c.0, omega (arith, c.1, g.more, wants-few u.step))

  from-again : (v : ℕ) → find_bounds t Again → Few Again → Reads Again → Steps t Again (told t Again (Was v) now)
  from-again v b f r = go (v == t.status)
    where
      go : (e : Bool) → Steps t Again (record t { phase = if e then Viewed now else Changed })
      go true = (record { bounds = tt; few = omega (arith, f); reads = omega (arith, r) }, omega arith)
      go false = (record { bounds = tt; few = omega (arith, f); reads = omega (arith, r) }, omega arith)

  from-link : (v : ℕ) → Few Of_link → Reads Of_link → Steps t Of_link (told t Of_link (Was v) now)
  from-link v f r = go (v == t.link.slot + 1)
    where
      go : (e : Bool) → Steps t Of_link (record t { phase = if e then Guard now else Changed })
      go true = (record { bounds = tt; few = omega (arith, f); reads = omega (arith, r) }, omega arith)
      go false = (record { bounds = tt; few = omega (arith, f); reads = omega (arith, r) }, omega arith)

  from-guard : (at v : ℕ) → Few (Guard at) → Reads (Guard at) → Steps t (Guard at) (told t (Guard at) (Was v) now)
  from-guard at v f r = go (status v).frozen
    where
      go : (e : Bool) → Steps t (Guard at) (record t { phase = if e then Changed else Viewed at })
      go true = (record { bounds = tt; few = omega (arith, f); reads = omega (arith, r) }, omega arith)
      go false = (record { bounds = tt; few = omega (arith, f); reads = omega (arith, r) }, omega arith)

pub steps-at : (t : Find) (phase : FindPhase) (seen : Seen) (now : ℕ) → find_bounds t phase → t.asked + left_at t.search phase ≤ find_acts → t.asked ≤ reads_at t.search phase → Hears (find_asks t phase) seen → IsPlain seen → Steps t phase (told t phase seen now)
steps-at t Fresh seen now b f r h p = from-fresh t now seen b f r h
steps-at t Status seen now b f r h p = read-only (λ z. IsPlain z → Steps t Status (told t Status z now)) (node_address t.config t.link.slot + STATUS_AT) (λ v q. from-status t now v q b f r) seen h p
steps-at t Header seen now b f r h p = read-only (λ z. Steps t Header (told t Header z now)) (node_address t.config t.link.slot + HEADER_AT) (λ v. from-header t now v b f r) seen h
steps-at t Searching seen now b f r h p = read-only (λ z. Steps t Searching (told t Searching z now)) (node_address t.config t.link.slot + place_of t.search.step) (λ v. from-search t now v b f r) seen h
steps-at t Again seen now b f r h p = read-only (λ z. Steps t Again (told t Again z now)) (node_address t.config t.link.slot + STATUS_AT) (λ v. from-again t now v b f r) seen h
steps-at t Of_link seen now b f r h p = read-only (λ z. Steps t Of_link (told t Of_link z now)) t.link.link (λ v. from-link t now v f r) seen h
steps-at t (Guard at) seen now b f r h p = read-only (λ z. Steps t (Guard at) (told t (Guard at) z now)) t.link.guard (λ v. from-guard t now at v f r) seen h
steps-at t (Viewed at) seen now b f r h p = no-answer (Steps t (Viewed at) (told t (Viewed at) seen now)) seen h
steps-at t Changed seen now b f r h p = no-answer (Steps t Changed (told t Changed seen now)) seen h

pub steps : (t : Find) (seen : Seen) (now : ℕ) → IsBounded t → Hears (find_asks t t.phase) seen → IsPlain seen → Steps t t.phase (told t t.phase seen now)
steps t seen now b h p = steps-at t t.phase seen now b.bounds b.few b.reads h p

-- a phase that is not the last asks for a read
reads-while : (t : Search) (phase : FindPhase) → 0 < left_at t phase → reads_of phase ≡ 1
reads-while t Fresh l = refl
reads-while t Status l = refl
reads-while t Header l = refl
reads-while t Searching l = refl
reads-while t Again l = refl
reads-while t Of_link l = refl
reads-while t (Guard at) l = refl
reads-while t (Viewed at) l = absurd (omega (arith, l))
reads-while t Changed l = absurd (omega (arith, l))

-- so what is left of the most acts falls with each
pub fewer-left : (t u : Find) → u.asked ≡ t.asked → left_at u.search u.phase < left_at t.search t.phase → t.asked + left_at t.search t.phase ≤ find_acts → find_acts - 1 + reads_of u.phase - (u.asked + reads_of u.phase) < find_acts - 1 + reads_of t.phase - t.asked
fewer-left t u same near few = omega (arith, same, near, few, reads-while t.search t.phase (omega (arith, near)))
