-- An inner node that is read word by word, but for its free words, and its words where its status is found again.
use Rattle.std.proofs.Common.{◌≡◌, ◌≢◌, ℕ, ◌+◌, ◌<◌, ◌≤◌, true, List, length, slice_index, slice_set, arith, sym, subst, ◌∙◌, inl, inr, Option}
use Rattle.std.specs.Prelude.{None, map}
use Rattle.std.specs.List.{range_with_len}
use Rattle.std.proofs.lemmas.Bool.{cases_lt, cases_eq}
use Rattle.std.proofs.lemmas.List.{get_or_past, length-set, get_or-set_same, get_or-set_other}
use Rattle.std.proofs.lemmas.List.FromFn.{length-map-range_with_len, get_or-map-range_with_len}
use Rattle.bz_gaps.specs.FreeWords.{IsFree}
use Rattle.bz_gaps.proofs.FreeWords.{free-zero, free-alike, header-used}
use Rattle.bz_layout.specs.Addresses.{node_address}
use Rattle.bz_layout.specs.declared.config.Config.{Config}
use Rattle.bz_layout.specs.declared.sizes.TheConstants.{NODE_WORDS, STATUS_AT, HEADER_AT}
use Rattle.bz_slotted.specs.Laws.{InnerRulesAreFacts}
use Rattle.bz_slotted.specs.Page.{page}
use Rattle.bz_slotted.specs.ReadingLaws.{node_of}
use Rattle.bz_slotted.specs.Rules.{node_fault}
use Rattle.bz_slotted.specs.Whole.{WholeInner}
use Rattle.bz_content.specs.Image.{node}
use Rattle.bz_task.specs.Good.{IsGood}
use Rattle.bz_task.specs.Instant.{Instant, words, durable, page_at}
use Rattle.bz_task.specs.Laws.{AreMoments, NodesStay}
use Rattle.bz_task.specs.Requests.{Answers}
use Rattle.bz_task.specs.Scene.{Past, Scene, IsScene, here}
use Rattle.bz_task.specs.Shown.{SameShownNode}
use Rattle.bz_renew.proofs.Words.{node-at, node-past}
use Rattle.bz_below.specs.Parents.{WasWord, WasReadOrFree, WereRead}

-- a word that was read is kept; those between it and the next place that is read are free
module _ (k m st i j v : ℕ) (read : List ℕ) (s : Scene) (order : m ≤ s.past.now) (some : 0 < i) (l : i < NODE_WORDS) (after : i < j) (f : WereRead k m st i read s.past)
    (skipped : (q : ℕ) → i < q → q < j → IsFree (node_of (slice_set read i v)) q) where
  other : (q : ℕ) → q ≢ i → slice_index (slice_set read i v) q ≡ slice_index read q
  other q ne = get_or-set_other read i q v 0 (λ e. absurd (omega (arith, e, ne)))

  earlier : (q : ℕ) → 0 < q → q < i → WasReadOrFree k q m read s.past → WasReadOrFree k q m (slice_set read i v) s.past
  earlier q pos n (inl w) = inl (subst (λ z. WasWord k q z m s.past) (sym (other q (λ e. omega (arith, e, n)))) w)
  earlier q pos n (inr h) =
      inr (free-alike (node_of read) (node_of (slice_set read i v)) q (other STATUS_AT (λ e. omega (arith, e, some))) (other HEADER_AT (λ e. omega (arith, e, pos, n))) h.0, other q (λ e. omega (arith, e, n)) ∙ h.1)

  pub kept : Answers s (node_address s.past.config k + i) v → WereRead k m st j (slice_set read i v) s.past
  kept a = record {
    size = length-set read i v ∙ f.size;
    first = other STATUS_AT (λ e. omega (arith, e, some)) ∙ f.first;
    rest = rest;
    blank = λ q n. other q (λ e. omega (arith, e, n, after)) ∙ f.blank q (omega (arith, n, after));
  }
    where
      long : i < length read
      long = omega (arith, l, f.size)

      read-now : (q : ℕ) → q ≡ i → WasWord k q (slice_index (slice_set read i v) q) m s.past
      read-now q e =
          let same : v ≡ slice_index (slice_set read i v) q = sym (subst (λ z. slice_index (slice_set read i v) z ≡ v) (sym e) (get_or-set_same read i v 0 long)) in
          subst (λ z. WasWord k q z m s.past) same (record {
            moment = s.past.now;
            order = order;
            now = omega arith;
            word = subst (λ z. words s.past.config (here s) k z ≡ v) (sym e) (node-at s.past.config (here s).value k i l ∙ a.value);
          })

      rest : (q : ℕ) → 0 < q → q < j → WasReadOrFree k q m (slice_set read i v) s.past
      rest q pos n = elim (cases_eq q i) [
        | inl e ↦ inl (read-now q e)
        | inr ne ↦ elim (cases_lt q i) [
          | inl below ↦ earlier q pos below (f.rest q pos below)
          | inr above ↦ inr (skipped q (omega (arith, ne, above)) n, other q ne ∙ f.blank q above)
        ]
      ]

-- the words of a node as a list
abbrev pub listed : (ℕ → ℕ) → List ℕ
listed n = map n (range_with_len 0 NODE_WORDS)

listed-at : (n : ℕ → ℕ) (i : ℕ) → i < NODE_WORDS → slice_index (listed n) i ≡ n i
listed-at n i l = get_or-map-range_with_len n 0 NODE_WORDS i i 0 l (omega arith)

-- of the words that a node had at one moment it is as if each was read then
pub all-read : (k m st : ℕ) (p : Past) → m ≤ p.now → words p.config (p.at m) k STATUS_AT ≡ st → WereRead k m st NODE_WORDS (listed (words p.config (p.at m) k)) p
all-read k m st p now is =
    let size : length (listed (words p.config (p.at m) k)) ≡ NODE_WORDS = length-map-range_with_len (words p.config (p.at m) k) 0 NODE_WORDS in
    record {
      size = size;
      first = listed-at (words p.config (p.at m) k) STATUS_AT (omega arith) ∙ is;
      rest = λ i some l. inl (record { moment = m; order = omega arith; now = now; word = sym (listed-at (words p.config (p.at m) k) i l) });
      blank = λ i l. get_or_past (listed (words p.config (p.at m) k)) i 0 (omega (arith, l, size));
    }

-- where the status is found again, all words are those of its moment, and the free ones are 0
module _ (nodes : NodesStay) (rules : InnerRulesAreFacts) (s : Scene) (k m st l : ℕ) (low high : Option (List ℕ)) (read : List ℕ) (good : IsScene s) (since : s.past.since ≤ m) (until : m ≤ s.past.now) (reached : (s.past.at m).reached k ≡ true)
    (inner : 0 < (page_at s.past.config (s.past.at m) k).level) (was : words s.past.config (s.past.at m) k STATUS_AT ≡ st) (now : words s.past.config (here s) k STATUS_AT ≡ st) (tall : 0 < l)
    (whole : node_fault s.past.config.nodes (node s.past.config (s.past.at m).image k) (durable s.past.config (s.past.at m) k) l low high ≡ None) (were : WereRead k m st NODE_WORDS read s.past) where
  abbrev c : Config
  c = s.past.config

  abbrev x : Instant
  x = s.past.at m

  moments : AreMoments s.past.since s.past.now m s.past.now
  moments = record { since = since; order = until; until = omega arith }

  then-good : IsGood c x
  then-good = good.history.good m since until

  facts : WholeInner c.nodes (node c x.image k) (page (durable c x k)) l low high
  facts = (rules c.nodes (node c x.image k) (durable c x k) l low high tall).0 whole

  shown : (j : ℕ) → durable c x k j ≡ words c x k j
  shown j = then-good.shown k j reached (inr (inr (inl inner)))

  read-was : (j : ℕ) → WasWord k j (slice_index read j) m s.past → words c x k j ≡ slice_index read j
  read-was j r =
      let same : SameShownNode c x (s.past.at r.moment) k = nodes c s.past.at s.past.since s.past.now m r.moment s.past.now k good.history moments r.order r.now reached (now ∙ sym was) in
      sym (same j (inr (inr (inl inner)))) ∙ r.word

  header-was : WasReadOrFree k HEADER_AT m read s.past → words c x k HEADER_AT ≡ slice_index read HEADER_AT
  header-was (inl r) = read-was HEADER_AT r
  header-was (inr f) = absurd (header-used (node_of read) f.0)

  rest-was : (j : ℕ) → WasReadOrFree k j m read s.past → words c x k j ≡ slice_index read j
  rest-was j (inl r) = read-was j r
  rest-was j (inr f) =
      let status : durable c x k STATUS_AT ≡ slice_index read STATUS_AT = shown STATUS_AT ∙ (was ∙ sym were.first) in
      let header : durable c x k HEADER_AT ≡ slice_index read HEADER_AT = shown HEADER_AT ∙ header-was (were.rest HEADER_AT (omega arith) (omega arith)) in
      let zero : durable c x k j ≡ 0 = free-zero (durable c x k) low high j facts.filled facts.fences (free-alike (node_of read) (durable c x k) j status header f.0) in
      sym (shown j) ∙ (zero ∙ sym f.1)

  word-was : (j : ℕ) → j < NODE_WORDS → words c x k j ≡ slice_index read j
  word-was j n = elim (cases_eq j 0) [
    | inl e ↦ subst (λ z. words c x k z ≡ slice_index read z) (sym e) (was ∙ sym were.first)
    | inr ne ↦ rest-was j (were.rest j (omega (arith, ne)) n)
  ]

  pub words-then : words c x k ≡ node_of read
  words-then = λ t j. each j t
    where
      each : (j : ℕ) → words c x k j ≡ node_of read j
      each j = elim (cases_lt j NODE_WORDS) [
        | inl n ↦ word-was j n
        | inr n ↦ node-past c x.value k j n ∙ sym (get_or_past read j 0 (omega (arith, n, were.size)))
      ]
