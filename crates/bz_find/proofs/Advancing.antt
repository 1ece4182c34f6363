-- Each word brings a search nearer its end, and costs what it may.
use Rattle.std.proofs.Common.{◌≡◌, ◌≢◌, ℕ, ◌+◌, ◌-◌, ◌*◌, ◌/◌, ◌<◌, ◌≤◌, true, false, length, arith, refl, ◌∙◌, inl, inr}
use Rattle.std.specs.Prelude.{Some, nat_lt, slice_set}
use Rattle.std.proofs.lemmas.Bool.{cases_lt, cases_Bool}
use Rattle.std.proofs.lemmas.Bool.Decides.{nat_tests}
use Rattle.std.proofs.lemmas.List.{length-set}
use Rattle.std.specs.declared.cmp.Ordering.{Ordering}
use Rattle.std.specs.declared.cmp.Ordering.TheVariants.{Less, Equal, Greater}
use Rattle.bz_key.specs.Packing.{packed_len}
use Rattle.bz_layout.specs.declared.thresholds.TheConstants.{PAYLOAD_WORDS, FIND_READS_PER_RECORD}
use Rattle.bz_node.specs.Reading.{payload_len}
use Rattle.bz_search.specs.Digits.{digits}
use Rattle.bz_search.specs.Probes.{middle, IsProbe, probe_in, lower_of, upper_of, still, size}
use Rattle.bz_search.specs.declared.probe.Probe.{Probe}
use Rattle.bz_search.proofs.Digits.{digits-half, digits-rise, digits-some}
use Rattle.bz_search.proofs.Halving.{probe-some, probe-none}
use Rattle.bz_find.specs.Bounds.{IsLeafRecord, IsSized, IsTail, IsSorted, IsSpot, IsStepOf, IsStep}
use Rattle.bz_find.specs.Costs.{compare_reads, tail_reads, part_reads, spent_at, spent, wants, more_at, Advances}
use Rattle.bz_find.specs.Steps.{step_at, step_below, passed, matched, key_order, ordered, key_word, payload_word, heard_at, heard}
use Rattle.bz_find.specs.Words.{lies, is_record}
use Rattle.bz_find.specs.declared.search.Search.{Search}
use Rattle.bz_find.specs.declared.search.Spot.{Spot}
use Rattle.bz_find.specs.declared.search.Spot.TheVariants.{Tail, Sorted}
use Rattle.bz_find.specs.declared.search.Step.{Step}
use Rattle.bz_find.specs.declared.search.Step.TheVariants.{Meta, Word, Payload, Done}

pub record-fits : (w : ℕ) → is_record w ≡ true → IsLeafRecord w
record-fits w h = record {
  visible = grind (arith, nat_tests);
  some = grind (arith, nat_tests);
  short = grind (arith, nat_tests);
  payload = grind (arith, nat_tests);
  ends = grind (arith, nat_tests);
}

-- a search that goes to a step, where so many words were asked for and so many more may be
pub record Lands (t : Search) (step : Step) (before after : ℕ) : Type 0 where
  pub of : IsStepOf t step
  pub spent : before + wants step ≤ spent_at t step
  pub more : more_at step ≤ after

to-part : (t : Search) (low high : ℕ) → IsSized t → high ≤ t.sorted → t.dead + (high - low) ≤ t.sorted → Lands t (step_at (probe_in low high)) (part_reads t (high - low)) (FIND_READS_PER_RECORD * (high - low) + PAYLOAD_WORDS)
to-part t low high s h d = elim (cases_lt low high) [
  | inl l ↦ rw (probe-some low high l) (record {
    of = record { probe = record { low = omega (arith, l); index = omega arith; some = l; high = omega (arith, h, s.sorted, s.count) }; high = h; met = omega (arith, d, l) };
    spent = omega arith;
    more = omega (arith, l);
  })
  | inr l ↦ rw (probe-none low high l) (record {
    of = tt;
    spent = omega arith;
    more = omega arith;
  })
]

pub to-below : (t : Search) (j : ℕ) → IsSized t → t.sorted ≤ j → j ≤ t.count → t.dead ≡ 0 → Lands t (step_below t.sorted j) (tail_reads t j) (FIND_READS_PER_RECORD * j + PAYLOAD_WORDS)
to-below t j s from to none = elim (cases_lt t.sorted j) [
  | inl l ↦ (
      let b : nat_lt t.sorted j ≡ true = grind (arith, nat_tests) in
      let e : j - 1 + 1 ≡ j = omega (arith, l) in
      rw b (record {
        of = record { from = omega (arith, l); counted = omega (arith, l, to); none = none };
        spent = rw e (omega arith);
        more = rw e (omega arith);
      }))
  | inr l ↦ (
      let b : nat_lt t.sorted j ≡ false = grind (arith, nat_tests) in
      let p = to-part t 0 t.sorted s (omega arith) (omega (arith, none)) in
      let same : t.sorted ≡ j = omega (arith, l, from) in
      rw b (record {
        of = p.of;
        spent = omega (arith, p.spent, same);
        more = omega (arith, p.more, same);
      }))
]

-- the same for a search that has this step
arrives : (t u : Search) → IsSized u → (before after : ℕ) → Lands u u.step before after → spent t ≤ before → after < more_at t.step → u.key ≡ t.key → u.count ≡ t.count → u.sorted ≡ t.sorted → Advances t u
arrives t u s before after l b a k c d = record {
  step = record { sized = s; of = l.of };
  spent = omega (arith, l.spent, b);
  more = omega (arith, l.more, a);
  key = k;
  count = c;
  sorted = d;
}

sized : (t u : Search) → IsSized t → u.count ≡ t.count → u.sorted ≡ t.sorted → length u.words ≡ length t.words → IsSized u
sized t u s c d w = record { count = omega (arith, s.count, c); sorted = omega (arith, s.sorted, c, d); words = w ∙ s.words }

-- the step of a search does not matter for the record
pub spot-kept : (t : Search) (step : Step) (at : Spot) → IsSpot t at → IsSpot (record t { step = step }) at
spot-kept t step (Tail j) h = record { from = h.from; counted = h.counted; none = h.none }
spot-kept t step (Sorted r) h = record { probe = h.probe; high = h.high; met = h.met }

-- the part of a probe has no more digits than all sorted records
part-digits : (t : Search) (r : Probe) → IsSorted t r → digits (size (Some r)) ≤ digits t.sorted
part-digits t r h = digits-rise (size (Some r)) t.sorted (omega (arith, h.high))

half-digits : (r : Probe) (part : ℕ) → IsProbe r → part ≤ (r.high - r.low) / 2 → digits part + 1 ≤ digits (size (Some r))
half-digits r part i h = digits-half part (size (Some r)) (omega (arith, i.some)) h

module _ (t : Search) (s : IsSized t) where
  -- the record before one that is none of the sorted ones
  pub below-tail : (before : Step) (j : ℕ) → IsTail t j → spent_at t before ≤ tail_reads t j → FIND_READS_PER_RECORD * j + PAYLOAD_WORDS < more_at before → Advances (record t { step = before }) (record t { step = step_below t.sorted j })
  below-tail before j h b a =
      let u : Search = record t { step = step_below t.sorted j } in
      arrives (record t { step = before }) u (record { count = s.count; sorted = s.sorted; words = s.words }) (tail_reads t j) (FIND_READS_PER_RECORD * j + PAYLOAD_WORDS)
      (to-below u j (record { count = s.count; sorted = s.sorted; words = s.words }) h.from (omega (arith, h.counted)) h.none) b a refl refl refl

  -- a half of the part of a probe
  pub to-half : (before : Step) (r : Probe) (low high : ℕ) → IsSorted t r → high ≤ t.sorted → high - low ≤ (r.high - r.low) / 2 → high - low < still (Some r)
      → spent_at t before ≤ part_reads t (size (Some r)) + FIND_READS_PER_RECORD → FIND_READS_PER_RECORD * (still (Some r) - 1) + PAYLOAD_WORDS < more_at before
      → Advances (record t { step = before }) (record t { step = step_at (probe_in low high) })
  to-half before r low high h top half fewer b a =
      let u : Search = record t { step = step_at (probe_in low high) } in
      arrives (record t { step = before }) u (record { count = s.count; sorted = s.sorted; words = s.words }) (part_reads t (high - low)) (FIND_READS_PER_RECORD * (high - low) + PAYLOAD_WORDS)
      (to-part u low high (record { count = s.count; sorted = s.sorted; words = s.words }) top (omega (arith, h.met, fewer)))
      (omega (arith, b, half-digits r (high - low) h.probe half, part-digits t r h)) (omega (arith, a, fewer)) refl refl refl

  pub next-tail : (w i j : ℕ) → IsTail t j → i < PAYLOAD_WORDS → Advances (record t { step = Word (Tail j) w i }) (record t { step = step_below t.sorted j })
  next-tail w i j h l = below-tail (Word (Tail j) w i) j h (omega (arith, h.counted, l)) (omega (arith, l))

  pub next-lower : (w i : ℕ) (r : Probe) → IsSorted t r → i < PAYLOAD_WORDS → Advances (record t { step = Word (Sorted r) w i }) (record t { step = step_at (lower_of r) })
  next-lower w i r h l = to-half (Word (Sorted r) w i) r r.low r.index h (omega (arith, h.probe.index, h.probe.some, h.high)) (omega (arith, h.probe.low, h.probe.index, h.probe.some)) (omega (arith, h.probe.low, h.probe.index, h.probe.some)) (omega (arith, l)) (omega (arith, l, h.probe.low))

  pub next-upper : (w i : ℕ) (r : Probe) → IsSorted t r → i < PAYLOAD_WORDS → Advances (record t { step = Word (Sorted r) w i }) (record t { step = step_at (upper_of r) })
  next-upper w i r h l = to-half (Word (Sorted r) w i) r (middle r.low r.high + 1) r.high h h.high (omega (arith, h.probe.some)) (omega (arith, h.probe.low)) (omega (arith, l)) (omega (arith, l, h.probe.low))

  -- a record that is not visible
  pub next-hidden : (at : Spot) → IsSpot t at → Advances (record t { step = Meta at }) (passed t at)
  next-hidden (Tail j) h = below-tail (Meta (Tail j)) j h (omega (arith, h.counted)) (omega arith)
  next-hidden (Sorted r) h = elim (cases_lt r.low r.index) [
    | inl l ↦ (
        let b : nat_lt r.low r.index ≡ true = grind (arith, nat_tests) in
        rw b (record {
          step = record {
            sized = record { count = s.count; sorted = s.sorted; words = s.words };
            of = record {
              probe = record { low = omega (arith, l); index = omega (arith, h.probe.index); some = h.probe.some; high = h.probe.high };
              high = h.high;
              met = omega (arith, h.met, l);
            };
          };
          spent = omega arith;
          more = omega (arith, l);
          key = refl;
          count = refl;
          sorted = refl;
        }))
    | inr l ↦ (
        let b : nat_lt r.low r.index ≡ false = grind (arith, nat_tests) in
        let u : Search = record t { step = step_at (upper_of r); dead = t.dead + 1 } in
        let z : IsSized u = record { count = s.count; sorted = s.sorted; words = s.words } in
        rw b (arrives (record t { step = Meta (Sorted r) }) u z (part_reads u (r.high - (middle r.low r.high + 1))) (FIND_READS_PER_RECORD * (r.high - (middle r.low r.high + 1)) + PAYLOAD_WORDS)
        (to-part u (middle r.low r.high + 1) r.high z h.high (omega (arith, h.met, h.probe.low)))
        (omega (arith, half-digits r (r.high - (middle r.low r.high + 1)) h.probe (omega (arith, h.probe.some)), part-digits t r h)) (omega (arith, h.probe.low)) refl refl refl))
  ]

  -- the key's record
  pub next-match : (before : Step) (j w : ℕ) → IsLeafRecord w → spent_at t before ≤ compare_reads t → PAYLOAD_WORDS < more_at before → Advances (record t { step = before }) (matched t j w)
  next-match before j w h b a = elim (cases_lt 0 (packed_len (payload_len (lies w)))) [
    | inl l ↦ (
        let q : nat_lt 0 (packed_len (payload_len (lies w))) ≡ true = grind (arith, nat_tests) in
        rw q (record {
          step = record { sized = record { count = s.count; sorted = s.sorted; words = s.words }; of = (h, l) };
          spent = omega (arith, b);
          more = omega (arith, a);
          key = refl;
          count = refl;
          sorted = refl;
        }))
    | inr l ↦ (
        let q : nat_lt 0 (packed_len (payload_len (lies w))) ≡ false = grind (arith, nat_tests) in
        rw q (record {
          step = record { sized = record { count = s.count; sorted = s.sorted; words = s.words }; of = tt };
          spent = omega (arith, b);
          more = omega (arith, a);
          key = refl;
          count = refl;
          sorted = refl;
        }))
  ]

  match-tail : (w i j : ℕ) → IsTail t j → IsLeafRecord w → i < PAYLOAD_WORDS → Advances (record t { step = Word (Tail j) w i }) (matched t j w)
  match-tail w i j h r l = next-match (Word (Tail j) w i) j w r (omega (arith, h.counted, h.from, l, s.sorted)) (omega (arith, l))

  match-sorted : (w i : ℕ) (r : Probe) → IsSorted t r → IsLeafRecord w → i < PAYLOAD_WORDS → Advances (record t { step = Word (Sorted r) w i }) (matched t r.index w)
  match-sorted w i r h f l = next-match (Word (Sorted r) w i) r.index w f (omega (arith, part-digits t r h, digits-some (size (Some r)) (omega (arith, h.probe.some)), l)) (omega (arith, l, h.probe.low))

  pub next-ordered : (at : Spot) (w i : ℕ) (o : Ordering) → IsSpot t at → IsLeafRecord w → i < PAYLOAD_WORDS → Advances (record t { step = Word at w i }) (ordered t at w o)
  next-ordered (Tail j) w i Less h f l = next-tail w i j h l
  next-ordered (Tail j) w i Equal h f l = match-tail w i j h f l
  next-ordered (Tail j) w i Greater h f l = next-tail w i j h l
  next-ordered (Sorted r) w i Less h f l = next-lower w i r h l
  next-ordered (Sorted r) w i Equal h f l = match-sorted w i r h f l
  next-ordered (Sorted r) w i Greater h f l = next-upper w i r h l

  next-word : (at : Spot) (w i : ℕ) → IsSpot t at → IsLeafRecord w → i + 1 < packed_len (lies w).key → Advances (record t { step = Word at w i }) (record t { step = Word at w (i + 1) })
  next-word (Tail j) w i h f l = record {
    step = record { sized = record { count = s.count; sorted = s.sorted; words = s.words }; of = (spot-kept t (Word (Tail j) w (i + 1)) (Tail j) h, f, l) };
    spent = omega arith;
    more = omega (arith, l, f.short);
    key = refl;
    count = refl;
    sorted = refl;
  }
  next-word (Sorted r) w i h f l = record {
    step = record { sized = record { count = s.count; sorted = s.sorted; words = s.words }; of = (spot-kept t (Word (Sorted r) w (i + 1)) (Sorted r) h, f, l) };
    spent = omega arith;
    more = omega (arith, l, f.short);
    key = refl;
    count = refl;
    sorted = refl;
  }

  pub next-key : (at : Spot) (w i : ℕ) → IsSpot t at → IsLeafRecord w → i < packed_len (lies w).key → Advances (record t { step = Word at w i }) (key_word t at w i)
  next-key at w i h f l = elim (cases_lt (i + 1) (packed_len (lies w).key)) [
    | inl m ↦ (let q : nat_lt (i + 1) (packed_len (lies w).key) ≡ true = grind (arith, nat_tests) in rw q (next-word at w i h f m))
    | inr m ↦ (let q : nat_lt (i + 1) (packed_len (lies w).key) ≡ false = grind (arith, nat_tests) in rw q (next-ordered at w i (key_order t w) h f (omega (arith, l, f.short))))
  ]

  pub next-payload : (j w i : ℕ) → IsLeafRecord w → i < packed_len (payload_len (lies w)) → Advances (record t { step = Payload j w i }) (payload_word t j w i)
  next-payload j w i f l = elim (cases_lt (i + 1) (packed_len (payload_len (lies w)))) [
    | inl m ↦ (
        let q : nat_lt (i + 1) (packed_len (payload_len (lies w))) ≡ true = grind (arith, nat_tests) in
        rw q (record {
          step = record { sized = record { count = s.count; sorted = s.sorted; words = s.words }; of = (f, m) };
          spent = omega arith;
          more = omega (arith, m, f.payload);
          key = refl;
          count = refl;
          sorted = refl;
        }))
    | inr m ↦ (
        let q : nat_lt (i + 1) (packed_len (payload_len (lies w))) ≡ false = grind (arith, nat_tests) in
        rw q (record {
          step = record { sized = record { count = s.count; sorted = s.sorted; words = s.words }; of = tt };
          spent = omega (arith, l, f.payload);
          more = omega (arith, l, f.payload);
          key = refl;
          count = refl;
          sorted = refl;
        }))
  ]

  first-word : (at : Spot) (v : ℕ) → IsSpot t at → IsLeafRecord v → Advances (record t { step = Meta at }) (record t { step = Word at v 0 })
  first-word (Tail j) v h f = record {
    step = record { sized = record { count = s.count; sorted = s.sorted; words = s.words }; of = (spot-kept t (Word (Tail j) v 0) (Tail j) h, f, omega (arith, f.some)) };
    spent = omega arith;
    more = omega arith;
    key = refl;
    count = refl;
    sorted = refl;
  }
  first-word (Sorted r) v h f = record {
    step = record { sized = record { count = s.count; sorted = s.sorted; words = s.words }; of = (spot-kept t (Word (Sorted r) v 0) (Sorted r) h, f, omega (arith, f.some)) };
    spent = omega arith;
    more = omega arith;
    key = refl;
    count = refl;
    sorted = refl;
  }

  pub next-meta : (at : Spot) (v : ℕ) → IsSpot t at → Advances (record t { step = Meta at }) (heard_at t (Meta at) v)
  next-meta at v h = elim (cases_Bool (is_record v)) [
    | inl e ↦ rw e (first-word at v h (record-fits v e))
    | inr e ↦ rw e (next-hidden at h)
  ]

pub sized-set : (t : Search) (i v : ℕ) → IsSized t → IsSized (record t { words = slice_set t.words i v })
sized-set t i v s = record { count = s.count; sorted = s.sorted; words = length-set t.words i v ∙ s.words }

pub spot-set : (t : Search) (i v : ℕ) (at : Spot) → IsSpot t at → IsSpot (record t { words = slice_set t.words i v }) at
spot-set t i v (Tail j) h = record { from = h.from; counted = h.counted; none = h.none }
spot-set t i v (Sorted r) h = record { probe = h.probe; high = h.high; met = h.met }

-- words that were read do not matter here
words-aside : (t u : Search) (i v : ℕ) → Advances (record t { words = slice_set t.words i v }) u → Advances t u
words-aside t u i v a = go t.step refl a
  where
    go : (step : Step) → t.step ≡ step → Advances (record t { words = slice_set t.words i v }) u → Advances t u
    go (Meta (Tail j)) e a = record { step = a.step; spent = rw e (rw e at a.spent); more = a.more; key = a.key; count = a.count; sorted = a.sorted }
    go (Meta (Sorted r)) e a = record { step = a.step; spent = rw e (rw e at a.spent); more = a.more; key = a.key; count = a.count; sorted = a.sorted }
    go (Word (Tail j) w k) e a = record { step = a.step; spent = rw e (rw e at a.spent); more = a.more; key = a.key; count = a.count; sorted = a.sorted }
    go (Word (Sorted r) w k) e a = record { step = a.step; spent = rw e (rw e at a.spent); more = a.more; key = a.key; count = a.count; sorted = a.sorted }
    go (Payload j w k) e a = record { step = a.step; spent = rw e (rw e at a.spent); more = a.more; key = a.key; count = a.count; sorted = a.sorted }
    go Done e a = record { step = a.step; spent = rw e (rw e at a.spent); more = a.more; key = a.key; count = a.count; sorted = a.sorted }

pub advances-at : (t : Search) (step : Step) (v : ℕ) → t.step ≡ step → IsSized t → IsStepOf t step → step ≢ Done → Advances (record t { step = step }) (heard_at t step v)
advances-at t (Meta at) v e s h d = next-meta t s at v h
advances-at t (Word at w i) v e s h d = words-aside (record t { step = Word at w i }) (key_word (record t { words = slice_set t.words i v }) at w i) i v (next-key (record t { words = slice_set t.words i v }) (sized-set t i v s) at w i (spot-set t i v at h.0) h.1 h.2)
advances-at t (Payload j w i) v e s h d = words-aside (record t { step = Payload j w i }) (payload_word (record t { words = slice_set t.words i v }) j w i) i v (next-payload (record t { words = slice_set t.words i v }) (sized-set t i v s) j w i h.0 h.1)
advances-at t Done v e s h d = absurd (d refl)

-- a search that has not ended goes on by each word
pub advances : (t : Search) (v : ℕ) → IsStep t → t.step ≢ Done → Advances t (heard t v)
advances t v h d = advances-at t t.step v refl h.sized h.of d
