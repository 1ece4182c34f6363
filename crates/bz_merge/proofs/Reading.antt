-- What is known while the parent and the neighbour are read.
use Rattle.std.proofs.Common.{◌≡◌, ◌≢◌, ℕ, ◌+◌, ◌^◌, ◌<◌, ◌≤◌, if◌then◌else◌, Bool, true, false, List, slice_index, slice_set, length, arith, refl, sym, subst, ◌∙◌, inl, inr, Some}
use Rattle.std.specs.Prelude.{nat_lt}
use Rattle.std.proofs.lemmas.Bool.{cases_eq, cases_lt}
use Rattle.std.proofs.lemmas.Bool.Decides.{nat_tests}
use Rattle.std.proofs.lemmas.List.{length-set, get_or-set_same, get_or-set_other}
use Rattle.bz_layout.specs.Addresses.{node_address}
use Rattle.bz_layout.specs.declared.config.Config.{Config}
use Rattle.bz_layout.specs.declared.sizes.TheConstants.{NODE_WORDS, STATUS_AT, HEADER_AT}
use Rattle.bz_slotted.specs.ReadingLaws.{node_of}
use Rattle.bz_task.specs.Instant.{words}
use Rattle.bz_task.specs.Laws.{FrontsStay}
use Rattle.bz_task.specs.Requests.{Answers, Tells}
use Rattle.bz_task.specs.Scene.{Past, Scene, Stage, Waiting, Took, IsScene, HasFilled, here}
use Rattle.bz_task.specs.declared.todo.Seen.{Seen}
use Rattle.bz_task.specs.declared.todo.Seen.TheVariants.{Start, Read as Was, Stored, Flushed, Swapped, NoSwap as NoneLeft}
use Rattle.bz_task.specs.declared.todo.Todo.TheVariants.{Read as Reads}
use Rattle.bz_renew.proofs.Words.{node-at}
use Rattle.bz_merge.specs.Facts.{merge_asks, merge_facts, word_after, beside_after}
use Rattle.bz_gaps.specs.FreeWords.{IsFree}
use Rattle.bz_merge.specs.Plans.{Merging, IsReadingParent, IsPaired, IsReadingBeside}
use Rattle.bz_merge.specs.Siblings.{WasWord, WasReadOrFree, WereRead}
use Rattle.bz_merge.specs.declared.phase.MergePhase.TheVariants.{Fresh, Word, Again, Beside, Parent}
use Rattle.bz_merge.proofs.Asking.{guarded-since, guarded-now, beside-reached}
use Rattle.bz_gaps.proofs.FreeWords.{free-alike}

-- an answer to a load
pub answered : (a v : ℕ) (stage : Stage) (seen : Seen) (s : Scene) → seen ≡ Was v → Tells (Some (Reads a)) stage seen s → (stage ≡ Waiting) × Answers s a v
answered a v Waiting seen s e t = (refl, subst (λ z. Tells (Some (Reads a)) Waiting z s) e t)
answered a v Took seen s e t = absurd (subst (λ z. Tells (Some (Reads a)) Took z s) e t)

-- a load is told of by the word that it found
pub found-word : (a : ℕ) (stage : Stage) (seen : Seen) (s : Scene) → Tells (Some (Reads a)) stage seen s → (v : ℕ) × (seen ≡ Was v)
found-word a Waiting (Was v) s t = (v, refl)
found-word a Waiting Start s t = absurd (t)
found-word a Waiting Stored s t = absurd (t)
found-word a Waiting Flushed s t = absurd (t)
found-word a Waiting (Swapped won) s t = absurd (t)
found-word a Waiting NoneLeft s t = absurd (t)
found-word a Took seen s t = absurd (t)

-- a word that was read is kept; those between it and the next place that is read are free
module _ (k m st i j v : ℕ) (read : List ℕ) (s : Scene) (order : m ≤ s.past.now) (some : 0 < i) (l : i < NODE_WORDS) (f : WereRead k m st i read s.past) (blank : (q : ℕ) → i ≤ q → slice_index read q ≡ 0)
    (skipped : (q : ℕ) → i < q → q < j → IsFree (node_of (slice_set read i v)) q) where
  other : (q : ℕ) → q ≢ i → slice_index (slice_set read i v) q ≡ slice_index read q
  other q ne = get_or-set_other read i q v 0 (λ e. absurd (omega (arith, e, ne)))

  earlier : (q : ℕ) → 0 < q → q < i → WasReadOrFree k q m read s.past → WasReadOrFree k q m (slice_set read i v) s.past
  earlier q pos n (inl w) = inl (subst (λ z. WasWord k q z m s.past) (sym (other q (λ e. omega (arith, e, n)))) w)
  earlier q pos n (inr h) =
      inr (free-alike (node_of read) (node_of (slice_set read i v)) q (other STATUS_AT (λ e. omega (arith, e, some))) (other HEADER_AT (λ e. omega (arith, e, pos, n))) h.0, other q (λ e. omega (arith, e, n)) ∙ h.1)

  pub still-blank : i < j → (q : ℕ) → j ≤ q → slice_index (slice_set read i v) q ≡ 0
  still-blank after q n = other q (λ e. omega (arith, e, n, after)) ∙ blank q (omega (arith, n, after))

  pub kept : Answers s (node_address s.past.config k + i) v → WereRead k m st j (slice_set read i v) s.past
  kept a = record {
    size = length-set read i v ∙ f.size;
    first = other STATUS_AT (λ e. omega (arith, e, some)) ∙ f.first;
    rest = rest;
  }
    where
      long : i < length read
      long = omega (arith, l, f.size)

      read-now : (q : ℕ) → q ≡ i → WasWord k q (slice_index (slice_set read i v) q) m s.past
      read-now q e =
          let same : v ≡ slice_index (slice_set read i v) q = sym (subst (λ z. slice_index (slice_set read i v) z ≡ v) (sym e) (get_or-set_same read i v 0 long)) in
          subst (λ z. WasWord k q z m s.past) same (record {
            moment = s.past.now;
            order = order;
            now = omega arith;
            word = subst (λ z. words s.past.config (here s) k z ≡ v) (sym e) (node-at s.past.config (here s).value k i l ∙ a.value);
          })

      rest : (q : ℕ) → 0 < q → q < j → WasReadOrFree k q m (slice_set read i v) s.past
      rest q pos n = elim (cases_eq q i) [
        | inl e ↦ inl (read-now q e)
        | inr ne ↦ elim (cases_lt q i) [
          | inl below ↦ earlier q pos below (f.rest q pos below)
          | inr above ↦ inr (skipped q (omega (arith, ne, above)) n, other q ne ∙ blank q above)
        ]
      ]

-- the parent with one word more
abbrev pub with_read : Merging → List ℕ → Merging
with_read r read = record r { read = read }

abbrev pub with_beside : Merging → List ℕ → Merging
with_beside r beside = record r { beside = beside }

next-word : (r : Merging) (j : ℕ) (s : Scene) → HasFilled s → 0 < j → j ≤ NODE_WORDS → IsReadingParent r j s.past → merge_facts r (word_after j) Waiting s
next-word r j s filled some l f = choose (nat_lt j NODE_WORDS) refl
  where
    choose : (b : Bool) → nat_lt j NODE_WORDS ≡ b → merge_facts r (if b then Word j else Again) Waiting s
    choose true e = (filled, (some, ((let k : j < NODE_WORDS = grind (arith, nat_tests) in k), f)))
    choose false e =
        let all : j ≡ NODE_WORDS = (let past : NODE_WORDS ≤ j = grind (arith, nat_tests) in omega (arith, past, l)) in
        (filled, subst (λ z. IsReadingParent r z s.past) all f)

-- the first act
pub fresh-known : (c : Config) (r : Merging) (stage : Stage) (seen : Seen) (s : Scene) → merge_facts r Fresh stage s → Tells (merge_asks c r Fresh) stage seen s → merge_facts r (Word 1) Waiting s
fresh-known c r Waiting Start s f t = (t, (omega arith, (omega arith, f)))
fresh-known c r Waiting (Was v) s f t = absurd (t)
fresh-known c r Waiting Stored s f t = absurd (t)
fresh-known c r Waiting Flushed s f t = absurd (t)
fresh-known c r Waiting (Swapped won) s f t = absurd (t)
fresh-known c r Waiting NoneLeft s f t = absurd (t)
fresh-known c r Took seen s f t = absurd (f)

-- after a word of the parent
pub word-known : (c : Config) (r : Merging) (i j v : ℕ) (stage : Stage) (seen : Seen) (s : Scene) → s.past.config ≡ c → IsScene s → i < j → j ≤ NODE_WORDS → ((q : ℕ) → i < q → q < j → IsFree (node_of (slice_set r.read i v)) q) →
    ((w : ℕ) → seen ≡ Was w → v ≡ w) → merge_facts r (Word i) stage s → Tells (merge_asks c r (Word i)) stage seen s → merge_facts (with_read r (slice_set r.read i v)) (word_after j) Waiting s
word-known c r i j v Took seen s same good after within skipped found f t = absurd (f)
word-known c r i j v Waiting seen s same good after within skipped found f t =
    let w = found-word (node_address c r.upper.slot + i) Waiting seen s t in
    let a : Answers s (node_address s.past.config r.upper.slot + i) v = subst (λ (z : Config). Answers s (node_address z r.upper.slot + i) v) (sym same) (subst (Answers s (node_address c r.upper.slot + i)) (sym (found w.0 w.1)) (answered (node_address c r.upper.slot + i) w.0 Waiting seen s w.1 t).1) in
    let b : IsReadingParent r i s.past = f.1.1.1 in
    let order : b.viewed.guarded ≤ s.past.now = omega (arith, b.viewed.links.guard.order, b.viewed.links.guard.now, b.viewed.is_guarded) in
    next-word (with_read r (slice_set r.read i v)) j s f.0 (omega (arith, after)) within
    (record {
      viewed = b.viewed;
      were = kept r.upper.slot b.viewed.guarded r.lower.status i j v r.read s order f.1.0 f.1.1.0 b.were b.blank skipped a;
      blank = still-blank r.upper.slot b.viewed.guarded r.lower.status i j v r.read s order f.1.0 f.1.1.0 b.were b.blank skipped after;
    })

-- the status of the neighbour, which is its first word
first-word : FrontsStay → (r : Merging) (v j : ℕ) (more : List ℕ) (s : Scene) → IsScene s → length more ≡ NODE_WORDS → slice_index more 0 ≡ v → ((q : ℕ) → 0 < q → slice_index more q ≡ 0) → 0 < j → ((q : ℕ) → 0 < q → q < j → IsFree (node_of more) q) →
    IsPaired r s.past → Answers s (node_address s.past.config r.beside_slot + 0) v → IsReadingBeside r.beside_slot more j s.past
first-word fronts r v j more s good size first blank after skipped p a = record {
  at = s.past.now;
  since = good.begun;
  now = omega arith;
  reached = (fronts s.past.config s.past.at s.past.since s.past.now p.viewed.guarded s.past.now r.beside_slot good.history (record { since = guarded-since r s good p; order = guarded-now r s good p; until = omega arith }) (beside-reached r s good p)).reached;
  was = node-at s.past.config (here s).value r.beside_slot STATUS_AT (omega arith) ∙ (a.value ∙ sym first);
  plain = subst (λ z. z < 2 ^ 61) (sym first) a.plain;
  were = record { size = size; first = refl; rest = λ q pos n. inr (skipped q pos n, blank q pos) };
  blank = λ q n. blank q (omega (arith, n, after));
}

-- another word of it
later-word : (k i j v : ℕ) (beside : List ℕ) (s : Scene) → 0 < i → i < NODE_WORDS → i < j → ((q : ℕ) → i < q → q < j → IsFree (node_of (slice_set beside i v)) q) → IsReadingBeside k beside i s.past → Answers s (node_address s.past.config k + i) v
    → IsReadingBeside k (slice_set beside i v) j s.past
later-word k i j v beside s some l after skipped b a =
    let same : slice_index (slice_set beside i v) STATUS_AT ≡ slice_index beside STATUS_AT = get_or-set_other beside i STATUS_AT v 0 (λ e. absurd (omega (arith, e, some))) in
    record {
      at = b.at;
      since = b.since;
      now = b.now;
      reached = b.reached;
      was = b.was ∙ sym same;
      plain = subst (λ z. z < 2 ^ 61) (sym same) b.plain;
      were = subst (λ z. WereRead k b.at z j (slice_set beside i v) s.past) (sym same) (kept k b.at (slice_index beside STATUS_AT) i j v beside s b.now some l b.were b.blank skipped a);
      blank = still-blank k b.at (slice_index beside STATUS_AT) i j v beside s b.now some l b.were b.blank skipped after;
    }

same-pair : (r : Merging) (beside : List ℕ) (p : Past) → IsPaired r p → IsPaired (with_beside r beside) p
same-pair r beside p f = record { viewed = f.viewed; parent = f.parent; pair = f.pair; tried = f.tried }

next-beside : (r : Merging) (j : ℕ) (s : Scene) → HasFilled s → j ≤ NODE_WORDS → IsPaired r s.past → IsReadingBeside r.beside_slot r.beside j s.past → merge_facts r (beside_after j) Waiting s
next-beside r j s filled l p f = choose (nat_lt j NODE_WORDS) refl
  where
    choose : (b : Bool) → nat_lt j NODE_WORDS ≡ b → merge_facts r (if b then Beside j else Parent) Waiting s
    choose true e = (filled, ((let k : j < NODE_WORDS = grind (arith, nat_tests) in k), (p, λ some. f)))
    choose false e =
        let all : j ≡ NODE_WORDS = (let past : NODE_WORDS ≤ j = grind (arith, nat_tests) in omega (arith, past, l)) in
        (filled, (p, subst (λ z. IsReadingBeside r.beside_slot r.beside z s.past) all f))

-- the words of a neighbour with one more, the first of which begins them
pub record IsWith (beside : List ℕ) (i v : ℕ) (more : List ℕ) : Type 0 where
  pub size : length more ≡ NODE_WORDS
  pub first : i ≡ 0 → slice_index more 0 ≡ v
  pub blank : i ≡ 0 → (q : ℕ) → 0 < q → slice_index more q ≡ 0
  pub later : 0 < i → more ≡ slice_set beside i v

-- after a word of the neighbour
pub beside-known : FrontsStay → (c : Config) (r : Merging) (i j v : ℕ) (more : List ℕ) (stage : Stage) (seen : Seen) (s : Scene) → s.past.config ≡ c → IsScene s → IsWith r.beside i v more → i < j → j ≤ NODE_WORDS → ((q : ℕ) → i < q → q < j → IsFree (node_of more) q) →
    ((w : ℕ) → seen ≡ Was w → v ≡ w) → merge_facts r (Beside i) stage s → Tells (merge_asks c r (Beside i)) stage seen s → merge_facts (with_beside r more) (beside_after j) Waiting s
beside-known fronts c r i j v more Took seen s same good h after within skipped found f t = absurd (f)
beside-known fronts c r i j v more Waiting seen s same good h after within skipped found f t =
    let w = found-word (node_address c r.beside_slot + i) Waiting seen s t in
    let a : Answers s (node_address s.past.config r.beside_slot + i) v = subst (λ (z : Config). Answers s (node_address z r.beside_slot + i) v) (sym same) (subst (Answers s (node_address c r.beside_slot + i)) (sym (found w.0 w.1)) (answered (node_address c r.beside_slot + i) w.0 Waiting seen s w.1 t).1) in
    let b : IsReadingBeside r.beside_slot more j s.past = elim (cases_eq i 0) [
      | inl e ↦ first-word fronts r v j more s good h.size (h.first e) (h.blank e) (omega (arith, after)) (λ q pos n. skipped q (omega (arith, e, pos)) n) f.1.1.0 (subst (λ z. Answers s (node_address s.past.config r.beside_slot + z) v) e a)
      | inr ne ↦ (
          let some : 0 < i = omega (arith, ne) in
          let is : more ≡ slice_set r.beside i v = h.later some in
          subst (λ z. IsReadingBeside r.beside_slot z j s.past) (sym is) (later-word r.beside_slot i j v r.beside s some f.1.0 after (subst (λ z. (q : ℕ) → i < q → q < j → IsFree (node_of z) q) is skipped) (f.1.1.1 some) a))
    ] in
    next-beside (with_beside r more) j s f.0 within (same-pair r more s.past f.1.1.0) b

pub word-within : (r : Merging) (i : ℕ) (stage : Stage) (s : Scene) → merge_facts r (Word i) stage s → i < NODE_WORDS
word-within r i Waiting s f = f.1.1.0
word-within r i Took s f = absurd (f)

pub beside-within : (r : Merging) (i : ℕ) (stage : Stage) (s : Scene) → merge_facts r (Beside i) stage s → i < NODE_WORDS
beside-within r i Waiting s f = f.1.0
beside-within r i Took s f = absurd (f)
