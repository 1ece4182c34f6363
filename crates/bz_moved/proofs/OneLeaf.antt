-- A trade is two rewrites, through words that never stood, and changes two keys.
use Rattle.std.proofs.Common.{◌≡◌, ◌≢◌, ℕ, zero, suc, ◌+◌, ◌^◌, ◌<◌, ◌≤◌, ◌==◌, true, false, List, arith, refl, sym, ap, ◌∙◌, inl, inr, Option}
use Rattle.std.specs.Prelude.{Some, None}
use Rattle.std.proofs.lemmas.Bool.{cases_eq, true≢false}
use Rattle.std.proofs.lemmas.Bool.Decides.{nat_tests}
use Rattle.bz_layout.specs.declared.sizes.TheConstants.{STATUS_AT, HEADER_AT, META_AT}
use Rattle.bz_word.specs.Headers.{header}
use Rattle.bz_word.specs.Statuses.{status, status_word, IsStatus}
use Rattle.bz_word.specs.declared.meta.Meta.{Meta}
use Rattle.bz_word.specs.declared.status.Status.{Status}
use Rattle.bz_word.proofs.Proved.{statuses}
use Rattle.bz_slotted.specs.Changes.{Rewrites}
use Rattle.bz_slotted.specs.LeafLaws.{AnswersRewritten}
use Rattle.bz_slotted.specs.Page.{meta_of, visible, held, extent_of, page}
use Rattle.bz_slotted.specs.Readers.{found_of}
use Rattle.bz_slotted.specs.Records.{key_in, payload_in, key_at, weight, shown, live_block}
use Rattle.bz_slotted.specs.Rules.{node_fault}
use Rattle.bz_slotted.specs.Whole.{Whole, IsInBlock, Disjoint}
use Rattle.bz_slotted.proofs.Faults.{held-visible}
use Rattle.bz_slotted.proofs.Proved.{leaf_rules_are_facts, rewrite_changes_one_key}
use Rattle.bz_slotted.proofs.Words.{Agree, key-same, payload-same, plain_key-same, plain_payload-same}
use Rattle.bz_moved.specs.OneLeaf.{half_of, Trades, TradesAreTwoRewrites, AnswersTraded, TradesChangeTwoKeys}

-- what the halfway words are
half-meta : (n m : ℕ → ℕ) (i word k : ℕ) → k ≡ i → half_of n m i word (META_AT + k) ≡ m (META_AT + k)
half-meta n m i word k e =
    let a : (META_AT + k == STATUS_AT) ≡ false = grind (arith, nat_tests) in
    let b : (META_AT + k == META_AT + i) ≡ true = grind (arith, nat_tests) in rw (a, b) refl

half-other : (n m : ℕ → ℕ) (i word k : ℕ) → k ≢ STATUS_AT → k ≢ META_AT + i → half_of n m i word k ≡ n k
half-other n m i word k x y =
    let a : (k == STATUS_AT) ≡ false = grind (arith, nat_tests) in
    let b : (k == META_AT + i) ≡ false = grind (arith, nat_tests) in rw (a, b) refl

half-placed : (n m : ℕ → ℕ) (i word k : ℕ) → k ≢ STATUS_AT → k ≡ META_AT + i → half_of n m i word k ≡ m k
half-placed n m i word k x y =
    let a : (k == STATUS_AT) ≡ false = grind (arith, nat_tests) in
    let b : (k == META_AT + i) ≡ true = grind (arith, nat_tests) in rw (a, b) refl

-- a visible record's words are counted as live
shown-live : (meta : ℕ → Meta) (i n : ℕ) → i < n → shown (meta i) ≤ live_block meta n
unfolding live_block
shown-live meta i zero l = absurd (omega (arith, l))
shown-live meta i (suc n) l = elim (cases_eq i n) [
  | inl e ↦ omega (arith, ap (λ k. shown (meta k)) e)
  | inr ne ↦ omega (arith, shown-live meta i n (omega arith))
]

module _ (r s n m : ℕ → ℕ) (lo hi : Option (List ℕ)) (i j : ℕ) (gone come : Meta) (h : Whole r (page n) lo hi) (t : Trades r s n m lo hi i j gone come) where
  -- the status halfway: as afterwards, but for the words of the record that goes
  halfway : Status
  halfway = record (status (m STATUS_AT)) { dead = (page n).dead + weight ((page n).meta i) }

  two : i ≢ j
  two e = true≢false (sym t.goes.was ∙ (ap (λ k. visible ((page n).meta k)) e ∙ t.comes.was))

  weighs : shown ((page n).meta i) ≡ weight ((page n).meta i)
  weighs = rw t.goes.was refl

  fields : IsStatus (status (m STATUS_AT))
  fields = statuses.range (m STATUS_AT) t.status

  lawful : IsStatus halfway
  unfolding halfway
  lawful = record {
    count = fields.count;
    block = fields.block;
    dead = omega (arith, fields.block, t.block, h.filled.dead, weighs, shown-live (page n).meta i (page n).count t.goes.inside);
    stamp = fields.stamp;
  }

  word : ℕ
  word = status_word halfway

  plain : word < 2 ^ 61
  unfolding word
  plain = statuses.lawful halfway lawful

  reads : status word ≡ record (status (m STATUS_AT)) { dead = (page n).dead + weight ((page n).meta i) }
  unfolding word halfway
  reads = statuses.value halfway lawful

  z : ℕ → ℕ
  z = half_of n m i word

  z-count : (page (half_of n m i word)).count ≡ (page n).count
  z-count = ap (λ u. u.count) reads ∙ t.count

  z-block : (page (half_of n m i word)).block ≡ (page n).block
  z-block = ap (λ u. u.block) reads ∙ t.block

  z-dead : (page (half_of n m i word)).dead ≡ (page n).dead + weight ((page n).meta i)
  z-dead = ap (λ u. u.dead) reads

  z-gone : (k : ℕ) → k ≡ i → (page (half_of n m i word)).meta k ≡ gone
  z-gone k e = ap meta_of (half-meta n m i word k e) ∙ (ap (λ x. meta_of (m (META_AT + x))) e ∙ t.goes.said)

  z-meta : (k : ℕ) → k ≢ i → (page (half_of n m i word)).meta k ≡ (page n).meta k
  z-meta k ne = ap meta_of (half-other n m i word (META_AT + k) (λ e. absurd (omega arith)) (λ e. ne (omega arith)))

  beyond : (k : ℕ) → META_AT + (page n).count ≤ k → half_of n m i word k ≡ n k
  beyond k l = half-other n m i word k (λ e. absurd (omega arith)) (λ e. absurd (omega (arith, t.goes.inside)))

  agree : (k : Meta) → IsInBlock (page n) k → Agree (half_of n m i word) n (extent_of k)
  agree k b x from to = beyond x (omega (arith, h.filled.room, b.starts))

  key-is : key_in (half_of n m i word) (extent_of come) ≡ key_in n (extent_of come)
  key-is = key-same (half_of n m i word) n (extent_of come) (agree come t.comes.in_block)

  payload-is : payload_in (half_of n m i word) (extent_of come) ≡ payload_in n (extent_of come)
  payload-is = payload-same (half_of n m i word) n (extent_of come) (agree come t.comes.in_block)

  no : (A : Type 0) → visible gone ≡ true → A
  no A v = absurd (true≢false (sym v ∙ t.goes.hidden))

  loose : (A : Type 0) → held gone ≡ true → A
  loose A v = absurd (true≢false (sym v ∙ t.goes.loose))

  -- the record goes
  first : Rewrites r r n (half_of n m i word) lo hi i gone
  first = record {
    others = λ k a b. half-other n m i word k a b;
    raw = λ k l. refl;
    status = plain;
    count = z-count;
    block = z-block;
    dead = let hid : shown gone ≡ 0 = rw t.goes.hidden refl in omega (arith, z-dead, hid, weighs);
    inside = t.goes.inside;
    said = z-gone i refl;
    taken = t.goes.taken;
    lengths = t.goes.lengths;
    in_block = λ v. loose _ v;
    apart = λ k l ne v u. loose _ v;
    key = λ v. no _ v;
    payload = λ v. no _ v;
    tail = λ v. no _ v;
    range = λ v. no _ v;
    distinct = λ k l ne v u. no _ v;
  }

  -- the other one comes
  apart : (k : ℕ) → k < (page (half_of n m i word)).count → k ≢ j → held ((page (half_of n m i word)).meta k) ≡ true → Disjoint ((page (half_of n m i word)).meta k) come
  apart k l ne v = elim (cases_eq k i) [
    | inl e ↦ loose _ (rw (z-gone k e) at v)
    | inr other ↦ rw (z-meta k other) (t.comes.apart k (omega (arith, l, z-count)) ne (rw (z-meta k other) at v))
  ]

  distinct : (k : ℕ) → k < (page (half_of n m i word)).count → k ≢ j → visible ((page (half_of n m i word)).meta k) ≡ true → key_at (page (half_of n m i word)) k ≢ key_in (half_of n m i word) (extent_of come)
  distinct k l ne v same = elim (cases_eq k i) [
    | inl e ↦ no _ (rw (z-gone k e) at v)
    | inr other ↦ (
        let u : visible ((page n).meta k) ≡ true = rw (z-meta k other) at v in
        let b : IsInBlock (page n) ((page n).meta k) = h.inside k (omega (arith, l, z-count)) (held-visible ((page n).meta k) u) in
        let stays : key_at (page (half_of n m i word)) k ≡ key_at (page n) k = ap (λ x. key_in (half_of n m i word) (extent_of x)) (z-meta k other) ∙ key-same (half_of n m i word) n (extent_of ((page n).meta k)) (agree ((page n).meta k) b) in
        t.comes.distinct k (omega (arith, l, z-count)) ne u (sym stays ∙ (same ∙ key-is)))
  ]

  z-others : (k : ℕ) → k ≢ STATUS_AT → k ≢ META_AT + j → m k ≡ half_of n m i word k
  z-others k a b = elim (cases_eq k (META_AT + i)) [
    | inl e ↦ sym (half-placed n m i word k a e)
    | inr ne ↦ t.others k a ne b ∙ sym (half-other n m i word k a ne)
  ]

  z-header : half_of n m i word HEADER_AT ≡ n HEADER_AT
  z-header = half-other n m i word HEADER_AT (λ e. absurd (omega (arith, e))) (λ e. absurd (omega (arith, e)))

  second : Rewrites r s (half_of n m i word) m lo hi j come
  second = record {
    others = z-others;
    raw = λ k l. t.raw k (omega (arith, l, z-count));
    status = t.status;
    count = t.count ∙ sym z-count;
    block = t.block ∙ sym z-block;
    dead =
        let all : shown come ≡ weight come = rw t.comes.shows refl in
        let none : shown ((page (half_of n m i word)).meta j) ≡ 0 = ap shown (z-meta j (λ e. two (sym e))) ∙ rw t.comes.was refl in
        omega (arith, t.dead, z-dead, all, none);
    inside = omega (arith, t.comes.inside, z-count);
    said = t.comes.said;
    taken = t.comes.taken;
    lengths = t.comes.lengths;
    in_block = λ v. record { starts = omega (arith, t.comes.in_block.starts, z-block); ends = t.comes.in_block.ends };
    apart = λ k l ne v u. apart k l ne u;
    key = λ v. plain_key-same r r n (half_of n m i word) (extent_of come) (λ k a b. refl) (agree come t.comes.in_block) t.comes.key;
    payload = λ v. plain_payload-same r r n (half_of n m i word) (extent_of come) (λ k a b. refl) (agree come t.comes.in_block) t.comes.payload;
    tail = λ v. inl (omega (arith, t.comes.tail, ap (λ x. (header x).sorted) z-header));
    range = λ v. rw key-is t.comes.range;
    distinct = λ k l ne v u. distinct k l ne u;
  }

  answers : (nodes : ℕ) → node_fault nodes r n 0 lo hi ≡ None → AnswersTraded nodes s n m lo hi i come
  answers nodes fault = record {
    none = after.none;
    other = λ key new old. after.other key (λ v e. new (sym key-is ∙ e)) (λ v. hidden v) ∙ once.other key (λ v. no _ v) (λ v. old);
    new = ap (found_of m) (sym key-is) ∙ (after.new t.comes.shows ∙ ap (λ x. Some x) payload-is);
    gone = after.other (key_at (page n) i) (λ v e. t.comes.distinct i t.goes.inside two t.goes.was (sym e ∙ key-is)) (λ v. hidden v) ∙ once.gone t.goes.was t.goes.hidden;
  }
    where
      once : AnswersRewritten nodes r n (half_of n m i word) lo hi i gone
      once = rewrite_changes_one_key nodes r r n (half_of n m i word) lo hi i gone fault first

      after : AnswersRewritten nodes s (half_of n m i word) m lo hi j come
      after = rewrite_changes_one_key nodes r s (half_of n m i word) m lo hi j come once.none second

      hidden : {A : Type 0} → visible ((page (half_of n m i word)).meta j) ≡ true → A
      hidden v = absurd (true≢false (sym v ∙ (ap visible (z-meta j (λ e. two (sym e))) ∙ t.comes.was)))

pub two-rewrites : TradesAreTwoRewrites
two-rewrites nodes r s n m lo hi i j gone come fault t = let h = (leaf_rules_are_facts nodes r n lo hi).0 fault in record {
  word = word r s n m lo hi i j gone come h t;
  first = first r s n m lo hi i j gone come h t;
  second = second r s n m lo hi i j gone come h t;
}

pub trades : TradesChangeTwoKeys
trades nodes r s n m lo hi i j gone come fault t = answers r s n m lo hi i j gone come ((leaf_rules_are_facts nodes r n lo hi).0 fault) t nodes fault
