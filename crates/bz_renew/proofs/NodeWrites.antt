-- The words of several nodes are stored one by one, and become durable line by line.
use Rattle.std.proofs.Common.{◌≡◌, ◌≢◌, ℕ, ◌+◌, ◌*◌, ◌/◌, ◌%◌, ◌<◌, ◌≤◌, ◌==◌, ◌&&◌, ◌||◌, ◌⊎◌, Bool, true, false, arith, refl, sym, ap, subst, ◌∙◌, inl, inr}
use Rattle.std.specs.Prelude.{slice_index, not}
use Rattle.std.proofs.lemmas.Bool.{cases_lt, cases_eq, true≢false}
use Rattle.std.proofs.lemmas.Bool.Decides.{nat_tests}
use Rattle.bz_layout.specs.Addresses.{node_address, slot_of, line_of, SlotsApart}
use Rattle.bz_layout.specs.Slots.{FreeSlots}
use Rattle.bz_layout.specs.declared.config.Config.{Config}
use Rattle.bz_layout.specs.declared.sizes.TheConstants.{NODE_WORDS, LINE_WORDS, NODE_LINES}
use Rattle.bz_tree.specs.Walk.{is_among}
use Rattle.bz_task.specs.OwnActs.{Stores, Flushes, AreUnreached, is_gained, gained}
use Rattle.bz_task.specs.Requests.{IsOwnStore, IsReadable}
use Rattle.bz_task.specs.Scene.{Scene, IsMine, IsFlushed, IsLawful, HasFilled, here}
use Rattle.bz_task.proofs.Stays.{gained-mine}
use Rattle.bz_renew.specs.Nodes.{Nodes, HaveSlots, ArePlain, AreWriting, HasFilledBegun, IsSlotOf, AreSlotsTaken, word_address, word_value, line_number}
use Rattle.bz_renew.proofs.Words.{or-left, or-right, or-split}

same-test : (a b : ℕ) → a ≡ b → (a == b) ≡ true
same-test a b e = grind (arith, nat_tests)

-- the same facts where the sizes are said to be others
resized : (r : Nodes) (stored lines : ℕ) (c : Config) (s : Scene) → s.past.config ≡ c → HaveSlots c.nodes r
    → ((n i : ℕ) → n < r.count → i < NODE_WORDS → IsMine s (node_address c (r.slot n) + i))
    → ((n i : ℕ) → n < r.count → i < NODE_WORDS → NODE_WORDS * n + i < stored → (here s).value (node_address c (r.slot n) + i) ≡ slice_index (r.image n) i)
    → ((n i : ℕ) → n < r.count → i < NODE_WORDS → NODE_WORDS * n + i < LINE_WORDS * lines → IsFlushed s (node_address c (r.slot n) + i))
    → AreWriting r stored lines s
resized r stored lines c s p slots mine stored_is flushed = record {
  slots = subst (λ z. HaveSlots z.nodes r) (sym p) slots;
  mine = λ n i h l. subst (λ z. IsMine s (node_address z (r.slot n) + i)) (sym p) (mine n i h l);
  stored_is = λ n i h l b. subst (λ z. (here s).value (node_address z (r.slot n) + i) ≡ slice_index (r.image n) i) (sym p) (stored_is n i h l b);
  flushed = λ n i h l b. subst (λ z. IsFlushed s (node_address z (r.slot n) + i)) (sym p) (flushed n i h l b);
}

pub nodes-stay : (r : Nodes) (stored lines : ℕ) (s after : Scene) → AreWriting r stored lines s → IsLawful s after → AreWriting r stored lines after
nodes-stay r stored lines s after w l =
    resized r stored lines s.past.config after l.continues.config w.slots
    (λ n i h k. (l.keeps (node_address s.past.config (r.slot n) + i) (w.mine n i h k)).mine)
    (λ n i h k b. (l.keeps (node_address s.past.config (r.slot n) + i) (w.mine n i h k)).value ∙ w.stored_is n i h k b)
    (λ n i h k b. (l.keeps (node_address s.past.config (r.slot n) + i) (w.mine n i h k)).flushed (w.flushed n i h k b))

-- where word j of all nodes is
node-of : (j n i : ℕ) → i < NODE_WORDS → NODE_WORDS * n + i ≡ j → (j / NODE_WORDS ≡ n) × (j % NODE_WORDS ≡ i)
node-of j n i l e = (omega (arith, l, e), omega (arith, l, e))

number-of : (j : ℕ) → NODE_WORDS * (j / NODE_WORDS) + j % NODE_WORDS ≡ j
number-of j = omega arith

-- the next word is stored
module _ (apart : SlotsApart) (r : Nodes) (j : ℕ) (s after : Scene) (below : j < NODE_WORDS * r.count) (w : AreWriting r j 0 s) (t : Stores (word_address s.past.config r j) (word_value r j) s after) where
  this : (n i : ℕ) → i < NODE_WORDS → NODE_WORDS * n + i ≡ j → (here after).value (node_address s.past.config (r.slot n) + i) ≡ slice_index (r.image n) i
  this n i l e =
      let at = node-of j n i l e in
      subst (λ z. (here after).value (node_address s.past.config (r.slot z) + i) ≡ slice_index (r.image z) i) at.0
      (subst (λ z. (here after).value (node_address s.past.config (r.slot (j / NODE_WORDS)) + z) ≡ slice_index (r.image (j / NODE_WORDS)) z) at.1 t.value)

  no-other : (n i : ℕ) → n < r.count → i < NODE_WORDS → node_address s.past.config (r.slot n) + i ≡ word_address s.past.config r j → NODE_WORDS * n + i ≡ j
  no-other n i h l e =
      let both : (r.slot n ≡ r.slot (j / NODE_WORDS)) × (i ≡ j % NODE_WORDS) = apart s.past.config (r.slot n) (r.slot (j / NODE_WORDS)) i (j % NODE_WORDS) l (omega arith) e in
      let same : n ≡ j / NODE_WORDS = w.slots.apart n (j / NODE_WORDS) h (omega (arith, below)) both.0 in
      omega (arith, same, both.1, number-of j)

  pub nodes-store : AreWriting r (j + 1) 0 after
  nodes-store =
      resized r (j + 1) 0 s.past.config after t.continues.config w.slots
      (λ n i h l. t.mine (node_address s.past.config (r.slot n) + i) (w.mine n i h l))
      (λ n i h l b. elim (cases_eq (NODE_WORDS * n + i) j) [
        | inl e ↦ this n i l e
        | inr ne ↦ t.others (node_address s.past.config (r.slot n) + i) (λ e. ne (no-other n i h l e)) ∙ w.stored_is n i h l (omega (arith, b, ne))
      ])
      (λ n i h l b. absurd (omega (arith, b)))

-- the next line is flushed
line-is : (c : Config) (r : Nodes) (j n i : ℕ) → i < NODE_WORDS → LINE_WORDS * j ≤ NODE_WORDS * n + i → NODE_WORDS * n + i < LINE_WORDS * (j + 1) → line_of (node_address c (r.slot n) + i) ≡ line_number c r j
line-is c r j n i l from to =
    let node : n ≡ j / NODE_LINES = omega (arith, l, from, to) in
    let line : i / LINE_WORDS ≡ j % NODE_LINES = omega (arith, l, from, to) in
    omega (arith, ap r.slot node, line)

pub nodes-flush : (r : Nodes) (j stored : ℕ) (s after : Scene) → AreWriting r stored j s → Flushes (line_number s.past.config r j) s after → AreWriting r stored (j + 1) after
nodes-flush r j stored s after w t =
    resized r stored (j + 1) s.past.config after t.continues.config w.slots
    (λ n i h l. t.mine (node_address s.past.config (r.slot n) + i) (w.mine n i h l))
    (λ n i h l b. t.value (node_address s.past.config (r.slot n) + i) ∙ w.stored_is n i h l b)
    (λ n i h l b. elim (cases_lt (NODE_WORDS * n + i) (LINE_WORDS * j)) [
      | inl before ↦ t.stays (node_address s.past.config (r.slot n) + i) (w.mine n i h l) (w.flushed n i h l before)
      | inr now ↦ t.flushed (node_address s.past.config (r.slot n) + i) (line-is s.past.config r j n i l now b) (w.mine n i h l)
    ])

-- the slot of a word of a slot
slot-is : (c : Config) (k i : ℕ) → i < NODE_WORDS → slot_of c (node_address c k + i) ≡ k
slot-is c k i l = omega (arith, l)

-- with a store of the next word its node is begun
pub begun-store : (r : Nodes) (j v : ℕ) (s after : Scene) → HasFilledBegun r j s → Stores (word_address s.past.config r j) v s after → HasFilledBegun r (j + 1) after
begun-store r j v s after f t k took out = t.filled k ∙ go (cases_eq k (r.slot (j / NODE_WORDS)))
  where
    not-begun : k ≢ r.slot (j / NODE_WORDS) → (n : ℕ) → n < r.count → j ≤ NODE_WORDS * n → k ≢ r.slot n
    not-begun ne n h from same = elim (cases_lt j (NODE_WORDS * n)) [
      | inl before ↦ out n h (omega (arith, before)) same
      | inr at ↦ (
          let node : n ≡ j / NODE_WORDS = omega (arith, at, from) in
          ne (same ∙ ap r.slot node))
    ]

    go : (k ≡ r.slot (j / NODE_WORDS)) ⊎ (k ≢ r.slot (j / NODE_WORDS)) → (s.filled k || (slot_of s.past.config (word_address s.past.config r j) == k)) ≡ true
    go (inl e) =
        let at : slot_of s.past.config (word_address s.past.config r j) ≡ k = slot-is s.past.config (r.slot (j / NODE_WORDS)) (j % NODE_WORDS) (omega arith) ∙ sym e in
        or-right (s.filled k) _ (same-test (slot_of s.past.config (word_address s.past.config r j)) k at)
    go (inr ne) = or-left (s.filled k) _ (f k (sym (t.took k) ∙ took) (not-begun ne))

-- once the last node is begun, every slot is filled
pub all-begun : (r : Nodes) (stored : ℕ) (s : Scene) → HasFilledBegun r stored s → NODE_WORDS * r.count < stored + NODE_WORDS → HasFilled s
all-begun r stored s f last k took = f k took (λ n h from same. absurd (omega (arith, h, from, last)))

pub begun-stays : (r : Nodes) (stored : ℕ) (s after : Scene) → HasFilledBegun r stored s → IsLawful s after → HasFilledBegun r stored after
begun-stays r stored s after f l k took out = l.filled k ∙ f k (sym (l.took k) ∙ took) out

-- where the slots are taken
module _ (apart : SlotsApart) (r : Nodes) (s : Scene) (old new : FreeSlots) (taken : AreSlotsTaken r old new) (nodes : old.nodes ≡ s.past.config.nodes) (unreached : AreUnreached s old) where
  gained-slot : (n : ℕ) → n < r.count → is_gained old new (r.slot n) ≡ true
  gained-slot n h = rw (taken.were n h, taken.gone n h) refl

  taken-mine : (n i : ℕ) → n < r.count → i < NODE_WORDS → IsMine (gained s old new) (node_address s.past.config (r.slot n) + i)
  taken-mine n i h l = record {
    own = inl (record { slot = r.slot n; place = i; address = refl; within = l; took = or-right (s.took (r.slot n)) _ (gained-slot n h); unreached = unreached (r.slot n) (taken.were n h) });
    hidden = λ k m reached inside e. absurd (
        let same : r.slot n ≡ k = (apart s.past.config (r.slot n) k i m l inside e).0 in
        true≢false (sym (ap (here s).reached same ∙ reached) ∙ unreached (r.slot n) (taken.were n h)));
  }

  pub nodes-taken : AreWriting r 0 0 (gained s old new)
  nodes-taken = record {
    slots = subst (λ z. HaveSlots z r) nodes taken.slots;
    mine = taken-mine;
    stored_is = λ n i h l b. absurd (omega (arith, b));
    flushed = λ n i h l b. absurd (omega (arith, b));
  }

  pub none-begun : HasFilled s → HasFilledBegun r 0 (gained s old new)
  none-begun f k took out = go (s.took k) refl took
    where
      among : (a b : Bool) → is_among old.free k ≡ a → is_among new.free k ≡ b → (a && not b) ≡ true → IsSlotOf r k
      among true false p q h = taken.only k p q
      among true true p q h = absurd (cc)
      among false b p q h = absurd (cc)

      go : (b : Bool) → s.took k ≡ b → (s.took k || is_gained old new k) ≡ true → s.filled k ≡ true
      go true e h = f k e
      go false e h =
          let is : IsSlotOf r k = among (is_among old.free k) (is_among new.free k) refl refl (or-split (s.took k) (is_gained old new k) h e) in
          absurd (out is.node is.within (omega arith) is.is)

-- where none is taken, all stays
pub nodes-no-slot : (r : Nodes) (stored lines : ℕ) (s : Scene) (free : FreeSlots) → AreWriting r stored lines s → AreWriting r stored lines (gained s free free)
nodes-no-slot r stored lines s free w = record {
  slots = w.slots;
  mine = λ n i h l. gained-mine s free free (node_address s.past.config (r.slot n) + i) (w.mine n i h l);
  stored_is = w.stored_is;
  flushed = w.flushed;
}

never : (b : Bool) → (b && not b) ≡ false
never true = refl
never false = refl

pub begun-no-slot : (r : Nodes) (stored : ℕ) (s : Scene) (free : FreeSlots) → HasFilledBegun r stored s → HasFilledBegun r stored (gained s free free)
begun-no-slot r stored s free f k took out = f k (go (s.took k) refl took) out
  where
    go : (b : Bool) → s.took k ≡ b → (s.took k || is_gained free free k) ≡ true → s.took k ≡ true
    go true e h = e
    go false e h = absurd (true≢false (sym (or-split (s.took k) (is_gained free free k) h e) ∙ never (is_among free.free k)))

-- both may be asked for
pub node-may-store : (r : Nodes) (j : ℕ) (s : Scene) → j < NODE_WORDS * r.count → ArePlain r → AreWriting r j 0 s → IsOwnStore s (word_address s.past.config r j) (word_value r j)
node-may-store r j s below p w =
    let node : j / NODE_WORDS < r.count = omega (arith, below) in
    let place : j % NODE_WORDS < NODE_WORDS = omega arith in
    record { mine = w.mine (j / NODE_WORDS) (j % NODE_WORDS) node place; value = p.plain (j / NODE_WORDS) node (j % NODE_WORDS) 0 (omega (arith, place, p.size (j / NODE_WORDS) node)) }

pub node-may-flush : (r : Nodes) (j : ℕ) (s : Scene) → HaveSlots s.past.config.nodes r → j < NODE_LINES * r.count → IsReadable s (LINE_WORDS * line_number s.past.config r j)
node-may-flush r j s slots below =
    let node : j / NODE_LINES < r.count = omega (arith, below) in
    let slot : r.slot (j / NODE_LINES) < s.past.config.nodes = slots.within (j / NODE_LINES) node in
    let line : j % NODE_LINES < NODE_LINES = omega arith in
    record { outside = inr (omega (arith, line)); within = omega (arith, slot, line) }
