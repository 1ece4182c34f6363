-- What one worker does leaves what another owns.
use Rattle.std.proofs.Common.{◌≡◌, ◌≢◌, ℕ, ◌+◌, ◌<◌, ◌≤◌, ◌⊎◌, Bool, true, false, List, arith, refl, sym, ap, subst, ◌∙◌, inl, inr}
use Rattle.std.proofs.lemmas.Bool.{cases_lt, true≢false}
use Rattle.bz_layout.specs.Addresses.{node_address}
use Rattle.bz_layout.specs.declared.sizes.TheConstants.{NODE_WORDS}
use Rattle.bz_layout.proofs.Laws.{slots_apart}
use Rattle.bz_swap.specs.SwapMemory.{is_target}
use Rattle.bz_word.specs.declared.entry.Entry.{Entry}
use Rattle.bz_task.specs.Instant.{Instant, IsDurableAt, words}
use Rattle.bz_task.specs.Others.{AreApart, IsOfReached, ShareNothing, SharersOfNothingAreApart, Watches, LeavesAll, StoresTo, QuietActsAreLawful, StoresAreLawful, EffectsAreLawful}
use Rattle.bz_task.specs.Requests.{IsNodeTarget, IsTarget, IsOwnStore}
use Rattle.bz_task.specs.Scene.{Scene, IsOfTaken, IsMine, IsFlushed, IsScene, IsLawful, here}
use Rattle.bz_task.specs.Shown.{IsShown, IsRead, SameShownNode}
use Rattle.bz_task.specs.Steps.{IsQuiet, IsStep}
use Rattle.bz_task.specs.Swaps.{Change, SwapsTo, IsGoodSwap}
use Rattle.bz_task.proofs.Swapping.{node-at, node-past, node-same, untouched}
use Rattle.bz_task.proofs.Sames.{words-records, same-shown}

-- a word of a slot to which no link leads yet, or a reserved one, that stays hidden, keeps its value, and stays flushed
pub record Kept (v : Scene) (y : Instant) (a : ℕ) : Type 0 where
  pub unreached : (o : IsOfTaken v a) → y.reached o.slot ≡ false
  pub hidden : (k i : ℕ) → y.reached k ≡ true → i < NODE_WORDS → a ≡ node_address v.past.config k + i → ¬ IsShown (words v.past.config y k) i
  pub value : y.value a ≡ (here v).value a
  pub flushed : IsFlushed v a → IsDurableAt y a

-- a step that keeps each of the words of one who watches is lawful for it
pub watched : (v later : Scene) (y : Instant) → IsStep v.past.config (here v) y → ((a : ℕ) → IsMine v a → Kept v y a) → Watches v later y → IsLawful v later
watched v later y step kept w = record {
  continues = w.continues;
  took = w.took;
  step = subst (λ z. IsStep v.past.config (here v) z) (sym w.here) step;
  effected = w.effected;
  reserved = w.reserved;
  filled = w.filled;
  keeps = λ a m. let k : Kept v y a = kept a m in record {
    mine = record {
      own = elim m.own [ inl o ↦ inl (of-taken a k o) | inr r ↦ inr (w.reserved a ∙ r) ];
      hidden = λ j i r l e h.
          k.hidden j i (subst (λ z. z.reached j ≡ true) w.here r) l (subst (λ c. a ≡ node_address c j + i) w.continues.config e)
          (subst (λ c. IsShown (words c y j) i) w.continues.config (subst (λ z. IsShown (words later.past.config z j) i) w.here h));
    };
    value = ap (λ z. z.value a) w.here ∙ k.value;
    flushed = λ f. subst (λ z. IsDurableAt z a) (sym w.here) (k.flushed f);
  };
}
  where
    of-taken : (a : ℕ) → Kept v y a → IsOfTaken v a → IsOfTaken later a
    of-taken a k o = record {
      slot = o.slot;
      place = o.place;
      address = subst (λ c. a ≡ node_address c o.slot + o.place) (sym w.continues.config) o.address;
      within = o.within;
      took = w.took o.slot ∙ o.took;
      unreached = ap (λ z. z.reached o.slot) w.here ∙ k.unreached o;
    }

module _ (v : Scene) (y : Instant) (q : LeavesAll v y) where
  same-words : (k i : ℕ) → words v.past.config y k i ≡ words v.past.config (here v) k i
  same-words k = node-same v.past.config (here v).value y.value k (λ i l. q.value (node_address v.past.config k + i))

  same-hidden : (a : ℕ) → IsMine v a → (k i : ℕ) → y.reached k ≡ true → i < NODE_WORDS → a ≡ node_address v.past.config k + i → ¬ IsShown (words v.past.config y k) i
  same-hidden a m k i r l e h =
      let ws : words v.past.config y k ≡ words v.past.config (here v) k = λ t z. same-words k z t in
      m.hidden k i (sym (q.reached k) ∙ r) l e (subst (λ n. IsShown n i) ws h)

  quiet-step : IsQuiet v.past.config (here v) y
  quiet-step = record {
    effects = q.effects;
    reached = q.reached;
    nodes = λ k r i h. same-words k i;
    root = record { pointer = q.value 1; status = q.value 2 };
  }

  quiet-kept : (a : ℕ) → IsMine v a → Kept v y a
  quiet-kept a m = record {
    unreached = λ o. q.reached o.slot ∙ o.unreached;
    hidden = same-hidden a m;
    value = q.value a;
    flushed = q.flushed a m;
  }

pub quiet-lawful : QuietActsAreLawful
quiet-lawful v later y q w = watched v later y (inl (quiet-step v y q)) (quiet-kept v y q) w

module _ (s v : Scene) (a w : ℕ) (y : Instant) (good : IsScene s) (own : IsOwnStore s a w) (apart : AreApart s v) (st : StoresTo a w (here s) y) where
  -- the words that readers read are others
  not-shown : (k i : ℕ) → (here s).reached k ≡ true → i < NODE_WORDS → IsShown (words s.past.config (here s) k) i → node_address s.past.config k + i ≢ a
  not-shown k i r l h e = own.mine.hidden k i r l (sym e) h

  store-node : (k : ℕ) → (here s).reached k ≡ true → SameShownNode s.past.config (here s) y k
  store-node k r i h = elim (cases_lt i NODE_WORDS) [
    | inl l ↦ node-at s.past.config y.value k i l ∙ (st.others (node_address s.past.config k + i) (not-shown k i r l h) ∙ sym (node-at s.past.config (here s).value k i l))
    | inr l ↦ node-past s.past.config y.value k i l ∙ sym (node-past s.past.config (here s).value k i l)
  ]

  store-step : IsQuiet s.past.config (here s) y
  store-step = record {
    effects = st.effects;
    reached = st.reached;
    nodes = store-node;
    root = record { pointer = st.others 1 (λ e. omega (arith, e, (good.mine a own.mine).0)); status = st.others 2 (λ e. omega (arith, e, (good.mine a own.mine).0)) };
  }

  -- what was hidden still is
  shown-before : (k i : ℕ) → (here s).reached k ≡ true → IsShown (words s.past.config y k) i → IsShown (words s.past.config (here s) k) i
  shown-before k i r h = (same-shown (words s.past.config (here s) k) (words s.past.config y k) (words-records (words s.past.config (here s) k) (words s.past.config y k) (store-node k r)) i).1 h

  store-kept : (b : ℕ) → IsMine v b → Kept v y b
  store-kept b m = record {
    unreached = λ o. st.reached o.slot ∙ (ap (λ z. z.reached o.slot) (sym apart.here) ∙ o.unreached);
    hidden = λ k i r l e h.
        let was : (here s).reached k ≡ true = sym (st.reached k) ∙ r in
        m.hidden k i (subst (λ z. z.reached k ≡ true) (sym apart.here) was) l e
        (subst (λ c. IsShown (words c (here v) k) i) (sym apart.config) (subst (λ z. IsShown (words s.past.config z k) i) (sym apart.here)
        (shown-before k i was (subst (λ c. IsShown (words c y k) i) apart.config h))));
    value = other ∙ ap (λ z. z.value b) (sym apart.here);
    flushed = λ f. record {
      image = st.image b ∙ (ap (λ z. z.image b) (sym apart.here) ∙ (f.image ∙ (ap (λ z. z.value b) apart.here ∙ sym other)));
      settled = st.settled b elsewhere ∙ (ap (λ z. z.settled b) (sym apart.here) ∙ f.settled);
    };
  }
    where
      elsewhere : b ≢ a
      elsewhere e = apart.apart a own.mine (subst (IsMine v) e m)

      other : y.value b ≡ (here s).value b
      other = st.others b elsewhere

-- the same step where the sizes and the memory are those of another scene
step-for : (s v : Scene) (y : Instant) → AreApart s v → IsStep s.past.config (here s) y → IsStep v.past.config (here v) y
step-for s v y apart step = subst (λ c. IsStep c (here v) y) (sym apart.config) (subst (λ x. IsStep s.past.config x y) (sym apart.here) step)

pub stores-lawful : StoresAreLawful
stores-lawful s v later a w y good own apart st watches =
    watched v later y (step-for s v y apart (inl (store-step s v a w y good own apart st))) (store-kept s v a w y good own apart st) watches

module _ (publishes : Bool) (change : Change) (entries : List Entry) (s v : Scene) (y : Instant) (good : IsScene v) (apart : AreApart s v) (to : SwapsTo s.past.config entries (here s) y) (g : IsGoodSwap publishes change entries s y) where
  -- a target is a word that readers read
  target-shown : (a : ℕ) (t : IsNodeTarget s a) → IsShown (words s.past.config (here s) t.slot) t.place
  target-shown a t = elim t.kind [
    | inl e ↦ inl (omega (arith, e))
    | inr o ↦ elim o [ inl m ↦ inr (inl m.free) | inr p ↦ inr (inr (inl p.inner)) ]
  ]

  hidden-before : (b : ℕ) → IsMine v b → (k i : ℕ) → (here s).reached k ≡ true → i < NODE_WORDS → b ≡ node_address s.past.config k + i → ¬ IsShown (words s.past.config (here s) k) i
  hidden-before b m k i r l e h =
      m.hidden k i (subst (λ z. z.reached k ≡ true) (sym apart.here) r) l (subst (λ c. b ≡ node_address c k + i) (sym apart.config) e)
      (subst (λ c. IsShown (words c (here v) k) i) (sym apart.config) (subst (λ z. IsShown (words s.past.config z k) i) (sym apart.here) h))

  not-target : (b : ℕ) → IsMine v b → IsTarget s b → ⊥
  not-target b m (inl e) = omega (arith, e, (good.mine b m).0)
  not-target b m (inr (inl e)) = omega (arith, e, (good.mine b m).0)
  not-target b m (inr (inr t)) = hidden-before b m t.slot t.place t.reached t.within t.address (target-shown b t)

  no-target : (b : ℕ) → IsMine v b → is_target entries b ≡ false
  no-target b m = go (is_target entries b) refl
    where
      go : (t : Bool) → is_target entries b ≡ t → is_target entries b ≡ false
      go true e = absurd (not-target b m (g.targets b e))
      go false e = e

  effect-hidden : (b : ℕ) → IsMine v b → (k i : ℕ) → y.reached k ≡ true → i < NODE_WORDS → b ≡ node_address s.past.config k + i → ¬ IsShown (words s.past.config y k) i
  effect-hidden b m k i r l e h = go ((here s).reached k) refl
    where
      theirs : IsMine s (node_address s.past.config k + i) → ⊥
      theirs o = apart.apart b (subst (IsMine s) (sym e) o) m

      go : (t : Bool) → (here s).reached k ≡ t → ⊥
      go true q = elim (g.shown k i q l h) [ inl was ↦ hidden-before b m k i q l e was | inr own ↦ theirs own.mine ]
      go false q = theirs (g.linked k i q r l)

  unread : (b : ℕ) → IsMine v b → IsRead s.past.config (here s) b → ⊥
  unread b m (inl e) = omega (arith, e, (good.mine b m).0)
  unread b m (inr (inl e)) = omega (arith, e, (good.mine b m).0)
  unread b m (inr (inr w)) = hidden-before b m w.slot w.place w.reached w.within w.address w.shown

  effect-unreached : (b : ℕ) → IsMine v b → (o : IsOfTaken v b) → y.reached o.slot ≡ false
  effect-unreached b m o = go (y.reached o.slot) refl
    where
      go : (t : Bool) → y.reached o.slot ≡ t → y.reached o.slot ≡ false
      go false q = q
      go true q =
          let theirs : IsMine s (node_address s.past.config o.slot + o.place) = g.linked o.slot o.place (ap (λ z. z.reached o.slot) (sym apart.here) ∙ o.unreached) q o.within in
          let at : node_address s.past.config o.slot + o.place ≡ b = ap (λ c. node_address c o.slot + o.place) (sym apart.config) ∙ sym o.address in
          absurd (apart.apart b (subst (IsMine s) at theirs) m)

  effect-kept : (b : ℕ) → IsMine v b → Kept v y b
  effect-kept b m = record {
    unreached = effect-unreached b m;
    hidden = λ k i r l e h. effect-hidden b m k i r l (subst (λ c. b ≡ node_address c k + i) apart.config e) (subst (λ c. IsShown (words c y k) i) apart.config h);
    value = same ∙ ap (λ z. z.value b) (sym apart.here);
    flushed = λ f. record {
      image = to.raw b (inr in-slots) ∙ (ap (λ z. z.image b) (sym apart.here) ∙ (f.image ∙ (ap (λ z. z.value b) apart.here ∙ sym same)));
      settled = to.settled b (inr in-slots) (unread b m) (ap (λ z. z.settled b) (sym apart.here) ∙ f.settled);
    };
  }
    where
      same : y.value b ≡ (here s).value b
      same = to.value b ∙ untouched entries (here s).value b (no-target b m)

      in-slots : node_address s.past.config 0 ≤ b
      in-slots = subst (λ c. node_address c 0 ≤ b) apart.config (good.mine b m).0

pub effects-lawful : EffectsAreLawful
effects-lawful publishes change entries s v later y good apart to g watches =
    watched v later y (step-for s v y apart (inr g.step)) (effect-kept publishes change entries s v y good apart to g) watches

-- a slot that no link has led to is none to which one has led
module _ (s v : Scene) (n : ShareNothing s v) (a : ℕ) where
  both-took : IsOfTaken s a → IsOfTaken v a → ⊥
  both-took o u =
      let at : node_address s.past.config o.slot + o.place ≡ node_address s.past.config u.slot + u.place = sym o.address ∙ (u.address ∙ ap (λ c. node_address c u.slot + u.place) n.config) in
      let same : o.slot ≡ u.slot = (slots_apart s.past.config o.slot u.slot o.place u.place o.within u.within at).0 in
      n.took o.slot o.took (subst (λ k. v.took k ≡ true) (sym same) u.took)

  took-reached : IsOfTaken s a → IsOfReached v a → ⊥
  took-reached o u =
      let at : node_address s.past.config o.slot + o.place ≡ node_address s.past.config u.slot + u.place = sym o.address ∙ (u.address ∙ ap (λ c. node_address c u.slot + u.place) n.config) in
      let same : o.slot ≡ u.slot = (slots_apart s.past.config o.slot u.slot o.place u.place o.within u.within at).0 in
      true≢false (sym (ap (λ z. z.reached u.slot) (sym n.here) ∙ u.reached) ∙ (ap (here s).reached (sym same) ∙ o.unreached))

  reached-took : IsOfReached s a → IsOfTaken v a → ⊥
  reached-took o u =
      let at : node_address s.past.config o.slot + o.place ≡ node_address s.past.config u.slot + u.place = sym o.address ∙ (u.address ∙ ap (λ c. node_address c u.slot + u.place) n.config) in
      let same : o.slot ≡ u.slot = (slots_apart s.past.config o.slot u.slot o.place u.place o.within u.within at).0 in
      true≢false (sym o.reached ∙ (ap (here s).reached same ∙ (ap (λ z. z.reached u.slot) (sym n.here) ∙ u.unreached)))

  neither : IsOfTaken s a ⊎ (s.reserved a ≡ true) → IsOfTaken v a ⊎ (v.reserved a ≡ true) → ⊥
  neither (inl o) (inl u) = both-took o u
  neither (inl o) (inr r) = took-reached o (n.of_second a r)
  neither (inr r) (inl u) = reached-took (n.of_first a r) u
  neither (inr r) (inr t) = n.reserved a r t

pub sharers-apart : SharersOfNothingAreApart
sharers-apart s v n = record { config = n.config; here = n.here; apart = λ a m o. neither s v n a m.own o.own }
