-- What a task may ask for may be started, and a start leaves the memory that is seen.
use Rattle.std.proofs.Common.{◌≡◌, ◌≢◌, ℕ, zero, suc, ◌+◌, ◌*◌, ◌^◌, ◌<◌, ◌≤◌, ◌||◌, Bool, true, false, List, [], ◌∷◌, ◌++◌, arith, refl, sym, ap, subst, ◌∙◌, inl, inr}
use Rattle.std.specs.Prelude.{All, get_or}
use Rattle.std.proofs.lemmas.Bool.{true≢false}
use Rattle.bz_layout.specs.Addresses.{swap_address, node_address, words_of as size_of, IsOutsideSwaps}
use Rattle.bz_layout.specs.declared.config.Config.{Config}
use Rattle.bz_layout.specs.declared.sizes.TheConstants.{LINE_WORDS}
use Rattle.bz_swap_cells.specs.Store.{IsOutside, is_outside}
use Rattle.bz_swap.specs.Held.{Holds, IsHeld}
use Rattle.bz_swap.specs.Starts.{IsAddress, MayStore, MayFlush, MaySwap, IsEntry, IsPrivateStore, IsPrivateFlush, swapping, phase_of}
use Rattle.bz_swap.specs.SwapMemory.{SwapMemory, is_named, is_among, is_settled_at, is_target}
use Rattle.bz_swap.proofs.SettledWords.{settled-same}
use Rattle.bz_swap.specs.declared.phase.Phase.TheVariants.{Recovering}
use Rattle.bz_swap.proofs.Proved.{plain_fields_stay}
use Rattle.bz_word.specs.declared.entry.Entry.{Entry}
use Rattle.bz_task.specs.Instant.{Instant, words}
use Rattle.bz_task.specs.Requests.{IsTarget, IsReadable, IsEntryToAsk}
use Rattle.bz_task.specs.Scene.{Scene, IsMine, here}
use Rattle.bz_task.specs.Shown.{IsShown}
use Rattle.bz_task.specs.Targets.{IsTargetAt}
use Rattle.bz_task.proofs.Proved.{targets_are_of_the_memory}
use Rattle.bz_sight.specs.Laws.{HiddenWordsAreValues}
use Rattle.bz_sight.specs.Sight.{IsSeen, IsHidden, answer_at}
use Rattle.bz_sight.specs.Starts.{Sees, StoresAreHidden, TasksMayStart, OwnWordsAreHidden, StartsAreSeen}
use Rattle.bz_sight.proofs.Effecting.{targeted}
use Rattle.bz_sight.proofs.Leavings.{own-private, inside-answers, outside-by}
use Rattle.bz_sight.proofs.Passings.{held, answer-named, answer-private}
use Rattle.bz_sight.proofs.ReadWords.{target-read, hidden-unread}

pub hidden : OwnWordsAreHidden
hidden c x s a v mine = record {
  in_slots = subst (λ d. node_address d 0 ≤ a) v.config (v.scene.mine a mine).0;
  unread = λ k i r l e h.
      mine.hidden k i (subst (λ z. z.reached k ≡ true) (sym v.here) r) l (subst (λ d. a ≡ node_address d k + i) (sym v.config) e)
      (subst (λ d. IsShown (words d (here s) k) i) (sym v.config) (subst (λ z. IsShown (words c z k) i) (sym v.here) h));
}

-- an address of the memory outside the descriptors
outside-of : (c : Config) (swaps a : ℕ) → swaps ≡ c.swaps → IsOutsideSwaps c a → IsOutside swaps a
outside-of c swaps a e (inl l) = inl l
outside-of c swaps a e (inr l) = inr (subst (λ n. swap_address n ≤ a) (sym e) (omega (arith, l)))

address : (c : Config) (x : Instant) (m : SwapMemory) (s : Scene) (a : ℕ) → IsSeen c m x → Sees c x s → IsReadable s a → IsAddress m a
address c x m s a seen v r =
    let before : IsHeld m = held m seen.phase seen.holds in record {
      outside = outside-of c m.swaps a seen.swaps (subst (λ d. IsOutsideSwaps d a) v.config r.outside);
      within = omega (arith, before.memory.same, seen.size, subst (λ d. a < size_of d) v.config r.within);
    }

-- a word that swaps may name is no hidden one
shown-target : (c : Config) (x : Instant) (a : ℕ) → IsTargetAt c x a → IsHidden c x a → ⊥
shown-target c x a t h = hidden-unread c x a h (target-read c x a t)

-- it lies in the memory, outside the descriptors
target-address : (c : Config) (x : Instant) (m : SwapMemory) (a : ℕ) → IsSeen c m x → IsTargetAt c x a → IsAddress m a
target-address c x m a seen (inl e) = let before : IsHeld m = held m seen.phase seen.holds in record { outside = inl (omega (arith, e)); within = omega (arith, e, before.memory.same, seen.size) }
target-address c x m a seen (inr (inl e)) = let before : IsHeld m = held m seen.phase seen.holds in record { outside = inl (omega (arith, e)); within = omega (arith, e, before.memory.same, seen.size) }
target-address c x m a seen (inr (inr t)) =
    let before : IsHeld m = held m seen.phase seen.holds in
    let slot : t.slot < c.nodes = seen.good.slots t.slot t.reached in
    record {
      outside = inr (subst (λ n. swap_address n ≤ a) (sym seen.swaps) (omega (arith, t.address)));
      within = omega (arith, t.address, t.within, slot, before.memory.same, seen.size);
    }

-- where it is private it is settled
target-settled : (c : Config) (x : Instant) (m : SwapMemory) (a : ℕ) → IsSeen c m x → IsTargetAt c x a → is_named m a ≡ false → is_settled_at m a ≡ true
target-settled c x m a seen t private = ap (λ f. f a) (sym seen.settled) ∙ seen.shown a (target-read c x a t) private

target-of : (c : Config) (x : Instant) (s : Scene) (a : ℕ) → Sees c x s → IsTarget s a → IsTargetAt c x a
target-of c x s a v t = subst (λ d. IsTargetAt d x a) v.config (subst (λ z. IsTargetAt s.past.config z a) v.here (targets_are_of_the_memory s a t))

entry : (c : Config) (x : Instant) (m : SwapMemory) (s : Scene) (e : Entry) → IsSeen c m x → StoresAreHidden c x m → Sees c x s → IsEntryToAsk s e → IsEntry m e
entry c x m s e seen stores v ask =
    let t : IsTargetAt c x e.target = target-of c x s e.target v ask.target in record {
      address = target-address c x m e.target seen t;
      expected = ask.expected;
      value = ask.new;
      settled = target-settled c x m e.target seen t;
      not_stored = λ w u d. shown-target c x e.target t (stores w e.target u d);
    }

may-store : (m : SwapMemory) (w a v : ℕ) → 0 < w → IsPrivateStore m w a v → MayStore m w a v
may-store m zero a v l p = absurd (omega (arith, l))
may-store m (suc w) a v l p = p

may-flush : (m : SwapMemory) (w line : ℕ) → 0 < w → IsPrivateFlush m w line → MayFlush m w line
may-flush m zero line l p = absurd (omega (arith, l))
may-flush m (suc w) line l p = p

pub may-start : TasksMayStart
may-start = record {
  read = λ c x m s w a seen v work r. record { work = work; address = address c x m s a seen v r };
  store = λ c x m s w a u seen v work own. may-store m w a u work.some (record {
    work = work;
    address = own-address c x m s a seen v own.mine;
    value = own.value;
    private = own-private c x m s seen v.scene v.config v.here a own.mine;
  });
  flush = λ c x m s w line seen v work r. may-flush m w line work.some (record { work = work; address = subst (IsAddress m) (omega arith) (address c x m s (LINE_WORDS * line) seen v r) });
  swap = λ c x m s w entries seen stores v work asks. record {
    work = work;
    each = λ i d l. entry c x m s (get_or entries i d) seen stores v (asks i d l);
  };
}
  where
    own-address : (c : Config) (x : Instant) (m : SwapMemory) (s : Scene) (a : ℕ) → IsSeen c m x → Sees c x s → IsMine s a → IsAddress m a
    own-address c x m s a seen v mine =
        let before : IsHeld m = held m seen.phase seen.holds in
        let r = v.scene.mine a mine in
        let from : node_address c 0 ≤ a = subst (λ d. node_address d 0 ≤ a) v.config r.0 in
        record {
          outside = inr (subst (λ n. swap_address n ≤ a) (sym seen.swaps) (omega (arith, from)));
          within = omega (arith, before.memory.same, seen.size, subst (λ d. a < size_of d) v.config r.1.0);
        }

running : (w : ℕ) → 0 < w → phase_of w ≢ Recovering
running zero l e = absurd (omega (arith, l))
running (suc w) l e = cc

-- the words named after a swap has begun
or-false : (a b : Bool) → a || b ≡ false → (a ≡ false) × (b ≡ false)
or-false true b e = absurd (cc)
or-false false b e = (refl, e)

among-more : (begun : List (List Entry)) (entries : List Entry) (a : ℕ) → is_among (begun ++ entries ∷ []) a ≡ is_among begun a || is_target entries a
among-more [] entries a = or-none (is_target entries a)
  where
    or-none : (t : Bool) → t || false ≡ t
    or-none true = refl
    or-none false = refl
among-more (es ∷ begun) entries a = ap (λ t. is_target es a || t) (among-more begun entries a) ∙ associates (is_target es a) (is_among begun a) (is_target entries a)
  where
    associates : (p q r : Bool) → p || (q || r) ≡ (p || q) || r
    associates true q r = refl
    associates false q r = refl

module _ (c : Config) (x : Instant) (m : SwapMemory) (w : ℕ) (entries : List Entry) (s : Scene) (seen : IsSeen c m x) (v : Sees c x s) (may : MaySwap m w entries) (asks : All (IsEntryToAsk s) entries) (holds : Holds (swapping m w entries)) where
  abbrev after : SwapMemory
  after = swapping m w entries

  target : (a : ℕ) → is_target entries a ≡ true → IsTargetAt c x a
  target a e = target-of c x s a v (targeted entries (IsTarget s) a (λ i d l. (asks i d l).target) e)

  answers : (a : ℕ) → answer_at after a ≡ answer_at m a
  answers a = outer (is_outside m.swaps a) refl
    where
      inner : IsOutside m.swaps a → (t : Bool) → is_named m a ≡ t → (u : Bool) → is_target entries a ≡ u → answer_at after a ≡ answer_at m a
      inner o true e u q = answer-named after a o (among-more m.begun entries a ∙ rw e refl) ∙ sym (answer-named m a o e)
      inner o false e true q =
          let before : IsHeld m = held m seen.phase seen.holds in
          answer-named after a o (among-more m.begun entries a ∙ rw (e, q) refl)
          ∙ ((before.private a o e).1 ∙ (sym (settled-same m a (target-settled c x m a seen (target a q) e)) ∙ sym (answer-private m a o e)))
      inner o false e false q = answer-private after a o (among-more m.begun entries a ∙ rw (e, q) refl) ∙ sym (answer-private m a o e)

      outer : (t : Bool) → is_outside m.swaps a ≡ t → answer_at after a ≡ answer_at m a
      outer true e = inner (outside-by m.swaps a e) (is_named m a) refl (is_target entries a) refl
      outer false e = inside-answers after a e ∙ sym (inside-answers m a e)

  named-after : (a : ℕ) → is_named after a ≡ true → IsTargetAt c x a
  named-after a e = go (is_named m a) refl (is_target entries a) refl
    where
      go : (t : Bool) → is_named m a ≡ t → (u : Bool) → is_target entries a ≡ u → IsTargetAt c x a
      go true q u r = seen.targets a q
      go false q true r = target a r
      go false q false r = absurd (true≢false (sym e ∙ (among-more m.begun entries a ∙ rw (q, r) refl)))

  named-before : (a : ℕ) → is_named after a ≡ false → is_named m a ≡ false
  named-before a e = (or-false (is_named m a) (is_target entries a) (sym (among-more m.begun entries a) ∙ e)).0

  swap-seen : IsSeen c after x
  swap-seen = record {
    config = seen.config;
    swaps = seen.swaps;
    size = seen.size;
    phase = running w may.work.some;
    holds = holds;
    fields = plain_fields_stay.swap m w entries seen.fields;
    fixed = seen.fixed;
    image = seen.image;
    value = seen.value ∙ (λ t a. sym (answers a) t);
    settled = seen.settled;
    good = seen.good;
    targets = named-after;
    shown = λ a r e. seen.shown a r (named-before a e);
  }

pub starts-seen : StartsAreSeen
starts-seen = record {
  start = λ c x m w doing seen some holds. record {
    config = seen.config;
    swaps = seen.swaps;
    size = seen.size;
    phase = running w some;
    holds = holds;
    fields = plain_fields_stay.start m w doing seen.fields;
    fixed = seen.fixed;
    image = seen.image;
    value = seen.value;
    settled = seen.settled;
    good = seen.good;
    targets = seen.targets;
    shown = seen.shown;
  };
  swap = λ c x m w entries s seen v may asks holds. swap-seen c x m w entries s seen v may asks holds;
}

-- a hidden word is private
hidden-private : (c : Config) (x : Instant) (m : SwapMemory) (a : ℕ) → IsSeen c m x → IsHidden c x a → is_named m a ≡ false
hidden-private c x m a seen h = go (is_named m a) refl
  where
    go : (t : Bool) → is_named m a ≡ t → is_named m a ≡ false
    go true e = absurd (shown-target c x a (seen.targets a e) h)
    go false e = e

pub hidden-values : HiddenWordsAreValues
hidden-values c x m a seen h =
    let o : IsOutside m.swaps a = inr (subst (λ n. swap_address n ≤ a) (sym seen.swaps) (omega (arith, h.in_slots))) in
    let private : is_named m a ≡ false = hidden-private c x m a seen h in
    let before : IsHeld m = held m seen.phase seen.holds in
    subst (λ n. n < 2 ^ 61) (sym (ap (λ f. f a) seen.value ∙ answer-private m a o private)) (before.private a o private).0
