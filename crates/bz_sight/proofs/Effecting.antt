-- The effect of a swap changes its entries for readers, and nothing else.
use Rattle.std.proofs.Common.{◌≡◌, ℕ, zero, suc, ◌+◌, ◌^◌, ◌<◌, ◌≤◌, ◌==◌, ◌||◌, if◌then◌else◌, Bool, true, false, List, [], ◌∷◌, length, slice_index, arith, refl, sym, ap, subst, ◌∙◌, inl, inr}
use Rattle.std.specs.Prelude.{All, get_or}
use Rattle.std.proofs.lemmas.Bool.{true≢false}
use Rattle.std.proofs.lemmas.Bool.Decides.{nat_tests}
use Rattle.bz_layout.specs.Addresses.{swap_address, words_of as size_of, IsOutsideSwaps}
use Rattle.bz_layout.specs.declared.config.Config.{Config}
use Rattle.bz_swap_cells.specs.Store.{IsOutside, is_outside}
use Rattle.bz_swap.specs.Held.{IsHeld}
use Rattle.bz_swap.specs.SwapMemory.{SwapMemory, value_at, is_named, is_among, is_settled_at, is_target, entries_of}
use Rattle.bz_swap.specs.Starts.{IsAddress}
use Rattle.bz_word.specs.declared.entry.Entry.{Entry}
use Rattle.bz_content.specs.Lawful.{is_fixed, is_in_descriptor, is_lawful}
use Rattle.bz_content.specs.Resolving.{resolve}
use Rattle.bz_content.proofs.Proved.{well_formed_images_have_no_fault}
use Rattle.bz_sight.specs.Swapped.{LeavesItsValues}
use Rattle.bz_task.specs.Good.{IsGood}
use Rattle.bz_task.specs.Instant.{Instant}
use Rattle.bz_task.specs.Scene.{Scene, IsMine, IsFlushed, IsScene, here}
use Rattle.bz_task.specs.Shown.{IsRead}
use Rattle.bz_task.specs.Steps.{IsStep}
use Rattle.bz_task.specs.Swaps.{Stand, SwapsTo, ShowsSettled, swapped}
use Rattle.bz_task.specs.Targets.{IsTargetAt}
use Rattle.bz_task.proofs.Proved.{targets_stay}
use Rattle.bz_sight.specs.Effects.{TakesPlace, EffectsTakePlace, EffectsKeepOwn, effect_instant}
use Rattle.bz_sight.specs.Sight.{IsSeen, answer_at}
use Rattle.bz_swap_image.proofs.Proved.{descriptors_are_lawful}
use Rattle.bz_sight.proofs.Passings.{held, outside-test, answer-named, answer-private, outside-descriptors, fixed-place, fixed-lawful}
use Rattle.bz_sight.proofs.Leavings.{own-private, own-outside, outside-by, inside-answers}
use Rattle.bz_sight.proofs.ReadWords.{target-read, read-outside}
use Rattle.bz_sight.proofs.SwapMemories.{leaves-values}

-- all of a list: its first and its others
all-head : {A : Type 0} (P : A → Type 0) (x : A) (xs : List A) → All P (x ∷ xs) → P x
all-head P x xs h = h 0 x (omega arith)

all-tail : {A : Type 0} (P : A → Type 0) (x : A) (xs : List A) → All P (x ∷ xs) → All P xs
all-tail P x xs h = λ i d l. h (suc i) d (omega (arith, l))

-- what holds the new values holds at a target what the swap leaves there
target-value : (es : List Entry) (f g : ℕ → ℕ) (a : ℕ) → All (λ (e : Entry). g e.target ≡ e.new) es → is_target es a ≡ true → g a ≡ swapped es f a
target-value [] f g a h e = absurd (cc)
target-value (x ∷ es) f g a h e = go (x.target == a) refl e (target-value es f g a (all-tail (λ (e : Entry). g e.target ≡ e.new) x es h))
  where
    go : (b : Bool) → (x.target == a) ≡ b → b || is_target es a ≡ true → (is_target es a ≡ true → g a ≡ swapped es f a) → g a ≡ swapped (x ∷ es) f a
    go true q i rest = let at : x.target ≡ a = grind (arith, nat_tests) in rw q (ap g (sym at) ∙ all-head (λ (e : Entry). g e.target ≡ e.new) x es h)
    go false q i rest = rw q (rest i)

-- elsewhere it leaves what stood there
pub elsewhere : (es : List Entry) (f : ℕ → ℕ) (a : ℕ) → is_target es a ≡ false → swapped es f a ≡ f a
elsewhere [] f a e = refl
elsewhere (x ∷ es) f a e = go (x.target == a) refl e (elsewhere es f a)
  where
    go : (b : Bool) → (x.target == a) ≡ b → b || is_target es a ≡ false → (is_target es a ≡ false → swapped es f a ≡ f a) → swapped (x ∷ es) f a ≡ f a
    go true q h rest = absurd (cc)
    go false q h rest = rw q (rest h)

same-swapped : (es : List Entry) (f g : ℕ → ℕ) (a : ℕ) → f a ≡ g a → swapped es f a ≡ swapped es g a
same-swapped [] f g a e = e
same-swapped (z ∷ es) f g a e = ap (λ n. if z.target == a then z.new else n) (same-swapped es f g a e)

or-right : (a b : Bool) → b ≡ true → a || b ≡ true
or-right true b e = refl
or-right false b e = e

or-left : (a b : Bool) → a ≡ true → a || b ≡ true
or-left true b e = refl
or-left false b e = absurd (cc)

-- a target of a swap begun is named
pub among : (begun : List (List Entry)) (s a : ℕ) → is_target (get_or begun s []) a ≡ true → is_among begun a ≡ true
among [] s a e = absurd (cc)
among (es ∷ begun) zero a e = or-left (is_target es a) (is_among begun a) e
among (es ∷ begun) (suc s) a e = or-right (is_target es a) (is_among begun a) (among begun s a e)

-- and all of the targets are
pub all-named : (es : List Entry) (P : ℕ → Type 0) → ((a : ℕ) → is_target es a ≡ true → P a) → All (λ (e : Entry). P e.target) es
all-named [] P h = λ i d l. absurd (omega (arith, l))
all-named (x ∷ es) P h = λ i d l. at i d l (all-named es P (λ a e. h a (or-right (x.target == a) (is_target es a) e)))
  where
    here-is : is_target (x ∷ es) x.target ≡ true
    here-is = let q : (x.target == x.target) ≡ true = grind (arith, nat_tests) in or-left (x.target == x.target) (is_target es x.target) q

    at : (i : ℕ) (d : Entry) → i < length (x ∷ es) → All (λ (e : Entry). P e.target) es → P (get_or (x ∷ es) i d).target
    at zero d l rest = h x.target here-is
    at (suc i) d l rest = rest i d (omega (arith, l))

-- what holds of all targets holds of each
pub targeted : (es : List Entry) (P : ℕ → Type 0) (a : ℕ) → All (λ (e : Entry). P e.target) es → is_target es a ≡ true → P a
targeted [] P a h e = absurd (cc)
targeted (x ∷ es) P a h e = go (x.target == a) refl e (targeted es P a (all-tail (λ (e : Entry). P e.target) x es h))
  where
    go : (b : Bool) → (x.target == a) ≡ b → b || is_target es a ≡ true → (is_target es a ≡ true → P a) → P a
    go true q i rest = let at : x.target ≡ a = grind (arith, nat_tests) in subst P at (all-head (λ (e : Entry). P e.target) x es h)
    go false q i rest = rest i

-- both of two facts of all of a list
all-map : {A : Type 0} (P Q R : A → Type 0) (xs : List A) → ((x : A) → P x → Q x → R x) → All P xs → All Q xs → All R xs
all-map P Q R xs f h k = λ i d l. f (get_or xs i d) (h i d l) (k i d l)

module _ (c : Config) (x : Instant) (old new : SwapMemory) (s : ℕ) (seen : IsSeen c old x) (t : TakesPlace old new s) where
  abbrev y : Instant
  y = effect_instant c new x

  before : IsHeld old
  before = held old seen.phase seen.holds

  after : IsHeld new
  after = held new (λ e. seen.phase (sym t.same.phase ∙ e)) t.holds

  left-before : LeavesItsValues old
  left-before = leaves-values old (record { holds = seen.holds; phase = seen.phase })

  left-after : LeavesItsValues new
  left-after = leaves-values new (record { holds = t.holds; phase = λ e. seen.phase (sym t.same.phase ∙ e) })

  outside-new : (a : ℕ) → IsOutside old.swaps a → IsOutside new.swaps a
  outside-new a o = subst (λ n. IsOutside n a) (sym t.same.swaps) o

  named-same : (a : ℕ) → is_named new a ≡ is_named old a
  named-same a = ap (λ z. is_among z a) t.same.begun

  target-named : (a : ℕ) → is_target (entries_of old s) a ≡ true → is_named old a ≡ true
  target-named a e = among old.begun s a e

  target-outside : (a : ℕ) → is_target (entries_of old s) a ≡ true → IsOutside old.swaps a
  target-outside a e = (targeted (entries_of old s) (IsAddress old) a (before.targets s) e).outside

  -- the values of the memory itself
  value-after : (a : ℕ) → IsOutside old.swaps a → value_at new a ≡ swapped (entries_of old s) (value_at old) a
  value-after a o = go (is_target (entries_of old s) a) refl (is_named old a) refl
    where
      go : (u : Bool) → is_target (entries_of old s) a ≡ u → (v : Bool) → is_named old a ≡ v → value_at new a ≡ swapped (entries_of old s) (value_at old) a
      go true e v q = target-value (entries_of old s) (value_at old) (value_at new) a t.effect.value e
      go false e true q = t.effect.others a q e ∙ sym (elsewhere (entries_of old s) (value_at old) a e)
      go false e false q =
          (after.private a (outside-new a o) (named-same a ∙ q)).1 ∙ (t.durable a o ∙ (sym (before.private a o q).1 ∙ sym (elsewhere (entries_of old s) (value_at old) a e)))

  swapped-alike : (f g : ℕ → ℕ) (a : ℕ) → f a ≡ g a → swapped (entries_of old s) f a ≡ swapped (entries_of old s) g a
  swapped-alike f g a e = same-swapped (entries_of old s) f g a e

  resolved-after : (a : ℕ) → IsOutside old.swaps a → resolve (slice_index new.durable) a ≡ swapped (entries_of old s) (resolve x.image) a
  resolved-after a o =
      left-after.values a (outside-new a o) ∙ (value-after a o
      ∙ swapped-alike (value_at old) (resolve x.image) a (sym (left-before.values a o) ∙ ap (λ f. resolve f a) (sym seen.image)))

  -- what reads answer
  answer-after : (a : ℕ) → answer_at new a ≡ swapped (entries_of old s) x.value a
  answer-after a = outer (is_outside old.swaps a) refl
    where
      not-target : is_outside old.swaps a ≡ false → is_target (entries_of old s) a ≡ false
      not-target e = go (is_target (entries_of old s) a) refl
        where
          go : (u : Bool) → is_target (entries_of old s) a ≡ u → is_target (entries_of old s) a ≡ false
          go true q = absurd (true≢false (sym (outside-test old.swaps a (target-outside a q)) ∙ e))
          go false q = q

      private-target : is_named old a ≡ false → is_target (entries_of old s) a ≡ false
      private-target e = go (is_target (entries_of old s) a) refl
        where
          go : (u : Bool) → is_target (entries_of old s) a ≡ u → is_target (entries_of old s) a ≡ false
          go true q = absurd (true≢false (sym (target-named a q) ∙ e))
          go false q = q

      inner : IsOutside old.swaps a → (u : Bool) → is_named old a ≡ u → answer_at new a ≡ swapped (entries_of old s) x.value a
      inner o true e =
          answer-named new a (outside-new a o) (named-same a ∙ e) ∙ (value-after a o
          ∙ swapped-alike (value_at old) x.value a (sym (answer-named old a o e) ∙ ap (λ f. f a) (sym seen.value)))
      inner o false e =
          answer-private new a (outside-new a o) (named-same a ∙ e) ∙ (t.cached a o e ∙ (sym (answer-private old a o e) ∙ (ap (λ f. f a) (sym seen.value) ∙ sym (elsewhere (entries_of old s) x.value a (private-target e)))))

      outer : (u : Bool) → is_outside old.swaps a ≡ u → answer_at new a ≡ swapped (entries_of old s) x.value a
      outer true e = inner (outside-by old.swaps a e) (is_named old a) refl
      outer false e =
          inside-answers new a (ap (λ n. is_outside n a) t.same.swaps ∙ e)
          ∙ (sym (inside-answers old a e) ∙ (ap (λ f. f a) (sym seen.value) ∙ sym (elsewhere (entries_of old s) x.value a (not-target e))))

  stand : Stand (entries_of old s) x
  stand = all-map (λ (e : Entry). value_at old e.target ≡ e.expected) (λ (e : Entry). is_named old e.target ≡ true × IsOutside old.swaps e.target) (λ (e : Entry). x.value e.target ≡ e.expected) (entries_of old s)
      (λ e v q. ap (λ f. f e.target) seen.value ∙ (answer-named old e.target q.1 q.0 ∙ v)) t.effect.expected
      (all-named (entries_of old s) (λ a. is_named old a ≡ true × IsOutside old.swaps a) (λ a e. (target-named a e, target-outside a e)))

  outside-of : (a : ℕ) → IsOutsideSwaps c a → IsOutside old.swaps a
  outside-of a (inl l) = inl l
  outside-of a (inr l) = inr (subst (λ n. swap_address n ≤ a) (sym seen.swaps) (omega (arith, l)))

  fixed-same : (a : ℕ) → is_fixed a ≡ true → slice_index new.durable a ≡ x.image a
  fixed-same a fix = t.durable a (inl (fixed-place a fix).0) ∙ ap (λ f. f a) (sym seen.image)

  lawful-after : (a : ℕ) → a < size_of c → is_lawful c (slice_index new.durable) a ≡ true
  lawful-after a l = go (is_in_descriptor c a) refl (is_fixed a) refl
    where
      go : (u : Bool) → is_in_descriptor c a ≡ u → (v : Bool) → is_fixed a ≡ v → is_lawful c (slice_index new.durable) a ≡ true
      go true e v q = descriptors_are_lawful c new a (t.same.swaps ∙ seen.swaps) after t.fields l e
      go false e true q = fixed-lawful c x.image (slice_index new.durable) a e q (fixed-same a q) (((well_formed_images_have_no_fault c x.image).0 seen.good.form).lawful a l)
      go false e false q = left-after.lawful c a (sym (t.same.swaps ∙ seen.swaps)) (subst (λ n. IsOutside n a) (sym (t.same.swaps ∙ seen.swaps)) (outside-descriptors c a e)) q

  -- a word that nobody reads is private
  unread-private : (a : ℕ) → ¬ IsRead c x a → is_named old a ≡ false
  unread-private a unread = go (is_named old a) refl
    where
      go : (u : Bool) → is_named old a ≡ u → is_named old a ≡ false
      go true e = absurd (unread (target-read c x a (seen.targets a e)))
      go false e = e

  -- a private word stays settled
  settled-after : (a : ℕ) → IsOutside old.swaps a → is_named old a ≡ false → x.settled a ≡ true → is_settled_at new a ≡ true
  settled-after a o e h = t.settled a (t.cached a o e) (ap (λ f. f a) (sym seen.settled) ∙ h)

  swaps-to : x.effects + 1 < 2 ^ 32 → SwapsTo c (entries_of old s) x y
  swaps-to few = record {
    raw = λ a o. t.durable a (outside-of a o) ∙ ap (λ f. f a) (sym seen.image);
    lawful = lawful-after;
    resolved = λ a o. resolved-after a (outside-of a o);
    value = answer-after;
    settled = λ a o unread h. settled-after a (outside-of a o) (unread-private a unread) h;
    effects = refl;
    few = few;
    reached = λ k. refl;
  }

  seen-after : IsGood c y → IsStep c x y → ShowsSettled c x y → IsSeen c new y
  seen-after good step shows = record {
    config = seen.config;
    swaps = t.same.swaps ∙ seen.swaps;
    size = t.same.size ∙ seen.size;
    phase = λ e. seen.phase (sym t.same.phase ∙ e);
    holds = t.holds;
    fields = t.fields;
    fixed = λ a fix. let place : a < 16 = (fixed-place a fix).0 in fixed-settled a fix place;
    image = refl;
    value = refl;
    settled = refl;
    good = good;
    targets = λ a e. targets_stay c x y a seen.good good step (seen.targets a (sym (named-same a) ∙ e));
    shown = shown-after;
  }
    where
      shown-after : (a : ℕ) → IsRead c y a → is_named new a ≡ false → is_settled_at new a ≡ true
      shown-after a r e =
          let private : is_named old a ≡ false = sym (named-same a) ∙ e in
          settled-after a (read-outside c old.swaps y a seen.swaps r) private (elim (shows a r) [ inl was ↦ seen.shown a was private | inr h ↦ h ])

      fixed-private : (a : ℕ) → is_fixed a ≡ true → is_named old a ≡ false
      fixed-private a fix = go (is_named old a) refl
        where
          none : IsTargetAt c x a → ⊥
          none (inl q) = (fixed-place a fix).1.0 q
          none (inr (inl q)) = (fixed-place a fix).1.1 q
          none (inr (inr u)) = omega (arith, u.address, (fixed-place a fix).0)

          go : (u : Bool) → is_named old a ≡ u → is_named old a ≡ false
          go true e = absurd (none (seen.targets a e))
          go false e = e

      fixed-settled : (a : ℕ) → is_fixed a ≡ true → a < 16 → is_settled_at new a ≡ true
      fixed-settled a fix l = t.settled a (t.cached a (inl l) (fixed-private a fix)) (seen.fixed a fix)

  own-value : (v : Scene) → IsScene v → v.past.config ≡ c → here v ≡ x → (a : ℕ) → IsMine v a → answer_at new a ≡ (here v).value a
  own-value v good same at a mine =
      let private : is_named old a ≡ false = own-private c x old v seen good same at a mine in
      let o : IsOutside old.swaps a = own-outside c old v seen.swaps good same a mine in
      answer-private new a (outside-new a o) (named-same a ∙ private) ∙ (t.cached a o private ∙ (sym (answer-private old a o private) ∙ (ap (λ f. f a) (sym seen.value) ∙ ap (λ z. z.value a) (sym at))))

  own-image : (v : Scene) → IsScene v → v.past.config ≡ c → here v ≡ x → (a : ℕ) → IsMine v a → slice_index new.durable a ≡ (here v).image a
  own-image v good same at a mine = t.durable a (own-outside c old v seen.swaps good same a mine) ∙ (ap (λ f. f a) (sym seen.image) ∙ ap (λ z. z.image a) (sym at))

  own-settled : (v : Scene) → IsScene v → v.past.config ≡ c → here v ≡ x → (a : ℕ) → IsMine v a → IsFlushed v a → is_settled_at new a ≡ true
  own-settled v good same at a mine f =
      settled-after a (own-outside c old v seen.swaps good same a mine) (own-private c x old v seen good same at a mine) (ap (λ z. z.settled a) (sym at) ∙ f.settled)

pub effects-take-place : EffectsTakePlace
effects-take-place c x old new s seen t = record {
  stand = stand c x old new s seen t;
  swaps = swaps-to c x old new s seen t;
  seen = seen-after c x old new s seen t;
}

pub effects-keep-own : EffectsKeepOwn
effects-keep-own c x old new k s seen t good same at = record {
  value = λ a mine. own-value c x old new k seen t s good same at a mine;
  flushed = λ a mine f. record {
    image = own-image c x old new k seen t s good same at a mine ∙ (f.image ∙ sym (own-value c x old new k seen t s good same at a mine));
    settled = own-settled c x old new k seen t s good same at a mine f;
  };
}
