-- What an act by which no swap takes effect is to each worker: it leaves what anybody owns, but for a store and a flush of
-- the owner's.
use Rattle.std.proofs.Common.{◌≡◌, ℕ, ◌≤◌, Bool, true, false, slice_index, arith, refl, sym, ap, subst, ◌∙◌, inl, inr}
use Rattle.std.specs.Prelude.{if◌then◌else◌, nat_lt}
use Rattle.std.proofs.lemmas.Bool.Decides.{nat_tests}
use Rattle.std.proofs.lemmas.Bool.{cases_lt}
use Rattle.bz_layout.specs.Addresses.{swap_address, node_address}
use Rattle.bz_layout.specs.declared.config.Config.{Config}
use Rattle.bz_swap_cells.specs.Store.{IsOutside, is_outside}
use Rattle.bz_swap.specs.SwapMemory.{SwapMemory, is_named, is_among, is_settled_at}
use Rattle.bz_swap.proofs.SettledWords.{settled-same, settled-alike}
use Rattle.bz_task.specs.Instant.{Instant, IsDurableAt}
use Rattle.bz_task.specs.Scene.{Scene, IsMine, IsFlushed, IsScene, here}
use Rattle.bz_task.specs.Targets.{IsTargetAt}
use Rattle.bz_task.proofs.Proved.{own_words_are_no_targets}
use Rattle.bz_sight.specs.Passing.{Passes, ActsLeaveAll, StoresAreSeen, FlushesAreSeen}
use Rattle.bz_sight.specs.Sight.{IsSeen, answer_at, next_instant}
use Rattle.bz_sight.proofs.Passings.{answer-named, answer-private}

-- an own word is private
pub own-private : (c : Config) (x : Instant) (m : SwapMemory) (v : Scene) → IsSeen c m x → IsScene v → v.past.config ≡ c → here v ≡ x → (a : ℕ) → IsMine v a → is_named m a ≡ false
own-private c x m v seen good same at a mine = go (is_named m a) refl
  where
    go : (t : Bool) → is_named m a ≡ t → is_named m a ≡ false
    go true e = absurd (own_words_are_no_targets v a good mine (subst (λ d. IsTargetAt d (here v) a) (sym same) (subst (λ z. IsTargetAt c z a) (sym at) (seen.targets a e))))
    go false e = e

-- and lies in a slot
pub own-outside : (c : Config) (m : SwapMemory) (v : Scene) → m.swaps ≡ c.swaps → IsScene v → v.past.config ≡ c → (a : ℕ) → IsMine v a → IsOutside m.swaps a
own-outside c m v swaps good same a mine =
    let in-slots : node_address c 0 ≤ a = subst (λ d. node_address d 0 ≤ a) same (good.mine a mine).0 in
    inr (subst (λ n. swap_address n ≤ a) (sym swaps) (omega (arith, in-slots)))

if-false : {A : Type 0} (t : Bool) (v w : A) → t ≡ false → (if t then v else w) ≡ w
if-false t v w e = rw e refl

-- of an address among the descriptors nothing is answered
pub inside-answers : (m : SwapMemory) (a : ℕ) → is_outside m.swaps a ≡ false → answer_at m a ≡ 0
inside-answers m a e = if-false (is_outside m.swaps a) _ _ e

pub outside-by : (swaps a : ℕ) → is_outside swaps a ≡ true → IsOutside swaps a
outside-by swaps a e = elim (cases_lt a 16) [
  | inl l ↦ inl (omega (arith, l))
  | inr l ↦ elim (cases_lt a (swap_address swaps)) [
    | inl m ↦ absurd (let u : nat_lt a (swap_address swaps) ≡ true = grind (arith, nat_tests) in let t : nat_lt a 16 ≡ false = grind (arith, nat_tests) in cc)
    | inr m ↦ inr (omega (arith, m))
  ]
]

module _ (c : Config) (x : Instant) (old new : SwapMemory) (seen : IsSeen c old x) (p : Passes c x old new) where
  named-same : (a : ℕ) → is_named new a ≡ is_named old a
  named-same a = ap (λ z. is_among z a) p.same.begun

  outside-new : (a : ℕ) → IsOutside old.swaps a → IsOutside new.swaps a
  outside-new a o = subst (λ n. IsOutside n a) (sym p.same.swaps) o

  -- a word that stays in the caches where it is private is answered as before
  answer-stays : (a : ℕ) → (IsOutside old.swaps a → is_named old a ≡ false → slice_index new.cached a ≡ slice_index old.cached a) → answer_at new a ≡ answer_at old a
  answer-stays a stay = outer (is_outside old.swaps a) refl
    where
      inner : IsOutside old.swaps a → (t : Bool) → is_named old a ≡ t → answer_at new a ≡ answer_at old a
      inner o true e = answer-named new a (outside-new a o) (named-same a ∙ e) ∙ (p.quiet.values a e ∙ sym (answer-named old a o e))
      inner o false e = answer-private new a (outside-new a o) (named-same a ∙ e) ∙ (stay o e ∙ sym (answer-private old a o e))

      outer : (t : Bool) → is_outside old.swaps a ≡ t → answer_at new a ≡ answer_at old a
      outer true e = inner (outside-by old.swaps a e) (is_named old a) refl
      outer false e = inside-answers new a (ap (λ n. is_outside n a) p.same.swaps ∙ e) ∙ sym (inside-answers old a e)

  value-stays : (a : ℕ) → (IsOutside old.swaps a → is_named old a ≡ false → slice_index new.cached a ≡ slice_index old.cached a) → (next_instant new x).value a ≡ x.value a
  value-stays a stay = answer-stays a stay ∙ ap (λ f. f a) (sym seen.value)

-- an own word that is settled is durable
kept : (c : Config) (x : Instant) (old new : SwapMemory) (v : Scene) → IsSeen c old x → Passes c x old new → IsScene v → v.past.config ≡ c → here v ≡ x →
    (a : ℕ) → IsMine v a → is_settled_at new a ≡ true → IsDurableAt (next_instant new x) a
kept c x old new v seen p good same at a mine settled =
    let private : is_named old a ≡ false = own-private c x old v seen good same at a mine in
    let o : IsOutside old.swaps a = own-outside c old v seen.swaps good same a mine in
    record {
      image = sym (settled-same new a settled) ∙ sym (answer-private new a (outside-new c x old new seen p a o) (named-same c x old new seen p a ∙ private));
      settled = settled;
    }

pub leaves-all : ActsLeaveAll
leaves-all c x old new v seen p all good same at = record {
  value = λ a. value-stays c x old new seen p a (all a) ∙ ap (λ z. z.value a) (sym at);
  reached = λ k. ap (λ z. z.reached k) (sym at);
  effects = ap (λ z. z.effects) (sym at);
  flushed = λ a mine f. kept c x old new v seen p good same at a mine (settled a mine f);
}
  where
    settled : (a : ℕ) → IsMine v a → IsFlushed v a → is_settled_at new a ≡ true
    settled a mine f =
        p.settled a (all a (own-outside c old v seen.swaps good same a mine) (own-private c x old v seen good same at a mine)) (ap (λ g. g a) (sym seen.settled) ∙ (ap (λ z. z.settled a) (sym at) ∙ f.settled))

pub stores-seen : StoresAreSeen
stores-seen c x old new a v seen p s = record {
  value = answer-private new a (outside-new c x old new seen p a s.outside) (named-same c x old new seen p a ∙ s.private) ∙ s.cached;
  others = λ b ne. value-stays c x old new seen p b (λ o e. s.others b ne);
  image = λ b. s.durable b ∙ ap (λ f. f b) (sym seen.image);
  settled = λ b ne. settled-alike old new b s.past (s.others b ne) (s.durable b) ∙ ap (λ f. f b) (sym seen.settled);
  reached = λ k. refl;
  effects = refl;
}

pub flushes-seen : FlushesAreSeen
flushes-seen c x old new line v seen p all good same at settles a in-line mine = kept c x old new v seen p good same at a mine (settles a in-line mine (own-private c x old v seen good same at a mine))
