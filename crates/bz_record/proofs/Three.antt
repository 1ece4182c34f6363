-- What a swap of a leaf's status and of two of its metadata words sets and leaves.
use Rattle.std.proofs.Common.{◌≡◌, ◌≢◌, ℕ, ◌+◌, ◌<◌, ◌==◌, ◌||◌, ◌⊎◌, Bool, true, false, List, [], ◌∷◌, arith, refl, sym, ◌∙◌, inl, inr}
use Rattle.std.proofs.lemmas.Bool.{cases_lt}
use Rattle.std.proofs.lemmas.Bool.Decides.{nat_tests}
use Rattle.bz_layout.specs.Addresses.{node_address}
use Rattle.bz_layout.specs.declared.config.Config.{Config}
use Rattle.bz_layout.specs.declared.sizes.TheConstants.{NODE_WORDS, STATUS_AT, META_AT}
use Rattle.bz_word.specs.declared.entry.Entry.{Entry}
use Rattle.bz_content.specs.Resolving.{resolve}
use Rattle.bz_task.specs.FromSwap.SwapMemory.{is_target}
use Rattle.bz_task.specs.Instant.{Instant, words, durable}
use Rattle.bz_task.specs.Laws.{SlotWords}
use Rattle.bz_task.specs.Swaps.{swapped}

-- what three entries set and leave
set-first : (e f g : Entry) (h : ℕ → ℕ) (a : ℕ) → e.target ≡ a → swapped (e ∷ f ∷ g ∷ []) h a ≡ e.new
set-first e f g h a p = let t : (e.target == a) ≡ true = grind (arith, nat_tests) in rw t refl

set-second : (e f g : Entry) (h : ℕ → ℕ) (a : ℕ) → e.target ≢ a → f.target ≡ a → swapped (e ∷ f ∷ g ∷ []) h a ≡ f.new
set-second e f g h a n p =
    let t : (e.target == a) ≡ false = grind (arith, nat_tests) in
    let u : (f.target == a) ≡ true = grind (arith, nat_tests) in rw (t, u) refl

set-third : (e f g : Entry) (h : ℕ → ℕ) (a : ℕ) → e.target ≢ a → f.target ≢ a → g.target ≡ a → swapped (e ∷ f ∷ g ∷ []) h a ≡ g.new
set-third e f g h a n m p =
    let t : (e.target == a) ≡ false = grind (arith, nat_tests) in
    let u : (f.target == a) ≡ false = grind (arith, nat_tests) in
    let v : (g.target == a) ≡ true = grind (arith, nat_tests) in rw (t, u, v) refl

leave-all : (e f g : Entry) (h : ℕ → ℕ) (a : ℕ) → e.target ≢ a → f.target ≢ a → g.target ≢ a → swapped (e ∷ f ∷ g ∷ []) h a ≡ h a
leave-all e f g h a n m o =
    let t : (e.target == a) ≡ false = grind (arith, nat_tests) in
    let u : (f.target == a) ≡ false = grind (arith, nat_tests) in
    let v : (g.target == a) ≡ false = grind (arith, nat_tests) in rw (t, u, v) refl

-- an address of one of them
pub one-of : (e f g : Entry) (a : ℕ) → is_target (e ∷ f ∷ g ∷ []) a ≡ true → (a ≡ e.target) ⊎ ((a ≡ f.target) ⊎ (a ≡ g.target))
one-of e f g a h = go (e.target == a) (f.target == a) (g.target == a) refl refl refl h
  where
    go : (t u v : Bool) → (e.target == a) ≡ t → (f.target == a) ≡ u → (g.target == a) ≡ v → t || (u || (v || false)) ≡ true → (a ≡ e.target) ⊎ ((a ≡ f.target) ⊎ (a ≡ g.target))
    go true u v p q o h = inl (grind (arith, nat_tests))
    go false true v p q o h = inr (inl (grind (arith, nat_tests)))
    go false false true p q o h = inr (inr (grind (arith, nat_tests)))
    go false false false p q o h = absurd (cc)

-- the entry of a word of a slot
abbrev pub of_slot : Config → (k i expected new : ℕ) → Entry
of_slot c k i expected new = record { target = node_address c k + i; expected = expected; new = new }

abbrev pub three : Config → (k i j st new mi ni mj nj : ℕ) → List Entry
three c k i j st new mi ni mj nj = of_slot c k STATUS_AT st new ∷ of_slot c k (META_AT + i) mi ni ∷ of_slot c k (META_AT + j) mj nj ∷ []

module _ (c : Config) (k i j st new mi ni mj nj : ℕ) (x y : Instant) (slot : SlotWords c (three c k i j st new mi ni mj nj) x y k) (ne : i ≢ j) (first : META_AT + i < NODE_WORDS) (second : META_AT + j < NODE_WORDS) where
  far : (a b : ℕ) → a ≢ b → node_address c k + a ≢ node_address c k + b
  far a b n e = n (omega (arith, e))

  at-status : (h : ℕ → ℕ) → swapped (three c k i j st new mi ni mj nj) h (node_address c k + STATUS_AT) ≡ new
  at-status h = set-first (of_slot c k STATUS_AT st new) (of_slot c k (META_AT + i) mi ni) (of_slot c k (META_AT + j) mj nj) h (node_address c k + STATUS_AT) refl

  at-first : (h : ℕ → ℕ) → swapped (three c k i j st new mi ni mj nj) h (node_address c k + (META_AT + i)) ≡ ni
  at-first h = set-second (of_slot c k STATUS_AT st new) (of_slot c k (META_AT + i) mi ni) (of_slot c k (META_AT + j) mj nj) h (node_address c k + (META_AT + i)) (far STATUS_AT (META_AT + i) (λ e. omega (arith, e))) refl

  at-second : (h : ℕ → ℕ) → swapped (three c k i j st new mi ni mj nj) h (node_address c k + (META_AT + j)) ≡ nj
  at-second h = set-third (of_slot c k STATUS_AT st new) (of_slot c k (META_AT + i) mi ni) (of_slot c k (META_AT + j) mj nj) h (node_address c k + (META_AT + j)) (far STATUS_AT (META_AT + j) (λ e. omega (arith, e))) (far (META_AT + i) (META_AT + j) (λ e. ne (omega (arith, e)))) refl

  at-other : (h : ℕ → ℕ) (a : ℕ) → a ≢ STATUS_AT → a ≢ META_AT + i → a ≢ META_AT + j → swapped (three c k i j st new mi ni mj nj) h (node_address c k + a) ≡ h (node_address c k + a)
  at-other h a n m o = leave-all (of_slot c k STATUS_AT st new) (of_slot c k (META_AT + i) mi ni) (of_slot c k (META_AT + j) mj nj) h (node_address c k + a) (far STATUS_AT a (λ e. n (sym e))) (far (META_AT + i) a (λ e. m (sym e))) (far (META_AT + j) a (λ e. o (sym e)))

  pub sets-status : words c y k STATUS_AT ≡ new
  sets-status = (slot.within STATUS_AT (omega arith)).value ∙ at-status x.value

  pub sets-durable-status : durable c y k STATUS_AT ≡ new
  sets-durable-status = (slot.within STATUS_AT (omega arith)).durable_value ∙ at-status (resolve x.image)

  pub sets-first : words c y k (META_AT + i) ≡ ni
  sets-first = (slot.within (META_AT + i) first).value ∙ at-first x.value

  pub sets-durable-first : durable c y k (META_AT + i) ≡ ni
  sets-durable-first = (slot.within (META_AT + i) first).durable_value ∙ at-first (resolve x.image)

  pub sets-second : words c y k (META_AT + j) ≡ nj
  sets-second = (slot.within (META_AT + j) second).value ∙ at-second x.value

  pub sets-durable-second : durable c y k (META_AT + j) ≡ nj
  sets-durable-second = (slot.within (META_AT + j) second).durable_value ∙ at-second (resolve x.image)

  pub leaves-others : (a : ℕ) → a ≢ STATUS_AT → a ≢ META_AT + i → a ≢ META_AT + j → words c y k a ≡ words c x k a
  leaves-others a n m o = elim (cases_lt a NODE_WORDS) [
    | inl l ↦ (slot.within a l).value ∙ (at-other x.value a n m o ∙ sym (slot.within a l).before)
    | inr l ↦ slot.past a l
  ]

  pub leaves-durable-others : (a : ℕ) → a ≢ STATUS_AT → a ≢ META_AT + i → a ≢ META_AT + j → durable c y k a ≡ durable c x k a
  leaves-durable-others a n m o = elim (cases_lt a NODE_WORDS) [
    | inl l ↦ (slot.within a l).durable_value ∙ (at-other (resolve x.image) a n m o ∙ sym (slot.within a l).resolved)
    | inr l ↦ slot.durable_past a l
  ]
