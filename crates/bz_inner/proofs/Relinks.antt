-- The entries of a swap that turns the root pointer and freezes nodes: what they set and leave, what they ask, and what their targets are.
use Rattle.std.proofs.Common.{◌≡◌, ◌≢◌, ℕ, ◌+◌, ◌<◌, ◌==◌, ◌||◌, ◌⊎◌, Bool, true, false, List, [], ◌∷◌, arith, refl, sym, ap, ◌∙◌, inl, inr}
use Rattle.std.specs.Prelude.{All}
use Rattle.std.proofs.lemmas.Bool.Decides.{nat_tests}
use Rattle.std.proofs.lemmas.List.Elements.{All-head}
use Rattle.bz_layout.specs.Addresses.{node_address}
use Rattle.bz_layout.specs.declared.config.Config.{Config}
use Rattle.bz_layout.specs.declared.sizes.TheConstants.{NODE_WORDS, STATUS_AT, ROOT_AT}
use Rattle.bz_layout.proofs.Laws.{slots_apart}
use Rattle.bz_tree.specs.Walk.{is_among}
use Rattle.bz_word.specs.declared.entry.Entry.{Entry}
use Rattle.bz_task.specs.FromSwap.SwapMemory.{is_target}
use Rattle.bz_task.proofs.FromSwap.EntryLists.{target-inserted}
use Rattle.bz_task.specs.Scene.{Scene, here}
use Rattle.bz_task.specs.Steps.{frozen_word}
use Rattle.bz_task.specs.Swaps.{Stand, swapped}
use Rattle.bz_renew.specs.Freezings.{Freezing, slots_of, freezing_entry, IsFreezable, AreFreezable}
use Rattle.bz_renew.proofs.Freezings.{IsFar, slot-far}
use Rattle.bz_renew.proofs.Inserting.{inserted-other, inserted-hit, all-inserted-first, all-inserted-others}
use Rattle.bz_renew.proofs.Words.{or-right}
use Rattle.bz_inner.specs.Relinks.{root_entry, relink_with}

no : (a b : ℕ) → a ≢ b → (a == b) ≡ false
no a b ne = grind (arith, nat_tests)

first : (f : Freezing) (fs : List Freezing) → is_among (slots_of (f ∷ fs)) f.slot ≡ true
first f fs = let t : (f.slot == f.slot) ≡ true = grind (arith, nat_tests) in rw t refl

rest-far : (c : Config) (f : Freezing) (fs : List Freezing) (a : ℕ) → IsFar c (f ∷ fs) a → IsFar c fs a
rest-far c f fs a far k e = far k (or-right (f.slot == k) (is_among (slots_of fs) k) e)

-- no word of a slot is the root pointer
pub not-root : (c : Config) (k i : ℕ) → (ROOT_AT == node_address c k + i) ≡ false
not-root c k i = no ROOT_AT (node_address c k + i) (λ e. absurd (omega (arith, e)))

module _ (c : Config) (old to : ℕ) where
  -- every other address than the statuses has what the root's entry gives it
  pub far-set : (fs : List Freezing) (g : ℕ → ℕ) (a : ℕ) → IsFar c fs a → swapped (relink_with c old to fs) g a ≡ swapped (root_entry old to ∷ []) g a
  far-set [] g a far = refl
  far-set (f ∷ fs) g a far = inserted-other (freezing_entry c f) (relink_with c old to fs) g a (far f.slot (first f fs)) ∙ far-set fs g a (rest-far c f fs a far)

  pub far-target : (fs : List Freezing) (a : ℕ) → IsFar c fs a → is_target (relink_with c old to fs) a ≡ is_target (root_entry old to ∷ []) a
  far-target [] a far = refl
  far-target (f ∷ fs) a far =
      target-inserted (freezing_entry c f) (relink_with c old to fs) a ∙ (rw (no (node_address c f.slot + STATUS_AT) a (far f.slot (first f fs))) (far-target fs a (rest-far c f fs a far)))

  -- a target is the root pointer, or the status of a node that is frozen
  pub named-by : (fs : List Freezing) (a : ℕ) → is_target (relink_with c old to fs) a ≡ true → (is_target (root_entry old to ∷ []) a ≡ true) ⊎ ((k : ℕ) × ((is_among (slots_of fs) k ≡ true) × (node_address c k + STATUS_AT ≡ a)))
  named-by [] a h = inl h
  named-by (f ∷ fs) a h = go (node_address c f.slot + STATUS_AT == a) refl (sym (target-inserted (freezing_entry c f) (relink_with c old to fs) a) ∙ h) (named-by fs a)
    where
      go : (t : Bool) → (node_address c f.slot + STATUS_AT == a) ≡ t → (t || is_target (relink_with c old to fs) a) ≡ true
          → (is_target (relink_with c old to fs) a ≡ true → (is_target (root_entry old to ∷ []) a ≡ true) ⊎ ((k : ℕ) × ((is_among (slots_of fs) k ≡ true) × (node_address c k + STATUS_AT ≡ a))))
          → (is_target (root_entry old to ∷ []) a ≡ true) ⊎ ((k : ℕ) × ((is_among (slots_of (f ∷ fs)) k ≡ true) × (node_address c k + STATUS_AT ≡ a)))
      go true e q further = inr (f.slot, (first f fs, grind (arith, nat_tests)))
      go false e q further = elim (further q) [ inl r ↦ inl r | inr w ↦ inr (w.0, (or-right (f.slot == w.0) (is_among (slots_of fs) w.0) w.1.0, w.1.1)) ]

  -- the root pointer goes to the new root
  pub set-root : (fs : List Freezing) (g : ℕ → ℕ) → swapped (relink_with c old to fs) g ROOT_AT ≡ to + 1
  set-root fs g = far-set fs g ROOT_AT (λ k e z. absurd (omega (arith, z))) ∙ refl

  -- what holds of all entries holds of the root's
  pub root-holds : (P : Entry → Type 0) (fs : List Freezing) → All P (relink_with c old to fs) → P (root_entry old to)
  root-holds P [] h = All-head P (root_entry old to) [] h
  root-holds P (f ∷ fs) h = root-holds P fs (all-inserted-others P (freezing_entry c f) (relink_with c old to fs) h)

-- a node that is frozen: its status as it was read and as it is still, and what the swap sets there
pub record IsFrozenBy (old to : ℕ) (fs : List Freezing) (s : Scene) (k : ℕ) : Type 0 where
  pub word : ℕ
  pub freezable : IsFreezable (record { slot = k; status = word }) s
  pub stands : (here s).value (node_address s.past.config k + STATUS_AT) ≡ word
  pub sets : (g : ℕ → ℕ) → swapped (relink_with s.past.config old to fs) g (node_address s.past.config k + STATUS_AT) ≡ frozen_word word

module _ (old to : ℕ) (s : Scene) where
  pub frozen-by : (fs : List Freezing) → AreFreezable fs s → Stand (relink_with s.past.config old to fs) (here s) → (k : ℕ) → is_among (slots_of fs) k ≡ true → IsFrozenBy old to fs s k
  frozen-by [] are stand k e = absurd (cc)
  frozen-by (f ∷ fs) are stand k e = go (f.slot == k) refl e (frozen-by fs are.1.1 (all-inserted-others (λ (z : Entry). (here s).value z.target ≡ z.expected) (freezing_entry s.past.config f) (relink_with s.past.config old to fs) stand) k)
    where
      none : is_target (root_entry old to ∷ []) (node_address s.past.config k + STATUS_AT) ≡ false
      none = rw (not-root s.past.config k STATUS_AT) refl

      go : (t : Bool) → (f.slot == k) ≡ t → (t || is_among (slots_of fs) k) ≡ true → (is_among (slots_of fs) k ≡ true → IsFrozenBy old to fs s k) → IsFrozenBy old to (f ∷ fs) s k
      go true q h further =
          let same : f.slot ≡ k = grind (arith, nat_tests) in
          let place : node_address s.past.config f.slot + STATUS_AT ≡ node_address s.past.config k + STATUS_AT = ap (λ z. node_address s.past.config z + STATUS_AT) same in
          let out : is_among (slots_of fs) k ≡ false = ap (is_among (slots_of fs)) (sym same) ∙ are.1.0 in
          record {
            word = f.status;
            freezable = record { reached = ap (here s).reached (sym same) ∙ are.0.reached; plain = are.0.plain; thawed = are.0.thawed };
            stands = ap (here s).value (sym place) ∙ all-inserted-first (λ (z : Entry). (here s).value z.target ≡ z.expected) (freezing_entry s.past.config f) (relink_with s.past.config old to fs) stand;
            sets = λ g. inserted-hit (freezing_entry s.past.config f) (relink_with s.past.config old to fs) g (node_address s.past.config k + STATUS_AT) place (far-target s.past.config old to fs (node_address s.past.config k + STATUS_AT) (slot-far slots_apart s.past.config fs k STATUS_AT (omega arith) (inl out)) ∙ none);
          }
      go false q h further =
          let w : IsFrozenBy old to fs s k = further h in
          let ne : f.slot ≢ k = λ z. absurd (grind (arith, nat_tests, z)) in
          record {
            word = w.word;
            freezable = w.freezable;
            stands = w.stands;
            sets = λ g. inserted-other (freezing_entry s.past.config f) (relink_with s.past.config old to fs) g (node_address s.past.config k + STATUS_AT) (λ z. ne (slots_apart s.past.config f.slot k STATUS_AT STATUS_AT (omega arith) (omega arith) z).0) ∙ w.sets g;
          }
