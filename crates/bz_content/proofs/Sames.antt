-- A node whose words resolve to what they did and whose records stand as they stood breaks no rule anew.
use Rattle.std.proofs.Common.{◌≡◌, ◌≢◌, ℕ, ◌+◌, ◌-◌, ◌<◌, ◌==◌, if◌then◌else◌, true, false, List, arith, refl, ap, subst, ◌∙◌, inl, inr, Option}
use Rattle.std.specs.Prelude.{nat_lt, None}
use Rattle.std.proofs.lemmas.Bool.{cases_lt}
use Rattle.std.proofs.lemmas.Bool.Decides.{nat_tests}
use Rattle.bz_layout.specs.Addresses.{node_address}
use Rattle.bz_layout.specs.declared.config.Config.{Config}
use Rattle.bz_layout.specs.declared.sizes.TheConstants.{NODE_WORDS}
use Rattle.bz_tree.specs.Slots.{SameSlot}
use Rattle.bz_slotted.specs.InnerChanges.{StandsAlike}
use Rattle.bz_slotted.specs.Readers.{level_of, count_of, child_of, key_of, found_of}
use Rattle.bz_slotted.specs.Rules.{node_fault}
use Rattle.bz_slotted.proofs.Proved.{standing_is_quiet}
use Rattle.bz_content.specs.Image.{Image, node}
use Rattle.bz_content.specs.Changes.{SameNode, SameRoot}
use Rattle.bz_content.specs.View.{root_fault, view_of}
use Rattle.bz_content.proofs.Honesty.{no}
use Rattle.bz_content.proofs.Reached.{level-is}

-- the words of a slot, as a function
pub node-same : (c : Config) (k : ℕ) (f g : ℕ → ℕ) → ((i : ℕ) → i < NODE_WORDS → g (node_address c k + i) ≡ f (node_address c k + i)) → node c g k ≡ node c f k
unfolding node
node-same c k f g same = λ t i. at i t
  where
    at : (i : ℕ) → (if nat_lt i NODE_WORDS then g (node_address c k + i) else 0) ≡ (if nat_lt i NODE_WORDS then f (node_address c k + i) else 0)
    at i = elim (cases_lt i NODE_WORDS) [
      | inl l ↦ ap (λ x. if nat_lt i NODE_WORDS then x else 0) (same i l)
      | inr g ↦ let a : nat_lt i NODE_WORDS ≡ false = grind (arith, nat_tests) in rw a refl
    ]

pub same-slot : (c : Config) (x y : Image) (k : ℕ) → k ≢ c.nodes → SameNode c x y k → SameSlot (view_of c x) (view_of c y) k
same-slot c x y k ne s = record {
  count = rw (no k c.nodes ne) (ap count_of same);
  child = λ i. rw (no k c.nodes ne) (ap (λ n. child_of n i) same);
  key = λ i. rw (no k c.nodes ne) (ap (λ n. key_of n i) same);
  found = λ key. rw (no k c.nodes ne) (ap (λ n. found_of n key) same);
  fault = λ l lo hi e. rw (no k c.nodes ne) (ap (λ n. node_fault c.nodes (node c y.raw k) n l lo hi) same ∙ kept l lo hi (rw (no k c.nodes ne) at e));
}
  where
    same : node c y.words k ≡ node c x.words k
    same = node-same c k x.words y.words s.words

    kept : (l : ℕ) (lo hi : Option (List ℕ)) → node_fault c.nodes (node c x.raw k) (node c x.words k) l lo hi ≡ None → node_fault c.nodes (node c y.raw k) (node c x.words k) l lo hi ≡ None
    kept l lo hi e =
        let level : level_of (node c x.words k) ≡ l = level-is c.nodes l (node c x.raw k) (node c x.words k) lo hi e in
        standing_is_quiet c.nodes (node c x.raw k) (node c y.raw k) (node c x.words k) l lo hi e
        (subst (λ z. StandsAlike (node c x.raw k) (node c y.raw k) (node c x.words k) z) level s.stands)

pub same-super : (c : Config) (x y : Image) → SameRoot x y → SameSlot (view_of c x) (view_of c y) c.nodes
same-super c x y s = record {
  count = rw is refl;
  child = λ i. rw is (ap (λ p. if i == 0 then p - 1 else 0) s.pointer);
  key = λ i. rw is refl;
  found = λ key. rw is refl;
  fault = λ l lo hi e. rw is ((λ t. root_fault c.nodes (s.pointer t) (s.status t)) ∙ (rw is at e));
}
  where
    is : (c.nodes == c.nodes) ≡ true
    is = grind (arith, nat_tests)
