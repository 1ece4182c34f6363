-- A swap that names words of one leaf alone, and not its header, leaves the number of leaves.
use Rattle.std.proofs.Common.{◌≡◌, ◌≢◌, ℕ, ◌+◌, ◌<◌, ◌==◌, ◌||◌, Bool, true, false, List, [], ◌∷◌, arith, refl, sym, ap, ◌∙◌, inl, inr}
use Rattle.std.proofs.lemmas.Bool.Decides.{nat_tests}
use Rattle.bz_layout.specs.Addresses.{node_address, IsOutsideSwaps}
use Rattle.bz_layout.specs.declared.config.Config.{Config}
use Rattle.bz_layout.specs.declared.sizes.TheConstants.{NODE_WORDS, SUPERBLOCK_WORDS, STATUS_AT, HEADER_AT, META_AT, ROOT_AT, ROOT_STATUS_AT}
use Rattle.bz_layout.proofs.Laws.{slots_apart}
use Rattle.bz_leaves.specs.Laws.{KeepsSlots, OnLeaves}
use Rattle.bz_leaves.proofs.Proved.{words_of_leaves_do_not_count}
use Rattle.bz_any_task.specs.FromMerge.Merges.{WasLeafOnce}
use Rattle.bz_record.specs.Swaps.{entries_of}
use Rattle.bz_record.specs.declared.record_swap.RecordSwap.{RecordSwap}
use Rattle.bz_slotted.specs.Readers.{level_of}
use Rattle.bz_word.specs.Headers.{header}
use Rattle.bz_word.specs.declared.entry.Entry.{Entry}
use Rattle.bz_content.specs.Content.{image_of, IsWellFormed}
use Rattle.bz_swap.specs.SwapMemory.{is_target}
use Rattle.bz_content.specs.Image.{node}
use Rattle.bz_content.specs.Resolving.{resolve}
use Rattle.bz_content.proofs.Proved.{well_formed_images_have_no_fault}
use Rattle.bz_task.specs.Good.{IsGood}
use Rattle.bz_task.specs.Instant.{Instant, form_at, is_inside}
use Rattle.bz_task.specs.Scene.{Scene, IsScene, here}
use Rattle.bz_task.specs.Swaps.{SwapsTo}
use Rattle.bz_task.proofs.Proved.{ranges_stay}
use Rattle.bz_renew.proofs.Words.{untouched, node-at, node-same}
use Rattle.bz_tally.proofs.Backs.{leaf-inside}
use Rattle.bz_tally.specs.Counts.{KeepsTheLeaves}

-- a word of slot k, and not of its header
pub record IsBody (c : Config) (k a : ℕ) : Type 0 where
  pub place : ℕ
  pub within : place < NODE_WORDS
  pub body : place ≢ HEADER_AT
  pub address : a ≡ node_address c k + place

header-same : (n m : ℕ → ℕ) → m HEADER_AT ≡ n HEADER_AT → level_of m ≡ level_of n
unfolding level_of
header-same n m e = ap (λ w. (header w).level) e

module _ (entries : List Entry) (s : Scene) (y : Instant) (k : ℕ) (good : IsScene s) (was : WasLeafOnce k s.past) (names : (a : ℕ) → is_target entries a ≡ true → IsBody s.past.config k a) (swaps : SwapsTo s.past.config entries (here s) y) where
  abbrev c : Config
  c = s.past.config

  g : IsGood c (here s)
  g = good.history.good s.past.now good.begun (omega arith)

  -- the slot is a leaf, if it is one of the tree
  flat : is_inside c (here s) k ≡ true → (form_at c (here s)).level k ≡ 0
  flat i =
      (ranges_stay c s.past.at s.past.since s.past.now was.moment s.past.now k good.history (record { since = was.since; order = was.now; until = omega arith }) (λ e. absurd (omega (arith, e, was.slot))) was.inside i).level
      ∙ was.leaf

  unless : (a : ℕ) → (IsBody c k a → ⊥) → is_target entries a ≡ false
  unless a h = go (is_target entries a) refl
    where
      go : (t : Bool) → is_target entries a ≡ t → is_target entries a ≡ false
      go true e = absurd (h (names a e))
      go false e = e

  super-untouched : (a : ℕ) → a < SUPERBLOCK_WORDS → is_target entries a ≡ false
  super-untouched a l = unless a (λ p. absurd (omega (arith, p.address, l)))

  slot-untouched : (j i : ℕ) → j ≢ k → i < NODE_WORDS → is_target entries (node_address c j + i) ≡ false
  slot-untouched j i ne l = unless (node_address c j + i) (λ p. ne (slots_apart c j k i p.place l p.within p.address).0)

  header-untouched : (j : ℕ) → is_target entries (node_address c j + HEADER_AT) ≡ false
  header-untouched j = unless (node_address c j + HEADER_AT) (λ p. p.body (sym (slots_apart c j k HEADER_AT p.place (omega arith) p.within p.address).1))

  outside : (j i : ℕ) → IsOutsideSwaps c (node_address c j + i)
  outside j i = inr (omega arith)

  resolved : (a : ℕ) → IsOutsideSwaps c a → is_target entries a ≡ false → resolve y.image a ≡ resolve (here s).image a
  resolved a out e = swaps.resolved a out ∙ untouched entries (resolve (here s).image) a e

  header-stays : (j : ℕ) → node c (resolve y.image) j HEADER_AT ≡ node c (resolve (here s).image) j HEADER_AT
  header-stays j =
      node-at c (resolve y.image) j HEADER_AT (omega arith)
      ∙ (resolved (node_address c j + HEADER_AT) (outside j HEADER_AT) (header-untouched j) ∙ sym (node-at c (resolve (here s).image) j HEADER_AT (omega arith)))

  on-leaves : OnLeaves c (image_of (here s).image) (image_of y.image)
  on-leaves = record {
    root = record { pointer = resolved ROOT_AT (inl (omega arith)) (super-untouched ROOT_AT (omega arith)); status = resolved ROOT_STATUS_AT (inl (omega arith)) (super-untouched ROOT_STATUS_AT (omega arith)) };
    inners = λ j i deep ne. record {
      words = λ p l. resolved (node_address c j + p) (outside j p) (slot-untouched j p (λ e. absurd (omega (arith, deep, ap (form_at c (here s)).level e, flat (sym (ap (is_inside c (here s)) e) ∙ i)))) l);
      stands = λ p from ptr. node-same c (here s).image y.image j (λ n l. swaps.raw (node_address c j + n) (outside j n)) p;
    };
    leaves = λ j i e. header-same (node c (resolve (here s).image) j) (node c (resolve y.image) j) (header-stays j);
  }

  pub kept : KeepsSlots s.past.config (image_of (here s).image) (image_of y.image)
  kept = let w : IsWellFormed c (here s).image = (well_formed_images_have_no_fault c (here s).image).0 g.form in words_of_leaves_do_not_count c (image_of (here s).image) (image_of y.image) w.tree on-leaves

  pub keeps : KeepsTheLeaves s y
  keeps = record { same = kept.leaves; back = λ k i. inl (sym (kept.inside k) ∙ i); stay = λ k leaf. kept.inside k ∙ leaf-inside s k leaf }

-- the entries of a leaf's status, and of one of its metadata words besides
pub names-status : (c : Config) (k : ℕ) (e : Entry) → e.target ≡ node_address c k + STATUS_AT → (a : ℕ) → is_target (e ∷ []) a ≡ true → IsBody c k a
names-status c k e is a h = go (e.target == a) refl h
  where
    go : (t : Bool) → (e.target == a) ≡ t → t || false ≡ true → IsBody c k a
    go true q h = let same : e.target ≡ a = grind (arith, nat_tests) in record { place = STATUS_AT; within = omega arith; body = λ z. absurd (omega (arith, z)); address = sym same ∙ is }
    go false q h = absurd (cc)

pub names-record : (c : Config) (w : RecordSwap) → META_AT + w.place < NODE_WORDS → (a : ℕ) → is_target (entries_of c w) a ≡ true → IsBody c w.slot a
names-record c w l a h = go (node_address c w.slot + STATUS_AT == a) refl (node_address c w.slot + (META_AT + w.place) == a) refl h
  where
    go : (t : Bool) → (node_address c w.slot + STATUS_AT == a) ≡ t → (u : Bool) → (node_address c w.slot + (META_AT + w.place) == a) ≡ u → t || (u || false) ≡ true → IsBody c w.slot a
    go true q u v h = let same : node_address c w.slot + STATUS_AT ≡ a = grind (arith, nat_tests) in record { place = STATUS_AT; within = omega arith; body = λ z. absurd (omega (arith, z)); address = sym same }
    go false q true v h =
        let same : node_address c w.slot + (META_AT + w.place) ≡ a = grind (arith, nat_tests) in record { place = META_AT + w.place; within = l; body = λ z. absurd (omega (arith, z)); address = sym same }
    go false q false v h = absurd (cc)
