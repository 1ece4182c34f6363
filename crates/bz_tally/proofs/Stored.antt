-- Nodes that a task has stored whole, each into a slot of its own: the slots are fresh, and hold the words.
use Rattle.std.proofs.Common.{◌≡◌, ℕ, ◌*◌, ◌<◌, List, arith, sym, ◌∙◌, inl, inr}
use Rattle.std.proofs.lemmas.Bool.{cases_lt}
use Rattle.std.proofs.lemmas.List.{get_or_past}
use Rattle.bz_layout.specs.declared.sizes.TheConstants.{NODE_WORDS, NODE_LINES}
use Rattle.bz_layout.specs.declared.thresholds.TheConstants.{SPLIT_SLOTS}
use Rattle.bz_tree.specs.Split.{AreThree}
use Rattle.bz_slotted.specs.ReadingLaws.{node_of}
use Rattle.bz_task.specs.Instant.{words}
use Rattle.bz_task.specs.Scene.{Scene, here}
use Rattle.bz_renew.specs.LinkSwaps.{IsFresh}
use Rattle.bz_renew.specs.Nodes.{ArePlain, AreWriting}
use Rattle.bz_renew.proofs.Words.{node-at, node-past}
use Rattle.bz_split.specs.Facts.{SPLIT_WORDS, SPLIT_LINES}

-- several nodes
module _ (count : ℕ) (slot : ℕ → ℕ) (image : ℕ → List ℕ) (s : Scene) (plain : ArePlain (record { count = count; slot = slot; image = image })) (w : AreWriting (record { count = count; slot = slot; image = image }) (NODE_WORDS * count) (NODE_LINES * count) s) where
  pub each-held : (n : ℕ) → n < count → words s.past.config (here s) (slot n) ≡ node_of (image n)
  each-held n h = λ t i. each i t
    where
      each : (i : ℕ) → words s.past.config (here s) (slot n) i ≡ node_of (image n) i
      each i = elim (cases_lt i NODE_WORDS) [
        | inl l ↦ node-at s.past.config (here s).value (slot n) i l ∙ w.stored_is n i h l (omega (arith, h, l))
        | inr l ↦ node-past s.past.config (here s).value (slot n) i l ∙ sym (get_or_past (image n) i 0 (omega (arith, l, plain.size n h)))
      ]

  pub each-fresh : (n : ℕ) → n < count → IsFresh s (slot n)
  each-fresh n h = record { slot = w.slots.within n h; own = λ i l. record { mine = w.mine n i h l; flushed = w.flushed n i h l (omega (arith, h, l)) } }

-- the three of a split
module _ (slot : ℕ → ℕ) (image : ℕ → List ℕ) (s : Scene) (plain : ArePlain (record { count = SPLIT_SLOTS; slot = slot; image = image })) (w : AreWriting (record { count = SPLIT_SLOTS; slot = slot; image = image }) SPLIT_WORDS SPLIT_LINES s) where
  pub node-held : (n : ℕ) → n < SPLIT_SLOTS → words s.past.config (here s) (slot n) ≡ node_of (image n)
  node-held = each-held SPLIT_SLOTS slot image s plain w

  pub node-fresh : (n : ℕ) → n < SPLIT_SLOTS → IsFresh s (slot n)
  node-fresh = each-fresh SPLIT_SLOTS slot image s plain w

  pub are-three : AreThree (slot 0) (slot 1) (slot 2)
  are-three = record {
    q_l = λ e. absurd (omega (arith, w.slots.apart 0 1 (omega arith) (omega arith) e));
    q_r = λ e. absurd (omega (arith, w.slots.apart 0 2 (omega arith) (omega arith) e));
    l_r = λ e. absurd (omega (arith, w.slots.apart 1 2 (omega arith) (omega arith) e));
  }
