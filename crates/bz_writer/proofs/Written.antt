-- Once all words of a plan's nodes are stored and durable, each slot holds its node; and so it does one moment after the swap.
use Rattle.std.proofs.Common.{◌≡◌, ℕ, ◌+◌, ◌<◌, false, List, arith, sym, ap, subst, ◌∙◌, inl, inr}
use Rattle.std.specs.Prelude.{slice_index}
use Rattle.std.proofs.lemmas.Bool.{cases_lt}
use Rattle.std.proofs.lemmas.List.{get_or_past}
use Rattle.bz_layout.specs.Addresses.{node_address}
use Rattle.bz_layout.specs.declared.config.Config.{Config}
use Rattle.bz_layout.specs.declared.sizes.TheConstants.{NODE_WORDS}
use Rattle.bz_slotted.specs.ReadingLaws.{node_of}
use Rattle.bz_word.specs.declared.entry.Entry.{Entry}
use Rattle.bz_task.specs.Instant.{Instant, words}
use Rattle.bz_task.specs.Scene.{Scene, IsScene, here}
use Rattle.bz_task.specs.Swaps.{Takes}
use Rattle.bz_renew.specs.LinkSwaps.{IsFresh}
use Rattle.bz_renew.proofs.FreshSlots.{unreached}
use Rattle.bz_renew.proofs.Words.{node-at, node-past}
use Rattle.bz_writer.specs.Laws.{IsWritten}
use Rattle.bz_writer.specs.Plans.{Plan}

module _ (P : Plan) (s : Scene) (w : IsWritten P s) (n : ℕ) (h : n < P.nodes.count) where
  pub holds : words s.past.config (here s) (P.nodes.slot n) ≡ node_of (P.nodes.image n)
  holds = λ t i. each i t
    where
      each : (i : ℕ) → words s.past.config (here s) (P.nodes.slot n) i ≡ node_of (P.nodes.image n) i
      each i = elim (cases_lt i NODE_WORDS) [
        | inl l ↦ node-at s.past.config (here s).value (P.nodes.slot n) i l ∙ w.writing.stored_is n i h l (omega (arith, h, l))
        | inr l ↦ node-past s.past.config (here s).value (P.nodes.slot n) i l ∙ sym (get_or_past (P.nodes.image n) i 0 (omega (arith, l, w.plain.size n h)))
      ]

  pub fresh : IsFresh s (P.nodes.slot n)
  fresh = record { slot = w.writing.slots.within n h; own = λ i l. record { mine = w.writing.mine n i h l; flushed = w.writing.flushed n i h l (omega (arith, h, l)) } }

  module _ (good : IsScene s) (entries : List Entry) (after : Scene) (takes : Takes false entries s after) where
    pub was-unreached : (after.past.at s.past.now).reached (P.nodes.slot n) ≡ false
    was-unreached = ap (λ (x : Instant). x.reached (P.nodes.slot n)) (takes.continues.at s.past.now (omega arith)) ∙ unreached s (P.nodes.slot n) good fresh

    pub stood : (i : ℕ) → i < NODE_WORDS → (after.past.at (s.past.now + 1)).value (node_address after.past.config (P.nodes.slot n) + i) ≡ slice_index (P.nodes.image n) i
    stood i l = subst (λ (m : ℕ). (after.past.at m).value (node_address after.past.config (P.nodes.slot n) + i) ≡ slice_index (P.nodes.image n) i) takes.continues.now
        (subst (λ (k : Config). (here after).value (node_address k (P.nodes.slot n) + i) ≡ slice_index (P.nodes.image n) i) (sym takes.continues.config)
        (takes.keeps (node_address s.past.config (P.nodes.slot n) + i) (w.writing.mine n i h l) ∙ w.writing.stored_is n i h l (omega (arith, h, l))))
