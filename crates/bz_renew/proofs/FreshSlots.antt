-- A fresh slot before and after the swap of a renewal: it was not reached, and its words stand, resolve and are read as they
-- were stored.
use Rattle.std.proofs.Common.{◌≡◌, ◌≢◌, ℕ, ◌+◌, ◌^◌, ◌<◌, Bool, true, false, List, arith, refl, sym, subst, ◌∙◌, inl, inr}
use Rattle.std.proofs.lemmas.Bool.{true≢false, cases_lt}
use Rattle.bz_layout.specs.Addresses.{node_address}
use Rattle.bz_layout.specs.declared.sizes.TheConstants.{NODE_WORDS}
use Rattle.bz_tree.specs.Walk.{is_among}
use Rattle.bz_task.specs.FromSwap.SwapMemory.{is_target}
use Rattle.bz_word.specs.declared.entry.Entry.{Entry}
use Rattle.bz_task.specs.FromContent.Image.{node}
use Rattle.bz_task.specs.FromContent.Laws.{PlainWordsStandForThemselves}
use Rattle.bz_task.specs.FromContent.Resolving.{resolve}
use Rattle.bz_task.specs.Good.{IsGood}
use Rattle.bz_task.specs.Instant.{Instant, words, durable, is_inside}
use Rattle.bz_task.specs.Scene.{Scene, IsScene, here}
use Rattle.bz_task.specs.Swaps.{SwapsTo, IsMineAndDurable}
use Rattle.bz_task.specs.declared.path.Link.{Link}
use Rattle.bz_renew.specs.LinkSwaps.{IsChanged, IsFresh}
use Rattle.bz_renew.specs.Renewals.{renewal}
use Rattle.bz_renew.specs.Turning.{TurnsAt}
use Rattle.bz_renew.proofs.Words.{untouched, node-at, node-past}

module _ (s : Scene) (new : ℕ) (good : IsScene s) (fresh : IsFresh s new) where
  pub unreached : (here s).reached new ≡ false
  unreached = go ((here s).reached new) refl
    where
      go : (t : Bool) → (here s).reached new ≡ t → (here s).reached new ≡ false
      go false e = e
      go true e = absurd ((fresh.own 0 (omega arith)).mine.hidden new 0 e (omega arith) refl (inl (omega arith)))

  pub outside-tree : is_inside s.past.config (here s) new ≡ false
  outside-tree = go (is_inside s.past.config (here s) new) refl
    where
      go : (t : Bool) → is_inside s.past.config (here s) new ≡ t → is_inside s.past.config (here s) new ≡ false
      go false e = e
      go true e =
          let g : IsGood s.past.config (here s) = good.history.good s.past.now good.begun (omega arith) in
          let ne : new ≢ s.past.config.nodes = λ q. absurd (omega (arith, q, fresh.slot)) in
          absurd (true≢false (sym (g.inside new e ne) ∙ unreached))

  -- what was stored there resolves to itself
  pub stored : PlainWordsStandForThemselves → (i : ℕ) → i < NODE_WORDS → resolve (here s).image (node_address s.past.config new + i) ≡ (here s).value (node_address s.past.config new + i)
  stored plain i l =
      let own : IsMineAndDurable s (node_address s.past.config new + i) = fresh.own i l in
      let v : (here s).value (node_address s.past.config new + i) < 2 ^ 61 = (good.mine (node_address s.past.config new + i) own.mine).1.1 in
      plain (here s).image (node_address s.past.config new + i) (subst (λ z. z < 2 ^ 61) (sym own.flushed.image) v) ∙ own.flushed.image

-- any swap that names none of its words
module _ (plain : PlainWordsStandForThemselves) (entries : List Entry) (s : Scene) (y : Instant) (new : ℕ) (good : IsScene s) (fresh : IsFresh s new) (unnamed : (i : ℕ) → i < NODE_WORDS → is_target entries (node_address s.past.config new + i) ≡ false) (swaps : SwapsTo s.past.config entries (here s) y) where
  pub raw-stays : node s.past.config y.image new ≡ words s.past.config (here s) new
  raw-stays = λ z k. each k z
    where
      each : (k : ℕ) → node s.past.config y.image new k ≡ words s.past.config (here s) new k
      each k = elim (cases_lt k NODE_WORDS) [
        | inl l ↦ (
            let a : ℕ = node_address s.past.config new + k in
            node-at s.past.config y.image new k l ∙ (swaps.raw a (inr (omega arith)) ∙ ((fresh.own k l).flushed.image ∙ sym (node-at s.past.config (here s).value new k l))))
        | inr l ↦ node-past s.past.config y.image new k l ∙ sym (node-past s.past.config (here s).value new k l)
      ]

  pub durable-stays : durable s.past.config y new ≡ words s.past.config (here s) new
  durable-stays = λ z k. each k z
    where
      each : (k : ℕ) → durable s.past.config y new k ≡ words s.past.config (here s) new k
      each k = elim (cases_lt k NODE_WORDS) [
        | inl l ↦ (
            let a : ℕ = node_address s.past.config new + k in
            node-at s.past.config (resolve y.image) new k l
            ∙ (swaps.resolved a (inr (omega arith)) ∙ (untouched entries (resolve (here s).image) a (unnamed k l) ∙ (stored s new good fresh plain k l ∙ sym (node-at s.past.config (here s).value new k l)))))
        | inr l ↦ node-past s.past.config (resolve y.image) new k l ∙ sym (node-past s.past.config (here s).value new k l)
      ]

-- a fresh slot is none of those that change, which were reached
pub fresh-unchanged : (s : Scene) (y : Instant) (changed : List ℕ) (new : ℕ) → IsScene s → IsFresh s new → ((k : ℕ) → is_among changed k ≡ true → IsChanged s y k) → is_among changed new ≡ false
fresh-unchanged s y changed new good fresh changes = go (is_among changed new) refl
  where
    go : (b : Bool) → is_among changed new ≡ b → is_among changed new ≡ false
    go false e = e
    go true e = absurd (true≢false (sym (changes new e).reached ∙ unreached s new good fresh))

module _ (plain : PlainWordsStandForThemselves) (link : Link) (to : ℕ) (gone : List ℕ) (s : Scene) (y : Instant) (p i : ℕ) (changed : List ℕ) (new : ℕ) (good : IsScene s) (fresh : IsFresh s new) (t : TurnsAt link to gone s y p i changed) (swaps : SwapsTo s.past.config (renewal link to) (here s) y) where
  unnamed : (k : ℕ) → k < NODE_WORDS → is_target (renewal link to) (node_address s.past.config new + k) ≡ false
  unnamed k l = t.others new k (fresh-unchanged s y changed new good fresh t.changes) l

  pub raw-is : node s.past.config y.image new ≡ words s.past.config (here s) new
  raw-is = raw-stays plain (renewal link to) s y new good fresh unnamed swaps

  pub durable-is : durable s.past.config y new ≡ words s.past.config (here s) new
  durable-is = durable-stays plain (renewal link to) s y new good fresh unnamed swaps
