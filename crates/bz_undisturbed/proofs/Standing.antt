-- In a quiet time words of nodes, links and their guards have the values that were read.
use Rattle.std.proofs.Common.{◌≡◌, ℕ, ◌+◌, ◌<◌, ◌≤◌, true, arith, refl, sym, ◌∙◌, inl, inr}
use Rattle.bz_layout.specs.Addresses.{node_address}
use Rattle.bz_layout.specs.declared.sizes.TheConstants.{NODE_WORDS, STATUS_AT}
use Rattle.bz_task.specs.Good.{IsGood}
use Rattle.bz_task.specs.Instant.{words, is_inside}
use Rattle.bz_task.specs.Outcomes.{IsGuarded}
use Rattle.bz_task.specs.Scene.{Scene, IsScene, here}
use Rattle.bz_task.specs.Shown.{IsRead, IsShown}
use Rattle.bz_task.specs.declared.path.Link.{Link}
use Rattle.bz_renew.proofs.Words.{node-at}
use Rattle.bz_undisturbed.specs.Quiet.{IsQuietSince}
use Rattle.bz_undisturbed.proofs.Quiet.{read-values}

module _ (s : Scene) (good : IsScene s) (m : ℕ) (q : IsQuietSince m s.past) where
  pub good-at : (i : ℕ) → m ≤ i → i ≤ s.past.now → IsGood s.past.config (s.past.at i)
  good-at i from to = good.history.good i (omega (arith, q.since, from)) to

  -- a slot of the tree is reached
  pub reached-in : (i k : ℕ) → m ≤ i → i ≤ s.past.now → k < s.past.config.nodes → is_inside s.past.config (s.past.at i) k ≡ true → (s.past.at i).reached k ≡ true
  reached-in i k from to l e = (good-at i from to).inside k e (λ z. omega (arith, z, l))

  -- an address that was read at one moment has one value, and has it now
  pub now-as : (k i a : ℕ) → m ≤ k → k ≤ s.past.now → IsRead s.past.config (s.past.at k) a → m ≤ i → i ≤ s.past.now → (here s).value a ≡ (s.past.at i).value a
  now-as k i a from to r later until = read-values s m k a good q (record { from = from; to = to }) r s.past.now i (record { from = q.now; to = omega arith }) (record { from = later; to = until })

  -- a word that readers read
  pub word-stands : (k place i v : ℕ) → m ≤ i → i ≤ s.past.now → (s.past.at i).reached k ≡ true → place < NODE_WORDS → IsShown (words s.past.config (s.past.at i) k) place
      → words s.past.config (s.past.at i) k place ≡ v → (here s).value (node_address s.past.config k + place) ≡ v
  word-stands k place i v from to r l h e =
      now-as i i (node_address s.past.config k + place) from to (inr (inr (record { slot = k; place = place; address = refl; within = l; reached = r; shown = h }))) from to
      ∙ (sym (node-at s.past.config (s.past.at i).value k place l) ∙ e)

  -- a status
  pub status-stands : (k i st : ℕ) → m ≤ i → i ≤ s.past.now → (s.past.at i).reached k ≡ true → words s.past.config (s.past.at i) k STATUS_AT ≡ st → (here s).value (node_address s.past.config k + STATUS_AT) ≡ st
  status-stands k i st from to r e = word-stands k STATUS_AT i st from to r (omega arith) (inl (omega arith)) e

  module _ (link : Link) (g : IsGuarded s.past link) (from : m ≤ g.guarded) where
    guard-read : IsRead s.past.config (s.past.at g.guarded) link.guard
    guard-read = elim g.under [
      | inl u ↦ inr (inl u.guard)
      | inr u ↦ inr (inr (record { slot = u.parent; place = STATUS_AT; address = u.guard; within = omega arith; reached = u.reached; shown = inl (omega arith) }))
    ]

    link-read : IsRead s.past.config (s.past.at g.guarded) link.link
    link-read = elim g.under [
      | inl u ↦ inl u.pointer
      | inr u ↦ inr (inr (record { slot = u.parent; place = u.place; address = u.pointer; within = u.within; reached = u.reached; shown = inr (inr (inl u.child.inner)) }))
    ]

    -- the guard of a link, and the link
    pub guard-stands : (here s).value link.guard ≡ link.status
    guard-stands = now-as g.guarded g.guarded link.guard from (omega (arith, g.order, g.now)) guard-read from (omega (arith, g.order, g.now)) ∙ g.status

    pub link-stands : (here s).value link.link ≡ link.slot + 1
    link-stands = now-as g.guarded g.read link.link from (omega (arith, g.order, g.now)) link-read (omega (arith, from, g.order)) g.now ∙ g.slot

    pub guard-stood : (i : ℕ) → m ≤ i → i ≤ s.past.now → (s.past.at i).value link.guard ≡ link.status
    guard-stood i later until = sym (now-as g.guarded i link.guard from (omega (arith, g.order, g.now)) guard-read later until) ∙ guard-stands

    pub link-stood : (i : ℕ) → m ≤ i → i ≤ s.past.now → (s.past.at i).value link.link ≡ link.slot + 1
    link-stood i later until = sym (now-as g.guarded i link.link from (omega (arith, g.order, g.now)) link-read later until) ∙ link-stands
