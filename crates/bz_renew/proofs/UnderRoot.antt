-- The swap of a renewal where the link is the root pointer, with nodes that are frozen besides.
use Rattle.std.proofs.Common.{◌≡◌, ◌≢◌, ℕ, ◌+◌, ◌-◌, ◌^◌, ◌<◌, ◌==◌, ◌&&◌, ◌⊎◌, if◌then◌else◌, Bool, true, false, List, [], arith, refl, sym, ap, subst, ◌∙◌, inl, inr}
use Rattle.std.specs.Prelude.{nat_lt, nat_le, Some, None}
use Rattle.std.proofs.lemmas.Bool.{true≢false}
use Rattle.std.proofs.lemmas.Bool.Decides.{nat_tests}
use Rattle.bz_layout.specs.Addresses.{node_address}
use Rattle.bz_layout.specs.declared.config.Config.{Config}
use Rattle.bz_layout.specs.declared.sizes.TheConstants.{NODE_WORDS, STATUS_AT, ROOT_AT, ROOT_STATUS_AT}
use Rattle.bz_tree.specs.Form.{Fits, Stands}
use Rattle.bz_tree.specs.declared.rule.ShapeRule.TheVariants.{Root}
use Rattle.bz_tree.specs.Walk.{is_among}
use Rattle.bz_task.specs.FromSwap.SwapMemory.{is_target}
use Rattle.bz_word.specs.declared.entry.Entry.{Entry}
use Rattle.bz_task.specs.FromContent.Changes.{SameNode}
use Rattle.bz_task.specs.FromContent.Content.{image_of, view_in}
use Rattle.bz_task.specs.FromContent.Resolving.{resolve}
use Rattle.bz_task.specs.FromContent.Swaps.{TurnsLink}
use Rattle.bz_task.specs.FromContent.View.{root_fault}
use Rattle.bz_task.specs.Good.{IsGood}
use Rattle.bz_task.specs.Instant.{Instant, page_at, form_at}
use Rattle.bz_task.specs.Outcomes.{IsUnderRoot}
use Rattle.bz_task.specs.Requests.{IsTarget}
use Rattle.bz_task.specs.Scene.{Scene, IsScene, here}
use Rattle.bz_task.specs.Steps.{next_stamp}
use Rattle.bz_task.specs.Swaps.{Stand, SwapsTo, swapped}
use Rattle.bz_task.specs.declared.path.Link.{Link}
use Rattle.bz_renew.specs.Freezings.{Freezing, slots_of, renewal_with}
use Rattle.bz_renew.specs.Renewals.{link_entry, guard_entry}
use Rattle.bz_renew.specs.Turning.{TurnsWith, AreGoing, RootLinksTurn, RootLinksTurnWith}
use Rattle.bz_renew.proofs.Basis.{Laws, fits}
use Rattle.bz_renew.proofs.Freezings.{IsFrozenBy, far-set, far-target, slot-far, named-by, renewal-holds, frozen-by}
use Rattle.bz_renew.proofs.FrozenNodes.{frozen-after, frozen-changed}
use Rattle.bz_renew.proofs.Restamping.{root-restamped}
use Rattle.bz_renew.proofs.TwoEntries.{sets-first, sets-second, leaves, targets-two, no-target, both-stand}

is : (a : ℕ) → (a == a) ≡ true
is a = grind (arith, nat_tests)

root-tested : (nodes pointer status : ℕ) → root_fault nodes pointer status ≡ None → status < 2 ^ 32
unfolding root_fault
root-tested nodes pointer status e = go (nat_lt 0 pointer) (nat_le pointer nodes) (nat_lt status (2 ^ 32)) refl e
  where
    go : (a b d : Bool) → nat_lt status (2 ^ 32) ≡ d → (if a && (b && d) then None else Some Root) ≡ None → status < 2 ^ 32
    go true true true q e = grind (arith, nat_tests)
    go true true false q e = absurd (cc)
    go true false d q e = absurd (cc)
    go false b d q e = absurd (cc)

-- the root status is a stamp alone
pub root-status : Laws → (c : Config) (x : Instant) → IsGood c x → x.value ROOT_STATUS_AT < 2 ^ 32
root-status b c x g =
    let e : root_fault c.nodes (resolve x.image ROOT_AT) (resolve x.image ROOT_STATUS_AT) ≡ None = rw (is c.nodes) at (fits b c x g).super in
    subst (λ w. w < 2 ^ 32) g.root_status (root-tested c.nodes (resolve x.image ROOT_AT) (resolve x.image ROOT_STATUS_AT) e)

module _ (b : Laws) (s : Scene) (y : Instant) (link : Link) (new : ℕ) (fs : List Freezing) (gone : List ℕ) (good : IsScene s) (slot : new < s.past.config.nodes) (under : IsUnderRoot link) (going : AreGoing fs gone s)
    (stand : Stand (renewal_with s.past.config link new fs) (here s)) (swaps : SwapsTo s.past.config (renewal_with s.past.config link new fs) (here s) y) where
  g : IsGood s.past.config (here s)
  g = good.history.good s.past.now good.begun (omega arith)

  both : ((here s).value link.link ≡ link.slot + 1) × ((here s).value link.guard ≡ link.status)
  both = both-stand (link_entry link new) (guard_entry link) (here s) (renewal-holds s.past.config link new (λ (e : Entry). (here s).value e.target ≡ e.expected) fs stand)

  pointer-now : (here s).value ROOT_AT ≡ link.slot + 1
  pointer-now = ap (here s).value (sym under.pointer) ∙ both.0

  status-now : (here s).value ROOT_STATUS_AT ≡ link.status
  status-now = ap (here s).value (sym under.guard) ∙ both.1

  stamp-alone : link.status < 2 ^ 32
  stamp-alone = subst (λ z. z < 2 ^ 32) status-now (root-status b s.past.config (here s) g)

  -- the slot is the root
  slot-stands : Stands (view_in s.past.config (here s).image) (form_at s.past.config (here s)) s.past.config.nodes 0 link.slot
  slot-stands =
      let f : Fits (view_in s.past.config (here s).image) (form_at s.past.config (here s)) = fits b s.past.config (here s) g in
      let child : (view_in s.past.config (here s).image).child s.past.config.nodes 0 ≡ link.slot = rw (is s.past.config.nodes) (omega (arith, g.root, pointer-now)) in
      subst (λ z. Stands (view_in s.past.config (here s).image) (form_at s.past.config (here s)) s.past.config.nodes 0 z) child
      (f.down s.past.config.nodes 0 f.top (omega (arith, f.height, f.tall)) (omega (arith, f.top_one)))

  -- the two words of the root afterwards
  pointer-set : (f : ℕ → ℕ) → swapped (renewal_with s.past.config link new fs) f ROOT_AT ≡ new + 1
  pointer-set f = far-set s.past.config link new fs f ROOT_AT (λ k e q. absurd (omega (arith, q))) ∙ sets-first (link_entry link new) (guard_entry link) f ROOT_AT under.pointer (λ e. absurd (omega (arith, e, under.guard)))

  status-set : (f : ℕ → ℕ) → swapped (renewal_with s.past.config link new fs) f ROOT_STATUS_AT ≡ next_stamp link.status
  status-set f =
      far-set s.past.config link new fs f ROOT_STATUS_AT (λ k e q. absurd (omega (arith, q))) ∙ (sets-second (link_entry link new) (guard_entry link) f ROOT_STATUS_AT (λ e. absurd (omega (arith, e, under.pointer))) under.guard ∙ root-restamped link.status stamp-alone)

  -- no word of a slot is named
  far-link : (k i : ℕ) → link.link ≢ node_address s.past.config k + i
  far-link k i e = absurd (omega (arith, e, under.pointer))

  far-guard : (k i : ℕ) → link.guard ≢ node_address s.past.config k + i
  far-guard k i e = absurd (omega (arith, e, under.guard))

  -- what is left of slots: every word but the statuses of the nodes that are frozen
  left : (f : ℕ → ℕ) (k i : ℕ) → i < NODE_WORDS → (is_among (slots_of fs) k ≡ false) ⊎ (i ≢ STATUS_AT) → swapped (renewal_with s.past.config link new fs) f (node_address s.past.config k + i) ≡ f (node_address s.past.config k + i)
  left f k i l far = far-set s.past.config link new fs f (node_address s.past.config k + i) (slot-far b.apart s.past.config fs k i l far) ∙ leaves (link_entry link new) (guard_entry link) f (node_address s.past.config k + i) (far-link k i) (far-guard k i)

  kept-out : (k : ℕ) → is_among gone k ≡ false → is_among (slots_of fs) k ≡ false
  kept-out k out = go (is_among (slots_of fs) k) refl
    where
      go : (t : Bool) → is_among (slots_of fs) k ≡ t → is_among (slots_of fs) k ≡ false
      go false e = e
      go true e = absurd (true≢false (sym (going.go k e) ∙ out))

  slot-same : (k : ℕ) → is_among (slots_of fs) k ≡ false → SameNode s.past.config (image_of (here s).image) (image_of y.image) k
  slot-same k out = record {
    words = λ i l. swaps.resolved (node_address s.past.config k + i) (inr (omega arith)) ∙ left (resolve (here s).image) k i l (inl out);
    stands = λ i from free. (b.slots s.past.config (renewal_with s.past.config link new fs) (here s) y k swaps).raw i;
  }

  frozen : (k : ℕ) → is_among (slots_of fs) k ≡ true → IsFrozenBy link new fs s k
  frozen k e = frozen-by b.apart link new s fs going.freezable stand k (no-target (link_entry link new) (guard_entry link) (node_address s.past.config k + STATUS_AT) (far-link k STATUS_AT) (far-guard k STATUS_AT)) e

  turns-link : TurnsLink s.past.config (image_of (here s).image) (image_of y.image) s.past.config.nodes 0 new gone
  turns-link =
      let f : Fits (view_in s.past.config (here s).image) (form_at s.past.config (here s)) = fits b s.past.config (here s) g in
      let stamp : resolve y.image ROOT_STATUS_AT ≡ next_stamp link.status = swaps.resolved ROOT_STATUS_AT (inl (omega arith)) ∙ status-set (resolve (here s).image) in
      record {
        inside = f.top;
        inner = omega (arith, f.height, f.tall);
        first = λ e. refl;
        at_root = λ e. record {
          pointer = swaps.resolved ROOT_AT (inl (omega arith)) ∙ pointer-set (resolve (here s).image);
          slot = slot;
          status = omega (arith, stamp);
        };
        below_root = λ ne. absurd (ne refl);
        others = λ j i ne far kept. slot-same j (kept-out j kept);
      }

  named : (a : ℕ) → is_target (renewal_with s.past.config link new fs) a ≡ true → IsTarget s a
  named a t = elim (named-by s.past.config link new fs a t) [
    | inl r ↦ elim (targets-two (link_entry link new) (guard_entry link) a r) [
      | inl e ↦ inl (sym e ∙ under.pointer)
      | inr e ↦ inr (inl (sym e ∙ under.guard))
    ]
    | inr w ↦ inr (inr (record { slot = w.0; place = STATUS_AT; address = sym w.1.1; within = omega arith; reached = (frozen w.0 w.1.0).freezable.reached; kind = inl refl }))
  ]

  old-slot : link.slot ≡ (here s).value ROOT_AT - 1
  old-slot = omega (arith, pointer-now)

  at-root : TurnsWith link new fs gone s y s.past.config.nodes 0 (slots_of fs)
  at-root = record {
    inside = slot-stands.inside;
    up = slot-stands.up;
    index = slot-stands.index;
    turns = turns-link;
    targets = named;
    others = λ k i f l. far-target s.past.config link new fs (node_address s.past.config k + i) (slot-far b.apart s.past.config fs k i l (inl f)) ∙ no-target (link_entry link new) (guard_entry link) (node_address s.past.config k + i) (far-link k i) (far-guard k i);
    changes = λ k t. frozen-changed b.codec b.slots b.shown link new fs s y k swaps (frozen k t) (λ f i l ne. left f k i l (inr ne));
    root = λ is_frozen. inr (subst (λ k. (page_at s.past.config y k).frozen ≡ true) old-slot is_frozen);
    freezes = λ k t. frozen-after b.codec b.slots b.shown link new fs s y k swaps (frozen k t) (λ f i l ne. left f k i l (inr ne));
  }

pub root-links-with : Laws → RootLinksTurnWith
root-links-with b s y link new fs gone good under slot going stand swaps = at-root b s y link new fs gone good slot under going stand swaps

-- where no node is frozen besides
pub root-links : Laws → RootLinksTurn
root-links b s y link new gone good under slot stand swaps =
    let t : TurnsWith link new [] gone s y s.past.config.nodes 0 [] = root-links-with b s y link new [] gone good under slot (record { freezable = tt; go = λ k e. absurd (cc) }) stand swaps in
    record { inside = t.inside; up = t.up; index = t.index; turns = t.turns; targets = t.targets; others = t.others; changes = t.changes; root = t.root; stays = refl }
