-- The swap of a renewal where the link is a child pointer of an inner node, with nodes that are frozen besides.
use Rattle.std.proofs.Common.{◌≡◌, ◌≢◌, ℕ, ◌+◌, ◌^◌, ◌<◌, ◌≤◌, ◌==◌, ◌||◌, ◌⊎◌, Bool, true, false, List, [], ◌∷◌, arith, refl, sym, ap, subst, ◌∙◌, inl, inr}
use Rattle.std.proofs.lemmas.Bool.{cases_lt, true≢false}
use Rattle.std.proofs.lemmas.Bool.Decides.{nat_tests}
use Rattle.bz_layout.specs.Addresses.{node_address}
use Rattle.bz_layout.specs.declared.sizes.TheConstants.{NODE_WORDS, STATUS_AT, HEADER_AT, META_AT, ROOT_AT, ROOT_STATUS_AT}
use Rattle.bz_node.specs.Reading.{payload_at}
use Rattle.bz_tree.specs.Form.{Stands}
use Rattle.bz_tree.specs.Walk.{is_among}
use Rattle.bz_slotted.specs.InnerChanges.{PointerSwap}
use Rattle.bz_slotted.specs.Page.{meta_of, extent_of, page}
use Rattle.bz_slotted.specs.Records.{pointer_at}
use Rattle.bz_task.specs.FromSwap.SwapMemory.{is_target}
use Rattle.bz_word.specs.declared.entry.Entry.{Entry}
use Rattle.bz_word.specs.Headers.{header}
use Rattle.bz_word.specs.Statuses.{status}
use Rattle.bz_task.specs.FromContent.Changes.{SameNode, SameRoot}
use Rattle.bz_task.specs.FromContent.Content.{image_of, view_in}
use Rattle.bz_task.specs.FromContent.Image.{node}
use Rattle.bz_task.specs.FromContent.Resolving.{resolve}
use Rattle.bz_task.specs.FromContent.Swaps.{TurnsLink}
use Rattle.bz_task.specs.Good.{IsGood}
use Rattle.bz_task.specs.Instant.{Instant, words, durable, page_at, form_at}
use Rattle.bz_task.specs.Laws.{AreMoments, SlotWords}
use Rattle.bz_task.specs.Outcomes.{IsUnderNode, IsGuarded}
use Rattle.bz_task.specs.Requests.{IsTarget}
use Rattle.bz_task.specs.Scene.{Scene, IsScene, here}
use Rattle.bz_task.specs.Shown.{SameShownNode as SameNodeRead}
use Rattle.bz_task.specs.Swaps.{Stand, SwapsTo, swapped}
use Rattle.bz_task.specs.declared.path.Link.{Link}
use Rattle.bz_renew.specs.Freezings.{Freezing, slots_of, renewal_with}
use Rattle.bz_renew.specs.LinkSwaps.{IsChanged}
use Rattle.bz_renew.specs.Renewals.{link_entry, guard_entry, renewal, restamped}
use Rattle.bz_renew.specs.Standing.{StillLeads, GuardedLinksStand}
use Rattle.bz_renew.specs.Turning.{TurnsWith, AreGoing, ChildLinksTurn, ChildLinksTurnWith}
use Rattle.bz_renew.proofs.Basis.{Laws}
use Rattle.bz_renew.proofs.Freezings.{IsFrozenBy, far-set, far-target, slot-far, named-by, renewal-holds, frozen-by}
use Rattle.bz_renew.proofs.FrozenNodes.{frozen-after, frozen-changed}
use Rattle.bz_renew.proofs.InnerNodes.{IsOpen, below, inside, alike, high, plain, pointer-far, child-stands}
use Rattle.bz_renew.proofs.Restamping.{restamped-plain}
use Rattle.bz_renew.proofs.Turns.{IsTurned, count-stays, block-stays, dead-stays, frozen-stays, turned-moves}
use Rattle.bz_renew.proofs.TwoEntries.{sets-first, sets-second, leaves, targets-two, no-target, both-stand}
use Rattle.bz_renew.proofs.Words.{node-at, not-first, not-later}

-- the node of the link when the guard was read
module _ (b : Laws) (s : Scene) (link : Link) (good : IsScene s) (guard : IsGuarded s.past link) (thawed : (status link.status).frozen ≡ false) (under : IsUnderNode s.past link guard.guarded) where
  then-good : IsGood s.past.config (s.past.at guard.guarded)
  then-good = good.history.good guard.guarded guard.since (omega (arith, guard.order, guard.now))

  then-status : words s.past.config (s.past.at guard.guarded) under.parent STATUS_AT ≡ link.status
  then-status = node-at s.past.config (s.past.at guard.guarded).value under.parent STATUS_AT (omega arith) ∙ (ap (s.past.at guard.guarded).value (sym under.guard) ∙ guard.status)

  pub then-open : IsOpen s.past.config (s.past.at guard.guarded) under.parent
  then-open = record { reached = under.reached; thawed = ap (λ z. (status z).frozen) then-status ∙ thawed; inner = under.child.inner }

  pub guard-plain : link.status < 2 ^ 61
  guard-plain = subst (λ z. z < 2 ^ 61) then-status (plain b s.past.config (s.past.at guard.guarded) under.parent then-good then-open)

  pub moments : AreMoments s.past.since s.past.now guard.guarded s.past.now
  moments = record { since = guard.since; order = omega (arith, guard.order, guard.now); until = omega arith }

  pub now-reached : (here s).reached under.parent ≡ true
  now-reached = (b.fronts s.past.config s.past.at s.past.since s.past.now guard.guarded s.past.now under.parent good.history moments under.reached).reached

  pub place-far : META_AT ≤ under.place
  place-far = omega (arith, pointer-far b s.past.config (s.past.at guard.guarded) under.parent then-good then-open under.child.child under.child.counted, under.child.place)

-- while the guard is as it was read, so is the node
module _ (b : Laws) (s : Scene) (link : Link) (good : IsScene s) (guard : IsGuarded s.past link) (thawed : (status link.status).frozen ≡ false) (under : IsUnderNode s.past link guard.guarded) (now : (here s).value link.guard ≡ link.status) where
  now-good : IsGood s.past.config (here s)
  now-good = good.history.good s.past.now good.begun (omega arith)

  pub now-status : words s.past.config (here s) under.parent STATUS_AT ≡ link.status
  now-status = node-at s.past.config (here s).value under.parent STATUS_AT (omega arith) ∙ (ap (here s).value (sym under.guard) ∙ now)

  same : SameNodeRead s.past.config (s.past.at guard.guarded) (here s) under.parent
  same =
      let o : AreMoments s.past.since s.past.now guard.guarded s.past.now = moments b s link good guard thawed under in
      b.nodes s.past.config s.past.at s.past.since s.past.now guard.guarded s.past.now s.past.now under.parent good.history o o.order (omega arith) under.reached (now-status ∙ sym (then-status b s link good guard thawed under))

  level-same : (page_at s.past.config (here s) under.parent).level ≡ (page_at s.past.config (s.past.at guard.guarded) under.parent).level
  level-same = ap (λ z. (header z).level) (same HEADER_AT (inl (omega arith)))

  count-same : (page_at s.past.config (here s) under.parent).count ≡ (page_at s.past.config (s.past.at guard.guarded) under.parent).count
  count-same = ap (λ z. (status z).count) (same STATUS_AT (inl (omega arith)))

  pub now-open : IsOpen s.past.config (here s) under.parent
  now-open = record {
    reached = now-reached b s link good guard thawed under;
    thawed = ap (λ z. (status z).frozen) now-status ∙ thawed;
    inner = omega (arith, level-same, under.child.inner);
  }

  pub counted : under.child.child < (page_at s.past.config (here s) under.parent).count
  counted = omega (arith, count-same, under.child.counted)

  pub place-is : under.place ≡ pointer_at (page_at s.past.config (here s) under.parent) under.child.child
  place-is = under.child.place ∙ ap (λ z. payload_at (extent_of (meta_of z))) (sym (same (META_AT + under.child.child) (inl (omega (arith, under.child.counted)))))

  pub place-behind : META_AT + (page_at s.past.config (here s) under.parent).count ≤ under.place
  place-behind = omega (arith, pointer-far b s.past.config (here s) under.parent now-good now-open under.child.child counted, place-is)

  -- so the link leads where it led when it was read
  led-now : words s.past.config (here s) under.parent under.place ≡ link.slot + 1
  led-now =
      let o : AreMoments s.past.since s.past.now guard.guarded s.past.now = moments b s link good guard thawed under in
      let read : SameNodeRead s.past.config (s.past.at guard.guarded) (s.past.at guard.read) under.parent =
      b.nodes s.past.config s.past.at s.past.since s.past.now guard.guarded guard.read s.past.now under.parent good.history o guard.order guard.now under.reached (now-status ∙ sym (then-status b s link good guard thawed under)) in
      let then : words s.past.config (s.past.at guard.read) under.parent under.place ≡ link.slot + 1 =
      node-at s.past.config (s.past.at guard.read).value under.parent under.place under.within ∙ (ap (s.past.at guard.read).value (sym under.pointer) ∙ guard.slot) in
      same under.place (inr (inr (inl under.child.inner))) ∙ (sym (read under.place (inr (inr (inl under.child.inner)))) ∙ then)

  pub still-leads : StillLeads link s guard.guarded under.parent under.child.child
  still-leads = record {
    reached = now-open.reached;
    thawed = now-open.thawed;
    inner = now-open.inner;
    inside = inside b s.past.config (here s) under.parent now-good now-open;
    same = same;
    stands = child-stands b s.past.config (here s) under.parent now-good now-open under.child.child link.slot counted (ap (words s.past.config (here s) under.parent) (sym place-is) ∙ led-now);
  }

module _ (b : Laws) (s : Scene) (y : Instant) (link : Link) (new : ℕ) (fs : List Freezing) (gone : List ℕ) (good : IsScene s) (slot : new < s.past.config.nodes) (guard : IsGuarded s.past link) (thawed : (status link.status).frozen ≡ false)
    (under : IsUnderNode s.past link guard.guarded) (stays : is_among (slots_of fs) under.parent ≡ false) (going : AreGoing fs gone s) (stand : Stand (renewal_with s.past.config link new fs) (here s))
    (swaps : SwapsTo s.past.config (renewal_with s.past.config link new fs) (here s) y) where
  g : IsGood s.past.config (here s)
  g = good.history.good s.past.now good.begun (omega arith)

  both : ((here s).value link.link ≡ link.slot + 1) × ((here s).value link.guard ≡ link.status)
  both = both-stand (link_entry link new) (guard_entry link) (here s) (renewal-holds s.past.config link new (λ (e : Entry). (here s).value e.target ≡ e.expected) fs stand)

  holds : IsOpen s.past.config (here s) under.parent
  holds = now-open b s link good guard thawed under both.1

  is-place : under.place ≡ pointer_at (page_at s.past.config (here s) under.parent) under.child.child
  is-place = place-is b s link good guard thawed under both.1

  is-counted : under.child.child < (page_at s.past.config (here s) under.parent).count
  is-counted = counted b s link good guard thawed under both.1

  behind : META_AT + (page_at s.past.config (here s) under.parent).count ≤ under.place
  behind = place-behind b s link good guard thawed under both.1

  stamp-plain : link.status < 2 ^ 61
  stamp-plain = guard-plain b s link good guard thawed under

  read-alike : durable s.past.config (here s) under.parent ≡ words s.past.config (here s) under.parent
  read-alike = alike b s.past.config (here s) under.parent g holds

  -- the slot is the child to which the link leads
  slot-stands : Stands (view_in s.past.config (here s).image) (form_at s.past.config (here s)) under.parent under.child.child link.slot
  slot-stands =
      let led : words s.past.config (here s) under.parent under.place ≡ link.slot + 1 = node-at s.past.config (here s).value under.parent under.place under.within ∙ (ap (here s).value (sym under.pointer) ∙ both.0) in
      child-stands b s.past.config (here s) under.parent g holds under.child.child link.slot is-counted (ap (words s.past.config (here s) under.parent) (sym is-place) ∙ led)

  -- what is set in the node, and what is left
  words-of : SlotWords s.past.config (renewal_with s.past.config link new fs) (here s) y under.parent
  words-of = b.slots s.past.config (renewal_with s.past.config link new fs) (here s) y under.parent swaps

  -- words of the parent are no statuses of nodes that are frozen
  parent-set : (f : ℕ → ℕ) (i : ℕ) → i < NODE_WORDS → swapped (renewal_with s.past.config link new fs) f (node_address s.past.config under.parent + i) ≡ swapped (renewal link new) f (node_address s.past.config under.parent + i)
  parent-set f i l = far-set s.past.config link new fs f (node_address s.past.config under.parent + i) (slot-far b.apart s.past.config fs under.parent i l (inl stays))

  set-status : (f : ℕ → ℕ) → swapped (renewal_with s.past.config link new fs) f (node_address s.past.config under.parent + STATUS_AT) ≡ restamped link.status
  set-status f = parent-set f STATUS_AT (omega arith) ∙ sets-second (link_entry link new) (guard_entry link) f (node_address s.past.config under.parent + STATUS_AT) (λ e. absurd (omega (arith, e, under.pointer, behind))) under.guard

  set-link : (f : ℕ → ℕ) → swapped (renewal_with s.past.config link new fs) f (node_address s.past.config under.parent + under.place) ≡ new + 1
  set-link f = parent-set f under.place under.within ∙ sets-first (link_entry link new) (guard_entry link) f (node_address s.past.config under.parent + under.place) under.pointer (λ e. absurd (omega (arith, e, under.guard, behind)))

  left : (f : ℕ → ℕ) (i : ℕ) → i < NODE_WORDS → i ≢ STATUS_AT → i ≢ under.place → swapped (renewal_with s.past.config link new fs) f (node_address s.past.config under.parent + i) ≡ f (node_address s.past.config under.parent + i)
  left f i h n l = parent-set f i h ∙ leaves (link_entry link new) (guard_entry link) f (node_address s.past.config under.parent + i) (λ e. l (omega (arith, e, under.pointer))) (λ e. n (omega (arith, e, under.guard)))

  turned-read : IsTurned link.status under.place new (words s.past.config (here s) under.parent) (words s.past.config y under.parent)
  turned-read = record {
    was = now-status b s link good guard thawed under both.1;
    status = (words-of.within STATUS_AT (omega arith)).value ∙ set-status (here s).value;
    link = (words-of.within under.place under.within).value ∙ set-link (here s).value;
    others = λ i n l. elim (cases_lt i NODE_WORDS) [
      | inl h ↦ (words-of.within i h).value ∙ (left (here s).value i h n l ∙ sym (words-of.within i h).before)
      | inr h ↦ words-of.past i h
    ];
  }

  turned-durable : IsTurned link.status under.place new (durable s.past.config (here s) under.parent) (durable s.past.config y under.parent)
  turned-durable = record {
    was = ap (λ n. n STATUS_AT) read-alike ∙ now-status b s link good guard thawed under both.1;
    status = (words-of.within STATUS_AT (omega arith)).durable_value ∙ set-status (resolve (here s).image);
    link = (words-of.within under.place under.within).durable_value ∙ set-link (resolve (here s).image);
    others = λ i n l. elim (cases_lt i NODE_WORDS) [
      | inl h ↦ (words-of.within i h).durable_value ∙ (left (resolve (here s).image) i h n l ∙ sym (words-of.within i h).resolved)
      | inr h ↦ words-of.durable_past i h
    ];
  }

  durable-place : pointer_at (page (durable s.past.config (here s) under.parent)) under.child.child ≡ under.place
  durable-place = ap (λ n. pointer_at (page n) under.child.child) read-alike ∙ sym is-place

  pointer-swap : PointerSwap s.past.config.nodes (node s.past.config (here s).image under.parent) (node s.past.config y.image under.parent) (durable s.past.config (here s) under.parent) (durable s.past.config y under.parent) under.child.child new
  pointer-swap = record {
    others = λ i n l. turned-durable.others i n (λ e. l (e ∙ sym durable-place));
    raw = λ i from free. words-of.raw i;
    status = subst (λ z. z < 2 ^ 61) (sym turned-durable.status) (restamped-plain b.codec link.status stamp-plain);
    thawed = frozen-stays b.codec link.status under.place new _ _ stamp-plain turned-durable ∙ (ap (λ n. (page n).frozen) read-alike ∙ holds.thawed);
    count = count-stays b.codec link.status under.place new _ _ stamp-plain turned-durable;
    block = block-stays b.codec link.status under.place new _ _ stamp-plain turned-durable;
    dead = dead-stays b.codec link.status under.place new _ _ stamp-plain turned-durable;
    inside = omega (arith, is-counted, ap (λ n. (page n).count) read-alike);
    new = ap (durable s.past.config y under.parent) durable-place ∙ turned-durable.link;
    slot = slot;
  }

  -- words of the superblock and of other slots are not named
  far-link : (k i : ℕ) → k ≢ under.parent → i < NODE_WORDS → link.link ≢ node_address s.past.config k + i
  far-link k i ne l e = ne (b.apart s.past.config k under.parent i under.place l under.within (sym e ∙ under.pointer)).0

  far-guard : (k i : ℕ) → k ≢ under.parent → i < NODE_WORDS → link.guard ≢ node_address s.past.config k + i
  far-guard k i ne l e = ne (b.apart s.past.config k under.parent i STATUS_AT l (omega arith) (sym e ∙ under.guard)).0

  -- what is left of other slots: every word but the statuses of the nodes that are frozen
  slot-left : (f : ℕ → ℕ) (k i : ℕ) → k ≢ under.parent → i < NODE_WORDS → (is_among (slots_of fs) k ≡ false) ⊎ (i ≢ STATUS_AT) → swapped (renewal_with s.past.config link new fs) f (node_address s.past.config k + i) ≡ f (node_address s.past.config k + i)
  slot-left f k i ne l far =
      far-set s.past.config link new fs f (node_address s.past.config k + i) (slot-far b.apart s.past.config fs k i l far)
      ∙ leaves (link_entry link new) (guard_entry link) f (node_address s.past.config k + i) (far-link k i ne l) (far-guard k i ne l)

  kept-out : (k : ℕ) → is_among gone k ≡ false → is_among (slots_of fs) k ≡ false
  kept-out k out = go (is_among (slots_of fs) k) refl
    where
      go : (t : Bool) → is_among (slots_of fs) k ≡ t → is_among (slots_of fs) k ≡ false
      go false e = e
      go true e = absurd (true≢false (sym (going.go k e) ∙ out))

  slot-same : (k : ℕ) → k ≢ under.parent → is_among (slots_of fs) k ≡ false → SameNode s.past.config (image_of (here s).image) (image_of y.image) k
  slot-same k ne out = record {
    words = λ i l. swaps.resolved (node_address s.past.config k + i) (inr (omega arith)) ∙ slot-left (resolve (here s).image) k i ne l (inl out);
    stands = λ i from free. (b.slots s.past.config (renewal_with s.past.config link new fs) (here s) y k swaps).raw i;
  }

  -- the parent is none of the nodes that are frozen
  frozen-apart : (k : ℕ) → is_among (slots_of fs) k ≡ true → k ≢ under.parent
  frozen-apart k e q = true≢false (sym e ∙ (ap (is_among (slots_of fs)) q ∙ stays))

  frozen : (k : ℕ) → is_among (slots_of fs) k ≡ true → IsFrozenBy link new fs s k
  frozen k e =
      frozen-by b.apart link new s fs going.freezable stand k
      (no-target (link_entry link new) (guard_entry link) (node_address s.past.config k + STATUS_AT) (far-link k STATUS_AT (frozen-apart k e) (omega arith)) (far-guard k STATUS_AT (frozen-apart k e) (omega arith)))
      e

  root-left : (f : ℕ → ℕ) (a : ℕ) → a < node_address s.past.config 0 → swapped (renewal_with s.past.config link new fs) f a ≡ f a
  root-left f a l =
      far-set s.past.config link new fs f a (λ k e q. absurd (omega (arith, q, l)))
      ∙ leaves (link_entry link new) (guard_entry link) f a (λ e. absurd (omega (arith, e, under.pointer, l))) (λ e. absurd (omega (arith, e, under.guard, l)))

  root-same : SameRoot (image_of (here s).image) (image_of y.image)
  root-same = record {
    pointer = swaps.resolved ROOT_AT (inl (omega arith)) ∙ root-left (resolve (here s).image) ROOT_AT (omega arith);
    status = swaps.resolved ROOT_STATUS_AT (inl (omega arith)) ∙ root-left (resolve (here s).image) ROOT_STATUS_AT (omega arith);
  }

  parent-below : under.parent ≢ s.past.config.nodes
  parent-below = below b s.past.config (here s) under.parent g holds

  turns-link : TurnsLink s.past.config (image_of (here s).image) (image_of y.image) under.parent under.child.child new gone
  turns-link = record {
    inside = inside b s.past.config (here s) under.parent g holds;
    inner = high b s.past.config (here s) under.parent g holds;
    first = λ e. absurd (parent-below e);
    at_root = λ e. absurd (parent-below e);
    below_root = λ ne. (pointer-swap, root-same);
    others = λ j i below far kept. slot-same j far (kept-out j kept);
  }

  named : (a : ℕ) → is_target (renewal_with s.past.config link new fs) a ≡ true → IsTarget s a
  named a t = elim (named-by s.past.config link new fs a t) [
    | inl r ↦ elim (targets-two (link_entry link new) (guard_entry link) a r) [
      | inl e ↦ inr (inr (record {
        slot = under.parent;
        place = under.place;
        address = sym e ∙ under.pointer;
        within = under.within;
        reached = holds.reached;
        kind = inr (inr (record { inner = holds.inner; child = under.child.child; counted = is-counted; place = is-place }));
      }))
      | inr e ↦ inr (inr (record {
        slot = under.parent;
        place = STATUS_AT;
        address = sym e ∙ under.guard;
        within = omega arith;
        reached = holds.reached;
        kind = inl refl;
      }))
    ]
    | inr w ↦ inr (inr (record { slot = w.0; place = STATUS_AT; address = sym w.1.1; within = omega arith; reached = (frozen w.0 w.1.0).freezable.reached; kind = inl refl }))
  ]

  parent-changed : IsChanged s y under.parent
  parent-changed = record {
    reached = holds.reached;
    moved = turned-moves b.codec link.status under.place new _ _ stamp-plain turned-read under.child.child thawed is-counted is-place behind;
    shown = λ i h. inr (inr (inl holds.inner));
  }

  changed : (k : ℕ) → is_among (under.parent ∷ slots_of fs) k ≡ true → IsChanged s y k
  changed k h = go (under.parent == k) refl h
    where
      go : (t : Bool) → (under.parent == k) ≡ t → (t || is_among (slots_of fs) k) ≡ true → IsChanged s y k
      go true e q = let same : under.parent ≡ k = grind (arith, nat_tests) in subst (IsChanged s y) same parent-changed
      go false e q = frozen-changed b.codec b.slots b.shown link new fs s y k swaps (frozen k q) (λ f i l ne. slot-left f k i (frozen-apart k q) l (inr ne))

  pub slot-other : is_among (under.parent ∷ []) link.slot ≡ false
  slot-other =
      let ne : under.parent ≢ link.slot = λ e. absurd (omega (arith, slot-stands.level, ap (form_at s.past.config (here s)).level e)) in
      let t : (under.parent == link.slot) ≡ false = grind (arith, nat_tests) in
      rw t refl

  unnamed : (k i : ℕ) → is_among (under.parent ∷ slots_of fs) k ≡ false → i < NODE_WORDS → is_target (renewal_with s.past.config link new fs) (node_address s.past.config k + i) ≡ false
  unnamed k i f l =
      let ne : k ≢ under.parent = not-first under.parent (slots_of fs) k f in
      far-target s.past.config link new fs (node_address s.past.config k + i) (slot-far b.apart s.past.config fs k i l (inl (not-later under.parent (slots_of fs) k f)))
      ∙ no-target (link_entry link new) (guard_entry link) (node_address s.past.config k + i) (far-link k i ne l) (far-guard k i ne l)

  at-node : TurnsWith link new fs gone s y under.parent under.child.child (under.parent ∷ slots_of fs)
  at-node = record {
    inside = slot-stands.inside;
    up = slot-stands.up;
    index = slot-stands.index;
    turns = turns-link;
    targets = named;
    others = unnamed;
    changes = changed;
    root = λ is_frozen. inl (swaps.value ROOT_AT ∙ root-left (here s).value ROOT_AT (omega arith));
    freezes = λ k q. frozen-after b.codec b.slots b.shown link new fs s y k swaps (frozen k q) (λ f i l ne. slot-left f k i (frozen-apart k q) l (inr ne));
  }

pub child-links-with : Laws → ChildLinksTurnWith
child-links-with b s y link new fs gone good guard thawed under stays slot going stand swaps = at-node b s y link new fs gone good slot guard thawed under stays going stand swaps

-- where no node is frozen besides
pub child-links : Laws → ChildLinksTurn
child-links b s y link new gone good guard thawed under slot stand swaps =
    let none : AreGoing [] gone s = record { freezable = tt; go = λ k e. absurd (cc) } in
    let t : TurnsWith link new [] gone s y under.parent under.child.child (under.parent ∷ []) = child-links-with b s y link new [] gone good guard thawed under refl slot none stand swaps in
    record {
      inside = t.inside;
      up = t.up;
      index = t.index;
      turns = t.turns;
      targets = t.targets;
      others = t.others;
      changes = t.changes;
      root = t.root;
      stays = slot-other b s y link new [] gone good slot guard thawed under refl none stand swaps;
    }

pub guarded-stand : Laws → GuardedLinksStand
guarded-stand b s link good guard thawed under now = still-leads b s link good guard thawed under now
