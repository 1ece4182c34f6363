-- The swap of the split of an inner node below a parent is lawful for everybody and changes no content.
use Rattle.std.proofs.Common.{◌≡◌, ◌≢◌, ℕ, ◌+◌, ◌<◌, ◌==◌, ◌||◌, Bool, true, false, List, [], ◌∷◌, arith, refl, sym, ap, subst, ◌∙◌, inl, inr, Option}
use Rattle.std.specs.Prelude.{All, Some, None}
use Rattle.std.proofs.lemmas.Bool.Decides.{nat_tests}
use Rattle.bz_layout.specs.Addresses.{node_address}
use Rattle.bz_layout.specs.declared.config.Config.{Config}
use Rattle.bz_layout.specs.declared.sizes.TheConstants.{NODE_WORDS}
use Rattle.bz_tree.specs.Outcomes.{Regrows}
use Rattle.bz_tree.specs.Slots.{Wider, Halves}
use Rattle.bz_tree.specs.Walk.{is_among}
use Rattle.bz_slotted.specs.Rules.{node_fault}
use Rattle.bz_task.specs.FromSwap.SwapMemory.{is_target}
use Rattle.bz_word.specs.declared.entry.Entry.{Entry}
use Rattle.bz_content.specs.Content.{image_of, view_in, IsWellFormed}
use Rattle.bz_content.specs.Image.{Image}
use Rattle.bz_content.specs.Restructures.{children_of, Splits, StandsWhole}
use Rattle.bz_content.specs.Swaps.{TurnsLink}
use Rattle.bz_content.proofs.Proved.{plain_words_stand_for_themselves, splits_keep_the_content, well_formed_images_have_no_fault}
use Rattle.bz_task.specs.Good.{IsGood}
use Rattle.bz_task.specs.Instant.{Instant, words, durable, page_at, form_at}
use Rattle.bz_task.specs.Laws.{SamePlace}
use Rattle.bz_task.specs.Outcomes.{IsUnderNode}
use Rattle.bz_task.specs.Scene.{Scene, IsScene, here}
use Rattle.bz_task.specs.Swaps.{Stand, SwapsTo, IsGoodSwap}
use Rattle.bz_task.specs.declared.path.Link.{Link}
use Rattle.bz_renew.specs.Freezings.{Freezing, freezing_entry, renewal_with, slots_of}
use Rattle.bz_renew.specs.LinkSwaps.{IsFresh, IsLinkSwap}
use Rattle.bz_renew.specs.Renewals.{renewal, link_entry, guard_entry}
use Rattle.bz_renew.specs.Standing.{StillLeads}
use Rattle.bz_renew.specs.Turning.{TurnsWith, AreGoing}
use Rattle.bz_renew.proofs.Freezings.{renewal-holds}
use Rattle.bz_renew.proofs.FreshSlots.{outside-tree, fresh-unchanged, raw-stays, durable-stays}
use Rattle.bz_renew.proofs.Inserting.{all-inserted-first, all-inserted-others}
use Rattle.bz_renew.proofs.TwoEntries.{both-stand}
use Rattle.bz_renew.proofs.Words.{or-right}
use Rattle.bz_renew.proofs.Proved.{child_links_turn_with, guarded_links_stand, link_swaps_are_good, links_may_be_turned, root_links_turn_with}
use Rattle.bz_below.specs.FromSplit.BelowSplits.{parent_freezing}
use Rattle.bz_below.specs.FromSplit.RootSplits.{AreFreshThree}
use Rattle.bz_branch.specs.Nodes.{IsOpenLink}
use Rattle.bz_branch.specs.InnerSplits.{both_freezings, inner_swap, IsInnerSplit, InnerSplitsAreGood}
use Rattle.bz_branch.proofs.Standing.{guard-is, node-below, same-place, same-words}

pub first-in : (k : ℕ) (rest : List ℕ) → is_among (k ∷ rest) k ≡ true
first-in k rest = let t : (k == k) ≡ true = grind (arith, nat_tests) in rw t refl

out-one : (x k : ℕ) → x ≢ k → is_among (x ∷ []) k ≡ false
out-one x k ne = let t : (x == k) ≡ false = grind (arith, nat_tests) in rw t refl

out-two : (x z k : ℕ) → x ≢ k → z ≢ k → is_among (x ∷ z ∷ []) k ≡ false
out-two x z k ne other = let t : (x == k) ≡ false = grind (arith, nat_tests) in let u : (z == k) ≡ false = grind (arith, nat_tests) in rw (t, u) refl

-- one of three slots
pub among-three : (q l r : ℕ) (s : Scene) → AreFreshThree q l r s → (k : ℕ) → is_among (q ∷ l ∷ r ∷ []) k ≡ true → IsFresh s k
among-three q l r s f k e = go (q == k) refl (l == k) refl (r == k) refl e
  where
    go : (a : Bool) → (q == k) ≡ a → (b : Bool) → (l == k) ≡ b → (d : Bool) → (r == k) ≡ d → (a || (b || (d || false))) ≡ true → IsFresh s k
    go true p b o d u h = let same : q ≡ k = grind (arith, nat_tests) in subst (IsFresh s) same f.root
    go false p true o d u h = let same : l ≡ k = grind (arith, nat_tests) in subst (IsFresh s) same f.left
    go false p false o true u h = let same : r ≡ k = grind (arith, nat_tests) in subst (IsFresh s) same f.right
    go false p false o false u h = absurd (cc)

module _ (s : Scene) (upper middle lower : Link) (q l r m : ℕ) (sep : List ℕ) (good : IsScene s) (f : IsInnerSplit upper middle lower q l r m sep s) (stand : Stand (inner_swap s.past.config upper middle lower q) (here s)) where
  abbrev p : ℕ
  p = upper.slot

  abbrev a : ℕ
  a = middle.slot

  abbrev c : Config
  c = s.past.config

  abbrev frozen : List Freezing
  frozen = both_freezings upper middle lower

  abbrev stands : Entry → Type 0
  stands e = (here s).value e.target ≡ e.expected

  g : IsGood c (here s)
  g = good.history.good s.past.now good.begun (omega arith)

  -- the link in the parent, as one whose node's status was read
  abbrev above : IsOpenLink p middle s.past
  above = record { guard = f.down.guard; thawed = f.down.thawed; under = f.down.under; parent = f.down.parent }

  -- the statuses of the node and of the parent are as they were read
  rest : All stands (renewal_with c upper q (parent_freezing upper middle ∷ []))
  rest = all-inserted-others stands (freezing_entry c (parent_freezing middle lower)) (renewal_with c upper q (parent_freezing upper middle ∷ [])) stand

  node-now : (here s).value lower.guard ≡ lower.status
  node-now = ap (here s).value (guard-is s a lower good f.node) ∙ all-inserted-first stands (freezing_entry c (parent_freezing middle lower)) (renewal_with c upper q (parent_freezing upper middle ∷ [])) stand

  parent-now : (here s).value middle.guard ≡ middle.status
  parent-now = ap (here s).value (guard-is s p middle good above) ∙ all-inserted-first stands (freezing_entry c (parent_freezing upper middle)) (renewal upper q) rest

  -- so the node is the parent's child still, and an inner node as it was
  pub leads : StillLeads middle s f.down.guard.guarded p f.down.under.child.child
  leads = subst (λ z. StillLeads middle s f.down.guard.guarded z f.down.under.child.child) f.down.parent (guarded_links_stand s middle good f.down.guard f.down.thawed f.down.under parent-now)

  pub node-leads : StillLeads lower s f.node.guard.guarded a f.node.under.child.child
  node-leads = subst (λ z. StillLeads lower s f.node.guard.guarded z f.node.under.child.child) f.node.parent (guarded_links_stand s lower good f.node.guard f.node.thawed f.node.under node-now)

  parent-place : SamePlace c (s.past.at f.down.guard.guarded) (here s) p
  parent-place = same-place s p middle good above f.down.under.child.child leads

  parent-words : durable c (here s) p ≡ words c (s.past.at f.down.guard.guarded) p
  parent-words = same-words s p middle good above f.down.under.child.child leads

  node-place : SamePlace c (s.past.at f.node.guard.guarded) (here s) a
  node-place = same-place s a lower good f.node f.node.under.child.child node-leads

  node-words : durable c (here s) a ≡ words c (s.past.at f.node.guard.guarded) a
  node-words = same-words s a lower good f.node f.node.under.child.child node-leads

  -- a node is none of those above it
  apart : p ≢ a
  apart e = absurd (omega (arith, ap (form_at c (here s)).level e, leads.stands.level))

  pub going : AreGoing frozen (a ∷ p ∷ []) s
  going = record {
    freezable = (
      record { reached = node-leads.reached; plain = (links_may_be_turned s lower good f.node.guard f.node.thawed).plain; thawed = f.node.thawed },
      (out-one p a apart, (record { reached = leads.reached; plain = (links_may_be_turned s middle good f.down.guard f.down.thawed).plain; thawed = f.down.thawed }, (refl, tt))),
    );
    go = λ k e. e;
  }

  -- where the upper link stands
  module _ (y : Instant) (top i : ℕ) (changed : List ℕ) (t : TurnsWith upper q frozen (a ∷ p ∷ []) s y top i changed) (swaps : SwapsTo c (inner_swap c upper middle lower q) (here s) y) where
    abbrev x : Image
    x = image_of (here s).image

    abbrev z : Image
    z = image_of y.image

    -- the words of a fresh slot afterwards are those that were stored
    module _ (k : ℕ) (fresh : IsFresh s k) where
      unnamed : (j : ℕ) → j < NODE_WORDS → is_target (inner_swap c upper middle lower q) (node_address c k + j) ≡ false
      unnamed j n = t.others k j (fresh-unchanged s y changed k good fresh t.changes) n

      after : durable c y k ≡ words c (here s) k
      after = durable-stays plain_words_stand_for_themselves (inner_swap c upper middle lower q) s y k good fresh unnamed swaps

      stands-after : (was now : ℕ) (low low_now high high_now : Option (List ℕ)) → now ≡ was → low_now ≡ low → high_now ≡ high → node_fault c.nodes (words c (here s) k) (words c (here s) k) was low high ≡ None → StandsWhole c z k now low_now high_now
      stands-after was now low low_now high high_now level lows highs e =
          (λ j. node_fault c.nodes (raw-stays plain_words_stand_for_themselves (inner_swap c upper middle lower q) s y k good fresh unnamed swaps j) (after j) (level j) (lows j) (highs j)) ∙ e

    turns : TurnsLink c x z ((form_at c (here s)).up p) ((form_at c (here s)).index p) q (a ∷ p ∷ [])
    turns =
        subst (λ j. TurnsLink c x z j ((form_at c (here s)).index p) q (a ∷ p ∷ [])) (sym t.up)
        (subst (λ j. TurnsLink c x z top j q (a ∷ p ∷ [])) (sym t.index) t.turns)

    wider : Wider (children_of (durable c (here s) p)) (children_of (durable c y q)) f.down.under.child.child l r sep
    wider = subst (λ n. Wider (children_of n) (children_of (durable c y q)) f.down.under.child.child l r sep) (sym parent-words)
        (subst (λ n. Wider (children_of (words c (s.past.at f.down.guard.guarded) p)) (children_of n) f.down.under.child.child l r sep) (sym (after q f.ready.fresh.root)) f.ready.wider)

    halves : Halves (children_of (durable c (here s) a)) (children_of (durable c y l)) (children_of (durable c y r)) m sep
    halves = subst (λ n. Halves (children_of n) (children_of (durable c y l)) (children_of (durable c y r)) m sep) (sym node-words)
        (subst (λ n. Halves (children_of (words c (s.past.at f.node.guard.guarded) a)) (children_of n) (children_of (durable c y r)) m sep) (sym (after l f.ready.fresh.left))
        (subst (λ n. Halves (children_of (words c (s.past.at f.node.guard.guarded) a)) (children_of (words c (here s) l)) (children_of n) m sep) (sym (after r f.ready.fresh.right)) f.ready.halves))

    parent-whole : StandsWhole c z q ((form_at c (here s)).level p) ((form_at c (here s)).low p) ((form_at c (here s)).high p)
    parent-whole = stands-after q f.ready.fresh.root _ _ _ _ _ _ parent-place.level parent-place.low parent-place.high f.ready.parent_whole

    up : (form_at c (here s)).up a ≡ p
    up = leads.stands.up

    splits : Splits c x z a q l r m sep
    splits = record {
      inside = leads.stands.inside;
      not_top = λ e. absurd (omega (arith, e, node-below s a lower good f.node));
      deep = λ e. absurd (omega (arith, e, up, node-below s p middle good above));
      fresh_q = outside-tree s q good f.ready.fresh.root;
      fresh_l = outside-tree s l good f.ready.fresh.left;
      fresh_r = outside-tree s r good f.ready.fresh.right;
      three = f.ready.fresh.three;
      link = subst (λ j. TurnsLink c x z ((form_at c (here s)).up j) ((form_at c (here s)).index j) q (a ∷ j ∷ [])) (sym up) turns;
      wider = subst (λ j. Wider (children_of (durable c (here s) j)) (children_of (durable c y q)) ((form_at c (here s)).index a) l r sep) (sym up)
          (subst (λ j. Wider (children_of (durable c (here s) p)) (children_of (durable c y q)) j l r sep) (sym leads.stands.index) wider);
      halves = λ deep. halves;
      says = λ flat. absurd (omega (arith, flat, node-leads.stands.level));
      whole_q = subst (λ j. StandsWhole c z q ((form_at c (here s)).level j) ((form_at c (here s)).low j) ((form_at c (here s)).high j)) (sym up) parent-whole;
      whole_l = stands-after l f.ready.fresh.left _ _ _ _ _ (Some sep) node-place.level node-place.low refl f.ready.left_whole;
      whole_r = stands-after r f.ready.fresh.right _ _ _ (Some sep) _ _ node-place.level refl node-place.high f.ready.right_whole;
    }

    regrows : Regrows (view_in c (here s).image) (view_in c y.image) (a ∷ p ∷ []) (q ∷ l ∷ r ∷ [])
    regrows =
        let w : IsWellFormed c (here s).image = (well_formed_images_have_no_fault c (here s).image).0 g.form in
        subst (λ j. Regrows (view_in c (here s).image) (view_in c y.image) (a ∷ j ∷ []) (q ∷ l ∷ r ∷ [])) up (splits_keep_the_content c x z a q l r m sep w.tree splits)

    parent-frozen : (page_at c y p).frozen ≡ true
    parent-frozen = t.freezes p (or-right (a == p) (is_among (p ∷ []) p) (first-in p []))

    pub link-swap : IsLinkSwap (inner_swap c upper middle lower q) s changed (a ∷ p ∷ []) (q ∷ l ∷ r ∷ []) y
    link-swap = record {
      swaps = swaps;
      targets = t.targets;
      others = t.others;
      changes = t.changes;
      root = t.root parent-frozen;
      fresh = among-three q l r s f.ready.fresh;
      frozen = λ k e. t.freezes k e;
      regrows = regrows;
    }

  -- the node of the upper link, where it is one
  module _ (under : IsUnderNode s.past upper f.down.upper_guard.guarded) where
    upper-now : (here s).value upper.guard ≡ upper.status
    upper-now = (both-stand (link_entry upper q) (guard_entry upper) (here s) (renewal-holds c upper q stands frozen stand)).1

    over : StillLeads upper s f.down.upper_guard.guarded under.parent under.child.child
    over = guarded_links_stand s upper good f.down.upper_guard f.down.upper_thawed under upper-now

    not-parent : p ≢ under.parent
    not-parent e = absurd (omega (arith, ap (form_at c (here s)).level e, over.stands.level))

    not-node : a ≢ under.parent
    not-node e = absurd (omega (arith, ap (form_at c (here s)).level e, over.stands.level, leads.stands.level))

    pub none-frozen : is_among (slots_of frozen) under.parent ≡ false
    none-frozen = out-two a p under.parent not-node not-parent

pub inner-splits : InnerSplitsAreGood
inner-splits change s y upper middle lower q l r m sep good f stand swaps = elim f.down.upper_guard.under [
  | inl root ↦ good-swap s.past.config.nodes 0 (middle.slot ∷ upper.slot ∷ [])
      (root_links_turn_with s y upper q (both_freezings upper middle lower) (middle.slot ∷ upper.slot ∷ []) good root f.ready.fresh.root.slot (going s upper middle lower q l r m sep good f stand) stand swaps)
  | inr node ↦ good-swap node.parent node.child.child (node.parent ∷ middle.slot ∷ upper.slot ∷ [])
      (child_links_turn_with s y upper q (both_freezings upper middle lower) (middle.slot ∷ upper.slot ∷ []) good f.down.upper_guard f.down.upper_thawed node
      (none-frozen s upper middle lower q l r m sep good f stand node) f.ready.fresh.root.slot (going s upper middle lower q l r m sep good f stand) stand swaps)
]
  where
    good-swap : (top i : ℕ) (changed : List ℕ) → TurnsWith upper q (both_freezings upper middle lower) (middle.slot ∷ upper.slot ∷ []) s y top i changed → IsGoodSwap false change (inner_swap s.past.config upper middle lower q) s y
    good-swap top i changed t = link_swaps_are_good change (inner_swap s.past.config upper middle lower q) s changed (middle.slot ∷ upper.slot ∷ []) (q ∷ l ∷ r ∷ []) y good (link-swap s upper middle lower q l r m sep good f stand y top i changed t swaps)
