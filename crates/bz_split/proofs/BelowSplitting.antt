-- The swap of a leaf's split below a parent is lawful for everybody and changes no content.
use Rattle.std.proofs.Common.{◌≡◌, ◌≢◌, ℕ, ◌+◌, ◌<◌, ◌==◌, ◌||◌, Bool, true, false, List, [], ◌∷◌, arith, refl, sym, ap, subst, ◌∙◌, inl, inr, Option}
use Rattle.std.specs.Prelude.{Some, None}
use Rattle.std.proofs.lemmas.Bool.{true≢false}
use Rattle.std.proofs.lemmas.Bool.Decides.{nat_tests}
use Rattle.bz_layout.specs.Addresses.{node_address}
use Rattle.bz_layout.specs.declared.sizes.TheConstants.{NODE_WORDS, STATUS_AT}
use Rattle.bz_tree.specs.Outcomes.{Regrows}
use Rattle.bz_tree.specs.Slots.{Wider}
use Rattle.bz_tree.specs.Walk.{is_among}
use Rattle.bz_slotted.specs.Page.{page}
use Rattle.bz_slotted.specs.Readers.{found_of}
use Rattle.bz_slotted.specs.Rules.{node_fault}
use Rattle.bz_task.specs.FromSwap.SwapMemory.{is_target}
use Rattle.bz_word.specs.Statuses.{status}
use Rattle.bz_word.specs.declared.entry.Entry.{Entry}
use Rattle.bz_content.specs.Content.{image_of, view_in, IsWellFormed}
use Rattle.bz_content.specs.Laws.{WellFormedImagesHaveNoFault, PlainWordsStandForThemselves, SplitsKeepTheContent}
use Rattle.bz_content.specs.Restructures.{children_of, SaysInHalves, Splits, StandsWhole}
use Rattle.bz_content.specs.Swaps.{TurnsLink}
use Rattle.bz_task.specs.Good.{IsGood}
use Rattle.bz_task.specs.Instant.{Instant, words, durable, page_at, form_at, is_inside}
use Rattle.bz_task.specs.Laws.{SamePlace, RangesStay}
use Rattle.bz_task.specs.Outcomes.{IsUnderNode}
use Rattle.bz_task.specs.Scene.{Scene, IsScene, here}
use Rattle.bz_task.specs.Swaps.{Stand, SwapsTo, IsGoodSwap}
use Rattle.bz_task.specs.declared.path.Link.{Link}
use Rattle.bz_renew.specs.Freezings.{Freezing, freezing_entry}
use Rattle.bz_renew.specs.FrozenLeaves.{StandsStill, FrozenLeavesStandStill}
use Rattle.bz_renew.specs.LinkSwaps.{IsFresh, IsLinkSwap, LinkSwapsAreGood}
use Rattle.bz_renew.specs.Renewals.{renewal, link_entry, guard_entry, LinksMayBeTurned}
use Rattle.bz_renew.specs.Standing.{StillLeads, GuardedLinksStand}
use Rattle.bz_renew.specs.Turning.{TurnsWith, AreGoing, RootLinksTurnWith, ChildLinksTurnWith}
use Rattle.bz_renew.proofs.Freezings.{renewal-holds}
use Rattle.bz_renew.proofs.FreshSlots.{outside-tree, fresh-unchanged, raw-stays, durable-stays}
use Rattle.bz_renew.proofs.Inserting.{all-inserted-first}
use Rattle.bz_renew.proofs.TwoEntries.{both-stand}
use Rattle.bz_renew.proofs.Words.{untouched, node-at, node-same, or-right}
use Rattle.bz_split.specs.BelowSplits.{parent_freezing, below_swap, IsBelowSplit, LeafSplitsBelowAreGood}
use Rattle.bz_split.proofs.RootSplitting.{among-three}

-- the laws on which the swap rests
pub record Laws : Type 0 where
  pub formed : WellFormedImagesHaveNoFault
  pub plain : PlainWordsStandForThemselves
  pub keep : SplitsKeepTheContent
  pub may : LinksMayBeTurned
  pub root : RootLinksTurnWith
  pub child : ChildLinksTurnWith
  pub stand : GuardedLinksStand
  pub still : FrozenLeavesStandStill
  pub ranges : RangesStay
  pub links : LinkSwapsAreGood

itself : (k : ℕ) → is_among (k ∷ []) k ≡ true
itself k = let t : (k == k) ≡ true = grind (arith, nat_tests) in rw t refl

out-one : (x k : ℕ) → x ≢ k → is_among (x ∷ []) k ≡ false
out-one x k ne = let t : (x == k) ≡ false = grind (arith, nat_tests) in rw t refl

out-two : (x z k : ℕ) → x ≢ k → z ≢ k → is_among (x ∷ z ∷ []) k ≡ false
out-two x z k ne other = let t : (x == k) ≡ false = grind (arith, nat_tests) in let u : (z == k) ≡ false = grind (arith, nat_tests) in rw (t, u) refl

among-two : (P : ℕ → Type 0) (a p k : ℕ) → P a → P p → is_among (a ∷ p ∷ []) k ≡ true → P k
among-two P a p k f h e = go (a == k) refl (p == k) refl e
  where
    go : (t : Bool) → (a == k) ≡ t → (u : Bool) → (p == k) ≡ u → (t || (u || false)) ≡ true → P k
    go true q u v z = let same : a ≡ k = grind (arith, nat_tests) in subst P same f
    go false q true v z = let same : p ≡ k = grind (arith, nat_tests) in subst P same h
    go false q false v z = absurd (cc)

module _ (b : Laws) (s : Scene) (upper lower : Link) (q l r m : ℕ) (sep : List ℕ) (good : IsScene s) (f : IsBelowSplit upper lower q l r m sep s) (stand : Stand (below_swap s.past.config upper lower q) (here s)) where
  abbrev p : ℕ
  p = upper.slot

  abbrev a : ℕ
  a = lower.slot

  abbrev frozen : List Freezing
  frozen = parent_freezing upper lower ∷ []

  abbrev then : ℕ
  then = f.links.guard.guarded

  g : IsGood s.past.config (here s)
  g = good.history.good s.past.now good.begun (omega arith)

  -- the parent's status is as it was read
  guard-is : lower.guard ≡ node_address s.past.config p + STATUS_AT
  guard-is = f.links.under.guard ∙ ap (λ z. node_address s.past.config z + STATUS_AT) f.links.parent

  guard-now : (here s).value lower.guard ≡ lower.status
  guard-now = ap (here s).value guard-is ∙ all-inserted-first (λ (e : Entry). (here s).value e.target ≡ e.expected) (freezing_entry s.past.config (parent_freezing upper lower)) (renewal upper q) stand

  -- so the leaf is its child still
  pub leads : StillLeads lower s then p f.links.under.child.child
  leads = subst (λ z. StillLeads lower s then z f.links.under.child.child) f.links.parent (b.stand s lower good f.links.guard f.links.thawed f.links.under guard-now)

  pub going : AreGoing frozen (a ∷ p ∷ []) s
  going = record {
    freezable = (record { reached = leads.reached; plain = (b.may s lower good f.links.guard f.links.thawed).plain; thawed = f.links.thawed }, (refl, tt));
    go = λ k e. or-right (a == k) (is_among (p ∷ []) k) e;
  }

  -- the parent stood where it stands
  then-good : IsGood s.past.config (s.past.at then)
  then-good = good.history.good then f.links.guard.since (omega (arith, f.links.guard.order, f.links.guard.now))

  then-reached : (s.past.at then).reached p ≡ true
  then-reached = subst (λ z. (s.past.at then).reached z ≡ true) f.links.parent f.links.under.reached

  then-inner : 0 < (page_at s.past.config (s.past.at then) p).level
  then-inner = subst (λ z. 0 < (page_at s.past.config (s.past.at then) z).level) f.links.parent f.links.under.child.inner

  then-thawed : (page_at s.past.config (s.past.at then) p).frozen ≡ false
  then-thawed =
      let was : words s.past.config (s.past.at then) p STATUS_AT ≡ lower.status = node-at s.past.config (s.past.at then).value p STATUS_AT (omega arith) ∙ (ap (s.past.at then).value (sym guard-is) ∙ f.links.guard.status) in
      ap (λ z. (status z).frozen) was ∙ f.links.thawed

  then-inside : is_inside s.past.config (s.past.at then) p ≡ true
  then-inside = elim (then-good.placed p then-reached) [ inl t ↦ t | inr o ↦ absurd (true≢false (sym o ∙ then-thawed)) ]

  same-place : SamePlace s.past.config (s.past.at then) (here s) p
  same-place = b.ranges s.past.config s.past.at s.past.since s.past.now then s.past.now p good.history
      (record { since = f.links.guard.since; order = omega (arith, f.links.guard.order, f.links.guard.now); until = omega arith }) (λ e. absurd (omega (arith, e, g.slots p leads.reached))) then-inside leads.inside

  -- and its words are those that were read
  same-words : durable s.past.config (here s) p ≡ words s.past.config (s.past.at then) p
  same-words = (λ t k. g.shown p k leads.reached (inr (inr (inl leads.inner))) t) ∙ (λ t k. leads.same k (inr (inr (inl then-inner))) t)

  leaf : StandsStill a m s
  leaf = b.still s a m good f.leaf

  where-it-was : SamePlace s.past.config (s.past.at m) (here s) a
  where-it-was = leaf.place leads.stands.inside

  flat : (form_at s.past.config (here s)).level a ≡ 0
  flat = leaf.leaf leads.stands.inside

  -- where the upper link stands
  module _ (y : Instant) (g i : ℕ) (changed : List ℕ) (t : TurnsWith upper q frozen (a ∷ p ∷ []) s y g i changed) (out : is_among changed a ≡ false) (swaps : SwapsTo s.past.config (below_swap s.past.config upper lower q) (here s) y) where
    -- the words of a fresh slot afterwards are those that were stored
    module _ (k : ℕ) (fresh : IsFresh s k) where
      unnamed : (j : ℕ) → j < NODE_WORDS → is_target (below_swap s.past.config upper lower q) (node_address s.past.config k + j) ≡ false
      unnamed j n = t.others k j (fresh-unchanged s y changed k good fresh t.changes) n

      after : durable s.past.config y k ≡ words s.past.config (here s) k
      after = durable-stays b.plain (below_swap s.past.config upper lower q) s y k good fresh unnamed swaps

      stands-after : (level : ℕ) (low high : Option (List ℕ)) → node_fault s.past.config.nodes (words s.past.config (here s) k) (words s.past.config (here s) k) level low high ≡ None → StandsWhole s.past.config (image_of y.image) k level low high
      stands-after level low high e = (λ z. node_fault s.past.config.nodes (raw-stays b.plain (below_swap s.past.config upper lower q) s y k good fresh unnamed swaps z) (after z) level low high) ∙ e

    says : SaysInHalves s.past.config (image_of (here s).image) (image_of y.image) a l r sep
    says = record {
      before = λ key e. ap (λ n. found_of n key) (after l f.ready.fresh.left) ∙ (f.ready.before key e ∙ sym (leaf.says leads.stands.inside key));
      from = λ key e. ap (λ n. found_of n key) (after r f.ready.fresh.right) ∙ (f.ready.from key e ∙ sym (leaf.says leads.stands.inside key));
    }

    turns : TurnsLink s.past.config (image_of (here s).image) (image_of y.image) ((form_at s.past.config (here s)).up p) ((form_at s.past.config (here s)).index p) q (a ∷ p ∷ [])
    turns =
        subst (λ z. TurnsLink s.past.config (image_of (here s).image) (image_of y.image) z ((form_at s.past.config (here s)).index p) q (a ∷ p ∷ [])) (sym t.up)
        (subst (λ z. TurnsLink s.past.config (image_of (here s).image) (image_of y.image) g z q (a ∷ p ∷ [])) (sym t.index) t.turns)

    wider : Wider (children_of (durable s.past.config (here s) p)) (children_of (durable s.past.config y q)) f.links.under.child.child l r sep
    wider = subst (λ n. Wider (children_of n) (children_of (durable s.past.config y q)) f.links.under.child.child l r sep) (sym same-words)
        (subst (λ n. Wider (children_of (words s.past.config (s.past.at then) p)) (children_of n) f.links.under.child.child l r sep) (sym (after q f.ready.fresh.root)) f.ready.wider)

    parent-whole : StandsWhole s.past.config (image_of y.image) q ((form_at s.past.config (here s)).level p) ((form_at s.past.config (here s)).low p) ((form_at s.past.config (here s)).high p)
    parent-whole =
        (λ z. node_fault s.past.config.nodes (raw-stays b.plain (below_swap s.past.config upper lower q) s y q good f.ready.fresh.root (unnamed q f.ready.fresh.root) swaps z) (after q f.ready.fresh.root z) (same-place.level z) (same-place.low z) (same-place.high z))
        ∙ f.ready.parent_whole

    up : (form_at s.past.config (here s)).up a ≡ p
    up = leads.stands.up

    splits : Splits s.past.config (image_of (here s).image) (image_of y.image) a q l r 0 sep
    splits = record {
      inside = leads.stands.inside;
      not_top = λ e. absurd (omega (arith, e, f.leaf.slot));
      deep = λ e. absurd (omega (arith, e, up, (good.history.good s.past.now good.begun (omega arith)).slots p leads.reached));
      fresh_q = outside-tree s q good f.ready.fresh.root;
      fresh_l = outside-tree s l good f.ready.fresh.left;
      fresh_r = outside-tree s r good f.ready.fresh.right;
      three = f.ready.fresh.three;
      link = subst (λ z. TurnsLink s.past.config (image_of (here s).image) (image_of y.image) ((form_at s.past.config (here s)).up z) ((form_at s.past.config (here s)).index z) q (a ∷ z ∷ [])) (sym up) turns;
      wider = subst (λ z. Wider (children_of (durable s.past.config (here s) z)) (children_of (durable s.past.config y q)) ((form_at s.past.config (here s)).index a) l r sep) (sym up)
          (subst (λ z. Wider (children_of (durable s.past.config (here s) p)) (children_of (durable s.past.config y q)) z l r sep) (sym leads.stands.index) wider);
      halves = λ deep. absurd (omega (arith, deep, flat));
      says = λ e. says;
      whole_q = subst (λ z. StandsWhole s.past.config (image_of y.image) q ((form_at s.past.config (here s)).level z) ((form_at s.past.config (here s)).low z) ((form_at s.past.config (here s)).high z)) (sym up) parent-whole;
      whole_l = subst (λ z. StandsWhole s.past.config (image_of y.image) l z ((form_at s.past.config (here s)).low a) (Some sep)) (sym flat)
          (subst (λ z. StandsWhole s.past.config (image_of y.image) l 0 z (Some sep)) (sym where-it-was.low) (stands-after l f.ready.fresh.left 0 _ (Some sep) f.ready.left_whole));
      whole_r = subst (λ z. StandsWhole s.past.config (image_of y.image) r z (Some sep) ((form_at s.past.config (here s)).high a)) (sym flat)
          (subst (λ z. StandsWhole s.past.config (image_of y.image) r 0 (Some sep) z) (sym where-it-was.high) (stands-after r f.ready.fresh.right 0 (Some sep) _ f.ready.right_whole));
    }

    regrows : Regrows (view_in s.past.config (here s).image) (view_in s.past.config y.image) (a ∷ p ∷ []) (q ∷ l ∷ r ∷ [])
    regrows =
        let w : IsWellFormed s.past.config (here s).image = (b.formed s.past.config (here s).image).0 (good.history.good s.past.now good.begun (omega arith)).form in
        subst (λ z. Regrows (view_in s.past.config (here s).image) (view_in s.past.config y.image) (a ∷ z ∷ []) (q ∷ l ∷ r ∷ [])) up
        (b.keep s.past.config (image_of (here s).image) (image_of y.image) a q l r 0 sep w.tree splits)

    -- the leaf is frozen still, and the parent is frozen then
    leaf-frozen : (page_at s.past.config y a).frozen ≡ true
    leaf-frozen =
        let same : words s.past.config y a ≡ words s.past.config (here s) a = λ z k. node-same s.past.config (here s).value y.value a
        (λ j n. swaps.value (node_address s.past.config a + j) ∙ untouched (below_swap s.past.config upper lower q) (here s).value (node_address s.past.config a + j) (t.others a j out n)) k z in
        ap (λ n. (page n).frozen) same ∙ leaf.frozen

    parent-frozen : (page_at s.past.config y p).frozen ≡ true
    parent-frozen = t.freezes p (itself p)

    pub link-swap : IsLinkSwap (below_swap s.past.config upper lower q) s changed (a ∷ p ∷ []) (q ∷ l ∷ r ∷ []) y
    link-swap = record {
      swaps = swaps;
      targets = t.targets;
      others = t.others;
      changes = t.changes;
      root = t.root parent-frozen;
      fresh = among-three q l r s f.ready.fresh;
      frozen = λ k e. among-two (λ z. (page_at s.past.config y z).frozen ≡ true) a p k leaf-frozen parent-frozen e;
      regrows = regrows;
    }

  -- a node is none of those above it
  apart : p ≢ a
  apart e = absurd (omega (arith, ap (form_at s.past.config (here s)).level e, leads.stands.level))

  -- the node of the upper link, where it is one
  module _ (under : IsUnderNode s.past upper f.links.upper_guard.guarded) where
    upper-now : (here s).value upper.guard ≡ upper.status
    upper-now = (both-stand (link_entry upper q) (guard_entry upper) (here s) (renewal-holds s.past.config upper q (λ (e : Entry). (here s).value e.target ≡ e.expected) frozen stand)).1

    above : StillLeads upper s f.links.upper_guard.guarded under.parent under.child.child
    above = b.stand s upper good f.links.upper_guard f.links.upper_thawed under upper-now

    pub not-parent : p ≢ under.parent
    not-parent e = absurd (omega (arith, ap (form_at s.past.config (here s)).level e, above.stands.level))

    pub not-leaf : under.parent ≢ a
    not-leaf e = absurd (omega (arith, ap (form_at s.past.config (here s)).level e, above.stands.level, leads.stands.level))

pub splits-below : Laws → LeafSplitsBelowAreGood
splits-below b change s y upper lower q l r m sep good f stand swaps = elim f.links.upper_guard.under [
  | inl root ↦ good-swap s.past.config.nodes 0 (upper.slot ∷ []) (b.root s y upper q (parent_freezing upper lower ∷ []) (lower.slot ∷ upper.slot ∷ []) good root f.ready.fresh.root.slot (going b s upper lower q l r m sep good f stand) stand swaps)
      (out-one upper.slot lower.slot (apart b s upper lower q l r m sep good f stand))
  | inr node ↦ good-swap node.parent node.child.child (node.parent ∷ upper.slot ∷ [])
      (b.child s y upper q (parent_freezing upper lower ∷ []) (lower.slot ∷ upper.slot ∷ []) good f.links.upper_guard f.links.upper_thawed node
      (out-one upper.slot node.parent (not-parent b s upper lower q l r m sep good f stand node)) f.ready.fresh.root.slot (going b s upper lower q l r m sep good f stand) stand swaps)
      (out-two node.parent upper.slot lower.slot (not-leaf b s upper lower q l r m sep good f stand node) (apart b s upper lower q l r m sep good f stand))
]
  where
    good-swap : (g i : ℕ) (changed : List ℕ) → TurnsWith upper q (parent_freezing upper lower ∷ []) (lower.slot ∷ upper.slot ∷ []) s y g i changed → is_among changed lower.slot ≡ false → IsGoodSwap false change (below_swap s.past.config upper lower q) s y
    good-swap g i changed t out = b.links change (below_swap s.past.config upper lower q) s changed (lower.slot ∷ upper.slot ∷ []) (q ∷ l ∷ r ∷ []) y good (link-swap b s upper lower q l r m sep good f stand y g i changed t out swaps)
