-- The swap of the split of an inner root is lawful for everybody and changes no content.
use Rattle.std.proofs.Common.{◌≡◌, ◌≢◌, ℕ, ◌+◌, ◌-◌, ◌<◌, true, false, List, [], ◌∷◌, arith, refl, sym, ap, subst, ◌∙◌, Option}
use Rattle.std.specs.Prelude.{Some, None}
use Rattle.bz_layout.specs.Addresses.{node_address}
use Rattle.bz_layout.specs.declared.config.Config.{Config}
use Rattle.bz_layout.specs.declared.sizes.TheConstants.{NODE_WORDS, ROOT_AT}
use Rattle.bz_tree.specs.Outcomes.{Regrows}
use Rattle.bz_tree.specs.Slots.{Halves, AreTwo}
use Rattle.bz_slotted.specs.Page.{page}
use Rattle.bz_slotted.specs.Readers.{level_of}
use Rattle.bz_slotted.specs.Rules.{node_fault}
use Rattle.bz_task.specs.FromSwap.SwapMemory.{is_target}
use Rattle.bz_word.specs.declared.entry.Entry.{Entry}
use Rattle.bz_content.specs.Content.{image_of, view_in, IsWellFormed}
use Rattle.bz_content.specs.Image.{Image, node, root}
use Rattle.bz_content.specs.Resolving.{resolve}
use Rattle.bz_content.specs.Restructures.{children_of, SplitsRoot, StandsWhole}
use Rattle.bz_content.specs.Swaps.{TurnsLink}
use Rattle.bz_content.proofs.Proved.{plain_words_stand_for_themselves, root_splits_keep_the_content, well_formed_images_have_no_fault}
use Rattle.bz_task.specs.Good.{IsGood}
use Rattle.bz_task.specs.Instant.{Instant, words, durable, page_at, form_at}
use Rattle.bz_task.specs.Laws.{SamePlace, HasRoot}
use Rattle.bz_task.specs.Scene.{Scene, IsScene, here}
use Rattle.bz_task.specs.Swaps.{Stand, SwapsTo}
use Rattle.bz_task.specs.declared.path.Link.{Link}
use Rattle.bz_task.proofs.Proved.{headers_say_the_level, roots_are_reached}
use Rattle.bz_renew.specs.Freezings.{Freezing, freezing_entry}
use Rattle.bz_renew.specs.LinkSwaps.{IsFresh, IsLinkSwap}
use Rattle.bz_renew.specs.Renewals.{renewal, link_entry, guard_entry}
use Rattle.bz_renew.specs.Standing.{StillLeads}
use Rattle.bz_renew.specs.Turning.{TurnsWith, AreGoing}
use Rattle.bz_renew.proofs.Freezings.{renewal-holds}
use Rattle.bz_renew.proofs.FreshSlots.{outside-tree, fresh-unchanged, raw-stays, durable-stays}
use Rattle.bz_renew.proofs.Inserting.{all-inserted-first}
use Rattle.bz_renew.proofs.TwoEntries.{both-stand}
use Rattle.bz_renew.proofs.Proved.{guarded_links_stand, link_swaps_are_good, links_may_be_turned, root_links_turn_with}
use Rattle.bz_below.specs.FromSplit.BelowSplits.{parent_freezing, below_swap}
use Rattle.bz_branch.specs.RootSplits.{IsInnerRootSplit, InnerRootSplitsAreGood}
use Rattle.bz_branch.proofs.InnerSplitting.{among-three, first-in}
use Rattle.bz_branch.proofs.Standing.{guard-is, node-below, then-good, then-inside, same-place, same-words}

module _ (s : Scene) (y : Instant) (upper lower : Link) (q l r m : ℕ) (sep : List ℕ) (good : IsScene s) (f : IsInnerRootSplit upper lower q l r m sep s) (stand : Stand (below_swap s.past.config upper lower q) (here s)) (swaps : SwapsTo s.past.config (below_swap s.past.config upper lower q) (here s) y) where
  abbrev a : ℕ
  a = upper.slot

  abbrev c : Config
  c = s.past.config

  abbrev frozen : List Freezing
  frozen = parent_freezing upper lower ∷ []

  abbrev stands : Entry → Type 0
  stands e = (here s).value e.target ≡ e.expected

  g : IsGood c (here s)
  g = good.history.good s.past.now good.begun (omega arith)

  -- the status of the node is as it was read, so it is as it was
  node-now : (here s).value lower.guard ≡ lower.status
  node-now = ap (here s).value (guard-is s a lower good f.node) ∙ all-inserted-first stands (freezing_entry c (parent_freezing upper lower)) (renewal upper q) stand

  leads : StillLeads lower s f.node.guard.guarded a f.node.under.child.child
  leads = subst (λ z. StillLeads lower s f.node.guard.guarded z f.node.under.child.child) f.node.parent (guarded_links_stand s lower good f.node.guard f.node.thawed f.node.under node-now)

  place : SamePlace c (s.past.at f.node.guard.guarded) (here s) a
  place = same-place s a lower good f.node f.node.under.child.child leads

  same : durable c (here s) a ≡ words c (s.past.at f.node.guard.guarded) a
  same = same-words s a lower good f.node f.node.under.child.child leads

  below-top : a ≢ c.nodes
  below-top e = absurd (omega (arith, e, node-below s a lower good f.node))

  going : AreGoing frozen (a ∷ []) s
  going = record {
    freezable = (record { reached = leads.reached; plain = (links_may_be_turned s lower good f.node.guard f.node.thawed).plain; thawed = f.node.thawed }, (refl, tt));
    go = λ k e. e;
  }

  t : TurnsWith upper q frozen (a ∷ []) s y c.nodes 0 (a ∷ [])
  t = root_links_turn_with s y upper q frozen (a ∷ []) good f.under f.ready.fresh.root.slot going stand swaps

  -- the node is the root
  root-is : root (resolve (here s).image) ≡ a
  root-is =
      let led : (here s).value ROOT_AT ≡ a + 1 = ap (here s).value (sym f.under.pointer) ∙ (both-stand (link_entry upper q) (guard_entry upper) (here s) (renewal-holds c upper q stands frozen stand)).0 in
      omega (arith, g.root, led)

  -- and holds every key
  all-keys : HasRoot c (here s) a
  all-keys =
      let at : (here s).value ROOT_AT - 1 ≡ a = omega (arith, root-is, g.root) in
      subst (HasRoot c (here s)) at (roots_are_reached c (here s) g)

  abbrev level_then : ℕ
  level_then = (form_at c (s.past.at f.node.guard.guarded)).level a

  header-level : (n k : ℕ → ℕ) → n ≡ k → level_of n ≡ (page k).level
  unfolding level_of
  header-level n k e = ap (λ i. (page i).level) e

  level : level_of (node c (resolve (here s).image) (root (resolve (here s).image))) ≡ level_then
  level =
      subst (λ z. level_of (node c (resolve (here s).image) z) ≡ level_then) (sym root-is)
      (header-level (durable c (here s) a) (words c (s.past.at f.node.guard.guarded) a) same ∙ (headers_say_the_level c (s.past.at f.node.guard.guarded) a (then-good s a lower good f.node) below-top (then-inside s a lower good f.node)).level)

  level-some : 0 < level_then
  level-some = omega (arith, place.level, leads.stands.level)

  abbrev x : Image
  x = image_of (here s).image

  abbrev z : Image
  z = image_of y.image

  -- the words of a fresh slot afterwards are those that were stored
  module _ (k : ℕ) (fresh : IsFresh s k) where
    unnamed : (j : ℕ) → j < NODE_WORDS → is_target (below_swap c upper lower q) (node_address c k + j) ≡ false
    unnamed j n = t.others k j (fresh-unchanged s y (a ∷ []) k good fresh t.changes) n

    after : durable c y k ≡ words c (here s) k
    after = durable-stays plain_words_stand_for_themselves (below_swap c upper lower q) s y k good fresh unnamed swaps

    stands-after : (was now : ℕ) (low low_now high high_now : Option (List ℕ)) → now ≡ was → low_now ≡ low → high_now ≡ high → node_fault c.nodes (words c (here s) k) (words c (here s) k) was low high ≡ None → StandsWhole c z k now low_now high_now
    stands-after was now low low_now high high_now levels lows highs e =
        (λ j. node_fault c.nodes (raw-stays plain_words_stand_for_themselves (below_swap c upper lower q) s y k good fresh unnamed swaps j) (after j) (levels j) (lows j) (highs j)) ∙ e

  halves : Halves (children_of (durable c (here s) a)) (children_of (durable c y l)) (children_of (durable c y r)) m sep
  halves = subst (λ n. Halves (children_of n) (children_of (durable c y l)) (children_of (durable c y r)) m sep) (sym same)
      (subst (λ n. Halves (children_of (words c (s.past.at f.node.guard.guarded) a)) (children_of n) (children_of (durable c y r)) m sep) (sym (after l f.ready.fresh.left))
      (subst (λ n. Halves (children_of (words c (s.past.at f.node.guard.guarded) a)) (children_of (words c (here s) l)) (children_of n) m sep) (sym (after r f.ready.fresh.right)) f.ready.halves))

  no-low : None ≡ (form_at c (s.past.at f.node.guard.guarded)).low a
  no-low = sym all-keys.low ∙ place.low

  no-high : None ≡ (form_at c (s.past.at f.node.guard.guarded)).high a
  no-high = sym all-keys.high ∙ place.high

  splits : SplitsRoot c x z q l r m sep
  splits = record {
    fresh_q = outside-tree s q good f.ready.fresh.root;
    fresh_l = outside-tree s l good f.ready.fresh.left;
    fresh_r = outside-tree s r good f.ready.fresh.right;
    three = f.ready.fresh.three;
    link = subst (λ j. TurnsLink c x z c.nodes 0 q (j ∷ [])) (sym root-is) t.turns;
    two = subst (λ n. AreTwo (children_of n) l r sep) (sym (after q f.ready.fresh.root)) f.ready.two;
    halves = λ deep. subst (λ j. Halves (children_of (node c (resolve (here s).image) j)) (children_of (durable c y l)) (children_of (durable c y r)) m sep) (sym root-is) halves;
    says = λ flat. absurd (omega (arith, flat, level, level-some));
    whole_q = stands-after q f.ready.fresh.root _ _ _ None _ None (omega (arith, level)) refl refl f.ready.root_whole;
    whole_l = stands-after l f.ready.fresh.left _ _ _ None _ (Some sep) level no-low refl f.ready.left_whole;
    whole_r = stands-after r f.ready.fresh.right _ _ _ (Some sep) _ None level refl no-high f.ready.right_whole;
  }

  regrows : Regrows (view_in c (here s).image) (view_in c y.image) (a ∷ []) (q ∷ l ∷ r ∷ [])
  regrows =
      let w : IsWellFormed c (here s).image = (well_formed_images_have_no_fault c (here s).image).0 g.form in
      subst (λ j. Regrows (view_in c (here s).image) (view_in c y.image) (j ∷ []) (q ∷ l ∷ r ∷ [])) root-is (root_splits_keep_the_content c x z q l r m sep w.tree splits)

  root-frozen : (page_at c y a).frozen ≡ true
  root-frozen = t.freezes a (first-in a [])

  link-swap : IsLinkSwap (below_swap c upper lower q) s (a ∷ []) (a ∷ []) (q ∷ l ∷ r ∷ []) y
  link-swap = record {
    swaps = swaps;
    targets = t.targets;
    others = t.others;
    changes = t.changes;
    root = t.root root-frozen;
    fresh = among-three q l r s f.ready.fresh;
    frozen = λ k e. t.freezes k e;
    regrows = regrows;
  }

pub inner-root-splits : InnerRootSplitsAreGood
inner-root-splits change s y upper lower q l r m sep good f stand swaps =
    link_swaps_are_good change (below_swap s.past.config upper lower q) s (upper.slot ∷ []) (upper.slot ∷ []) (q ∷ l ∷ r ∷ []) y good (link-swap s y upper lower q l r m sep good f stand swaps)
