-- The swap of a lowering is lawful for everybody and changes no content.
use Rattle.std.proofs.Common.{◌≡◌, ◌≢◌, ℕ, ◌+◌, ◌<◌, ◌==◌, true, false, List, [], ◌∷◌, arith, refl, sym, ap, subst, ◌∙◌, inl, inr}
use Rattle.std.proofs.lemmas.Bool.Decides.{nat_tests}
use Rattle.bz_layout.specs.declared.config.Config.{Config}
use Rattle.bz_layout.specs.declared.sizes.TheConstants.{STATUS_AT, ROOT_AT}
use Rattle.bz_tree.specs.Form.{Fits, Hangs}
use Rattle.bz_tree.specs.Outcomes.{Regrows}
use Rattle.bz_tree.specs.Walk.{is_among}
use Rattle.bz_slotted.specs.Page.{page}
use Rattle.bz_slotted.specs.Readers.{level_of, count_of, child_of}
use Rattle.bz_word.specs.Statuses.{status}
use Rattle.bz_word.specs.declared.entry.Entry.{Entry}
use Rattle.bz_content.specs.Content.{image_of, view_in, IsWellFormed}
use Rattle.bz_content.specs.Image.{Image, node, root}
use Rattle.bz_content.specs.Resolving.{resolve}
use Rattle.bz_content.specs.Swaps.{TurnsLink}
use Rattle.bz_content.proofs.Proved.{well_formed_images_have_no_fault}
use Rattle.bz_levels.specs.Restructures.{LowersRoot}
use Rattle.bz_levels.proofs.Proved.{lowered_roots_keep_the_content}
use Rattle.bz_task.specs.Good.{IsGood}
use Rattle.bz_task.specs.Instant.{Instant, words, durable, page_at, form_at}
use Rattle.bz_task.specs.Scene.{Scene, IsScene, here}
use Rattle.bz_task.specs.Swaps.{Stand, SwapsTo}
use Rattle.bz_task.specs.declared.path.Link.{Link}
use Rattle.bz_renew.specs.Freezings.{Freezing, freezing_entry}
use Rattle.bz_renew.specs.LinkSwaps.{IsLinkSwap}
use Rattle.bz_renew.specs.Renewals.{renewal, link_entry, guard_entry}
use Rattle.bz_renew.specs.Standing.{StillLeads}
use Rattle.bz_renew.specs.Turning.{TurnsWith, AreGoing}
use Rattle.bz_renew.proofs.Freezings.{renewal-holds}
use Rattle.bz_renew.proofs.Inserting.{all-inserted-first}
use Rattle.bz_renew.proofs.TwoEntries.{both-stand}
use Rattle.bz_renew.proofs.Words.{node-at}
use Rattle.bz_renew.proofs.Proved.{guarded_links_stand, link_swaps_are_good, root_links_turn_with}
use Rattle.bz_branch.specs.FromSplit.BelowSplits.{parent_freezing, below_swap}
use Rattle.bz_branch.proofs.Standing.{guard-is, node-below}
use Rattle.bz_inner.specs.Lowerings.{IsLowering, LoweringsAreGood}
use Rattle.bz_inner.proofs.Roots.{form-fits}

no : (a b : ℕ) → a ≢ b → (a == b) ≡ false
no a b ne = grind (arith, nat_tests)

header-level : (n k : ℕ → ℕ) → n ≡ k → level_of n ≡ (page k).level
unfolding level_of
header-level n k e = ap (λ i. (page i).level) e

status-count : (n k : ℕ → ℕ) → n ≡ k → count_of n ≡ (page k).count
unfolding count_of
status-count n k e = ap (λ i. (page i).count) e

module _ (s : Scene) (y : Instant) (upper lower : Link) (good : IsScene s) (f : IsLowering upper lower s) (stand : Stand (below_swap s.past.config upper lower lower.slot) (here s)) (swaps : SwapsTo s.past.config (below_swap s.past.config upper lower lower.slot) (here s) y) where
  abbrev a : ℕ
  a = upper.slot

  abbrev to : ℕ
  to = lower.slot

  abbrev c : Config
  c = s.past.config

  abbrev frozen : List Freezing
  frozen = parent_freezing upper lower ∷ []

  abbrev stands : Entry → Type 0
  stands e = (here s).value e.target ≡ e.expected

  g : IsGood c (here s)
  g = good.history.good s.past.now good.begun (omega arith)

  -- the root's own status is as it was read, so the root is as it was
  node-now : (here s).value lower.guard ≡ lower.status
  node-now = ap (here s).value (guard-is s a lower good f.node) ∙ all-inserted-first stands (freezing_entry c (parent_freezing upper lower)) (renewal upper to) stand

  pub leads : StillLeads lower s f.node.guard.guarded a f.node.under.child.child
  leads = subst (λ z. StillLeads lower s f.node.guard.guarded z f.node.under.child.child) f.node.parent (guarded_links_stand s lower good f.node.guard f.node.thawed f.node.under node-now)

  below-top : a ≢ c.nodes
  below-top e = absurd (omega (arith, e, node-below s a lower good f.node))

  going : AreGoing frozen (a ∷ []) s
  going = record {
    freezable = (record { reached = leads.reached; plain = f.one.plain; thawed = f.node.thawed }, (refl, tt));
    go = λ k e. e;
  }

  pub turns : TurnsWith upper to frozen (a ∷ []) s y c.nodes 0 (a ∷ [])
  turns = root_links_turn_with s y upper to frozen (a ∷ []) good f.under f.slot going stand swaps

  -- the root pointer leads to it
  pub pointer-now : (here s).value ROOT_AT ≡ a + 1
  pointer-now = ap (here s).value (sym f.under.pointer) ∙ (both-stand (link_entry upper to) (guard_entry upper) (here s) (renewal-holds c upper to stands frozen stand)).0

  root-is : root (resolve (here s).image) ≡ a
  root-is = omega (arith, g.root, pointer-now)

  -- its words in the image are those that reads answer
  same : durable c (here s) a ≡ words c (here s) a
  same = λ t i. g.shown a i leads.reached (inr (inr (inl leads.inner))) t

  level : 0 < level_of (durable c (here s) a)
  level = omega (arith, header-level (durable c (here s) a) (words c (here s) a) same, leads.inner)

  status-now : words c (here s) a STATUS_AT ≡ lower.status
  status-now = node-at c (here s).value a STATUS_AT (omega arith) ∙ (ap (here s).value (sym (guard-is s a lower good f.node)) ∙ node-now)

  pub one-now : (page_at c (here s) a).count ≡ 1
  one-now = ap (λ z. (status z).count) status-now ∙ f.one.one

  one : count_of (durable c (here s) a) ≡ 1
  one = status-count (durable c (here s) a) (words c (here s) a) same ∙ one-now

  -- the lower link's slot is its one child
  fit : Fits (view_in c (here s).image) (form_at c (here s))
  fit = form-fits c (here s) g

  to-below : to ≢ c.nodes
  to-below e = absurd (omega (arith, e, f.slot))

  hangs : Hangs (view_in c (here s).image) (form_at c (here s)) to
  hangs = fit.hangs to leads.stands.inside to-below

  count-seen : (view_in c (here s).image).count a ≡ 1
  count-seen = rw (no a c.nodes below-top) one

  first : (form_at c (here s)).index to ≡ 0
  first = omega (arith, hangs.within, ap (view_in c (here s).image).count leads.stands.up, count-seen)

  child-seen : (view_in c (here s).image).child a 0 ≡ to
  child-seen = (λ t. (view_in c (here s).image).child (sym leads.stands.up t) (sym first t)) ∙ hangs.child

  child : child_of (durable c (here s) a) 0 ≡ to
  child = rw (no a c.nodes below-top) at child-seen

  abbrev x : Image
  x = image_of (here s).image

  abbrev z : Image
  z = image_of y.image

  pub lowers : LowersRoot c x z to
  lowers = record {
    inner = subst (λ j. 0 < level_of (node c (resolve (here s).image) j)) (sym root-is) level;
    one = subst (λ j. count_of (node c (resolve (here s).image) j) ≡ 1) (sym root-is) one;
    child = subst (λ j. child_of (node c (resolve (here s).image) j) 0 ≡ to) (sym root-is) child;
    link = subst (λ j. TurnsLink c x z c.nodes 0 to (j ∷ [])) (sym root-is) turns.turns;
  }

  regrows : Regrows (view_in c (here s).image) (view_in c y.image) (a ∷ []) []
  regrows =
      let w : IsWellFormed c (here s).image = (well_formed_images_have_no_fault c (here s).image).0 g.form in
      subst (λ j. Regrows (view_in c (here s).image) (view_in c y.image) (j ∷ []) []) root-is (lowered_roots_keep_the_content c x z to w.tree lowers)

  among-it : is_among (a ∷ []) a ≡ true
  among-it = let t : (a == a) ≡ true = grind (arith, nat_tests) in rw t refl

  pub root-frozen : (page_at c y a).frozen ≡ true
  root-frozen = turns.freezes a among-it

  pub link-swap : IsLinkSwap (below_swap c upper lower to) s (a ∷ []) (a ∷ []) [] y
  link-swap = record {
    swaps = swaps;
    targets = turns.targets;
    others = turns.others;
    changes = turns.changes;
    root = turns.root root-frozen;
    fresh = λ k e. absurd (cc);
    frozen = λ k e. turns.freezes k e;
    regrows = regrows;
  }

pub lowerings : LoweringsAreGood
lowerings change s y upper lower good f stand swaps =
    link_swaps_are_good change (below_swap s.past.config upper lower lower.slot) s (upper.slot ∷ []) (upper.slot ∷ []) [] y good (link-swap s y upper lower good f stand swaps)
