-- The swap of a root leaf's split is lawful for everybody and changes no content.
use Rattle.std.proofs.Common.{◌≡◌, ℕ, ◌+◌, ◌-◌, ◌==◌, ◌||◌, Bool, true, false, List, [], ◌∷◌, arith, refl, sym, ap, subst, ◌∙◌, inl, Option}
use Rattle.std.specs.Prelude.{Some, None}
use Rattle.std.proofs.lemmas.Bool.Decides.{nat_tests}
use Rattle.bz_layout.specs.Addresses.{node_address}
use Rattle.bz_layout.specs.declared.sizes.TheConstants.{HEADER_AT, ROOT_AT}
use Rattle.bz_tree.specs.Outcomes.{Regrows}
use Rattle.bz_tree.specs.Slots.{AreTwo}
use Rattle.bz_tree.specs.Walk.{is_among}
use Rattle.bz_slotted.specs.Page.{page}
use Rattle.bz_slotted.specs.Readers.{found_of, level_of}
use Rattle.bz_slotted.specs.Rules.{node_fault}
use Rattle.bz_word.specs.Headers.{header}
use Rattle.bz_content.specs.Content.{image_of, view_in, IsWellFormed}
use Rattle.bz_content.specs.Image.{node, root}
use Rattle.bz_content.specs.Laws.{WellFormedImagesHaveNoFault, PlainWordsStandForThemselves, RootSplitsKeepTheContent}
use Rattle.bz_content.specs.Resolving.{resolve}
use Rattle.bz_content.specs.Restructures.{children_of, SaysInHalves, SplitsRoot, StandsWhole}
use Rattle.bz_content.specs.Swaps.{TurnsLink}
use Rattle.bz_task.specs.Good.{IsGood}
use Rattle.bz_task.specs.Instant.{Instant, words, durable, page_at, form_at}
use Rattle.bz_task.specs.Laws.{SamePlace, HasRoot, IsLeafInTree, RootsAreReached, LeavesAreInTrees}
use Rattle.bz_task.specs.Scene.{Scene, IsScene, here}
use Rattle.bz_task.specs.Swaps.{Stand, SwapsTo}
use Rattle.bz_task.specs.declared.path.Link.{Link}
use Rattle.bz_renew.specs.FrozenLeaves.{StandsStill, FrozenLeavesStandStill}
use Rattle.bz_renew.specs.LinkSwaps.{IsFresh, IsLinkSwap, LinkSwapsAreGood}
use Rattle.bz_renew.specs.Renewals.{renewal, link_entry, guard_entry}
use Rattle.bz_renew.specs.Turning.{TurnsAt, RootLinksTurn}
use Rattle.bz_renew.proofs.FreshSlots.{outside-tree, raw-is, durable-is}
use Rattle.bz_renew.proofs.TwoEntries.{both-stand}
use Rattle.bz_renew.proofs.Words.{untouched, node-same, among-one}
use Rattle.bz_split.specs.RootSplits.{AreFreshThree, IsRootSplit, RootLeafSplitsAreGood}

-- the laws on which the swap rests
pub record Laws : Type 0 where
  pub formed : WellFormedImagesHaveNoFault
  pub plain : PlainWordsStandForThemselves
  pub keep : RootSplitsKeepTheContent
  pub turn : RootLinksTurn
  pub still : FrozenLeavesStandStill
  pub links : LinkSwapsAreGood
  pub roots : RootsAreReached
  pub leaves : LeavesAreInTrees

-- one of three slots
pub among-three : (q l r : ℕ) (s : Scene) → AreFreshThree q l r s → (k : ℕ) → is_among (q ∷ l ∷ r ∷ []) k ≡ true → IsFresh s k
among-three q l r s f k e = go (q == k) refl (l == k) refl (r == k) refl e
  where
    go : (a : Bool) → (q == k) ≡ a → (b : Bool) → (l == k) ≡ b → (d : Bool) → (r == k) ≡ d → (a || (b || (d || false))) ≡ true → IsFresh s k
    go true p b o d u h = let same : q ≡ k = grind (arith, nat_tests) in subst (IsFresh s) same f.root
    go false p true o d u h = let same : l ≡ k = grind (arith, nat_tests) in subst (IsFresh s) same f.left
    go false p false o true u h = let same : r ≡ k = grind (arith, nat_tests) in subst (IsFresh s) same f.right
    go false p false o false u h = absurd (cc)

level-is : (n m : ℕ → ℕ) → n HEADER_AT ≡ m HEADER_AT → level_of n ≡ (page m).level
unfolding level_of
level-is n m e = ap (λ w. (header w).level) e

module _ (b : Laws) (s : Scene) (y : Instant) (link : Link) (q l r m : ℕ) (sep : List ℕ) (good : IsScene s) (f : IsRootSplit link q l r m sep s) (stand : Stand (renewal link q) (here s)) (swaps : SwapsTo s.past.config (renewal link q) (here s) y) where
  g : IsGood s.past.config (here s)
  g = good.history.good s.past.now good.begun (omega arith)

  t : TurnsAt link q (link.slot ∷ []) s y s.past.config.nodes 0 []
  t = b.turn s y link q (link.slot ∷ []) good f.under f.halves.fresh.root.slot stand swaps

  leaf : StandsStill link.slot m s
  leaf = b.still s link.slot m good f.leaf

  where-it-was : SamePlace s.past.config (s.past.at m) (here s) link.slot
  where-it-was = leaf.place t.inside

  -- the leaf is the root
  root-is : root (resolve (here s).image) ≡ link.slot
  root-is =
      let led : (here s).value ROOT_AT ≡ link.slot + 1 = ap (here s).value (sym f.under.pointer) ∙ (both-stand (link_entry link q) (guard_entry link) (here s) stand).0 in
      omega (arith, g.root, led)

  in-tree : IsLeafInTree s.past.config (here s) link.slot
  in-tree = b.leaves s.past.config (here s) link.slot g f.leaf.slot t.inside (leaf.leaf t.inside)

  flat : level_of (durable s.past.config (here s) link.slot) ≡ 0
  flat = level-is (durable s.past.config (here s) link.slot) (words s.past.config (here s) link.slot) (g.shown link.slot HEADER_AT in-tree.reached (inl (omega arith))) ∙ in-tree.flat

  -- and holds every key
  all-keys : HasRoot s.past.config (here s) link.slot
  all-keys =
      let at : (here s).value ROOT_AT - 1 ≡ link.slot = omega (arith, root-is, g.root) in
      subst (HasRoot s.past.config (here s)) at (b.roots s.past.config (here s) g)

  no-low : (form_at s.past.config (s.past.at m)).low link.slot ≡ None
  no-low = sym where-it-was.low ∙ all-keys.low

  no-high : (form_at s.past.config (s.past.at m)).high link.slot ≡ None
  no-high = sym where-it-was.high ∙ all-keys.high

  -- the words of a fresh slot afterwards are those that were stored
  module _ (k : ℕ) (fresh : IsFresh s k) where
    after : durable s.past.config y k ≡ words s.past.config (here s) k
    after = durable-is b.plain link q (link.slot ∷ []) s y s.past.config.nodes 0 [] k good fresh t swaps

    stands-after : (level : ℕ) (low high : Option (List ℕ)) → node_fault s.past.config.nodes (words s.past.config (here s) k) (words s.past.config (here s) k) level low high ≡ None → StandsWhole s.past.config (image_of y.image) k level low high
    stands-after level low high e = (λ z. node_fault s.past.config.nodes (raw-is b.plain link q (link.slot ∷ []) s y s.past.config.nodes 0 [] k good fresh t swaps z) (after z) level low high) ∙ e

  says : SaysInHalves s.past.config (image_of (here s).image) (image_of y.image) link.slot l r sep
  says = record {
    before = λ key e. ap (λ n. found_of n key) (after l f.halves.fresh.left) ∙ (f.halves.before key e ∙ sym (leaf.says t.inside key));
    from = λ key e. ap (λ n. found_of n key) (after r f.halves.fresh.right) ∙ (f.halves.from key e ∙ sym (leaf.says t.inside key));
  }

  splits : SplitsRoot s.past.config (image_of (here s).image) (image_of y.image) q l r 0 sep
  splits = record {
    fresh_q = outside-tree s q good f.halves.fresh.root;
    fresh_l = outside-tree s l good f.halves.fresh.left;
    fresh_r = outside-tree s r good f.halves.fresh.right;
    three = f.halves.fresh.three;
    link = subst (λ z. TurnsLink s.past.config (image_of (here s).image) (image_of y.image) s.past.config.nodes 0 q (z ∷ [])) (sym root-is) t.turns;
    two = subst (λ n. AreTwo (children_of n) l r sep) (sym (after q f.halves.fresh.root)) f.halves.two;
    halves = λ deep. absurd (omega (arith, deep, level));
    says = λ e. subst (λ z. SaysInHalves s.past.config (image_of (here s).image) (image_of y.image) z l r sep) (sym root-is) says;
    whole_q = subst (λ z. StandsWhole s.past.config (image_of y.image) q z None None) (omega (arith, level)) (stands-after q f.halves.fresh.root 1 None None f.halves.root_whole);
    whole_l = subst (λ z. StandsWhole s.past.config (image_of y.image) l z None (Some sep)) (sym level)
        (subst (λ z. StandsWhole s.past.config (image_of y.image) l 0 z (Some sep)) no-low (stands-after l f.halves.fresh.left 0 _ (Some sep) f.halves.left_whole));
    whole_r = subst (λ z. StandsWhole s.past.config (image_of y.image) r z (Some sep) None) (sym level)
        (subst (λ z. StandsWhole s.past.config (image_of y.image) r 0 (Some sep) z) no-high (stands-after r f.halves.fresh.right 0 (Some sep) _ f.halves.right_whole));
  }
    where
      level : level_of (node s.past.config (resolve (here s).image) (root (resolve (here s).image))) ≡ 0
      level = subst (λ z. level_of (node s.past.config (resolve (here s).image) z) ≡ 0) (sym root-is) flat

  regrows : Regrows (view_in s.past.config (here s).image) (view_in s.past.config y.image) (link.slot ∷ []) (q ∷ l ∷ r ∷ [])
  regrows =
      let w : IsWellFormed s.past.config (here s).image = (b.formed s.past.config (here s).image).0 g.form in
      subst (λ z. Regrows (view_in s.past.config (here s).image) (view_in s.past.config y.image) (z ∷ []) (q ∷ l ∷ r ∷ [])) root-is
      (b.keep s.past.config (image_of (here s).image) (image_of y.image) q l r 0 sep w.tree splits)

  -- the leaf is frozen still
  leaf-frozen : (page_at s.past.config y link.slot).frozen ≡ true
  leaf-frozen =
      let same : words s.past.config y link.slot ≡ words s.past.config (here s) link.slot = λ z k. node-same s.past.config (here s).value y.value link.slot
      (λ j n. swaps.value (node_address s.past.config link.slot + j) ∙ untouched (renewal link q) (here s).value (node_address s.past.config link.slot + j) (t.others link.slot j t.stays n)) k z in
      ap (λ n. (page n).frozen) same ∙ leaf.frozen

  link-swap : IsLinkSwap (renewal link q) s [] (link.slot ∷ []) (q ∷ l ∷ r ∷ []) y
  link-swap = record {
    swaps = swaps;
    targets = t.targets;
    others = t.others;
    changes = t.changes;
    root = t.root leaf-frozen;
    fresh = among-three q l r s f.halves.fresh;
    frozen = λ k e. subst (λ z. (page_at s.past.config y z).frozen ≡ true) (among-one link.slot k e) leaf-frozen;
    regrows = regrows;
  }

pub root-splits : Laws → RootLeafSplitsAreGood
root-splits b change s y link q l r m sep good f stand swaps =
    b.links change (renewal link q) s [] (link.slot ∷ []) (q ∷ l ∷ r ∷ []) y good (link-swap b s y link q l r m sep good f stand swaps)
