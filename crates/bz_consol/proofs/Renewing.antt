-- The swap of a consolidation is lawful for everybody and changes no content.
use Rattle.std.proofs.Common.{◌≡◌, ℕ, ◌+◌, true, false, List, [], ◌∷◌, arith, sym, ap, subst, ◌∙◌, inl, inr}
use Rattle.std.specs.Prelude.{None}
use Rattle.bz_tree.specs.Outcomes.{Regrows}
use Rattle.bz_layout.specs.Addresses.{node_address}
use Rattle.bz_slotted.specs.Page.{page}
use Rattle.bz_slotted.specs.Readers.{found_of}
use Rattle.bz_slotted.specs.Rules.{node_fault}
use Rattle.bz_content.specs.Content.{image_of, view_in, IsWellFormed}
use Rattle.bz_content.specs.Image.{node}
use Rattle.bz_content.specs.Laws.{WellFormedImagesHaveNoFault, PlainWordsStandForThemselves, ConsolidationsKeepTheContent}
use Rattle.bz_content.specs.Swaps.{TurnsLink, Consolidates}
use Rattle.bz_task.specs.Good.{IsGood}
use Rattle.bz_task.specs.Instant.{Instant, words, durable, page_at, form_at}
use Rattle.bz_task.specs.Laws.{SamePlace}
use Rattle.bz_task.specs.Scene.{Scene, IsScene, here}
use Rattle.bz_task.specs.Swaps.{SwapsTo, IsGoodSwap}
use Rattle.bz_task.specs.declared.path.Link.{Link}
use Rattle.bz_renew.specs.FrozenLeaves.{StandsStill, FrozenLeavesStandStill}
use Rattle.bz_renew.specs.LinkSwaps.{IsFresh, IsLinkSwap, LinkSwapsAreGood}
use Rattle.bz_renew.specs.Renewals.{renewal}
use Rattle.bz_renew.specs.Turning.{TurnsAt, RootLinksTurn, ChildLinksTurn}
use Rattle.bz_renew.proofs.FreshSlots.{outside-tree, raw-is, durable-is}
use Rattle.bz_renew.proofs.Words.{untouched, node-same, among-one}
use Rattle.bz_consol.specs.Copies.{IsRenewable, RenewalsAreGood}

-- the laws on which the swap of a consolidation rests
pub record Laws : Type 0 where
  pub formed : WellFormedImagesHaveNoFault
  pub plain : PlainWordsStandForThemselves
  pub keep : ConsolidationsKeepTheContent
  pub root : RootLinksTurn
  pub child : ChildLinksTurn
  pub still : FrozenLeavesStandStill
  pub links : LinkSwapsAreGood

module _ (b : Laws) (s : Scene) (y : Instant) (link : Link) (new m p i : ℕ) (changed : List ℕ) (good : IsScene s) (r : IsRenewable link new m s) (t : TurnsAt link new (link.slot ∷ []) s y p i changed) (swaps : SwapsTo s.past.config (renewal link new) (here s) y) where
  g : IsGood s.past.config (here s)
  g = good.history.good s.past.now good.begun (omega arith)

  leaf : StandsStill link.slot m s
  leaf = b.still s link.slot m good r.leaf

  -- the copy stands in the leaf's place
  where-it-was : SamePlace s.past.config (s.past.at m) (here s) link.slot
  where-it-was = leaf.place t.inside

  copy-stands : node_fault s.past.config.nodes (node s.past.config y.image new) (durable s.past.config y new) 0 ((form_at s.past.config (here s)).low link.slot) ((form_at s.past.config (here s)).high link.slot) ≡ None
  copy-stands =
      (λ z. node_fault s.past.config.nodes (raw-is b.plain link new (link.slot ∷ []) s y p i changed new good r.copy.fresh t swaps z) (durable-is b.plain link new (link.slot ∷ []) s y p i changed new good r.copy.fresh t swaps z) 0 (where-it-was.low z) (where-it-was.high z))
      ∙ r.copy.whole

  -- and says what it said
  copy-says : (key : List ℕ) → found_of (durable s.past.config y new) key ≡ found_of (durable s.past.config (here s) link.slot) key
  copy-says key =
      ap (λ n. found_of n key) (durable-is b.plain link new (link.slot ∷ []) s y p i changed new good r.copy.fresh t swaps)
      ∙ (r.copy.says key ∙ sym (leaf.says t.inside key))

  turns-link : TurnsLink s.past.config (image_of (here s).image) (image_of y.image) ((form_at s.past.config (here s)).up link.slot) ((form_at s.past.config (here s)).index link.slot) new (link.slot ∷ [])
  turns-link =
      subst (λ z. TurnsLink s.past.config (image_of (here s).image) (image_of y.image) z ((form_at s.past.config (here s)).index link.slot) new (link.slot ∷ [])) (sym t.up)
      (subst (λ z. TurnsLink s.past.config (image_of (here s).image) (image_of y.image) p z new (link.slot ∷ [])) (sym t.index) t.turns)

  consolidates : Consolidates s.past.config (image_of (here s).image) (image_of y.image) link.slot new
  consolidates = record {
    inside = t.inside;
    leaf = leaf.leaf t.inside;
    fresh = outside-tree s new good r.copy.fresh;
    whole = copy-stands;
    same = copy-says;
    link = turns-link;
  }

  regrows : Regrows (view_in s.past.config (here s).image) (view_in s.past.config y.image) (link.slot ∷ []) (new ∷ [])
  regrows =
      let w : IsWellFormed s.past.config (here s).image = (b.formed s.past.config (here s).image).0 g.form in
      b.keep s.past.config (image_of (here s).image) (image_of y.image) link.slot new w.tree consolidates

  -- the leaf is frozen still
  leaf-frozen : (page_at s.past.config y link.slot).frozen ≡ true
  leaf-frozen =
      let same : words s.past.config y link.slot ≡ words s.past.config (here s) link.slot = λ z k. node-same s.past.config (here s).value y.value link.slot
      (λ j l. swaps.value (node_address s.past.config link.slot + j) ∙ untouched (renewal link new) (here s).value (node_address s.past.config link.slot + j) (t.others link.slot j t.stays l)) k z in
      ap (λ n. (page n).frozen) same ∙ leaf.frozen

  pub link-swap : IsLinkSwap (renewal link new) s changed (link.slot ∷ []) (new ∷ []) y
  link-swap = record {
    swaps = swaps;
    targets = t.targets;
    others = t.others;
    changes = t.changes;
    root = t.root leaf-frozen;
    fresh = λ k e. subst (IsFresh s) (among-one new k e) r.copy.fresh;
    frozen = λ k e. subst (λ z. (page_at s.past.config y z).frozen ≡ true) (among-one link.slot k e) leaf-frozen;
    regrows = regrows;
  }

pub renewals : Laws → RenewalsAreGood
renewals b change s y link new m good r stand swaps = elim r.guard.under [
  | inl root ↦ good-swap s.past.config.nodes 0 [] (b.root s y link new (link.slot ∷ []) good root r.copy.fresh.slot stand swaps)
  | inr node ↦ good-swap node.parent node.child.child (node.parent ∷ []) (b.child s y link new (link.slot ∷ []) good r.guard r.thawed node r.copy.fresh.slot stand swaps)
]
  where
    good-swap : (p i : ℕ) (changed : List ℕ) → TurnsAt link new (link.slot ∷ []) s y p i changed → IsGoodSwap false change (renewal link new) s y
    good-swap p i changed t = b.links change (renewal link new) s changed (link.slot ∷ []) (new ∷ []) y good (link-swap b s y link new m p i changed good r t swaps)
