-- The words that were read of an inner node are those of one moment.
use Rattle.std.proofs.Common.{◌≡◌, ℕ, ◌+◌, ◌<◌, ◌≤◌, true, List, arith, refl, ap, subst, sym, ◌∙◌, Option}
use Rattle.std.specs.Prelude.{None}
use Rattle.bz_layout.specs.Addresses.{node_address}
use Rattle.bz_layout.specs.declared.config.Config.{Config}
use Rattle.bz_layout.specs.declared.limits.TheConstants.{MAX_NODES}
use Rattle.bz_layout.specs.declared.sizes.TheConstants.{NODE_WORDS, STATUS_AT}
use Rattle.bz_slotted.specs.ReadingLaws.{node_of}
use Rattle.bz_slotted.specs.Rules.{node_fault}
use Rattle.bz_word.specs.Statuses.{status}
use Rattle.bz_content.specs.Image.{node}
use Rattle.bz_parted.specs.Laws.{ReadNodesHaveChildren}
use Rattle.bz_task.specs.Good.{IsGood}
use Rattle.bz_task.specs.Instant.{Instant, words, page_at, form_at}
use Rattle.bz_task.specs.Scene.{Scene, IsScene, here}
use Rattle.bz_task.specs.declared.path.Link.{Link}
use Rattle.bz_renew.proofs.Words.{node-at}
use Rattle.bz_below.specs.Parents.{WereRead}
use Rattle.bz_below.proofs.ReadWords.{words-then}
use Rattle.bz_branch.specs.Nodes.{IsOpenLink, WasInner, ReadNodesWere}
use Rattle.bz_below.proofs.OpenNodes.{Laws as Basis, IsOpen, inside, alike, high_up, no-fault}

-- the laws on which it rests
pub record Laws : Type 0 where
  pub basis : Basis
  pub node : ReadNodesHaveChildren

module _ (b : Laws) (s : Scene) (k : ℕ) (link : Link) (read : List ℕ) (good : IsScene s) (o : IsOpenLink k link s.past) (now : (here s).value link.guard ≡ link.status) (were : WereRead k o.guard.guarded link.status NODE_WORDS read s.past) where
  abbrev g : ℕ
  g = o.guard.guarded

  abbrev c : Config
  c = s.past.config

  abbrev was : Instant
  was = s.past.at o.guard.guarded

  was-good : IsGood c was
  was-good = good.history.good g o.guard.since (omega (arith, o.guard.order, o.guard.now))

  reached : was.reached k ≡ true
  reached = subst (λ z. was.reached z ≡ true) o.parent o.under.reached

  inner : 0 < (page_at c was k).level
  inner = subst (λ z. 0 < (page_at c was z).level) o.parent o.under.child.inner

  guard-is : link.guard ≡ node_address c k + STATUS_AT
  guard-is = o.under.guard ∙ ap (λ z. node_address c z + STATUS_AT) o.parent

  status-was : words c was k STATUS_AT ≡ link.status
  status-was = node-at c was.value k STATUS_AT (omega arith) ∙ (ap was.value (sym guard-is) ∙ o.guard.status)

  status-now : words c (here s) k STATUS_AT ≡ link.status
  status-now = node-at c (here s).value k STATUS_AT (omega arith) ∙ (ap (here s).value (sym guard-is) ∙ now)

  opened : IsOpen c was k
  opened = record { reached = reached; thawed = ap (λ z. (status z).frozen) status-was ∙ o.thawed; inner = inner }

  abbrev l : ℕ
  l = (form_at c was).level k

  abbrev lo : Option (List ℕ)
  lo = (form_at c was).low k

  abbrev hi : Option (List ℕ)
  hi = (form_at c was).high k

  level-high : 0 < l
  level-high = high_up b.basis c was k was-good opened

  words-were : words c was k ≡ node_of read
  words-were = words-then b.basis.nodes b.basis.inner s k g link.status l lo hi read good o.guard.since (omega (arith, o.guard.order, o.guard.now)) reached inner status-was status-now level-high (no-fault b.basis c was k was-good opened) were

  whole : node_fault c.nodes (node c was.image k) (node_of read) l lo hi ≡ None
  whole = subst (λ n. node_fault c.nodes (node c was.image k) n l lo hi ≡ None) (alike b.basis c was k was-good opened ∙ words-were) (no-fault b.basis c was k was-good opened)

  few : c.nodes ≤ MAX_NODES
  few = good.config.nodes_in_range.at_most

  was-inner : WasInner k g read s.past
  was-inner = record {
    level = l;
    low = lo;
    high = hi;
    node = record {
      raw = node c was.image k;
      few = few;
      size = were.size;
      inner = level-high;
      lowest = ((b.basis.inner c.nodes (node c was.image k) (node_of read) l lo hi level-high).0 whole).level.lowest;
      none = whole;
      node = b.node c.nodes (node c was.image k) read l lo hi few level-high were.size whole;
    };
    reached = reached;
    inside = inside b.basis c was k was-good opened;
    were = words-were;
    level_is = refl;
    low_is = refl;
    high_is = refl;
  }

pub nodes-were : Laws → ReadNodesWere
nodes-were b s k link read good o now were = was-inner b s k link read good o now were
