-- The words that were read of an inner node that was not frozen are those of one moment, where its status is found again.
use Rattle.std.proofs.Common.{◌≡◌, ℕ, ◌+◌, ◌^◌, ◌<◌, ◌≤◌, true, false, List, slice_index, arith, refl, sym, ap, subst, ◌∙◌, Option}
use Rattle.std.specs.Prelude.{None}
use Rattle.bz_layout.specs.Addresses.{node_address}
use Rattle.bz_layout.specs.declared.config.Config.{Config}
use Rattle.bz_layout.specs.declared.limits.TheConstants.{MAX_NODES}
use Rattle.bz_layout.specs.declared.sizes.TheConstants.{NODE_WORDS, STATUS_AT}
use Rattle.bz_tree.proofs.Proved.{trees_have_forms}
use Rattle.bz_slotted.specs.ReadingLaws.{node_of}
use Rattle.bz_slotted.specs.Rules.{node_fault}
use Rattle.bz_slotted.proofs.Proved.{inner_rules_are_facts}
use Rattle.bz_word.specs.Statuses.{status}
use Rattle.bz_content.specs.Image.{node}
use Rattle.bz_content.proofs.Proved.{well_formed_images_have_no_fault}
use Rattle.bz_parted.proofs.Proved.{read_nodes_have_children}
use Rattle.bz_task.specs.Good.{IsGood}
use Rattle.bz_task.specs.Instant.{Instant, words, page_at, form_at}
use Rattle.bz_task.specs.Scene.{Past, Scene, IsScene, here}
use Rattle.bz_task.specs.declared.path.Link.{Link}
use Rattle.bz_task.proofs.Proved.{headers_say_the_level, nodes_stay}
use Rattle.bz_renew.specs.Due.{IsStatusOf}
use Rattle.bz_renew.proofs.Words.{node-at}
use Rattle.bz_below.proofs.OpenNodes.{Laws, IsOpen, inside, alike, high_up, no-fault}
use Rattle.bz_below.proofs.ReadWords.{words-then}
use Rattle.bz_below.specs.Parents.{WereRead}
use Rattle.bz_inner.specs.InnerMerges.{WasOpen}
use Rattle.bz_inner.specs.LowerFacts.{IsLinkIn}

pub basis : Laws
basis = record { formed = well_formed_images_have_no_fault; forms = trees_have_forms; inner = inner_rules_are_facts; nodes = nodes_stay; headers = headers_say_the_level }

-- a reached inner node with this status, which is no frozen node's
pub record WasMet (k m st : ℕ) (p : Past) : Type 0 where
  pub since : p.since ≤ m
  pub now : m ≤ p.now
  pub reached : (p.at m).reached k ≡ true
  pub inner : 0 < (page_at p.config (p.at m) k).level
  pub status : words p.config (p.at m) k STATUS_AT ≡ st
  pub thawed : IsStatusOf false st

module _ (s : Scene) (k m st : ℕ) (read : List ℕ) (good : IsScene s) (w : WasMet k m st s.past) (now : words s.past.config (here s) k STATUS_AT ≡ st) (were : WereRead k m st NODE_WORDS read s.past) where
  abbrev c : Config
  c = s.past.config

  abbrev was : Instant
  was = s.past.at m

  was-good : IsGood c was
  was-good = good.history.good m w.since w.now

  opened : IsOpen c was k
  opened = record { reached = w.reached; thawed = ap (λ z. (status z).frozen) w.status ∙ w.thawed.is; inner = w.inner }

  abbrev l : ℕ
  l = (form_at c was).level k

  abbrev lo : Option (List ℕ)
  lo = (form_at c was).low k

  abbrev hi : Option (List ℕ)
  hi = (form_at c was).high k

  level-high : 0 < l
  level-high = high_up basis c was k was-good opened

  words-were : words c was k ≡ node_of read
  words-were = words-then nodes_stay inner_rules_are_facts s k m st l lo hi read good w.since w.now w.reached w.inner w.status now level-high (no-fault basis c was k was-good opened) were

  whole : node_fault c.nodes (node c was.image k) (node_of read) l lo hi ≡ None
  whole = subst (λ n. node_fault c.nodes (node c was.image k) n l lo hi ≡ None) (alike basis c was k was-good opened ∙ words-were) (no-fault basis c was k was-good opened)

  few : c.nodes ≤ MAX_NODES
  few = good.config.nodes_in_range.at_most

  status-is : slice_index read STATUS_AT ≡ st
  status-is = were.first

  pub was-open : WasOpen k m read s.past
  was-open = record {
    since = w.since;
    now = w.now;
    node = record {
      level = l;
      low = lo;
      high = hi;
      node = record {
        raw = node c was.image k;
        few = few;
        size = were.size;
        inner = level-high;
        lowest = ((inner_rules_are_facts c.nodes (node c was.image k) (node_of read) l lo hi level-high).0 whole).level.lowest;
        none = whole;
        node = read_nodes_have_children c.nodes (node c was.image k) read l lo hi few level-high were.size whole;
      };
      reached = w.reached;
      inside = inside basis c was k was-good opened;
      were = words-were;
      level_is = refl;
      low_is = refl;
      high_is = refl;
    };
    plain = subst (λ z. z < 2 ^ 61) (sym status-is) w.thawed.plain;
    thawed = ap (λ z. (status z).frozen) status-is ∙ w.thawed.is;
  }

-- the node in which a link stands, where the link's guard is no frozen node's
module _ (s : Scene) (k m : ℕ) (link : Link) (o : IsLinkIn k link s.past) (is : o.guard.guarded ≡ m) (thawed : IsStatusOf false link.status) where
  pub guard-is : link.guard ≡ node_address s.past.config k + STATUS_AT
  guard-is = o.under.guard ∙ ap (λ z. node_address s.past.config z + STATUS_AT) o.parent

  met-then : WasMet k o.guard.guarded link.status s.past
  met-then = record {
    since = o.guard.since;
    now = omega (arith, o.guard.order, o.guard.now);
    reached = subst (λ z. (s.past.at o.guard.guarded).reached z ≡ true) o.parent o.under.reached;
    inner = subst (λ z. 0 < (page_at s.past.config (s.past.at o.guard.guarded) z).level) o.parent o.under.child.inner;
    status = node-at s.past.config (s.past.at o.guard.guarded).value k STATUS_AT (omega arith) ∙ (ap (s.past.at o.guard.guarded).value (sym guard-is) ∙ o.guard.status);
    thawed = thawed;
  }

  pub was-met : WasMet k m link.status s.past
  was-met = subst (λ z. WasMet k z link.status s.past) is met-then

  pub found-now : (here s).value link.guard ≡ link.status → words s.past.config (here s) k STATUS_AT ≡ link.status
  found-now e = node-at s.past.config (here s).value k STATUS_AT (omega arith) ∙ (ap (here s).value (sym guard-is) ∙ e)
